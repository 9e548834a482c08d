-- The fold after `map` is the fold that doubles.
use Rattle.std.proofs.Common.{◌≡◌, ◌∙◌, ◌+◌, ◌*◌, ◌%◌, ◌^◌, sym, rules, Ok}
use Rattle.fallible_iterator.specs.Laws.Showing.{shown_before}
use Rattle.fallible_iterator.specs.Lists.{folded}
use Rattle.fallible_iterator.proofs.Lemmas.Words.{folded_mapped}
use Rattle.example_by_hand.specs.Down.{counts_down}
use Rattle.example_by_hand.proofs.own.sum_down_doubled.Goals as goal

pub returns-in_err-number : goal.returns-in_err-number
unfolding folded
returns-in_err-number c = let value : c.from_residual.result ≡ folded (λ e. e) (λ s x. Ok ((s + x * 2) % 2 ^ 64)) 0 (counts_down c.args.numbers) = search (rules, shown_before) in value ∙ sym (folded_mapped (λ x. x * 2) (λ e. e) (λ s x. Ok ((s + x) % 2 ^ 64)) 0 (counts_down c.args.numbers))

pub returns : goal.returns
unfolding folded
returns c = let value : Ok c.loop-number.sum ≡ folded (λ e. e) (λ s x. Ok ((s + x * 2) % 2 ^ 64)) 0 (counts_down c.args.numbers) = search (rules, shown_before) in value ∙ sym (folded_mapped (λ x. x * 2) (λ e. e) (λ s x. Ok ((s + x) % 2 ^ 64)) 0 (counts_down c.args.numbers))
