-- A filter before the doubling keeps as many as one after it.
use Rattle.std.proofs.Common.{◌≡◌, ◌∙◌, ◌*◌, sym, ap, rules, Ok}
use Rattle.std.specs.Prelude.{nat_lt}
use Rattle.fallible_iterator.specs.Lists.{counted, filtered, results}
use Rattle.fallible_iterator.proofs.Lemmas.Words.{counted_mapped, filtered_mapped}
use Rattle.example_chains.proofs.equal.doubled_and_above_100.Goals as goal

pub returns : goal.returns
returns c = let l = results c.args.readings.items in let value : c.count.result ≡ counted (filtered (λ x. Ok (nat_lt 100 (x * 2))) l) = search rules in value ∙ sym (ap counted (filtered_mapped (λ x. x * 2) (λ x. Ok (nat_lt 100 x)) l) ∙ counted_mapped (λ x. x * 2) (filtered (λ x. Ok (nat_lt 100 (x * 2))) l))
