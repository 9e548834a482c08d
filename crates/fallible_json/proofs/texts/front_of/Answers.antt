-- A token or a fault that a byte could change, and one that none could.
use Rattle.std.proofs.Common.{arith, rules, subst, sym, inl, inr, ◌∙◌, ◌-◌}
use Rattle.fallible_json.specs.Taking.{IsFront}
use Rattle.fallible_json.specs.declared.lexer.LexFault.TheVariants.{Unfinished}
use Rattle.fallible_json.specs.declared.texts.Front.TheVariants.{Faulty}
use Rattle.fallible_json.proofs.Lemmas.Front.{run_broken, run_cut, run_token, run_word}
use Rattle.fallible_json.proofs.texts.front_of.Goals as goal

pub returns-then-bytes-end : goal.returns-then-bytes-end
returns-then-bytes-end c = λ place h. run_word h c.in-Some.token (search rules) (search rules) (search rules)

pub returns-then-bytes-end-2 : goal.returns-then-bytes-end-2
returns-then-bytes-end-2 c = λ place h. run_cut h (search rules) (search rules)

pub returns-else-bytes-end-2 : goal.returns-else-bytes-end-2
returns-else-bytes-end-2 c = λ place h. subst (λ w. IsFront c.args.bytes.now place (Faulty (Unfinished (c.args.end - 1) w))) (sym c.wanted_in.ensures) (run_broken h (search rules) (omega (arith, c.if-bytes-end-2.false)))

pub returns-else-is_word : goal.returns-else-is_word
returns-else-is_word c = λ place h. run_token h c.in-Some.token (search rules) (elim c.else-is_word.either [ inl w ↦ inl w.1 | inr w ↦ inr (sym c.is_word.ensures ∙ w) ])
