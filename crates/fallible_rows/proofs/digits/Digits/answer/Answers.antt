use Rattle.std.proofs.Common.{◌≡◌, ℕ, ◌≤◌, List, [], None, Err, subst, arith, ap, ◌∙◌, sym, append-nil}
use Rattle.fallible_iterator.specs.Traces.{Answered}
use Rattle.fallible_rows.specs.Rows.{row_number}
use Rattle.fallible_rows.specs.RowTraces.{answer_of_number, told_place, row_answer}
use Rattle.fallible_rows.specs.Digits.{TellsOf}
use Rattle.fallible_rows.specs.declared.fault.RowFault.{RowFault}
use Rattle.fallible_rows.specs.declared.fault.RowFault.TheVariants.{Row}
use Rattle.fallible_rows.specs.declared.digits.Digits.{Digits}
use Rattle.fallible_rows.proofs.digits.Digits.answer.Goals as goal

told_place-small : (place : ℕ) → place ≤ 4294967295 → place ≡ told_place place
told_place-small place small = omega arith

refused : (place : ℕ) (bytes : List ℕ) → place ≤ 4294967295 → row_number bytes ≡ None → Err (Row place) ≡ row_answer place bytes
refused place bytes small none = ap {B = Answered ℕ RowFault} (λ p. Err (Row p)) (told_place-small place small) ∙ ap (answer_of_number place) (sym none)

pub returns-in-Number : goal.returns-in-Number
returns-in-Number c = λ bytes tells. ap (answer_of_number c.args.place) (sym (subst (λ (d : Digits). TellsOf d bytes) c.in-Number.is tells).0)

pub returns-in-Empty : goal.returns-in-Empty
returns-in-Empty c = λ bytes tells. refused c.args.place bytes (omega arith) (ap row_number (subst (λ (d : Digits). TellsOf d bytes) c.in-Empty.is tells))

pub returns-in-Refused : goal.returns-in-Refused
returns-in-Refused c = λ bytes tells. refused c.args.place bytes (omega arith) (ap row_number (sym (append-nil bytes)) ∙ (subst (λ (d : Digits). TellsOf d bytes) c.in-Refused.is tells).1 [])
