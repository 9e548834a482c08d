-- `checked_contract` is lawful.
use Rattle.std.specs.Prelude.{Option, Some, None, Ok, Err}
use Rattle.fallible_iterator.specs.Contract.{Contract, KeptByDraw, Lawful, OnAnswer}
use Rattle.fallible_iterator.specs.Laws.Own.{lawful_drawing_from}
use Rattle.fallible_iterator.specs.Laws.Sound.{own_hold}
use Rattle.fallible_iterator.specs.Own.{drawing_from}
use Rattle.fallible_iterator.specs.Traces.{Answered}
use Rattle.fallible_json.specs.Checked.{CheckFault, checked_contract}
use Rattle.fallible_json.specs.Grammar.{State}
use Rattle.fallible_json.specs.Lexing.{Placed}
use Rattle.fallible_json.specs.declared.checked.CheckedToken.{CheckedToken}
use Rattle.fallible_json.specs.declared.lexer.LexFault.{LexFault}

module _ {S P E : Type 0} (m : Contract P Placed E) (view : S → P) (state : S → Option State) where
  -- what is said of the bounds alone
  abbrev Drawing : Contract S CheckedToken (CheckFault (LexFault E))
  Drawing = drawing_from view m

  abbrev Checking : Contract S CheckedToken (CheckFault (LexFault E))
  Checking = checked_contract view state m

  on_answer : (s t : S) (r : Answered CheckedToken (CheckFault (LexFault E))) → OnAnswer Drawing s r t → OnAnswer Checking s r t
  on_answer s t (Ok (Some y)) h = h
  on_answer s t (Ok None) h = h
  on_answer s t (Err e) h = h

  kept : (s t : S) (r : Answered CheckedToken (CheckFault (LexFault E))) → KeptByDraw Drawing s r t → KeptByDraw Checking s r t
  kept s t r h = record {
    can_next = h.can_next;
    is_finite = h.is_finite;
    answer = on_answer s t r h.answer;
    may_give = λ y g. tt;
    may_fail = λ f g. tt;
    lenders = h.lenders;
  }

pub lawful_checked : {S P E : Type 0} {m : Contract P Placed E} (view : S → P) (state : S → Option State) → Lawful m → Lawful (checked_contract view state m)
lawful_checked {E = E} {m = m} view state l =
    let k = lawful_drawing_from {B = CheckedToken} {F = CheckFault (LexFault E)} view l in
    record { kept_by_draw = λ s r t c h. kept m view state s t r (k.kept_by_draw s r t c h.0); bounded = λ s. l.bounded (view s); traced = λ _ _ _. ((λ h. h), (λ h. h)); hold = own_hold }
