-- The laws of the second end.
use Rattle.std.specs.Prelude.{ℕ, Option}
use Rattle.std.proofs.Common.{inl, inr}
use Rattle.fallible_contract.specs.Contract.{Inverse, Replaceable, Contract, Lawful, seen_as, parts_as, around}
use Rattle.fallible_contract.specs.Ends.{Ends, from_front, from_back, ends_of, ends_seen_as, ends_parts_as, ends_around, LawfulEnds}
use Rattle.fallible_contract.specs.Passing.{passing_contract, leaving_out_contract}
use Rattle.fallible_contract.specs.Sound.{SoundWhere, HintsHold}
use Rattle.fallible_contract.specs.Laws.Contract.{lawful_seen, lawful_parts, lawful_around, lawful_with_sound}
use Rattle.fallible_contract.specs.Laws.Closures.{reaches_reflexive, may_answer_where_reached_may_answer}
use Rattle.fallible_contract.specs.Laws.Passing.{StaysCallable, lawful_passing, lawful_leaving_out}
use Rattle.fallible_contract.specs.declared.passing.Outcome.{Outcome}

-- a type whose values are seen as those of another
pub lawful_ends_seen : {S P A E : Type 0} {m : Contract P A E} {e : Ends P A E} (view : S → P) → LawfulEnds m e → LawfulEnds (seen_as view m) (ends_seen_as view e)
lawful_ends_seen view l = record {
  front_can = λ s c. l.front_can (view s) c;
  may_give = λ s x h. l.may_give (view s) x h;
  may_fail = λ s x h. l.may_fail (view s) x h;
  front = lawful_seen view l.front;
  back = lawful_seen view l.back;
}

-- a struct by its parts
pub lawful_ends_parts : {S P A E : Type 0} {m : Contract P A E} {e : Ends P A E} {parts : S → P} → Inverse parts → LawfulEnds m e → LawfulEnds (parts_as parts m) (ends_parts_as parts e)
lawful_ends_parts {parts = parts} inverse l = record {
  front_can = λ s c. l.front_can (parts s) c;
  may_give = λ s x h. l.may_give (parts s) x h;
  may_fail = λ s x h. l.may_fail (parts s) x h;
  front = lawful_parts inverse l.front;
  back = lawful_parts inverse l.back;
}

-- a struct around a value
pub lawful_ends_around : {S P A E : Type 0} {m : Contract P A E} {e : Ends P A E} {view : S → P} → Replaceable view → LawfulEnds m e → LawfulEnds (around view m) (ends_around view e)
lawful_ends_around {view = view} other l = record {
  front_can = λ s c. l.front_can (view s) c;
  may_give = λ s x h. l.may_give (view s) x h;
  may_fail = λ s x h. l.may_fail (view s) x h;
  front = lawful_around other l.front;
  back = lawful_around other l.back;
}

-- a type that steps from the back as it does from the front
pub lawful_ends_alike : {S A E : Type 0} {m : Contract S A E} → Lawful m → LawfulEnds m (ends_of m)
lawful_ends_alike l = record {
  front_can = λ s c. c;
  may_give = λ s x h. h;
  may_fail = λ s x h. h;
  front = l;
  back = l;
}

-- with any words on where hints are sound from each end, if they are there
pub lawful_ends_with_sound : {S A E : Type 0} {m : Contract S A E} {e : Ends S A E} {w v : SoundWhere S} → HintsHold m.steps m.hints w → HintsHold e.steps m.hints v → LawfulEnds m e → LawfulEnds (record m { sound = w }) (record e { sound = v })
lawful_ends_with_sound holds back l = record {
  front_can = l.front_can;
  may_give = l.may_give;
  may_fail = l.may_fail;
  front = lawful_with_sound holds l.front;
  back = lawful_with_sound back l.back;
}

-- the ends swapped
pub lawful_ends_swapped : {S A E : Type 0} {m : Contract S A E} {e : Ends S A E} → LawfulEnds m e → LawfulEnds (from_back m e) (ends_of (from_front m e))
lawful_ends_swapped l = record {
  front_can = λ s c. c;
  may_give = λ s x h. h;
  may_fail = λ s x h. h;
  front = l.back;
  back = l.front;
}

-- ---- adapters that let the items of one source pass

module _ {S F X R B E : Type 0} {m : Contract S X E} {e : Ends S X E} (call : F → X → R → F → Type 0) (callable : (X → Type 0) → F → Type 0) (outcome : X → R → Outcome B E) (hints : S × F → ℕ × Option ℕ → Type 0) (after : StaysCallable call callable) (l : LawfulEnds m e) where
  -- what may come from the front may come from either end
  may_give_from_back_of_passing : (p : S × F) (y : B) → (passing_contract m call callable outcome hints).may_give p y → (passing_contract (from_back m e) call callable outcome hints).may_give p y
  may_give_from_back_of_passing p y h = may_answer_where_reached_may_answer (l.may_give p.0) reaches_reflexive h

  may_fail_from_back_of_passing : (p : S × F) (d : E) → (passing_contract m call callable outcome hints).may_fail p d → (passing_contract (from_back m e) call callable outcome hints).may_fail p d
  may_fail_from_back_of_passing p d h = elim h [ inl b ↦ inl (l.may_fail p.0 d b) | inr b ↦ inr (may_answer_where_reached_may_answer (l.may_give p.0) reaches_reflexive b) ]

  pub lawful_ends_passing : LawfulEnds (passing_contract m call callable outcome hints) (ends_of (passing_contract (from_back m e) call callable outcome hints))
  lawful_ends_passing = record {
    front_can = λ p c. (l.front_can p.0 c.0, after (e.may_give p.0) (m.may_give p.0) p.1 p.1 (l.may_give p.0) reaches_reflexive c.1);
    may_give = may_give_from_back_of_passing;
    may_fail = may_fail_from_back_of_passing;
    front = lawful_passing call callable outcome hints after l.front;
    back = lawful_passing call callable outcome hints after l.back;
  }

  pub lawful_ends_leaving_out : LawfulEnds (leaving_out_contract m call callable outcome hints) (ends_of (leaving_out_contract (from_back m e) call callable outcome hints))
  lawful_ends_leaving_out = record {
    front_can = λ p c. (c.0, (l.front_can p.0 c.1.0, after (e.may_give p.0) (m.may_give p.0) p.1 p.1 (l.may_give p.0) reaches_reflexive c.1.1));
    may_give = may_give_from_back_of_passing;
    may_fail = may_fail_from_back_of_passing;
    front = lawful_leaving_out call callable outcome hints after l.front;
    back = lawful_leaving_out call callable outcome hints after l.back;
  }
