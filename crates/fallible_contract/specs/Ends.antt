-- The second end of a fallible iterator.
use Rattle.std.specs.Prelude.{⊤, List}
use Rattle.fallible_contract.specs.Traces.{Answered, Run}
use Rattle.fallible_contract.specs.Sound.{SoundWhere, own_sound, as_source}
use Rattle.fallible_contract.specs.Contract.{Contract, Lawful, traces_around}

-- What the contract of a type with two ends says besides. A bound, hints and names are those of the first end, and hold whichever end is drawn from.
pub record Ends (S A E : Type 0) : Type 1 where
  -- the condition of every draw, from either end
  pub can_next : S → Type 0
  -- the step from the back: a draw from the back may return this and leave that
  pub steps : S → Answered A E → S → Type 0
  -- the item may still come, from one end or the other
  pub may_give : S → A → Type 0
  -- the failure may still come, from one end or the other
  pub may_fail : S → E → Type 0
  -- the definition of what it returns from the back
  pub traces : S → List (Answered A E) → S → Type 0
  -- of which values a bound that a hint may have is sound of draws from the back
  pub sound : SoundWhere S

module _ {S A E : Type 0} (m : Contract S A E) (e : Ends S A E) where
  -- the contract of draws from the front, where draws from the back are made as well
  abbrev pub from_front : Contract S A E
  from_front = record m { can_next = e.can_next; may_give = e.may_give; may_fail = e.may_fail }

  -- the contract of draws from the back
  abbrev pub from_back : Contract S A E
  from_back = record m { can_next = e.can_next; steps = e.steps; may_give = e.may_give; may_fail = e.may_fail; traces = e.traces; sound = e.sound }

-- the second end whose draws are those of a contract
abbrev pub ends_of : {S A E : Type 0} → Contract S A E → Ends S A E
ends_of m = record { can_next = m.can_next; steps = m.steps; may_give = m.may_give; may_fail = m.may_fail; traces = m.traces; sound = m.sound }

-- the second end of a type whose values are seen as those of another
abbrev pub ends_seen_as : {S P A E : Type 0} → (S → P) → Ends P A E → Ends S A E
ends_seen_as view e = record {
  can_next = λ s. e.can_next (view s);
  steps = λ s r t. e.steps (view s) r (view t);
  may_give = λ s x. e.may_give (view s) x;
  may_fail = λ s x. e.may_fail (view s) x;
  traces = λ s trace t. Run (λ u r v. e.steps (view u) r (view v)) s trace t;
  sound = as_source view e.sound;
}

-- the second end of a struct by its parts
abbrev pub ends_parts_as : {S P A E : Type 0} → (S → P) → Ends P A E → Ends S A E
ends_parts_as parts e = record (ends_seen_as parts e) { traces = λ s trace t. e.traces (parts s) trace (parts t) }

-- the second end of a struct around a value
abbrev pub ends_around : {S P A E : Type 0} → (S → P) → Ends P A E → Ends S A E
ends_around view e = record (ends_seen_as view e) { traces = traces_around view e.traces }

-- What each type with two ends proves: what may be drawn from both ends may be drawn from the front, what may come from the front may come from either end, and draws from either end keep the contract.
pub record LawfulEnds {S A E : Type 0} (m : Contract S A E) (e : Ends S A E) : Type 0 where
  pub front_can : (s : S) → e.can_next s → m.can_next s
  pub may_give : (s : S) (x : A) → m.may_give s x → e.may_give s x
  pub may_fail : (s : S) (x : E) → m.may_fail s x → e.may_fail s x
  pub front : Lawful (from_front m e)
  pub back : Lawful (from_back m e)

-- The second end of a type that says how it steps from the back, and nothing else.
abbrev pub counted_ends : {S A E : Type 0} → (S → Answered A E → S → Type 0) → Ends S A E
counted_ends steps = record {
  can_next = λ _. ⊤;
  steps = steps;
  may_give = λ _ _. ⊤;
  may_fail = λ _ _. ⊤;
  traces = λ s trace t. Run steps s trace t;
  sound = own_sound steps;
}
