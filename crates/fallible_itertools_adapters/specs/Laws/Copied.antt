-- The contract of `Copied` is lawful where the source's is.
use Rattle.std.specs.Prelude.{⊤, ◌≡◌, ℕ, Option}
use Rattle.std.specs.Borrow.{Bor}
use Rattle.std.proofs.Common.{refl}
use Rattle.fallible_iterator.specs.Contract.{Contract, Lawful}
use Rattle.fallible_iterator.specs.Ends.{Ends, from_back, ends_of, LawfulEnds}
use Rattle.fallible_iterator.specs.Laws.Passing.{lawful_passing}
use Rattle.fallible_iterator.specs.Laws.Ends.{lawful_ends_passing, lawful_ends_with_sound}
use Rattle.fallible_iterator.specs.Laws.Contract.{lawful_with_sound}
use Rattle.fallible_iterator.specs.Laws.Hints.Passing.{one_of_one_hold}
use Rattle.fallible_iterator.specs.Sound.{HintsHold, SoundWhere, as_source}
use Rattle.fallible_iterator.specs.Traces.{Answered}
use Rattle.fallible_iterator.specs.Passing.{passing_step}
use Rattle.fallible_itertools_adapters.specs.Copied.{copied_call, copied_contract, copied_outcome}
use Rattle.fallible_iterator.specs.Outcome.TheVariants.{End}

-- each item makes one
copied_never_end : {T E : Type 0} (x : Bor T) (u : Unit {0}) → copied_outcome {E = E} x u ≡ End → ⊥
copied_never_end x u e = cc

copied_hold : {S T E : Type 0} {steps : S → Answered (Bor T) E → S → Type 0} {hints : S → ℕ × Option ℕ → Type 0} {w : SoundWhere S} → HintsHold steps hints w → HintsHold (passing_step steps copied_call copied_outcome) (λ p h. hints p.0 h) (as_source (λ p. p.0) w)
copied_hold holds = one_of_one_hold copied_call copied_outcome holds (λ x u. refl) copied_never_end

pub lawful_copied : {S T E : Type 0} {m : Contract S (Bor T) E} → Lawful m → Lawful (copied_contract m)
lawful_copied {m = m} l = lawful_with_sound (copied_hold l.hold) (lawful_passing copied_call (λ P u. ⊤) copied_outcome (λ p h. m.hints p.0 h) (λ P Q u v weak reached c. tt) l)

pub lawful_ends_copied : {S T E : Type 0} {m : Contract S (Bor T) E} {e : Ends S (Bor T) E} → LawfulEnds m e → LawfulEnds (copied_contract m) (ends_of (copied_contract (from_back m e)))
lawful_ends_copied {m = m} l = lawful_ends_with_sound (copied_hold l.front.hold) (copied_hold l.back.hold) (lawful_ends_passing copied_call (λ P u. ⊤) copied_outcome (λ p h. m.hints p.0 h) (λ P Q u v weak reached c. tt) l)
