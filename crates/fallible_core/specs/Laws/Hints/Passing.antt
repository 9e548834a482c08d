-- Hints of the adapters that let the answers of one source pass.
use Rattle.std.specs.Prelude.{◌≡◌, ◌≤◌, ℕ, Option, Result, Ok, Err, List, [], ◌∷◌, length, ⊤}
use Rattle.std.proofs.Common.{refl, arith}
use Rattle.fallible_contract.specs.Traces.{Answered, Yields, item, end}
use Rattle.fallible_contract.specs.Passing.{LeavesNoneOut, passing_step}
use Rattle.fallible_contract.specs.Laws.Passing.{Passes, done, end_passes, keeps, closes, leaves_out, passes_of_pass_trace}
use Rattle.fallible_core.specs.Laws.Hints.Drawn.{ItemsOfItems, OneOfOne, as_sound_where_one_of_one, as_sound_upper_alone_of_source}
use Rattle.fallible_core.specs.Laws.Hints.Holding.{hold_as_source, hold_above_as_source}
use Rattle.fallible_contract.specs.Sound.{SoundWhere, HintsHold, as_source, above_as_source}
use Rattle.fallible_core.specs.OneToOne.Inspect.{inspect_outcome}
use Rattle.fallible_core.specs.OneToOne.Map.{map_outcome}
use Rattle.fallible_contract.proofs.Lemmas.Passing.{not_left_out}
use Rattle.fallible_contract.specs.declared.passing.Outcome.{Outcome}
use Rattle.fallible_contract.specs.declared.passing.Outcome.TheVariants.{End}

module _ {S F X R B E : Type 0} (steps : S → Answered X E → S → Type 0) (call : F → X → R → F → Type 0) (outcome : X → R → Outcome B E) where
  -- an item comes of one that was kept, after those that were left out
  source_yields_items_of_passed_item : (s t : S) (f g : F) (y : B) → Passes steps call outcome s f (item y ∷ []) t g → (xs : List X) × Yields steps s xs t × (1 ≤ length xs)
  source_yields_items_of_passed_item s t f g _ (keeps x v y step called is done) = (x ∷ [], (t, step, refl), omega arith)
  source_yields_items_of_passed_item s t f g y (leaves_out {u = u} {h = h} x v step called is rest) = let d = source_yields_items_of_passed_item u t h g y rest in (x ∷ d.0, (u, step, d.1), omega (arith, d.2))

  pub items_of_items_passing : ItemsOfItems (passing_step steps call outcome) steps (λ p. p.0) (λ p. ⊤)
  items_of_items_passing = record { items_of_item = λ p q y _ step. let d = source_yields_items_of_passed_item p.0 q.0 p.1 q.1 y (passes_of_pass_trace step) in (d.0, d.1, d.2, tt) }

  module _ (leaves_none_out : LeavesNoneOut outcome) (never_ends : (x : X) (v : R) → outcome x v ≡ End → ⊥) where
    item_of_item : (s t : S) (f g : F) (y : B) → Passes steps call outcome s f (item y ∷ []) t g → (x : X) × steps s (item x) t
    item_of_item s t f g _ (keeps x v y step called is done) = (x, step)
    item_of_item s t f g y (leaves_out x v step called is rest) = absurd (not_left_out outcome leaves_none_out x v is)

    end_of_end : (s t : S) (f g : F) → Passes steps call outcome s f (end ∷ []) t g → steps s end t
    end_of_end s t f g (end_passes step done) = step
    end_of_end s t f g (closes x v step called is rest) = absurd (never_ends x v is)
    end_of_end s t f g (leaves_out x v step called is rest) = absurd (not_left_out outcome leaves_none_out x v is)

    -- where no answer leaves an item out or makes an end
    pub one_of_one_passing : OneOfOne (passing_step steps call outcome) steps (λ p. p.0) (λ p. ⊤)
    one_of_one_passing = record {
      item_of_item = λ p q y _ step. let d = item_of_item p.0 q.0 p.1 q.1 y (passes_of_pass_trace step) in (d.0, d.1, tt);
      end_of_end = λ p q _ step. end_of_end p.0 q.0 p.1 q.1 (passes_of_pass_trace step);
    }

-- ---- where they are sound

module _ {S F X R B E : Type 0} (call : F → X → R → F → Type 0) (outcome : X → R → Outcome B E) {steps : S → Answered X E → S → Type 0} {hints : S → ℕ × Option ℕ → Type 0} {w : SoundWhere S} (holds : HintsHold steps hints w) where
  -- of an adapter that leaves no item out and ends nothing, whose hints are the source's
  pub one_of_one_hold : LeavesNoneOut outcome → ((x : X) (v : R) → outcome x v ≡ End → ⊥) → HintsHold (passing_step steps call outcome) (λ p h. hints p.0 h) (as_source (λ p. p.0) w)
  one_of_one_hold leaves_none_out never_ends = hold_as_source (passing_step steps call outcome) (λ p h. hints p.0 h) holds (λ p. p.0) (λ p h is. (is, as_sound_where_one_of_one _ _ _ _ (one_of_one_passing steps call outcome leaves_none_out never_ends) p tt h))

  -- of one whose hints have the source's upper bound alone
  pub upper_alone_hold : HintsHold (passing_step steps call outcome) (λ p h. (k : ℕ × Option ℕ) × hints p.0 k × (h ≡ (0, k.1))) (above_as_source (λ p. p.0) w)
  upper_alone_hold = hold_above_as_source (passing_step steps call outcome) (λ p h. (k : ℕ × Option ℕ) × hints p.0 k × (h ≡ (0, k.1))) holds (λ p. p.0) (λ p h is. (is.0, is.1, is.2, as_sound_upper_alone_of_source _ _ _ _ (items_of_items_passing steps call outcome) p tt is.0 h is.2))

-- ---- `Map`

-- no answer of the closure makes an end
never_end_of_map : {X B E : Type 0} (x : X) (v : Result B E) → map_outcome x v ≡ End → ⊥
never_end_of_map x (Ok y) e = absurd cc
never_end_of_map x (Err d) e = absurd cc

-- it leaves nothing out
none_out_of_map : {X B E : Type 0} → LeavesNoneOut {X = X} {B = B} {E = E} map_outcome
none_out_of_map x (Ok y) = refl
none_out_of_map x (Err e) = refl

pub map_hold : {S F X B E : Type 0} (call : F → X → Result B E → F → Type 0) {steps : S → Answered X E → S → Type 0} {hints : S → ℕ × Option ℕ → Type 0} {w : SoundWhere S} → HintsHold steps hints w → HintsHold (passing_step steps call map_outcome) (λ p h. hints p.0 h) (as_source (λ p. p.0) w)
map_hold call holds = one_of_one_hold call map_outcome holds none_out_of_map never_end_of_map

-- ---- `Inspect`

-- no answer of the closure makes an end
never_end_of_inspect : {X E : Type 0} (x : X) (v : Result (Unit {0}) E) → inspect_outcome x v ≡ End → ⊥
never_end_of_inspect x (Ok u) e = absurd cc
never_end_of_inspect x (Err d) e = absurd cc

-- it leaves nothing out
none_out_of_inspect : {X E : Type 0} → LeavesNoneOut {X = X} {B = X} {E = E} inspect_outcome
none_out_of_inspect x (Ok u) = refl
none_out_of_inspect x (Err e) = refl

pub inspect_hold : {S F X E : Type 0} (call : F → X → Result (Unit {0}) E → F → Type 0) {steps : S → Answered X E → S → Type 0} {hints : S → ℕ × Option ℕ → Type 0} {w : SoundWhere S} → HintsHold steps hints w → HintsHold (passing_step steps call inspect_outcome) (λ p h. hints p.0 h) (as_source (λ p. p.0) w)
inspect_hold call holds = one_of_one_hold call inspect_outcome holds none_out_of_inspect never_end_of_inspect
