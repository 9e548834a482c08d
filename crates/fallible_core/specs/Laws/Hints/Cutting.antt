-- Hints of the adapters that cut a trace off.
use Rattle.std.specs.Prelude.{◌≡◌, ℕ, zero, suc, ◌+◌, ◌≤◌, min, List, [], ◌∷◌, length, Option, Result, Some, None, Ok, Err, IfSome, Bool, true, false, option_map, ◌⊎◌}
use Rattle.std.proofs.Common.{refl, sym, ap, subst, ◌∙◌, arith, inl, inr}
use Rattle.fallible_contract.specs.Traces.{Answered, Yields, item, end, is_end}
use Rattle.fallible_contract.specs.Closing.{closing_step, closing_hints}
use Rattle.fallible_contract.specs.Hints.{hint_up_to, upper_alone}
use Rattle.fallible_contract.specs.Passing.{Place, asked, failure_at, end_at, source_answer}
use Rattle.fallible_core.specs.Cutting.Take.{take_step}
use Rattle.fallible_core.specs.Cutting.TakeWhile.{taken_answer, is_refused, place_drawn}
use Rattle.fallible_core.specs.Laws.Hints.Brackets.{Brackets, AsSound}
use Rattle.fallible_core.specs.Laws.Hints.Drawn.{as_sound_of_brackets, ItemsOfItems, OneOfOne, brackets_zero_where_no_item, as_sound_where_one_of_one, as_sound_upper_alone_of_source}
use Rattle.fallible_core.specs.Laws.Hints.Holding.{hold_as_made, hold_once, hold_once_above}
use Rattle.fallible_contract.specs.Contract.{Contract}
use Rattle.fallible_contract.specs.Sound.{HintsHold, as_source, above_as_source, as_made, sound_once}

-- ---- what is closed

module _ {P : Type 0} (hints : P → ℕ × Option ℕ → Type 0) where
  hint_of_closed_fuse_is_zero : (p : P × Bool) (h : ℕ × Option ℕ) → p.1 ≡ true → closing_hints hints p h → h ≡ (0, Some 0)
  hint_of_closed_fuse_is_zero (p, true) h e is = is
  hint_of_closed_fuse_is_zero (p, false) h e is = absurd cc

  pub hint_of_open_fuse_is_source_hint : (p : P × Bool) (h : ℕ × Option ℕ) → p.1 ≡ false → closing_hints hints p h → hints p.0 h
  hint_of_open_fuse_is_source_hint (p, true) h e is = absurd cc
  hint_of_open_fuse_is_source_hint (p, false) h e is = is

module _ {P Q B E : Type 0} (draws : P → Q → P → Type 0) (answer : Q → Answered B E) (closes : Q → Bool) where
  abbrev closing_of_draws : P × Bool → Answered B E → P × Bool → Type 0
  closing_of_draws = closing_step draws answer closes

  no_item_closed : (p q : P × Bool) (y : B) → p.1 ≡ true → closing_of_draws p (item y) q → ⊥
  no_item_closed (p, true) q y e w = let d = w.0 in cc
  no_item_closed (p, false) q y e w = absurd cc

  -- nothing comes once it is closed
  pub brackets_closed : (hints : P → ℕ × Option ℕ → Type 0) (p : P × Bool) (h : ℕ × Option ℕ) → p.1 ≡ true → closing_hints hints p h → Brackets closing_of_draws p h
  brackets_closed hints p h e is = subst (λ (k : ℕ × Option ℕ). Brackets closing_of_draws p k) (sym (hint_of_closed_fuse_is_zero hints p h e is)) (brackets_zero_where_no_item closing_of_draws p (λ y q w. no_item_closed p q y e w))

-- ---- `Fuse`

module _ {S A E : Type 0} (steps : S → Answered A E → S → Type 0) where
  abbrev pub fuse_step : S × Bool → Answered A E → S × Bool → Type 0
  fuse_step = closing_step steps (λ r. r) is_end

  source_gives_item_where_open_fuse_gives : (p q : S × Bool) (x : A) → p.1 ≡ false → fuse_step p (item x) q → (y : A) × steps p.0 (item y) q.0 × (q.1 ≡ false)
  source_gives_item_where_open_fuse_gives (s, true) q x e w = absurd cc
  source_gives_item_where_open_fuse_gives (s, false) q x e w = (x, subst (λ (r : Answered A E). steps s r q.0) (sym w.2) w.1, w.3 ∙ ap is_end (sym w.2))

  source_ends_where_open_fuse_ends : (p q : S × Bool) → p.1 ≡ false → fuse_step p end q → steps p.0 end q.0
  source_ends_where_open_fuse_ends (s, true) q e w = absurd cc
  source_ends_where_open_fuse_ends (s, false) q e w = subst (λ (r : Answered A E). steps s r q.0) (sym w.2) w.1

  pub one_of_one_fuse : OneOfOne fuse_step steps (λ p. p.0) (λ p. p.1 ≡ false)
  one_of_one_fuse = record { item_of_item = λ p q x e w. source_gives_item_where_open_fuse_gives p q x e w; end_of_end = λ p q e w. source_ends_where_open_fuse_ends p q e w }

-- ---- `TakeWhile`

module _ {S F X E : Type 0} (steps : S → Answered X E → S → Type 0) (call : F → X → Result Bool E → F → Type 0) where
  abbrev pub take_while_step : (S × F) × Bool → Answered X E → (S × F) × Bool → Type 0
  take_while_step = closing_step (place_drawn steps call) taken_answer is_refused

  source_answer_is_item_where_item_taken : (x : Place X (Result Bool E) E) (y : X) → item y ≡ taken_answer x → (z : X) × (source_answer x ≡ item z) × (is_refused x ≡ false)
  source_answer_is_item_where_item_taken (asked z (Ok true)) y e = (z, refl, refl)
  source_answer_is_item_where_item_taken (asked z (Ok false)) y e = absurd cc
  source_answer_is_item_where_item_taken (asked z (Err d)) y e = absurd cc
  source_answer_is_item_where_item_taken (failure_at d) y e = absurd cc
  source_answer_is_item_where_item_taken end_at y e = absurd cc

  source_yields_where_item_taken : (p q : (S × F) × Bool) (y : X) → p.1 ≡ false → take_while_step p (item y) q → (xs : List X) × Yields steps (p.0).0 xs (q.0).0 × (1 ≤ length xs) × (q.1 ≡ false)
  source_yields_where_item_taken (p, true) q y e w = absurd cc
  source_yields_where_item_taken (p, false) q y e w = let d = source_answer_is_item_where_item_taken w.0 y w.2 in (d.0 ∷ [], ((q.0).0, subst (λ (r : Answered X E). steps p.0 r (q.0).0) d.1 w.1.0, refl), omega arith, w.3 ∙ d.2)

  pub items_of_items_take_while : ItemsOfItems take_while_step steps (λ p. (p.0).0) (λ p. p.1 ≡ false)
  items_of_items_take_while = record { items_of_item = λ p q y e w. source_yields_where_item_taken p q y e w }

-- ---- `Take`

module _ {S A E : Type 0} (steps : S → Answered A E → S → Type 0) where
  source_yields_where_take_yields : (xs : List A) (s : S) (n : ℕ) (q : S × ℕ) → Yields (take_step steps) (s, n) xs q → Yields steps s xs q.0 × (q.1 + length xs ≡ n)
  source_yields_where_take_yields [] s n q e = let left : n ≡ q.1 = ap (λ (p : S × ℕ). p.1) e in (ap (λ (p : S × ℕ). p.0) e, omega (arith, left))
  source_yields_where_take_yields (x ∷ xs) s zero q ran = absurd (let e = ran.1.0 in cc)
  source_yields_where_take_yields (x ∷ xs) s (suc n) q ran = let rest = source_yields_where_take_yields xs ran.0.0 ran.0.1 q ran.2 in ((ran.0.0, ran.1.0, rest.0), omega (arith, ran.1.1, rest.1))

  none_to_take_or_source_ends : (t : S) (n : ℕ) (q : S × ℕ) → take_step steps (t, n) end q → (n ≡ 0) ⊎ steps t end q.0
  none_to_take_or_source_ends t zero q w = inl refl
  none_to_take_or_source_ends t (suc n) q w = inr w.0

  at_most_min_where_at_most_both : (o : Option ℕ) (n i : ℕ) → i ≤ n → IfSome o (λ u. i ≤ u) → IfSome (option_map (λ u. min u n) o) (λ u. i ≤ u)
  at_most_min_where_at_most_both None n i le h = tt
  at_most_min_where_at_most_both (Some u) n i le h = omega (arith, le, h)

  pub brackets_take : (p : S × ℕ) (k : ℕ × Option ℕ) → Brackets steps p.0 k → Brackets (take_step steps) p (hint_up_to p.1 k)
  brackets_take (s, n) k b = record {
    above = λ xs q ran. let d = source_yields_where_take_yields xs s n q ran in at_most_min_where_at_most_both k.1 n (length xs) (omega (arith, d.1)) (b.above xs q.0 d.0);
    below = λ xs q z ran w. let d = source_yields_where_take_yields xs s n q ran in elim (none_to_take_or_source_ends q.0 q.1 z w) [
      | inl full ↦ omega (arith, d.1, full)
      | inr closing_of_draws ↦ let le = b.below xs q.0 z.0 d.0 closing_of_draws in omega (arith, le)
    ];
  }

  pub as_sound_take : (p : S × ℕ) (h k : ℕ × Option ℕ) → h ≡ hint_up_to p.1 k → AsSound (take_step steps) p h steps p.0 k
  as_sound_take p h k is = as_sound_of_brackets (take_step steps) steps p p.0 (λ i. min i p.1) (λ o. option_map (λ u. min u p.1) o) (λ j b. brackets_take p j b) h k is

-- ---- where they are sound

module _ {S A E : Type 0} (m : Contract S A E) (holds : HintsHold m.steps m.hints m.sound) where
  pub take_hold : HintsHold (take_step m.steps) (λ p h. (k : ℕ × Option ℕ) × m.hints p.0 k × (h ≡ hint_up_to p.1 k)) (as_made (λ p. p.0) m.hints m.sound (λ p k. hint_up_to p.1 k))
  take_hold = hold_as_made (take_step m.steps) (λ p h. (k : ℕ × Option ℕ) × m.hints p.0 k × (h ≡ hint_up_to p.1 k)) holds (λ p. p.0) (λ p k. hint_up_to p.1 k) (λ p k. as_sound_take m.steps p (hint_up_to p.1 k) k refl)

  ended_or_open : (p : S × Bool) (h : ℕ × Option ℕ) → closing_hints m.hints p h → Brackets (fuse_step m.steps) p h ⊎ (((p.1 ≡ true) → ⊥) × m.hints p.0 h × AsSound (fuse_step m.steps) p h m.steps p.0 h)
  ended_or_open (s, true) h is = inl (brackets_closed m.steps (λ r. r) is_end m.hints (s, true) h refl is)
  ended_or_open (s, false) h is = inr ((λ e. absurd cc), is, as_sound_where_one_of_one _ _ _ _ (one_of_one_fuse m.steps) (s, false) refl h)

  pub fuse_hold : HintsHold (fuse_step m.steps) (closing_hints m.hints) (sound_once (λ p. p.1 ≡ true) (as_source (λ p. p.0) m.sound))
  fuse_hold = hold_once (fuse_step m.steps) (closing_hints m.hints) holds (λ p. p.0) (λ p. p.1 ≡ true) ended_or_open

-- `TakeWhile`: nothing comes once an item was rejected
module _ {S F X E : Type 0} (m : Contract S X E) (call : F → X → Result Bool E → F → Type 0) (holds : HintsHold m.steps m.hints m.sound) where
  -- until an item is rejected it has the source's upper bound alone
  abbrev pub take_while_hints : (S × F) × Bool → ℕ × Option ℕ → Type 0
  take_while_hints = closing_hints (λ p h. upper_alone m p.0 h)

  refused_or_open : (p : (S × F) × Bool) (h : ℕ × Option ℕ) → take_while_hints p h → Brackets (take_while_step m.steps call) p h ⊎ (((p.1 ≡ true) → ⊥) × (k : ℕ × Option ℕ) × m.hints (p.0).0 k × (h ≡ (0, k.1)) × AsSound (take_while_step m.steps call) p h m.steps (p.0).0 k)
  refused_or_open (q, true) h is = inl (brackets_closed (place_drawn m.steps call) taken_answer is_refused (λ p h. upper_alone m p.0 h) (q, true) h refl is)
  refused_or_open (q, false) h is = inr ((λ e. absurd cc), is.0, is.1, is.2, as_sound_upper_alone_of_source _ _ _ _ (items_of_items_take_while m.steps call) (q, false) refl is.0 h is.2)

  pub take_while_hold : HintsHold (take_while_step m.steps call) take_while_hints (sound_once (λ p. p.1 ≡ true) (above_as_source (λ p. (p.0).0) m.sound))
  take_while_hold = hold_once_above (take_while_step m.steps call) take_while_hints holds (λ p. (p.0).0) (λ p. p.1 ≡ true) refused_or_open
