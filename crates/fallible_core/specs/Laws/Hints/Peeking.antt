-- Hints of `Peekable`, from the front and from the back.
use Rattle.std.specs.Prelude.{◌≡◌, ℕ, ◌+◌, ◌≤◌, List, [], ◌∷◌, length, Option, Some, None, IfSome, ◌⊎◌}
use Rattle.std.proofs.Common.{refl, sym, ap, subst, arith, inl, inr}
use Rattle.fallible_contract.specs.Traces.{Answered, Yields, item, end}
use Rattle.fallible_contract.specs.Sound.{SoundWhere, HintsHold}
use Rattle.fallible_contract.specs.Contract.{Contract}
use Rattle.fallible_contract.specs.Hints.{HintWithItem, UpperWithItem, lower_with_item}
use Rattle.fallible_core.specs.Peeking.Peekable.{peekable_step, peekable_step_back, peekable_hints, peekable_above, peekable_below, peekable_sound}
use Rattle.fallible_core.specs.Laws.Hints.Brackets.{BoundsAbove, BoundsBelow, Brackets, AsSound}
use Rattle.fallible_core.specs.Laws.Hints.Drawn.{OneOfOne, source_yields_as_many, if_some_at_least_of_smaller, brackets_of_equal_hint, brackets_zero_where_no_item, as_sound_where_one_of_one}

-- ---- one more than what the source yields

if_some_one_more_at_least : (o u : Option ℕ) (n : ℕ) → UpperWithItem o u → IfSome o (λ m. n ≤ m) → IfSome u (λ m. n + 1 ≤ m)
if_some_one_more_at_least None u n is le = subst (λ (z : Option ℕ). IfSome z (λ m. n + 1 ≤ m)) (sym is) tt
if_some_one_more_at_least (Some m) None n is le = tt
if_some_one_more_at_least (Some m) (Some z) n is le = omega (arith, is.1, le)

if_some_at_least_zero : (o u : Option ℕ) → UpperWithItem o u → IfSome u (λ m. 0 ≤ m)
if_some_at_least_zero o None is = tt
if_some_at_least_zero o (Some z) is = omega arith

-- ---- from the front

module _ {S A E : Type 0} (steps : S → Answered A E → S → Type 0) where
  abbrev peeked_step : S × Option (Option A) → Answered A E → S × Option (Option A) → Type 0
  peeked_step = peekable_step steps

  source_step_where_none_held : (p q : S × Option (Option A)) (r : Answered A E) → p.1 ≡ None → peeked_step p r q → steps p.0 r q.0 × (q.1 ≡ None)
  source_step_where_none_held (s, Some o) q r e w = absurd cc
  source_step_where_none_held (s, None) q r e w = w

  -- where nothing is held
  pub one_of_one_peekable : OneOfOne peeked_step steps (λ p. p.0) (λ p. p.1 ≡ None)
  one_of_one_peekable = record { item_of_item = λ p q x e w. let d = source_step_where_none_held p q (item x) e w in (x, d.0, d.1); end_of_end = λ p q e w. (source_step_where_none_held p q end e w).0 }

  held_end_gives_no_item : (p q : S × Option (Option A)) (x : A) → p.1 ≡ Some None → peeked_step p (item x) q → ⊥
  held_end_gives_no_item (s, None) q x e w = cc
  held_end_gives_no_item (s, Some (Some y)) q x e w = cc
  held_end_gives_no_item (s, Some None) q x e w = let d = w.0 in cc

  -- where an end is held
  pub brackets_zero_where_end_held : (p : S × Option (Option A)) → p.1 ≡ Some None → Brackets peeked_step p (0, Some 0)
  brackets_zero_where_end_held p e = brackets_zero_where_no_item peeked_step p (λ x q w. held_end_gives_no_item p q x e w)

  -- where an item is held: it comes first, and then the source's
  yields_none_or_one_more_with_item_held : (xs : List A) (s : S) (y : A) (q : S × Option (Option A)) → Yields peeked_step (s, Some (Some y)) xs q → (length xs ≡ 0) ⊎ ((ys : List A) × Yields steps s ys q.0 × (length xs ≡ length ys + 1) × (q.1 ≡ None))
  yields_none_or_one_more_with_item_held [] s y q ran = inl refl
  yields_none_or_one_more_with_item_held (x ∷ xs) s y q ran =
      let rest = source_yields_as_many peeked_step steps (λ p. p.0) (λ p. p.1 ≡ None) one_of_one_peekable.item_of_item xs ran.0 q ran.1.2 ran.2 in
      inr (rest.0, subst (λ (t : S). Yields steps t rest.0 q.0) ran.1.1 rest.1, omega (arith, rest.2), rest.3)

  no_end_before_held_item : (s : S) (y : A) (q z : S × Option (Option A)) (xs : List A) → length xs ≡ 0 → Yields peeked_step (s, Some (Some y)) xs q → peeked_step q end z → ⊥
  no_end_before_held_item s y q z [] e ran w = let d : peeked_step (s, Some (Some y)) end z = subst (λ (p : S × Option (Option A)). peeked_step p end z) (sym ran) w in let is = d.0 in cc
  no_end_before_held_item s y q z (x ∷ xs) e ran w = omega (arith, e)

  brackets_item_held : (s : S) (y : A) (k h : ℕ × Option ℕ) → HintWithItem k h → Brackets steps s k → Brackets peeked_step (s, Some (Some y)) h
  brackets_item_held s y k h is b = record {
    above = λ xs q ran. elim (yields_none_or_one_more_with_item_held xs s y q ran) [
      | inl none ↦ subst (λ (n : ℕ). IfSome h.1 (λ m. n ≤ m)) (sym none) (if_some_at_least_zero k.1 h.1 is.1)
      | inr d ↦ subst (λ (n : ℕ). IfSome h.1 (λ m. n ≤ m)) (sym d.2) (if_some_one_more_at_least k.1 h.1 (length d.0) is.1 (b.above d.0 q.0 d.1))
    ];
    below = λ xs q z ran w. elim (yields_none_or_one_more_with_item_held xs s y q ran) [
      | inl none ↦ absurd (no_end_before_held_item s y q z xs none ran w)
      | inr d ↦ let le = b.below d.0 q.0 z.0 d.1 (source_step_where_none_held q z end d.3 w).0 in omega (arith, is.0, le, d.2)
    ];
  }

  brackets_with_held_item : (p : S × Option (Option A)) (y : A) (k h : ℕ × Option ℕ) → p.1 ≡ Some (Some y) → HintWithItem k h → Brackets steps p.0 k → Brackets peeked_step p h
  brackets_with_held_item p y k h e is b = subst (λ (o : Option (Option A)). Brackets peeked_step (p.0, o) h) (sym e) (brackets_item_held p.0 y k h is b)

  pub as_sound_item_held : (p : S × Option (Option A)) (y : A) (k h : ℕ × Option ℕ) → p.1 ≡ Some (Some y) → HintWithItem k h → AsSound peeked_step p h steps p.0 k
  as_sound_item_held p y k h e is = record {
    above = λ a. (brackets_with_held_item p y (0, k.1) (lower_with_item 0, h.1) e (refl, is.1) (record { above = a; below = λ xs t u ran step. omega arith })).above;
    below = λ b. (brackets_with_held_item p y (k.0, None) (h.0, None) e (is.0, refl) (record { above = λ xs t ran. tt; below = b })).below;
  }

-- ---- from the back

module _ {S A E : Type 0} (back : S → Answered A E → S → Type 0) where
  abbrev peeked_step_back : S × Option (Option A) → Answered A E → S × Option (Option A) → Type 0
  peeked_step_back = peekable_step_back back

  source_step_back_where_none_held : (p q : S × Option (Option A)) (r : Answered A E) → p.1 ≡ None → peeked_step_back p r q → back p.0 r q.0 × (q.1 ≡ None)
  source_step_back_where_none_held (s, Some o) q r e w = absurd cc
  source_step_back_where_none_held (s, None) q r e w = w

  one_of_one_peekable_back : OneOfOne peeked_step_back back (λ p. p.0) (λ p. p.1 ≡ None)
  one_of_one_peekable_back = record { item_of_item = λ p q x e w. let d = source_step_back_where_none_held p q (item x) e w in (x, d.0, d.1); end_of_end = λ p q e w. (source_step_back_where_none_held p q end e w).0 }

  held_end_gives_no_item_back : (p q : S × Option (Option A)) (x : A) → p.1 ≡ Some None → peeked_step_back p (item x) q → ⊥
  held_end_gives_no_item_back (s, None) q x e w = cc
  held_end_gives_no_item_back (s, Some (Some y)) q x e w = cc
  held_end_gives_no_item_back (s, Some None) q x e w = let d = w.0 in cc

  brackets_zero_where_end_held_back : (p : S × Option (Option A)) → p.1 ≡ Some None → Brackets peeked_step_back p (0, Some 0)
  brackets_zero_where_end_held_back p e = brackets_zero_where_no_item peeked_step_back p (λ x q w. held_end_gives_no_item_back p q x e w)

  -- where an item is held: the source's come, and at its end that item
  abbrev BeforeOrAfterHeld : List A → S → A → S × Option (Option A) → Type 0
  BeforeOrAfterHeld xs s y q = (Yields back s xs q.0 × (q.1 ≡ Some (Some y))) ⊎ ((ys : List A) × (t : S) × Yields back s ys t × back t end q.0 × (length xs ≡ length ys + 1) × (q.1 ≡ Some None))

  nothing_after_held_end : (xs : List A) (p q : S × Option (Option A)) → p.1 ≡ Some None → Yields peeked_step_back p xs q → (xs ≡ []) × (p ≡ q)
  nothing_after_held_end [] p q e ran = (refl, ran)
  nothing_after_held_end (x ∷ xs) p q e ran = absurd (held_end_gives_no_item_back p ran.0 x e ran.1)

  one_more_item_before_held : (xs : List A) (s u : S) (x y : A) (q : S × Option (Option A)) → back s (item x) u → BeforeOrAfterHeld xs u y q → BeforeOrAfterHeld (x ∷ xs) s y q
  one_more_item_before_held xs s u x y q step (inl d) = inl ((u, step, d.0), d.1)
  one_more_item_before_held xs s u x y q step (inr d) = inr (x ∷ d.0, d.1, (u, step, d.2), d.3, omega (arith, d.4), d.5)

  yields_before_or_after_held : (xs : List A) (s : S) (y : A) (q : S × Option (Option A)) → Yields peeked_step_back (s, Some (Some y)) xs q → BeforeOrAfterHeld xs s y q
  yields_before_or_after_held [] s y q e = inl (ap (λ (p : S × Option (Option A)). p.0) e, sym (ap (λ (p : S × Option (Option A)). p.1) e))
  yields_before_or_after_held (x ∷ xs) s y q ran = elim ran.1 [
    | inl d ↦ let k = nothing_after_held_end xs ran.0 q d.2 ran.2 in inr ([], s, refl, subst (λ (p : S × Option (Option A)). back s end p.0) k.1 d.0, rw k.0 refl, subst (λ (p : S × Option (Option A)). p.1 ≡ Some None) k.1 d.2)
    | inr d ↦ one_more_item_before_held xs s ran.0.0 x y q d.0 (yields_before_or_after_held xs ran.0.0 y q (subst (λ (o : Option (Option A)). Yields peeked_step_back (ran.0.0, o) xs q) d.2 ran.2))
  ]

  no_end_while_item_held : (q z : S × Option (Option A)) (y : A) → q.1 ≡ Some (Some y) → peeked_step_back q end z → ⊥
  no_end_while_item_held (s, None) z y e w = cc
  no_end_while_item_held (s, Some None) z y e w = cc
  no_end_while_item_held (s, Some (Some x)) z y e w = elim w [ inl d ↦ (let is = d.1 in cc) | inr d ↦ d.1 ]

  bounds_above_item_held_back : (s : S) (y : A) (o u : Option ℕ) → UpperWithItem o u → BoundsAbove back s o → BoundsAbove peeked_step_back (s, Some (Some y)) u
  bounds_above_item_held_back s y o u is a xs q ran = elim (yields_before_or_after_held xs s y q ran) [
    | inl d ↦ if_some_at_least_of_smaller u (length xs) (length xs + 1) (omega arith) (if_some_one_more_at_least o u (length xs) is (a xs q.0 d.0))
    | inr d ↦ subst (λ (n : ℕ). IfSome u (λ m. n ≤ m)) (sym d.4) (if_some_one_more_at_least o u (length d.0) is (a d.0 d.1 d.2))
  ]

  bounds_below_item_held_back : (s : S) (y : A) (n : ℕ) → BoundsBelow back s n → BoundsBelow peeked_step_back (s, Some (Some y)) (lower_with_item n)
  bounds_below_item_held_back s y n b xs q z ran w = elim (yields_before_or_after_held xs s y q ran) [
    | inl d ↦ absurd (no_end_while_item_held q z y d.1 w)
    | inr d ↦ let le = b d.0 d.1 q.0 d.2 d.3 in omega (arith, le, d.4)
  ]

-- ---- where they are sound

module _ {S A E : Type 0} (m : Contract S A E) (holds : HintsHold m.steps m.hints m.sound) where
  peekable_hold_above : (p : S × Option (Option A)) (h : ℕ × Option ℕ) → peekable_hints m p h → peekable_above m.hints m.sound p h.1 → BoundsAbove (peekable_step m.steps) p h.1
  peekable_hold_above (s, None) h is a = (as_sound_where_one_of_one _ _ _ _ (one_of_one_peekable m.steps) (s, None) refl h).above (holds.above s h is a)
  peekable_hold_above (s, Some None) h is a = (brackets_of_equal_hint (peekable_step m.steps) (s, Some None) is (brackets_zero_where_end_held m.steps (s, Some None) refl)).above
  peekable_hold_above (s, Some (Some x)) h is a = (as_sound_item_held m.steps (s, Some (Some x)) x a.0 (lower_with_item a.0.0, h.1) refl (refl, a.2)).above (holds.above s a.0 a.1 a.3)

  peekable_hold_below : (p : S × Option (Option A)) (h : ℕ × Option ℕ) → peekable_hints m p h → peekable_below m.hints m.sound p h.0 → BoundsBelow (peekable_step m.steps) p h.0
  peekable_hold_below (s, None) h is b = (as_sound_where_one_of_one _ _ _ _ (one_of_one_peekable m.steps) (s, None) refl h).below (holds.below s h is b)
  peekable_hold_below (s, Some None) h is b = (brackets_of_equal_hint (peekable_step m.steps) (s, Some None) is (brackets_zero_where_end_held m.steps (s, Some None) refl)).below
  peekable_hold_below (s, Some (Some x)) h is b = (as_sound_item_held m.steps (s, Some (Some x)) x (b.0.0, None) (h.0, None) refl (b.2, refl)).below (holds.below s b.0 b.1 b.3)

  pub peekable_hold : HintsHold (peekable_step m.steps) (peekable_hints m) (peekable_sound m.hints m.sound)
  peekable_hold = record { above = peekable_hold_above; below = peekable_hold_below }

module _ {S A E : Type 0} (m : Contract S A E) (back : S → Answered A E → S → Type 0) {w : SoundWhere S} (holds : HintsHold back m.hints w) where
  peekable_back_hold_above : (p : S × Option (Option A)) (h : ℕ × Option ℕ) → peekable_hints m p h → peekable_above m.hints w p h.1 → BoundsAbove (peekable_step_back back) p h.1
  peekable_back_hold_above (s, None) h is a = (as_sound_where_one_of_one _ _ _ _ (one_of_one_peekable_back back) (s, None) refl h).above (holds.above s h is a)
  peekable_back_hold_above (s, Some None) h is a = (brackets_of_equal_hint (peekable_step_back back) (s, Some None) is (brackets_zero_where_end_held_back back (s, Some None) refl)).above
  peekable_back_hold_above (s, Some (Some x)) h is a = bounds_above_item_held_back back s x a.0.1 h.1 a.2 (holds.above s a.0 a.1 a.3)

  peekable_back_hold_below : (p : S × Option (Option A)) (h : ℕ × Option ℕ) → peekable_hints m p h → peekable_below m.hints w p h.0 → BoundsBelow (peekable_step_back back) p h.0
  peekable_back_hold_below (s, None) h is b = (as_sound_where_one_of_one _ _ _ _ (one_of_one_peekable_back back) (s, None) refl h).below (holds.below s h is b)
  peekable_back_hold_below (s, Some None) h is b = (brackets_of_equal_hint (peekable_step_back back) (s, Some None) is (brackets_zero_where_end_held_back back (s, Some None) refl)).below
  peekable_back_hold_below (s, Some (Some x)) h is b = subst (λ (n : ℕ). BoundsBelow (peekable_step_back back) (s, Some (Some x)) n) (sym b.2) (bounds_below_item_held_back back s x b.0.0 (holds.below s b.0 b.1 b.3))

  pub peekable_back_hold : HintsHold (peekable_step_back back) (peekable_hints m) (peekable_sound m.hints w)
  peekable_back_hold = record { above = peekable_back_hold_above; below = peekable_back_hold_below }
