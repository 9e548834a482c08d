-- Runs of items of a value that draws from a source, as runs of items of that source.
use Rattle.std.specs.Prelude.{◌≡◌, ℕ, ◌+◌, ◌-◌, ◌≤◌, option_map, List, [], ◌∷◌, ◌++◌, length, Option, Some, None, IfSome}
use Rattle.std.proofs.Common.{refl, sym, ap, subst, arith, length-append}
use Rattle.fallible_contract.specs.Traces.{Answered, Yields, item, end}
use Rattle.fallible_contract.specs.Hints.{hint_less}
use Rattle.fallible_core.specs.Laws.Hints.Brackets.{BoundsAbove, BoundsBelow, Brackets, AsSound, AsSoundAsBoth}

-- a number that is no greater has the same upper bound
pub if_some_at_least_of_smaller : (o : Option ℕ) (i j : ℕ) → i ≤ j → IfSome o (λ n. j ≤ n) → IfSome o (λ n. i ≤ n)
if_some_at_least_of_smaller None i j le h = tt
if_some_at_least_of_smaller (Some n) i j le h = omega (arith, le, h)

-- a hint is its two bounds
pub pair_of_parts : {i j : ℕ} {o u : Option ℕ} → i ≡ j → o ≡ u → ◌≡◌ {A = ℕ × Option ℕ} (i, o) (j, u)
pair_of_parts e f = rw (e, f) refl

-- runs one after another
pub yields_appended_of_two_yields : {S A E : Type 0} (steps : S → Answered A E → S → Type 0) (xs ys : List A) (s t u : S) → Yields steps s xs t → Yields steps t ys u → Yields steps s (xs ++ ys) u
yields_appended_of_two_yields steps [] ys s t u e h = subst (λ v. Yields steps v ys u) (sym e) h
yields_appended_of_two_yields steps (x ∷ xs) ys s t u ran h = (ran.0, ran.1, yields_appended_of_two_yields steps xs ys ran.0 t u ran.2 h)

-- a hint that is made as said
pub brackets_of_equal_hint : {S A E : Type 0} (steps : S → Answered A E → S → Type 0) (s : S) {h k : ℕ × Option ℕ} → h ≡ k → Brackets steps s k → Brackets steps s h
brackets_of_equal_hint steps s e b = subst (λ (j : ℕ × Option ℕ). Brackets steps s j) (sym e) b

-- bounds that are made each by itself of the source's
module _ {S A E T B D : Type 0} (steps : S → Answered A E → S → Type 0) (source : T → Answered B D → T → Type 0) where
  pub as_sound_of_brackets : (s : S) (it : T) (low : ℕ → ℕ) (high : Option ℕ → Option ℕ) → ((k : ℕ × Option ℕ) → Brackets source it k → Brackets steps s (low k.0, high k.1)) → (h k : ℕ × Option ℕ) → h ≡ (low k.0, high k.1) → AsSound steps s h source it k
  as_sound_of_brackets s it low high kept h k is = record {
    above = λ a. subst (λ (o : Option ℕ). BoundsAbove steps s o) (sym (ap (λ (z : ℕ × Option ℕ). z.1) is)) (kept (0, k.1) (record { above = a; below = λ xs t u ran step. omega arith })).above;
    below = λ b. subst (λ (n : ℕ). BoundsBelow steps s n) (sym (ap (λ (z : ℕ × Option ℕ). z.0) is)) (kept (k.0, None) (record { above = λ xs t ran. tt; below = b })).below;
  }

-- the same of two sources
module _ {S A E T B D U C F : Type 0} (steps : S → Answered A E → S → Type 0) (left : T → Answered B D → T → Type 0) (right : U → Answered C F → U → Type 0) where
  pub as_sound_as_both_of_brackets : (s : S) (it : T) (other : U) (low : ℕ → ℕ → ℕ) (high : Option ℕ → Option ℕ → Option ℕ) → ((j k : ℕ × Option ℕ) → Brackets left it j → Brackets right other k → Brackets steps s (low j.0 k.0, high j.1 k.1)) → (h j k : ℕ × Option ℕ) → h ≡ (low j.0 k.0, high j.1 k.1) → AsSoundAsBoth steps s h left it j right other k
  as_sound_as_both_of_brackets s it other low high kept h j k is = record {
    above = λ a b. subst (λ (o : Option ℕ). BoundsAbove steps s o) (sym (ap (λ (z : ℕ × Option ℕ). z.1) is)) (kept (0, j.1) (0, k.1) (record { above = a; below = λ xs t u ran step. omega arith }) (record { above = b; below = λ xs t u ran step. omega arith })).above;
    below = λ a b. subst (λ (n : ℕ). BoundsBelow steps s n) (sym (ap (λ (z : ℕ × Option ℕ). z.0) is)) (kept (j.0, None) (k.0, None) (record { above = λ xs t ran. tt; below = a }) (record { above = λ xs t ran. tt; below = b })).below;
  }

pub as_sound_as_both_swapped : {S A E T B D U C F : Type 0} {steps : S → Answered A E → S → Type 0} {s : S} {h : ℕ × Option ℕ} {left : T → Answered B D → T → Type 0} {it : T} {j : ℕ × Option ℕ} {right : U → Answered C F → U → Type 0} {other : U} {k : ℕ × Option ℕ} → AsSoundAsBoth steps s h left it j right other k → AsSoundAsBoth steps s h right other k left it j
as_sound_as_both_swapped a = record { above = λ i j. a.above j i; below = λ i j. a.below j i }

-- ---- hints that are sound whatever the source's are

module _ {S A E : Type 0} (steps : S → Answered A E → S → Type 0) (s : S) where
  -- nothing is said
  pub brackets_nothing_said : Brackets steps s (0, None)
  brackets_nothing_said = record { above = λ xs t ran. tt; below = λ xs t u ran step. omega arith }

  yields_length_zero_where_no_item : ((x : A) (t : S) → steps s (item x) t → ⊥) → (xs : List A) (t : S) → Yields steps s xs t → length xs ≤ 0
  yields_length_zero_where_no_item never [] t ran = omega arith
  yields_length_zero_where_no_item never (x ∷ xs) t ran = absurd (never x ran.0 ran.1)

  -- no end comes of items alone
  pub brackets_any_lower_where_no_end : (low : ℕ) → ((xs : List A) (t u : S) → Yields steps s xs t → steps t end u → ⊥) → Brackets steps s (low, None)
  brackets_any_lower_where_no_end low never = record { above = λ xs t ran. tt; below = λ xs t u ran step. absurd (never xs t u ran step) }

  -- no item comes first
  pub brackets_zero_where_no_item : ((x : A) (t : S) → steps s (item x) t → ⊥) → Brackets steps s (0, Some 0)
  brackets_zero_where_no_item never = record { above = yields_length_zero_where_no_item never; below = λ xs t u ran step. omega arith }

-- ---- a type whose values are seen as those of another

module _ {V P A E : Type 0} (view : V → P) (steps : V → Answered A E → V → Type 0) (others : P → Answered A E → P → Type 0) (each : (u : V) (r : Answered A E) (v : V) → steps u r v → others (view u) r (view v)) where
  yields_others_at_view : (xs : List A) (s t : V) → Yields steps s xs t → Yields others (view s) xs (view t)
  yields_others_at_view [] s t e = ap view e
  yields_others_at_view (x ∷ xs) s t ran = (view ran.0, each s (item x) ran.0 ran.1, yields_others_at_view xs ran.0 t ran.2)

  -- where each step of a value is one of what it is seen as
  pub brackets_of_brackets_at_view : (s : V) (h : ℕ × Option ℕ) → Brackets others (view s) h → Brackets steps s h
  brackets_of_brackets_at_view s h b = record {
    above = λ xs t ran. b.above xs (view t) (yields_others_at_view xs s t ran);
    below = λ xs t u ran step. b.below xs (view t) (view u) (yields_others_at_view xs s t ran) (each t end u step);
  }

  pub as_sound_of_steps_within : (s : V) (h : ℕ × Option ℕ) → AsSound steps s h others (view s) h
  as_sound_of_steps_within s h = as_sound_of_brackets steps others s (view s) (λ n. n) (λ o. o) (λ k b. brackets_of_brackets_at_view s k b) h h refl

module _ {V P A E : Type 0} (view : V → P) (steps : P → Answered A E → P → Type 0) where
  abbrev seen_step : V → Answered A E → V → Type 0
  seen_step u r v = steps (view u) r (view v)

  pub brackets_seen : (s : V) (h : ℕ × Option ℕ) → Brackets steps (view s) h → Brackets seen_step s h
  brackets_seen s h b = brackets_of_brackets_at_view view seen_step steps (λ u r v step. step) s h b

  pub bounds_above_seen : (s : V) (o : Option ℕ) → BoundsAbove steps (view s) o → BoundsAbove seen_step s o
  bounds_above_seen s o b xs t ran = b xs (view t) (yields_others_at_view view seen_step steps (λ u r v step. step) xs s t ran)

  bounds_below_seen : (s : V) (n : ℕ) → BoundsBelow steps (view s) n → BoundsBelow seen_step s n
  bounds_below_seen s n b xs t u ran step = b xs (view t) (view u) (yields_others_at_view view seen_step steps (λ u r v step. step) xs s t ran) step

  pub as_sound_seen : {T B D : Type 0} {source : T → Answered B D → T → Type 0} {it : T} {k : ℕ × Option ℕ} (s : V) (h : ℕ × Option ℕ) → AsSound steps (view s) h source it k → AsSound seen_step s h source it k
  as_sound_seen s h a = record { above = λ i. bounds_above_seen s h.1 (a.above i); below = λ i. bounds_below_seen s h.0 (a.below i) }

  pub as_sound_as_both_seen : {T B D U C F : Type 0} {left : T → Answered B D → T → Type 0} {it : T} {j : ℕ × Option ℕ} {right : U → Answered C F → U → Type 0} {other : U} {k : ℕ × Option ℕ} (s : V) (h : ℕ × Option ℕ) → AsSoundAsBoth steps (view s) h left it j right other k → AsSoundAsBoth seen_step s h left it j right other k
  as_sound_as_both_seen s h a = record { above = λ i j. bounds_above_seen s h.1 (a.above i j); below = λ i j. bounds_below_seen s h.0 (a.below i j) }

-- ---- a value that draws from a source

module _ {S T A B E D : Type 0} (steps : S → Answered A E → S → Type 0) (source : T → Answered B D → T → Type 0) (view : S → T) (P : S → Type 0) where
  -- Where P holds of a value an item of it comes of items of its source, one at least, and P holds of what is left.
  pub record ItemsOfItems : Type 0 where
    pub items_of_item : (s t : S) (x : A) → P s → steps s (item x) t → (ys : List B) × Yields source (view s) ys (view t) × (1 ≤ length ys) × P t

  -- Where P holds of a value an item of it comes of one item of its source, and P holds of what is left.
  abbrev pub ItemOfItem : Type 0
  ItemOfItem = (s t : S) (x : A) → P s → steps s (item x) t → (y : B) × source (view s) (item y) (view t) × P t

  -- The same, and an end of it comes of an end.
  pub record OneOfOne : Type 0 where
    pub item_of_item : ItemOfItem
    pub end_of_end : (s t : S) → P s → steps s end t → source (view s) end (view t)

  source_yields_at_least : ItemsOfItems → (xs : List A) (s t : S) → P s → Yields steps s xs t → (ys : List B) × Yields source (view s) ys (view t) × (length xs ≤ length ys)
  source_yields_at_least f [] s t p e = ([], ap view e, omega arith)
  source_yields_at_least f (x ∷ xs) s t p ran =
      let d = f.items_of_item s ran.0 x p ran.1 in
      let rest = source_yields_at_least f xs ran.0 t d.3 ran.2 in
      (d.0 ++ rest.0, yields_appended_of_two_yields source d.0 rest.0 (view s) (view ran.0) (view t) d.1 rest.1, omega (arith, length-append d.0 rest.0, d.2, rest.2))

  -- the source's upper bound is one of the value
  pub bounds_above_of_source : ItemsOfItems → (s : S) → P s → (o : Option ℕ) → BoundsAbove source (view s) o → BoundsAbove steps s o
  bounds_above_of_source f s p o b xs t ran = let d = source_yields_at_least f xs s t p ran in if_some_at_least_of_smaller o (length xs) (length d.0) d.2 (b d.0 (view t) d.1)

  -- so it is alone
  brackets_upper_alone_of_source : ItemsOfItems → (s : S) → P s → (k : ℕ × Option ℕ) → Brackets source (view s) k → Brackets steps s (0, k.1)
  brackets_upper_alone_of_source f s p k b = record { above = bounds_above_of_source f s p k.1 b.above; below = λ xs t u ran step. omega arith }

  pub as_sound_upper_alone_of_source : ItemsOfItems → (s : S) → P s → (k h : ℕ × Option ℕ) → h ≡ (0, k.1) → AsSound steps s h source (view s) k
  as_sound_upper_alone_of_source f s p k h is = as_sound_of_brackets steps source s (view s) (λ n. 0) (λ o. o) (λ j b. brackets_upper_alone_of_source f s p j b) h k is

  pub source_yields_as_many : ItemOfItem → (xs : List A) (s t : S) → P s → Yields steps s xs t → (ys : List B) × Yields source (view s) ys (view t) × (length ys ≡ length xs) × P t
  source_yields_as_many f [] s t p e = ([], ap view e, refl, subst P e p)
  source_yields_as_many f (x ∷ xs) s t p ran =
      let d = f s ran.0 x p ran.1 in
      let rest = source_yields_as_many f xs ran.0 t d.2 ran.2 in
      (d.0 ∷ rest.0, (view ran.0, d.1, rest.1), omega (arith, rest.2), rest.3)

  -- the source's hint is one of the value
  pub brackets_where_one_of_one : OneOfOne → (s : S) → P s → (h : ℕ × Option ℕ) → Brackets source (view s) h → Brackets steps s h
  brackets_where_one_of_one f s p h b = record {
    above = λ xs t ran. let d = source_yields_as_many f.item_of_item xs s t p ran in if_some_at_least_of_smaller h.1 (length xs) (length d.0) (omega (arith, d.2)) (b.above d.0 (view t) d.1);
    below = λ xs t u ran step. let d = source_yields_as_many f.item_of_item xs s t p ran in let le = b.below d.0 (view t) (view u) d.1 (f.end_of_end t u d.3 step) in omega (arith, d.2, le);
  }

  pub as_sound_where_one_of_one : OneOfOne → (s : S) → P s → (h : ℕ × Option ℕ) → AsSound steps s h source (view s) h
  as_sound_where_one_of_one f s p h = as_sound_of_brackets steps source s (view s) (λ n. n) (λ o. o) (λ k b. brackets_where_one_of_one f s p k b) h h refl

-- ---- after a run of items

if_some_lessened_at_least : (o : Option ℕ) (i j n : ℕ) → n ≡ i + j → IfSome o (λ u. n ≤ u) → IfSome (option_map (λ u. u - i) o) (λ u. j ≤ u)
if_some_lessened_at_least None i j n same le = tt
if_some_lessened_at_least (Some u) i j n same le = omega (arith, same, le)

module _ {S A E : Type 0} (steps : S → Answered A E → S → Type 0) where
  -- Law: A hint that brackets what comes, less the items of a run, brackets what comes after that run.
  pub brackets_hint_less_after_yields : (s t : S) (xs : List A) (h : ℕ × Option ℕ) → Brackets steps s h → Yields steps s xs t → Brackets steps t (hint_less (length xs) h)
  brackets_hint_less_after_yields s t xs h b ran = record {
    above = λ ys u more. if_some_lessened_at_least h.1 (length xs) (length ys) (length (xs ++ ys)) (length-append xs ys) (b.above (xs ++ ys) u (yields_appended_of_two_yields steps xs ys s t u ran more));
    below = λ ys u v more step. let le = b.below (xs ++ ys) u v (yields_appended_of_two_yields steps xs ys s t u ran more) step in omega (arith, le, length-append xs ys);
  }
