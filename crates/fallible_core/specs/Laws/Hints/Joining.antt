-- Hints of the adapters that join sources.
use Rattle.std.specs.Prelude.{min, ◌≡◌, ℕ, zero, suc, ◌+◌, ◌-◌, ◌^◌, ◌≤◌, cond, ltb, List, [], ◌∷◌, length, Option, Some, None, Ok, Err, IfSome, ⊤, false, ◌⊎◌}
use Rattle.std.proofs.Common.{refl, sym, ap, subst, ◌∙◌, arith, inl, inr}
use Rattle.std.proofs.lemmas.Bool.{cases_lt, lt-ltb, le-ltb}
use Rattle.fallible_contract.specs.Traces.{Answered, Yields, item, end, is_end}
use Rattle.fallible_contract.specs.Contract.{Contract}
use Rattle.fallible_contract.specs.Hints.{hint_sum, hint_smaller, fitting_sum, smaller_bound, cycle_hint}
use Rattle.fallible_core.specs.Joining.Chain.{chain_step, chain_hints, chain_back, as_sides, sides_above, sides_below}
use Rattle.fallible_core.specs.Joining.Cycle.{cycle_step, as_clones}
use Rattle.fallible_core.specs.Joining.Zip.{ZipPlace, left_failed, both_drawn, left_answer, zip_answer, right_step, zip_step, zip_contract}
use Rattle.fallible_contract.specs.Sound.{HintsHold, as_made_of_both, sound_always}
use Rattle.fallible_contract.specs.Laws.Sound.{hold_seen}
use Rattle.fallible_core.specs.Laws.Hints.Holding.{hold_as_made_of_both, hold_always}
use Rattle.fallible_core.specs.Laws.Hints.Brackets.{BoundsAbove, BoundsBelow, Brackets, AsSoundAsBoth}
use Rattle.fallible_core.specs.Laws.Hints.Drawn.{as_sound_as_both_of_brackets, OneOfOne, ItemOfItem, pair_of_parts, source_yields_as_many, as_sound_where_one_of_one, brackets_any_lower_where_no_end, brackets_nothing_said, brackets_of_equal_hint}
use Rattle.std.specs.declared.alloc.AllocError.{AllocError}
use Rattle.fallible_core.specs.declared.joining.chain.StillDrawn.{StillDrawn}
use Rattle.fallible_core.specs.declared.joining.chain.StillDrawn.TheVariants.{Both, FirstAlone, SecondAlone}

-- the sums are the same whichever side is named first
fitting_sum_swapped : (f b : Option ℕ) → fitting_sum f b ≡ fitting_sum b f
fitting_sum_swapped (Some x) (Some y) = let same : x + y ≡ y + x = omega arith in ap (λ (n : ℕ). cond (ltb n (2 ^ 64)) (Some n) None) same
fitting_sum_swapped (Some x) None = refl
fitting_sum_swapped None (Some y) = refl
fitting_sum_swapped None None = refl

pub hint_sum_swapped : (f b : ℕ × Option ℕ) → hint_sum f b ≡ hint_sum b f
hint_sum_swapped f b = pair_of_parts (omega arith) (fitting_sum_swapped f.1 b.1)

if_some_fitting_sum_of_some_at_least : (x y i : ℕ) → i ≤ x + y → IfSome (fitting_sum (Some x) (Some y)) (λ n. i ≤ n)
if_some_fitting_sum_of_some_at_least x y i le = elim (cases_lt (x + y) (2 ^ 64)) [
  | inl fits ↦ rw (lt-ltb (x + y) (2 ^ 64) fits) le
  | inr past ↦ rw (le-ltb (x + y) (2 ^ 64) past) tt
]

-- the sum of bounds bounds the sum
pub if_some_fitting_sum_at_least_both : (f b : Option ℕ) (i j n : ℕ) → n ≡ i + j → IfSome f (λ m. i ≤ m) → IfSome b (λ m. j ≤ m) → IfSome (fitting_sum f b) (λ m. n ≤ m)
if_some_fitting_sum_at_least_both (Some x) (Some y) i j n same le ge = if_some_fitting_sum_of_some_at_least x y n (omega (arith, same, le, ge))
if_some_fitting_sum_at_least_both (Some x) None i j n same le ge = tt
if_some_fitting_sum_at_least_both None b i j n same le ge = tt

-- ---- `Chain`

module _ {S U A E : Type 0} (steps : S → Answered A E → S → Type 0) (others : U → Answered A E → U → Type 0) where
  abbrev chained_step : S × U × StillDrawn → Answered A E → S × U × StillDrawn → Type 0
  chained_step = chain_step steps others

  -- where one side alone is still drawn
  first_item : (p q : S × U × StillDrawn) (r : Answered A E) → p.2 ≡ FirstAlone → chained_step p r q → steps p.0 r q.0 × (q.2 ≡ FirstAlone)
  first_item (s, u, Both) q r e w = absurd cc
  first_item (s, u, FirstAlone) q r e w = (w.0, w.2)
  first_item (s, u, SecondAlone) q r e w = absurd cc

  pub one_of_one_where_first_alone : OneOfOne chained_step steps (λ p. p.0) (λ p. p.2 ≡ FirstAlone)
  one_of_one_where_first_alone = record { item_of_item = λ p q x e w. let d = first_item p q (item x) e w in (x, d.0, d.1); end_of_end = λ p q e w. (first_item p q end e w).0 }

  second_step_where_second_alone : (p q : S × U × StillDrawn) (r : Answered A E) → p.2 ≡ SecondAlone → chained_step p r q → others p.1 r q.1 × (q.2 ≡ SecondAlone)
  second_step_where_second_alone (s, u, Both) q r e w = absurd cc
  second_step_where_second_alone (s, u, FirstAlone) q r e w = absurd cc
  second_step_where_second_alone (s, u, SecondAlone) q r e w = (w.0, w.2)

  pub one_of_one_where_second_alone : OneOfOne chained_step others (λ p. p.1) (λ p. p.2 ≡ SecondAlone)
  one_of_one_where_second_alone = record { item_of_item = λ p q x e w. let d = second_step_where_second_alone p q (item x) e w in (x, d.0, d.1); end_of_end = λ p q e w. (second_step_where_second_alone p q end e w).0 }

  -- the first stays as it is once its end was met
  first_stays_in_second_alone : (xs : List A) (p q : S × U × StillDrawn) → p.2 ≡ SecondAlone → Yields chained_step p xs q → q.0 ≡ p.0
  first_stays_in_second_alone [] p q e ran = sym (ap (λ (z : S × U × StillDrawn). z.0) ran)
  first_stays_in_second_alone (x ∷ xs) (s, u, Both) q e ran = absurd cc
  first_stays_in_second_alone (x ∷ xs) (s, u, FirstAlone) q e ran = absurd cc
  first_stays_in_second_alone (x ∷ xs) (s, u, SecondAlone) q e ran = first_stays_in_second_alone xs ran.0 q ran.1.2 ran.2 ∙ ran.1.1

  -- A run of items of a chain of which both sides were still drawn: the first alone was drawn, or it met its end, and the second was drawn.
  record InFront (s : S) (u : U) (n : ℕ) (q : S × U × StillDrawn) : Type 0 where
    of_first : List A
    ran : Yields steps s of_first q.0
    many : n ≡ length of_first
    undrawn : q.1 ≡ u
    both : q.2 ≡ Both

  record InBack (s : S) (u : U) (n : ℕ) (q : S × U × StillDrawn) : Type 0 where
    of_first : List A
    of_second : List A
    after : S
    ran : Yields steps s of_first after
    ended : steps after end q.0
    ran_second : Yields others u of_second q.1
    many : n ≡ length of_first + length of_second
    second : q.2 ≡ SecondAlone

  in_front_or_in_back_with_item_before : (x : A) (s t : S) (u : U) (n : ℕ) (q : S × U × StillDrawn) → steps s (item x) t → InFront t u n q ⊎ InBack t u n q → InFront s u (suc n) q ⊎ InBack s u (suc n) q
  in_front_or_in_back_with_item_before x s t u n q step (inl d) = inl (record { of_first = x ∷ d.of_first; ran = (t, step, d.ran); many = omega (arith, d.many); undrawn = d.undrawn; both = d.both })
  in_front_or_in_back_with_item_before x s t u n q step (inr d) = inr (record { of_first = x ∷ d.of_first; of_second = d.of_second; after = d.after; ran = (t, step, d.ran); ended = d.ended; ran_second = d.ran_second; many = omega (arith, d.many); second = d.second })

  in_front_or_in_back_of_run : (xs : List A) (p : S × U × StillDrawn) (q : S × U × StillDrawn) → p.2 ≡ Both → Yields chained_step p xs q → InFront p.0 p.1 (length xs) q ⊎ InBack p.0 p.1 (length xs) q
  in_front_or_in_back_of_run [] p q e ran = inl (record { of_first = []; ran = ap (λ (z : S × U × StillDrawn). z.0) ran; many = refl; undrawn = sym (ap (λ (z : S × U × StillDrawn). z.1) ran); both = subst (λ (z : S × U × StillDrawn). z.2 ≡ Both) ran e })
  in_front_or_in_back_of_run (x ∷ xs) (s, u, FirstAlone) q e ran = absurd cc
  in_front_or_in_back_of_run (x ∷ xs) (s, u, SecondAlone) q e ran = absurd cc
  in_front_or_in_back_of_run (x ∷ xs) (s, u, Both) q e ran = elim ran.1 [
    | inl d ↦ in_front_or_in_back_with_item_before x s ran.0.0 u (length xs) q d.0 (subst (λ (v : U). InFront ran.0.0 v (length xs) q ⊎ InBack ran.0.0 v (length xs) q) d.2 (in_front_or_in_back_of_run xs ran.0 q d.3 ran.2))
    | inr d ↦
        let rest = source_yields_as_many chained_step others (λ p. p.1) (λ p. p.2 ≡ SecondAlone) one_of_one_where_second_alone.item_of_item xs ran.0 q d.2 ran.2 in
        let stays : q.0 ≡ ran.0.0 = first_stays_in_second_alone xs ran.0 q d.2 ran.2 in
        inr (record { of_first = []; of_second = x ∷ rest.0; after = s; ran = refl; ended = subst (λ (t : S). steps s end t) (sym stays) d.0; ran_second = (ran.0.1, d.1, rest.1); many = omega (arith, rest.2); second = rest.3 })
  ]

  -- ---- bounds

  ends_of_both : (p q : S × U × StillDrawn) → p.2 ≡ Both → chained_step p end q → steps p.0 end q.0 × others p.1 end q.1
  ends_of_both (s, u, Both) q e w = elim w [ inl d ↦ absurd (let no : is_end {A = A} {E = E} end ≡ false = d.1 in cc) | inr d ↦ (d.0, d.1) ]
  ends_of_both (s, u, FirstAlone) q e w = absurd cc
  ends_of_both (s, u, SecondAlone) q e w = absurd cc

  hint_sum_upper_at_least_yielded : (p q : S × U × StillDrawn) (f b : ℕ × Option ℕ) (n : ℕ) → Brackets steps p.0 f → Brackets others p.1 b → InFront p.0 p.1 n q ⊎ InBack p.0 p.1 n q → IfSome (hint_sum f b).1 (λ m. n ≤ m)
  hint_sum_upper_at_least_yielded p q f b n i j (inl d) = if_some_fitting_sum_at_least_both f.1 b.1 n 0 n (omega arith) (subst (λ (k : ℕ). IfSome f.1 (λ m. k ≤ m)) (sym d.many) (i.above d.of_first q.0 d.ran)) (j.above [] p.1 refl)
  hint_sum_upper_at_least_yielded p q f b n i j (inr d) = if_some_fitting_sum_at_least_both f.1 b.1 (length d.of_first) (length d.of_second) n d.many (i.above d.of_first d.after d.ran) (j.above d.of_second q.1 d.ran_second)

  hint_sum_lower_at_most_yielded : (p q z : S × U × StillDrawn) (f b : ℕ × Option ℕ) (n : ℕ) → Brackets steps p.0 f → Brackets others p.1 b → InFront p.0 p.1 n q ⊎ InBack p.0 p.1 n q → chained_step q end z → f.0 + b.0 ≤ n
  hint_sum_lower_at_most_yielded p q z f b n i j (inl d) w =
      let e = ends_of_both q z d.both w in
      let le = i.below d.of_first q.0 z.0 d.ran e.0 in
      let ge : b.0 ≤ 0 = j.below [] p.1 z.1 refl (subst (λ (v : U). others v end z.1) d.undrawn e.1) in
      omega (arith, le, ge, d.many)
  hint_sum_lower_at_most_yielded p q z f b n i j (inr d) w =
      let le = i.below d.of_first d.after q.0 d.ran d.ended in
      let ge = j.below d.of_second q.1 z.1 d.ran_second (second_step_where_second_alone q z end d.second w).0 in
      omega (arith, le, ge, d.many)

  pub brackets_hint_sum_where_both : (p : S × U × StillDrawn) (f b : ℕ × Option ℕ) → p.2 ≡ Both → Brackets steps p.0 f → Brackets others p.1 b → Brackets chained_step p (hint_sum f b)
  brackets_hint_sum_where_both p f b e i j = record {
    above = λ xs q ran. hint_sum_upper_at_least_yielded p q f b (length xs) i j (in_front_or_in_back_of_run xs p q e ran);
    below = λ xs q z ran w. let le = hint_sum_lower_at_most_yielded p q z f b (length xs) i j (in_front_or_in_back_of_run xs p q e ran) w in omega (arith, le);
  }

  pub as_sound_as_both_of_joining : (p : S × U × StillDrawn) (h f b : ℕ × Option ℕ) → p.2 ≡ Both → h ≡ hint_sum f b → AsSoundAsBoth chained_step p h steps p.0 f others p.1 b
  as_sound_as_both_of_joining p h f b e is = as_sound_as_both_of_brackets chained_step steps others p p.0 p.1 (λ i j. min (i + j) (2 ^ 64 - 1)) fitting_sum (λ j k i l. brackets_hint_sum_where_both p j k e i l) h f b is

module _ {S U A E : Type 0} (first : Contract S A E) (second : Contract U A E) where
  -- what its hints are made of, by the sides that are still drawn
  pub hints_are_sum_where_both : (p : S × U × StillDrawn) (h : ℕ × Option ℕ) → p.2 ≡ Both → chain_hints first second p h → (f : ℕ × Option ℕ) × (b : ℕ × Option ℕ) × first.hints p.0 f × second.hints p.1 b × (h ≡ hint_sum f b)
  hints_are_sum_where_both (s, u, Both) h e is = is
  hints_are_sum_where_both (s, u, FirstAlone) h e is = absurd cc
  hints_are_sum_where_both (s, u, SecondAlone) h e is = absurd cc

  pub first_hints_where_first_alone : (p : S × U × StillDrawn) (h : ℕ × Option ℕ) → p.2 ≡ FirstAlone → chain_hints first second p h → first.hints p.0 h
  first_hints_where_first_alone (s, u, Both) h e is = absurd cc
  first_hints_where_first_alone (s, u, FirstAlone) h e is = is
  first_hints_where_first_alone (s, u, SecondAlone) h e is = absurd cc

  pub second_hints_where_second_alone : (p : S × U × StillDrawn) (h : ℕ × Option ℕ) → p.2 ≡ SecondAlone → chain_hints first second p h → second.hints p.1 h
  second_hints_where_second_alone (s, u, Both) h e is = absurd cc
  second_hints_where_second_alone (s, u, FirstAlone) h e is = absurd cc
  second_hints_where_second_alone (s, u, SecondAlone) h e is = is

-- ---- `Zip`

module _ {S U A B E : Type 0} (steps : S → Answered A E → S → Type 0) (others : U → Answered B E → U → Type 0) where
  abbrev zipped_step : S × U → Answered (A × B) E → S × U → Type 0
  zipped_step = zip_step steps others

  both_items_of_zip_item : (p q : S × U) (z : A × B) (x : ZipPlace A B E) → steps p.0 (left_answer x) q.0 → right_step others p.1 x q.1 → item z ≡ zip_answer x → ((a : A) × steps p.0 (item a) q.0) × ((b : B) × others p.1 (item b) q.1)
  both_items_of_zip_item p q z (left_failed e) l r is = absurd cc
  both_items_of_zip_item p q z (both_drawn x (Err e)) l r is = absurd cc
  both_items_of_zip_item p q z (both_drawn (Some a) (Ok (Some b))) l r is = ((a, l), (b, r))
  both_items_of_zip_item p q z (both_drawn (Some a) (Ok None)) l r is = absurd cc
  both_items_of_zip_item p q z (both_drawn None (Ok y)) l r is = absurd cc

  either_ends_of_zip_end : (p q : S × U) (x : ZipPlace A B E) → steps p.0 (left_answer x) q.0 → right_step others p.1 x q.1 → end ≡ zip_answer x → steps p.0 end q.0 ⊎ others p.1 end q.1
  either_ends_of_zip_end p q (left_failed e) l r is = absurd cc
  either_ends_of_zip_end p q (both_drawn x (Err e)) l r is = absurd cc
  either_ends_of_zip_end p q (both_drawn (Some a) (Ok (Some b))) l r is = absurd cc
  either_ends_of_zip_end p q (both_drawn (Some a) (Ok None)) l r is = inr r
  either_ends_of_zip_end p q (both_drawn None (Ok y)) l r is = inl l

  item_of_item_left : ItemOfItem zipped_step steps (λ p. p.0) (λ p. ⊤)
  item_of_item_left p q z _ w = let d = (both_items_of_zip_item p q z w.0 w.1 w.2 w.3).0 in (d.0, d.1, tt)

  item_of_item_right : ItemOfItem zipped_step others (λ p. p.1) (λ p. ⊤)
  item_of_item_right p q z _ w = let d = (both_items_of_zip_item p q z w.0 w.1 w.2 w.3).1 in (d.0, d.1, tt)

  smaller_above : (g k : Option ℕ) (i j n : ℕ) → i ≡ n → j ≡ n → IfSome g (λ m. i ≤ m) → IfSome k (λ m. j ≤ m) → IfSome (smaller_bound g k) (λ m. n ≤ m)
  smaller_above (Some x) (Some y) i j n e d le ge = omega (arith, e, d, le, ge)
  smaller_above (Some x) None i j n e d le ge = omega (arith, e, le)
  smaller_above None k i j n e d le ge = subst (λ (m : ℕ). IfSome k (λ y. m ≤ y)) d ge

  pub brackets_zip_by_smaller_hint : (p : S × U) (g k : ℕ × Option ℕ) → Brackets steps p.0 g → Brackets others p.1 k → Brackets zipped_step p (hint_smaller g k)
  brackets_zip_by_smaller_hint p g k i j = record {
    above = λ zs q ran.
        let a = source_yields_as_many zipped_step steps (λ p. p.0) (λ p. ⊤) item_of_item_left zs p q tt ran in
        let b = source_yields_as_many zipped_step others (λ p. p.1) (λ p. ⊤) item_of_item_right zs p q tt ran in
        smaller_above g.1 k.1 (length a.0) (length b.0) (length zs) a.2 b.2 (i.above a.0 q.0 a.1) (j.above b.0 q.1 b.1);
    below = λ zs q y ran w.
        let a = source_yields_as_many zipped_step steps (λ p. p.0) (λ p. ⊤) item_of_item_left zs p q tt ran in
        let b = source_yields_as_many zipped_step others (λ p. p.1) (λ p. ⊤) item_of_item_right zs p q tt ran in
        elim (either_ends_of_zip_end q y w.0 w.1 w.2 w.3) [
          | inl l ↦ let le = i.below a.0 q.0 y.0 a.1 l in omega (arith, le, a.2)
          | inr r ↦ let le = j.below b.0 q.1 y.1 b.1 r in omega (arith, le, b.2)
        ];
  }

  pub as_sound_as_both_zip : (p : S × U) (h g k : ℕ × Option ℕ) → h ≡ hint_smaller g k → AsSoundAsBoth zipped_step p h steps p.0 g others p.1 k
  as_sound_as_both_zip p h g k is = as_sound_as_both_of_brackets zipped_step steps others p p.0 p.1 min smaller_bound (λ f b i j. brackets_zip_by_smaller_hint p f b i j) h g k is

-- ---- `Cycle`

module _ {S A E : Type 0} (is_clone : S → S → Type 0) (is_infallible : S → Type 0) (from : AllocError → E → Type 0) (steps : S → Answered A E → S → Type 0) where
  abbrev cycled_step : S × S → Answered A E → S × S → Type 0
  cycled_step = cycle_step is_clone is_infallible from steps

  cycle_kept_stays : (xs : List A) (p q : S × S) → Yields cycled_step p xs q → q.1 ≡ p.1
  cycle_kept_stays [] p q ran = sym (ap (λ (z : S × S). z.1) ran)
  cycle_kept_stays (x ∷ xs) p q ran = cycle_kept_stays xs ran.0 q ran.2 ∙ ran.1.0

  -- an end comes only where a clone returns one at once
  clone_ends_where_cycle_ends : (p q : S × S) → cycled_step p end q → (c : S) × is_clone p.1 c × steps c end q.0
  clone_ends_where_cycle_ends p q w = elim w.1 [
    | inl d ↦ absurd (let no : is_end {A = A} {E = E} end ≡ false = d.1 in cc)
    | inr d ↦ elim d [
      | inl e ↦ (e.1, e.3, e.4)
      | inr e ↦ absurd (let no = e.2 in cc)
    ]
  ]

  -- where the lower bound bounds what comes from each clone of the kept source
  pub brackets_cycle : (p : S × S) (k : ℕ × Option ℕ) → ((c : S) → is_clone p.1 c → BoundsBelow steps c k.0) → Brackets cycled_step p (cycle_hint k)
  brackets_cycle p (zero, high) b = brackets_nothing_said cycled_step p
  brackets_cycle p (suc low, high) b = brackets_any_lower_where_no_end cycled_step p (2 ^ 64 - 1) (λ xs q z ran w.
      let d = clone_ends_where_cycle_ends q z w in
      let is : is_clone p.1 d.0 = subst (λ (k : S). is_clone k d.0) (cycle_kept_stays xs p q ran) d.1 in
      let few : suc low ≤ 0 = b d.0 is [] d.0 z.0 refl d.2 in
      omega (arith, few))

  -- it has no upper bound
  bounds_above_cycle : (p : S × S) (k : ℕ × Option ℕ) → BoundsAbove cycled_step p (cycle_hint k).1
  bounds_above_cycle p (zero, high) xs t ran = tt
  bounds_above_cycle p (suc low, high) xs t ran = tt

-- ---- where they are sound

module _ {S U A E : Type 0} (m : Contract S A E) (n : Contract U A E) (holds : HintsHold m.steps m.hints m.sound) (others : HintsHold n.steps n.hints n.sound) where
  chain_above : (p : S × U × StillDrawn) (h : ℕ × Option ℕ) → chain_hints m n p h → sides_above m.hints m.sound n.hints n.sound p h.1 → BoundsAbove (chain_step m.steps n.steps) p h.1
  chain_above (s, u, Both) h is a = subst (λ (o : Option ℕ). BoundsAbove (chain_step m.steps n.steps) (s, u, Both) o) (sym a.4) ((as_sound_as_both_of_joining m.steps n.steps (s, u, Both) (hint_sum a.0 a.1) a.0 a.1 refl refl).above (holds.above s a.0 a.2 a.5) (others.above u a.1 a.3 a.6))
  chain_above (s, u, FirstAlone) h is a = (as_sound_where_one_of_one _ _ _ _ (one_of_one_where_first_alone m.steps n.steps) (s, u, FirstAlone) refl h).above (holds.above s h is a)
  chain_above (s, u, SecondAlone) h is a = (as_sound_where_one_of_one _ _ _ _ (one_of_one_where_second_alone m.steps n.steps) (s, u, SecondAlone) refl h).above (others.above u h is a)

  chain_below : (p : S × U × StillDrawn) (h : ℕ × Option ℕ) → chain_hints m n p h → sides_below m.hints m.sound n.hints n.sound p h.0 → BoundsBelow (chain_step m.steps n.steps) p h.0
  chain_below (s, u, Both) h is b = subst (λ (i : ℕ). BoundsBelow (chain_step m.steps n.steps) (s, u, Both) i) (sym b.4) ((as_sound_as_both_of_joining m.steps n.steps (s, u, Both) (hint_sum b.0 b.1) b.0 b.1 refl refl).below (holds.below s b.0 b.2 b.5) (others.below u b.1 b.3 b.6))
  chain_below (s, u, FirstAlone) h is b = (as_sound_where_one_of_one _ _ _ _ (one_of_one_where_first_alone m.steps n.steps) (s, u, FirstAlone) refl h).below (holds.below s h is b)
  chain_below (s, u, SecondAlone) h is b = (as_sound_where_one_of_one _ _ _ _ (one_of_one_where_second_alone m.steps n.steps) (s, u, SecondAlone) refl h).below (others.below u h is b)

  pub chain_hold : HintsHold (chain_step m.steps n.steps) (chain_hints m n) (as_sides m.hints m.sound n.hints n.sound)
  chain_hold = record { above = chain_above; below = chain_below }

module _ {S U A E : Type 0} (m : Contract S A E) (n : Contract U A E) where
  chain_hints_swapped : (p : S × U × StillDrawn) (h : ℕ × Option ℕ) → chain_hints m n p h → chain_hints n m (chain_back p) h
  chain_hints_swapped (s, u, Both) h is = (is.1, is.0, is.3, is.2, is.4 ∙ hint_sum_swapped is.0 is.1)
  chain_hints_swapped (s, u, FirstAlone) h is = is
  chain_hints_swapped (s, u, SecondAlone) h is = is

  sides_above_swapped : (p : S × U × StillDrawn) (high : Option ℕ) → sides_above m.hints m.sound n.hints n.sound p high → sides_above n.hints n.sound m.hints m.sound (chain_back p) high
  sides_above_swapped (s, u, Both) high a = (a.1, a.0, a.3, a.2, a.4 ∙ ap (λ (z : ℕ × Option ℕ). z.1) (hint_sum_swapped a.0 a.1), a.6, a.5)
  sides_above_swapped (s, u, FirstAlone) high a = a
  sides_above_swapped (s, u, SecondAlone) high a = a

  sides_below_swapped : (p : S × U × StillDrawn) (low : ℕ) → sides_below m.hints m.sound n.hints n.sound p low → sides_below n.hints n.sound m.hints m.sound (chain_back p) low
  sides_below_swapped (s, u, Both) low b = (b.1, b.0, b.3, b.2, b.4 ∙ ap (λ (z : ℕ × Option ℕ). z.0) (hint_sum_swapped b.0 b.1), b.6, b.5)
  sides_below_swapped (s, u, FirstAlone) low b = b
  sides_below_swapped (s, u, SecondAlone) low b = b

  -- from the back: m's and n's steps are those from the back, the second's before the first's
  pub chain_back_hold : HintsHold m.steps m.hints m.sound → HintsHold n.steps n.hints n.sound → HintsHold (λ (p : S × U × StillDrawn) r q. chain_step n.steps m.steps (chain_back p) r (chain_back q)) (chain_hints m n) (as_sides m.hints m.sound n.hints n.sound)
  chain_back_hold holds others = let back = hold_seen (λ (p : S × U × StillDrawn). chain_back p) (chain_hold n m others holds) in record {
    above = λ p h is a. back.above p h (chain_hints_swapped p h is) (sides_above_swapped p h.1 a);
    below = λ p h is b. back.below p h (chain_hints_swapped p h is) (sides_below_swapped p h.0 b);
  }

pub zip_hold : {S U A B E : Type 0} (m : Contract S A E) (n : Contract U B E) → HintsHold m.steps m.hints m.sound → HintsHold n.steps n.hints n.sound → HintsHold (zip_step m.steps n.steps) (zip_contract m n).hints (as_made_of_both (λ p. p.0) (λ p. p.1) m.hints m.sound n.hints n.sound hint_smaller)
zip_hold m n holds others = hold_as_made_of_both (zip_step m.steps n.steps) (zip_contract m n).hints holds others (λ p. p.0) (λ p. p.1) hint_smaller (λ p j k. as_sound_as_both_zip m.steps n.steps p (hint_smaller j k) j k refl)

module _ {S A E : Type 0} (is_clone : S → S → Type 0) (is_infallible : S → Type 0) (from : AllocError → E → Type 0) (m : Contract S A E) where
  pub cycle_hold : HintsHold (cycle_step is_clone is_infallible from m.steps) (λ p h. (k : ℕ × Option ℕ) × m.hints p.1 k × (h ≡ cycle_hint k)) (as_clones is_clone m)
  cycle_hold = record {
    above = λ p h is a. subst (λ (j : ℕ × Option ℕ). BoundsAbove (cycle_step is_clone is_infallible from m.steps) p j.1) (sym is.2) (bounds_above_cycle is_clone is_infallible from m.steps p is.0);
    below = λ p h is b. subst (λ (n : ℕ). BoundsBelow (cycle_step is_clone is_infallible from m.steps) p n) (sym b.2) (brackets_cycle is_clone is_infallible from m.steps p b.0 b.3).below;
  }

-- `Flatten` says nothing of how many come
pub flatten_hold : {V B E : Type 0} (steps : V → Answered B E → V → Type 0) → HintsHold steps (λ s h. h ≡ (0, None)) sound_always
flatten_hold steps = hold_always steps (λ s h. h ≡ (0, None)) (λ s h is. brackets_of_equal_hint steps s is (brackets_nothing_said steps s))
