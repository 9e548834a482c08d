-- The contracts of `ZipLongest`, `ZipEq` and `PadUsing` are lawful where those of both sides are.
use Rattle.std.specs.Prelude.{ℕ, ◌≡◌, ◌≤◌, max, ⊤, IfSome, Some, None, Option, Ok, Err, Result, ◌+◌, ◌⊎◌, min, zero, suc, ◌-◌, ◌<◌, length, List, [], ◌∷◌, ◌++◌, replicate}
use Rattle.std.specs.Fn.{Mut}
use Rattle.std.specs.declared.cmp.Ordering.TheVariants.{Equal}
use Rattle.std.proofs.Common.{arith, refl, subst, inl, sym, ap, inr}
use Rattle.fallible_iterator.specs.Closures.{IsCallable, MayAnswer, Reaches, call_by_value, takes_by_value}
use Rattle.fallible_iterator.specs.Contract.{Contract, KeptByDraw, Lawful}
use Rattle.fallible_iterator.specs.Held.{held_count}
use Rattle.fallible_iterator.specs.Hints.{hint_smaller, smaller_bound}
use Rattle.fallible_iterator.specs.Lists.{result_answer}
use Rattle.fallible_iterator.specs.Sound.{HintsHold, sound_always}
use Rattle.fallible_iterator.specs.Sources.FromFn.{call_of_none}
use Rattle.fallible_iterator.specs.Traces.{Answered, item, end, Run, Yields}
use Rattle.fallible_iterator.specs.Laws.Closures.{reaches_reflexive, reaches_by_call_first, is_callable_after, may_answer_of_call, may_answer_where_reached_may_answer}
use Rattle.fallible_iterator.specs.Laws.LawForm.{IsTraced}
use Rattle.fallible_itertools_joins.specs.Sides.{MakesTaken, OfEachSide, fused_contract, holding}
use Rattle.fallible_itertools_joins.specs.Zip.{IndexTrace, MakesPadded, MakesPair, values_from_index, greater_bound, hint_greater, index_contract, index_step, longest_join, pad_using_contract, padding, pair_join, takes_none, zip_eq_contract, zip_longest_contract}
use Rattle.fallible_itertools_joins.specs.Laws.Sides.{Bounds, Counts, CountsHolding, Follows, IsLawfulHolding, IsLawfulJoin, MadeOf, MakesOneAtLeast, MakesOneAtMost, NoItemAfterEnd, OfItem, counts_as, counts_holding, is_lawful_holding, is_lawful_join_as, lawful_beside, lawful_joined}
use Rattle.fallible_itertools_joins.specs.Laws.Taken.{counts_both_taken, holds_taken, made_taken, of_each_where_each_implies}
use Rattle.fallible_itertools_joins.specs.declared.zip.EitherOrBoth.{EitherOrBoth}

-- ---- The contract of `ZipLongest` is lawful where those of both sides are

module _ {A B : Type 0} where
  abbrev Askable : (A → Type 0) → (B → Type 0) → Unit {0} → Type 0
  Askable P Q f = ⊤

  abbrev Gives : (A → Type 0) → (B → Type 0) → Unit {0} → EitherOrBoth A B → Type 0
  Gives P Q f z = OfEachSide P Q z

no_failure : {E : Type 0} (e : E) → ◌≡◌ {A = Result (Unit {0}) E} (Err e) (Ok tt) → ⊥
no_failure e is = cc

module _ {A B E : Type 0} where
  abbrev Taken : Unit {0} → Option A → Option B → Answered (EitherOrBoth A B) E × (Option A × Option B) → Unit {0} → Type 0
  Taken = MakesTaken {K = Unit {0}} (λ k. Equal) (λ t. t) (λ f x y v g. v ≡ Ok tt)

  abbrev Refuses : (A → Type 0) → (B → Type 0) → Unit {0} → E → Type 0
  Refuses P Q f e = ⊥

  is_lawful_longest : IsLawfulHolding Taken Askable Gives Refuses
  is_lawful_longest = record {
    less = λ P P' Q Q' f p q. ((λ h. h), (λ z h. of_each_where_each_implies P P' Q Q' z p q h), (λ e h. h));
    holds = holds_taken (λ k. Equal) (λ t. t) (λ f x y v g. v ≡ Ok tt);
    made = λ P Q f a b z g p q m. (made_taken (λ k. Equal) (λ t. t) (λ f x y v g. v ≡ Ok tt) Askable Gives Refuses P Q f (λ t h. h) a b z g (λ x y e i j c. no_failure e c) p q m, ((λ h. h), (λ z h. h), (λ e h. h)));
  }

  pub is_lawful_join_longest : IsLawfulJoin (longest_join {A = A} {B = B} {E = E})
  is_lawful_join_longest = is_lawful_join_as {V = (Option A × Option B) × Unit {0}} (λ h. ((h, None), tt)) (holding Taken Askable Gives Refuses hint_greater) (is_lawful_holding Taken Askable Gives Refuses hint_greater is_lawful_longest)

-- ---- its hint counts

greater_bound_is_above_max : (a b : Option ℕ) (i j n : ℕ) → n ≤ max i j → IfSome a (λ m. i ≤ m) → IfSome b (λ m. j ≤ m) → IfSome (greater_bound a b) (λ m. n ≤ m)
greater_bound_is_above_max (Some x) (Some y) i j n few le also = omega (arith, few, le, also)
greater_bound_is_above_max (Some x) None i j n few le also = tt
greater_bound_is_above_max None b i j n few le also = tt

pub greater_bounds : (g k : ℕ × Option ℕ) → Bounds max max (hint_greater g k) g k
greater_bounds g k = record { below = λ n i j few low also. omega (arith, few, low, also); above = λ n i j few high also. greater_bound_is_above_max g.1 k.1 i j n few high also }

counts_longest : {A B E : Type 0} → Counts (longest_join {A = A} {B = B} {E = E})
counts_longest {A = A} {B = B} = counts_as {V = (Option A × Option B) × Unit {0}} (λ h. ((h, None), tt)) (holding Taken Askable Gives Refuses hint_greater) (counts_holding Taken max max hint_greater (counts_both_taken (λ k. Equal) (λ t. t) (λ f x y v g. v ≡ Ok tt) hint_greater (λ k. refl) greater_bounds) Askable Gives Refuses)

pub lawful_zip_longest : {S U A B E : Type 0} {left : Contract S A E} {right : Contract U B E} → Lawful left → Lawful right → Lawful (zip_longest_contract (fused_contract left) (fused_contract right))
lawful_zip_longest l k = lawful_joined longest_join l k is_lawful_join_longest counts_longest

-- ---- The contract of `ZipEq` is lawful where those of both sides are

module _ {F A B E : Type 0} (call : F → Unit {0} → E → F → Type 0) (takes : F → Type 0) where
  abbrev PairAskable : (A → Type 0) → (B → Type 0) → F → Type 0
  PairAskable P Q f = IsCallable call (λ g _. takes g) (λ _. ⊤) f

  abbrev PairRefuses : (A → Type 0) → (B → Type 0) → F → E → Type 0
  PairRefuses P Q f e = MayAnswer call (λ _. ⊤) f (λ _ d. d ≡ e)

  abbrev Paired : (A → Type 0) → (A → Type 0) → (B → Type 0) → (B → Type 0) → F → F → Type 0
  Paired P P' Q Q' f g = Follows (MakesPair {A = A} {B = B} call) PairAskable (λ P Q f z. P z.0 × Q z.1) PairRefuses P P' Q Q' f g

  follows_reached : (P P' : A → Type 0) (Q Q' : B → Type 0) (f g : F) → ((z : A) → P' z → P z) → ((z : B) → Q' z → Q z) → Reaches call (λ _. ⊤) f g → Paired P P' Q Q' f g
  follows_reached P P' Q Q' f g p q r = ((λ h. is_callable_after (λ z w. w) r h), (λ z h. (p z.0 h.0, q z.1 h.1)), (λ e h. may_answer_where_reached_may_answer (λ z w. w) r h))

  pub holds_pair : (f : F) (a : Option A) (b : Option B) (z : Answered (A × B) E × (Option A × Option B)) (g : F) → MakesPair call f a b z g → ((z.1.0 ≡ None) ⊎ (z.1.0 ≡ a)) × ((z.1.1 ≡ None) ⊎ (z.1.1 ≡ b))
  holds_pair f (Some x) (Some y) z g m = rw m.0 (inl refl, inl refl)
  holds_pair f (Some x) None z g m = rw m.2 (inl refl, inl refl)
  holds_pair f None (Some y) z g m = rw m.2 (inl refl, inl refl)
  holds_pair f None None z g m = rw m.0 (inl refl, inl refl)

  module _ (P : A → Type 0) (Q : B → Type 0) (f : F) where
    made_pair : (a : Option A) (b : Option B) (z : Answered (A × B) E × (Option A × Option B)) (g : F) → OfItem P a → OfItem Q b → MakesPair call f a b z g → MadeOf (MakesPair call) PairAskable (λ P Q f z. P z.0 × Q z.1) PairRefuses P Q f (held_count a + held_count b) (held_count z.1.0 + held_count z.1.1) z.0 × Paired P P Q Q f g
    made_pair (Some x) (Some y) z g p q m = rw (m.0, m.1) (((p, q), omega arith), follows_reached P P Q Q f f (λ x h. h) (λ y h. h) reaches_reflexive)
    made_pair (Some x) None z g p q (e, c, is) = rw is ((may_answer_of_call g tt e tt c refl, omega arith), follows_reached P P Q Q f g (λ x h. h) (λ y h. h) (reaches_by_call_first tt e tt c reaches_reflexive))
    made_pair None (Some y) z g p q (e, c, is) = rw is ((may_answer_of_call g tt e tt c refl, omega arith), follows_reached P P Q Q f g (λ x h. h) (λ y h. h) (reaches_by_call_first tt e tt c reaches_reflexive))
    made_pair None None z g p q m = rw (m.0, m.1) (omega arith, follows_reached P P Q Q f f (λ x h. h) (λ y h. h) reaches_reflexive)

  is_lawful_pair : IsLawfulHolding (MakesPair {A = A} {B = B} call) PairAskable (λ P Q f z. P z.0 × Q z.1) PairRefuses
  is_lawful_pair = record { less = λ P P' Q Q' f p q. follows_reached P P' Q Q' f f p q reaches_reflexive; holds = holds_pair; made = λ P Q f a b z g p q m. made_pair P Q f a b z g p q m }

  pub is_lawful_pair_join : IsLawfulJoin (pair_join {A = A} {B = B} call takes)
  is_lawful_pair_join = is_lawful_join_as (λ t. ((t.0, None), t.1)) _ (is_lawful_holding (MakesPair call) PairAskable (λ P Q f z. P z.0 × Q z.1) PairRefuses hint_smaller is_lawful_pair)

-- ---- its hint counts

smaller_above : (a b : Option ℕ) (i j n : ℕ) → n ≤ min i j → IfSome a (λ m. i ≤ m) → IfSome b (λ m. j ≤ m) → IfSome (smaller_bound a b) (λ m. n ≤ m)
smaller_above (Some x) (Some y) i j n few le also = omega (arith, few, le, also)
smaller_above (Some x) None i j n few le also = omega (arith, few, le)
smaller_above None (Some y) i j n few le also = omega (arith, few, also)
smaller_above None None i j n few le also = tt

smaller_bounds : (g k : ℕ × Option ℕ) → Bounds min min (hint_smaller g k) g k
smaller_bounds g k = record { below = λ n i j few low also. omega (arith, few, low, also); above = λ n i j few high also. smaller_above g.1 k.1 i j n few high also }

module _ {F A B E : Type 0} (call : F → Unit {0} → E → F → Type 0) (takes : F → Type 0) where
  one_at_pair : (f : F) (a : Option A) (b : Option B) (z : Answered (A × B) E × (Option A × Option B)) (g : F) (c : A × B) → MakesPair call f a b z g → z.0 ≡ item c → MakesOneAtMost min a b z.1 × MakesOneAtLeast min a b z.1
  one_at_pair f (Some x) (Some y) z g c m is = rw m.0 ((λ i j. omega arith), (λ i j d e. omega arith))
  one_at_pair f (Some x) None z g c m is = absurd (let no = subst (λ (w : Answered (A × B) E × (Option A × Option B)). w.0 ≡ item c) m.2 is in cc)
  one_at_pair f None (Some y) z g c m is = absurd (let no = subst (λ (w : Answered (A × B) E × (Option A × Option B)). w.0 ≡ item c) m.2 is in cc)
  one_at_pair f None None z g c m is = absurd (let no = subst (λ (w : Answered (A × B) E × (Option A × Option B)). w.0 ≡ item c) m.0 is in cc)

  none_at_end : (f : F) (a : Option A) (b : Option B) (z : Answered (A × B) E × (Option A × Option B)) (g : F) → MakesPair call f a b z g → z.0 ≡ end → (a ≡ None) × (b ≡ None)
  none_at_end f (Some x) (Some y) z g m is = absurd (let no = subst (λ (w : Answered (A × B) E × (Option A × Option B)). w.0 ≡ end) m.0 is in cc)
  none_at_end f (Some x) None z g m is = absurd (let no = subst (λ (w : Answered (A × B) E × (Option A × Option B)). w.0 ≡ end) m.2 is in cc)
  none_at_end f None (Some y) z g m is = absurd (let no = subst (λ (w : Answered (A × B) E × (Option A × Option B)). w.0 ≡ end) m.2 is in cc)
  none_at_end f None None z g m is = (refl, refl)

  counts_made_pair : CountsHolding (MakesPair {A = A} {B = B} call) hint_smaller min min
  counts_made_pair = record { at_item = one_at_pair; at_end = none_at_end; nothing = refl; bounds = smaller_bounds }

  counts_pair : Counts (pair_join {A = A} {B = B} call takes)
  counts_pair = counts_as (λ t. ((t.0, None), t.1)) _ (counts_holding (MakesPair call) min min hint_smaller counts_made_pair (PairAskable call takes) (λ P Q f z. P z.0 × Q z.1) (PairRefuses call takes))

pub lawful_zip_eq : {S U F A B E : Type 0} {left : Contract S A E} {right : Contract U B E} (g : Mut F (Unit {0}) E) → Lawful left → Lawful right → Lawful (zip_eq_contract (fused_contract left) (fused_contract right) g)
lawful_zip_eq g l k = lawful_joined (pair_join (call_of_none g) (takes_none g)) l k (is_lawful_pair_join (call_of_none g) (takes_none g)) (counts_pair (call_of_none g) (takes_none g))

-- ---- The contract of `PadUsing` is lawful where the source's is

module _ (E : Type 0) where
  run_of_indices : (count ends : ℕ) (p q : ℕ × ℕ) → count ≤ p.1 - p.0 → (0 < ends → p.1 - p.0 ≤ count) → q ≡ (p.0 + count, p.1) → Run (index_step {E = E}) p (values_from_index (λ i. item i) p.0 count ++ replicate ends end) q
  run_of_indices zero zero (i, n) q within over left = let same : i + 0 ≡ i = omega arith in sym (subst (λ (j : ℕ). q ≡ (j, n)) same left)
  run_of_indices zero (suc ends) (i, n) q within over left = let none = over (omega arith) in ((i, n), inr (omega (arith, none), refl, refl), run_of_indices zero ends (i, n) q within (λ h. none) left)
  run_of_indices (suc count) ends (i, n) q within over left = let on : i + suc count ≡ suc i + count = omega arith in ((suc i, n), inl (omega (arith, within), refl, refl), run_of_indices count ends (suc i, n) q (omega (arith, within)) (λ h. let k = over h in omega (arith, k)) (subst (λ (j : ℕ). q ≡ (j, n)) on left))

-- ---- the hint of the indices

module _ (E : Type 0) where
  abbrev IndexSteps : ℕ × ℕ → Answered ℕ E → ℕ × ℕ → Type 0
  IndexSteps p r q = index_step p r q

  end_past_indices : (p q : ℕ × ℕ) → IndexSteps p end q → (p.1 ≤ p.0) × (q ≡ p)
  end_past_indices p q step = elim step [ inl d ↦ absurd (let no = d.1 in cc) | inr d ↦ (d.0, d.2) ]

  item_within_indices_advances : (p q : ℕ × ℕ) (i : ℕ) → IndexSteps p (item i) q → (p.0 < p.1) × (q ≡ (suc p.0, p.1))
  item_within_indices_advances p q i step = elim step [ inl d ↦ (d.0, d.2) | inr d ↦ absurd (let no = d.1 in cc) ]

  no_item_after_end_of_indices : NoItemAfterEnd IndexSteps
  no_item_after_end_of_indices p q r i w v = let e = end_past_indices p q w in let d = item_within_indices_advances q r i v in let same : q ≡ p = e.1 in let few = e.0 in let some : p.0 < p.1 = subst (λ (z : ℕ × ℕ). z.0 < z.1) same d.0 in omega (arith, few, some)

  -- each item is one of those that are left
  indices_left_after : (xs : List ℕ) (p q : ℕ × ℕ) → Yields IndexSteps p xs q → p.1 - p.0 ≡ length xs + (q.1 - q.0)
  indices_left_after [] p q ran = let same : p.1 - p.0 ≡ q.1 - q.0 = ap (λ (z : ℕ × ℕ). z.1 - z.0) ran in omega (arith, same)
  indices_left_after (x ∷ xs) p q ran = let d = item_within_indices_advances p ran.0 x ran.1 in let rest = indices_left_after xs ran.0 q ran.2 in let one : ran.0.1 - ran.0.0 ≡ p.1 - suc p.0 = ap (λ (z : ℕ × ℕ). z.1 - z.0) d.1 in let some = d.0 in omega (arith, rest, one, some)

  hints_hold_of_indices : HintsHold IndexSteps (λ p h. h ≡ (p.1 - p.0, Some (p.1 - p.0))) sound_always
  hints_hold_of_indices = record {
    above = λ p h is some xs q ran. let d = indices_left_after xs p q ran in rw is (omega (arith, d));
    below = λ p h is some xs q u ran step. let d = indices_left_after xs p q ran in let few = (end_past_indices q u step).0 in rw is (omega (arith, d, few));
  }

module _ {E : Type 0} where
  abbrev PadUsingContract : Contract (ℕ × ℕ) ℕ E
  PadUsingContract = index_contract

  kept_by_draw_of_index : (p : ℕ × ℕ) → p.0 < p.1 → KeptByDraw PadUsingContract p (item p.0) (suc p.0, p.1)
  kept_by_draw_of_index p some = record { can_next = tt; is_finite = λ f. f; answer = ((omega arith, some), (λ n b. (p.1 - suc p.0, omega arith, omega (arith, b, some))), (λ f. (f, omega (arith, some)))); may_give = λ x c. (omega (arith, c.0), c.1); may_fail = λ e c. c; lenders = refl }

  kept_by_draw_past_indices : (p : ℕ × ℕ) → KeptByDraw PadUsingContract p end p
  kept_by_draw_past_indices p = record { can_next = tt; is_finite = λ f. f; answer = ((λ n b. (n, b, omega arith)), (λ f. (f, omega arith))); may_give = λ x c. c; may_fail = λ e c. c; lenders = refl }

  kept_by_draw_of_step : (p : ℕ × ℕ) (r : Answered ℕ E) (q : ℕ × ℕ) → index_step p r q → KeptByDraw PadUsingContract p r q
  kept_by_draw_of_step p (Ok o) q step = elim step [ inl d ↦ rw (d.1, d.2) (kept_by_draw_of_index p d.0) | inr d ↦ rw (d.1, d.2) (kept_by_draw_past_indices p) ]
  kept_by_draw_of_step p (Err e) q step = absurd step

  -- ---- the indices, answer by answer

  with_index : (p q : ℕ × ℕ) (rest : List (Answered ℕ E)) → p.0 < p.1 → IndexTrace (suc p.0, p.1) rest q → IndexTrace p (item p.0 ∷ rest) q
  with_index (i, n) q rest some d = let on : suc i + d.count ≡ i + suc d.count = omega arith in record { count = suc d.count; ends = d.ends; answers = ap {B = List (Answered ℕ E)} (λ l. item i ∷ l) d.answers; within = omega (arith, some, d.within); over = λ h. let k = d.over h in omega (arith, k); left = subst (λ (j : ℕ). q ≡ (j, n)) on d.left }

  with_end : (p q : ℕ × ℕ) (rest : List (Answered ℕ E)) → p.1 ≤ p.0 → IndexTrace p rest q → IndexTrace p (end ∷ rest) q
  with_end p q rest none d = let over : d.count ≡ 0 = omega (arith, none, d.within) in record {
    count = 0;
    ends = suc d.ends;
    answers = ap {B = List (Answered ℕ E)} (λ l. end ∷ l) (subst (λ (c : ℕ). rest ≡ values_from_index (λ i. item i) p.0 c ++ replicate d.ends end) over d.answers);
    within = omega arith;
    over = λ h. omega (arith, none);
    left = subst (λ (c : ℕ). q ≡ (p.0 + c, p.1)) over d.left;
  }

  index_trace_of_run : (trace : List (Answered ℕ E)) (p q : ℕ × ℕ) → Run index_step p trace q → IndexTrace p trace q
  index_trace_of_run [] (i, n) q e = let same : i ≡ i + 0 = omega arith in record { count = 0; ends = 0; answers = refl; within = omega arith; over = λ h. absurd (omega (arith, h)); left = subst (λ (j : ℕ). q ≡ (j, n)) same (sym e) }
  index_trace_of_run (Ok o ∷ rest) p q h = let later = index_trace_of_run rest h.0 q h.2 in elim h.1 [
    | inl d ↦ subst (λ (a : Option ℕ). IndexTrace p (Ok a ∷ rest) q) (sym d.1) (with_index p q rest d.0 (subst (λ (m : ℕ × ℕ). IndexTrace m rest q) d.2 later))
    | inr d ↦ subst (λ (a : Option ℕ). IndexTrace p (Ok a ∷ rest) q) (sym d.1) (with_end p q rest d.0 (subst (λ (m : ℕ × ℕ). IndexTrace m rest q) d.2 later))
  ]
  index_trace_of_run (Err e ∷ rest) p q h = absurd h.1

  index_traced : IsTraced (index_step {E = E}) IndexTrace
  index_traced p trace q = (index_trace_of_run trace p q, (λ d. rw d.answers (run_of_indices E d.count d.ends p q d.within d.over d.left)))

  lawful_index : Lawful PadUsingContract
  lawful_index = record { kept_by_draw = λ p r q c step. kept_by_draw_of_step p r q step; bounded = λ p. ((λ e. (p.1 - p.0, omega arith)), (λ b. tt)); traced = index_traced; hold = hints_hold_of_indices E }

-- ---- the source beside the indices

module _ {F A E : Type 0} (call : F → ℕ → Result A E → F → Type 0) (takes : F → ℕ → Type 0) where
  abbrev PadAskable : (A → Type 0) → (ℕ → Type 0) → F → Type 0
  PadAskable P Q f = IsCallable call takes Q f

  abbrev PadGives : (A → Type 0) → (ℕ → Type 0) → F → A → Type 0
  PadGives P Q f z = P z ⊎ MayAnswer call Q f (λ i v. v ≡ Ok z)

  abbrev PadRefuses : (A → Type 0) → (ℕ → Type 0) → F → E → Type 0
  PadRefuses P Q f e = MayAnswer call Q f (λ i v. v ≡ Err e)

  abbrev Padded : (A → Type 0) → (A → Type 0) → (ℕ → Type 0) → (ℕ → Type 0) → F → F → Type 0
  Padded P P' Q Q' f g = Follows (MakesPadded call) PadAskable PadGives PadRefuses P P' Q Q' f g

  pad_follows_reached : (P P' : A → Type 0) (Q Q' : ℕ → Type 0) (f g : F) → ((z : A) → P' z → P z) → ((z : ℕ) → Q' z → Q z) → Reaches call Q f g → Padded P P' Q Q' f g
  pad_follows_reached P P' Q Q' f g p q r = ((λ h. is_callable_after q r h), (λ z h. elim h [ inl w ↦ inl (p z w) | inr w ↦ inr (may_answer_where_reached_may_answer q r w) ]), (λ e h. may_answer_where_reached_may_answer q r h))

  pub holds_padded : (f : F) (a : Option A) (b : Option ℕ) (z : Answered A E × (Option A × Option ℕ)) (g : F) → MakesPadded call f a b z g → ((z.1.0 ≡ None) ⊎ (z.1.0 ≡ a)) × ((z.1.1 ≡ None) ⊎ (z.1.1 ≡ b))
  holds_padded f (Some x) b z g m = rw m.0 (inl refl, inl refl)
  holds_padded f None (Some i) z g m = rw m.2 (inl refl, inl refl)
  holds_padded f None None z g m = rw m.0 (inl refl, inl refl)

  module _ (P : A → Type 0) (Q : ℕ → Type 0) (f : F) where
    made_of_call : (i : ℕ) (v : Result A E) (g : F) → Q i → call f i v g → MadeOf (MakesPadded call) PadAskable PadGives PadRefuses P Q f 1 0 (result_answer v)
    made_of_call i (Ok x) g q c = (inr (may_answer_of_call g i (Ok x) q c refl), omega arith)
    made_of_call i (Err e) g q c = (may_answer_of_call g i (Err e) q c refl, omega arith)

    made_padded : (a : Option A) (b : Option ℕ) (z : Answered A E × (Option A × Option ℕ)) (g : F) → OfItem P a → OfItem Q b → MakesPadded call f a b z g → MadeOf (MakesPadded call) PadAskable PadGives PadRefuses P Q f (held_count a + held_count b) (held_count z.1.0 + held_count z.1.1) z.0 × Padded P P Q Q f g
    made_padded (Some x) b z g p q m = rw (m.0, m.1) ((inl p, omega arith), pad_follows_reached P P Q Q f f (λ x h. h) (λ y h. h) reaches_reflexive)
    made_padded None (Some i) z g p q (v, c, is) = rw is (made_of_call i v g q c, pad_follows_reached P P Q Q f g (λ x h. h) (λ y h. h) (reaches_by_call_first i v q c reaches_reflexive))
    made_padded None None z g p q m = rw (m.0, m.1) (omega arith, pad_follows_reached P P Q Q f f (λ x h. h) (λ y h. h) reaches_reflexive)

  is_lawful_padded : IsLawfulHolding (MakesPadded call) PadAskable PadGives PadRefuses
  is_lawful_padded = record { less = λ P P' Q Q' f p q. pad_follows_reached P P' Q Q' f f p q reaches_reflexive; holds = holds_padded; made = λ P Q f a b z g p q m. made_padded P Q f a b z g p q m }

  pub is_lawful_padding : IsLawfulJoin (padding call takes)
  is_lawful_padding = is_lawful_join_as (λ f. ((None, None), f)) _ (is_lawful_holding (MakesPadded call) PadAskable PadGives PadRefuses hint_greater is_lawful_padded)

-- ---- its hint counts

module _ {F A E : Type 0} (call : F → ℕ → Result A E → F → Type 0) (takes : F → ℕ → Type 0) where
  one_at_item : (f : F) (a : Option A) (b : Option ℕ) (z : Answered A E × (Option A × Option ℕ)) (g : F) (c : A) → MakesPadded call f a b z g → z.0 ≡ item c → MakesOneAtMost max a b z.1 × MakesOneAtLeast max a b z.1
  one_at_item f (Some x) (Some i) z g c m is = rw m.0 ((λ i j. omega arith), (λ i j d e. omega arith))
  one_at_item f (Some x) None z g c m is = rw m.0 ((λ i j. omega arith), (λ i j d e. omega (arith, e)))
  one_at_item f None (Some i) z g c m is = rw m.2 ((λ i j. omega arith), (λ i j d e. omega (arith, d)))
  one_at_item f None None z g c m is = absurd (let no = subst (λ (w : Answered A E × (Option A × Option ℕ)). w.0 ≡ item c) m.0 is in cc)

  result_is_no_end : (v : Result A E) → result_answer v ≡ end → ⊥
  result_is_no_end (Ok x) is = cc
  result_is_no_end (Err e) is = cc

  no_pad_at_end : (f : F) (a : Option A) (b : Option ℕ) (z : Answered A E × (Option A × Option ℕ)) (g : F) → MakesPadded call f a b z g → z.0 ≡ end → (a ≡ None) × (b ≡ None)
  no_pad_at_end f (Some x) b z g m is = absurd (let no = subst (λ (w : Answered A E × (Option A × Option ℕ)). w.0 ≡ end) m.0 is in cc)
  no_pad_at_end f None (Some i) z g m is = absurd (result_is_no_end m.0 (subst (λ (w : Answered A E × (Option A × Option ℕ)). w.0 ≡ end) m.2 is))
  no_pad_at_end f None None z g m is = (refl, refl)

  counts_padded : CountsHolding (MakesPadded call) hint_greater max max
  counts_padded = record { at_item = one_at_item; at_end = no_pad_at_end; nothing = refl; bounds = greater_bounds }

  counts_padding : Counts (padding call takes)
  counts_padding = counts_as (λ f. ((None, None), f)) _ (counts_holding (MakesPadded call) max max hint_greater counts_padded (PadAskable call takes) (PadGives call takes) (PadRefuses call takes))

pub lawful_pad_using : {S F A E : Type 0} {m : Contract S A E} (g : Mut F (ℕ × Unit {0}) (Result A E)) → Lawful m → Lawful (pad_using_contract (fused_contract m) g)
lawful_pad_using {E = E} g l = lawful_beside (padding (call_by_value g) (takes_by_value g)) l lawful_index (no_item_after_end_of_indices E) (is_lawful_padding (call_by_value g) (takes_by_value g)) (counts_padding (call_by_value g) (takes_by_value g))
