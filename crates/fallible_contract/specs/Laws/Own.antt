-- The contracts of types of one's own are lawful.
use Rattle.std.specs.Prelude.{ℕ, ◌+◌, ◌≤◌, Some, None, Ok, Err, ⊤, Result, List, [], ◌∷◌, ◌++◌}
use Rattle.std.specs.List.{AllZip}
use Rattle.std.specs.Iterator.{Count, IsFinite, size, at_most}
use Rattle.std.proofs.Common.{arith, refl, subst}
use Rattle.fallible_contract.specs.Traces.{Answered, Run, item, items_in}
use Rattle.fallible_contract.specs.Sound.{own_sound}
use Rattle.fallible_contract.specs.Laws.Sound.{own_hold}
use Rattle.fallible_contract.specs.Contract.{Contract, Fewer, OnAnswer, KeptByDraw, KeptByDraws, Lawful, Stays}
use Rattle.fallible_contract.specs.Lists.{AlwaysGives, Lists}
use Rattle.fallible_contract.specs.Passing.{IfItem}
use Rattle.fallible_contract.specs.Own.{LowersAtItem, LowersAtAnswer, bounded_by, bounded_with_failures, EachItem, giving, items_and_failures_in, TakesEnough, Gathers, MayCome, AllCome, MadeOfComing, ungrouped, GathersAll, gathering, drawing, DrawsOn, drawing_from}
use Rattle.fallible_contract.specs.Laws.Closures.{folds_to_in_turn}
use Rattle.fallible_contract.specs.Laws.LawForm.{IsTraced}
use Rattle.fallible_contract.specs.Laws.Contract.{kept_by_draws_of_one_draw, kept_by_draws_of_stays, kept_by_draws_run, kept_by_draws_transitive}
use Rattle.fallible_contract.specs.Laws.BoundsRuns.{lawful_unbounded}

-- ---- a source of which each step says more

module _ {S A E : Type 0} (steps more : S → Answered A E → S → Type 0) where
  always_gives_narrowed : (s : S) (l : List (Result A E)) → AlwaysGives steps s l → AlwaysGives (λ s r t. steps s r t × more s r t) s l
  always_gives_narrowed s [] i = λ r t w. i r t w.0
  always_gives_narrowed s (y ∷ l) i = λ r t w. let h = i r t w.0 in (h.0, always_gives_narrowed t l h.1)

  run_of_narrowed : (trace : List (Answered A E)) (s t : S) → Run (λ u r v. steps u r v × more u r v) s trace t → Run steps s trace t
  run_of_narrowed [] s t ran = ran
  run_of_narrowed (r ∷ rest) s t ran = (ran.0, ran.1.0, run_of_narrowed rest ran.0 t ran.2)

-- ---- a source that knows how many are left

module _ {S A E : Type 0} (m : Contract S A E) (left : S → ℕ) (lowers : Answered A E → ℕ → ℕ → Type 0) (remains : S → Count) where
  -- `bounded_by` and `bounded_with_failures`
  abbrev BoundedHere : Contract S A E
  BoundedHere = record m { steps = λ s r t. m.steps s r t × lowers r (left s) (left t); bound = λ s n. left s ≤ n; is_finite = λ _. ⊤; remaining = remains; traces = λ s trace t. m.traces s trace t × Run (λ u r v. m.steps u r v × lowers r (left u) (left v)) s trace t; sound = own_sound (λ s r t. m.steps s r t × lowers r (left s) (left t)) }

  kept_by_draw_bounded : (s t : S) (r : Answered A E) → KeptByDraw m s r t → OnAnswer BoundedHere s r t → KeptByDraw BoundedHere s r t
  kept_by_draw_bounded s t r g answer = record {
    can_next = g.can_next;
    is_finite = λ f. tt;
    answer = answer;
    may_give = g.may_give;
    may_fail = g.may_fail;
    lenders = g.lenders;
  }

  lawful_bounded : ((s t : S) (r : Answered A E) → lowers r (left s) (left t) → OnAnswer m s r t → OnAnswer BoundedHere s r t) → Lawful m → Lawful BoundedHere
  lawful_bounded answers l = record {
    kept_by_draw = λ s r t c step. let g = l.kept_by_draw s r t c step.0 in kept_by_draw_bounded s t r g (answers s t r step.1 g.answer);
    bounded = λ s. ((λ f. (left s, omega arith)), (λ n. tt));
    traced = λ s trace t. ((λ ran. ((l.traced s trace t).0 (run_of_narrowed m.steps (λ u r v. lowers r (left u) (left v)) trace s t ran), ran)), (λ d. d.1));
    hold = own_hold;
  }

module _ {S A E : Type 0} (m : Contract S A E) (left : S → ℕ) where
  on_answer_bounded : (s t : S) (r : Answered A E) → LowersAtItem r (left s) (left t) → OnAnswer m s r t → OnAnswer (bounded_by left m) s r t
  on_answer_bounded s t (Ok (Some x)) lower a = (a.0, (λ n b. (left t, omega arith, omega (arith, lower, b))), a.2)
  on_answer_bounded s t (Ok None) lower a = ((λ n b. (left t, omega arith, omega (arith, lower, b))), a.1)
  on_answer_bounded s t (Err e) lower a = (a.0, (λ n b. (left t, omega arith, omega (arith, lower, b))), a.2)

  on_answer_bounded_with_failures : (s t : S) (r : Answered A E) → LowersAtAnswer r (left s) (left t) → OnAnswer m s r t → OnAnswer (bounded_with_failures left m) s r t
  on_answer_bounded_with_failures s t (Ok (Some x)) lower a = (a.0, (λ n b. (left t, omega arith, omega (arith, lower, b))), (λ f. (tt, omega (arith, lower))))
  on_answer_bounded_with_failures s t (Ok None) lower a = ((λ n b. (left t, omega arith, omega (arith, lower, b))), (λ f. (tt, omega (arith, lower))))
  on_answer_bounded_with_failures s t (Err e) lower a = (a.0, (λ n b. (left t, omega arith, omega (arith, lower, b))), (λ f. (tt, omega (arith, lower))))

pub lawful_bounded_by : {S A E : Type 0} {m : Contract S A E} (left : S → ℕ) → Lawful m → Lawful (bounded_by left m)
lawful_bounded_by {m = m} left l = lawful_bounded m left LowersAtItem m.remaining (on_answer_bounded m left) l

pub lawful_bounded_with_failures : {S A E : Type 0} {m : Contract S A E} (left : S → ℕ) → Lawful m → Lawful (bounded_with_failures left m)
lawful_bounded_with_failures {m = m} left l = lawful_bounded m left LowersAtAnswer (λ s. at_most (left s)) (on_answer_bounded_with_failures m left) l

-- each lists what m does
pub lists_bounded_by : {S A E : Type 0} (m : Contract S A E) {s : S} {l : List (Result A E)} (left : S → ℕ) → Lists m.steps s l → Lists (bounded_by left m).steps s l
lists_bounded_by m {s = s} {l = l} left i = record { runs = always_gives_narrowed m.steps (λ s r t. LowersAtItem r (left s) (left t)) s l i.runs }

pub lists_bounded_with_failures : {S A E : Type 0} (m : Contract S A E) {s : S} {l : List (Result A E)} (left : S → ℕ) → Lists m.steps s l → Lists (bounded_with_failures left m).steps s l
lists_bounded_with_failures m {s = s} {l = l} left i = record { runs = always_gives_narrowed m.steps (λ s r t. LowersAtAnswer r (left s) (left t)) s l i.runs }

-- ---- a source that says which items come

module _ {S A E : Type 0} (m : Contract S A E) (P : A → Type 0) where
  on_answer_giving : (s t : S) (r : Answered A E) → IfItem P r → OnAnswer m s r t → OnAnswer (giving P m) s r t
  on_answer_giving s t (Ok (Some x)) is a = ((a.0, is), a.1, a.2)
  on_answer_giving s t (Ok None) is a = a
  on_answer_giving s t (Err e) is a = a

  kept_by_draw_giving : (s t : S) (r : Answered A E) → IfItem P r → KeptByDraw m s r t → KeptByDraw (giving P m) s r t
  kept_by_draw_giving s t r is g = record {
    can_next = g.can_next;
    is_finite = g.is_finite;
    answer = on_answer_giving s t r is g.answer;
    may_give = λ x h. (g.may_give x h.0, h.1);
    may_fail = g.may_fail;
    lenders = g.lenders;
  }

  run_of_giving : (trace : List (Answered A E)) (s t : S) → Run (giving P m).steps s trace t → Run m.steps s trace t × EachItem P trace
  run_of_giving [] s t ran = (ran, tt)
  run_of_giving (r ∷ rest) s t ran = let h = run_of_giving rest ran.0 t ran.2 in ((ran.0, ran.1.0, h.0), (ran.1.1, h.1))

  run_giving : (trace : List (Answered A E)) (s t : S) → Run m.steps s trace t → EachItem P trace → Run (giving P m).steps s trace t
  run_giving [] s t ran each = ran
  run_giving (r ∷ rest) s t ran each = (ran.0, (ran.1, each.0), run_giving rest ran.0 t ran.2 each.1)

  giving_traced : IsTraced m.steps m.traces → IsTraced (giving P m).steps (giving P m).traces
  giving_traced law s trace t = (
    (λ ran. let h = run_of_giving trace s t ran in ((law s trace t).0 h.0, h.1)),
    (λ d. run_giving trace s t ((law s trace t).1 d.0) d.1),
  )

pub lawful_giving : {S A E : Type 0} {m : Contract S A E} (P : A → Type 0) → Lawful m → Lawful (giving P m)
lawful_giving {m = m} P l = record { kept_by_draw = λ s r t c step. kept_by_draw_giving m P s t r step.1 (l.kept_by_draw s r t c step.0); bounded = l.bounded; traced = giving_traced m P l.traced; hold = own_hold }

-- m, with what is known of its items besides, lists what m does
pub lists_giving : {S A E : Type 0} (m : Contract S A E) {s : S} {l : List (Result A E)} (P : A → Type 0) → Lists m.steps s l → Lists (giving P m).steps s l
lists_giving m {s = s} {l = l} P i = record { runs = always_gives_narrowed m.steps (λ _ r _. IfItem P r) s l i.runs }

-- ---- a type of whose answers nothing is said

pub lawful_drawing : {S A E : Type 0} (can : S → Type 0) → Lawful (drawing {A = A} {E = E} can)
lawful_drawing can = let l = lawful_unbounded (λ s r t. can t) in record {
  kept_by_draw = λ s r t c step. let g = l.kept_by_draw s r t tt step in record {
    can_next = step;
    is_finite = g.is_finite;
    answer = g.answer;
    may_give = g.may_give;
    may_fail = g.may_fail;
    lenders = g.lenders;
  };
  bounded = l.bounded;
  traced = λ _ _ _. ((λ h. h), (λ h. h));
  hold = own_hold;
}

module _ {S P A E B F : Type 0} (view : S → P) (m : Contract P A E) where
  on_answer_drawn_from : (s t : S) (r : Answered B F) → DrawsOn m (view s) r (view t) → OnAnswer (drawing_from view m) s r t
  on_answer_drawn_from s t (Ok (Some y)) h = (tt, h.lowers, (λ f. absurd f))
  on_answer_drawn_from s t (Ok None) h = (h.keeps.bound, (λ f. absurd f))
  on_answer_drawn_from s t (Err e) h = (tt, h.keeps.bound, (λ f. absurd f))

  kept_by_draw_drawn_from : (s t : S) (r : Answered B F) → m.is_finite (view s) → DrawsOn m (view s) r (view t) → KeptByDraw (drawing_from view m) s r t
  kept_by_draw_drawn_from s t r finite h = record {
    can_next = (h.keeps.can_next, h.keeps.is_finite finite);
    is_finite = h.keeps.is_finite;
    answer = on_answer_drawn_from s t r h;
    may_give = λ y g. tt;
    may_fail = λ f g. tt;
    lenders = h.keeps.lenders;
  }

pub lawful_drawing_from : {S P A E B F : Type 0} {m : Contract P A E} (view : S → P) → Lawful m → Lawful (drawing_from {B = B} {F = F} view m)
lawful_drawing_from {m = m} view l = record { kept_by_draw = λ s r t c h. kept_by_draw_drawn_from view m s t r c.1 h; bounded = λ s. l.bounded (view s); traced = λ _ _ _. ((λ h. h), (λ h. h)); hold = own_hold }

module _ {P A E B F : Type 0} {m : Contract P A E} where
  draws_on_of_fewer : {s t : P} (r : Answered B F) → KeptByDraws m s t → Fewer m s t → DrawsOn m s r t
  draws_on_of_fewer (Ok (Some y)) keeps fewer = record { keeps = keeps; lowers = fewer }
  draws_on_of_fewer (Ok None) keeps fewer = record { keeps = keeps; lowers = tt }
  draws_on_of_fewer (Err e) keeps fewer = record { keeps = keeps; lowers = tt }

  -- a draw of an item, and what is drawn after it
  pub draws_on_after_item : {s u t : P} {x : A} (r : Answered B F) → Lawful m → m.can_next s → m.steps s (item x) u → Stays m u t → DrawsOn m s r t
  draws_on_after_item {s} {u} {t} {x} r l c step rest = let g = l.kept_by_draw s (item x) u c step in draws_on_of_fewer r (kept_by_draws_transitive (kept_by_draws_of_one_draw g) (kept_by_draws_of_stays rest)) (λ n b. let j = g.answer.1 n b in let k = rest.bound j.0 j.1 in (k.0, k.1, omega (arith, j.2, k.2)))

-- ---- what several draws lower

-- a failure counts besides the items
items_in_at_most : {A E : Type 0} (trace : List (Answered A E)) → items_in trace ≤ items_and_failures_in trace
items_in_at_most [] = omega arith
items_in_at_most (Ok (Some x) ∷ rest) = let k = items_in_at_most rest in omega (arith, k)
items_in_at_most (Ok None ∷ rest) = let k = items_in_at_most rest in omega (arith, k)
items_in_at_most (Err e ∷ rest) = let k = items_in_at_most rest in omega (arith, k)

module _ {P A E : Type 0} (m : Contract P A E) where
  bound_lowered_by_items_of_first_and_rest : (s t u : P) (r : Answered A E) (rest : List (Answered A E)) → OnAnswer m s r t → ((n : ℕ) → m.bound t n → (k : ℕ) × m.bound u k × (k + items_in rest ≤ n)) → (n : ℕ) → m.bound s n → (k : ℕ) × m.bound u k × (k + items_in (r ∷ rest) ≤ n)
  bound_lowered_by_items_of_first_and_rest s t u (Ok (Some x)) rest a then n b = let j = a.1 n b in let k = then j.0 j.1 in (k.0, k.1, omega (arith, j.2, k.2))
  bound_lowered_by_items_of_first_and_rest s t u (Ok None) rest a then n b = let j = a.0 n b in let k = then j.0 j.1 in (k.0, k.1, omega (arith, j.2, k.2))
  bound_lowered_by_items_of_first_and_rest s t u (Err e) rest a then n b = let j = a.1 n b in let k = then j.0 j.1 in (k.0, k.1, omega (arith, j.2, k.2))

  -- each item drawn lowers each bound by one
  pub bound_lowered_by_items_of_run : Lawful m → (s : P) (trace : List (Answered A E)) (t : P) → m.can_next s → Run m.steps s trace t → (n : ℕ) → m.bound s n → (k : ℕ) × m.bound t k × (k + items_in trace ≤ n)
  bound_lowered_by_items_of_run l s [] t c ran n b = (n, subst (λ (u : P). m.bound u n) ran b, omega arith)
  bound_lowered_by_items_of_run l s (r ∷ rest) t c ran n b = let g = l.kept_by_draw s r ran.0 c ran.1 in bound_lowered_by_items_of_first_and_rest s ran.0 t r rest g.answer (bound_lowered_by_items_of_run l ran.0 rest t g.can_next ran.2) n b

  remaining_is_finite_after : (s t u : P) (r : Answered A E) (rest : List (Answered A E)) → OnAnswer m s r t → (IsFinite (m.remaining t) → IsFinite (m.remaining u) × (size (m.remaining u) + items_and_failures_in rest ≤ size (m.remaining t))) → IsFinite (m.remaining s) → IsFinite (m.remaining u) × (size (m.remaining u) + items_and_failures_in (r ∷ rest) ≤ size (m.remaining s))
  remaining_is_finite_after s t u (Ok (Some x)) rest a then f = let j = a.2 f in let k = then j.0 in (k.0, omega (arith, j.1, k.1))
  remaining_is_finite_after s t u (Ok None) rest a then f = let j = a.1 f in let k = then j.0 in (k.0, omega (arith, j.1, k.1))
  remaining_is_finite_after s t u (Err e) rest a then f = let j = a.2 f in let k = then j.0 in (k.0, omega (arith, j.1, k.1))

  -- each item and each failure drawn lowers by one what remains
  pub remaining_is_finite_of_run : Lawful m → (s : P) (trace : List (Answered A E)) (t : P) → m.can_next s → Run m.steps s trace t → IsFinite (m.remaining s) → IsFinite (m.remaining t) × (size (m.remaining t) + items_and_failures_in trace ≤ size (m.remaining s))
  remaining_is_finite_of_run l s [] t c ran f = subst (λ (u : P). IsFinite (m.remaining u) × (size (m.remaining u) + 0 ≤ size (m.remaining s))) ran (f, omega arith)
  remaining_is_finite_of_run l s (r ∷ rest) t c ran f = let g = l.kept_by_draw s r ran.0 c ran.1 in remaining_is_finite_after s ran.0 t r rest g.answer (remaining_is_finite_of_run l ran.0 rest t g.can_next ran.2) f

  may_come_at_draw : (s t : P) (r : Answered A E) → OnAnswer m s r t → MayCome m s r
  may_come_at_draw s t (Ok (Some x)) a = a.0
  may_come_at_draw s t (Ok None) a = tt
  may_come_at_draw s t (Err e) a = a.0

  may_come_before : (s t : P) → KeptByDraws m s t → (r : Answered A E) → MayCome m t r → MayCome m s r
  may_come_before s t p (Ok (Some x)) h = p.may_give x h
  may_come_before s t p (Ok None) h = tt
  may_come_before s t p (Err e) h = p.may_fail e h

  pub all_come_before : (s t : P) → KeptByDraws m s t → (trace : List (Answered A E)) → AllCome m t trace → AllCome m s trace
  all_come_before s t p [] h = tt
  all_come_before s t p (r ∷ rest) h = (may_come_before s t p r h.0, all_come_before s t p rest h.1)

  -- each answer that was drawn was one to come
  pub all_come_of_run : Lawful m → (s : P) (trace : List (Answered A E)) (t : P) → m.can_next s → Run m.steps s trace t → AllCome m s trace
  all_come_of_run l s [] t c ran = tt
  all_come_of_run l s (r ∷ rest) t c ran = let g = l.kept_by_draw s r ran.0 c ran.1 in (may_come_at_draw s ran.0 r g.answer, all_come_before s ran.0 (kept_by_draws_of_one_draw g) rest (all_come_of_run l ran.0 rest t g.can_next ran.2))

-- ---- an adapter that takes several items for an answer

module _ {P A E B F : Type 0} (steps : P → Answered A E → P → Type 0) (made : List (Answered A E) → Answered B F → Type 0) where
  run_split : (xs ys : List (Answered A E)) (p r : P) → Run steps p (xs ++ ys) r → (q : P) × Run steps p xs q × Run steps q ys r
  run_split [] ys p r ran = (p, refl, ran)
  run_split (x ∷ xs) ys p r ran = let h = run_split xs ys ran.0 r ran.2 in (h.0, (ran.0, ran.1, h.1), h.2)

  gathers_all_of_run : (trace : List (Answered B F)) (s t : P) → Run (Gathers steps made) s trace t → GathersAll (Run steps) made s trace t
  gathers_all_of_run [] s t ran = record { groups = []; drawn = ran; answers = tt }
  gathers_all_of_run (r ∷ rest) s t ran = let h = gathers_all_of_run rest ran.0 t ran.2 in let g = ran.1 in record {
    groups = g.taken ∷ h.groups;
    drawn = folds_to_in_turn steps g.taken (ungrouped h.groups) s ran.0 t g.drawn h.drawn;
    answers = ((g.enough, g.answers), h.answers);
  }

  run_of_groups : (groups : List (List (Answered A E))) (trace : List (Answered B F)) (s t : P) → Run steps s (ungrouped groups) t → AllZip (λ taken r. TakesEnough r taken × made taken r) groups trace → Run (Gathers steps made) s trace t
  run_of_groups [] [] s t ran each = ran
  run_of_groups [] (r ∷ rest) s t ran each = absurd each
  run_of_groups (g ∷ groups) [] s t ran each = absurd each
  run_of_groups (g ∷ groups) (r ∷ rest) s t ran each = let h = run_split g (ungrouped groups) s t ran in (h.0, record { taken = g; drawn = h.1; enough = each.0.0; answers = each.0.1 }, run_of_groups groups rest h.0 t h.2 each.1)

  pub gathers_all_traced : {traces : P → List (Answered A E) → P → Type 0} → IsTraced steps traces → IsTraced (Gathers steps made) (GathersAll traces made)
  gathers_all_traced law s trace t = (
    (λ ran. let h = gathers_all_of_run trace s t ran in record { groups = h.groups; drawn = (law s (ungrouped h.groups) t).0 h.drawn; answers = h.answers }),
    (λ d. run_of_groups d.groups trace s t ((law s (ungrouped d.groups) t).1 d.drawn) d.answers),
  )

module _ {P A E B F : Type 0} (made : List (Answered A E) → Answered B F → Type 0) (m : Contract P A E) where
  abbrev GatheringHere : Contract P B F
  GatheringHere = gathering made m

  on_answer_gathered : Lawful m → (s t : P) (r : Answered B F) → m.can_next s → Gathers m.steps made s r t → OnAnswer GatheringHere s r t
  on_answer_gathered l s t (Ok (Some y)) c h = (
    record { taken = h.taken; coming = all_come_of_run m l s h.taken t c h.drawn; answers = h.answers },
    (λ n b. let k = bound_lowered_by_items_of_run m l s h.taken t c h.drawn n b in (k.0, k.1, let enough = h.enough in omega (arith, k.2, enough))),
    (λ f. let k = remaining_is_finite_of_run m l s h.taken t c h.drawn f in (k.0, let enough = h.enough in let most = items_in_at_most h.taken in omega (arith, k.1, enough, most))),
  )
  on_answer_gathered l s t (Ok None) c h = let k = kept_by_draws_run l s h.taken t c h.drawn in (k.bound, k.remaining)
  on_answer_gathered l s t (Err e) c h = (
    record { taken = h.taken; coming = all_come_of_run m l s h.taken t c h.drawn; answers = h.answers },
    (kept_by_draws_run l s h.taken t c h.drawn).bound,
    (λ f. let k = remaining_is_finite_of_run m l s h.taken t c h.drawn f in (k.0, let enough = h.enough in omega (arith, k.1, enough))),
  )

  made_of_coming_before : (s t : P) (r : Answered B F) → KeptByDraws m s t → MadeOfComing m t made r → MadeOfComing m s made r
  made_of_coming_before s t r p h = record { taken = h.taken; coming = all_come_before m s t p h.taken h.coming; answers = h.answers }

  kept_by_draw_gathered : Lawful m → (s t : P) (r : Answered B F) → m.can_next s → Gathers m.steps made s r t → KeptByDraw GatheringHere s r t
  kept_by_draw_gathered l s t r c h = let k = kept_by_draws_run l s h.taken t c h.drawn in record {
    can_next = k.can_next;
    is_finite = k.is_finite;
    answer = on_answer_gathered l s t r c h;
    may_give = λ y g. made_of_coming_before s t (Ok (Some y)) k g;
    may_fail = λ e g. made_of_coming_before s t (Err e) k g;
    lenders = k.lenders;
  }

pub lawful_gathering : {P A E B F : Type 0} {m : Contract P A E} (made : List (Answered A E) → Answered B F → Type 0) → Lawful m → Lawful (gathering made m)
lawful_gathering {m = m} made l = record { kept_by_draw = λ s r t c h. kept_by_draw_gathered made m l s t r c h; bounded = l.bounded; traced = gathers_all_traced m.steps made l.traced; hold = own_hold }
