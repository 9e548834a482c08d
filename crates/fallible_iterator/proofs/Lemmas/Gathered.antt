-- What an adapter of several draws lists, over a source that lists a list.
use Rattle.std.specs.Prelude.{◌≡◌, ◌⊎◌, map, List, [], ◌∷◌, ◌++◌, Result}
use Rattle.std.proofs.Common.{refl, sym, ap, subst, ◌∙◌, inl, inr}
use Rattle.fallible_contract.specs.Traces.{Answered, Run, end}
use Rattle.fallible_contract.specs.Contract.{Contract, seen_as}
use Rattle.fallible_contract.specs.Lists.{AlwaysGives, Lists, result_answer}
use Rattle.fallible_contract.specs.Own.{Gathers, gathering}
use Rattle.fallible_iterator.specs.Gathering.{gathering_by}

-- the first of the answers is r, and the others are left; where there is none, r is an end
abbrev pub BeginsWith : {B F : Type 0} → List (Result B F) → Answered B F → List (Result B F) → Type 0
BeginsWith [] r rest = r ≡ end
BeginsWith (y ∷ l) r rest = (r ≡ result_answer y) × (l ≡ rest)

module _ {A E B F : Type 0} where
  -- The answers that `made` makes of a list are `answers` of it: of what stands in front of a list the first one is made, and the others are those of the rest. Where the draws come to the end of the list, an end is made, and there are no answers.
  pub record Cuts (made : List (Answered A E) → Answered B F → Type 0) (answers : List (Result A E) → List (Result B F)) : Type 0 where
    pub goes_on : (front rest : List (Result A E)) (r : Answered B F) → made (map result_answer front) r → BeginsWith (answers (front ++ rest)) r (answers rest)
    pub ends : (l : List (Result A E)) (more : List (Answered A E)) (r : Answered B F) → made (map result_answer l ++ end ∷ more) r → (r ≡ end) × (answers l ≡ [])

module _ {P A E : Type 0} (steps : P → Answered A E → P → Type 0) where
  -- Draws from what lists l take what stands in front of it, or come to its end.
  abbrev DrawnAlong : List (Answered A E) → List (Result A E) → P → Type 0
  DrawnAlong taken l t = ((front : List (Result A E)) × (rest : List (Result A E)) × (taken ≡ map result_answer front) × (l ≡ front ++ rest) × AlwaysGives steps t rest) ⊎ ((more : List (Answered A E)) × (taken ≡ map result_answer l ++ end ∷ more))

  drawn_along_item : (r : Answered A E) (taken : List (Answered A E)) (y : Result A E) (l : List (Result A E)) (t : P) → r ≡ result_answer y → DrawnAlong taken l t → DrawnAlong (r ∷ taken) (y ∷ l) t
  drawn_along_item r taken y l t is (inl (front, rest, same, whole, left)) = inl (y ∷ front, rest, rw (is, same) refl, rw whole refl, left)
  drawn_along_item r taken y l t is (inr (more, same)) = inr (more, rw (is, same) refl)

  drawn_along_run : (s t : P) (taken : List (Answered A E)) (l : List (Result A E)) → Run steps s taken t → AlwaysGives steps s l → DrawnAlong taken l t
  drawn_along_run s t [] l ran i = inl ([], l, refl, refl, subst (λ (u : P). AlwaysGives steps u l) ran i)
  drawn_along_run s t (r ∷ taken) [] ran i = inr (taken, ap (λ z. z ∷ taken) (i r ran.0 ran.1))
  drawn_along_run s t (r ∷ taken) (y ∷ l) ran i = let h = i r ran.0 ran.1 in drawn_along_item r taken y l t h.0 (drawn_along_run ran.0 t taken l ran.2 h.1)

module _ {S P A E B F : Type 0} (view : S → P) (made : List (Answered A E) → Answered B F → Type 0) (m : Contract P A E) (answers : List (Result A E) → List (Result B F)) (cuts : Cuts made answers) where
  -- what an answer says of the answers of l, and what is left of the source
  abbrev GivesThen : List (Result B F) → Answered B F → S → Type 0
  GivesThen out r t = ((r ≡ end) × (out ≡ [])) ⊎ ((rest : List (Result A E)) × BeginsWith out r (answers rest) × AlwaysGives m.steps (view t) rest)

  gives_then_of_run : (taken : List (Answered A E)) (l : List (Result A E)) (r : Answered B F) (t : S) → made taken r → DrawnAlong m.steps taken l (view t) → GivesThen (answers l) r t
  gives_then_of_run taken l r t is (inl (front, rest, same, whole, left)) = inr (rest, rw whole (cuts.goes_on front rest r (subst (λ k. made k r) same is)), left)
  gives_then_of_run taken l r t is (inr (more, same)) = inl (cuts.ends l more r (subst (λ k. made k r) same is))

  gives_then_nil : (r : Answered B F) (t : S) → GivesThen [] r t → r ≡ end
  gives_then_nil r t (inl k) = k.0
  gives_then_nil r t (inr k) = k.1

  gives_then_cons : (y : Result B F) (out : List (Result B F)) (r : Answered B F) (t : S) → GivesThen (y ∷ out) r t → (r ≡ result_answer y) × ((rest : List (Result A E)) × (answers rest ≡ out) × AlwaysGives m.steps (view t) rest)
  gives_then_cons y out r t (inl k) = absurd (let h = k.1 in cc)
  gives_then_cons y out r t (inr k) = (k.1.0, (k.0, sym k.1.1, k.2))

  always_gives_gathered : (out : List (Result B F)) (s : S) (l : List (Result A E)) → answers l ≡ out → AlwaysGives m.steps (view s) l → AlwaysGives (seen_as view (gathering made m)).steps s out
  always_gives_gathered [] s l is i = λ r t g. gives_then_nil r t (subst (λ k. GivesThen k r t) is (gives_then_of_run g.taken l r t g.answers (drawn_along_run m.steps (view s) (view t) g.taken l g.drawn i)))
  always_gives_gathered (y ∷ out) s l is i = λ r t g. let k = gives_then_cons y out r t (subst (λ k. GivesThen k r t) is (gives_then_of_run g.taken l r t g.answers (drawn_along_run m.steps (view s) (view t) g.taken l g.drawn i))) in (k.0, always_gives_gathered out t k.1.0 k.1.1 k.1.2)

  -- it lists the answers that are made of the list
  pub lists_gathered : {s : S} {l : List (Result A E)} → Lists m.steps (view s) l → Lists (seen_as view (gathering made m)).steps s (answers l)
  lists_gathered {s = s} {l = l} i = record { runs = always_gives_gathered (answers l) s l refl i.runs }

-- ---- where a part that stays says what is made

module _ {S P K A E B F : Type 0} (view : S → P) (key : S → K) (made : K → List (Answered A E) → Answered B F → Type 0) (m : Contract P A E) where
  always_gives_gathered_by : (k : K) (s : S) (out : List (Result B F)) → key s ≡ k → AlwaysGives (seen_as view (gathering (made k) m)).steps s out → AlwaysGives (seen_as (λ u. (view u, key u)) (gathering_by made m)).steps s out
  always_gives_gathered_by k s [] same i = λ r t w. i r t (subst (λ z. Gathers m.steps (made z) (view s) r (view t)) same w.0)
  always_gives_gathered_by k s (y ∷ out) same i = λ r t w. let h = i r t (subst (λ z. Gathers m.steps (made z) (view s) r (view t)) same w.0) in (h.0, always_gives_gathered_by k t out (w.1 ∙ same) h.1)

  -- it lists the answers that are made of the list, as its part says
  pub lists_gathered_by : (answers : K → List (Result A E) → List (Result B F)) → ((k : K) → Cuts (made k) (answers k)) → {s : S} {l : List (Result A E)} → Lists m.steps (view s) l → Lists (seen_as (λ u. (view u, key u)) (gathering_by made m)).steps s (answers (key s) l)
  lists_gathered_by answers cuts {s = s} {l = l} i = record { runs = always_gives_gathered_by (key s) s (answers (key s) l) refl (lists_gathered view (made (key s)) m (answers (key s)) (cuts (key s)) i).runs }
