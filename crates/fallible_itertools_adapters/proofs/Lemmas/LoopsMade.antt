-- Loops by hand over what lists values that are made of a list's items, up to an allocation failure.
use Rattle.std.specs.Prelude.{◌≡◌, Some, None, Result, Ok, Err, List, [], ◌∷◌, ◌⊎◌}
use Rattle.std.proofs.Common.{refl, sym, ap, subst, inl, inr, ◌∙◌}
use Rattle.fallible_iterator.specs.Traces.{Answered}
use Rattle.fallible_iterator.specs.Making.{AtRefusal, GivesMade, IsRefusal, IsToldOrRefused, ListsMade, RefusesNext}
use Rattle.fallible_iterator.proofs.Lemmas.Making.{answer_told_is_never_end, told_or_refused_of_failure, failure_told, item_told, told_or_refused_of_refusal}
use Rattle.std.specs.declared.alloc.AllocError.{AllocError}

module _ {S X B E C R : Type 0} (made : X → B → Type 0) (steps : S → Answered B E → S → Type 0) (from : AllocError → E → Type 0) (answers : C → List (Result X E) → R) where
  -- what the whole returns is what the rest that s lists returns from c on
  pub record RestFromHere (whole : R) (s : S) (c : C) : Type 0 where
    pub rest : List (Result X E)
    pub lists : ListsMade made steps from s rest
    pub same : whole ≡ answers c rest

  -- It is so, unless the next answer is an allocation failure.
  abbrev pub OrRefusesNext : R → S → C → Type 0
  OrRefusesNext whole s c = RefusesNext steps from s ⊎ RestFromHere whole s c

  -- Whatever whole s0 lists, what it returns from c0 on is what the rest that s lists returns from c on, unless the next answer is an allocation failure.
  pub record MadeFromHere (s0 : S) (c0 : C) (s : S) (c : C) : Type 0 where
    pub at : (whole : List (Result X E)) → ListsMade made steps from s0 whole → OrRefusesNext (answers c0 whole) s c

  -- an item is made of one that was held, before an allocation failure, or of the list's
  abbrev ItemFrom : Result X E → B → S → Type 0 → Type 0
  ItemFrom z y t G = ((x : X) × made x y × RefusesNext steps from t) ⊎ ((x : X) × (z ≡ Ok x) × made x y × G)

  or_refuses_next_of_item : {whole : R} {t : S} {c d : C} (y : B) (z : Result X E) (l : List (Result X E)) → whole ≡ answers c (z ∷ l) → ((x : X) (k : List (Result X E)) → made x y → answers c (Ok x ∷ k) ≡ answers d k) → ItemFrom z y t (GivesMade made steps from t l) → OrRefusesNext whole t d
  or_refuses_next_of_item y z l is same (inl (x, m, next)) = inl next
  or_refuses_next_of_item {c = c} y z l is same (inr (x, this, m, rest)) = inr (record { rest = l; lists = record { runs = rest }; same = is ∙ ap (λ w. answers c (w ∷ l)) this ∙ same x l m })

  -- an item that comes where the list is used up was held before an allocation failure
  refuses_next_after_last : (y : B) (t : S) → AtRefusal made steps from (Ok (Some y)) t ⊎ ◌≡◌ {A = Answered B E} (Ok (Some y)) (Ok None) → RefusesNext steps from t
  refuses_next_after_last y t (inl (inl r)) = absurd (let e = r.1 in cc)
  refuses_next_after_last y t (inl (inr h)) = h.4
  refuses_next_after_last y t (inr is) = absurd cc

  made_from_here_at_item : {whole : R} {s t : S} {c d : C} (y : B) (l : List (Result X E)) → GivesMade made steps from s l → whole ≡ answers c l → steps s (Ok (Some y)) t → ((x : X) (k : List (Result X E)) → made x y → answers c (Ok x ∷ k) ≡ answers d k) → OrRefusesNext whole t d
  made_from_here_at_item {t = t} y [] gives is drawn same = inl (refuses_next_after_last y t (gives _ _ drawn))
  made_from_here_at_item {t = t} y (z ∷ l) gives is drawn same = or_refuses_next_of_item y z l is same (item_told made steps from z y t (gives _ _ drawn))

  after_item : {whole : R} {s t : S} {c d : C} (y : B) → OrRefusesNext whole s c → steps s (Ok (Some y)) t → ((x : X) (k : List (Result X E)) → made x y → answers c (Ok x ∷ k) ≡ answers d k) → OrRefusesNext whole t d
  after_item y (inl r) drawn same = absurd (let h = (r _ _ drawn).1 in cc)
  after_item y (inr here) drawn same = made_from_here_at_item y here.rest here.lists.runs here.same drawn same

  -- a failure is an allocation failure, or the first of the rest
  abbrev FailedBy : R → C → E → Type 0
  FailedBy whole c e = IsRefusal from e ⊎ ((k : List (Result X E)) × (whole ≡ answers c (Err e ∷ k)))

  failed_by_first : {whole : R} {c : C} (e : E) (z : Result X E) (l : List (Result X E)) {G : Type 0} → whole ≡ answers c (z ∷ l) → IsRefusal from e ⊎ ((z ≡ Err e) × G) → FailedBy whole c e
  failed_by_first e z l is (inl r) = inl r
  failed_by_first {c = c} e z l is (inr k) = inr (l, is ∙ ap (λ w. answers c (w ∷ l)) k.0)

  refused_after_last : (e : E) (t : S) → AtRefusal made steps from (Err e) t ⊎ ◌≡◌ {A = Answered B E} (Err e) (Ok None) → IsRefusal from e
  refused_after_last e t (inl (inl r)) = subst (IsRefusal from) (let q = r.1 in cc) r.2
  refused_after_last e t (inl (inr h)) = absurd (let q = h.3 in cc)
  refused_after_last e t (inr is) = absurd cc

  at_failure : {whole : R} {s t : S} {c : C} (e : E) (l : List (Result X E)) → GivesMade made steps from s l → whole ≡ answers c l → steps s (Err e) t → FailedBy whole c e
  at_failure {t = t} e [] gives is drawn = inl (refused_after_last e t (gives _ _ drawn))
  at_failure {t = t} e (z ∷ l) gives is drawn = failed_by_first e z l is (failure_told made steps from z e t (gives _ _ drawn))

  after_failure : {whole : R} {s t : S} {c : C} (e : E) → OrRefusesNext whole s c → steps s (Err e) t → FailedBy whole c e
  after_failure e (inl r) drawn = let h = r _ _ drawn in inl (subst (IsRefusal from) (let q = h.1 in cc) h.2)
  after_failure e (inr here) drawn = at_failure e here.rest here.lists.runs here.same drawn

  whole_after_nil : {whole : R} {s t : S} {c : C} (l : List (Result X E)) → GivesMade made steps from s l → whole ≡ answers c l → steps s (Ok None) t → whole ≡ answers c []
  whole_after_nil [] gives is drawn = is
  whole_after_nil {t = t} (z ∷ l) gives is drawn = answer_told_is_never_end made steps from z t (gives _ _ drawn)

  after_end : {whole : R} {s t : S} {c : C} → OrRefusesNext whole s c → steps s (Ok None) t → whole ≡ answers c []
  after_end (inl r) drawn = absurd (let h = (r _ _ drawn).1 in cc)
  after_end (inr here) drawn = whole_after_nil here.rest here.lists.runs here.same drawn

module _ {S X B E C R : Type 0} {made : X → B → Type 0} {steps : S → Answered B E → S → Type 0} {from : AllocError → E → Type 0} {answers : C → List (Result X E) → R} {s0 : S} {c0 : C} where
  -- before the first value
  pub made_from_here_first : MadeFromHere made steps from answers s0 c0 s0 c0
  made_from_here_first = record { at = λ whole lists. inr (record { rest = whole; lists = lists; same = refl }) }

  module _ {s t : S} {c : C} {r : Answered B E} where
    -- after a value on which the loop goes on with d
    pub made_after_item : (y : B) {d : C} → MadeFromHere made steps from answers s0 c0 s c → steps s r t → r ≡ Ok (Some y) → ((x : X) (k : List (Result X E)) → made x y → answers c (Ok x ∷ k) ≡ answers d k) → MadeFromHere made steps from answers s0 c0 t d
    made_after_item y here drawn is same = record { at = λ whole lists. after_item made steps from answers y (here.at whole lists) (subst (λ z. steps s z t) is drawn) same }

    -- at the end
    pub whole_at_end : MadeFromHere made steps from answers s0 c0 s c → steps s r t → r ≡ Ok None → (whole : List (Result X E)) → ListsMade made steps from s0 whole → answers c0 whole ≡ answers c []
    whole_at_end here drawn is whole lists = after_end made steps from answers (here.at whole lists) (subst (λ z. steps s z t) is drawn)

by_failure : {X E V T C : Type 0} (into : V → T → Type 0) (from : AllocError → E → Type 0) (answers : C → List (Result X E) → Result V E) (c : C) (e : E) (whole : Result V E) → ((k : List (Result X E)) → answers c (Err e ∷ k) ≡ Err e) → IsRefusal from e ⊎ ((k : List (Result X E)) × (whole ≡ answers c (Err e ∷ k))) → IsToldOrRefused into from whole (Err e)
by_failure into from answers c e whole same (inl w) = told_or_refused_of_refusal into from whole e w
by_failure into from answers c e whole same (inr k) = told_or_refused_of_failure into from whole e (k.1 ∙ same k.0)

-- If the loop returns a result, it is the given one, or an allocation failed.
module _ {S X B E C V T : Type 0} {made : X → B → Type 0} {steps : S → Answered B E → S → Type 0} {from : AllocError → E → Type 0} {answers : C → List (Result X E) → Result V E} (into : V → T → Type 0) {s0 s t : S} {c0 c : C} {r : Answered B E} where
  -- at a failure, with which the loop is left
  pub fails_told : (e : E) → MadeFromHere made steps from answers s0 c0 s c → steps s r t → r ≡ Err e → ((k : List (Result X E)) → answers c (Err e ∷ k) ≡ Err e) → (whole : List (Result X E)) → ListsMade made steps from s0 whole → IsToldOrRefused into from (answers c0 whole) (Err e)
  fails_told e here drawn is same whole lists = by_failure into from answers c e (answers c0 whole) same (after_failure made steps from answers e (here.at whole lists) (subst (λ z. steps s z t) is drawn))

  -- at the end
  pub ends_told : (v : Result T E) → MadeFromHere made steps from answers s0 c0 s c → steps s r t → r ≡ Ok None → IsToldOrRefused into from (answers c []) v → (whole : List (Result X E)) → ListsMade made steps from s0 whole → IsToldOrRefused into from (answers c0 whole) v
  ends_told v here drawn is told whole lists = subst (λ w. IsToldOrRefused into from w v) (sym (whole_at_end here drawn is whole lists)) told
