-- What is listed unless an allocation fails, and what `collect` and `count` make of that.
use Rattle.std.specs.Prelude.{◌≡◌, ℕ, Result, Some, None, Ok, Err, List, [], ◌∷◌, ◌++◌, length, map, ◌⊎◌}
use Rattle.std.proofs.Common.{refl, sym, ap, subst, inl, inr, ◌∙◌, arith}
use Rattle.fallible_iterator.specs.Traces.{Answered, Run, item, end}
use Rattle.fallible_iterator.specs.Collecting.{Collects}
use Rattle.fallible_iterator.specs.Folds.{CountDrains, CountExit}
use Rattle.fallible_iterator.specs.Lists.{before, collected, counted, one_more_than, result_answer}
use Rattle.fallible_iterator.specs.Making.{AnswersRefusal, CollectedMade, EachMade, IsRefusal, SameOrRefused}
use Rattle.fallible_iterator.proofs.Lemmas.Making.{told_or_refused_of_failure, told_or_refused_of_refusal}
use Rattle.fallible_itertools_adapters.specs.UnlessRefused.{GivesUnlessRefused, ListsUnlessRefused}
use Rattle.std.specs.declared.alloc.AllocError.{AllocError}
use Rattle.fallible_iterator.specs.Fault.{Fault}
use Rattle.fallible_iterator.specs.Fault.TheVariants.{Source, Memory}

module _ {W P A E : Type 0} (from : AllocError → E → Type 0) (view : W → P) (steps : P → Answered A E → P → Type 0) where
  -- a value whose answers are those of its parts gives what they give
  pub gives_unless_refused_seen : (l : List (Result A E)) (s : W) → GivesUnlessRefused steps from (view s) l → GivesUnlessRefused (λ u r v. steps (view u) r (view v)) from s l
  gives_unless_refused_seen [] s a = λ r t w. a r (view t) w
  gives_unless_refused_seen (y ∷ l) s a = λ r t w. refusal_or_gives_seen_by_answer r t (λ b. gives_unless_refused_seen l t b) (a r (view t) w)
    where
      refusal_or_gives_seen_by_answer : (r : Answered A E) (t : W) → (GivesUnlessRefused steps from (view t) l → GivesUnlessRefused (λ u r v. steps (view u) r (view v)) from t l) → AnswersRefusal from r ⊎ ((r ≡ result_answer y) × GivesUnlessRefused steps from (view t) l) → AnswersRefusal from r ⊎ ((r ≡ result_answer y) × GivesUnlessRefused (λ u r v. steps (view u) r (view v)) from t l)
      refusal_or_gives_seen_by_answer r t later (inl f) = inl f
      refusal_or_gives_seen_by_answer r t later (inr k) = inr (k.0, later k.1)

-- ---- what consumers make of it

module _ {S A E : Type 0} (steps : S → Answered A E → S → Type 0) (from : AllocError → E → Type 0) where
  -- what the list goes on with after the items, by the last answer
  abbrev RestTold : Answered A E → List (Result A E) → Type 0
  RestTold (Ok None) rest = rest ≡ []
  RestTold (Err e) rest = (k : List (Result A E)) × (rest ≡ Err e ∷ k)
  RestTold (Ok (Some y)) rest = ⊥

  -- the last answer is an allocation failure, or it and the items before it are those of the list
  abbrev DrawsTold : List (Result A E) → List A → Answered A E → Type 0
  DrawsTold l xs last = AnswersRefusal from last ⊎ ((rest : List (Result A E)) × (l ≡ map (λ x. Ok x) xs ++ rest) × RestTold last rest)

  draws_told_cons : (x : A) (l : List (Result A E)) (xs : List A) (last : Answered A E) → DrawsTold l xs last → DrawsTold (Ok x ∷ l) (x ∷ xs) last
  draws_told_cons x l xs last (inl f) = inl f
  draws_told_cons x l xs last (inr (rest, is, k)) = inr (rest, ap (λ j. Ok x ∷ j) is, k)

  -- `last` is no item
  abbrev IsStop : Answered A E → Type 0
  IsStop (Ok None) = Unit {0}
  IsStop (Err e) = Unit {0}
  IsStop (Ok (Some y)) = ⊥

  last_told : (y : Result A E) (l : List (Result A E)) (last : Answered A E) {G : Type 0} → IsStop last → AnswersRefusal from last ⊎ ((last ≡ result_answer y) × G) → DrawsTold (y ∷ l) [] last
  last_told y l last stops (inl f) = inl f
  last_told (Ok x) l (Ok None) stops (inr k) = absurd (let w = k.0 in cc)
  last_told (Ok x) l (Err e) stops (inr k) = absurd (let w = k.0 in cc)
  last_told (Err d) l (Ok None) stops (inr k) = absurd (let w = k.0 in cc)
  last_told (Err d) l (Err e) stops (inr k) = inr (Err d ∷ l, refl, (l, (let same : e ≡ d = (let w = k.0 in cc) in ap (λ (c : E). Err c ∷ l) (sym same))))
  last_told y l (Ok (Some x)) stops (inr k) = absurd stops

  ended_told : (last : Answered A E) → AnswersRefusal from last ⊎ (last ≡ end) → DrawsTold [] [] last
  ended_told last (inl f) = inl f
  ended_told last (inr is) = inr ([], refl, subst (λ (r : Answered A E). RestTold r []) (sym is) refl)

  item_told : (y : Result A E) (x : A) (l : List (Result A E)) (xs : List A) (last : Answered A E) {G : Type 0} → (G → DrawsTold l xs last) → AnswersRefusal from (item x) ⊎ ((item x ≡ result_answer y) × G) → DrawsTold (y ∷ l) (x ∷ xs) last
  item_told y x l xs last later (inl f) = absurd (let w = f.1 in cc)
  item_told (Ok z) x l xs last later (inr k) = subst (λ (w : A). DrawsTold (Ok w ∷ l) (x ∷ xs) last) (let same : x ≡ z = (let w = k.0 in cc) in same) (draws_told_cons x l xs last (later k.1))
  item_told (Err d) x l xs last later (inr k) = absurd (let w = k.0 in cc)

  no_item : (x : A) (r : Answered A E) → r ≡ item x → AnswersRefusal from r ⊎ (r ≡ end) → ⊥
  no_item x r item_is (inl f) = let w = sym item_is ∙ f.1 in cc
  no_item x r item_is (inr is) = let w = sym item_is ∙ is in cc

  draws_told : (xs : List A) (last : Answered A E) (l : List (Result A E)) (s t : S) → IsStop last → GivesUnlessRefused steps from s l → Run steps s (map item xs ++ last ∷ []) t → DrawsTold l xs last
  draws_told [] last [] s t stops a ran = ended_told last (a last ran.0 ran.1)
  draws_told [] last (y ∷ l) s t stops a ran = last_told y l last stops (a last ran.0 ran.1)
  draws_told (x ∷ xs) last [] s t stops a ran = absurd (no_item x (item x) refl (a (item x) ran.0 ran.1))
  draws_told (x ∷ xs) last (y ∷ l) s t stops a ran = item_told y x l xs last (λ k. draws_told xs last l ran.0 t stops k ran.2) (a (item x) ran.0 ran.1)

module _ {A E : Type 0} where
  collected_where_all_ok_is_items : (xs : List A) → collected {E = E} (map (λ x. Ok x) xs ++ []) ≡ Ok xs
  unfolding collected
  collected_where_all_ok_is_items [] = refl
  collected_where_all_ok_is_items (x ∷ xs) = ap (before x) (collected_where_all_ok_is_items xs)

  collected_at_failure_is_failure : (xs : List A) (e : E) (rest : List (Result A E)) → collected (map (λ x. Ok x) xs ++ Err e ∷ rest) ≡ Err e
  unfolding collected
  collected_at_failure_is_failure [] e rest = refl
  collected_at_failure_is_failure (x ∷ xs) e rest = ap (before x) (collected_at_failure_is_failure xs e rest)

  counted_where_all_ok_is_length : (xs : List A) → counted {E = E} (map (λ x. Ok x) xs ++ []) ≡ Ok (length xs)
  unfolding counted
  counted_where_all_ok_is_length [] = refl
  counted_where_all_ok_is_length (x ∷ xs) = ap one_more_than (counted_where_all_ok_is_length xs) ∙ ap (λ n. Ok n) (omega arith)

  counted_at_failure_is_failure : (xs : List A) (e : E) (rest : List (Result A E)) → counted (map (λ x. Ok x) xs ++ Err e ∷ rest) ≡ Err e
  unfolding counted
  counted_at_failure_is_failure [] e rest = refl
  counted_at_failure_is_failure (x ∷ xs) e rest = ap one_more_than (counted_at_failure_is_failure xs e rest)

each_made_of_itself : {A : Type 0} (xs : List A) → EachMade (λ x y. y ≡ x) xs xs
each_made_of_itself [] = tt
each_made_of_itself (x ∷ xs) = (refl, each_made_of_itself xs)

module _ {S A E : Type 0} (steps : S → Answered A E → S → Type 0) (from : AllocError → E → Type 0) where
  collected_by : {C : Type 0} (into : List A → C → Type 0) (l : List (Result A E)) (xs : List A) (c : C) → into xs c → DrawsTold steps from l xs end → CollectedMade (λ x y. y ≡ x) from into l (Ok c)
  collected_by into l xs c is (inl f) = absurd (let w = f.1 in cc)
  collected_by into l xs c is (inr (rest, same, none)) = (xs, xs, ap collected (same ∙ ap (λ k. map (λ x. Ok x) xs ++ k) none) ∙ collected_where_all_ok_is_items xs, each_made_of_itself xs, is)

  failed_by : (l : List (Result A E)) (xs : List A) (e : E) → DrawsTold steps from l xs (Err e) → (collected l ≡ Err e) ⊎ IsRefusal from e
  failed_by l xs e (inl f) = inr (subst (IsRefusal from) (let w = f.1 in cc) f.2)
  failed_by l xs e (inr (rest, same, k)) = inl (ap collected (same ∙ ap (λ j. map (λ x. Ok x) xs ++ j) k.1) ∙ collected_at_failure_is_failure xs e k.0)

  counted_by : (l : List (Result A E)) (xs : List A) (last : Answered A E) (r : Result ℕ E) → CountExit (length xs) last r → (IsStop steps from last → DrawsTold steps from l xs last) → SameOrRefused from (counted l) r
  counted_by l xs (Ok (Some y)) r exit told = absurd exit
  counted_by l xs (Ok None) r exit told = elim (told tt) [ inl f ↦ absurd (let w = f.1 in cc) | inr (rest, same, none) ↦ rw (exit, ap counted (same ∙ ap (λ k. map (λ x. Ok x) xs ++ k) none) ∙ counted_where_all_ok_is_length xs) refl ]
  counted_by l xs (Err e) r exit told = elim (told tt) [ inl f ↦ rw exit (told_or_refused_of_refusal (λ v y. y ≡ v) from (counted l) e (subst (IsRefusal from) (let w = f.1 in cc) f.2)) | inr (rest, same, k) ↦ rw exit (told_or_refused_of_failure (λ v y. y ≡ v) from (counted l) e (ap counted (same ∙ ap (λ j. map (λ x. Ok x) xs ++ j) k.1) ∙ counted_at_failure_is_failure xs e k.0)) ]

module _ {S A E : Type 0} {steps : S → Answered A E → S → Type 0} {from : AllocError → E → Type 0} where
  -- what `collect` returns over what lists unless an allocation fails
  pub collected_unless_refused : {C : Type 0} (into : List A → C → Type 0) (at_making : Type 0) (at_item : C → A → Type 0) {s : S} {l : List (Result A E)} (r : Result C (Fault E)) → Collects steps into at_making at_item s r → ListsUnlessRefused steps from s l → CollectedMade (λ x y. y ≡ x) from into l r
  collected_unless_refused into at_making at_item {s} {l} (Ok c) k i = collected_by steps from into l k.items c k.is_made (draws_told steps from k.items end l s k.after tt i.runs k.ran)
  collected_unless_refused into at_making at_item {s} {l} (Err (Source e)) k i = failed_by steps from l k.items e (draws_told steps from k.items (Err e) l s k.after tt i.runs k.ran)
  collected_unless_refused into at_making at_item (Err (Memory a)) k i = tt

  -- what `count` returns over what lists unless an allocation fails
  pub counted_unless_refused : {s t : S} {l : List (Result A E)} {r : Result ℕ E} → CountDrains steps s r t → ListsUnlessRefused steps from s l → SameOrRefused from (counted l) r
  counted_unless_refused {s = s} {t = t} {l = l} {r = r} k i = counted_by steps from l k.items k.last r k.at.exit (λ stops. draws_told steps from k.items k.last l s t stops i.runs k.ran)
