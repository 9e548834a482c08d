-- What looking ahead returns over a source that is listed, and what is listed then.
use Rattle.std.specs.Prelude.{◌≡◌, Bool, Option, Some, None, Result, Ok, Err, List, [], ◌∷◌, true, false}
use Rattle.std.proofs.Common.{refl, sym, ap, subst, ◌∙◌, inl, inr}
use Rattle.std.specs.Fn.{Shared}
use Rattle.std.specs.Borrow.{Bor}
use Rattle.fallible_contract.specs.Traces.{Answered, item}
use Rattle.fallible_contract.specs.Contract.{Contract, parts_as}
use Rattle.fallible_contract.specs.Lists.{AlwaysGives, Lists, nth_of}
use Rattle.fallible_contract.proofs.Lemmas.Lists.Passing.{lists_seen}
use Rattle.fallible_core.specs.Peeking.Peekable.{peekable_source, peekable_parts, peekable_step, peekable_contract, held_of, held_item, with_held, failure_told, Fills, Peeks, Looks, LooksAt, LooksAs, TakenIf, NextIf, rest_look, changed_first, look_of, first_if, rest_if}
use Rattle.fallible_core.proofs.Lemmas.Peeking.Peekable.{held_after_peek_is_held_of_answer}
use Rattle.fallible_core.specs.declared.peeking.peekable.Peekable.{Peekable}

-- what is listed of a value is listed of its parts
always_gives_parts : {V P A E : Type 0} (view : V → P) (back : P → V) (same : (p : P) → view (back p) ≡ p) (steps : P → Answered A E → P → Type 0) (l : List (Result A E)) (s : V) → AlwaysGives (λ u r v. steps (view u) r (view v)) s l → AlwaysGives steps (view s) l
always_gives_parts view back same steps [] s a = λ r q w. a r (back q) (subst (λ z. steps (view s) r z) (sym (same q)) w)
always_gives_parts view back same steps (y ∷ l) s a = λ r q w. let d = a r (back q) (subst (λ z. steps (view s) r z) (sym (same q)) w) in (d.0, subst (λ z. AlwaysGives steps z l) (same q) (always_gives_parts view back same steps l (back q) d.1))

module _ {S A E : Type 0} (steps : S → Answered A E → S → Type 0) where
  abbrev StepOfPeekableLists : S × Option (Option A) → Answered A E → S × Option (Option A) → Type 0
  StepOfPeekableLists = peekable_step steps

  -- what is listed where an answer is held
  always_gives_nil_where_end_held : (t : S) → AlwaysGives StepOfPeekableLists (t, Some None) []
  always_gives_nil_where_end_held t = λ r q w. w.0

  always_gives_cons_where_item_held : (t : S) (y : A) (l : List (Result A E)) → AlwaysGives StepOfPeekableLists (t, None) l → AlwaysGives StepOfPeekableLists (t, Some (Some y)) (Ok y ∷ l)
  always_gives_cons_where_item_held t y l a = λ r q w. (w.0, subst (λ (u : S). AlwaysGives StepOfPeekableLists (u, q.1) l) (sym w.1) (subst (λ (k : Option (Option A)). AlwaysGives StepOfPeekableLists (t, k) l) (sym w.2) a))

  -- a peek returns the first of the list, and leaves the list but for a failure
  peek_answers_nth_of_zero : (p q : S × Option (Option A)) (r : Answered A E) (l : List (Result A E)) → AlwaysGives StepOfPeekableLists p l → Peeks steps p r q → (r ≡ nth_of 0 l) × AlwaysGives StepOfPeekableLists q (rest_look l)
  unfolding nth_of rest_look
  peek_answers_nth_of_zero (s, Some o) (t, k) r [] a w = (w.0 ∙ a (Ok o) (s, None) (refl, refl, refl), subst (λ (u : S). AlwaysGives {A = A} StepOfPeekableLists (u, k) []) (sym w.1) (subst (λ (h : Option (Option A)). AlwaysGives {A = A} StepOfPeekableLists (s, h) []) (sym w.2) a))
  peek_answers_nth_of_zero (s, Some o) (t, k) r (Ok y ∷ l) a w = (w.0 ∙ (a (Ok o) (s, None) (refl, refl, refl)).0, subst (λ (u : S). AlwaysGives StepOfPeekableLists (u, k) (Ok y ∷ l)) (sym w.1) (subst (λ (h : Option (Option A)). AlwaysGives StepOfPeekableLists (s, h) (Ok y ∷ l)) (sym w.2) a))
  peek_answers_nth_of_zero (s, Some o) (t, k) r (Err e ∷ l) a w = absurd (let h = (a (Ok o) (s, None) (refl, refl, refl)).0 in cc)
  peek_answers_nth_of_zero (s, None) (t, k) (Ok None) [] a w = (refl, subst (λ (h : Option (Option A)). AlwaysGives {A = A} StepOfPeekableLists (t, h) []) (sym w.1) (always_gives_nil_where_end_held t))
  peek_answers_nth_of_zero (s, None) (t, k) (Ok (Some x)) [] a w = absurd (let h = a (Ok (Some x)) (t, None) (w.0, refl) in cc)
  peek_answers_nth_of_zero (s, None) (t, k) (Err e) [] a w = absurd (let h = a (Err e) (t, None) (w.0, refl) in cc)
  peek_answers_nth_of_zero (s, None) (t, k) (Ok None) (Ok y ∷ l) a w = absurd (let h = (a (Ok None) (t, None) (w.0, refl)).0 in cc)
  peek_answers_nth_of_zero (s, None) (t, k) (Ok (Some x)) (Ok y ∷ l) a w = let d = a (Ok (Some x)) (t, None) (w.0, refl) in let same : x ≡ y = (let h = d.0 in cc) in (d.0, subst (λ (h : Option (Option A)). AlwaysGives StepOfPeekableLists (t, h) (Ok y ∷ l)) (sym (w.1 ∙ ap (λ (z : A). Some (Some z)) same)) (always_gives_cons_where_item_held t y l d.1))
  peek_answers_nth_of_zero (s, None) (t, k) (Err e) (Ok y ∷ l) a w = absurd (let h = (a (Err e) (t, None) (w.0, refl)).0 in cc)
  peek_answers_nth_of_zero (s, None) (t, k) (Ok None) (Err y ∷ l) a w = absurd (let h = (a (Ok None) (t, None) (w.0, refl)).0 in cc)
  peek_answers_nth_of_zero (s, None) (t, k) (Ok (Some x)) (Err y ∷ l) a w = absurd (let h = (a (Ok (Some x)) (t, None) (w.0, refl)).0 in cc)
  peek_answers_nth_of_zero (s, None) (t, k) (Err e) (Err y ∷ l) a w = let d = a (Err e) (t, None) (w.0, refl) in (d.0, subst (λ (h : Option (Option A)). AlwaysGives StepOfPeekableLists (t, h) l) (sym w.1) d.1)

  -- what is listed where the item that is held is changed
  always_gives_changed : (l : List (Result A E)) (s : S) (held : Option (Option A)) (x w : A) → held_item held ≡ Some x → AlwaysGives StepOfPeekableLists (s, held) l → AlwaysGives StepOfPeekableLists (s, Some (Some w)) (changed_first w l)
  unfolding changed_first
  always_gives_changed l s (Some None) x w is a = absurd cc
  always_gives_changed l s None x w is a = absurd cc
  always_gives_changed [] s (Some (Some y)) x w is a = absurd (let h = a (Ok (Some y)) (s, None) (refl, refl, refl) in cc)
  always_gives_changed (Ok z ∷ l) s (Some (Some y)) x w is a = always_gives_cons_where_item_held s w l (a (Ok (Some y)) (s, None) (refl, refl, refl)).1
  always_gives_changed (Err e ∷ l) s (Some (Some y)) x w is a = absurd (let h = (a (Ok (Some y)) (s, None) (refl, refl, refl)).0 in cc)

  look_answers_look_of : {F R : Type 0} (g : Shared F (Bor A × Unit {0}) R) (f : F) (h : A → R) → LooksAs g f h → (a : Answered A E) (r : Result (Option R) E) (l : List (Result A E)) → a ≡ nth_of 0 l → LooksAt g f a r → r ≡ look_of h l
  unfolding nth_of look_of
  look_answers_look_of g f h acts (Ok (Some x)) r [] is w = absurd cc
  look_answers_look_of g f h acts (Ok None) r [] is w = w
  look_answers_look_of g f h acts (Err e) r [] is w = absurd cc
  look_answers_look_of {R = R} g f h acts (Ok (Some x)) r (Ok y ∷ l) is w = w.2 ∙ ap (λ (v : R). Ok (Some v)) (acts x w.0 w.1 ∙ ap h (let same : x ≡ y = cc in same))
  look_answers_look_of g f h acts (Ok None) r (Ok y ∷ l) is w = absurd cc
  look_answers_look_of g f h acts (Err e) r (Ok y ∷ l) is w = absurd cc
  look_answers_look_of g f h acts (Ok (Some x)) r (Err y ∷ l) is w = absurd cc
  look_answers_look_of g f h acts (Ok None) r (Err y ∷ l) is w = absurd cc
  look_answers_look_of g f h acts (Err e) r (Err y ∷ l) is w = w ∙ ap (λ (d : E). Err d) (let same : e ≡ y = cc in same)

  -- a test by a function, and what it takes
  taken_if_answers_first_if : (test : A → Bool → Type 0) (h : A → Bool) → ((x : A) (b : Bool) → test x b → b ≡ h x) → (a r : Answered A E) (p q : S × Option (Option A)) (l : List (Result A E)) → a ≡ nth_of 0 l → AlwaysGives StepOfPeekableLists p (rest_look l) → TakenIf steps test p a r q → (r ≡ first_if h l) × AlwaysGives StepOfPeekableLists q (rest_if h l)
  unfolding nth_of rest_look first_if rest_if
  taken_if_answers_first_if test h acts (Ok (Some x)) r p q [] is given w = absurd cc
  taken_if_answers_first_if test h acts (Ok None) r p q [] is given w = (w.0, subst (λ (z : S × Option (Option A)). AlwaysGives {A = A} StepOfPeekableLists z []) (sym w.1) given)
  taken_if_answers_first_if test h acts (Err e) r p q [] is given w = absurd cc
  taken_if_answers_first_if test h acts (Ok (Some x)) r p q (Ok y ∷ l) is given w = let same : x ≡ y = cc in elim w [
    | inl t ↦ (let yes : h y ≡ true = sym (acts x true t.0 ∙ ap h same) in rw yes (t.1 ∙ ap (λ (z : A). item z) same, (given r q t.2).1))
    | inr t ↦ (let no : h y ≡ false = sym (acts x false t.0 ∙ ap h same) in rw no (t.1, subst (λ (z : S × Option (Option A)). AlwaysGives StepOfPeekableLists z (Ok y ∷ l)) (sym t.2) given))
  ]
  taken_if_answers_first_if test h acts (Ok None) r p q (Ok y ∷ l) is given w = absurd cc
  taken_if_answers_first_if test h acts (Err e) r p q (Ok y ∷ l) is given w = absurd cc
  taken_if_answers_first_if test h acts (Ok (Some x)) r p q (Err y ∷ l) is given w = absurd cc
  taken_if_answers_first_if test h acts (Ok None) r p q (Err y ∷ l) is given w = absurd cc
  taken_if_answers_first_if test h acts (Err e) r p q (Err y ∷ l) is given w = (w.0 ∙ is, subst (λ (z : S × Option (Option A)). AlwaysGives StepOfPeekableLists z l) (sym w.1) given)

module _ {S A E : Type 0} (m : Contract S A E) (s t : Peekable S A E) (l : List (Result A E)) (i : Lists (parts_as peekable_parts (peekable_contract m)).steps s l) where
  always_gives_of_lists : AlwaysGives (peekable_step m.steps) (peekable_parts s) l
  always_gives_of_lists = always_gives_parts peekable_parts (λ p. record { it = p.0; held = p.1 }) (λ p. refl) (peekable_step m.steps) l s i.runs

  pub peek_answers_first_and_lists_rest : {r : Answered A E} → Peeks m.steps (peekable_parts s) r (peekable_parts t) → (r ≡ nth_of 0 l) × Lists (parts_as peekable_parts (peekable_contract m)).steps t (rest_look l)
  peek_answers_first_and_lists_rest {r = r} w = let d = peek_answers_nth_of_zero m.steps (peekable_parts s) (peekable_parts t) r l always_gives_of_lists w in (d.0, lists_seen peekable_parts (peekable_step m.steps) t refl refl d.1)

  pub fill_holds_first_and_lists_rest : {r : Result (Unit {0}) E} → Fills m.steps (peekable_parts s) r (peekable_parts t) → (r ≡ failure_told (nth_of 0 l)) × (t.held ≡ held_of (nth_of 0 l)) × Lists (parts_as peekable_parts (peekable_contract m)).steps t (rest_look l)
  fill_holds_first_and_lists_rest w = let d = peek_answers_first_and_lists_rest w.1 in (w.2 ∙ ap failure_told d.0, held_after_peek_is_held_of_answer m.steps (peekable_parts s) (peekable_parts t) w.0 w.1 ∙ ap held_of d.0, d.1)

  -- what is listed where the held item is changed
  pub lists_changed_first_with_held : (x w : A) → held_item s.held ≡ Some x → Lists (parts_as peekable_parts (peekable_contract m)).steps (with_held s w) (changed_first w l)
  lists_changed_first_with_held x w is = lists_seen peekable_parts (peekable_step m.steps) (with_held s w) refl refl (always_gives_changed m.steps l (peekable_source s) s.held x w is always_gives_of_lists)

  pub look_answers_look_of_and_lists_rest : {F R : Type 0} {g : Shared F (Bor A × Unit {0}) R} {f : F} {r : Result (Option R) E} (h : A → R) → LooksAs g f h → Looks m.steps g f (peekable_parts s) r (peekable_parts t) → (r ≡ look_of h l) × Lists (parts_as peekable_parts (peekable_contract m)).steps t (rest_look l)
  look_answers_look_of_and_lists_rest {g = g} {f = f} {r = r} h acts w = let d = peek_answers_first_and_lists_rest w.1 in (look_answers_look_of m.steps g f h acts w.0 r l d.0 w.2, d.1)

  pub next_if_answers_first_if_and_lists_rest : {test : A → Bool → Type 0} {r : Answered A E} (h : A → Bool) → ((x : A) (b : Bool) → test x b → b ≡ h x) → NextIf m.steps test (peekable_parts s) r (peekable_parts t) → (r ≡ first_if h l) × Lists (parts_as peekable_parts (peekable_contract m)).steps t (rest_if h l)
  next_if_answers_first_if_and_lists_rest {test = test} {r = r} h acts w =
      let d = peek_answers_nth_of_zero m.steps (peekable_parts s) w.after w.peeked l always_gives_of_lists w.peeks in
      let k = taken_if_answers_first_if m.steps test h acts w.peeked r w.after (peekable_parts t) l d.0 d.1 w.taken in
      (k.0, lists_seen peekable_parts (peekable_step m.steps) t refl refl k.1)
