-- What `Take` lists.
use Rattle.std.specs.Prelude.{ℕ, Some, ◌≡◌, zero, suc, ◌+◌, List, [], ◌∷◌, Ok, Err}
use Rattle.std.proofs.Common.{refl, ap, subst, arith}
use Rattle.fallible_contract.specs.Contract.{Contract, parts_as}
use Rattle.fallible_contract.specs.Lists.{AlwaysGives, Lists, Repeats, repeated}
use Rattle.fallible_contract.proofs.Lemmas.Lists.Passing.{lists_seen}
use Rattle.fallible_contract.specs.Traces.{Answered, items_in}
use Rattle.fallible_core.specs.Cutting.Take.{taken, take_step, take_parts, take_contract}
use Rattle.std.specs.declared.result.Result.{Result}
use Rattle.fallible_core.specs.declared.cutting.take.Take.{Take}

-- ---- what it lists

module _ {S A E : Type 0} (steps : S → Answered A E → S → Type 0) where
  abbrev GivesTaken : S → ℕ → List (Result A E) → Type 0
  GivesTaken s n l = AlwaysGives (take_step steps) (s, n) l

  gives_taken : (l : List (Result A E)) (s : S) (n : ℕ) → AlwaysGives steps s l → GivesTaken s n (taken n l)
  unfolding taken
  gives_taken [] s zero a = λ r t w. w.0
  gives_taken (y ∷ l) s zero a = λ r t w. w.0
  gives_taken [] s (suc n) a = λ r t w. a r t.0 w.0
  gives_taken (Ok x ∷ l) s (suc n) a = λ r t w. let d = a r t.0 w.0 in (d.0, subst (λ (k : ℕ). GivesTaken t.0 k (taken n l)) (let counts : t.1 + items_in (r ∷ []) ≡ suc n = w.1 in let one : items_in (r ∷ []) ≡ 1 = ap (λ (q : Answered A E). items_in (q ∷ [])) d.0 in omega (arith, counts, one)) (gives_taken l t.0 n d.1))
  gives_taken (Err e ∷ l) s (suc n) a = λ r t w. let d = a r t.0 w.0 in (d.0, subst (λ (k : ℕ). GivesTaken t.0 k (taken (suc n) l)) (let counts : t.1 + items_in (r ∷ []) ≡ suc n = w.1 in let none : items_in (r ∷ []) ≡ 0 = ap (λ (q : Answered A E). items_in (q ∷ [])) d.0 in omega (arith, counts, none)) (gives_taken l t.0 (suc n) d.1))

  -- a source that repeats an item does so after a draw
  pub repeats_after : (s t : S) (r : Answered A E) (y : Result A E) → Repeats steps s y → steps s r t → Repeats steps t y
  repeats_after s t r y p step = record { each = λ trace u v q ran last. p.each (r ∷ trace) u v q (t, step, ran) last }

  gives_repeated : (n : ℕ) (s : S) (x : A) → Repeats steps s (Ok x) → GivesTaken s n (repeated n x)
  unfolding repeated
  gives_repeated zero s x p = λ r t w. w.0
  gives_repeated (suc n) s x p = λ r t w. let is : r ≡ Ok (Some x) = p.each [] s t.0 r refl w.0 in (is, subst (λ (k : ℕ). GivesTaken t.0 k (repeated n x)) (let counts : t.1 + items_in (r ∷ []) ≡ suc n = w.1 in let one : items_in (r ∷ []) ≡ 1 = ap (λ (q : Answered A E). items_in (q ∷ [])) is in omega (arith, counts, one)) (gives_repeated n t.0 x (repeats_after s t.0 r (Ok x) p w.0)))

pub lists_taken : {S A E : Type 0} (m : Contract S A E) (s : Take S) (n : ℕ) (l : List (Result A E)) → take_parts s ≡ (s.it, n) → Lists m.steps s.it l → Lists (parts_as take_parts (take_contract m)).steps s (taken n l)
lists_taken m s n l parts i = lists_seen take_parts (take_step m.steps) s parts refl (gives_taken m.steps l s.it n i.runs)

pub lists_repeated : {S A E : Type 0} (m : Contract S A E) (s : Take S) (n : ℕ) (x : A) → take_parts s ≡ (s.it, n) → Repeats m.steps s.it (Ok x) → Lists (parts_as take_parts (take_contract m)).steps s (repeated n x)
lists_repeated m s n x parts p = lists_seen take_parts (take_step m.steps) s parts refl (gives_repeated m.steps n s.it x p)
