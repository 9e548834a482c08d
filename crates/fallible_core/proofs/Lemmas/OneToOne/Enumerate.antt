-- A draw of `Enumerate`, and what it lists.
use Rattle.std.specs.Prelude.{◌≡◌, ℕ, ◌+◌, List, [], ◌∷◌, Result, Some, None, Ok, Err}
use Rattle.std.proofs.Common.{refl, sym, ap, subst}
use Rattle.fallible_contract.specs.Contract.{Contract, parts_as}
use Rattle.fallible_contract.specs.Lists.{AlwaysGives, Lists}
use Rattle.fallible_contract.proofs.Lemmas.Lists.Passing.{lists_seen}
use Rattle.fallible_contract.specs.Traces.{Answered, item}
use Rattle.fallible_core.specs.OneToOne.Enumerate.{numbered, EnumerateTrace, enumerate_parts, enumerate_contract}
use Rattle.fallible_core.specs.Laws.OneToOne.Enumerate.{NumberedTrace, numbered_none, numbered_item, numbered_end, numbered_failure, numbered_trace_of_enumerate_trace, enumerate_trace_of_numbered}
use Rattle.fallible_core.specs.declared.one_to_one.enumerate.Enumerate.{Enumerate}

module _ {S A E : Type 0} {steps : S → Answered A E → S → Type 0} {s t : S} {n : ℕ} where
  pub enumerate_trace_item : (x : A) → steps s (item x) t → EnumerateTrace steps (s, n) (item (n, x) ∷ []) (t, (n + 1))
  enumerate_trace_item x step = enumerate_trace_of_numbered steps s t n (n + 1) _ (numbered_item x step numbered_none)

  pub enumerate_trace_end : steps s (Ok None) t → EnumerateTrace steps (s, n) (Ok None ∷ []) (t, n)
  enumerate_trace_end step = enumerate_trace_of_numbered steps s t n n _ (numbered_end step numbered_none)

  pub enumerate_trace_failure : {e : E} → steps s (Err e) t → EnumerateTrace steps (s, n) (Err e ∷ []) (t, n)
  enumerate_trace_failure {e} step = enumerate_trace_of_numbered steps s t n n _ (numbered_failure e step numbered_none)

-- ---- what it lists

module _ {S A E : Type 0} (steps : S → Answered A E → S → Type 0) where
  abbrev pub numbered_step : S × ℕ → Answered (ℕ × A) E → S × ℕ → Type 0
  numbered_step p r q = EnumerateTrace steps p (r ∷ []) q

  answer_is_end_where_source_ends : (s t : S) (n k : ℕ) (r : Answered (ℕ × A) E) → AlwaysGives {A = A} steps s [] → NumberedTrace steps s n (r ∷ []) t k → r ≡ Ok None
  answer_is_end_where_source_ends s t n k _ a (numbered_item x step c) = absurd (let h = a (Ok (Some x)) _ step in cc)
  answer_is_end_where_source_ends s t n k _ a (numbered_end step c) = refl
  answer_is_end_where_source_ends s t n k _ a (numbered_failure e step c) = absurd (let h = a (Err e) _ step in cc)

  answer_is_numbered_where_source_gives_item : (x : A) (l : List (Result A E)) (s t : S) (n k : ℕ) (r : Answered (ℕ × A) E) → AlwaysGives steps s (Ok x ∷ l) → NumberedTrace steps s n (r ∷ []) t k → (r ≡ Ok (Some (n, x))) × (k ≡ n + 1) × AlwaysGives steps t l
  answer_is_numbered_where_source_gives_item x l s t n _ _ a (numbered_item z step numbered_none) = let h = a (Ok (Some z)) t step in ((let same : z ≡ x = (let e = h.0 in cc) in ap (λ (y : A). Ok (Some (n, y))) same), refl, h.1)
  answer_is_numbered_where_source_gives_item x l s t n k _ a (numbered_end step c) = absurd (let h = (a (Ok None) _ step).0 in cc)
  answer_is_numbered_where_source_gives_item x l s t n k _ a (numbered_failure e step c) = absurd (let h = (a (Err e) _ step).0 in cc)

  answer_is_failure_where_source_fails : (d : E) (l : List (Result A E)) (s t : S) (n k : ℕ) (r : Answered (ℕ × A) E) → AlwaysGives steps s (Err d ∷ l) → NumberedTrace steps s n (r ∷ []) t k → (r ≡ Err d) × (k ≡ n) × AlwaysGives steps t l
  answer_is_failure_where_source_fails d l s t n k _ a (numbered_item z step c) = absurd (let h = (a (Ok (Some z)) _ step).0 in cc)
  answer_is_failure_where_source_fails d l s t n k _ a (numbered_end step c) = absurd (let h = (a (Ok None) _ step).0 in cc)
  answer_is_failure_where_source_fails d l s t n _ _ a (numbered_failure e step numbered_none) = let h = a (Err e) t step in ((let same : e ≡ d = (let q = h.0 in cc) in ap (λ (c : E). Err c) same), refl, h.1)

  always_gives_numbered : (l : List (Result A E)) (s : S) (n : ℕ) → AlwaysGives steps s l → AlwaysGives numbered_step (s, n) (numbered n l)
  unfolding numbered
  always_gives_numbered [] s n a = λ r t w. answer_is_end_where_source_ends s t.0 n t.1 r a (numbered_trace_of_enumerate_trace steps s t.0 n t.1 (r ∷ []) w)
  always_gives_numbered (Ok x ∷ l) s n a = λ r t w. let d = answer_is_numbered_where_source_gives_item x l s t.0 n t.1 r a (numbered_trace_of_enumerate_trace steps s t.0 n t.1 (r ∷ []) w) in (d.0, subst (λ (k : ℕ). AlwaysGives numbered_step (t.0, k) (numbered (n + 1) l)) (sym d.1) (always_gives_numbered l t.0 (n + 1) d.2))
  always_gives_numbered (Err e ∷ l) s n a = λ r t w. let d = answer_is_failure_where_source_fails e l s t.0 n t.1 r a (numbered_trace_of_enumerate_trace steps s t.0 n t.1 (r ∷ []) w) in (d.0, subst (λ (k : ℕ). AlwaysGives numbered_step (t.0, k) (numbered n l)) (sym d.1) (always_gives_numbered l t.0 n d.2))

pub lists_numbered : {S A E : Type 0} (m : Contract S A E) (s : Enumerate S) (n : ℕ) (l : List (Result A E)) → enumerate_parts s ≡ (s.it, n) → Lists m.steps s.it l → Lists (parts_as enumerate_parts (enumerate_contract m)).steps s (numbered n l)
lists_numbered m s n l parts i = lists_seen enumerate_parts (enumerate_contract m).steps s parts refl (always_gives_numbered m.steps l s.it n i.runs)
