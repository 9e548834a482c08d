-- The contracts of `Unique`, `UniqueBy` and `Duplicates` are lawful where the source's is.
use Rattle.std.specs.Prelude.{Bool, ⊤, Result, List, [], ◌∷◌}
use Rattle.std.specs.Borrow.{Bor}
use Rattle.std.specs.Fn.{Mut}
use Rattle.std.specs.HashSet.{HashSet}
use Rattle.std.specs.List.{FoldsTo}
use Rattle.std.specs.declared.alloc.AllocError.{AllocError}
use Rattle.std.proofs.Common.{subst}
use Rattle.fallible_iterator.specs.Closures.{IsCallable, Reaches, call_by_reference}
use Rattle.fallible_iterator.specs.Contract.{Contract, Lawful}
use Rattle.fallible_iterator.specs.Hints.{upper_alone}
use Rattle.fallible_iterator.specs.Outcome.{Outcome}
use Rattle.fallible_iterator.specs.Laws.Closures.{is_callable_after, reaches_by_call_first, reaches_reflexive}
use Rattle.fallible_iterator.specs.Laws.Contract.{lawful_with_sound}
use Rattle.fallible_iterator.specs.Laws.Hints.Passing.{upper_alone_hold}
use Rattle.fallible_iterator.specs.Laws.Passing.{lawful_leaving_out}
use Rattle.fallible_itertools_adapters.specs.Outcomes.{as_answered_item}
use Rattle.fallible_itertools_adapters.specs.Unique.{duplicates_asks, duplicates_contract, key_asks, key_callable, key_takes, unique_asks, unique_by_contract, unique_contract}

-- ---- The contract of `Unique` is lawful where the source's is

pub lawful_unique : {I A S E : Type 0} {m : Contract I A E} (eq : A → A → Bool) (is_clone : A → A → Type 0) (is_infallible : A → Type 0) (from : AllocError → E → Type 0) → Lawful m → Lawful (unique_contract {S = S} eq is_clone is_infallible from m)
lawful_unique {m = m} eq is_clone is_infallible from l = lawful_with_sound (upper_alone_hold (unique_asks eq is_clone is_infallible from) as_answered_item l.hold) (lawful_leaving_out (unique_asks eq is_clone is_infallible from) (λ P seen. ⊤) as_answered_item (λ p h. upper_alone m p.0 h) (λ P Q f g weak reached c. tt) l)

-- ---- The contract of `UniqueBy` is lawful where the source's is

module _ {A K S F E : Type 0} (eq : K → K → Bool) (from : AllocError → E → Type 0) (call : F → A → Result K E → F → Type 0) {P : A → Type 0} where
  reaches_by_calls : (made : List (A × Outcome A E)) (p q : HashSet K S × F) → FoldsTo (λ p c q. P c.0 × key_asks eq from call p c.0 c.1 q) p made q → Reaches call P p.1 q.1
  reaches_by_calls [] p q w = subst (λ (z : HashSet K S × F). Reaches call P p.1 z.1) w reaches_reflexive
  reaches_by_calls (c ∷ made) p q w = reaches_by_call_first c.0 w.1.1.0 w.1.0 w.1.1.1 (reaches_by_calls made w.0 q w.2)

  -- what is asked on items calls the closure on these
  pub reaches_closure : {p q : HashSet K S × F} → Reaches (key_asks eq from call) P p q → Reaches call P p.1 q.1
  reaches_closure {p = p} {q = q} r = reaches_by_calls r.made p q r.by

  -- where the closure may be called on what comes, the adapter may be called on it
  pub is_callable_key : {takes : F → A → Type 0} {p : HashSet K S × F} → IsCallable call takes P p.1 → IsCallable (key_asks eq from call) (key_takes takes) P p
  is_callable_key c = record { at = λ q x r may. c.at q.1 x (reaches_closure r) may }

pub lawful_unique_by : {I A K S F E : Type 0} {m : Contract I A E} (eq : K → K → Bool) (from : AllocError → E → Type 0) (g : Mut F (Bor A × Unit {0}) (Result K E)) → Lawful m → Lawful (unique_by_contract {S = S} eq from m g)
lawful_unique_by {m = m} eq from g l = lawful_with_sound (upper_alone_hold (key_asks eq from (call_by_reference g)) as_answered_item l.hold) (lawful_leaving_out (key_asks eq from (call_by_reference g)) (key_callable g) as_answered_item (λ p h. upper_alone m p.0 h) (λ P Q p q weak reached c. is_callable_after weak (reaches_closure eq from (call_by_reference g) reached) c) l)

-- ---- The contract of `Duplicates` is lawful where the source's is

pub lawful_duplicates : {I A S E : Type 0} {m : Contract I A E} (eq : A → A → Bool) (from : AllocError → E → Type 0) → Lawful m → Lawful (duplicates_contract {S = S} eq from m)
lawful_duplicates {m = m} eq from l = lawful_with_sound (upper_alone_hold (duplicates_asks eq from) as_answered_item l.hold) (lawful_leaving_out (duplicates_asks eq from) (λ P came. ⊤) as_answered_item (λ p h. upper_alone m p.0 h) (λ P Q f g weak reached c. tt) l)
