-- Whether no two items are equal, by the fold whose state is the set of the items so far.
use Rattle.std.specs.Prelude.{◌≡◌, ℕ, Bool, true, false, Option, Some, None, Result, Ok, Err, List, [], ◌∷◌, ◌++◌, length, map}
use Rattle.std.specs.Cmp.{IsEquivalence}
use Rattle.std.specs.HashSet.{HashSet, IsEmpty, IsFromIterResult, IsUnique, contains}
use Rattle.std.specs.Set.{is_member}
use Rattle.std.specs.List.{FoldsTo, list_any}
use Rattle.std.proofs.Common.{refl, sym, ap, subst, arith, ◌∙◌}
use Rattle.fallible_iterator.specs.Traces.{Answered}
use Rattle.fallible_iterator.specs.Fault.{Fault}
use Rattle.fallible_iterator.specs.Fault.TheVariants.{Memory}
use Rattle.fallible_iterator.specs.Folds.{goes_on, DriveExit, Driven, NthExit}
use Rattle.fallible_iterator.specs.Lists.{Lists, rest_nth, stopped_or}
use Rattle.fallible_iterator.proofs.Lemmas.Folds.{drained_by_implication}
use Rattle.fallible_iterator.proofs.Lemmas.Lists.Drawn.{RestAt, drawn_of_lists}
use Rattle.fallible_iterator.proofs.Lemmas.Lists.Rest.{lists_rest_nth}
use Rattle.fallible_iterator.proofs.Lemmas.Seen.{has_seen_more}
use Rattle.fallible_itertools.specs.AllUnique.{AllUniqueAs, AllUniqueDrains, UniqueAs, UniqueExit, UniqueStop, are_unique, false_or, is_unique_turn, rest_repeated, rest_repeated_after, seen_turn, unique_after, unique_or_fault_of}
use Rattle.std.specs.declared.alloc.AllocError.{AllocError}
use Rattle.std.specs.declared.hash.BuildHasherDefault.{BuildHasherDefault}
use Rattle.std.specs.declared.hash.FoldHasher.{FoldHasher}
use Rattle.std.specs.declared.ops.ControlFlow.TheVariants.{Break, Continue}

module _ {A : Type 0} (eq : A → A → Bool) where
  abbrev Items : Type 0
  Items = HashSet A (BuildHasherDefault FoldHasher)

  module _ (equivalence : IsEquivalence eq) where
    -- a turn that goes on met an item that wasn't seen
    unseen_and_has_seen_where_turn_goes_on : (p q : Items) (seen : List A) (x : A) (b : Bool) (u : Unit {0}) → IsFromIterResult eq seen p → contains eq p x ≡ b → seen_turn eq p x b (Continue u) q → (is_member eq seen x ≡ false) × IsFromIterResult eq (x ∷ seen) q
    unseen_and_has_seen_where_turn_goes_on p q seen x true u has is w = absurd cc
    unseen_and_has_seen_where_turn_goes_on p q seen x false u has is w = (sym (has.0 x) ∙ is, (has_seen_more eq equivalence p q seen x has.0 w.0, w.1))

    module _ {E : Type 0} where
      stopped_by : (seen : List A) (p q : Items) (x : A) (b : Bool) (stop : Option AllocError) (r : Result Bool (Fault E)) → IsFromIterResult eq seen p → seen_turn eq p x b (Break stop) q → r ≡ unique_or_fault_of (Ok (Some stop)) → UniqueStop eq seen b r
      stopped_by seen p q x true None r has w is = is
      stopped_by seen p q x true (Some a) r has w is = absurd cc
      stopped_by seen p q x false None r has w is = absurd w
      stopped_by seen p q x false (Some a) r has w is = (a, is, (p, has, w))

      unique_exit_by_turns : (items : List A) (last : Answered A E) (seen : List A) (p c d : Items) (answer : Answered (Option AllocError) E) (r : Result Bool (Fault E)) → IsFromIterResult eq seen p → FoldsTo (goes_on (is_unique_turn eq)) p items c → DriveExit (is_unique_turn eq) c last answer d → r ≡ unique_or_fault_of answer → UniqueExit eq seen items last r
      unique_exit_by_turns [] (Ok None) seen p c d answer r has went exit is = is ∙ ap unique_or_fault_of exit.0
      unique_exit_by_turns [] (Err e) seen p c d answer r has went exit is = is ∙ ap unique_or_fault_of exit.0
      unique_exit_by_turns [] (Ok (Some x)) seen p c d answer r has went exit is = subst (λ (b : Bool). UniqueStop eq seen b r) (has.0 x) (stopped_by seen p d x (contains eq p x) exit.0 r has (subst (λ (k : Items). is_unique_turn eq k x (Break exit.0) d) (sym went) exit.1) (is ∙ ap unique_or_fault_of exit.2))
      unique_exit_by_turns (x ∷ items) last seen p c d answer r has went exit is = let k = unseen_and_has_seen_where_turn_goes_on p went.0 seen x (contains eq p x) tt has refl went.1 in (k.0, unique_exit_by_turns items last (x ∷ seen) went.0 c d answer r k.1 went.2 exit is)

  pub all_unique_drains_by_fold : (equivalence : IsEquivalence eq) {I E : Type 0} {steps : I → Answered A E → I → Type 0} {s t : I} {p d : Items} {answer : Answered (Option AllocError) E} {r : Result Bool (Fault E)} → IsEmpty p → IsUnique eq p → Driven steps (is_unique_turn eq) s p answer t d → r ≡ unique_or_fault_of answer → AllUniqueDrains eq steps s r t
  all_unique_drains_by_fold equivalence {p = p} {d = d} {answer = answer} {r = r} none unique w is = drained_by_implication (λ items last h. unique_exit_by_turns equivalence items last [] p h.carried d answer r (λ k. ap (list_any (eq k)) none, unique) h.went h.exit is) w

-- ---- over a list

module _ {A E : Type 0} (eq : A → A → Bool) where
  unique_as_at_stop : (seen : List A) (b : Bool) (r : Result Bool (Fault E)) (later : Result Bool E) → UniqueStop eq seen b r → UniqueAs (false_or b later) r
  unique_as_at_stop seen true r later exit = subst (λ (z : Result Bool (Fault E)). UniqueAs (Ok false) z) (sym exit) refl
  unique_as_at_stop seen false r later exit = subst (λ (z : Result Bool (Fault E)). UniqueAs later z) (sym exit.1) tt

  unique_as_at_exit : (items : List A) (last : Answered A E) (seen : List A) (r : Result Bool (Fault E)) (rest : List (Result A E)) → RestAt last rest → UniqueExit eq seen items last r → UniqueAs (unique_after eq seen (map (λ x. Ok x) items ++ rest)) r
  unfolding unique_after
  unique_as_at_exit [] (Ok None) seen r rest at exit = subst (λ (z : Result Bool (Fault E)). UniqueAs (unique_after eq seen rest) z) (sym exit) (ap (unique_after eq seen) at)
  unique_as_at_exit [] (Err e) seen r rest at exit = subst (λ (z : Result Bool (Fault E)). UniqueAs (unique_after eq seen rest) z) (sym exit) (ap (unique_after eq seen) at.1)
  unique_as_at_exit [] (Ok (Some x)) seen r rest at exit = subst (λ (z : Result Bool E). UniqueAs z r) (sym (ap (unique_after eq seen) at.1)) (unique_as_at_stop seen (is_member eq seen x) r (unique_after eq (x ∷ seen) at.0) exit)
  unique_as_at_exit (x ∷ items) last seen r rest at exit = subst (λ (b : Bool). UniqueAs (false_or b (unique_after eq (x ∷ seen) (map (λ x. Ok x) items ++ rest))) r) (sym exit.0) (unique_as_at_exit items last (x ∷ seen) r rest at exit.1)

  -- it is no end that was drawn last
  abbrev Decided : Result Bool (Fault E) → Type 0
  Decided r = (¬ (r ≡ Ok true)) × ((a : AllocError) → ¬ (r ≡ Err (Memory a)))

  no_end_drawn : (items : List A) (last : Answered A E) (seen : List A) (r : Result Bool (Fault E)) → ¬ (r ≡ Ok true) → UniqueExit eq seen items last r → ¬ (last ≡ Ok None)
  no_end_drawn [] (Ok None) seen r other exit is = other exit
  no_end_drawn [] (Ok (Some x)) seen r other exit is = cc
  no_end_drawn [] (Err e) seen r other exit is = cc
  no_end_drawn (x ∷ items) last seen r other exit is = no_end_drawn items last (x ∷ seen) r other exit.1 is

  nth_exit_of_last : (n : ℕ) (last : Answered A E) → NthExit n n last
  nth_exit_of_last n (Ok None) = omega arith
  nth_exit_of_last n (Ok (Some x)) = omega arith
  nth_exit_of_last n (Err e) = omega arith

  rest_at_stop : (seen : List A) (b : Bool) (r : Result Bool (Fault E)) (here later : List (Result A E)) → Decided r → UniqueStop eq seen b r → stopped_or b here later ≡ here
  rest_at_stop seen true r here later other exit = refl
  rest_at_stop seen false r here later other exit = absurd (other.1 exit.0 exit.1)

  rest_repeated_after_is_rest_nth : (items : List A) (last : Answered A E) (seen : List A) (r : Result Bool (Fault E)) (rest : List (Result A E)) → RestAt last rest → Decided r → UniqueExit eq seen items last r → rest_repeated_after eq seen (map (λ x. Ok x) items ++ rest) ≡ rest_nth (length items) (map (λ x. Ok x) items ++ rest)
  unfolding rest_repeated_after rest_nth
  rest_repeated_after_is_rest_nth [] (Ok None) seen r rest at other exit = absurd (other.0 exit)
  rest_repeated_after_is_rest_nth [] (Err e) seen r rest at other exit = ap (rest_repeated_after eq seen) at.1 ∙ sym (ap (rest_nth 0) at.1)
  rest_repeated_after_is_rest_nth [] (Ok (Some x)) seen r rest at other exit = ap (rest_repeated_after eq seen) at.1 ∙ rest_at_stop seen (is_member eq seen x) r at.0 (rest_repeated_after eq (x ∷ seen) at.0) other exit ∙ sym (ap (rest_nth 0) at.1)
  rest_repeated_after_is_rest_nth (x ∷ items) last seen r rest at other exit = ap (λ (b : Bool). stopped_or b (map (λ x. Ok x) items ++ rest) (rest_repeated_after eq (x ∷ seen) (map (λ x. Ok x) items ++ rest))) exit.0 ∙ rest_repeated_after_is_rest_nth items last (x ∷ seen) r rest at other exit.1

  module _ {S : Type 0} {steps : S → Answered A E → S → Type 0} {s t : S} {r : Result Bool (Fault E)} (l : List (Result A E)) (w : AllUniqueDrains eq steps s r t) (i : Lists steps s l) where
    pub all_unique_of_lists : AllUniqueAs eq l r
    unfolding AllUniqueAs are_unique
    all_unique_of_lists = let d = drawn_of_lists steps w.items w.last l s t i.runs w.ran in subst (λ (k : List (Result A E)). UniqueAs (unique_after eq [] k) r) (sym d.list_is) (unique_as_at_exit w.items w.last [] r d.rest d.rest_is w.at)

    pub lists_rest_repeated : (¬ (r ≡ Ok true)) → ((a : AllocError) → ¬ (r ≡ Err (Memory a))) → Lists steps t (rest_repeated eq l)
    unfolding rest_repeated
    lists_rest_repeated ended refused = let d = drawn_of_lists steps w.items w.last l s t i.runs w.ran in
        let same : rest_repeated_after eq [] l ≡ rest_nth (length w.items) l = ap (rest_repeated_after eq []) d.list_is ∙ rest_repeated_after_is_rest_nth w.items w.last [] r d.rest d.rest_is (ended, refused) w.at ∙ sym (ap (rest_nth (length w.items)) d.list_is) in
        subst (λ (k : List (Result A E)). Lists steps t k) (sym same)
        (lists_rest_nth {n = length w.items} {r = w.last} l (record { items = w.items; last = w.last; ran = w.ran; at = record { is = refl; exit = nth_exit_of_last (length w.items) w.last } }) i (no_end_drawn w.items w.last [] r ended w.at))
