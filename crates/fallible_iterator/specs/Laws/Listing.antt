-- Both ends of an adapter list what its definition says.
use Rattle.std.specs.Prelude.{◌≡◌, List, reverse, Option, Result, Bool}
use Rattle.std.specs.Fn.{Mut}
use Rattle.std.proofs.Common.{refl}
use Rattle.std.specs.Borrow.{Bor, MutBor}
use Rattle.fallible_contract.specs.Traces.{Answered}
use Rattle.fallible_contract.specs.Contract.{Contract, parts_as}
use Rattle.fallible_contract.specs.Ends.{Ends, ends_of, ends_parts_as, from_back}
use Rattle.fallible_contract.specs.Closures.{call_by_value, call_by_reference}
use Rattle.fallible_contract.specs.Passing.{passing_step}
use Rattle.fallible_contract.specs.Failing.{failing_step}
use Rattle.fallible_contract.specs.BothEnds.{ListsBothEnds}
use Rattle.fallible_contract.proofs.Lemmas.BothEnds.{lists_both_ends_of_parts, lists_both_ends_through_view, lists_both_ends_where_view_lists, lists_both_ends_swapped}
use Rattle.fallible_contract.proofs.Lemmas.BothEnds.Passing.{lists_both_ends_passed, lists_both_ends_by_function}
use Rattle.fallible_contract.proofs.Lemmas.Failing.{lists_mapped_of_steady_answers, lists_mapped_by_function}
use Rattle.fallible_contract.proofs.Lemmas.Lists.Passing.{passed}
use Rattle.fallible_core.specs.Borrowed.{borrowed, boxed}
use Rattle.fallible_core.specs.Joining.Chain.{chain_step}
use Rattle.fallible_core.specs.OneToOne.Cloned.{cloned_call, cloned_parts}
use Rattle.fallible_core.specs.OneToOne.Inspect.{inspected, inspect_outcome, inspect_parts}
use Rattle.fallible_core.specs.OneToOne.Map.{mapped, map_outcome, map_parts}
use Rattle.fallible_core.specs.Filtering.Filter.{filtered, tested_outcome, filter_parts}
use Rattle.fallible_core.specs.Filtering.FilterMap.{filter_mapped, filter_map_outcome, filter_map_parts}
use Rattle.fallible_core.specs.Peeking.Peekable.{peekable_parts, peekable_contract, peekable_ends}
use Rattle.fallible_core.proofs.Lemmas.Joining.ChainListed.{chain_step_back, lists_both_ends_chained, lists_both_ends_first_alone, lists_both_ends_second_alone}
use Rattle.fallible_core.proofs.Lemmas.OneToOne.Cloned.{passed_list_with_clone_is_mapped, passed_clones_are_pointed_to, lists_both_ends_clones, lists_both_ends_originals}
use Rattle.fallible_core.proofs.Lemmas.OneToOne.Inspect.{inspect_outcome_is_never_end, passed_is_inspected}
use Rattle.fallible_core.proofs.Lemmas.OneToOne.Map.{map_outcome_is_never_end, passed_is_mapped}
use Rattle.fallible_core.proofs.Lemmas.Filtering.Filter.{tested_outcome_is_never_end, passed_is_filtered}
use Rattle.fallible_core.proofs.Lemmas.Filtering.FilterMap.{filter_map_outcome_is_never_end, passed_is_filter_mapped}
use Rattle.fallible_core.proofs.Lemmas.Peeking.PeekableEnds.{lists_both_ends_peekable}
use Rattle.fallible_iterator.specs.Listing.{ListsClones, ListsHeld, clones, originals, ListsByClosure, ListsFailures, ListsBothSides, ListsChanged, by_steady_answers, by_function, by_steady_answers_to_failures, by_function_of_failures, both, first_alone, second_alone}
use Rattle.std.specs.declared.alloc.AllocError.{AllocError}
use Rattle.std.specs.declared.alloc.Global.{Global}
use Rattle.std.specs.declared.boxed.Box.{Box}
use Rattle.fallible_contract.specs.declared.passing.Outcome.{Outcome}
use Rattle.fallible_contract.specs.declared.passing.Outcome.TheVariants.{End}
use Rattle.fallible_core.specs.declared.joining.chain.StillDrawn.{StillDrawn}
use Rattle.fallible_core.specs.declared.filtering.filter.Filter.{Filter}
use Rattle.fallible_core.specs.declared.filtering.filter_map.FilterMap.{FilterMap}
use Rattle.fallible_core.specs.declared.one_to_one.cloned.Cloned.{Cloned}
use Rattle.fallible_core.specs.declared.one_to_one.inspect.Inspect.{Inspect}
use Rattle.fallible_core.specs.declared.one_to_one.map.Map.{Map}
use Rattle.fallible_core.specs.declared.peeking.peekable.Peekable.{Peekable}

module _ {V S F X R B E : Type 0} (parts : V → S × F) (front back : S → Answered X E → S → Type 0) (call : F → X → R → F → Type 0) (outcome : X → R → Outcome B E) (never_ends : (x : X) (v : R) → outcome x v ≡ End → ⊥)
    (list : (X → R) → List (Result X E) → List (Result B E)) (list_is : (h : X → R) (l : List (Result X E)) → passed outcome (λ (p : Unit {0}) x. h x) (λ p x. p) tt l ≡ list h l) where
  -- whose closure is called on each item
  pub by_closure_listed : (s : V) (l : List (Result B E)) → ListsByClosure parts call outcome list (ListsBothEnds front back) s l → ListsBothEnds (λ u r v. passing_step front call outcome (parts u) r (parts v)) (λ u r v. passing_step back call outcome (parts u) r (parts v)) s l
  by_closure_listed s _ (by_steady_answers it f asked at steady i) = lists_both_ends_of_parts parts s at refl (lists_both_ends_passed front back call outcome never_ends asked it f steady i)
  by_closure_listed s _ (by_function it f h l at acts i) = lists_both_ends_of_parts parts s at (list_is h l) (lists_both_ends_by_function call outcome never_ends f h acts front back it l i)

module _ {S F X B E : Type 0} (g : Mut F (X × Unit {0}) (Result B E)) (front back : S → Answered X E → S → Type 0) where
  pub map_listed : (s : Map S F) (l : List (Result B E)) → ListsByClosure map_parts (call_by_value g) map_outcome mapped (ListsBothEnds front back) s l → ListsBothEnds (λ u r v. passing_step front (call_by_value g) map_outcome (map_parts u) r (map_parts v)) (λ u r v. passing_step back (call_by_value g) map_outcome (map_parts u) r (map_parts v)) s l
  map_listed = by_closure_listed map_parts front back (call_by_value g) map_outcome map_outcome_is_never_end mapped passed_is_mapped

module _ {S F X E : Type 0} (g : Mut F (Bor X × Unit {0}) (Result (Unit {0}) E)) (front back : S → Answered X E → S → Type 0) where
  pub inspect_listed : (s : Inspect S F) (l : List (Result X E)) → ListsByClosure inspect_parts (call_by_reference g) inspect_outcome inspected (ListsBothEnds front back) s l → ListsBothEnds (λ u r v. passing_step front (call_by_reference g) inspect_outcome (inspect_parts u) r (inspect_parts v)) (λ u r v. passing_step back (call_by_reference g) inspect_outcome (inspect_parts u) r (inspect_parts v)) s l
  inspect_listed = by_closure_listed inspect_parts front back (call_by_reference g) inspect_outcome inspect_outcome_is_never_end inspected passed_is_inspected

module _ {S F X E : Type 0} (g : Mut F (Bor X × Unit {0}) (Result Bool E)) (front back : S → Answered X E → S → Type 0) where
  pub filter_listed : (s : Filter S F) (l : List (Result X E)) → ListsByClosure filter_parts (call_by_reference g) tested_outcome filtered (ListsBothEnds front back) s l → ListsBothEnds (λ u r v. passing_step front (call_by_reference g) tested_outcome (filter_parts u) r (filter_parts v)) (λ u r v. passing_step back (call_by_reference g) tested_outcome (filter_parts u) r (filter_parts v)) s l
  filter_listed = by_closure_listed filter_parts front back (call_by_reference g) tested_outcome tested_outcome_is_never_end filtered passed_is_filtered

module _ {S F X B E : Type 0} (g : Mut F (X × Unit {0}) (Result (Option B) E)) (front back : S → Answered X E → S → Type 0) where
  pub filter_map_listed : (s : FilterMap S F) (l : List (Result B E)) → ListsByClosure filter_map_parts (call_by_value g) filter_map_outcome filter_mapped (ListsBothEnds front back) s l → ListsBothEnds (λ u r v. passing_step front (call_by_value g) filter_map_outcome (filter_map_parts u) r (filter_map_parts v)) (λ u r v. passing_step back (call_by_value g) filter_map_outcome (filter_map_parts u) r (filter_map_parts v)) s l
  filter_map_listed = by_closure_listed filter_map_parts front back (call_by_value g) filter_map_outcome filter_map_outcome_is_never_end filter_mapped passed_is_filter_mapped

module _ {V S F X D E : Type 0} (parts : V → S × F) (front back : S → Answered X D → S → Type 0) (call : F → D → E → F → Type 0) where
  -- whose closure is called on each failure
  pub failures_listed_by_closure : (s : V) (l : List (Result X E)) → ListsFailures parts call (ListsBothEnds front back) s l → ListsBothEnds (λ u r v. failing_step front call (parts u) r (parts v)) (λ u r v. failing_step back call (parts u) r (parts v)) s l
  failures_listed_by_closure s _ (by_steady_answers_to_failures it f asked at steady i) = lists_both_ends_of_parts parts s at refl (lists_mapped_of_steady_answers front back call it f asked steady i)
  failures_listed_by_closure s _ (by_function_of_failures it f h l at acts i) = lists_both_ends_of_parts parts s at refl (lists_mapped_by_function front back call it f h acts l i)

module _ {V T U A E : Type 0} (parts : V → T × U × StillDrawn) (steps steps_back : T → Answered A E → T → Type 0) (others others_back : U → Answered A E → U → Type 0) where
  -- which joins two sources
  pub both_sides_listed : (s : V) (l : List (Result A E)) → ListsBothSides parts (ListsBothEnds steps steps_back) (ListsBothEnds others others_back) s l → ListsBothEnds (λ u r v. chain_step steps others (parts u) r (parts v)) (λ u r v. chain_step_back steps_back others_back (parts u) r (parts v)) s l
  both_sides_listed s _ (both t u a b at i j) = lists_both_ends_of_parts parts s at refl (lists_both_ends_chained i j)
  both_sides_listed s l (first_alone t u at i) = lists_both_ends_of_parts parts s at refl (lists_both_ends_first_alone others others_back u i)
  both_sides_listed s l (second_alone t u at i) = lists_both_ends_of_parts parts s at refl (lists_both_ends_second_alone steps steps_back t i)

module _ {V S A E : Type 0} (value : V → S) (front back : S → Answered A E → S → Type 0) where
  -- which swaps the ends
  pub reversed_listed : (s : V) (l : List (Result A E)) → ListsChanged value reverse (ListsBothEnds front back) s l → ListsBothEnds (λ u r v. back (value u) r (value v)) (λ u r v. front (value u) r (value v)) s l
  reversed_listed s l h = rw h.2 (lists_both_ends_through_view value (lists_both_ends_swapped h.1))

-- which clones what each item points to
pub clones_listed : {S T E : Type 0} (is_clone : T → T → Type 0) (is_infallible : T → Type 0) (from : AllocError → E → Type 0) (front back : S → Answered (Bor T) E → S → Type 0) (s : Cloned S) (l : List (Result T E)) → ListsClones cloned_parts is_clone is_infallible (ListsBothEnds front back) s l
    → ListsBothEnds (λ u r v. passing_step front (cloned_call is_clone is_infallible from) map_outcome (cloned_parts u) r (cloned_parts v)) (λ u r v. passing_step back (cloned_call is_clone is_infallible from) map_outcome (cloned_parts u) r (cloned_parts v)) s l
clones_listed is_clone is_infallible from front back s _ (clones it asked at all i) = lists_both_ends_of_parts cloned_parts s at (passed_list_with_clone_is_mapped asked) (lists_both_ends_clones is_clone is_infallible from front back asked it all i)
clones_listed is_clone is_infallible from front back s _ (originals it l at equal infallible i) = lists_both_ends_of_parts cloned_parts s at (passed_clones_are_pointed_to l) (lists_both_ends_originals is_clone is_infallible from equal infallible front back l it i)

-- which looks ahead
pub held_listed : {S A E : Type 0} (m : Contract S A E) (e : Ends S A E) (s : Peekable S A E) (l : List (Result A E)) → ListsHeld peekable_parts (ListsBothEnds m.steps e.steps) s l → ListsBothEnds (parts_as peekable_parts (peekable_contract m)).steps (ends_parts_as peekable_parts (peekable_ends m e)).steps s l
held_listed m e s l h = rw h.3 (lists_both_ends_peekable m e s h.0 h.1 h.2)

-- ---- what points to another value

pub borrowed_listed : {S A E : Type 0} (m : Contract S A E) (e : Ends S A E) (s : MutBor S) (l : List (Result A E)) → ListsBothEnds m.steps e.steps s.now l → ListsBothEnds (borrowed m).steps (ends_of (borrowed (from_back m e))).steps s l
borrowed_listed m e s l i = lists_both_ends_where_view_lists (λ u. u.now) _ _ (λ u r v step. step.0) (λ u r v step. step.0) i

pub boxed_listed : {S A E : Type 0} (m : Contract S A E) (e : Ends S A E) (s : Box S Global) (l : List (Result A E)) → ListsBothEnds m.steps e.steps s.value l → ListsBothEnds (boxed m).steps (ends_of (boxed (from_back m e))).steps s l
boxed_listed m e s l i = lists_both_ends_through_view (λ u. u.value) i
