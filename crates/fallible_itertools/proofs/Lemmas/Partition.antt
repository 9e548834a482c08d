-- Items and failures apart, values of two kinds in two collections, and what came before the first failure.
use Rattle.std.specs.Prelude.{◌≡◌, Some, None, Result, Ok, Err, List, [], ◌∷◌, map, ◌++◌, MatchResult, length, Option, IfOk}
use Rattle.std.specs.List.{FoldsTo}
use Rattle.std.specs.declared.alloc.AllocError.{AllocError}
use Rattle.std.specs.declared.convert.Infallible.{Infallible}
use Rattle.std.proofs.Common.{refl, ap, subst, ◌∙◌, append-nil, inl, inr, sym, append_assoc, arith}
use Rattle.fallible_iterator.specs.BothEnds.{items_listed, failures_listed}
use Rattle.fallible_iterator.specs.Collecting.{Collects, IsCollectTurn}
use Rattle.fallible_iterator.specs.Fault.{Fault}
use Rattle.fallible_iterator.specs.Fault.TheVariants.{Source, Memory}
use Rattle.fallible_iterator.specs.Folds.{goes_on, DriveExit, Driven}
use Rattle.fallible_iterator.specs.Interleaved.{Interleaved, interleaved_nil, of_first, of_second}
use Rattle.fallible_iterator.specs.Lists.{AlwaysGives, Lists, CollectedAs, collected}
use Rattle.fallible_iterator.specs.Lists as list
use Rattle.fallible_iterator.specs.Traces.{Answered, item, end, failure, Run}
use Rattle.fallible_iterator.proofs.Lemmas.Callers.{run_at_view}
use Rattle.fallible_iterator.proofs.Lemmas.Folds.{drained_by_implication}
use Rattle.fallible_iterator.proofs.Lemmas.Lists.Drawn.{RestAt, collected_of_lists, drawn_of_lists}
use Rattle.fallible_iterator.proofs.Lemmas.Lists.Rest.{lists_rest_nth}
use Rattle.fallible_itertools.specs.Partition.{lefts, rights, MadeOfEithers, parted_step, eithers, without_source, PartitionedFailuresAs, EitherRefused, with_failure_of, UntilFailureExit, CollectsUntil, before_failure, first_failure, rest_failure, CollectedUntilAs}
use Rattle.fallible_itertools.specs.declared.partition.Either.{Either}
use Rattle.fallible_itertools.specs.declared.partition.Either.TheVariants.{Left, Right}

-- ---- The items and the failures of an iterator, as values of two kinds, and what is collected of them

module _ {A E : Type 0} where
  lefts_are_items : (l : List (Result A E)) → lefts (eithers l) ≡ items_listed l
  lefts_are_items [] = refl
  lefts_are_items (Ok x ∷ l) = ap (λ (xs : List A). x ∷ xs) (lefts_are_items l)
  lefts_are_items (Err e ∷ l) = lefts_are_items l

  rights_are_failures : (l : List (Result A E)) → rights (eithers l) ≡ failures_listed l
  rights_are_failures [] = refl
  rights_are_failures (Ok x ∷ l) = rights_are_failures l
  rights_are_failures (Err e ∷ l) = ap (λ (xs : List E). e ∷ xs) (rights_are_failures l)

  -- each value of the list is an item
  abbrev all_items : List (Either A E) → List (Result (Either A E) Infallible)
  all_items vs = map (λ v. Ok v) vs

  collected_of_all_items_is_ok : (vs : List (Either A E)) → collected (all_items vs) ≡ Ok vs
  unfolding collected
  collected_of_all_items_is_ok [] = refl
  collected_of_all_items_is_ok (v ∷ vs) = rw (collected_of_all_items_is_ok vs) refl

  module _ {S : Type 0} (steps : S → Answered A E → S → Type 0) where
    gives_end_parted : (s : S) → AlwaysGives steps s [] → (r : Answered (Either A E) Infallible) (t : S) → parted_step steps s r t → r ≡ Ok None
    gives_end_parted s a (Ok (Some (Left x))) t step = absurd (let h = a (Ok (Some x)) t step in cc)
    gives_end_parted s a (Ok (Some (Right e))) t step = absurd (let h = a (Err e) t step in cc)
    gives_end_parted s a (Ok None) t step = refl
    gives_end_parted s a (Err never) t step = absurd step

    gives_item_parted : (y : A) (l : List (Result A E)) (s : S) → AlwaysGives steps s (Ok y ∷ l) → (r : Answered (Either A E) Infallible) (t : S) → parted_step steps s r t → (r ≡ Ok (Some (Left y))) × AlwaysGives steps t l
    gives_item_parted y l s a (Ok (Some (Left x))) t step = let h = a (Ok (Some x)) t step in ((let q = h.0 in cc), h.1)
    gives_item_parted y l s a (Ok (Some (Right e))) t step = absurd (let h = (a (Err e) t step).0 in cc)
    gives_item_parted y l s a (Ok None) t step = absurd (let h = (a (Ok None) t step).0 in cc)
    gives_item_parted y l s a (Err never) t step = absurd step

    gives_failure_parted : (y : E) (l : List (Result A E)) (s : S) → AlwaysGives steps s (Err y ∷ l) → (r : Answered (Either A E) Infallible) (t : S) → parted_step steps s r t → (r ≡ Ok (Some (Right y))) × AlwaysGives steps t l
    gives_failure_parted y l s a (Ok (Some (Left x))) t step = absurd (let h = (a (Ok (Some x)) t step).0 in cc)
    gives_failure_parted y l s a (Ok (Some (Right e))) t step = let h = a (Err e) t step in ((let q = h.0 in cc), h.1)
    gives_failure_parted y l s a (Ok None) t step = absurd (let h = (a (Ok None) t step).0 in cc)
    gives_failure_parted y l s a (Err never) t step = absurd step

    always_gives_parted : (l : List (Result A E)) (s : S) → AlwaysGives steps s l → AlwaysGives (parted_step steps) s (all_items (eithers l))
    always_gives_parted [] s a = gives_end_parted s a
    always_gives_parted (Ok y ∷ l) s a = λ r t step. let h = gives_item_parted y l s a r t step in (h.0, always_gives_parted l t h.1)
    always_gives_parted (Err y ∷ l) s a = λ r t step. let h = gives_failure_parted y l s a r t step in (h.0, always_gives_parted l t h.1)

    module _ {C D : Type 0} (made_items : List A → C → Type 0) (made_failures : List E → D → Type 0) where
      partitioned_of_collected : (l : List (Result A E)) (r : Result (C × D) AllocError) → CollectedAs (MadeOfEithers made_items made_failures) (all_items (eithers l)) (without_source r) → PartitionedFailuresAs made_items made_failures l r
      unfolding CollectedAs PartitionedFailuresAs
      partitioned_of_collected l (Err a) h = tt
      partitioned_of_collected l (Ok p) h = let same : h.0 ≡ eithers l = (let e = h.1 in let f = collected_of_all_items_is_ok (eithers l) in cc) in
          let m = subst (λ (vs : List (Either A E)). MadeOfEithers made_items made_failures vs p) same h.2 in
          (subst (λ (xs : List A). made_items xs p.0) (lefts_are_items l) m.0, subst (λ (es : List E). made_failures es p.1) (rights_are_failures l) m.1)

      pub partitioned_failures_of_lists : (empty_refuses : Type 0) (refuses : C × D → Either A E → Type 0) {s : S} (r : Result (C × D) AllocError) (l : List (Result A E)) → Collects (parted_step steps) (MadeOfEithers made_items made_failures) empty_refuses refuses s (without_source r) → Lists steps s l → PartitionedFailuresAs made_items made_failures l r
      partitioned_failures_of_lists empty_refuses refuses {s = s} r l h i = partitioned_of_collected l r (collected_of_lists (MadeOfEithers made_items made_failures) empty_refuses refuses (without_source r) (all_items (eithers l)) h (record { runs = always_gives_parted l s i.runs }))

-- Law: A list's items and its failures, each in their order, make up the list.
pub interleaved_parts : {A E : Type 0} (l : List (Result A E)) → Interleaved (map (λ x. Ok x) (items_listed l)) (map (λ e. Err e) (failures_listed l)) l
interleaved_parts [] = interleaved_nil
interleaved_parts (Ok x ∷ l) = of_first (Ok x) (interleaved_parts l)
interleaved_parts (Err e ∷ l) = of_second (Err e) (interleaved_parts l)

-- ---- What two collections of values become when one more value is pushed to its side, and what `collect` over a view says

-- ---- one more value

module _ {A B : Type 0} where
  pub lefts_append : (l more : List (Either A B)) → lefts (l ++ more) ≡ lefts l ++ lefts more
  lefts_append [] more = refl
  lefts_append (Left x ∷ l) more = ap (λ xs. x ∷ xs) (lefts_append l more)
  lefts_append (Right y ∷ l) more = lefts_append l more

  pub rights_append : (l more : List (Either A B)) → rights (l ++ more) ≡ rights l ++ rights more
  rights_append [] more = refl
  rights_append (Left x ∷ l) more = rights_append l more
  rights_append (Right y ∷ l) more = ap (λ ys. y ∷ ys) (rights_append l more)

  module _ {L R : Type 0} (made_left : List A → L → Type 0) (made_right : List B → R → Type 0) (left_refuses : L → A → Type 0) (right_refuses : R → B → Type 0) (c : L × R) where
    pub made_of_eithers_left : (x : A) (left : L) (r : Result (Unit {0}) AllocError) → MatchResult r (λ _. (items : List A) → made_left items c.0 → made_left (items ++ x ∷ []) left) (λ _. left_refuses c.0 x)
        → MatchResult r (λ _. (l : List (Either A B)) → MadeOfEithers made_left made_right l c → MadeOfEithers made_left made_right (l ++ Left x ∷ []) (left, c.1)) (λ _. EitherRefused left_refuses right_refuses c (Left x))
    made_of_eithers_left x left (Ok u) push = λ l made. (subst (λ items. made_left items left) (sym (lefts_append l (Left x ∷ []))) (push (lefts l) made.0), subst (λ items. made_right items c.1) (sym (rights_append l (Left x ∷ []) ∙ append-nil (rights l))) made.1)
    made_of_eithers_left x left (Err a) refused = refused

    pub made_of_eithers_right : (y : B) (right : R) (r : Result (Unit {0}) AllocError) → MatchResult r (λ _. (items : List B) → made_right items c.1 → made_right (items ++ y ∷ []) right) (λ _. right_refuses c.1 y)
        → MatchResult r (λ _. (l : List (Either A B)) → MadeOfEithers made_left made_right l c → MadeOfEithers made_left made_right (l ++ Right y ∷ []) (c.0, right)) (λ _. EitherRefused left_refuses right_refuses c (Right y))
    made_of_eithers_right y right (Ok u) push = λ l made. (subst (λ items. made_left items c.0) (sym (lefts_append l (Right y ∷ []) ∙ append-nil (lefts l))) made.0, subst (λ items. made_right items right) (sym (rights_append l (Right y ∷ []))) (push (rights l) made.1))
    made_of_eithers_right y right (Err a) refused = refused

-- ---- a drain of what is seen as its parts

module _ {S P A E : Type 0} (view : S → P) (steps : P → Answered A E → P → Type 0) where
  module _ {C : Type 0} (made : List A → C → Type 0) (empty_refuses : Type 0) (refuses : C → A → Type 0) (s : S) where
    collects_of_view : (r : Result C (Fault E)) → Collects (λ u r v. steps (view u) r (view v)) made empty_refuses refuses s r → Collects steps made empty_refuses refuses (view s) r
    collects_of_view (Ok c) h = record { items = h.items; after = view h.after; ran = run_at_view view steps (map item h.items ++ end ∷ []) s h.after h.ran; is_made = h.is_made }
    collects_of_view (Err (Source e)) h = record { items = h.items; collection = h.collection; after = view h.after; ran = run_at_view view steps (map item h.items ++ failure e ∷ []) s h.after h.ran; is_made = h.is_made }
    collects_of_view (Err (Memory a)) (inl refused) = inl refused
    collects_of_view (Err (Memory a)) (inr h) = inr (record { items = h.items; refused = h.refused; collection = h.collection; after = view h.after; ran = run_at_view view steps (map item h.items ++ item h.refused ∷ []) s h.after h.ran; is_made = h.is_made; refuses_it = h.refuses_it })

    pub collects_of_view_where_view_is_known : {p : P} → view s ≡ p → (r : Result C (Fault E)) → Collects (λ u r v. steps (view u) r (view v)) made empty_refuses refuses s r → Collects steps made empty_refuses refuses p r
    collects_of_view_where_view_is_known at r h = subst (λ q. Collects steps made empty_refuses refuses q r) at (collects_of_view r h)

-- ---- What came before the first failure, by the fold whose state is the collection

module _ {A C : Type 0} (made : List A → C → Type 0) (refuses : C → A → Type 0) where
  made_of_more_items_after_turns : (before items : List A) (c d : C) → made before c → FoldsTo (goes_on (IsCollectTurn made refuses)) c items d → made (before ++ items) d
  made_of_more_items_after_turns before [] c d h went = subst (λ (e : C). made (before ++ []) e) went (subst (λ (l : List A). made l c) (sym (append-nil before)) h)
  made_of_more_items_after_turns before (x ∷ items) c d h went = subst (λ (l : List A). made l d) (append_assoc before (x ∷ []) items) (made_of_more_items_after_turns (before ++ x ∷ []) items went.0 d (went.1 before h) went.2)

module _ {A E C : Type 0} (made : List A → C → Type 0) (refuses : C → A → Type 0) where
  until_failure_exit_of_drive_exit : (last : Answered A E) (c d : C) (answer : Answered AllocError E) → DriveExit (IsCollectTurn made refuses) c last answer d → UntilFailureExit refuses c last (with_failure_of answer d)
  until_failure_exit_of_drive_exit (Ok None) c d answer h = ap (λ (z : Answered AllocError E). with_failure_of z d) h.0 ∙ ap (λ (k : C). Ok (k, None)) h.1
  until_failure_exit_of_drive_exit (Err e) c d answer h = ap (λ (z : Answered AllocError E). with_failure_of z d) h.0 ∙ ap (λ (k : C). Ok (k, Some e)) h.1
  until_failure_exit_of_drive_exit (Ok (Some x)) c d answer h = (h.1, (h.0, ap (λ (z : Answered AllocError E). with_failure_of z d) h.2))

  pub collects_until_by_fold : (empty_refuses : Type 0) {S : Type 0} {steps : S → Answered A E → S → Type 0} {s t : S} {c d : C} {answer : Answered AllocError E} {r : Result (C × Option E) AllocError} → made [] c → Driven steps (IsCollectTurn made refuses) s c answer t d → r ≡ with_failure_of answer d → CollectsUntil steps made empty_refuses refuses s r t
  collects_until_by_fold empty_refuses {c = c} {d = d} {answer = answer} {r = r} is_empty w is = inr (drained_by_implication (λ items last h. record {
    collection = h.carried;
    is_made = made_of_more_items_after_turns made refuses [] items c h.carried is_empty h.went;
    exit = subst (λ (z : Result (C × Option E) AllocError). UntilFailureExit refuses h.carried last z) (sym is) (until_failure_exit_of_drive_exit last h.carried d answer h.exit);
  }) w)

-- ---- over a list

module _ {A E : Type 0} where
  before_failure_after_items : (items : List A) (rest : List (Result A E)) → before_failure (map (λ x. Ok x) items ++ rest) ≡ items ++ before_failure rest
  unfolding before_failure
  before_failure_after_items [] rest = refl
  before_failure_after_items (x ∷ items) rest = ap (λ (xs : List A). x ∷ xs) (before_failure_after_items items rest)

  first_failure_after_items : (items : List A) (rest : List (Result A E)) → first_failure (map (λ x. Ok x) items ++ rest) ≡ first_failure rest
  unfolding first_failure
  first_failure_after_items [] rest = refl
  first_failure_after_items (x ∷ items) rest = first_failure_after_items items rest

  rest_failure_after_items_is_rest_nth : (items : List A) (e : E) (rest : List (Result A E)) → rest_failure (map (λ x. Ok x) items ++ Err e ∷ rest) ≡ list.rest_nth (length items) (map (λ x. Ok x) items ++ Err e ∷ rest)
  unfolding rest_failure list.rest_nth
  rest_failure_after_items_is_rest_nth [] e rest = refl
  rest_failure_after_items_is_rest_nth (x ∷ items) e rest = rest_failure_after_items_is_rest_nth items e rest

  -- the items before the last answer, if that is an end or a failure, are all before a failure
  items_are_before_failure_where_ended : (last : Answered A E) (items : List A) (l rest : List (Result A E)) → (last ≡ Ok None) → l ≡ map (λ x. Ok x) items ++ rest → RestAt last rest → (items ≡ before_failure l) × (None ≡ first_failure l)
  unfolding before_failure first_failure
  items_are_before_failure_where_ended (Ok None) items l rest e is at = (sym (ap before_failure is ∙ before_failure_after_items items rest ∙ ap (λ (k : List (Result A E)). items ++ before_failure k) at ∙ append-nil items), sym (ap first_failure is ∙ first_failure_after_items items rest ∙ ap first_failure at))
  items_are_before_failure_where_ended (Ok (Some x)) items l rest e is at = absurd cc
  items_are_before_failure_where_ended (Err f) items l rest e is at = absurd cc

  items_are_before_failure_where_failed : (f : E) (items : List A) (l rest : List (Result A E)) → l ≡ map (λ x. Ok x) items ++ rest → RestAt (Err f) rest → (items ≡ before_failure l) × (Some f ≡ first_failure l)
  unfolding before_failure first_failure
  items_are_before_failure_where_failed f items l rest is at = (sym (ap before_failure is ∙ before_failure_after_items items rest ∙ ap (λ (k : List (Result A E)). items ++ before_failure k) at.1 ∙ append-nil items), sym (ap first_failure is ∙ first_failure_after_items items rest ∙ ap first_failure at.1))

  module _ {C : Type 0} (made : List A → C → Type 0) (refuses : C → A → Type 0) where
    collected_until_exit : (items : List A) (last : Answered A E) (r : Result (C × Option E) AllocError) (l rest : List (Result A E)) (c : C) → l ≡ map (λ x. Ok x) items ++ rest → RestAt last rest → made items c → UntilFailureExit refuses c last r → CollectedUntilAs made l r
    unfolding CollectedUntilAs
    collected_until_exit items (Ok None) r l rest c is at m exit = let p = items_are_before_failure_where_ended (Ok None) items l rest refl is at in subst (λ (z : Result (C × Option E) AllocError). IfOk z (λ q. made (before_failure l) q.0 × (q.1 ≡ first_failure l))) (sym exit) (subst (λ (xs : List A). made xs c) p.0 m, p.1)
    collected_until_exit items (Err f) r l rest c is at m exit = let p = items_are_before_failure_where_failed f items l rest is at in subst (λ (z : Result (C × Option E) AllocError). IfOk z (λ q. made (before_failure l) q.0 × (q.1 ≡ first_failure l))) (sym exit) (subst (λ (xs : List A). made xs c) p.0 m, p.1)
    collected_until_exit items (Ok (Some x)) r l rest c is at m exit = subst (λ (z : Result (C × Option E) AllocError). IfOk z (λ q. made (before_failure l) q.0 × (q.1 ≡ first_failure l))) (sym exit.1.1) tt

    pub collected_until_of_lists : (empty_refuses : Type 0) {S : Type 0} {steps : S → Answered A E → S → Type 0} {s t : S} {r : Result (C × Option E) AllocError} (l : List (Result A E)) → CollectsUntil steps made empty_refuses refuses s r t → list.Lists steps s l → CollectedUntilAs made l r
    unfolding CollectedUntilAs
    collected_until_of_lists empty_refuses {r = r} l (inl not) i = subst (λ (z : Result (C × Option E) AllocError). IfOk z (λ q. made (before_failure l) q.0 × (q.1 ≡ first_failure l))) (sym not.2.1) tt
    collected_until_of_lists empty_refuses {steps = steps} {s = s} {t = t} {r = r} l (inr w) i = let d = drawn_of_lists steps w.items w.last l s t i.runs w.ran in collected_until_exit w.items w.last r l d.rest w.at.collection d.list_is d.rest_is w.at.is_made w.at.exit

    -- the failure beside a collection
    abbrev failure_beside : Result (C × Option E) AllocError → Option E
    failure_beside (Ok p) = p.1
    failure_beside (Err a) = None

    lists_rest_failure_at_exit : {S : Type 0} (steps : S → Answered A E → S → Type 0) (s t : S) (items : List A) (last : Answered A E) (r : Result (C × Option E) AllocError) (c d : C) (e : E) (l : List (Result A E)) → list.Lists steps s l → Run steps s (map item items ++ last ∷ []) t → UntilFailureExit refuses c last r → r ≡ Ok (d, Some e) → list.Lists steps t (rest_failure l)
    lists_rest_failure_at_exit steps s t items (Ok None) r c d e l i ran exit is = absurd (let h : None ≡ Some e = ap failure_beside (sym exit ∙ is) in cc)
    lists_rest_failure_at_exit steps s t items (Ok (Some x)) r c d e l i ran exit is = absurd (let h = exit.1.1 in cc)
    lists_rest_failure_at_exit steps s t items (Err f) r c d e l i ran exit is = let k = drawn_of_lists steps items (Err f) l s t i.runs ran in
        let whole : l ≡ map (λ x. Ok x) items ++ Err f ∷ k.rest_is.0 = k.list_is ∙ ap (λ (j : List (Result A E)). map (λ x. Ok x) items ++ j) k.rest_is.1 in
        subst (λ (j : List (Result A E)). list.Lists steps t j) (ap (list.rest_nth (length items)) whole ∙ sym (rest_failure_after_items_is_rest_nth items f k.rest_is.0) ∙ ap rest_failure (sym whole))
        (lists_rest_nth {n = length items} {r = Err f} l (record { items = items; last = Err f; ran = ran; at = record { is = refl; exit = omega arith } }) i (λ q. absurd cc))

    pub lists_rest_failure : (empty_refuses : Type 0) {S : Type 0} {steps : S → Answered A E → S → Type 0} {s t : S} {r : Result (C × Option E) AllocError} {d : C} {e : E} (l : List (Result A E)) → CollectsUntil steps made empty_refuses refuses s r t → list.Lists steps s l → r ≡ Ok (d, Some e) → list.Lists steps t (rest_failure l)
    lists_rest_failure empty_refuses {r = r} l (inl not) i is = absurd (let h = not.2.1 in cc)
    lists_rest_failure empty_refuses {steps = steps} {s = s} {t = t} {r = r} {d = d} {e = e} l (inr w) i is = lists_rest_failure_at_exit steps s t w.items w.last r w.at.collection d e l i w.ran w.at.exit is

-- Where a list has no failure, `before_failure` has all of it.
pub list_is_items_where_no_failure : {A E : Type 0} (l : List (Result A E)) → first_failure l ≡ None → l ≡ list.items (before_failure l)
unfolding first_failure before_failure list.items
list_is_items_where_no_failure [] e = refl
list_is_items_where_no_failure (Ok x ∷ l) e = ap (λ k. Ok x ∷ k) (list_is_items_where_no_failure l e)
list_is_items_where_no_failure (Err f ∷ l) e = absurd cc

-- Law: Where a list has a failure, it is the items before it, the failure, and what comes after it.
pub list_is_split_at_first_failure : {A E : Type 0} (l : List (Result A E)) (e : E) → first_failure l ≡ Some e → l ≡ list.items (before_failure l) ++ Err e ∷ rest_failure l
unfolding first_failure before_failure rest_failure list.items
list_is_split_at_first_failure [] e is = absurd cc
list_is_split_at_first_failure (Ok x ∷ l) e is = ap (λ k. Ok x ∷ k) (list_is_split_at_first_failure l e is)
list_is_split_at_first_failure (Err f ∷ l) e is = let same : f ≡ e = cc in ap (λ d. Err d ∷ l) same
