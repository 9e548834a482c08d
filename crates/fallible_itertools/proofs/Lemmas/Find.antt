-- Searches: the first item that passes or else the last, the position beside it, those whose failures are converted, and at most one item.
use Rattle.std.specs.Prelude.{◌≡◌, ℕ, length, Bool, true, false, Option, Some, None, Result, Ok, Err, List, is_some, [], ◌∷◌, ◌++◌, map, ⊤}
use Rattle.std.specs.List.{FoldsTo}
use Rattle.std.specs.declared.ops.ControlFlow.{ControlFlow}
use Rattle.std.proofs.Common.{refl, ap, sym, subst, ◌∙◌, arith}
use Rattle.fallible_iterator.specs.Folds.{DriveExit, Driven, FoldExit, FoldDrains, went_on_with, NthDrains, NthExit}
use Rattle.fallible_iterator.specs.Lists.{Lists, Acts, rest_true, AlwaysGives, ActsWith, Converts, stopped_or, rest_failed, rest_fold, failures_mapped, rest_nth}
use Rattle.fallible_iterator.specs.Picking.{item_of}
use Rattle.fallible_iterator.specs.Searching.{SearchDecides, SearchExit, SearchDrains, find_pick, WentOn, for_each_pick, position_pick}
use Rattle.fallible_iterator.specs.Traces.{Answered, Run, item}
use Rattle.fallible_iterator.proofs.Lemmas.Folds.{drained_by_implication, drained_by_last, folds_to_by_implication}
use Rattle.fallible_iterator.proofs.Lemmas.Lists.Drawn.{RestAt, drawn_of_lists}
use Rattle.fallible_iterator.proofs.Lemmas.Lists.Rest.{lists_rest_find, lists_rest_fold, is_some_of_find_pick_is_answer, is_some_of_position_pick_is_answer, lists_rest_nth}
use Rattle.fallible_iterator.proofs.Lemmas.Lists.Searched.{each_done_of_lists, found_of_lists, position_in_of_lists, searched_of_lists}
use Rattle.fallible_itertools.specs.Find.{find_position_pick, position_found, ConvertsTo, Converted, try_each_done, try_found, try_position_in, stops_or_fails, rest_try_stop, rest_try_each, rest_try_true, AtMostOneExit, AtMostOneDrains, at_most_one_of}

-- ---- The first item that passes, beside its position, is the one that `find` returns

module _ {A E F : Type 0} (call : F → A → Result Bool E → F → Type 0) where
  find_pick_goes_on_where_position_does : (n : ℕ) (x : A) (v : Bool) → find_position_pick n x v ≡ None → find_pick n x v ≡ None
  find_pick_goes_on_where_position_does n x true e = absurd cc
  find_pick_goes_on_where_position_does n x false e = refl

  find_pick_picks_item_of_position_pick : (n : ℕ) (x : A) (v : Bool) (z : Option (ℕ × A)) → find_position_pick n x v ≡ Some z → (y : Option A) × (find_pick n x v ≡ Some y) × (item_of {E = E} (Ok z) ≡ Ok y)
  find_pick_picks_item_of_position_pick n x true (Some p) e = (Some x, refl, (let same : p.1 ≡ x = cc in ap (λ (y : A). Ok (Some y)) same))
  find_pick_picks_item_of_position_pick n x true None e = absurd cc
  find_pick_picks_item_of_position_pick n x false z e = absurd cc

  search_decides_item_of_found_position : (n : ℕ) (f : F) (x : A) (r : Result (Option (ℕ × A)) E) (g : F) → SearchDecides call find_position_pick n f x r g → SearchDecides call find_pick n f x (item_of r) g
  search_decides_item_of_found_position n f x (Ok z) g d = let k = find_pick_picks_item_of_position_pick n x d.0 z d.2 in rw k.2 (d.0, d.1, k.1)
  search_decides_item_of_found_position n f x (Err e) g d = d

  search_exit_item_of_found_position : (last : Answered A E) (n : ℕ) (f : F) (r : Result (Option (ℕ × A)) E) (g : F) → SearchExit call find_position_pick None n f last r g → SearchExit call find_pick None n f last (item_of r) g
  search_exit_item_of_found_position (Ok None) n f r g h = (ap item_of h.0, h.1)
  search_exit_item_of_found_position (Err e) n f r g h = (ap item_of h.0, h.1)
  search_exit_item_of_found_position (Ok (Some x)) n f r g h = search_decides_item_of_found_position n f x r g h

  search_drains_item_of_found_position : {S : Type 0} {steps : S → Answered A E → S → Type 0} {s t : S} {f g : F} {r : Result (Option (ℕ × A)) E} → SearchDrains call find_position_pick steps None s f r t g → SearchDrains call find_pick steps None s f (item_of r) t g
  search_drains_item_of_found_position {f = f} {g = g} {r = r} w = drained_by_implication (λ items last h. record { closure = h.closure; went = folds_to_by_implication (λ c x d k. (k.0, k.1, λ n. find_pick_goes_on_where_position_does n x k.0 (k.2 n))) items f h.closure h.went; exit = search_exit_item_of_found_position last (length items) h.closure r g h.exit }) w

  item_of_is_not_none_where_found : (r : Result (Option (ℕ × A)) E) → ¬ (r ≡ Ok None) → ¬ (item_of r ≡ Ok None)
  item_of_is_not_none_where_found (Ok (Some p)) wanted e = absurd cc
  item_of_is_not_none_where_found (Ok None) wanted e = wanted refl
  item_of_is_not_none_where_found (Err e) wanted is = absurd cc

  module _ {S : Type 0} {steps : S → Answered A E → S → Type 0} {s t : S} {f g : F} {r : Result (Option (ℕ × A)) E} (h : A → Result Bool E) (acts : Acts call f h) (l : List (Result A E)) (i : Lists steps s l) (d : SearchDrains call find_position_pick steps None s f r t g) where
    pub position_found_of_lists : r ≡ position_found h l
    unfolding position_found
    position_found_of_lists = searched_of_lists call find_position_pick None h f acts l d i

    pub lists_rest_true_where_found : ¬ (r ≡ Ok None) → Lists steps t (rest_true h l)
    lists_rest_true_where_found no_end = lists_rest_find l i {call = call} h acts (search_drains_item_of_found_position d) (item_of_is_not_none_where_found r no_end)

-- ---- Searches whose failures are converted: the folds that they are, and what they leave of a list

-- ---- draws

module _ {S A E E' : Type 0} (from : E → E' → Type 0) (steps : S → Answered A E → S → Type 0) where
  run_converted : (items : List A) (s t : S) (last : Answered A E) (q : Answered A E') → ConvertsTo from last q → Run steps s (map item items ++ last ∷ []) t → Run (Converted from steps) s (map item items ++ q ∷ []) t
  run_converted [] s t last q c ran = (ran.0, (last, ran.1, c), ran.2)
  run_converted (x ∷ items) s t last q c ran = (ran.0, (item x, ran.1, refl), run_converted items ran.0 t last q c ran.2)

  -- an answer that is converted to an item is that item
  item_unconverted : (last : Answered A E) (x : A) → ConvertsTo from last (Ok (Some x)) → last ≡ Ok (Some x)
  item_unconverted (Ok a) x c = let is : ◌≡◌ {A = Answered A E'} (Ok (Some x)) (Ok a) = c in cc
  item_unconverted (Err e) x c = absurd (let is = c.2 in cc)

  run_unconverted : (items : List A) (s t : S) (q : Answered A E') → Run (Converted from steps) s (map item items ++ q ∷ []) t → (last : Answered A E) × ConvertsTo from last q × Run steps s (map item items ++ last ∷ []) t
  run_unconverted [] s t q ran = ((ran.1).0, (ran.1).2, (ran.0, (ran.1).1, ran.2))
  run_unconverted (x ∷ items) s t q ran = let rest = run_unconverted items ran.0 t q ran.2 in (rest.0, rest.1, (ran.0, subst (λ (r : Answered A E). steps s r ran.0) (item_unconverted (ran.1).0 x (ran.1).2) (ran.1).1, rest.2))

  -- where the answers list l, they list l with its failures converted where failures are
  always_gives_converted : (convert : E → E') → Converts from convert → (s : S) (l : List (Result A E)) → AlwaysGives steps s l → AlwaysGives (Converted from steps) s (failures_mapped convert l)
  unfolding failures_mapped
  always_gives_converted convert converts s [] a = λ r t step. subst (λ (q : Answered A E). ConvertsTo from q r) (a step.0 t step.1) step.2
  always_gives_converted convert converts s (Ok x ∷ l) a = λ r t step. let h = a step.0 t step.1 in (subst (λ (q : Answered A E). ConvertsTo from q r) h.0 step.2, always_gives_converted convert converts t l h.1)
  always_gives_converted convert converts s (Err e ∷ l) a = λ r t step. let h = a step.0 t step.1 in let c = subst (λ (q : Answered A E). ConvertsTo from q r) h.0 step.2 in (c.2 ∙ ap (λ (k : E'). Err k) (converts e c.0 c.1), always_gives_converted convert converts t l h.1)

  lists_converted : (convert : E → E') (s : S) (l : List (Result A E)) → Converts from convert → Lists steps s l → Lists (Converted from steps) s (failures_mapped convert l)
  lists_converted convert s l converts i = record { runs = always_gives_converted convert converts s l i.runs }

  -- ---- folds

  module _ {C R : Type 0} (turns : C → A → ControlFlow R (Unit {0}) → C → Type 0) where
    drive_exit_converted : (last : Answered A E) (c d : C) (answer : Answered R E) (made : Answered R E') → ConvertsTo from answer made → DriveExit turns c last answer d → (q : Answered A E') × ConvertsTo from last q × DriveExit turns c q made d
    drive_exit_converted (Ok None) c d answer made by h = (Ok None, refl, (subst (λ (a : Answered R E). ConvertsTo from a made) h.0 by, h.1))
    drive_exit_converted (Ok (Some x)) c d answer made by h = (Ok (Some x), refl, (h.0, h.1, subst (λ (a : Answered R E). ConvertsTo from a made) h.2 by))
    drive_exit_converted (Err e) c d answer made by h = let k = subst (λ (a : Answered R E). ConvertsTo from a made) h.0 by in (Err k.0, (k.0, k.1, refl), (k.2, h.1))

module _ {S A E E' C R : Type 0} {from : E → E' → Type 0} {steps : S → Answered A E → S → Type 0} {turns : C → A → ControlFlow R (Unit {0}) → C → Type 0} where
  -- a fold by turns, whose answer is converted, is one over the converted draws
  pub driven_converted : {s t : S} {c d : C} {answer : Answered R E} {made : Answered R E'} → ConvertsTo from answer made → Driven steps turns s c answer t d → Driven (Converted from steps) turns s c made t d
  driven_converted {s = s} {t = t} {d = d} {answer = answer} {made = made} by w =
      let last = drive_exit_converted from steps turns w.last w.at.carried d answer made by w.at.exit in
      record { items = w.items; last = last.0; ran = run_converted from steps w.items s t w.last last.0 last.1 w.ran; at = record { carried = w.at.carried; went = w.at.went; exit = last.2 } }

-- ---- values

module _ {S A E E' F : Type 0} {from : E → E' → Type 0} {steps : S → Answered A E → S → Type 0} {s t : S} {f g : F} (convert : E → E') (converts : Converts from convert) (l : List (Result A E)) (i : Lists steps s l) where
  pub try_each_done_of_lists : {call : F → A → Result (Unit {0}) E' → F → Type 0} (h : A → Result (Unit {0}) E') {r : Result (Unit {0}) E'} → Acts call f h → SearchDrains call for_each_pick (Converted from steps) tt s f r t g → r ≡ try_each_done convert h l
  unfolding try_each_done
  try_each_done_of_lists {call = call} h acts d = each_done_of_lists (failures_mapped convert l) (lists_converted from steps convert s l converts i) {call = call} h acts d

  pub try_found_of_lists : {call : F → A → Result Bool E' → F → Type 0} (h : A → Result Bool E') {r : Result (Option A) E'} → Acts call f h → SearchDrains call find_pick (Converted from steps) None s f r t g → r ≡ try_found convert h l
  unfolding try_found
  try_found_of_lists {call = call} h acts d = found_of_lists (failures_mapped convert l) (lists_converted from steps convert s l converts i) {call = call} h acts d

  pub try_position_in_of_lists : {call : F → A → Result Bool E' → F → Type 0} (h : A → Result Bool E') {r : Result (Option ℕ) E'} → Acts call f h → SearchDrains call position_pick (Converted from steps) None s f r t g → r ≡ try_position_in convert h l
  unfolding try_position_in
  try_position_in_of_lists {call = call} h acts d = position_in_of_lists (failures_mapped convert l) (lists_converted from steps convert s l converts i) {call = call} h acts d

-- ---- what is left: such a search is a fold without a value, whose closure fails where the search stops

-- what such a closure returns
abbrev went_or_stopped : Bool → Result (Unit {0}) (Unit {0})
went_or_stopped true = Err tt
went_or_stopped false = Ok tt

-- what a fold with it leaves at an item
rest_failed_is_stopped_or : {A E : Type 0} (b : Bool) (here later : List (Result A E)) → rest_failed (went_or_stopped b) here (λ u. later) ≡ stopped_or b here later
rest_failed_is_stopped_or true here later = refl
rest_failed_is_stopped_or false here later = refl

module _ {A E' F V R : Type 0} (call : F → A → Result V E' → F → Type 0) (pick : ℕ → A → V → Option R) where
  -- its calls
  abbrev SearchCall : F → Unit {0} → A → Result (Unit {0}) (Unit {0}) → F → Type 0
  SearchCall f u x (Ok v) g = WentOn call pick f x g
  SearchCall f u x (Err v) g = (n : ℕ) × (r : Result R E') × SearchDecides call pick n f x r g

  folds_to_with_search_call : (items : List A) (f g : F) → FoldsTo (WentOn call pick) f items g → FoldsTo {P = Unit {0} × F} (went_on_with SearchCall) (tt, f) items (tt, g)
  folds_to_with_search_call [] f g e = ap (λ (h : F). (tt, h)) e
  folds_to_with_search_call (x ∷ items) f g w = ((tt, w.0), w.1, folds_to_with_search_call items w.0 g w.2)

  module _ {S E : Type 0} (from : E → E' → Type 0) (steps : S → Answered A E → S → Type 0) (none : R) where
    fold_exit_of_converted_search_exit : (last : Answered A E) (q : Answered A E') (n : ℕ) (f g : F) (r : Result R E') → ConvertsTo from last q → SearchExit call pick none n f q r g → ¬ (r ≡ Ok none) → FoldExit {B = Unit {0}} {E' = Unit {0}} SearchCall (λ (e : E) v. ⊤) tt f last (Err tt)
    fold_exit_of_converted_search_exit (Ok None) q n f g r c exit no_end = absurd (no_end (subst (λ (a : Answered A E'). SearchExit call pick none n f a r g) c exit).0)
    fold_exit_of_converted_search_exit (Ok (Some x)) q n f g r c exit no_end = (g, tt, (n, r, subst (λ (a : Answered A E'). SearchExit call pick none n f a r g) c exit), refl)
    fold_exit_of_converted_search_exit (Err e) q n f g r c exit no_end = (tt, tt, refl)

    fold_drains_of_converted_search : (s t : S) (f g : F) (r : Result R E') → SearchDrains call pick (Converted from steps) none s f r t g → ¬ (r ≡ Ok none) → FoldDrains steps SearchCall (λ (e : E) (v : Unit {0}). ⊤) s tt f (Err tt) t
    fold_drains_of_converted_search s t f g r w no_end =
        let ran = run_unconverted from steps w.items s t w.last w.ran in
        record { items = w.items; last = ran.0; ran = ran.2; at = record { value = tt; closure = w.at.closure; went = folds_to_with_search_call w.items f w.at.closure w.at.went; exit = fold_exit_of_converted_search_exit ran.0 w.last _ w.at.closure g r ran.1 w.at.exit no_end } }

  module _ (stops : V → Bool) (fits : (n : ℕ) (x : A) (v : V) → is_some (pick n x v) ≡ stops v) (h : A → Result V E') where
    -- where the closure acts as h, these calls act so
    abbrev search_returns : Unit {0} → A → Result (Unit {0}) (Unit {0})
    search_returns u x = went_or_stopped (stops_or_fails stops (h x))

    stops_and_keeps_state_where_decided : (f : F) → Acts call f h → (n : ℕ) (x : A) (r : Result R E') (g : F) → SearchDecides call pick n f x r g → (g ≡ f) × (stops_or_fails stops (h x) ≡ true)
    stops_and_keeps_state_where_decided f acts n x (Ok z) g d = let a = acts x (Ok d.0) g d.1 in (a.0, ap (stops_or_fails stops) (sym a.1) ∙ sym (fits n x d.0) ∙ ap is_some d.2)
    stops_and_keeps_state_where_decided f acts n x (Err e) g d = let a = acts x (Err e) g d in (a.0, ap (stops_or_fails stops) (sym a.1))

    acts_with_search : (f : F) → Acts call f h → ActsWith SearchCall f search_returns
    acts_with_search f acts u x (Ok v) g d = let a = acts x (Ok d.0) g d.1 in (a.0, ap went_or_stopped (sym (ap (stops_or_fails stops) (sym a.1) ∙ sym (fits 0 x d.0) ∙ ap is_some (d.2 0))))
    acts_with_search f acts u x (Err v) g d = let a = stops_and_keeps_state_where_decided f acts d.0 x d.1 g d.2 in (a.0, ap went_or_stopped (sym a.1))

    -- so they leave what the search does
    rest_fold_is_rest_try_stop : {E : Type 0} (l : List (Result A E)) → rest_fold search_returns tt l ≡ rest_try_stop stops h l
    unfolding rest_fold rest_try_stop
    rest_fold_is_rest_try_stop [] = refl
    rest_fold_is_rest_try_stop (Ok x ∷ l) = rest_failed_is_stopped_or (stops_or_fails stops (h x)) l (rest_fold search_returns tt l) ∙ ap (stopped_or (stops_or_fails stops (h x)) l) (rest_fold_is_rest_try_stop l)
    rest_fold_is_rest_try_stop (Err e ∷ l) = refl

    module _ {S E : Type 0} (from : E → E' → Type 0) {steps : S → Answered A E → S → Type 0} {s t : S} {f g : F} {r : Result R E'} {none : R} {l : List (Result A E)} where
      lists_rest_try_stop : Acts call f h → Lists steps s l → SearchDrains call pick (Converted from steps) none s f r t g → ¬ (r ≡ Ok none) → Lists steps t (rest_try_stop stops h l)
      lists_rest_try_stop acts i w no_end = subst (λ k. Lists steps t k) (rest_fold_is_rest_try_stop l) (lists_rest_fold SearchCall (λ e v. ⊤) search_returns f (acts_with_search f acts) steps l (fold_drains_of_converted_search from steps none s t f g r w no_end) i tt refl)

module _ {S A E E' F : Type 0} {from : E → E' → Type 0} {steps : S → Answered A E → S → Type 0} {s t : S} {f g : F} (l : List (Result A E)) (i : Lists steps s l) where
  pub lists_rest_try_each : {call : F → A → Result (Unit {0}) E' → F → Type 0} (h : A → Result (Unit {0}) E') {r : Result (Unit {0}) E'} {e : E'} → Acts call f h → SearchDrains call for_each_pick (Converted from steps) tt s f r t g → r ≡ Err e → Lists steps t (rest_try_each h l)
  unfolding rest_try_each
  lists_rest_try_each {call = call} h acts d is = lists_rest_try_stop call for_each_pick (λ u. false) (λ n x u. refl) h from acts i d (λ no. absurd cc)

  pub lists_rest_try_true : {call : F → A → Result Bool E' → F → Type 0} (h : A → Result Bool E') {r : Result (Option A) E'} → Acts call f h → SearchDrains call find_pick (Converted from steps) None s f r t g → ¬ (r ≡ Ok None) → Lists steps t (rest_try_true h l)
  unfolding rest_try_true
  lists_rest_try_true {call = call} h acts d no_end = lists_rest_try_stop call find_pick (λ v. v) is_some_of_find_pick_is_answer h from acts i d no_end

  pub lists_rest_try_true_placed : {call : F → A → Result Bool E' → F → Type 0} (h : A → Result Bool E') {r : Result (Option ℕ) E'} → Acts call f h → SearchDrains call position_pick (Converted from steps) None s f r t g → ¬ (r ≡ Ok None) → Lists steps t (rest_try_true h l)
  unfolding rest_try_true
  lists_rest_try_true_placed {call = call} h acts d no_end = lists_rest_try_stop call position_pick (λ v. v) is_some_of_position_pick_is_answer h from acts i d no_end

-- the calls that don't fail, as calls which might fail otherwise
abbrev pub unfailing : {F A V E E' : Type 0} → (F → A → Result V E' → F → Type 0) → F → A → Result V E → F → Type 0
unfailing call f x (Ok v) g = call f x (Ok v) g
unfailing call f x (Err e) g = ⊥

-- ---- At most one item, by one draw or two

module _ {S A E : Type 0} {steps : S → Answered A E → S → Type 0} {s t : S} where
  -- the first draw decides
  pub at_most_one_drains_by_one_draw : {r : Result (Result (Option A) (A × A)) E} (last : Answered A E) → steps s last t → AtMostOneExit [] last r → AtMostOneDrains steps s r t
  at_most_one_drains_by_one_draw last step exit = drained_by_last last step (record { exit = exit })

  -- the second does
  pub at_most_one_drains_by_two_draws : (u : S) {r : Result (Result (Option A) (A × A)) E} (x : A) (last : Answered A E) → steps s (item x) u → steps u last t → AtMostOneExit (x ∷ []) last r → AtMostOneDrains steps s r t
  at_most_one_drains_by_two_draws u x last first second exit = record { items = x ∷ []; last = last; ran = (u, first, (t, second, refl)); at = record { exit = exit } }

-- ---- over a list

module _ {A E : Type 0} where
  at_most_one_of_after_items : (items : List A) (last : Answered A E) (r : Result (Result (Option A) (A × A)) E) (rest : List (Result A E)) → RestAt last rest → AtMostOneExit items last r → r ≡ at_most_one_of (map (λ x. Ok x) items ++ rest)
  unfolding at_most_one_of
  at_most_one_of_after_items [] (Ok None) r rest left exit = exit ∙ sym (ap at_most_one_of left)
  at_most_one_of_after_items [] (Ok (Some x)) r rest left exit = absurd exit
  at_most_one_of_after_items [] (Err e) r rest left exit = exit ∙ sym (ap at_most_one_of left.1)
  at_most_one_of_after_items (x ∷ []) (Ok None) r rest left exit = exit ∙ sym (ap (λ (l : List (Result A E)). at_most_one_of (Ok x ∷ l)) left)
  at_most_one_of_after_items (x ∷ []) (Ok (Some y)) r rest left exit = exit ∙ sym (ap (λ (l : List (Result A E)). at_most_one_of (Ok x ∷ l)) left.1)
  at_most_one_of_after_items (x ∷ []) (Err e) r rest left exit = exit ∙ sym (ap (λ (l : List (Result A E)). at_most_one_of (Ok x ∷ l)) left.1)
  at_most_one_of_after_items (x ∷ y ∷ items) last r rest left exit = absurd exit

  -- the last answer, where it is no end, is the one that `nth(1)` would have
  nth_exit_of_second_where_not_ended : (items : List A) (last : Answered A E) (r : Result (Result (Option A) (A × A)) E) → ¬ (last ≡ Ok None) → AtMostOneExit items last r → NthExit {A = A} {E = E} 1 (length items) last
  nth_exit_of_second_where_not_ended [] (Ok None) r no_end exit = absurd (no_end refl)
  nth_exit_of_second_where_not_ended [] (Ok (Some x)) r no_end exit = absurd exit
  nth_exit_of_second_where_not_ended [] (Err e) r no_end exit = omega arith
  nth_exit_of_second_where_not_ended (x ∷ []) (Ok None) r no_end exit = absurd (no_end refl)
  nth_exit_of_second_where_not_ended (x ∷ []) (Ok (Some y)) r no_end exit = omega arith
  nth_exit_of_second_where_not_ended (x ∷ []) (Err e) r no_end exit = omega arith
  nth_exit_of_second_where_not_ended (x ∷ y ∷ items) last r no_end exit = absurd exit

  no_end_drawn : (items : List A) (last : Answered A E) (r : Result (Result (Option A) (A × A)) E) → ((o : Option A) → ¬ (r ≡ Ok (Ok o))) → AtMostOneExit items last r → ¬ (last ≡ Ok None)
  no_end_drawn [] (Ok None) r other exit is = other None exit
  no_end_drawn [] (Ok (Some x)) r other exit is = exit
  no_end_drawn [] (Err e) r other exit is = cc
  no_end_drawn (x ∷ []) (Ok None) r other exit is = other (Some x) exit
  no_end_drawn (x ∷ []) (Ok (Some y)) r other exit is = cc
  no_end_drawn (x ∷ []) (Err e) r other exit is = cc
  no_end_drawn (x ∷ y ∷ items) last r other exit is = exit

module _ {S A E : Type 0} {steps : S → Answered A E → S → Type 0} {s t : S} where
  pub at_most_one_of_lists : {r : Result (Result (Option A) (A × A)) E} (l : List (Result A E)) → AtMostOneDrains steps s r t → Lists steps s l → r ≡ at_most_one_of l
  at_most_one_of_lists {r = r} l c i = let d = drawn_of_lists steps c.items c.last l s t i.runs c.ran in at_most_one_of_after_items c.items c.last r d.rest d.rest_is c.at.exit ∙ sym (ap at_most_one_of d.list_is)

  -- and so is what it leaves
  pub lists_rest_after_two : {r : Result (Result (Option A) (A × A)) E} (l : List (Result A E)) → AtMostOneDrains steps s r t → Lists steps s l → ((o : Option A) → ¬ (r ≡ Ok (Ok o))) → Lists steps t (rest_nth 1 l)
  lists_rest_after_two {r = r} l c i other =
      let no_end = no_end_drawn c.items c.last r other c.at.exit in
      let c' : NthDrains steps s 1 c.last t = record { items = c.items; last = c.last; ran = c.ran; at = record { is = refl; exit = nth_exit_of_second_where_not_ended c.items c.last r no_end c.at.exit } } in
      lists_rest_nth l c' i no_end
