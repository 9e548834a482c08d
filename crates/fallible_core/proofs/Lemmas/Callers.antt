-- What callers' proofs cite: of every trace, of every fold that counts, and of every run of `Filter` and of `Take`, whatever they draw from.
use Rattle.std.proofs.Common.{◌≡◌, ℕ, zero, suc, ◌+◌, ◌<◌, ◌⊎◌, inl, inr, Bool, true, false, cond, List, [], ◌∷◌, ◌++◌, length, map, filter, refl, sym, ap, subst, ◌∙◌, arith, Some, None, Result, Ok, Err}
use Rattle.std.specs.List.{FoldsTo}
use Rattle.std.specs.Fn.{Mut}
use Rattle.std.specs.Borrow.{Bor}
use Rattle.fallible_contract.specs.Traces.{Answered, Run, item, failure, end}
use Rattle.fallible_contract.specs.Contract.{Contract, Lawful, AtMost, parts_as}
use Rattle.fallible_contract.specs.Closures.{call_by_reference}
use Rattle.fallible_contract.specs.Lists.{Acts}
use Rattle.fallible_contract.specs.Folds.{HoldsAtEachTurn, CountExit, FoldExit, FoldDrains}
use Rattle.fallible_contract.specs.Passing.{PassTrace}
use Rattle.fallible_contract.specs.Laws.Passing.{Passes, done, end_passes, failure_passes, keeps, refuses, closes, leaves_out, passes_of_pass_trace}
use Rattle.fallible_contract.specs.Laws.LawForm.{run_at_one_answer_iff_law}
pub use Rattle.fallible_contract.proofs.Lemmas.Lists.ForGood.{run_at_view}
use Rattle.fallible_contract.proofs.Lemmas.Folds.{holds_each_turn_below, number_counted_up}
use Rattle.fallible_contract.specs.Laws.Passing.{passing_by_answers}
use Rattle.fallible_core.specs.Cutting.Take.{take_step, take_contract, take_parts}
use Rattle.fallible_core.specs.Filtering.Filter.{tested_outcome, filter_contract, filter_parts}
use Rattle.fallible_contract.specs.declared.passing.Outcome.{Outcome}
use Rattle.fallible_contract.specs.declared.passing.Outcome.TheVariants.{Kept, LeftOut, Failure, End}
use Rattle.fallible_core.specs.declared.cutting.take.Take.{Take}
use Rattle.fallible_core.specs.declared.filtering.filter.Filter.{Filter}

-- ---- traces

module _ {A E : Type 0} where
  -- an answer that is no item
  abbrev pub NoItem : Answered A E → Type 0
  NoItem z = (x : A) → z ≡ item x → ⊥

  pub no_item_end : NoItem end
  no_item_end x e = cc

  pub no_item-failure : (e : E) → NoItem (failure e)
  no_item-failure e x h = cc

  -- what stands before an answer that is no item, where the others are items
  pub items_then_last : (prefix rest : List (Answered A E)) (z last : Answered A E) (xs : List A) → NoItem z → prefix ++ z ∷ rest ≡ map item xs ++ last ∷ [] → (prefix ≡ map item xs) × (z ≡ last) × (rest ≡ [])
  items_then_last [] rest z last [] none e = (refl, cc, cc)
  items_then_last [] rest z last (x ∷ xs) none e = absurd (none x cc)
  items_then_last (y ∷ []) rest z last [] none e = absurd cc
  items_then_last (y ∷ w ∷ prefix) rest z last [] none e = absurd cc
  items_then_last (y ∷ prefix) rest z last (x ∷ xs) none e =
      let h = items_then_last prefix rest z last xs none cc in
      let first : y ≡ item x = cc in
      (ap {B = List (Answered A E)} (λ a. a ∷ prefix) first ∙ ap {B = List (Answered A E)} (λ l. item x ∷ l) h.0, h.1, h.2)

  pub not_items_with : (prefix rest : List (Answered A E)) (z : Answered A E) (xs : List A) → NoItem z → prefix ++ z ∷ rest ≡ map item xs → ⊥
  not_items_with [] rest z [] none e = absurd cc
  not_items_with [] rest z (x ∷ xs) none e = none x cc
  not_items_with (y ∷ prefix) rest z [] none e = absurd cc
  not_items_with (y ∷ prefix) rest z (x ∷ xs) none e = not_items_with prefix rest z xs none cc

-- turns over two lists are those over the one and then those over the other
pub turns_split : {P A : Type 0} (R : P → A → P → Type 0) (xs ys : List A) (p r : P) → FoldsTo R p (xs ++ ys) r → (q : P) × FoldsTo R p xs q × FoldsTo R q ys r
turns_split R [] ys p r h = (p, refl, h)
turns_split R (x ∷ xs) ys p r h = let k = turns_split R xs ys h.0 r h.2 in (k.0, (h.0, h.1, k.1), k.2)

-- ---- a fold whose closure counts

-- the number beside the closure goes up by one
folds_to_count_of_beside : {A F : Type 0} {Q : ℕ × F → A → ℕ × F → Type 0} → ((p : ℕ × F) (x : A) (q : ℕ × F) → Q p x q → q.0 ≡ p.0 + 1) → (items : List A) (p q : ℕ × F) → FoldsTo {P = ℕ × F} Q p items q → FoldsTo {P = ℕ} {A = A} (λ n x k. k ≡ n + 1) p.0 items q.0
folds_to_count_of_beside counts [] p q h = ap (λ u. u.0) h
folds_to_count_of_beside counts (x ∷ items) p q h = (h.0.0, counts p x h.0 h.1, folds_to_count_of_beside counts items h.0 q h.2)

module _ {A E F : Type 0} {call : F → ℕ → A → Result ℕ E → F → Type 0} (counts : (f : F) (n : ℕ) (x : A) (r : Result ℕ E) (g : F) → call f n x r g → r ≡ Ok (n + 1)) where
  count_exit_of_fold_exit : (from : E → E → Type 0) → ((e d : E) → from e d → d ≡ e) → (n : ℕ) (g : F) (last : Answered A E) (r : Result ℕ E) → FoldExit call from n g last r → CountExit n last r
  count_exit_of_fold_exit from same n g (Ok None) r h = h
  count_exit_of_fold_exit from same n g (Err e) r h = let k = same e h.0 h.1 in let is = h.2 in cc
  count_exit_of_fold_exit from same n g (Ok (Some x)) r h = absurd (let e = counts g n x (Err h.1) h.0 h.2 in cc)

  -- its result is the number of the items
  pub count_exit_of_folded : {S : Type 0} {steps : S → Answered A E → S → Type 0} {from : E → E → Type 0} {s t : S} {f : F} {r : Result ℕ E} → ((e d : E) → from e d → d ≡ e) → (h : FoldDrains steps call from s 0 f r t) → CountExit (length h.items) h.last r
  count_exit_of_folded {from = from} {f = f} {r = r} same h = subst (λ n. CountExit n h.last r) (let e = number_counted_up h.items 0 h.at.value (folds_to_count_of_beside (λ p x q w. let e = counts p.1 p.0 x (Ok q.0) q.1 w in cc) h.items (0, f) (h.at.value, h.at.closure) h.at.went) in omega (arith, e)) (count_exit_of_fold_exit from same h.at.value h.at.closure h.last r h.at.exit)

-- where at most k items are to come, a fold that counts may take its turn where it may at each number below k
pub holds_each_turn_counting : {S A E F : Type 0} {m : Contract S A E} {Q : ℕ × F → A → ℕ × F → Type 0} {P : ℕ × F → A → Type 0} {s : S} {f : F} (k : ℕ) → ((p : ℕ × F) (x : A) (q : ℕ × F) → Q p x q → q.0 ≡ p.0 + 1) → ((p : ℕ × F) (x : A) → p.0 < k → P p x) → Lawful m → m.can_next s → AtMost m s k → HoldsAtEachTurn {C = ℕ × F} m.steps Q P s (0, f)
holds_each_turn_counting {f = f} k counts below l c b = record { at = λ items t u d x ran went step. below d x ((holds_each_turn_below k l c b).at items t u d.0 x ran (folds_to_count_of_beside counts items (0, f) d went) step) }

-- ---- `Filter`

module _ {X E : Type 0} where
  kept_is_true : (x y : X) (b : Bool) → tested_outcome {E = E} x (Ok b) ≡ Kept y → (b ≡ true) × (x ≡ y)
  kept_is_true x y true e = (refl, cc)
  kept_is_true x y false e = absurd cc

  left_out_is_false : (x : X) (b : Bool) → tested_outcome {E = E} x (Ok b) ≡ LeftOut → b ≡ false
  left_out_is_false x true e = absurd cc
  left_out_is_false x false e = refl

  tested_never_fails : (x : X) (b : Bool) (e : E) → tested_outcome x (Ok b) ≡ Failure e → ⊥
  tested_never_fails x true e h = cc
  tested_never_fails x false e h = cc

  tested_outcome_is_never_end : (x : X) (b : Bool) → tested_outcome {E = E} x (Ok b) ≡ End → ⊥
  tested_outcome_is_never_end x true h = cc
  tested_outcome_is_never_end x false h = cc

-- what the run of a filter was drawn from: a run of its source, with the same last answer, of whose items these are those to which h returns true
pub record FilteredRun {S X E : Type 0} (steps : S → Answered X E → S → Type 0) (h : X → Bool) (s : S) (xs : List X) (last : Answered X E) (t : S) : Type 0 where
  pub items : List X
  pub ran : Run steps s (map item items ++ last ∷ []) t
  pub are : xs ≡ filter h items

module _ {S F X E : Type 0} (steps : S → Answered X E → S → Type 0) (call : F → X → Result Bool E → F → Type 0) (fixed : F) (h : X → Bool) (acts : (f : F) (x : X) (r : Result Bool E) (g : F) → f ≡ fixed → call f x r g → (g ≡ fixed) × (r ≡ Ok (h x))) where
  abbrev FilteredBelow : S → List X → Answered X E → S → Type 0
  FilteredBelow s xs last t = FilteredRun steps h s xs last t

  source_same_of_no_passes : {s t : S} {f g : F} → Passes steps call tested_outcome s f [] t g → s ≡ t
  source_same_of_no_passes done = refl

  filtered_below_last : (s u t : S) (f g : F) (z last : Answered X E) (rest : List (Answered X E)) → z ∷ rest ≡ last ∷ [] → steps s z u → Passes steps call tested_outcome u f rest t g → FilteredBelow s [] last t
  filtered_below_last s u t f g z last [] e step p = record { items = []; ran = (t, (let at : u ≡ t = source_same_of_no_passes p in let is : z ≡ last = cc in subst (λ (v : S). steps s last v) at (subst (λ (q : Answered X E). steps s q u) is step)), refl); are = refl }
  filtered_below_last s u t f g z last (r ∷ rest) e step p = absurd cc

  filtered_below_kept : (s u t : S) (x y : X) (xs : List X) (last : Answered X E) → h x ≡ true → x ≡ y → steps s (item x) u → FilteredBelow u xs last t → FilteredBelow s (y ∷ xs) last t
  filtered_below_kept s u t x y xs last is same step b = record { items = x ∷ b.items; ran = (u, step, b.ran); are = ap {B = List X} (λ l. y ∷ l) b.are ∙ ap {B = List X} (λ z. z ∷ filter h b.items) (sym same) ∙ ap (λ c. cond c (x ∷ filter h b.items) (filter h b.items)) (sym is) }

  filtered_below_left_out : (s u t : S) (x : X) (xs : List X) (last : Answered X E) → h x ≡ false → steps s (item x) u → FilteredBelow u xs last t → FilteredBelow s xs last t
  filtered_below_left_out s u t x xs last is step b = record { items = x ∷ b.items; ran = (u, step, b.ran); are = b.are ∙ ap (λ c. cond c (x ∷ filter h b.items) (filter h b.items)) (sym is) }

  tested_outcome_same_where_closure_acts : (o : Outcome X E) (f g : F) (x : X) (v : Result Bool E) → f ≡ fixed → call f x v g → tested_outcome x v ≡ o → tested_outcome x (Ok (h x)) ≡ o
  tested_outcome_same_where_closure_acts o f g x v at called is = ap (tested_outcome x) (sym (acts f x v g at called).1) ∙ is

  filtered_below_of_passes : (xs : List X) (last : Answered X E) (s t : S) (f g : F) (trace : List (Answered X E)) → f ≡ fixed → trace ≡ map item xs ++ last ∷ [] → Passes steps call tested_outcome s f trace t g → FilteredBelow s xs last t
  filtered_below_of_passes [] last s t f g _ at e done = absurd cc
  filtered_below_of_passes (x ∷ xs) last s t f g _ at e done = absurd cc
  filtered_below_of_passes [] last s t f g _ at e (end_passes {u = u} step p) = filtered_below_last s u t f g end last _ e step p
  filtered_below_of_passes (x ∷ xs) last s t f g _ at e (end_passes step p) = absurd cc
  filtered_below_of_passes [] last s t f g _ at e (failure_passes {u = u} d step p) = filtered_below_last s u t f g (failure d) last _ e step p
  filtered_below_of_passes (x ∷ xs) last s t f g _ at e (failure_passes d step p) = absurd cc
  filtered_below_of_passes [] last s t f g _ at e (keeps {u = u} {h = j} {trace = rest} x v y step called is p) = let k = kept_is_true x y (h x) (tested_outcome_same_where_closure_acts (Kept y) f j x v at called is) in filtered_below_last s u t j g (item x) last rest (ap {B = List (Answered X E)} (λ (z : X). item z ∷ rest) k.1 ∙ e) step p
  filtered_below_of_passes (z ∷ xs) last s t f g _ at e (keeps {u = u} {h = j} x v y step called is p) = let k = kept_is_true x y (h x) (tested_outcome_same_where_closure_acts (Kept y) f j x v at called is) in filtered_below_kept s u t x z xs last k.0 (k.1 ∙ cc) step (filtered_below_of_passes xs last u t j g _ (acts f x v j at called).0 (cc) p)
  filtered_below_of_passes xs last s t f g _ at e (refuses {h = j} x v d step called is p) = absurd (tested_never_fails x (h x) d (tested_outcome_same_where_closure_acts (Failure d) f j x v at called is))
  filtered_below_of_passes xs last s t f g _ at e (closes {h = j} x v step called is p) = absurd (tested_outcome_is_never_end x (h x) (tested_outcome_same_where_closure_acts End f j x v at called is))
  filtered_below_of_passes xs last s t f g trace at e (leaves_out {u = u} {h = j} x v step called is p) = filtered_below_left_out s u t x xs last (left_out_is_false x (h x) (tested_outcome_same_where_closure_acts LeftOut f j x v at called is)) step (filtered_below_of_passes xs last u t j g trace (acts f x v j at called).0 e p)

  pub filtered_below_of_run : (xs : List X) (last : Answered X E) (p q : S × F) → p.1 ≡ fixed → Run (λ p r q. PassTrace steps call tested_outcome p (r ∷ []) q) p (map item xs ++ last ∷ []) q → FilteredBelow p.0 xs last q.0
  filtered_below_of_run xs last p q at ran = filtered_below_of_passes xs last p.0 q.0 p.1 q.1 _ at refl (passes_of_pass_trace ((run_at_one_answer_iff_law _ (passing_by_answers steps call tested_outcome) p _ q).0 ran))

-- a closure that equals one that acts as a function acts so
call_leaves_closure_and_answers_where_acts : {F X R : Type 0} (call : F → X → R → F → Type 0) (f : F) (h : X → R) → Acts call f h → (k : F) (x : X) (v : R) (g : F) → k ≡ f → call k x v g → (g ≡ f) × (v ≡ h x)
call_leaves_closure_and_answers_where_acts call f h acts k x v g e c = acts x v g (subst (λ z. call z x v g) e c)

module _ {I F X E : Type 0} (m : Contract I X E) (g : Mut F (Bor X × Unit {0}) (Result Bool E)) (h : X → Bool) (f : F) (it : I) where
  pub filtered_run : (s t : Filter I F) (xs : List X) (last : Answered X E) → Acts (call_by_reference g) f (λ x. Ok (h x)) → filter_parts s ≡ (it, f) → Run (parts_as filter_parts (filter_contract m g)).steps s (map item xs ++ last ∷ []) t → FilteredRun m.steps h it xs last t.it
  filtered_run s t xs last acts parts ran =
      let at : s.it ≡ it = ap (λ p. p.0) parts in
      subst (λ (i : I). FilteredRun m.steps h i xs last t.it) at (filtered_below_of_run m.steps (call_by_reference g) f h (call_leaves_closure_and_answers_where_acts (call_by_reference g) f (λ x. Ok (h x)) acts) xs last (filter_parts s) (filter_parts t) (ap (λ p. p.1) parts) (run_at_view filter_parts _ (map item xs ++ last ∷ []) s t ran))

-- ---- `Take`

-- What a run of `Take` at n was drawn from, where its answers were items and then a last one: the same answers, with fewer than n items; or n items alone, and the last answer is an end that came without a draw.
abbrev pub TakenRun : {S A E : Type 0} → (S → Answered A E → S → Type 0) → ℕ → S → List A → Answered A E → S → Type 0
TakenRun steps n s xs last t = (Run steps s (map item xs ++ last ∷ []) t × (length xs < n)) ⊎ (Run steps s (map item xs) t × (last ≡ end) × (length xs ≡ n))

module _ {S A E : Type 0} (steps : S → Answered A E → S → Type 0) where
  taken_run_one_more : (n : ℕ) (s u t : S) (x : A) (xs : List A) (last : Answered A E) → steps s (item x) u → TakenRun steps n u xs last t → TakenRun steps (suc n) s (x ∷ xs) last t
  taken_run_one_more n s u t x xs last step (inl d) = let few = d.1 in inl ((u, step, d.0), omega (arith, few))
  taken_run_one_more n s u t x xs last step (inr d) = let all = d.2 in inr ((u, step, d.0), d.1, omega (arith, all))

  taken_run_of_run : (xs : List A) (last : Answered A E) (n k : ℕ) (s t : S) → Run (take_step steps) (s, n) (map item xs ++ last ∷ []) (t, k) → TakenRun steps n s xs last t
  taken_run_of_run [] last zero k s t ran = inr (sym ran.1.1 ∙ ap (λ p. p.0) ran.2, ran.1.0, refl)
  taken_run_of_run [] last (suc n) k s t ran = inl ((t, subst (λ (u : S). steps s last u) (ap (λ p. p.0) ran.2) ran.1.0, refl), omega arith)
  taken_run_of_run (x ∷ xs) last zero k s t ran = absurd (let e = ran.1.0 in cc)
  taken_run_of_run (x ∷ xs) last (suc n) k s t ran =
      let one_less : ran.0.1 ≡ n = let e = ran.1.1 in omega (arith, e) in
      taken_run_one_more n s ran.0.0 t x xs last ran.1.0 (subst (λ (j : ℕ). TakenRun steps j ran.0.0 xs last t) one_less (taken_run_of_run xs last ran.0.1 k ran.0.0 t ran.2))

pub taken_run : {I A E : Type 0} (m : Contract I A E) (n : ℕ) (it : I) (s t : Take I) (xs : List A) (last : Answered A E) → take_parts s ≡ (it, n) → Run (parts_as take_parts (take_contract m)).steps s (map item xs ++ last ∷ []) t → TakenRun m.steps n it xs last t.it
taken_run {I = I} m n it s t xs last parts ran = taken_run_of_run m.steps xs last n t.to_take it t.it (subst (λ (p : I × ℕ). Run (take_step m.steps) p (map item xs ++ last ∷ []) (take_parts t)) parts (run_at_view take_parts _ (map item xs ++ last ∷ []) s t ran))
