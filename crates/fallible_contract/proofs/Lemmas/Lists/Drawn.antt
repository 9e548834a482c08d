-- What a consumer makes of a source whose answers are listed.
use Rattle.std.specs.Prelude.{◌≡◌, ℕ, ◌+◌, ◌-◌, zero, suc, length, Option, Some, None, Result, Ok, Err, List, [], ◌∷◌, ◌++◌, map}
use Rattle.std.specs.List.{FoldsTo, last_or}
use Rattle.std.proofs.Common.{refl, sym, ap, subst, ◌∙◌, arith}
use Rattle.fallible_contract.specs.Traces.{Answered, Run, item}
use Rattle.fallible_contract.specs.Folds.{CountDrains, CountExit, LastDrains, LastExit, NthDrains, NthExit, went_on_with, FoldExit, FoldDrains, ReduceCall}
use Rattle.fallible_contract.specs.Collecting.{Collects, MadeOfPairs}
use Rattle.fallible_contract.specs.Lists.{AlwaysGives, Lists, one_more_than, counted, last_of, nth_of, before, collected, CollectedBy, CollectedAs, MadeOf, UnzippedAs, on_value, folded, ActsWith, Converts, reduce_of, reduced}
use Rattle.std.specs.declared.alloc.AllocError.{AllocError}
use Rattle.fallible_contract.specs.declared.collecting.Fault.{Fault}
use Rattle.fallible_contract.specs.declared.collecting.Fault.TheVariants.{Source, Memory}

module _ {A E : Type 0} where
  -- what is left of the list at the last answer that was drawn
  abbrev pub RestAt : Answered A E → List (Result A E) → Type 0
  RestAt (Ok (Some x)) l = (rest : List (Result A E)) × (l ≡ Ok x ∷ rest)
  RestAt (Ok None) l = l ≡ []
  RestAt (Err e) l = (rest : List (Result A E)) × (l ≡ Err e ∷ rest)

  module _ {S : Type 0} (steps : S → Answered A E → S → Type 0) where
    pub rest_at_last : (last : Answered A E) (l : List (Result A E)) (s t : S) → AlwaysGives steps s l → steps s last t → RestAt last l
    rest_at_last (Ok None) [] s t a w = refl
    rest_at_last (Ok (Some x)) [] s t a w = absurd (let h = a (Ok (Some x)) t w in cc)
    rest_at_last (Err e) [] s t a w = absurd (let h = a (Err e) t w in cc)
    rest_at_last (Ok None) (Ok y ∷ l) s t a w = absurd (let h = (a (Ok None) t w).0 in cc)
    rest_at_last (Ok None) (Err y ∷ l) s t a w = absurd (let h = (a (Ok None) t w).0 in cc)
    rest_at_last (Ok (Some x)) (Ok y ∷ l) s t a w = (l, let h = (a (Ok (Some x)) t w).0 in cc)
    rest_at_last (Ok (Some x)) (Err y ∷ l) s t a w = absurd (let h = (a (Ok (Some x)) t w).0 in cc)
    rest_at_last (Err e) (Ok y ∷ l) s t a w = absurd (let h = (a (Err e) t w).0 in cc)
    rest_at_last (Err e) (Err y ∷ l) s t a w = (l, let h = (a (Err e) t w).0 in cc)

    -- the list is the items that were drawn, and what was left at the last answer
    pub record Drawn (items : List A) (last : Answered A E) (l : List (Result A E)) : Type 0 where
      pub rest : List (Result A E)
      pub list_is : l ≡ map (λ x. Ok x) items ++ rest
      pub rest_is : RestAt last rest

    pub drawn_of_lists : (items : List A) (last : Answered A E) (l : List (Result A E)) (s t : S) → AlwaysGives steps s l → Run steps s (map item items ++ last ∷ []) t → Drawn items last l
    drawn_of_lists [] last l s t a ran = record { rest = l; list_is = refl; rest_is = rest_at_last last l s ran.0 a ran.1 }
    drawn_of_lists (x ∷ items) last [] s t a ran = absurd (let h = a (Ok (Some x)) ran.0 ran.1 in cc)
    drawn_of_lists (x ∷ items) last (Err y ∷ l) s t a ran = absurd (let h = (a (Ok (Some x)) ran.0 ran.1).0 in cc)
    drawn_of_lists (x ∷ items) last (Ok y ∷ l) s t a ran = let h = a (Ok (Some x)) ran.0 ran.1 in let d = drawn_of_lists items last l ran.0 t h.1 ran.2 in
        record { rest = d.rest; list_is = (let same : y ≡ x = (let q = h.0 in cc) in let is = d.list_is in cc); rest_is = d.rest_is }

  -- ---- count

  counted_after_items : (items : List A) (rest : List (Result A E)) (n : ℕ) → counted rest ≡ Ok n → counted (map (λ x. Ok x) items ++ rest) ≡ Ok (length items + n)
  unfolding counted
  counted_after_items [] rest n e = e ∙ ap (λ k. Ok k) (omega arith)
  counted_after_items (x ∷ items) rest n e = ap one_more_than (counted_after_items items rest n e) ∙ ap (λ k. Ok k) (omega arith)

  counted_failure_after_items : (items : List A) (rest : List (Result A E)) (e : E) → counted rest ≡ Err e → counted (map (λ x. Ok x) items ++ rest) ≡ Err e
  unfolding counted
  counted_failure_after_items [] rest e is = is
  counted_failure_after_items (x ∷ items) rest e is = ap one_more_than (counted_failure_after_items items rest e is)

  counted_of_exit : (items : List A) (last : Answered A E) (r : Result ℕ E) (l rest : List (Result A E)) → l ≡ map (λ x. Ok x) items ++ rest → RestAt last rest → CountExit (length items) last r → r ≡ counted l
  unfolding counted
  counted_of_exit items (Ok None) r l rest is rest_is exit = exit ∙ ap (λ k. Ok k) (omega arith) ∙ sym (counted_after_items items rest 0 (ap counted rest_is)) ∙ ap counted (sym is)
  counted_of_exit items (Err e) r l rest is rest_is exit = exit ∙ sym (counted_failure_after_items items rest e (ap counted rest_is.1)) ∙ ap counted (sym is)
  counted_of_exit items (Ok (Some x)) r l rest is rest_is exit = absurd exit

pub counted_of_lists : {S A E : Type 0} {steps : S → Answered A E → S → Type 0} {s t : S} {r : Result ℕ E} (l : List (Result A E)) → CountDrains steps s r t → Lists steps s l → r ≡ counted l
counted_of_lists {steps = steps} {s = s} {t = t} {r = r} l w i = let d = drawn_of_lists steps w.items w.last l s t i.runs w.ran in counted_of_exit w.items w.last r l d.rest d.list_is d.rest_is w.at.exit

-- ---- collect

module _ {A E : Type 0} where
  collected_items : (items : List A) → collected {E = E} (map (λ x. Ok x) items ++ []) ≡ Ok items
  unfolding collected
  collected_items [] = refl
  collected_items (x ∷ items) = ap (before x) (collected_items items)

  collected_is_failure_after_items : (items : List A) (rest : List (Result A E)) (e : E) → collected (map (λ x. Ok x) items ++ Err e ∷ rest) ≡ Err e
  unfolding collected
  collected_is_failure_after_items [] rest e = refl
  collected_is_failure_after_items (x ∷ items) rest e = ap (before x) (collected_is_failure_after_items items rest e)

module _ {S A E C : Type 0} {steps : S → Answered A E → S → Type 0} (made : List A → C → Type 0) (empty_refuses : Type 0) (refuses : C → A → Type 0) {s : S} where
  collected_as_of_collects : (r : Result C (Fault E)) (l : List (Result A E)) → Collects steps made empty_refuses refuses s r → Lists steps s l → CollectedBy made l r
  collected_as_of_collects (Ok c) l k i = let d = drawn_of_lists steps k.items (Ok None) l s k.after i.runs k.ran in
      (k.items, ap collected d.list_is ∙ ap (λ (rest : _). collected (map (λ x. Ok x) k.items ++ rest)) d.rest_is ∙ collected_items k.items, k.is_made)
  collected_as_of_collects (Err (Source e)) l k i = let d = drawn_of_lists steps k.items (Err e) l s k.after i.runs k.ran in
      ap collected d.list_is ∙ ap (λ (rest : _). collected (map (λ x. Ok x) k.items ++ rest)) d.rest_is.1 ∙ collected_is_failure_after_items k.items d.rest_is.0 e
  collected_as_of_collects (Err (Memory a)) l k i = tt

  pub collected_of_lists : (r : Result C (Fault E)) (l : List (Result A E)) → Collects steps made empty_refuses refuses s r → Lists steps s l → CollectedAs made l r
  unfolding CollectedAs
  collected_of_lists r l k i = collected_as_of_collects r l k i

module _ {S A B E C D : Type 0} {steps : S → Answered (A × B) E → S → Type 0} (made_first : List A → C → Type 0) (made_second : List B → D → Type 0) (empty_refuses : Type 0) (refuses : C × D → A × B → Type 0) {s : S} where
  pub unzipped_of_lists : (r : Result (C × D) (Fault E)) (l : List (Result (A × B) E)) → Collects steps (MadeOfPairs made_first made_second) empty_refuses refuses s r → Lists steps s l → UnzippedAs made_first made_second l r
  unfolding UnzippedAs
  unzipped_of_lists r l k i = collected_as_of_collects (MadeOfPairs made_first made_second) empty_refuses refuses r l k i

-- want of memory says nothing of the list
pub unzipped_as_refused : {A B E C D : Type 0} (made_first : List A → C → Type 0) (made_second : List B → D → Type 0) (l : List (Result (A × B) E)) (a : AllocError) → UnzippedAs made_first made_second l (Err (Memory a))
unfolding UnzippedAs
unzipped_as_refused made_first made_second l a = tt

pub collected_as_refused : {A E C : Type 0} (made : List A → C → Type 0) (l : List (Result A E)) (a : AllocError) → CollectedAs made l (Err (Memory a))
unfolding CollectedAs
collected_as_refused made l a = tt

-- a collection is made of what is collected
pub made_of_collected : {A E C : Type 0} (made : List A → C → Type 0) (l : List (Result A E)) (c : C) → CollectedAs made l (Ok c) → MadeOf made (collected l) c
unfolding CollectedAs
made_of_collected made l c w = rw w.1 w.2

-- two collections are made of the parts of what is collected
pub made_of_unzipped : {A B E C D : Type 0} (made_first : List A → C → Type 0) (made_second : List B → D → Type 0) (l : List (Result (A × B) E)) (c : C × D) → UnzippedAs made_first made_second l (Ok c) → MadeOf (MadeOfPairs made_first made_second) (collected l) c
unfolding UnzippedAs
made_of_unzipped made_first made_second l c w = rw w.1 w.2

-- the failure of the source that `collect` returns is the first of the list
pub collected_is_failure : {A E C : Type 0} (made : List A → C → Type 0) (l : List (Result A E)) {r : Result C (Fault E)} {e : E} → CollectedAs made l r → r ≡ Err (Source e) → collected l ≡ Err e
unfolding CollectedAs
collected_is_failure made l w is = subst (λ (r : Result _ (Fault _)). CollectedBy made l r) is w

-- the failure of the source that `unzip` returns is the first of the list
pub collected_is_failure_unzipped : {A B E C D : Type 0} (made_first : List A → C → Type 0) (made_second : List B → D → Type 0) (l : List (Result (A × B) E)) {r : Result (C × D) (Fault E)} {e : E} → UnzippedAs made_first made_second l r → r ≡ Err (Source e) → collected l ≡ Err e
unfolding UnzippedAs
collected_is_failure_unzipped made_first made_second l w is = subst (λ (r : Result _ (Fault _)). CollectedBy (MadeOfPairs made_first made_second) l r) is w

-- ---- last

module _ {A E : Type 0} where
  last_of_exit : (items : List A) (last : Answered A E) (r : Result (Option A) E) (l rest : List (Result A E)) → l ≡ map (λ x. Ok x) items ++ rest → RestAt last rest → LastExit items last r → r ≡ last_of l
  unfolding last_of
  last_of_exit items (Ok None) r l rest is rest_is exit = exit ∙ sym (ap (λ (w : Result (List A) E). on_value w (λ xs. Ok (last_or None xs))) (ap collected is ∙ ap (λ (k : List (Result A E)). collected (map (λ x. Ok x) items ++ k)) rest_is ∙ collected_items items))
  last_of_exit items (Err e) r l rest is rest_is exit = exit ∙ sym (ap (λ (w : Result (List A) E). on_value w (λ xs. Ok (last_or None xs))) (ap collected is ∙ ap (λ (k : List (Result A E)). collected (map (λ x. Ok x) items ++ k)) rest_is.1 ∙ collected_is_failure_after_items items rest_is.0 e))
  last_of_exit items (Ok (Some x)) r l rest is rest_is exit = absurd exit

pub last_of_lists : {S A E : Type 0} {steps : S → Answered A E → S → Type 0} {s t : S} {r : Result (Option A) E} (l : List (Result A E)) → LastDrains steps s r t → Lists steps s l → r ≡ last_of l
last_of_lists {steps = steps} {s = s} {t = t} {r = r} l w i = let d = drawn_of_lists steps w.items w.last l s t i.runs w.ran in last_of_exit w.items w.last r l d.rest d.list_is d.rest_is w.at.exit

-- ---- nth

module _ {A E : Type 0} where
  nth_of_after_items : (items : List A) (rest : List (Result A E)) (n k : ℕ) → n ≡ length items + k → nth_of n (map (λ x. Ok x) items ++ rest) ≡ nth_of k rest
  unfolding nth_of
  nth_of_after_items [] rest n k e = ap (λ (j : ℕ). nth_of j rest) (omega (arith, e))
  nth_of_after_items (x ∷ items) rest zero k e = absurd (omega (arith, e))
  nth_of_after_items (x ∷ items) rest (suc n) k e = nth_of_after_items items rest n k (omega (arith, e))

  nth_of_failure_first_is_failure : (n : ℕ) (e : E) (l : List (Result A E)) → nth_of n (Err e ∷ l) ≡ Err e
  unfolding nth_of
  nth_of_failure_first_is_failure zero e l = refl
  nth_of_failure_first_is_failure (suc n) e l = refl

  nth_of_rest_is_answer : (n skipped : ℕ) (r : Answered A E) (rest : List (Result A E)) → NthExit n skipped r → RestAt r rest → (k : ℕ) × (n ≡ skipped + k) × (nth_of k rest ≡ r)
  unfolding nth_of
  nth_of_rest_is_answer n skipped (Ok (Some x)) rest exit rest_is = (0, omega (arith, exit), ap (nth_of 0) rest_is.1)
  nth_of_rest_is_answer n skipped (Ok None) rest exit rest_is = (n - skipped, omega (arith, exit), ap (nth_of (n - skipped)) rest_is)
  nth_of_rest_is_answer n skipped (Err e) rest exit rest_is = (n - skipped, omega (arith, exit), ap (nth_of (n - skipped)) rest_is.1 ∙ nth_of_failure_first_is_failure (n - skipped) e rest_is.0)

pub nth_of_lists : {S A E : Type 0} {steps : S → Answered A E → S → Type 0} {s t : S} {n : ℕ} {r : Answered A E} (l : List (Result A E)) → NthDrains steps s n r t → Lists steps s l → r ≡ nth_of n l
nth_of_lists {steps = steps} {s = s} {t = t} {n = n} {r = r} l c i =
    let d = drawn_of_lists steps c.items r l s t i.runs (subst (λ (q : Answered _ _). Run steps s (map item c.items ++ q ∷ []) t) c.at.is c.ran) in
    let h = nth_of_rest_is_answer n (length c.items) r d.rest c.at.exit d.rest_is in
    sym (ap (nth_of n) d.list_is ∙ nth_of_after_items c.items d.rest n h.0 h.1 ∙ h.2)

-- ---- try_fold and fold

module _ {A E F B E' : Type 0} (call : F → B → A → Result B E' → F → Type 0) (from : E → E' → Type 0) (convert : E → E') (h : B → A → Result B E') (f : F) (acts : ActsWith call f h) (converts : Converts from convert) where
  -- the closure went on over the items, and stayed as it is
  folded_after_items : (items : List A) (rest : List (Result A E)) (b v : B) (g : F) → FoldsTo {P = B × F} (went_on_with call) (b, f) items (v, g) → (g ≡ f) × (folded convert h b (map (λ x. Ok x) items ++ rest) ≡ folded convert h v rest)
  unfolding folded
  folded_after_items [] rest b v g went = (sym (ap (λ p. p.1) went), ap (λ p. folded convert h p.0 rest) went)
  folded_after_items (x ∷ items) rest b v g went =
      let a = acts b x (Ok (went.0).0) (went.0).1 went.1 in
      let others : FoldsTo {P = B × F} (went_on_with call) ((went.0).0, f) items (v, g) = subst (λ (k : F). FoldsTo {P = B × F} (went_on_with call) ((went.0).0, k) items (v, g)) a.0 went.2 in
      let d = folded_after_items items rest (went.0).0 v g others in
      (d.0, ap (λ (w : Result B E'). on_value w (λ c. folded convert h c (map (λ x. Ok x) items ++ rest))) (sym a.1) ∙ d.1)

  fold_exit_is_folded_of_rest : (last : Answered A E) (v : B) (r : Result B E') (rest : List (Result A E)) → FoldExit call from v f last r → RestAt last rest → r ≡ folded convert h v rest
  unfolding folded
  fold_exit_is_folded_of_rest (Ok None) v r rest exit rest_is = exit ∙ sym (ap (folded convert h v) rest_is)
  fold_exit_is_folded_of_rest (Err e) v r rest exit rest_is = exit.2 ∙ ap (λ (k : E'). Err k) (converts e exit.0 exit.1) ∙ sym (ap (folded convert h v) rest_is.1)
  fold_exit_is_folded_of_rest (Ok (Some x)) v r rest exit rest_is =
      let a = acts v x (Err exit.1) exit.0 exit.2 in
      exit.3 ∙ ap (λ (w : Result B E'). on_value w (λ c. folded convert h c rest_is.0)) a.1 ∙ sym (ap (folded convert h v) rest_is.1)

  pub folded_of_lists : {S : Type 0} {steps : S → Answered A E → S → Type 0} {s t : S} {b : B} {r : Result B E'} (l : List (Result A E)) → FoldDrains steps call from s b f r t → Lists steps s l → r ≡ folded convert h b l
  folded_of_lists {steps = steps} {s = s} {t = t} {b = b} {r = r} l c i =
      let d = drawn_of_lists steps c.items c.last l s t i.runs c.ran in
      let p = folded_after_items c.items d.rest b c.at.value c.at.closure c.at.went in
      fold_exit_is_folded_of_rest c.last c.at.value r d.rest (subst (λ (g : F). FoldExit call from c.at.value g c.last r) p.0 c.at.exit) d.rest_is ∙ sym (ap (folded convert h b) d.list_is ∙ p.1)

-- ---- a fold from the first item on

module _ {A E F : Type 0} (call : F → A → A → Result A E → F → Type 0) (f : F) (h : A → A → Result A E) (acts : ActsWith call f h) where
  acts_with_reduced : ActsWith (ReduceCall call) f (reduce_of h)
  acts_with_reduced None x r g c = (c.1, c.0)
  acts_with_reduced (Some v) x (Ok (Some y)) g c = let a = acts v x (Ok y) g c in (a.0, ap (λ (w : Result A E). on_value w (λ z. Ok (Some z))) a.1)
  acts_with_reduced (Some v) x (Ok None) g c = absurd c
  acts_with_reduced (Some v) x (Err e) g c = let a = acts v x (Err e) g c in (a.0, ap (λ (w : Result A E). on_value w (λ z. Ok (Some z))) a.1)

  pub reduced_of_lists : {S : Type 0} {steps : S → Answered A E → S → Type 0} {s t : S} {r : Result (Option A) E} (l : List (Result A E)) → FoldDrains steps (ReduceCall call) (λ e d. d ≡ e) s None f r t → Lists steps s l → r ≡ reduced h l
  unfolding reduced
  reduced_of_lists l w i = folded_of_lists (ReduceCall call) (λ e d. d ≡ e) (λ e. e) (reduce_of h) f acts_with_reduced (λ e d is. is) l w i
