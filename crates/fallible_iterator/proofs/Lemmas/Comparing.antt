-- What two comparisons over the same lists have to do with each other.
use Rattle.std.specs.Prelude.{◌≡◌, ◌↔◌, Bool, true, false, Option, Some, Result, Ok, Err, List, [], ◌∷◌}
use Rattle.std.specs.Ordering.{is_eq}
use Rattle.std.proofs.Common.{refl, sym, ap, ◌∙◌}
use Rattle.std.proofs.lemmas.Bool.{true≢false}
use Rattle.fallible_contract.specs.Traces.{Answered}
use Rattle.fallible_contract.specs.Comparing.{ComparedWith, ReadWith, by_cmp, by_eq, equal_where, read_as, reads_eq}
use Rattle.fallible_contract.specs.Lists.{Lists, compared, unless_equal}
use Rattle.fallible_contract.proofs.Lemmas.Lists.Compared.{compared_of_lists_converted, read_as_of_lists}
-- lemmas of `fallible_contract` on one comparison, reexported
pub use Rattle.fallible_contract.proofs.Lemmas.Comparing.{EitherAtMost, either_at_most_by_bound_of_either, either_at_most_after_fewer, either_or_ends_by_one_of}
use Rattle.std.specs.declared.cmp.Ordering.{Ordering}
use Rattle.std.specs.declared.cmp.Ordering.TheVariants.{Less, Equal, Greater}

module _ {E : Type 0} where
  -- one pair, and then the rest
  read_as_same_unless_equal : (v : Bool) (o : Ordering) (p q : Result (Option Ordering) E) → v ≡ is_eq o → read_as reads_eq p ≡ read_as reads_eq q → read_as reads_eq (unless_equal (equal_where v) p) ≡ read_as reads_eq (unless_equal (Some o) q)
  read_as_same_unless_equal true Less p q e same = absurd (true≢false e)
  read_as_same_unless_equal true Equal p q e same = same
  read_as_same_unless_equal true Greater p q e same = absurd (true≢false e)
  read_as_same_unless_equal false Less p q e same = refl
  read_as_same_unless_equal false Equal p q e same = absurd (true≢false (sym e))
  read_as_same_unless_equal false Greater p q e same = refl

  -- an order that was found, read as whether it is equal
  read_as_reads_eq_is_read_as_is_eq : (r : Result Ordering E) → read_as reads_eq (read_as (λ o. Some o) r) ≡ read_as is_eq r
  read_as_reads_eq_is_read_as_is_eq (Ok Less) = refl
  read_as_reads_eq_is_read_as_is_eq (Ok Equal) = refl
  read_as_reads_eq_is_read_as_is_eq (Ok Greater) = refl
  read_as_reads_eq_is_read_as_is_eq (Err e) = refl

  reads_true_iff_equal : (r : Result Ordering E) → read_as is_eq r ≡ Ok true ↔ r ≡ Ok Equal
  reads_true_iff_equal (Ok Less) = ((λ e. absurd (let h = e in cc)), (λ e. absurd (let h = e in cc)))
  reads_true_iff_equal (Ok Equal) = ((λ e. refl), (λ e. refl))
  reads_true_iff_equal (Ok Greater) = ((λ e. absurd (let h = e in cc)), (λ e. absurd (let h = e in cc)))
  reads_true_iff_equal (Err d) = ((λ e. absurd (let h = e in cc)), (λ e. absurd (let h = e in cc)))

module _ {A E : Type 0} (eq : A → A → Bool) (cmp : A → A → Ordering) (agree : (x y : A) → eq x y ≡ is_eq (cmp x y)) where
  -- where items are equal just where their order is, so are lists
  compared_alike_by_eq_and_cmp : (a b : List (Result A E)) → read_as reads_eq (compared (by_eq eq) a b) ≡ read_as reads_eq (compared (by_cmp cmp) a b)
  unfolding compared
  compared_alike_by_eq_and_cmp (Err e ∷ a) b = refl
  compared_alike_by_eq_and_cmp [] [] = refl
  compared_alike_by_eq_and_cmp [] (Ok y ∷ b) = refl
  compared_alike_by_eq_and_cmp [] (Err e ∷ b) = refl
  compared_alike_by_eq_and_cmp (Ok x ∷ a) [] = refl
  compared_alike_by_eq_and_cmp (Ok x ∷ a) (Ok y ∷ b) = read_as_same_unless_equal (eq x y) (cmp x y) (compared (by_eq eq) a b) (compared (by_cmp cmp) a b) (agree x y) (compared_alike_by_eq_and_cmp a b)
  compared_alike_by_eq_and_cmp (Ok x ∷ a) (Err e ∷ b) = refl

  -- over the lists
  pub eq_reads_cmp : (a b : List (Result A E)) (equal : Result Bool E) (order : Result Ordering E) → equal ≡ read_as reads_eq (compared (by_eq eq) a b) → read_as (λ o. Some o) order ≡ compared (by_cmp cmp) a b → (equal ≡ read_as is_eq order) × (equal ≡ Ok true ↔ order ≡ Ok Equal)
  eq_reads_cmp a b equal order p q =
      let same : equal ≡ read_as is_eq order = p ∙ compared_alike_by_eq_and_cmp a b ∙ sym (ap (read_as reads_eq) q) ∙ read_as_reads_eq_is_read_as_is_eq order in
      (same, ((λ e. (reads_true_iff_equal order).0 (sym same ∙ e)), (λ e. same ∙ (reads_true_iff_equal order).1 e)))

  -- Law: `eq` is true exactly if `cmp` is `Equal`, over iterators that list two lists: `eq` returns whether `cmp` returns `Equal`, and if one fails, the other fails with the same failure. Of the order nothing is required but what std's `Ord` states, that items are equal exactly if their order is `Equal`.
  pub eq_call_reads_cmp_call : {S T O : Type 0} (left : S → Answered A E → S → Type 0) (right : T → Answered A E → T → Type 0) (into : O → T → Type 0) (s : S) (other : O) (a b : List (Result A E)) (equal : Result Bool E) (order : Result Ordering E) → Lists left s a → ((t : T) → into other t → Lists right t b) → ReadWith (by_eq eq) reads_eq into left right s other equal → ComparedWith (by_cmp cmp) into left right s other (read_as (λ o. Some o) order) → (equal ≡ read_as is_eq order) × (equal ≡ Ok true ↔ order ≡ Ok Equal)
  eq_call_reads_cmp_call left right into s other a b equal order i j eqs cmps = eq_reads_cmp a b equal order (read_as_of_lists a b eqs i j) (compared_of_lists_converted a b cmps i j)
