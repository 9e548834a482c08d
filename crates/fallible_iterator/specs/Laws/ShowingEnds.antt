-- A type with two ends whose value shows what it lists is lawful, and lists that from both ends.
use Rattle.std.specs.Prelude.{◌≡◌, ℕ, ◌≤◌, ◌<◌, zero, suc, length, reverse, Result, Some, None, Ok, Err, List, [], ◌∷◌}
use Rattle.std.specs.Iterator.{IsFinite, size}
use Rattle.std.proofs.Common.{refl, sym, ap, subst, ◌∙◌, arith}
use Rattle.std.proofs.lemmas.List.{length-reverse, reverse-reverse}
use Rattle.fallible_contract.specs.Traces.{Answered}
use Rattle.fallible_contract.specs.Laws.Sound.{own_hold}
use Rattle.fallible_contract.specs.Contract.{OnAnswer, NoMore, NoMoreRemains, Fewer}
use Rattle.fallible_contract.specs.Ends.{from_back, LawfulEnds}
use Rattle.fallible_contract.specs.BothEnds.{TakesFirst, ListsBothEndsFor, ListsBothEnds}
use Rattle.fallible_contract.specs.Showing.{TakesShown, listing}
use Rattle.fallible_contract.specs.Laws.Showing.{lawful_listing, listing_traced}
use Rattle.fallible_iterator.specs.ShowingEnds.{listing_ends}

module _ {S A E : Type 0} (shows : S → List (Result A E)) where
  -- from the back as many are shown as from the front
  no_more_where_no_more_reversed : (s t : S) → NoMore (listing (λ u. reverse (shows u))) s t → NoMore (listing shows) s t
  no_more_where_no_more_reversed s t less n b = let d = less n (let e = length-reverse (shows s) in omega (arith, e, b)) in let e = length-reverse (shows t) in (d.0, (let k = d.1 in omega (arith, e, k)), d.2)

  fewer_where_fewer_reversed : (s t : S) → Fewer (listing (λ u. reverse (shows u))) s t → Fewer (listing shows) s t
  fewer_where_fewer_reversed s t less n b = let d = less n (let e = length-reverse (shows s) in omega (arith, e, b)) in let e = length-reverse (shows t) in (d.0, (let k = d.1 in omega (arith, e, k)), d.2)

  less_remains_where_reversed_shorter : (s t : S) → length (reverse (shows t)) < length (reverse (shows s)) → IsFinite ((listing shows).remaining s) → IsFinite ((listing shows).remaining t) × (size ((listing shows).remaining t) < size ((listing shows).remaining s))
  less_remains_where_reversed_shorter s t less f = (tt, (let d = length-reverse (shows s) in let e = length-reverse (shows t) in omega (arith, d, e, less)))

  no_more_remains_where_reversed_no_longer : (s t : S) → length (reverse (shows t)) ≤ length (reverse (shows s)) → NoMoreRemains (listing shows) s t
  no_more_remains_where_reversed_no_longer s t less f = (tt, (let d = length-reverse (shows s) in let e = length-reverse (shows t) in omega (arith, d, e, less)))

  on_answer_back : (s t : S) (r : Answered A E) → OnAnswer (listing (λ u. reverse (shows u))) s r t → OnAnswer (from_back (listing shows) (listing_ends shows)) s r t
  on_answer_back s t (Ok (Some x)) a = (tt, fewer_where_fewer_reversed s t a.1, less_remains_where_reversed_shorter s t (a.2 tt).1)
  on_answer_back s t (Ok None) a = (no_more_where_no_more_reversed s t a.0, no_more_remains_where_reversed_no_longer s t (a.1 tt).1)
  on_answer_back s t (Err e) a = (tt, no_more_where_no_more_reversed s t a.1, less_remains_where_reversed_shorter s t (a.2 tt).1)

  pub lawful_ends_listing : LawfulEnds (listing shows) (listing_ends shows)
  lawful_ends_listing = record {
    front_can = λ s c. tt;
    may_give = λ s x g. tt;
    may_fail = λ s x g. tt;
    front = lawful_listing shows;
    back = record {
      kept_by_draw = λ s r t c step. record {
        can_next = tt;
        is_finite = λ f. tt;
        answer = on_answer_back s t r ((lawful_listing (λ u. reverse (shows u))).kept_by_draw s r t tt step).answer;
        may_give = λ x g. tt;
        may_fail = λ e g. tt;
        lenders = refl;
      };
      bounded = λ s. ((λ f. (length (shows s), omega arith)), (λ n. tt));
      traced = listing_traced (λ u. reverse (shows u));
      hold = own_hold;
    };
  }

  -- what takes of the list that is shown
  takes_first_shown_front : (n : ℕ) (l : List (Result A E)) (s t : S) (r : Answered A E) → shows s ≡ l → TakesShown l r (shows t) → ((k : List (Result A E)) → shows t ≡ k → ListsBothEndsFor (listing shows).steps (listing_ends shows).steps n t k) → TakesFirst (λ k. ListsBothEndsFor (listing shows).steps (listing_ends shows).steps n t k) r l
  takes_first_shown_front n [] s t r e w all = (w.0, all [] w.1)
  takes_first_shown_front n (y ∷ l) s t r e w all = (w.0, all l w.1)

  takes_first_shown_back : (n : ℕ) (l : List (Result A E)) (s t : S) (r : Answered A E) → TakesShown l r (reverse (shows t)) → ((k : List (Result A E)) → shows t ≡ k → ListsBothEndsFor (listing shows).steps (listing_ends shows).steps n t k) → TakesFirst (λ k. ListsBothEndsFor (listing shows).steps (listing_ends shows).steps n t (reverse k)) r l
  takes_first_shown_back n [] s t r w all = (w.0, all [] (sym (reverse-reverse (shows t)) ∙ ap reverse w.1))
  takes_first_shown_back n (y ∷ l) s t r w all = (w.0, all (reverse l) (sym (reverse-reverse (shows t)) ∙ ap reverse w.1))

  lists_both_ends_for_shown : (n : ℕ) (s : S) (l : List (Result A E)) → shows s ≡ l → ListsBothEndsFor (listing shows).steps (listing_ends shows).steps n s l
  lists_both_ends_for_shown zero s l e = tt
  lists_both_ends_for_shown (suc n) s l e = (
    (λ r t step. takes_first_shown_front n l s t r e (subst (λ (k : List (Result A E)). TakesShown k r (shows t)) e step) (λ k same. lists_both_ends_for_shown n t k same)),
    (λ r t step. takes_first_shown_back n (reverse l) s t r (subst (λ (k : List (Result A E)). TakesShown (reverse k) r (reverse (shows t))) e step) (λ k same. lists_both_ends_for_shown n t k same)),
  )

  -- A type whose value shows what it lists lists that from both ends.
  pub lists_both_ends_shown : (s : S) → ListsBothEnds (listing shows).steps (listing_ends shows).steps s (shows s)
  lists_both_ends_shown s = record { for = λ n. lists_both_ends_for_shown n s (shows s) refl }
