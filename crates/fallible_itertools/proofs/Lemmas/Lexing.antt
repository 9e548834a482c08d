-- The first token of a list and what one answer leaves of it, and the draws that take them.
use Rattle.std.specs.Prelude.{◌≡◌, ℕ, ◌+◌, Bool, true, false, not, Option, Some, None, Ok, Err, Result, List, [], ◌∷◌}
use Rattle.std.specs.Option.{option_map_or}
use Rattle.std.proofs.Common.{arith, refl, sym, ap, subst, ◌∙◌}
use Rattle.fallible_iterator.specs.Traces.{Answered, end, item}
use Rattle.fallible_iterator.specs.Contract.{Contract, Lawful, Stays}
use Rattle.fallible_iterator.specs.Laws.Contract.{kept_by_draws_of_stays, kept_by_draws_transitive, stays_run}
use Rattle.fallible_iterator.specs.Lists.{Acts, Lists, found, nth_of, rest_first, rest_stop, rest_true, result_answer, searched}
use Rattle.fallible_iterator.specs.Searching.{SearchDrains, find_pick}
use Rattle.fallible_itertools_adapters.specs.Ahead.{Lowers, TakesMade}
use Rattle.fallible_itertools.specs.Lexing.{TokenRules, lexed_by, rest_lexed_by}
use Rattle.fallible_iterator.proofs.Lemmas.Lists.Rest.{lists_rest_find}
use Rattle.fallible_iterator.proofs.Lemmas.Lists.Searched.{found_of_lists}
use Rattle.fallible_itertools_adapters.proofs.Lemmas.Ahead.{LeavesOthers, first_made, lowers_searched, lowers_transitive}

-- ---- of a list

module _ {A S E B F : Type 0} (rules : TokenRules A S E B F) where
  -- what a search for the first item of a token asks of an item
  abbrev pub stands : A → Result Bool E
  stands x = Ok (not (rules.skips x))

  -- what the first item says of the tokens and of what one answer leaves: they are those that it begins; there are none; or the failure is the first
  abbrev pub AfterFirst : Result (Option A) E → List (Result B F) → List (Result A E) → List (Result A E) → Type 0
  AfterFirst (Ok (Some x)) out left rest = (out ≡ option_map_or (λ s. lexed_by rules (Some s) rest) (rules.begins x) (rules.alone x ∷ lexed_by rules None rest)) × (left ≡ option_map_or (λ s. rest_lexed_by rules (Some s) rest) (rules.begins x) rest)
  AfterFirst (Ok None) out left rest = out ≡ []
  AfterFirst (Err e) out left rest = (out ≡ Err (rules.told e) ∷ lexed_by rules None rest) × (left ≡ rest)

  abbrev AfterFirstFrom : ℕ → List (Result A E) → Type 0
  AfterFirstFrom n l = AfterFirst (searched find_pick None stands n l) (lexed_by rules None l) (rest_lexed_by rules None l) (rest_stop (λ v. v) stands l)

  after_first_item : (skips : Bool) (n : ℕ) (x : A) (l : List (Result A E)) → rules.skips x ≡ skips → AfterFirstFrom (n + 1) l → AfterFirstFrom n (Ok x ∷ l)
  unfolding searched rest_stop lexed_by rest_lexed_by
  after_first_item true n x l is h = rw is h
  after_first_item false n x l is h = rw is (refl, refl)

  after_first_from : (n : ℕ) (l : List (Result A E)) → AfterFirstFrom n l
  unfolding searched rest_stop lexed_by rest_lexed_by
  after_first_from n [] = refl
  after_first_from n (Ok x ∷ l) = after_first_item (rules.skips x) n x l refl (after_first_from (n + 1) l)
  after_first_from n (Err e ∷ l) = (refl, refl)

  after_first : (l : List (Result A E)) → AfterFirst (found stands l) (lexed_by rules None l) (rest_lexed_by rules None l) (rest_true stands l)
  unfolding found rest_true
  after_first l = after_first_from 0 l

  -- ---- what is left has the other tokens

  abbrev Others : Option S → List (Result A E) → Type 0
  Others begun l = lexed_by rules None (rest_lexed_by rules begun l) ≡ rest_first (lexed_by rules begun l)

  others_begun : (o : Option S) (x : A) (l : List (Result A E)) → ((begun : Option S) → Others begun l) → lexed_by rules None (option_map_or (λ s. rest_lexed_by rules (Some s) l) o l) ≡ rest_first (option_map_or (λ s. lexed_by rules (Some s) l) o (rules.alone x ∷ lexed_by rules None l))
  unfolding rest_first
  others_begun (Some s) x l others = others (Some s)
  others_begun None x l others = refl

  others_from : (skips : Bool) (x : A) (l : List (Result A E)) → rules.skips x ≡ skips → ((begun : Option S) → Others begun l) → Others None (Ok x ∷ l)
  unfolding lexed_by rest_lexed_by
  others_from true x l is others = rw is (others None)
  others_from false x l is others = rw is (others_begun (rules.begins x) x l others)

  others_after_begun : (o : Option S) (s : S) (x : A) (l : List (Result A E)) → rules.goes_on s x ≡ o → ((begun : Option S) → Others begun l) → Others (Some s) (Ok x ∷ l)
  unfolding lexed_by rest_lexed_by rest_first
  others_after_begun (Some t) s x l is others = rw is (others (Some t))
  others_after_begun None s x l is others = rw is refl

  others_after : (begun : Option S) (l : List (Result A E)) → Others begun l
  unfolding lexed_by rest_lexed_by rest_first
  others_after None [] = refl
  others_after (Some s) [] = refl
  others_after None (Ok x ∷ l) = others_from (rules.skips x) x l refl (λ begun. others_after begun l)
  others_after (Some s) (Ok x ∷ l) = others_after_begun (rules.goes_on s x) s x l refl (λ begun. others_after begun l)
  others_after None (Err e ∷ l) = refl
  others_after (Some s) (Err e ∷ l) = refl

  pub lexed_others : LeavesOthers (lexed_by rules None) (rest_lexed_by rules None)
  lexed_others l = others_after None l

  -- ---- of draws

  -- the draws after an item that begins a token: their answer is the first token, and they leave of each list what one answer leaves
  pub record TakesRest {P : Type 0} (m : Contract P A E) (s : S) (t : P) (r : Result B F) (v : P) : Type 0 where
    pub stays : Stays m t v
    pub first : (l : List (Result A E)) → Lists m.steps t l → nth_of 0 (lexed_by rules (Some s) l) ≡ result_answer r
    pub rest : (l : List (Result A E)) → Lists m.steps t l → Lists m.steps v (rest_lexed_by rules (Some s) l)

  -- by what is made of what calls take of each list
  pub takes_rest : {P W : Type 0} {m : Contract P A E} {s : S} {t v : P} {w q : W} (made : W → Result B F) {taken : List (Result A E) → W} {left : List (Result A E) → List (Result A E)} → ((l : List (Result A E)) → (lexed_by rules (Some s) l ≡ made (taken l) ∷ lexed_by rules None (left l)) × (rest_lexed_by rules (Some s) l ≡ left l)) → Stays m t v → ((l : List (Result A E)) → Lists m.steps t l → w ≡ taken l) → ((l : List (Result A E)) → Lists m.steps t l → Lists m.steps v (left l)) → w ≡ q → TakesRest m s t (made q) v
  takes_rest {m = m} {s = s} {v = v} made {taken = taken} after stays value rest is = record {
    stays = stays;
    first = λ l i. sym (first_made (made (taken l)) (lexed_by rules (Some s) l) _ (after l).0 (ap (λ k. result_answer (made k)) (sym is ∙ value l i)));
    rest = λ l i. subst (Lists m.steps v) (sym (after l).1) (rest l i);
  }

  -- after a search for the first item that does not stand between tokens
  module _ {P C : Type 0} {m : Contract P A E} (law : Lawful m) {call : C → A → Result Bool E → C → Type 0} {f g : C} (acts : Acts call f stands) {s t : P} {r : Answered A E} (can : m.can_next s) (d : SearchDrains call find_pick m.steps None s f r t g) where
    stays_searched : Stays m s t
    stays_searched = stays_run law s _ t can d.ran

    lowers_as : {q : Answered A E} → r ≡ q → Lowers m s q t
    lowers_as is = subst (λ k. Lowers m s k t) is (lowers_searched law call find_pick s t can r d)

    after_first_of : {q : Answered A E} → r ≡ q → (l : List (Result A E)) → Lists m.steps s l → AfterFirst q (lexed_by rules None l) (rest_lexed_by rules None l) (rest_true stands l)
    after_first_of is l i = subst (λ k. AfterFirst k (lexed_by rules None l) (rest_lexed_by rules None l) (rest_true stands l)) (sym (found_of_lists l i {call = call} stands acts d) ∙ is) (after_first l)

    lists_after : {q : Answered A E} → r ≡ q → (q ≡ end → ⊥) → (l : List (Result A E)) → Lists m.steps s l → Lists m.steps t (rest_true stands l)
    lists_after is goes l i = lists_rest_find l i {call = call} stands acts d (λ none. goes (sym is ∙ none))

    pub ends_lexed : r ≡ Ok None → TakesMade m (lexed_by rules None) (rest_lexed_by rules None) s (Ok None) t
    unfolding nth_of
    ends_lexed is = record {
      keeps = kept_by_draws_of_stays stays_searched;
      lowers = tt;
      first = λ l i. sym (ap (nth_of 0) (after_first_of is l i));
      rest = λ l i goes. absurd (goes refl);
    }

    pub fails_lexed : {e : E} → r ≡ Err e → TakesMade m (lexed_by rules None) (rest_lexed_by rules None) s (Err (rules.told e)) t
    fails_lexed {e = e} is = record {
      keeps = kept_by_draws_of_stays stays_searched;
      lowers = lowers_as is;
      first = λ l i. first_made (Err (rules.told e)) (lexed_by rules None l) _ (after_first_of is l i).0 refl;
      rest = λ l i goes. subst (Lists m.steps t) (sym (after_first_of is l i).1) (lists_after is (λ none. cc) l i);
    }

    -- at an item that begins nothing
    pub takes_alone : (x : A) {o : Answered B F} → r ≡ item x → rules.begins x ≡ None → o ≡ result_answer (rules.alone x) → TakesMade m (lexed_by rules None) (rest_lexed_by rules None) s o t
    takes_alone x {o = o} is none same = record {
      keeps = kept_by_draws_of_stays stays_searched;
      lowers = lowers_transitive m o (lowers_as is) (λ n b. (n, b, omega arith)) (λ f. (f, omega arith));
      first = λ l i. let k = after_first_of is l i in first_made (rules.alone x) (lexed_by rules None l) _ (k.0 ∙ ap (λ z. option_map_or (λ s. lexed_by rules (Some s) (rest_true stands l)) z (rules.alone x ∷ lexed_by rules None (rest_true stands l))) none) same;
      rest = λ l i goes. let k = after_first_of is l i in subst (Lists m.steps t) (sym (k.1 ∙ ap (λ z. option_map_or (λ s. rest_lexed_by rules (Some s) (rest_true stands l)) z (rest_true stands l)) none)) (lists_after is (λ none. cc) l i);
    }

    -- at an item that begins a token: what goes on with it is taken
    pub takes_token : (x : A) {b : S} {q : Result B F} {v : P} {o : Answered B F} → r ≡ item x → rules.begins x ≡ Some b → TakesRest m b t q v → o ≡ result_answer q → TakesMade m (lexed_by rules None) (rest_lexed_by rules None) s o v
    takes_token x {b = b} {v = v} {o = o} is begins tail same = record {
      keeps = kept_by_draws_transitive (kept_by_draws_of_stays stays_searched) (kept_by_draws_of_stays tail.stays);
      lowers = lowers_transitive m o (lowers_as is) tail.stays.bound tail.stays.remaining;
      first = λ l i. let k = after_first_of is l i in same ∙ sym (tail.first (rest_true stands l) (lists_after is (λ none. cc) l i)) ∙ ap (nth_of 0) (sym (k.0 ∙ ap (λ z. option_map_or (λ s. lexed_by rules (Some s) (rest_true stands l)) z (rules.alone x ∷ lexed_by rules None (rest_true stands l))) begins));
      rest = λ l i goes. let k = after_first_of is l i in subst (Lists m.steps v) (sym (k.1 ∙ ap (λ z. option_map_or (λ s. rest_lexed_by rules (Some s) (rest_true stands l)) z (rest_true stands l)) begins)) (tail.rest (rest_true stands l) (lists_after is (λ none. cc) l i));
    }
