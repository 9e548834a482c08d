-- What `Unique`, `UniqueBy` and `Duplicates` list, up to an allocation failure, and what their list words are.
use Rattle.std.specs.Prelude.{◌≡◌, Option, Some, None, Result, Ok, Err, List, [], ◌∷◌, ◌++◌, IsSome, ◌⊎◌, Bool, true, false, cond, ℕ, zero, suc, ◌+◌, nat_eq, ⊤, ◌||◌, ◌≤◌, Decides}
use Rattle.std.specs.Borrow.{Bor}
use Rattle.std.specs.Cmp.{IsEquivalence}
use Rattle.std.specs.Fn.{Mut}
use Rattle.std.specs.HashMap as hash
use Rattle.std.specs.HashMap.{HashMap, get}
use Rattle.std.specs.HashSet.{HashSet, IsEmpty, contains}
use Rattle.std.specs.List.{AllByRecursion, IsDistinct, cons_option, count_by, find, list_any}
use Rattle.std.specs.Map.{lookup}
use Rattle.std.specs.Set.{ClonesAreEqual, is_member}
use Rattle.std.specs.declared.alloc.AllocError.{AllocError}
use Rattle.std.proofs.Common.{refl, sym, ap, subst, inl, inr, ◌∙◌, arith, ne_eqb, append-nil, eq-eqb, eqb-true}
use Rattle.std.proofs.lemmas.List.Sums.{sum_by-cons}
use Rattle.std.proofs.lemmas.Map.Steps.{list_any_congr}
use Rattle.fallible_iterator.specs.BothEnds.{failures_listed, items_listed}
use Rattle.fallible_iterator.specs.Closures.{call_by_reference}
use Rattle.fallible_iterator.specs.Contract.{Contract, parts_as}
use Rattle.fallible_iterator.specs.Lists.{Acts, AlwaysGives, Lists, mapped, result_answer}
use Rattle.fallible_iterator.specs.Outcome.{Outcome}
use Rattle.fallible_iterator.specs.Outcome.TheVariants.{Kept, LeftOut, Failure, End}
use Rattle.fallible_iterator.specs.Passing.{passing_step}
use Rattle.fallible_iterator.specs.Refusing.{AnswersRefusal, GivesUntilRefused, IsMadeOf, IsRefusal, ListsUntilRefused}
use Rattle.fallible_iterator.specs.Traces.{Answered, item, end}
use Rattle.fallible_iterator.specs.Laws.Passing.{Passes, done, end_passes, failure_passes, keeps, refuses, closes, leaves_out, passes_of_pass_trace, pass_trace_of_passes}
use Rattle.fallible_iterator.proofs.Lemmas.Lists.Passing.{end_of_nil, answer_is_failure_first_in_list}
use Rattle.fallible_iterator.proofs.Lemmas.Refusing.{lists_until_refused_seen}
use Rattle.fallible_iterator.proofs.Lemmas.Seen.{HasSeen, cond_true_is_or, has_seen_more}
use Rattle.fallible_itertools_adapters.specs.Outcomes.{as_answered_item}
use Rattle.fallible_itertools_adapters.specs.Unique.{MayFailToKeep, sieved, by_key_made, first_of_key, adds_clone, adds_key, is_full, key_asks, key_at, keyed_by, unique_by_contract, unique_by_keys, unique_by_parts, unique_by_key, unique_asks, unique_contract, unique_of, unique_parts, unique_seen, come_by, duplicates_asks, duplicates_came, duplicates_contract, duplicates_of, duplicates_parts, second_of, second_of_equal, has_key, is_key}
use Rattle.fallible_itertools_adapters.specs.UnlessRefused.{GivesUnlessRefused, ListsUnlessRefused}
use Rattle.fallible_itertools_adapters.proofs.Lemmas.UnlessRefused.{gives_unless_refused_seen}
use Rattle.fallible_itertools_adapters.specs.declared.unique.Duplicates.{Duplicates}
use Rattle.fallible_itertools_adapters.specs.declared.unique.Unique.{Unique}
use Rattle.fallible_itertools_adapters.specs.declared.unique.UniqueBy.{UniqueBy}

-- ---- What an adapter lists that leaves items out by what came before, up to an allocation failure; and what comes of two lists joined

-- what comes of an item, as the outcome of the call on it
abbrev pub outcome_of : {A E : Type 0} → Option (Result A E) → Outcome A E
outcome_of None = LeftOut
outcome_of (Some (Ok y)) = Kept y
outcome_of (Some (Err e)) = Failure e

-- The outcome is what is told, and what came is told of q; or an allocation failed, where something was to come, or where one may fail in the place of the end.
abbrev pub ToldOrRefused : {P Z A E : Type 0} → (AllocError → E → Type 0) → Type 0 → (P → Z → Type 0) → Option (Result A E) × Z → Outcome A E → P → Type 0
ToldOrRefused {E = E} from at_end At told o q = ((e : E) × (o ≡ Failure e) × IsRefusal from e × (at_end ⊎ IsSome told.0)) ⊎ ((o ≡ outcome_of told.0) × At q told.1)

-- `At p z` says that p has what came, as z says.
module _ {I P Z A E : Type 0} (steps : I → Answered A E → I → Type 0) (asks : P → A → Outcome A E → P → Type 0) (from : AllocError → E → Type 0) (at_end : Type 0) (At : P → Z → Type 0) (takes : Z → A → Option (Result A E) × Z) where
  abbrev Step : I × P → Answered A E → I × P → Type 0
  Step = passing_step steps asks as_answered_item

  -- r is the first of the list, or an allocation failure; and so on from t
  abbrev IsFirst : List (Result A E) → Answered A E → I × P → Type 0
  IsFirst [] r t = (at_end × AnswersRefusal from r) ⊎ (r ≡ end)
  IsFirst (y ∷ l) r t = AnswersRefusal from r ⊎ ((r ≡ result_answer y) × ((q : Answered A E) (u : I × P) → Step t q u → IsFirst l q u))

  -- The answers are those of the list, in order, and then an end. An allocation failure may be in the place of any of the list's, and of the end where `at_end` holds.
  abbrev Gives : I × P → List (Result A E) → Type 0
  Gives s l = (r : Answered A E) (t : I × P) → Step s r t → IsFirst l r t

  same_answer_is_made : (y : Result A E) (r : Answered A E) → r ≡ result_answer y → IsMadeOf (λ x z. z ≡ x) y r
  same_answer_is_made (Ok x) r is = rw is refl
  same_answer_is_made (Err d) r is = is

  until_refused_where_gives : (at_end → ⊥) → (l : List (Result A E)) (s : I × P) → Gives s l → GivesUntilRefused (λ x z. z ≡ x) Step from s l
  until_refused_where_gives never [] s a = λ r t w. elim (a r t w) [ inl f ↦ absurd (never f.0) | inr is ↦ is ]
  until_refused_where_gives never (y ∷ l) s a = λ r t w. elim (a r t w) [ inl f ↦ inl f | inr k ↦ inr (same_answer_is_made y r k.0, until_refused_where_gives never l t k.1) ]

  unless_refused_where_gives : (l : List (Result A E)) (s : I × P) → Gives s l → GivesUnlessRefused Step from s l
  unless_refused_where_gives [] s a = λ r t w. elim (a r t w) [ inl f ↦ inl f.1 | inr is ↦ inr is ]
  unless_refused_where_gives (y ∷ l) s a = λ r t w. elim (a r t w) [ inl f ↦ inl f | inr k ↦ inr (k.0, unless_refused_where_gives l t k.1) ]

  first_refused : (o : Option (Result A E)) (l : List (Result A E)) (r : Answered A E) (t : I × P) → AnswersRefusal from r → at_end ⊎ IsSome o → IsFirst (cons_option o l) r t
  first_refused (Some y) l r t is some = inl is
  first_refused None [] r t is (inl may) = inl (may, is)
  first_refused None (y ∷ l) r t is (inl may) = inl is
  first_refused None l r t is (inr none) = absurd (let k = none in cc)

  -- what of a draw comes after a call with this outcome, which leaves s
  abbrev Rest : Outcome A E → I × P → Answered A E → I × P → Type 0
  Rest (Kept y) s r t = (r ≡ item y) × (t ≡ s)
  Rest LeftOut s r t = Step s r t
  Rest (Failure e) s r t = (r ≡ Err e) × (t ≡ s)
  Rest End s r t = r ≡ end

  is_first_after : (o : Option (Result A E)) (l : List (Result A E)) (s : I × P) (r : Answered A E) (t : I × P) → Rest (outcome_of o) s r t → Gives s l → IsFirst (cons_option o l) r t
  is_first_after None l s r t w a = a r t w
  is_first_after (Some (Ok y)) l s r t w a = inr (w.0, subst (λ (u : I × P). Gives u l) (sym w.1) a)
  is_first_after (Some (Err e)) l s r t w a = inr (w.0, subst (λ (u : I × P). Gives u l) (sym w.1) a)

  -- a draw from s, whose list begins with x: the call on x, and the rest
  record DrawnAt (l : List (Result A E)) (x : A) (p : P) (r : Answered A E) (t : I × P) : Type 0 where
    outcome : Outcome A E
    left : I
    holds : P
    asked : asks p x outcome holds
    given : AlwaysGives steps left l
    rest : Rest outcome (left, holds) r t

  module _ (l : List (Result A E)) (x : A) (s : I) (a : AlwaysGives steps s (Ok x ∷ l)) where
    drawn_by_call : (p h : P) (z : A) (o c : Outcome A E) (u : I) (r : Answered A E) (t : I × P) → steps s (item z) u → asks p z o h → o ≡ c → Rest c (u, h) r t → DrawnAt l x p r t
    drawn_by_call p h z o c u r t step called is rest = let w = a (Ok (Some z)) u step in let same : z ≡ x = (let k = w.0 in cc) in record { outcome = c; left = u; holds = h; asked = subst (λ (d : Outcome A E). asks p x d h) is (subst (λ (k : A). asks p k o h) same called); given = w.1; rest = rest }

    drawn_at_item : (p q : P) (r : Answered A E) (t : I) → Passes steps asks as_answered_item s p (r ∷ []) t q → DrawnAt l x p r (t, q)
    drawn_at_item p q _ t (end_passes step c) = absurd (let w = (a (Ok None) _ step).0 in cc)
    drawn_at_item p q _ t (failure_passes e step c) = absurd (let w = (a (Err e) _ step).0 in cc)
    drawn_at_item p q _ t (keeps z o y step called is done) = drawn_by_call p q z o (Kept y) t _ (t, q) step called is (refl, refl)
    drawn_at_item p q _ t (refuses z o e step called is done) = drawn_by_call p q z o (Failure e) t _ (t, q) step called is (refl, refl)
    drawn_at_item p q _ t (closes {h = h} z o step called is c) = drawn_by_call p h z o End _ _ (t, q) step called is refl
    drawn_at_item p q r t (leaves_out {u = u} {h = h} z o step called is c) = drawn_by_call p h z o LeftOut u r (t, q) step called is (pass_trace_of_passes c)

  module _ (told : (p q : P) (z : Z) (x : A) (o : Outcome A E) → At p z → asks p x o q → ToldOrRefused from at_end At (takes z x) o q) where
    gives_sieved : (l : List (Result A E)) (s : I) (p : P) (z : Z) → At p z → AlwaysGives steps s l → Gives (s, p) (sieved takes z l)
    gives_sieved [] s p z at a = λ r t w. inr (end_of_nil a (passes_of_pass_trace w))
    gives_sieved (Err d ∷ l) s p z at a = λ r t w. let k = answer_is_failure_first_in_list d l a (passes_of_pass_trace w) in inr (k.0, gives_sieved l t.0 t.1 z (subst (λ (q : P). At q z) (sym k.1) at) k.2)
    gives_sieved (Ok x ∷ l) s p z at a = λ r t w. let d = drawn_at_item l x s a p t.1 r t.0 (passes_of_pass_trace w) in elim (told p d.holds z x d.outcome at d.asked) [
      | inl k ↦ first_refused (takes z x).0 _ r t (k.0, (rw k.1 at d.rest).0, k.2) k.3
      | inr k ↦ is_first_after (takes z x).0 _ (d.left, d.holds) r t (rw k.0 at d.rest) (gives_sieved l d.left d.holds (takes z x).1 k.1 d.given)
    ]

    -- where none fails in the place of the end
    pub gives_sieved_until_refused : (at_end → ⊥) → (l : List (Result A E)) (s : I) (p : P) (z : Z) → At p z → AlwaysGives steps s l → GivesUntilRefused (λ x y. y ≡ x) Step from (s, p) (sieved takes z l)
    gives_sieved_until_refused never l s p z at a = until_refused_where_gives never (sieved takes z l) (s, p) (gives_sieved l s p z at a)

    pub gives_sieved_unless_refused : (l : List (Result A E)) (s : I) (p : P) (z : Z) → At p z → AlwaysGives steps s l → GivesUnlessRefused Step from (s, p) (sieved takes z l)
    gives_sieved_unless_refused l s p z at a = unless_refused_where_gives (sieved takes z l) (s, p) (gives_sieved l s p z at a)

-- ---- two lists joined

module _ {Z A E : Type 0} (takes : Z → A → Option (Result A E) × Z) where
  -- what came after the list
  abbrev pub came_after : Z → List (Result A E) → Z
  came_after z [] = z
  came_after z (Ok x ∷ l) = came_after (takes z x).1 l
  came_after z (Err e ∷ l) = came_after z l

  cons_option_of_joined : (o : Option (Result A E)) (l left right : List (Result A E)) → l ≡ left ++ right → cons_option o l ≡ cons_option o left ++ right
  cons_option_of_joined None l left right is = is
  cons_option_of_joined (Some y) l left right is = ap {B = List (Result A E)} (λ k. y ∷ k) is

  pub sieved_of_joined : (l r : List (Result A E)) (z : Z) → sieved takes z (l ++ r) ≡ sieved takes z l ++ sieved takes (came_after z l) r
  sieved_of_joined [] r z = refl
  sieved_of_joined (Ok x ∷ l) r z = cons_option_of_joined (takes z x).0 _ _ _ (sieved_of_joined l r (takes z x).1)
  sieved_of_joined (Err e ∷ l) r z = ap {B = List (Result A E)} (λ k. Err e ∷ k) (sieved_of_joined l r z)

-- ---- What `UniqueBy` lists, up to an allocation failure

module _ {A K S E : Type 0} (eq : K → K → Bool) (from : AllocError → E → Type 0) where
  -- what is told of an item, where the set has a key that equals k if one of those that came does
  abbrev ToldOfKeys : Option (Result A E) × List K → Outcome A E → HashSet K S → Type 0
  ToldOfKeys = ToldOrRefused from ⊥ (λ (q : HashSet K S) (keys : List K). HasSeen eq q keys)

  module _ {adds : HashSet K S → K → HashSet K S → Type 0} (may_fail : HashSet K S → K → Type 0) (more : (p q : HashSet K S) (keys : List K) (k : K) → HasSeen eq p keys → adds p k q → HasSeen eq q (k ∷ keys)) where
    told_by_member : (p q : HashSet K S) (keys : List K) (x : A) (k : K) (b : Bool) (o : Outcome A E) → HasSeen eq p keys → key_at adds may_fail from p x k b o q → ToldOfKeys (first_of_key eq keys x k b) o q
    told_by_member p q keys x k true o has w = inr (w.0, subst (λ (s : HashSet K S). HasSeen eq s keys) (sym w.1) has)
    told_by_member p q keys x k false (Kept y) has w = inr (ap (λ z. Kept z) w.0, more p q keys k has w.1)
    told_by_member p q keys x k false LeftOut has w = absurd w
    told_by_member p q keys x k false (Failure e) has w = inl (e, refl, w.0, inr refl)
    told_by_member p q keys x k false End has w = absurd w

    told_by_key : (p q : HashSet K S) (keys : List K) (x : A) (v : Result K E) (o : Outcome A E) → HasSeen eq p keys → keyed_by adds may_fail from eq p x v o q → ToldOfKeys (by_key_made eq keys x v) o q
    told_by_key p q keys x (Ok k) o has w = subst (λ (b : Bool). ToldOfKeys (first_of_key eq keys x k b) o q) (has k) (told_by_member p q keys x k (contains eq p k) o has w)
    told_by_key p q keys x (Err e) o has w = inr (w.0, subst (λ (s : HashSet K S). HasSeen eq s keys) (sym w.1) has)

module _ {A K E F : Type 0} (S : Type 0) (eq : K → K → Bool) (equivalence : IsEquivalence eq) (from : AllocError → E → Type 0) (call : F → A → Result K E → F → Type 0) (f : F) (h : A → Result K E) (acts : Acts call f h) where
  -- the closure is as it was
  abbrev pub SeenBy : HashSet K S × F → List K → Type 0
  SeenBy p keys = HasSeen eq p.0 keys × (p.1 ≡ f)

  pub told_by_closure : (p q : HashSet K S × F) (keys : List K) (x : A) (o : Outcome A E) → SeenBy p keys → key_asks eq from call p x o q → ToldOrRefused from ⊥ SeenBy (by_key_made eq keys x (h x)) o q
  told_by_closure p q keys x o at w = let d = acts x w.0 q.1 (subst (λ (g : F). call g x w.0 q.1) at.1 w.1) in elim (told_by_key eq from is_full (has_seen_more eq equivalence) p.0 q.0 keys x (h x) o at.0 (subst (λ (v : Result K E). keyed_by (adds_key eq) is_full from eq p.0 x v o q.0) d.1 w.2)) [ inl k ↦ inl k | inr k ↦ inr (k.0, (k.1, d.0)) ]

pub lists_unique_by_key : {I A K F E : Type 0} (eq : K → K → Bool) (equivalence : IsEquivalence eq) (from : AllocError → E → Type 0) (m : Contract I A E) (g : Mut F (Bor A × Unit {0}) (Result K E)) (s : UniqueBy I K F) (f : F) (h : A → Result K E) (l : List (Result A E)) → IsEmpty (unique_by_keys s) → s.keying.1 ≡ f → Acts (call_by_reference g) f h → Lists m.steps s.it l → ListsUntilRefused (λ x y. y ≡ x) (parts_as unique_by_parts (unique_by_contract eq from m g)).steps from s (unique_by_key eq h l)
unfolding unique_by_key
lists_unique_by_key eq equivalence from m g s f h l none is acts i = lists_until_refused_seen (λ x y. y ≡ x) from unique_by_parts (unique_by_contract eq from m g).steps s refl refl
    (gives_sieved_until_refused m.steps (key_asks eq from (call_by_reference g)) from ⊥ (SeenBy _ eq equivalence from (call_by_reference g) f h acts) (λ keys x. by_key_made eq keys x (h x)) (told_by_closure _ eq equivalence from (call_by_reference g) f h acts) (λ never. never) l s.it s.keying [] ((λ k. ap (list_any (eq k)) none), is) i.runs)

-- ---- What `Unique` lists, up to an allocation failure

module _ {A E : Type 0} (S : Type 0) (eq : A → A → Bool) (equivalence : IsEquivalence eq) (is_clone : A → A → Type 0) (clones : ClonesAreEqual eq is_clone) (is_infallible : A → Type 0) (from : AllocError → E → Type 0) where
  eq_of_clone_is_eq_of_original : (x copy k : A) → is_clone x copy → eq copy k ≡ eq k x
  eq_of_clone_is_eq_of_original x copy k c = sym (equivalence.congr x copy k (clones x copy c)) ∙ equivalence.symm x k

  has_seen_copy : (p q : HashSet A S) (seen : List A) (x : A) → HasSeen eq p seen → adds_clone eq is_clone is_infallible from p x q → HasSeen eq q (x ∷ seen)
  has_seen_copy p q seen x has w k = w.2.0 k ∙ ap (λ (b : Bool). cond b true (contains eq p k)) (eq_of_clone_is_eq_of_original x w.0 k w.1) ∙ ap (λ (b : Bool). cond (eq k x) true b) (has k) ∙ cond_true_is_or (eq k x) (is_member eq seen k)

pub lists_unique : {I A E : Type 0} (eq : A → A → Bool) (equivalence : IsEquivalence eq) (is_clone : A → A → Type 0) (clones : ClonesAreEqual eq is_clone) (is_infallible : A → Type 0) (from : AllocError → E → Type 0) (m : Contract I A E) (s : Unique I A E) (l : List (Result A E)) → IsEmpty (unique_seen s) → Lists m.steps s.it l → ListsUntilRefused (λ x y. y ≡ x) (parts_as unique_parts (unique_contract eq is_clone is_infallible from m)).steps from s (unique_of eq l)
unfolding unique_of unique_by_key
lists_unique eq equivalence is_clone clones is_infallible from m s l none i = lists_until_refused_seen (λ x y. y ≡ x) from unique_parts (unique_contract eq is_clone is_infallible from m).steps s refl refl
    (gives_sieved_until_refused m.steps (unique_asks eq is_clone is_infallible from) from ⊥ (λ q seen. HasSeen eq q seen) (λ seen x. by_key_made eq seen x (Ok x)) (λ p q seen x o has w. told_by_key eq from (MayFailToKeep eq is_clone is_infallible from) (has_seen_copy _ eq equivalence is_clone clones is_infallible from) p q seen x (Ok x) o has w) (λ never. never) l s.it s.seen [] (λ k. ap (list_any (eq k)) none) i.runs)

-- ---- What `Duplicates` lists, up to an allocation failure

-- ---- how many items equal one

module _ {A : Type 0} where
  pub count_cons : (p : A → Bool) (x : A) (xs : List A) (b : Bool) → p x ≡ b → count_by p (x ∷ xs) ≡ cond b 1 0 + count_by p xs
  count_cons p x xs b is = sum_by-cons (λ y. cond (p y) 1 0) x xs ∙ ap (λ (c : Bool). cond c 1 0 + count_by p xs) is

  pub count_by_is_same_where_tests_agree : (p q : A → Bool) → ((x : A) → p x ≡ q x) → (xs : List A) → count_by p xs ≡ count_by q xs
  count_by_is_same_where_tests_agree p q same [] = refl
  count_by_is_same_where_tests_agree p q same (x ∷ xs) = count_cons p x xs (q x) (same x) ∙ ap (λ (n : ℕ). cond (q x) 1 0 + n) (count_by_is_same_where_tests_agree p q same xs) ∙ sym (count_cons q x xs (q x) refl)

-- ---- what the map has

-- what it has at a key that n items equal
abbrev mark : ℕ → Option Bool
mark zero = None
mark (suc zero) = Some false
mark (suc (suc n)) = Some true

module _ {A E : Type 0} (S : Type 0) (eq : A → A → Bool) (equivalence : IsEquivalence eq) (from : AllocError → E → Type 0) where
  -- the map has what came
  abbrev HasCome : HashMap A Bool S → List A → Type 0
  HasCome m came = (k : A) → get eq m k ≡ mark (count_by (eq k) came)

  has_come_after_update : (m n : HashMap A Bool S) (x : A) (v : Bool) (came : List A) → HasCome m came → Some v ≡ mark (suc (count_by (eq x) came)) → hash.Updates eq m n x (Some v) → HasCome n (x ∷ came)
  has_come_after_update m n x v came has is updates k = updates.0 k ∙ cond_of_marks_is_mark_of_count (eq x k) refl
    where
      cond_of_marks_is_mark_of_count : (b : Bool) → eq x k ≡ b → cond b (Some v) (get eq m k) ≡ mark (count_by (eq k) (x ∷ came))
      cond_of_marks_is_mark_of_count true e = is ∙ ap mark (ap (λ (c : ℕ). suc c) (count_by_is_same_where_tests_agree (eq x) (eq k) (λ z. equivalence.congr x k z e) came) ∙ omega arith ∙ sym (count_cons (eq k) x came true (equivalence.symm k x ∙ e)))
      cond_of_marks_is_mark_of_count false e = has k ∙ ap mark (omega arith ∙ sym (count_cons (eq k) x came false (equivalence.symm k x ∙ e)))

  -- what is told of an item, where the map has what came
  abbrev ToldOfCame : Option (Result A E) × List A → Outcome A E → HashMap A Bool S → Type 0
  ToldOfCame = ToldOrRefused from ⊤ (λ (m : HashMap A Bool S) (came : List A). HasCome m came)

  told_where_so_many_equal : (m n : HashMap A Bool S) (came : List A) (x : A) (c : ℕ) (o : Outcome A E) → HasCome m came → c ≡ count_by (eq x) came → come_by eq from m x (mark c) o n → ToldOfCame (second_of_equal x (nat_eq c 1), x ∷ came) o n
  told_where_so_many_equal m n came x zero (Kept y) has is w = absurd w
  told_where_so_many_equal m n came x zero LeftOut has is w = inr (refl, has_come_after_update m n x false came has (ap (λ (c : ℕ). mark (suc c)) is) w)
  told_where_so_many_equal m n came x zero (Failure e) has is w = inl (e, refl, w.0, inl tt)
  told_where_so_many_equal m n came x zero End has is w = absurd w
  told_where_so_many_equal m n came x (suc zero) o has is w = inr (w.0, has_come_after_update m n x true came has (ap (λ (c : ℕ). mark (suc c)) is) w.1)
  told_where_so_many_equal m n came x (suc (suc c)) o has is w = rw (ne_eqb (suc (suc c)) 1 (λ e. omega (arith, e))) (inr (w.0, has_come_after_update m n x true came has (ap (λ (c : ℕ). mark (suc c)) is) w.1))

  pub told_of_come : (m n : HashMap A Bool S) (came : List A) (x : A) (o : Outcome A E) → HasCome m came → duplicates_asks eq from m x o n → ToldOfCame (second_of eq came x) o n
  told_of_come m n came x o has w = told_where_so_many_equal m n came x (count_by (eq x) came) o has refl (subst (λ (v : Option Bool). come_by eq from m x v o n) (has x) w)

pub lists_duplicates : {I A E : Type 0} (eq : A → A → Bool) (equivalence : IsEquivalence eq) (from : AllocError → E → Type 0) (m : Contract I A E) (s : Duplicates I A E) (l : List (Result A E)) → hash.IsEmpty (duplicates_came s) → Lists m.steps s.it l → ListsUnlessRefused (parts_as duplicates_parts (duplicates_contract eq from m)).steps from s (duplicates_of eq l)
unfolding duplicates_of
lists_duplicates eq equivalence from m s l none i = record {
  runs = gives_unless_refused_seen from duplicates_parts (duplicates_contract eq from m).steps (duplicates_of eq l) s
      (gives_sieved_unless_refused m.steps (duplicates_asks eq from) from ⊤ (λ n came. HasCome _ eq equivalence from n came) (second_of eq) (told_of_come _ eq equivalence from) l s.it s.came [] (λ k. ap (lookup (eq k)) none) i.runs);
}

-- ---- What `unique_by_key` is

module _ {A K E : Type 0} (eq : K → K → Bool) where
  -- Q holds of what comes of an item, and of its key: where the key came, where it didn't, and where there is none.
  by_key : (Q : Option (Result A E) × List K → Result K E → Type 0) (keys : List K) (x : A) (v : Result K E) → ((k : K) → v ≡ Ok k → is_member eq keys k ≡ true → Q (None, keys) (Ok k)) → ((k : K) → v ≡ Ok k → is_member eq keys k ≡ false → Q (Some (Ok x), k ∷ keys) (Ok k)) → ((e : E) → v ≡ Err e → Q (Some (Err e), keys) (Err e)) → Q (by_key_made eq keys x v) v
  by_key Q keys x (Err e) came first fails = fails e refl
  by_key Q keys x (Ok k) came first fails = by_member (is_member eq keys k) refl
    where
      by_member : (b : Bool) → is_member eq keys k ≡ b → Q (first_of_key eq keys x k b) (Ok k)
      by_member true is = came k refl is
      by_member false is = first k refl is

  module _ (h : A → Result K E) where
    -- what comes of a list after items with those keys
    abbrev pub From : List K → List (Result A E) → List (Result A E)
    From keys l = sieved (λ keys x. by_key_made eq keys x (h x)) keys l

    -- the keys that came after it
    abbrev pub keys_after : List K → List (Result A E) → List K
    keys_after keys l = came_after (λ keys x. by_key_made {E = E} eq keys x (h x)) keys l

    -- ---- its failures

    failures_from : (l : List (Result A E)) (keys : List K) → failures_listed (From keys l) ≡ failures_listed (mapped h l)
    unfolding mapped
    failures_from [] keys = refl
    failures_from (Ok x ∷ l) keys = by_key (λ t v. failures_listed (cons_option t.0 (From t.1 l)) ≡ failures_listed (v ∷ mapped h l)) keys x (h x) (λ k has is. failures_from l keys) (λ k has is. failures_from l (k ∷ keys)) (λ e has. ap (λ j. e ∷ j) (failures_from l keys))
    failures_from (Err e ∷ l) keys = ap (λ j. e ∷ j) (failures_from l keys)

    -- The failures of `unique_by_key` are the list's, and those of the closure in the places of their items.
    pub failures_of_unique_by : (l : List (Result A E)) → failures_listed (unique_by_key eq h l) ≡ failures_listed (mapped h l)
    unfolding unique_by_key
    failures_of_unique_by l = failures_from l []

    -- ---- what comes last

    -- `unique_by_key` makes nothing of an empty list.
    pub unique_by_of_empty_is_empty : unique_by_key eq h [] ≡ []
    unfolding unique_by_key
    unique_by_of_empty_is_empty = refl

    -- A failure at the end of the list is the last of its `unique_by_key`.
    pub unique_by_keeps_last_failure : (l : List (Result A E)) (e : E) → unique_by_key eq h (l ++ Err e ∷ []) ≡ unique_by_key eq h l ++ Err e ∷ []
    unfolding unique_by_key
    unique_by_keeps_last_failure l e = sieved_of_joined _ l (Err e ∷ []) []

    -- of a last item what its key says, after the keys that came
    unique_by_of_last_item : (l : List (Result A E)) (x : A) (v : Result K E) → h x ≡ v → unique_by_key eq h (l ++ Ok x ∷ []) ≡ unique_by_key eq h l ++ cons_option (by_key_made eq (keys_after [] l) x v).0 []
    unfolding unique_by_key
    unique_by_of_last_item l x v is = sieved_of_joined _ l (Ok x ∷ []) [] ∙ ap (λ (v : Result K E). From [] l ++ cons_option (by_key_made eq (keys_after [] l) x v).0 []) is

    -- An item at the end of the list on which the closure fails is replaced by that failure in `unique_by_key`.
    pub unique_by_keeps_last_key_failure : (l : List (Result A E)) (x : A) (e : E) → h x ≡ Err e → unique_by_key eq h (l ++ Ok x ∷ []) ≡ unique_by_key eq h l ++ Err e ∷ []
    unique_by_keeps_last_key_failure l x e is = unique_by_of_last_item l x (Err e) is

-- ---- its keys

mapped_from : {A K E : Type 0} (eq : K → K → Bool) (h : A → Result K E) (l : List (Result A E)) (keys : List K) → mapped h (From eq h keys l) ≡ From eq (λ k. Ok k) keys (mapped h l)
unfolding mapped
mapped_from eq h [] keys = refl
mapped_from {A = A} {K = K} {E = E} eq h (Ok x ∷ l) keys = by_key eq (λ t v. mapped h (cons_option t.0 (From eq h t.1 l)) ≡ From eq (λ k. Ok k) keys (v ∷ mapped h l)) keys x (h x) (λ k has is. rw is (mapped_from eq h l keys)) (λ k has is. rw (is, has) (ap (λ j. Ok k ∷ j) (mapped_from eq h l (k ∷ keys)))) (λ e has. ap (λ j. Err e ∷ j) (mapped_from eq h l keys))
mapped_from eq h (Err e ∷ l) keys = ap (λ j. Err e ∷ j) (mapped_from eq h l keys)

-- Law: The keys of the items of `unique_by_key` are those of the list's items, each that equals none before it, and the failures, in their order: what `unique_of` is of the list with the keys in the items' places.
pub keys_of_unique_by_are_unique_of_keys : {A K E : Type 0} (eq : K → K → Bool) (h : A → Result K E) (l : List (Result A E)) → mapped h (unique_by_key eq h l) ≡ unique_of eq (mapped h l)
unfolding unique_by_key unique_of
keys_of_unique_by_are_unique_of_keys eq h l = mapped_from eq h l []

-- ---- which keys came

or_false : (a : Bool) → a ≡ (a || false)
or_false true = refl
or_false false = refl

or_swaps_first_two : (a b c : Bool) → ((a || b) || c) ≡ (b || (a || c))
or_swaps_first_two true true c = refl
or_swaps_first_two true false c = refl
or_swaps_first_two false true c = refl
or_swaps_first_two false false c = refl

or_absorbs_what_implies_it : (e m t : Bool) → (e ≡ true → m ≡ true) → (m || t) ≡ (m || (e || t))
or_absorbs_what_implies_it true m t is = rw (is refl) refl
or_absorbs_what_implies_it false m t is = refl

neither_where_not_or : (a b : Bool) → (a || b) ≡ false → (a ≡ false) × (b ≡ false)
neither_where_not_or true b e = absurd cc
neither_where_not_or false b e = (refl, e)

module _ {K : Type 0} (eq : K → K → Bool) (equivalence : IsEquivalence eq) where
  -- what equals a key that came is one of those that came
  member_where_equal : (q k : K) (keys : List K) → is_member eq keys k ≡ true → eq q k ≡ true → is_member eq keys q ≡ true
  member_where_equal q k keys is e = let j = list_any_congr equivalence q k keys e in cc

  module _ {A E : Type 0} (h : A → Result K E) where
    -- what came equals a key that came before, or one of the list
    member_after_is_or : (l : List (Result A E)) (keys : List K) (q : K) → is_member eq (keys_after eq h keys l) q ≡ (is_member eq keys q || is_member eq (items_listed (mapped h l)) q)
    unfolding mapped
    member_after_is_or [] keys q = or_false (is_member eq keys q)
    member_after_is_or (Ok x ∷ l) keys q = by_key {E = E} eq (λ t v. is_member eq (keys_after eq h t.1 l) q ≡ (is_member eq keys q || is_member eq (items_listed (v ∷ mapped h l)) q)) keys x (h x) (λ k has is. member_after_is_or l keys q ∙ or_absorbs_what_implies_it (eq q k) (is_member eq keys q) _ (λ e. member_where_equal q k keys is e)) (λ k has is. member_after_is_or l (k ∷ keys) q ∙ or_swaps_first_two (eq q k) (is_member eq keys q) _) (λ e has. member_after_is_or l keys q)
    member_after_is_or (Err e ∷ l) keys q = member_after_is_or l keys q

    last_or_not : (x : A) (k : K) (keys : List K) (b c : Bool) (before : List (Result A E)) → b ≡ c → before ++ cons_option (first_of_key eq keys x k b).0 [] ≡ cond c before (before ++ Ok x ∷ [])
    last_or_not x k keys true true before is = append-nil before
    last_or_not x k keys true false before is = absurd cc
    last_or_not x k keys false true before is = absurd cc
    last_or_not x k keys false false before is = refl

    -- An item at the end of the list is the last of its `unique_by_key` if its key equals none before it, and else changes nothing.
    pub unique_by_keeps_last_item_of_new_key : (l : List (Result A E)) (x : A) (k : K) → h x ≡ Ok k → unique_by_key eq h (l ++ Ok x ∷ []) ≡ cond (is_member eq (items_listed (mapped h l)) k) (unique_by_key eq h l) (unique_by_key eq h l ++ Ok x ∷ [])
    unique_by_keeps_last_item_of_new_key l x k is = unique_by_of_last_item eq h l x (Ok k) is ∙ last_or_not x k (keys_after eq h [] l) (is_member eq (keys_after eq h [] l) k) _ (unique_by_key eq h l) (member_after_is_or l [] k)

    -- ---- what is found first

    -- one that none of the keys equals
    abbrev Unseen : List K → K → Type 0
    Unseen keys k = is_member eq keys k ≡ false

    find_is_same_past_seen_key : (q : K) (x : A) (k : K) (keys : List K) (xs : List A) (b : Bool) → eq q k ≡ b → is_member eq keys k ≡ true → Unseen keys q → find (has_key eq h q) xs ≡ cond b (Some x) (find (has_key eq h q) xs)
    find_is_same_past_seen_key q x k keys xs true e is unseen = absurd (let j = member_where_equal q k keys is e in cc)
    find_is_same_past_seen_key q x k keys xs false e is unseen = refl

    found_first_or_rest_agrees : (q : K) (x : A) (k : K) (keys : List K) (xs ys : List A) (b : Bool) → eq q k ≡ b → Unseen keys q → (Unseen (k ∷ keys) q → find (has_key eq h q) xs ≡ find (has_key eq h q) ys) → cond b (Some x) (find (has_key eq h q) xs) ≡ cond b (Some x) (find (has_key eq h q) ys)
    found_first_or_rest_agrees q x k keys xs ys true e unseen more = refl
    found_first_or_rest_agrees q x k keys xs ys false e unseen more = more (ap (λ (a : Bool). a || is_member eq keys q) e ∙ unseen)

    find_from : (l : List (Result A E)) (keys : List K) (q : K) → Unseen keys q → find (has_key eq h q) (items_listed (From eq h keys l)) ≡ find (has_key eq h q) (items_listed l)
    find_from [] keys q unseen = refl
    find_from (Ok x ∷ l) keys q unseen = by_key eq (λ t v. find (has_key eq h q) (items_listed (cons_option t.0 (From eq h t.1 l))) ≡ cond (is_key eq q v) (Some x) (find (has_key eq h q) (items_listed l))) keys x (h x) (λ k has is. find_from l keys q unseen ∙ find_is_same_past_seen_key q x k keys (items_listed l) (eq q k) refl is unseen) (λ k has is. ap (λ (v : Result K E). cond (is_key eq q v) (Some x) (find (has_key eq h q) (items_listed (From eq h (k ∷ keys) l)))) has ∙ found_first_or_rest_agrees q x k keys _ _ (eq q k) refl unseen (find_from l (k ∷ keys) q)) (λ e has. find_from l keys q unseen)
    find_from (Err e ∷ l) keys q unseen = find_from l keys q unseen

    -- The first item of the list that has any given key is still the first in `unique_by_key`.
    pub find_in_unique_by : (l : List (Result A E)) (k : K) → find (has_key eq h k) (items_listed (unique_by_key eq h l)) ≡ find (has_key eq h k) (items_listed l)
    unfolding unique_by_key
    find_in_unique_by l k = find_from l [] k refl

  -- ---- no key comes twice

  all_unseen_rest : (k : K) (keys xs : List K) → AllByRecursion (λ y. is_member eq (k ∷ keys) y ≡ false) xs → AllByRecursion (λ y. is_member eq keys y ≡ false) xs × AllByRecursion (λ y. eq k y ≡ false) xs
  all_unseen_rest k keys [] all = (tt, tt)
  all_unseen_rest k keys (y ∷ xs) all = let rest = all_unseen_rest k keys xs all.1 in let first = neither_where_not_or (eq y k) (is_member eq keys y) all.0 in ((first.1, rest.0), (equivalence.symm k y ∙ first.0, rest.1))

  module _ {E : Type 0} where
    -- what comes of keys after those
    abbrev FromKeys : List K → List (Result K E) → List (Result K E)
    FromKeys = From eq (λ k. Ok k)

    -- none of the keys equals one of the list
    abbrev AllUnseen : List K → List (Result K E) → Type 0
    AllUnseen keys l = AllByRecursion (λ k. is_member eq keys k ≡ false) (items_listed l)

    all_unseen_from : (l : List (Result K E)) (keys : List K) → AllUnseen keys (FromKeys keys l)
    all_unseen_from [] keys = tt
    all_unseen_from (Ok x ∷ l) keys = by_key eq (λ t v. AllUnseen keys (cons_option t.0 (FromKeys t.1 l))) keys x (Ok x) (λ k has is. all_unseen_from l keys) (λ k has is. ((let same : x ≡ k = (let j = has in cc) in rw same is), (all_unseen_rest k keys (items_listed (FromKeys (k ∷ keys) l)) (all_unseen_from l (k ∷ keys))).0)) (λ e has. absurd cc)
    all_unseen_from (Err e ∷ l) keys = all_unseen_from l keys

    distinct_from : (l : List (Result K E)) (keys : List K) → IsDistinct eq (items_listed (FromKeys keys l))
    unfolding IsDistinct
    distinct_from [] keys = tt
    distinct_from (Ok x ∷ l) keys = by_key eq (λ t v. IsDistinct eq (items_listed (cons_option t.0 (FromKeys t.1 l)))) keys x (Ok x) (λ k has is. distinct_from l keys) (λ k has is. ((let same : x ≡ k = (let j = has in cc) in rw same ((all_unseen_rest k keys (items_listed (FromKeys (k ∷ keys) l)) (all_unseen_from l (k ∷ keys))).1)), distinct_from l (k ∷ keys))) (λ e has. absurd cc)
    distinct_from (Err e ∷ l) keys = distinct_from l keys

    -- Law: No item of `unique_of` equals another.
    pub unique_distinct : (l : List (Result K E)) → IsDistinct eq (items_listed (unique_of eq l))
    unfolding unique_of unique_by_key
    unique_distinct l = distinct_from l []

  -- No key of an item of `unique_by_key` equals another.
  pub keys_of_unique_by_are_distinct : {A E : Type 0} (h : A → Result K E) (l : List (Result A E)) → IsDistinct eq (items_listed (mapped h (unique_by_key eq h l)))
  keys_of_unique_by_are_distinct {E = E} h l = subst (λ (k : List (Result K E)). IsDistinct eq (items_listed k)) (sym (keys_of_unique_by_are_unique_of_keys eq h l)) (unique_distinct (mapped h l))

-- ---- What `unique_of` is: what `unique_by_key` is, where an item is its own key

mapped_to_itself : {A E : Type 0} (l : List (Result A E)) → mapped (λ x. Ok x) l ≡ l
unfolding mapped
mapped_to_itself [] = refl
mapped_to_itself (Ok x ∷ l) = ap (λ k. Ok x ∷ k) (mapped_to_itself l)
mapped_to_itself (Err e ∷ l) = ap (λ k. Err e ∷ k) (mapped_to_itself l)

module _ {A E : Type 0} (eq : A → A → Bool) where
  -- The failures of `unique_of` are the list's.
  pub failures_of_unique : (l : List (Result A E)) → failures_listed (unique_of eq l) ≡ failures_listed l
  unfolding unique_of
  failures_of_unique l = failures_of_unique_by eq (λ x. Ok x) l ∙ ap failures_listed (mapped_to_itself l)

  -- A failure at the end of the list is the last of its `unique_of`.
  pub unique_failure_last : (l : List (Result A E)) (e : E) → unique_of eq (l ++ Err e ∷ []) ≡ unique_of eq l ++ Err e ∷ []
  unfolding unique_of
  unique_failure_last l e = unique_by_keeps_last_failure eq (λ x. Ok x) l e

  -- `unique_of` makes nothing of an empty list.
  pub unique_of_empty_is_empty : unique_of {E = E} eq [] ≡ []
  unfolding unique_of
  unique_of_empty_is_empty = unique_by_of_empty_is_empty eq (λ x. Ok x)

  module _ (equivalence : IsEquivalence eq) where
    -- The first item of the list that equals any given one is still the first in `unique_of`.
    pub find_in_unique : (l : List (Result A E)) (q : A) → find (eq q) (items_listed (unique_of eq l)) ≡ find (eq q) (items_listed l)
    unfolding unique_of
    find_in_unique l q = find_in_unique_by eq equivalence (λ x. Ok x) l q

    -- Law: An item at the end of the list is the last of its `unique_of` if no item before it equals it, and else changes nothing.
    pub unique_item_last : (l : List (Result A E)) (x : A) → unique_of eq (l ++ Ok x ∷ []) ≡ cond (is_member eq (items_listed l) x) (unique_of eq l) (unique_of eq l ++ Ok x ∷ [])
    unfolding unique_of
    unique_item_last l x = unique_by_keeps_last_item_of_new_key eq equivalence (λ y. Ok y) l x x refl ∙ ap (λ k. cond (is_member eq (items_listed k) x) (unique_of eq l) (unique_of eq l ++ Ok x ∷ [])) (mapped_to_itself l)

-- ---- What `duplicates_of` is

none_pass : {A : Type 0} (p : A → Bool) (xs : List A) → list_any p xs ≡ false → AllByRecursion (λ y. p y ≡ false) xs
none_pass p [] is = tt
none_pass p (x ∷ xs) is = by_first (p x) refl is (λ rest. none_pass p xs rest)
  where
    by_first : (b : Bool) → p x ≡ b → (b || list_any p xs) ≡ false → (list_any p xs ≡ false → AllByRecursion (λ y. p y ≡ false) xs) → (p x ≡ false) × AllByRecursion (λ y. p y ≡ false) xs
    by_first true e is later = absurd cc
    by_first false e is later = (e, later is)

module _ {A E : Type 0} (eq : A → A → Bool) where
  -- what comes of a list after the items that came
  abbrev DuplicatesFrom : List A → List (Result A E) → List (Result A E)
  DuplicatesFrom came l = sieved (second_of eq) came l

  count_by_of_came_after_is_sum : (p : A → Bool) (came : List A) (l : List (Result A E)) → count_by p (came_after {E = E} (second_of eq) came l) ≡ count_by p came + count_by p (items_listed l)
  count_by_of_came_after_is_sum p came [] = omega arith
  count_by_of_came_after_is_sum p came (Ok x ∷ l) = let a = count_by_of_came_after_is_sum p (x ∷ came) l in let b = count_cons p x came (p x) refl in let c = count_cons p x (items_listed l) (p x) refl in omega (arith, a, b, c)
  count_by_of_came_after_is_sum p came (Err e ∷ l) = count_by_of_came_after_is_sum p came l

  failures_of_second : (x : A) (b : Bool) (l : List (Result A E)) → failures_listed (cons_option (second_of_equal x b) l) ≡ failures_listed l
  failures_of_second x true l = refl
  failures_of_second x false l = refl

  failures_of_duplicates_from : (came : List A) (l : List (Result A E)) → failures_listed (DuplicatesFrom came l) ≡ failures_listed l
  failures_of_duplicates_from came [] = refl
  failures_of_duplicates_from came (Ok x ∷ l) = failures_of_second x _ (DuplicatesFrom (x ∷ came) l) ∙ failures_of_duplicates_from (x ∷ came) l
  failures_of_duplicates_from came (Err e ∷ l) = ap (λ k. e ∷ k) (failures_of_duplicates_from came l)

  -- The failures of `duplicates_of` are the list's.
  pub failures_of_duplicates : (l : List (Result A E)) → failures_listed (duplicates_of eq l) ≡ failures_listed l
  unfolding duplicates_of
  failures_of_duplicates l = failures_of_duplicates_from [] l

  -- `duplicates_of` makes nothing of an empty list.
  pub duplicates_of_none : duplicates_of {A = A} {E = E} eq [] ≡ []
  unfolding duplicates_of
  duplicates_of_none = refl

  -- A failure at the end of the list is the last of its `duplicates_of`.
  pub duplicates_failure_last : (l : List (Result A E)) (e : E) → duplicates_of eq (l ++ Err e ∷ []) ≡ duplicates_of eq l ++ Err e ∷ []
  unfolding duplicates_of
  duplicates_failure_last l e = sieved_of_joined (second_of eq) l (Err e ∷ []) []

  last_duplicate_or_not : (x : A) (b c : Bool) (before : List (Result A E)) → b ≡ c → before ++ cons_option (second_of_equal x b) [] ≡ cond c (before ++ Ok x ∷ []) before
  last_duplicate_or_not x true true before is = refl
  last_duplicate_or_not x true false before is = absurd cc
  last_duplicate_or_not x false true before is = absurd cc
  last_duplicate_or_not x false false before is = append-nil before

  -- An item at the end of the list is the last of its `duplicates_of` if exactly one before it equals it, and else changes nothing.
  pub duplicates_item_last : (l : List (Result A E)) (x : A) → duplicates_of eq (l ++ Ok x ∷ []) ≡ cond (nat_eq (count_by (eq x) (items_listed l)) 1) (duplicates_of eq l ++ Ok x ∷ []) (duplicates_of eq l)
  unfolding duplicates_of
  duplicates_item_last l x = sieved_of_joined (second_of eq) l (Ok x ∷ []) [] ∙ last_duplicate_or_not x _ _ (DuplicatesFrom [] l) (ap (λ (n : ℕ). nat_eq n 1) (count_by_of_came_after_is_sum (eq x) [] l ∙ omega arith))

module _ {A E : Type 0} (eq : A → A → Bool) (equivalence : IsEquivalence eq) where
  -- ---- which items are listed

  -- one equal to q is listed exactly if q came at most once and comes twice or more
  abbrev IsListed : A → List A → List (Result A E) → List (Result A E) → Type 0
  IsListed q came l made = Decides (is_member eq (items_listed made) q) ((count_by (eq q) came ≤ 1) × (2 ≤ count_by (eq q) came + count_by (eq q) (items_listed l)))

  is_listed_of_second_of_equal : (q x : A) (came : List A) (l made : List (Result A E)) (e b : Bool) → eq q x ≡ e → nat_eq (count_by (eq x) came) 1 ≡ b → IsListed q (x ∷ came) l made → IsListed q came (Ok x ∷ l) (cons_option (second_of_equal x b) made)
  is_listed_of_second_of_equal q x came l made false b differs second d = is_listed_of_second_where_unequal b
    where
      same_before : count_by (eq q) (x ∷ came) ≡ count_by (eq q) came
      same_before = count_cons (eq q) x came false differs ∙ omega arith

      count_by_is_same_after_unequal_item : count_by (eq q) (x ∷ items_listed l) ≡ count_by (eq q) (items_listed l)
      count_by_is_same_after_unequal_item = count_cons (eq q) x (items_listed l) false differs ∙ omega arith

      of_rest : IsListed q came (Ok x ∷ l) made
      of_rest = ((λ is. let w = d.0 is in (omega (arith, w.0, same_before), omega (arith, w.1, same_before, count_by_is_same_after_unequal_item))), (λ w. d.1 (omega (arith, w.0, same_before), omega (arith, w.1, same_before, count_by_is_same_after_unequal_item))))

      is_listed_of_second_where_unequal : (c : Bool) → IsListed q came (Ok x ∷ l) (cons_option (second_of_equal x c) made)
      is_listed_of_second_where_unequal true = subst (λ (e : Bool). Decides (e || is_member eq (items_listed made) q) ((count_by (eq q) came ≤ 1) × (2 ≤ count_by (eq q) came + count_by (eq q) (x ∷ items_listed l)))) (sym differs) of_rest
      is_listed_of_second_where_unequal false = of_rest
  is_listed_of_second_of_equal q x came l made true true same second d = ((λ is. (omega (arith, alike, one), omega (arith, alike, one, count_cons (eq q) x (items_listed l) true same))), (λ w. rw same refl))
    where
      alike : count_by (eq q) came ≡ count_by (eq x) came
      alike = count_by_is_same_where_tests_agree (eq q) (eq x) (λ z. equivalence.congr q x z same) came

      one : count_by (eq x) came ≡ 1
      one = eqb-true (count_by (eq x) came) 1 second
  is_listed_of_second_of_equal q x came l made true false same second d = ((λ is. let w = d.0 is in (omega (arith, w.0, before), omega (arith, w.1, before, after))), (λ w. d.1 (at_most_one (count_by (eq q) came) alike w.0, omega (arith, w.1, before, after))))
    where
      alike : count_by (eq q) came ≡ count_by (eq x) came
      alike = count_by_is_same_where_tests_agree (eq q) (eq x) (λ z. equivalence.congr q x z same) came

      before : count_by (eq q) (x ∷ came) ≡ 1 + count_by (eq q) came
      before = count_cons (eq q) x came true same

      after : count_by (eq q) (x ∷ items_listed l) ≡ 1 + count_by (eq q) (items_listed l)
      after = count_cons (eq q) x (items_listed l) true same

      count_by_is_never_one : count_by (eq x) came ≡ 1 → ⊥
      count_by_is_never_one is = let w = sym second ∙ eq-eqb (count_by (eq x) came) 1 is in cc

      at_most_one : (n : ℕ) → n ≡ count_by (eq x) came → count_by (eq q) came ≤ 1 → count_by (eq q) (x ∷ came) ≤ 1
      at_most_one zero is h = omega (arith, is, alike, before)
      at_most_one (suc n) is h = absurd (count_by_is_never_one (omega (arith, is, alike, h)))

  is_listed_of_duplicates_from : (q : A) (came : List A) (l : List (Result A E)) → IsListed q came l (DuplicatesFrom eq came l)
  is_listed_of_duplicates_from q came [] = ((λ is. absurd cc), (λ w. absurd (omega (arith, w.0, w.1))))
  is_listed_of_duplicates_from q came (Ok x ∷ l) = is_listed_of_second_of_equal q x came l (DuplicatesFrom eq (x ∷ came) l) (eq q x) (nat_eq (count_by (eq x) came) 1) refl refl (is_listed_of_duplicates_from q (x ∷ came) l)
  is_listed_of_duplicates_from q came (Err e ∷ l) = is_listed_of_duplicates_from q came l

  -- Law: An item is in `duplicates_of` exactly if two items of the list or more equal it.
  pub listed_where_twice : (l : List (Result A E)) (q : A) → Decides (is_member eq (items_listed (duplicates_of eq l)) q) (2 ≤ count_by (eq q) (items_listed l))
  unfolding duplicates_of
  listed_where_twice l q = let d = is_listed_of_duplicates_from q [] l in ((λ is. omega (arith, (d.0 is).1)), (λ h. d.1 (omega arith, omega (arith, h))))

  -- ---- no item is listed twice

  not_member_of_duplicates_where_come_once : (x : A) (came : List A) (l : List (Result A E)) (b : Bool) → count_by (eq x) came ≡ 1 → is_member eq (items_listed (DuplicatesFrom eq (x ∷ came) l)) x ≡ b → b ≡ false
  not_member_of_duplicates_where_come_once x came l true is member = let w = (is_listed_of_duplicates_from x (x ∷ came) l).0 member in absurd (omega (arith, w.0, is, count_cons (eq x) x came true (equivalence.refl x)))
  not_member_of_duplicates_where_come_once x came l false is member = refl

  is_distinct_of_second_of_equal : (x : A) (came : List A) (l : List (Result A E)) (b : Bool) → nat_eq (count_by (eq x) came) 1 ≡ b → IsDistinct eq (items_listed (DuplicatesFrom eq (x ∷ came) l)) → IsDistinct eq (items_listed (cons_option (second_of_equal x b) (DuplicatesFrom eq (x ∷ came) l)))
  unfolding IsDistinct
  is_distinct_of_second_of_equal x came l true is d = (none_pass (eq x) (items_listed (DuplicatesFrom eq (x ∷ came) l)) (not_member_of_duplicates_where_come_once x came l _ (eqb-true (count_by (eq x) came) 1 is) refl), d)
  is_distinct_of_second_of_equal x came l false is d = d

  distinct_duplicates_from : (came : List A) (l : List (Result A E)) → IsDistinct eq (items_listed (DuplicatesFrom eq came l))
  unfolding IsDistinct
  distinct_duplicates_from came [] = tt
  distinct_duplicates_from came (Ok x ∷ l) = is_distinct_of_second_of_equal x came l (nat_eq (count_by (eq x) came) 1) refl (distinct_duplicates_from (x ∷ came) l)
  distinct_duplicates_from came (Err e ∷ l) = distinct_duplicates_from came l

  -- Law: No item of `duplicates_of` equals another.
  pub duplicates_distinct : (l : List (Result A E)) → IsDistinct eq (items_listed (duplicates_of eq l))
  unfolding duplicates_of
  duplicates_distinct l = distinct_duplicates_from [] l
