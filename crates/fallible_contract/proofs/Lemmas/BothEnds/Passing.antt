-- What an adapter that lets items pass lists from both ends, from what its source lists.
use Rattle.std.specs.Prelude.{◌≡◌, Option, Result, Some, None, Ok, Err, List, [], ◌∷◌, ◌++◌, map, reverse, All}
use Rattle.std.specs.List.{filter_map, cons_option}
use Rattle.std.proofs.Common.{refl, sym, ap, subst, ◌∙◌}
use Rattle.std.proofs.lemmas.List.{append-nil, reverse-append, map-append}
use Rattle.std.proofs.lemmas.List.Elements.{filter_map-append, All-nil, All-cons, All-head, All-tail, All-append}
use Rattle.fallible_contract.specs.Traces.{Answered, item, end}
use Rattle.fallible_contract.specs.Passing.{passing_step}
use Rattle.fallible_contract.specs.Closures.{Calls, Steady}
use Rattle.fallible_contract.specs.Laws.Passing.{Passes, done, end_passes, failure_passes, keeps, refuses, closes, leaves_out, passes_of_pass_trace}
use Rattle.fallible_contract.specs.BothEnds.{TakesFirst, ListsBothEnds, item_listed, items_listed, source_result, source_list, outcome_listed, passed_result, passed_list}
use Rattle.fallible_contract.specs.Lists.{Acts}
use Rattle.fallible_contract.proofs.Lemmas.Lists.Passing.{by_outcome, passed}
use Rattle.fallible_contract.proofs.Lemmas.BothEnds.{takes_first_front, lists_both_ends_by_swapping, lists_both_ends_swapped}
use Rattle.fallible_contract.specs.declared.passing.Outcome.{Outcome}
use Rattle.fallible_contract.specs.declared.passing.Outcome.TheVariants.{Kept, LeftOut, Failure, End}

-- ---- lists reversed

pub map-reverse : {X Y : Type 0} (h : X → Y) (xs : List X) → map h (reverse xs) ≡ reverse (map h xs)
map-reverse h [] = refl
map-reverse h (x ∷ xs) = ap (map h) (reverse-append (x ∷ []) xs) ∙ map-append h (reverse xs) (x ∷ []) ∙ ap (λ l. l ++ h x ∷ []) (map-reverse h xs) ∙ sym (reverse-append (h x ∷ []) (map h xs))

reverse_of_cons_option_is_append : {Y : Type 0} (o : Option Y) (ys : List Y) → reverse ys ++ cons_option o [] ≡ reverse (cons_option o ys)
reverse_of_cons_option_is_append None ys = append-nil (reverse ys)
reverse_of_cons_option_is_append (Some y) ys = sym (reverse-append (y ∷ []) ys)

pub filter_map-reverse : {X Y : Type 0} (h : X → Option Y) (xs : List X) → filter_map h (reverse xs) ≡ reverse (filter_map h xs)
filter_map-reverse h [] = refl
filter_map-reverse h (x ∷ xs) = ap (filter_map h) (reverse-append (x ∷ []) xs) ∙ filter_map-append h (reverse xs) (x ∷ []) ∙ ap (λ l. l ++ cons_option (h x) []) (filter_map-reverse h xs) ∙ reverse_of_cons_option_is_append (h x) (filter_map h xs)

pub All-reverse : {X : Type 0} (P : X → Type 0) (xs : List X) → All P xs → All P (reverse xs)
All-reverse P [] a = a
All-reverse P (x ∷ xs) a = subst (λ (l : List _). All P l) (sym (reverse-append (x ∷ []) xs)) (All-append P (reverse xs) (x ∷ []) (All-reverse P xs (All-tail P x xs a)) (All-cons P x [] (All-head P x xs a) (All-nil P)))

-- ---- steady closures

module _ {F X R : Type 0} (call : F → X → R → F → Type 0) where
  -- at p the closure returns for the argument of the pair the answer beside it
  abbrev pub GivesAt : F → F → X × R → Type 0
  GivesAt p q c = (r : R) → call p c.0 r q → r ≡ c.1

  -- a steady closure is steady after a call, and over fewer pairs
  pub steady_after_call : (pairs : List (X × R)) (f g : F) (x : X) (v : R) → Steady call f pairs → call f x v g → Steady call g pairs
  steady_after_call pairs f g x v steady called = λ made p q w. steady ((x, v) ∷ made) p q (g, called, w)

  pub steady_rest : (c : X × R) (pairs : List (X × R)) (f : F) → Steady call f (c ∷ pairs) → Steady call f pairs
  steady_rest c pairs f steady = λ made p q w. All-tail (GivesAt p q) c pairs (steady made p q w)

  pub answer_of_steady_call_is_paired : (c : X × R) (pairs : List (X × R)) (f g : F) (v : R) → Steady call f (c ∷ pairs) → call f c.0 v g → v ≡ c.1
  answer_of_steady_call_is_paired c pairs f g v steady called = All-head (GivesAt f g) c pairs (steady [] f g refl) v called

  pub steady_of_nil : (f : F) → Steady call f []
  steady_of_nil f = λ made p q w. All-nil (GivesAt p q)

  pub steady_reversed : (pairs : List (X × R)) (f : F) → Steady call f pairs → Steady call f (reverse pairs)
  steady_reversed pairs f steady = λ made p q w. All-reverse (GivesAt p q) pairs (steady made p q w)

-- ---- draws from the front

module _ {S F X R B E : Type 0} (front back : S → Answered X E → S → Type 0) (call : F → X → R → F → Type 0) (outcome : X → R → Outcome B E) (never_ends : (x : X) (v : R) → outcome x v ≡ End → ⊥) where
  -- what is listed of the source and its closure
  pub record ListedByCalls (p : S × F) (l : List (Result B E)) : Type 0 where
    pub asked : List (Result (X × R) E)
    pub list_is : l ≡ passed_list outcome asked
    pub listed : ListsBothEnds front back p.0 (source_list asked)
    pub steady : Steady call p.1 (items_listed asked)

  -- what is known after the closure was called on an item that was drawn
  record AskedFirst (asked : List (Result (X × R) E)) (x : X) (v : R) (u : S) (g : F) : Type 0 where
    others : List (Result (X × R) E)
    list_is : passed_list outcome asked ≡ cons_option (outcome_listed (outcome x v)) (passed_list outcome others)
    listed : ListsBothEnds front back u (source_list others)
    steady : Steady call g (items_listed others)

  asked_first_of_steady_call : (asked : List (Result (X × R) E)) (s u : S) (f g : F) (x : X) (v : R) → ListsBothEnds front back s (source_list asked) → Steady call f (items_listed asked) → front s (item x) u → call f x v g → AskedFirst asked x v u g
  asked_first_of_steady_call [] s u f g x v i k step called = absurd (let e = (takes_first_front i step).0 in cc)
  asked_first_of_steady_call (Err e ∷ asked) s u f g x v i k step called = absurd (let e = (takes_first_front i step).0 in cc)
  asked_first_of_steady_call (Ok c ∷ asked) s u f g x v i k step called =
      let h = takes_first_front i step in
      let same : x ≡ c.0 = (let e = h.0 in cc) in
      let answer = answer_of_steady_call_is_paired call c (items_listed asked) f g v k (subst (λ (z : X). call f z v g) same called) in
      record {
        others = asked;
        list_is = ap (λ (w : R). cons_option (outcome_listed (outcome c.0 w)) (passed_list outcome asked)) (sym answer) ∙ ap (λ (z : X). cons_option (outcome_listed (outcome z v)) (passed_list outcome asked)) (sym same);
        listed = h.1;
        steady = steady_after_call call (items_listed asked) f g x v (steady_rest call c (items_listed asked) f k) called;
      }

  listed_by_calls_of_passed_list : (asked : List (Result (X × R) E)) (s : S) (f : F) → ListsBothEnds front back s (source_list asked) → Steady call f (items_listed asked) → ListedByCalls (s, f) (passed_list outcome asked)
  listed_by_calls_of_passed_list asked s f i k = record { asked = asked; list_is = refl; listed = i; steady = k }

  takes_first_of_passed_at_end : (asked : List (Result (X × R) E)) (s u : S) (f : F) → ListsBothEnds front back s (source_list asked) → front s end u → TakesFirst (λ l. ListedByCalls (u, f) l) end (passed_list outcome asked)
  takes_first_of_passed_at_end [] s u f i step = (refl, listed_by_calls_of_passed_list [] u f (takes_first_front i step).1 (steady_of_nil call f))
  takes_first_of_passed_at_end (Ok c ∷ asked) s u f i step = absurd (let e = (takes_first_front i step).0 in cc)
  takes_first_of_passed_at_end (Err e ∷ asked) s u f i step = absurd (let e = (takes_first_front i step).0 in cc)

  takes_first_of_passed_at_failure : (asked : List (Result (X × R) E)) (s u : S) (f : F) (d : E) → ListsBothEnds front back s (source_list asked) → Steady call f (items_listed asked) → front s (Err d) u → TakesFirst (λ l. ListedByCalls (u, f) l) (Err d) (passed_list outcome asked)
  takes_first_of_passed_at_failure [] s u f d i k step = absurd (let e = (takes_first_front i step).0 in cc)
  takes_first_of_passed_at_failure (Ok c ∷ asked) s u f d i k step = absurd (let e = (takes_first_front i step).0 in cc)
  takes_first_of_passed_at_failure (Err e ∷ asked) s u f d i k step = let h = takes_first_front i step in let same : d ≡ e = (let q = h.0 in cc) in (ap (λ (z : E). Err z) same, listed_by_calls_of_passed_list asked u f h.1 k)

  -- the answer that an outcome is takes the first of the list
  takes_first_of_passed_by_outcome : (asked : List (Result (X × R) E)) (u : S) (g : F) (x : X) (v : R) (y : Result B E) (r : Answered B E) → AskedFirst asked x v u g → outcome_listed (outcome x v) ≡ Some y → ((k : List (Result B E)) → ListedByCalls (u, g) k → TakesFirst (λ l. ListedByCalls (u, g) l) r (y ∷ k)) → TakesFirst (λ l. ListedByCalls (u, g) l) r (passed_list outcome asked)
  takes_first_of_passed_by_outcome asked u g x v y r a is taken = subst (λ (l : List (Result B E)). TakesFirst (λ l. ListedByCalls (u, g) l) r l) (sym (a.list_is ∙ ap (λ (o : Option (Result B E)). cons_option o (passed_list outcome a.others)) is)) (taken (passed_list outcome a.others) (listed_by_calls_of_passed_list a.others u g a.listed a.steady))

  pub takes_first_of_passed : (asked : List (Result (X × R) E)) (s t : S) (f g : F) (r : Answered B E) → ListsBothEnds front back s (source_list asked) → Steady call f (items_listed asked) → Passes front call outcome s f (r ∷ []) t g → TakesFirst (λ l. ListedByCalls (t, g) l) r (passed_list outcome asked)
  takes_first_of_passed asked s t f g _ i k (end_passes step done) = takes_first_of_passed_at_end asked s t f i step
  takes_first_of_passed asked s t f g _ i k (failure_passes e step done) = takes_first_of_passed_at_failure asked s t f e i k step
  takes_first_of_passed asked s t f g _ i k (keeps x v y step called is done) = takes_first_of_passed_by_outcome asked t g x v (Ok y) (item y) (asked_first_of_steady_call asked s t f g x v i k step called) (ap outcome_listed is) (λ l h. (refl, h))
  takes_first_of_passed asked s t f g _ i k (refuses x v e step called is done) = takes_first_of_passed_by_outcome asked t g x v (Err e) (Err e) (asked_first_of_steady_call asked s t f g x v i k step called) (ap outcome_listed is) (λ l h. (refl, h))
  takes_first_of_passed asked s t f g _ i k (closes x v step called is done) = absurd (never_ends x v is)
  takes_first_of_passed asked s t f g r i k (leaves_out {u = u} {h = h} x v step called is rest) =
      let a = asked_first_of_steady_call asked s u f h x v i k step called in
      let same : passed_list outcome asked ≡ passed_list outcome a.others = a.list_is ∙ ap (λ (o : Outcome B E). cons_option (outcome_listed o) (passed_list outcome a.others)) is in
      subst (λ (l : List (Result B E)). TakesFirst (λ l. ListedByCalls (t, g) l) r l) (sym same) (takes_first_of_passed a.others u t h g r a.listed a.steady rest)

-- ---- draws from the back are draws from the front of the ends swapped

module _ {S F X R B E : Type 0} (front back : S → Answered X E → S → Type 0) (call : F → X → R → F → Type 0) (outcome : X → R → Outcome B E) (never_ends : (x : X) (v : R) → outcome x v ≡ End → ⊥) where
  abbrev SaysBoth : S × F → List (Result B E) → Type 0
  SaysBoth = ListedByCalls front back call outcome never_ends

  says_both_of_reverse : (p : S × F) (l : List (Result B E)) → ListedByCalls back front call outcome never_ends p l → SaysBoth p (reverse l)
  says_both_of_reverse p l a = record {
    asked = reverse a.asked;
    list_is = ap reverse a.list_is ∙ sym (filter_map-reverse (passed_result outcome) a.asked);
    listed = subst (λ (k : List (Result X E)). ListsBothEnds front back p.0 k) (sym (map-reverse source_result a.asked)) (lists_both_ends_swapped a.listed);
    steady = subst (λ (pairs : List (X × R)). Steady call p.1 pairs) (sym (filter_map-reverse item_listed a.asked)) (steady_reversed call (items_listed a.asked) p.1 a.steady);
  }

  takes_first_passed_front : (p : S × F) (l : List (Result B E)) → SaysBoth p l → (r : Answered B E) (q : S × F) → passing_step front call outcome p r q → TakesFirst (λ k. SaysBoth q k) r l
  takes_first_passed_front p l a r q step = subst (λ (k : List (Result B E)). TakesFirst (λ j. SaysBoth q j) r k) (sym a.list_is) (takes_first_of_passed front back call outcome never_ends a.asked p.0 q.0 p.1 q.1 r a.listed a.steady (passes_of_pass_trace step))

module _ {S F X R B E : Type 0} (front back : S → Answered X E → S → Type 0) (call : F → X → R → F → Type 0) (outcome : X → R → Outcome B E) (never_ends : (x : X) (v : R) → outcome x v ≡ End → ⊥) where
  -- The source lists what it was called on, and the closure returns the answers beside the items, in whatever state: the adapter lists what becomes of them.
  pub lists_both_ends_passed : (asked : List (Result (X × R) E)) (s : S) (f : F) → Steady call f (items_listed asked) → ListsBothEnds front back s (source_list asked) → ListsBothEnds (passing_step front call outcome) (passing_step back call outcome) (s, f) (passed_list outcome asked)
  lists_both_ends_passed asked s f steady i = lists_both_ends_by_swapping (passing_step front call outcome) (passing_step back call outcome) (ListedByCalls front back call outcome never_ends) (ListedByCalls back front call outcome never_ends) (says_both_of_reverse back front call outcome never_ends) (says_both_of_reverse front back call outcome never_ends) (takes_first_passed_front front back call outcome never_ends) (takes_first_passed_front back front call outcome never_ends) (s, f) (passed_list outcome asked) (record { asked = asked; list_is = refl; listed = i; steady = steady })

-- ---- a closure that acts as a function

-- an item beside what h makes of it
abbrev pub with_answer : {X R E : Type 0} → (X → R) → Result X E → Result (X × R) E
with_answer h (Ok x) = Ok (x, h x)
with_answer h (Err e) = Err e

pub source_list_of_with_answer_is_same : {X R E : Type 0} (h : X → R) (l : List (Result X E)) → source_list (map (with_answer h) l) ≡ l
source_list_of_with_answer_is_same h [] = refl
source_list_of_with_answer_is_same h (Ok x ∷ l) = ap {B = List (Result _ _)} (λ k. Ok x ∷ k) (source_list_of_with_answer_is_same h l)
source_list_of_with_answer_is_same h (Err e ∷ l) = ap {B = List (Result _ _)} (λ k. Err e ∷ k) (source_list_of_with_answer_is_same h l)

module _ {F X R : Type 0} (call : F → X → R → F → Type 0) (f : F) (h : X → R) (acts : Acts call f h) where
  -- calls leave it as it is
  pub closure_stays_of_calls : (made : List (X × R)) (p : F) → Calls call f made p → p ≡ f
  closure_stays_of_calls [] p w = sym w
  closure_stays_of_calls (c ∷ made) p w = closure_stays_of_calls made p (subst (λ (g : F). Calls call g made p) (acts c.0 c.1 w.0 w.1).0 w.2)

  all_give_at_closure_by_function : {E : Type 0} (q : F) (l : List (Result X E)) → All (GivesAt call f q) (items_listed (map (with_answer h) l))
  all_give_at_closure_by_function q [] = All-nil (GivesAt call f q)
  all_give_at_closure_by_function q (Ok x ∷ l) = All-cons (GivesAt call f q) (x, h x) (items_listed (map (with_answer h) l)) (λ r called. (acts x r q called).1) (all_give_at_closure_by_function q l)
  all_give_at_closure_by_function q (Err e ∷ l) = all_give_at_closure_by_function q l

  steady_with_answer : {E : Type 0} (l : List (Result X E)) → Steady call f (items_listed (map (with_answer h) l))
  steady_with_answer l = λ made p q w. subst (λ (g : F). All (GivesAt call g q) (items_listed (map (with_answer h) l))) (sym (closure_stays_of_calls made p w)) (all_give_at_closure_by_function q l)

module _ {X R B E : Type 0} (outcome : X → R → Outcome B E) (never_ends : (x : X) (v : R) → outcome x v ≡ End → ⊥) (h : X → R) where
  cons_option_of_outcome_is_by_outcome : (o : Outcome B E) → (o ≡ End → ⊥) → (l : List (Result B E)) → cons_option (outcome_listed o) l ≡ by_outcome o l
  cons_option_of_outcome_is_by_outcome (Kept y) not_end l = refl
  cons_option_of_outcome_is_by_outcome LeftOut not_end l = refl
  cons_option_of_outcome_is_by_outcome (Failure e) not_end l = refl
  cons_option_of_outcome_is_by_outcome End not_end l = absurd (not_end refl)

  -- what is listed where the answers stand beside the items, is what passes
  pub passed_list_of_with_answer_is_passed : (l : List (Result X E)) → passed_list outcome (map (with_answer h) l) ≡ passed outcome (λ (p : Unit {0}) x. h x) (λ p x. p) tt l
  passed_list_of_with_answer_is_passed [] = refl
  passed_list_of_with_answer_is_passed (Ok x ∷ l) = ap (cons_option (outcome_listed (outcome x (h x)))) (passed_list_of_with_answer_is_passed l) ∙ cons_option_of_outcome_is_by_outcome (outcome x (h x)) (never_ends x (h x)) _
  passed_list_of_with_answer_is_passed (Err e ∷ l) = ap {B = List (Result B E)} (λ k. Err e ∷ k) (passed_list_of_with_answer_is_passed l)

module _ {F X R B E : Type 0} (call : F → X → R → F → Type 0) (outcome : X → R → Outcome B E) (never_ends : (x : X) (v : R) → outcome x v ≡ End → ⊥) (f : F) (h : X → R) (acts : Acts call f h) where
  -- what an adapter lists whose closure acts as a function
  pub lists_both_ends_by_function : {S : Type 0} (front back : S → Answered X E → S → Type 0) (s : S) (l : List (Result X E)) → ListsBothEnds front back s l
      → ListsBothEnds (passing_step front call outcome) (passing_step back call outcome) (s, f) (passed outcome (λ (p : Unit {0}) x. h x) (λ p x. p) tt l)
  lists_both_ends_by_function front back s l i = subst (λ (k : List (Result B E)). ListsBothEnds (passing_step front call outcome) (passing_step back call outcome) (s, f) k) (passed_list_of_with_answer_is_passed outcome never_ends h l)
      (lists_both_ends_passed front back call outcome never_ends (map (with_answer h) l) s f (steady_with_answer call f h acts l) (subst (λ (k : List (Result X E)). ListsBothEnds front back s k) (sym (source_list_of_with_answer_is_same h l)) i))
