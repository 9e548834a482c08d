-- What an adapter that lets items pass lists, from what its source lists.
use Rattle.std.specs.Prelude.{◌≡◌, Result, Some, None, Ok, Err, List, [], ◌∷◌}
use Rattle.std.proofs.Common.{refl, sym, ap, subst, ◌∙◌}
use Rattle.fallible_contract.specs.Traces.{Answered, end}
use Rattle.fallible_contract.specs.Passing.{passing_step}
use Rattle.fallible_contract.specs.Laws.Passing.{Passes, done, end_passes, failure_passes, keeps, refuses, closes, leaves_out, passes_of_pass_trace, pass_trace_of_passes}
use Rattle.fallible_contract.specs.Lists.{AlwaysGives, Lists, Acts}
use Rattle.fallible_contract.specs.declared.passing.Outcome.{Outcome}
use Rattle.fallible_contract.specs.declared.passing.Outcome.TheVariants.{Kept, LeftOut, Failure, End}

-- where each draw from s is one from a state that yields the list, s yields it
module _ {S A E : Type 0} (steps : S → Answered A E → S → Type 0) where
  pub always_gives_by_each_step : (l : List (Result A E)) (s : S) → ((r : Answered A E) (t : S) → steps s r t → (u : S) × steps u r t × AlwaysGives steps u l) → AlwaysGives steps s l
  always_gives_by_each_step [] s f = λ r t w. let d = f r t w in d.2 r t d.1
  always_gives_by_each_step (y ∷ l) s f = λ r t w. let d = f r t w in d.2 r t d.1

-- a value whose answers are those of its parts lists what they list
pub always_gives_seen : {V P A E : Type 0} (view : V → P) (steps : P → Answered A E → P → Type 0) (l : List (Result A E)) (s : V) → AlwaysGives steps (view s) l → AlwaysGives (λ u r v. steps (view u) r (view v)) s l
always_gives_seen view steps [] s a = λ r t w. a r (view t) w
always_gives_seen view steps (y ∷ l) s a = λ r t w. let d = a r (view t) w in (d.0, always_gives_seen view steps l t d.1)

-- the same, where parts and list are known by other names
pub lists_seen : {V P A E : Type 0} (view : V → P) (steps : P → Answered A E → P → Type 0) (s : V) {p : P} {l k : List (Result A E)} → view s ≡ p → l ≡ k → AlwaysGives steps p l → Lists (λ u r v. steps (view u) r (view v)) s k
lists_seen {A = A} {E = E} view steps s {p = p} {l = l} {k = k} at same a = record { runs = always_gives_seen view steps k s (subst (λ (q : _). AlwaysGives steps q k) (sym at) (subst (λ (j : List (Result A E)). AlwaysGives steps p j) same a)) }

-- what an outcome puts before the rest of the list
abbrev pub by_outcome : {B E : Type 0} → Outcome B E → List (Result B E) → List (Result B E)
by_outcome (Kept y) rest = Ok y ∷ rest
by_outcome LeftOut rest = rest
by_outcome (Failure e) rest = Err e ∷ rest
by_outcome End rest = []

module _ {P X R B E : Type 0} (outcome : X → R → Outcome B E) (answers : P → X → R) (next : P → X → P) where
  -- the list of an adapter whose closure is at p: called on x it returns `answers p x`, and is then at `next p x`
  abbrev pub passed : P → List (Result X E) → List (Result B E)
  passed p [] = []
  passed p (Ok x ∷ l) = by_outcome (outcome x (answers p x)) (passed (next p x) l)
  passed p (Err e ∷ l) = Err e ∷ passed p l

module _ {S F X R B E : Type 0} {steps : S → Answered X E → S → Type 0} {call : F → X → R → F → Type 0} {outcome : X → R → Outcome B E} where
  -- what one draw yields, where the source's list is empty
  pub end_of_nil : {s t : S} {f g : F} {r : Answered B E} → AlwaysGives {A = X} steps s [] → Passes steps call outcome s f (r ∷ []) t g → r ≡ end
  end_of_nil a (end_passes step c) = refl
  end_of_nil a (failure_passes e step c) = absurd (let w = a (Err e) _ step in cc)
  end_of_nil a (keeps x v y step called is c) = absurd (let w = a (Ok (Some x)) _ step in cc)
  end_of_nil a (refuses x v e step called is c) = absurd (let w = a (Ok (Some x)) _ step in cc)
  end_of_nil a (closes x v step called is c) = absurd (let w = a (Ok (Some x)) _ step in cc)
  end_of_nil a (leaves_out x v step called is c) = absurd (let w = a (Ok (Some x)) _ step in cc)

  -- what one draw yields and leaves, where the source's list begins with a failure
  pub answer_is_failure_first_in_list : {s t : S} {f g : F} {r : Answered B E} (d : E) (l : List (Result X E)) → AlwaysGives steps s (Err d ∷ l) → Passes steps call outcome s f (r ∷ []) t g → (r ≡ Err d) × (g ≡ f) × AlwaysGives steps t l
  answer_is_failure_first_in_list d l a (end_passes step c) = absurd (let w = (a (Ok None) _ step).0 in cc)
  answer_is_failure_first_in_list d l a (failure_passes {u = u} e step done) = let w = a (Err e) u step in ((let q = w.0 in cc), refl, w.1)
  answer_is_failure_first_in_list d l a (keeps x v y step called is c) = absurd (let w = (a (Ok (Some x)) _ step).0 in cc)
  answer_is_failure_first_in_list d l a (refuses x v e step called is c) = absurd (let w = (a (Ok (Some x)) _ step).0 in cc)
  answer_is_failure_first_in_list d l a (closes x v step called is c) = absurd (let w = (a (Ok (Some x)) _ step).0 in cc)
  answer_is_failure_first_in_list d l a (leaves_out x v step called is c) = absurd (let w = (a (Ok (Some x)) _ step).0 in cc)

module _ {S F P X R B E : Type 0} (steps : S → Answered X E → S → Type 0) (call : F → X → R → F → Type 0) (outcome : X → R → Outcome B E)
    (At : F → P → Type 0) (answers : P → X → R) (next : P → X → P) (acts : (f : F) (p : P) (x : X) (v : R) (g : F) → At f p → call f x v g → At g (next p x) × (v ≡ answers p x)) where
  abbrev GivesPassed : S → F → List (Result B E) → Type 0
  GivesPassed s f l = AlwaysGives (passing_step steps call outcome) (s, f) l

  -- one draw at a failure of the source's list
  answer_is_failure_and_rest_given : (d : E) (l : List (Result X E)) (rest : List (Result B E)) {s : S} {f : F} → ((u : S) → AlwaysGives steps u l → GivesPassed u f rest) → AlwaysGives steps s (Err d ∷ l)
      → {r : Answered B E} {t : S} {g : F} → Passes steps call outcome s f (r ∷ []) t g → (r ≡ Err d) × GivesPassed t g rest
  answer_is_failure_and_rest_given d l rest then a {t = t} q = let w = answer_is_failure_first_in_list d l a q in (w.0, subst (λ (k : F). GivesPassed t k rest) (sym w.1) (then t w.2))

  -- what is known of a call at an item of the source's list
  record CalledAs (l : List (Result X E)) (p : P) (x z : X) (v : R) (o : Outcome B E) (u : S) (g : F) : Type 0 where
    outcome_is : outcome z v ≡ o
    at : At g (next p x)
    others : AlwaysGives steps u l

  -- one draw where an item is the first of the source's list
  module _ (l : List (Result X E)) (x : X) (s : S) (f : F) (p : P) (at : At f p) (a : AlwaysGives steps s (Ok x ∷ l)) where
    called_as_at_first_item : (o : Outcome B E) → outcome x (answers p x) ≡ o → (z : X) (v : R) (u : S) (g : F) → steps s (Ok (Some z)) u → call f z v g → CalledAs l p x z v o u g
    called_as_at_first_item o is z v u g step called = let h = a (Ok (Some z)) u step in let same : z ≡ x = (let q = h.0 in cc) in
        let c = acts f p z v g at called in record {
          outcome_is = ap (λ (w : R). outcome z w) c.1 ∙ ap (λ (y : X). outcome y (answers p y)) same ∙ is;
          at = subst (λ (y : X). At g (next p y)) same c.0;
          others = h.1;
        }

    answer_is_kept_and_rest_given : (rest : List (Result B E)) (y : B) → outcome x (answers p x) ≡ Kept y
        → ((u : S) (g : F) → At g (next p x) → AlwaysGives steps u l → GivesPassed u g rest) → (r : Answered B E) (t : S) (g : F) → Passes steps call outcome s f (r ∷ []) t g → (r ≡ Ok (Some y)) × GivesPassed t g rest
    answer_is_kept_and_rest_given rest y is then _ t g (end_passes step c) = absurd (let h = (a (Ok None) _ step).0 in cc)
    answer_is_kept_and_rest_given rest y is then _ t g (failure_passes e step c) = absurd (let h = (a (Err e) _ step).0 in cc)
    answer_is_kept_and_rest_given rest y is then _ t g (keeps z v w step called out done) = let k = called_as_at_first_item (Kept y) is z v t g step called in ((let q = sym out ∙ k.outcome_is in cc), then t g k.at k.others)
    answer_is_kept_and_rest_given rest y is then _ t g (refuses z v e step called out c) = absurd (let q = sym out ∙ (called_as_at_first_item (Kept y) is z v _ _ step called).outcome_is in cc)
    answer_is_kept_and_rest_given rest y is then _ t g (closes z v step called out c) = absurd (let q = sym out ∙ (called_as_at_first_item (Kept y) is z v _ _ step called).outcome_is in cc)
    answer_is_kept_and_rest_given rest y is then r t g (leaves_out z v step called out c) = absurd (let q = sym out ∙ (called_as_at_first_item (Kept y) is z v _ _ step called).outcome_is in cc)

    answer_is_failed_and_rest_given : (rest : List (Result B E)) (d : E) → outcome x (answers p x) ≡ Failure d
        → ((u : S) (g : F) → At g (next p x) → AlwaysGives steps u l → GivesPassed u g rest) → (r : Answered B E) (t : S) (g : F) → Passes steps call outcome s f (r ∷ []) t g → (r ≡ Err d) × GivesPassed t g rest
    answer_is_failed_and_rest_given rest d is then _ t g (end_passes step c) = absurd (let h = (a (Ok None) _ step).0 in cc)
    answer_is_failed_and_rest_given rest d is then _ t g (failure_passes e step c) = absurd (let h = (a (Err e) _ step).0 in cc)
    answer_is_failed_and_rest_given rest d is then _ t g (keeps z v w step called out c) = absurd (let q = sym out ∙ (called_as_at_first_item (Failure d) is z v _ _ step called).outcome_is in cc)
    answer_is_failed_and_rest_given rest d is then _ t g (refuses z v e step called out done) = let k = called_as_at_first_item (Failure d) is z v t g step called in ((let q = sym out ∙ k.outcome_is in cc), then t g k.at k.others)
    answer_is_failed_and_rest_given rest d is then _ t g (closes z v step called out c) = absurd (let q = sym out ∙ (called_as_at_first_item (Failure d) is z v _ _ step called).outcome_is in cc)
    answer_is_failed_and_rest_given rest d is then r t g (leaves_out z v step called out c) = absurd (let q = sym out ∙ (called_as_at_first_item (Failure d) is z v _ _ step called).outcome_is in cc)

    end_given : outcome x (answers p x) ≡ End → (r : Answered B E) (t : S) (g : F) → Passes steps call outcome s f (r ∷ []) t g → r ≡ Ok None
    end_given is _ t g (end_passes step c) = refl
    end_given is _ t g (failure_passes e step c) = absurd (let h = (a (Err e) _ step).0 in cc)
    end_given is _ t g (keeps z v w step called out c) = absurd (let q = sym out ∙ (called_as_at_first_item End is z v _ _ step called).outcome_is in cc)
    end_given is _ t g (refuses z v e step called out c) = absurd (let q = sym out ∙ (called_as_at_first_item End is z v _ _ step called).outcome_is in cc)
    end_given is _ t g (closes z v step called out c) = refl
    end_given is r t g (leaves_out z v step called out c) = absurd (let q = sym out ∙ (called_as_at_first_item End is z v _ _ step called).outcome_is in cc)

    -- a state from which the draw is made once the item is left out
    draw_after_left_out : (rest : List (Result B E)) → outcome x (answers p x) ≡ LeftOut
        → ((u : S) (g : F) → At g (next p x) → AlwaysGives steps u l → GivesPassed u g rest) → (r : Answered B E) (t : S) (g : F) → Passes steps call outcome s f (r ∷ []) t g
        → (q : S × F) × passing_step steps call outcome q r (t, g) × AlwaysGives (passing_step steps call outcome) q rest
    draw_after_left_out rest is then _ t g (end_passes step c) = absurd (let h = (a (Ok None) _ step).0 in cc)
    draw_after_left_out rest is then _ t g (failure_passes e step c) = absurd (let h = (a (Err e) _ step).0 in cc)
    draw_after_left_out rest is then _ t g (keeps z v w step called out c) = absurd (let q = sym out ∙ (called_as_at_first_item LeftOut is z v _ _ step called).outcome_is in cc)
    draw_after_left_out rest is then _ t g (refuses z v e step called out c) = absurd (let q = sym out ∙ (called_as_at_first_item LeftOut is z v _ _ step called).outcome_is in cc)
    draw_after_left_out rest is then _ t g (closes z v step called out c) = absurd (let q = sym out ∙ (called_as_at_first_item LeftOut is z v _ _ step called).outcome_is in cc)
    draw_after_left_out rest is then r t g (leaves_out {u = u} {h = h} z v step called out c) = let k = called_as_at_first_item LeftOut is z v u h step called in ((u, h), pass_trace_of_passes c, then u h k.at k.others)

    gives_passed_by_outcome_of_item : (rest : List (Result B E)) (o : Outcome B E) → outcome x (answers p x) ≡ o → ((u : S) (g : F) → At g (next p x) → AlwaysGives steps u l → GivesPassed u g rest) → GivesPassed s f (by_outcome o rest)
    gives_passed_by_outcome_of_item rest (Kept y) is then = λ r t w. answer_is_kept_and_rest_given rest y is then r t.0 t.1 (passes_of_pass_trace w)
    gives_passed_by_outcome_of_item rest (Failure d) is then = λ r t w. answer_is_failed_and_rest_given rest d is then r t.0 t.1 (passes_of_pass_trace w)
    gives_passed_by_outcome_of_item rest End is then = λ r t w. end_given is r t.0 t.1 (passes_of_pass_trace w)
    gives_passed_by_outcome_of_item rest LeftOut is then = always_gives_by_each_step (passing_step steps call outcome) rest (s, f) (λ r t w. draw_after_left_out rest is then r t.0 t.1 (passes_of_pass_trace w))

  pub gives_all : (l : List (Result X E)) (s : S) (f : F) (p : P) → At f p → AlwaysGives steps s l → GivesPassed s f (passed outcome answers next p l)
  gives_all [] s f p at a = λ r t w. end_of_nil a (passes_of_pass_trace w)
  gives_all (Err d ∷ l) s f p at a = λ r t w. answer_is_failure_and_rest_given d l (passed outcome answers next p l) (λ u b. gives_all l u f p at b) a (passes_of_pass_trace w)
  gives_all (Ok x ∷ l) s f p at a = gives_passed_by_outcome_of_item l x s f p at a (passed outcome answers next (next p x) l) (outcome x (answers p x)) refl (λ u g k b. gives_all l u g (next p x) k b)

-- ---- with a closure that acts as a function

module _ {F X R : Type 0} (call : F → X → R → F → Type 0) (f : F) (h : X → R) (acts : Acts call f h) where
  closure_stays_and_answers_by_function : (g : F) (p : Unit {0}) (x : X) (v : R) (k : F) → g ≡ f → call g x v k → (k ≡ f) × (v ≡ h x)
  closure_stays_and_answers_by_function g p x v k e c = acts x v k (subst (λ (z : F). call z x v k) e c)

  -- what an adapter lists whose closure is called on each item
  pub always_gives_passed : {S B E : Type 0} (steps : S → Answered X E → S → Type 0) (outcome : X → R → Outcome B E) (s : S) (l : List (Result X E)) → AlwaysGives steps s l
      → AlwaysGives (passing_step steps call outcome) (s, f) (passed outcome (λ (p : Unit {0}) x. h x) (λ p x. p) tt l)
  always_gives_passed steps outcome s l a = gives_all steps call outcome (λ g p. g ≡ f) (λ p x. h x) (λ p x. p) (closure_stays_and_answers_by_function) l s f tt refl a
