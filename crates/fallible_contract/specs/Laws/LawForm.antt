-- A definition over whole traces is met by runs of a step.
use Rattle.std.specs.Prelude.{◌↔◌, ◌≡◌, List, [], ◌∷◌, map}
use Rattle.std.proofs.Common.{sym, refl, ◌∙◌, ap, subst}
use Rattle.fallible_contract.specs.Traces.{Answered, Run, first_of}
use Rattle.fallible_contract.specs.LawForm.{TracesAre}

module _ {P A E : Type 0} (D : P → List (Answered A E) → P → Type 0) where
  -- what the first answer of a trace leaves, and the other answers from there
  pub record FirstOf (p : P) (r : Answered A E) (rest : List (Answered A E)) (q : P) : Type 0 where
    pub left_by_first : P
    pub first : D p (r ∷ []) left_by_first
    pub others : D left_by_first rest q

  -- A trace is its answers, one after another.
  pub record IsByAnswers : Type 0 where
    pub none : (p : P) → D p [] p
    pub same : (p q : P) → D p [] q → p ≡ q
    pub joins : (p u q : P) (r : Answered A E) (rest : List (Answered A E)) → D p (r ∷ []) u → D u rest q → D p (r ∷ rest) q
    pub splits : (p q : P) (r : Answered A E) (rest : List (Answered A E)) → D p (r ∷ rest) q → FirstOf p r rest q

-- so is one whose answers are those of such a trace under other names
pub is_by_answers_renamed : {P A B D E : Type 0} {T : P → List (Answered B D) → P → Type 0} (name : Answered A E → Answered B D) → IsByAnswers T → IsByAnswers (λ p trace q. T p (map name trace) q)
is_by_answers_renamed name by = record {
  none = by.none;
  same = by.same;
  joins = λ p u q r rest d e. by.joins p u q (name r) (map name rest) d e;
  splits = λ p q r rest d. let first = by.splits p q (name r) (map name rest) d in record { left_by_first = first.left_by_first; first = first.first; others = first.others };
}

-- A run of steps that are the definition at one answer is the definition over the whole trace.
module _ {P A E : Type 0} (D : P → List (Answered A E) → P → Type 0) (by : IsByAnswers D) where
  abbrev at_one_answer : P → Answered A E → P → Type 0
  at_one_answer p r q = D p (r ∷ []) q

  law_of_run : (trace : List (Answered A E)) (p q : P) → Run at_one_answer p trace q → D p trace q
  law_of_run [] p q e = subst (λ (z : P). D p [] z) e (by.none p)
  law_of_run (r ∷ rest) p q h = by.joins p h.0 q r rest h.1 (law_of_run rest h.0 q h.2)

  run_of_law : (trace : List (Answered A E)) (p q : P) → D p trace q → Run at_one_answer p trace q
  run_of_law [] p q d = by.same p q d
  run_of_law (r ∷ rest) p q d = let h = by.splits p q r rest d in (h.left_by_first, h.first, run_of_law rest h.left_by_first q h.others)

  pub run_at_one_answer_iff_law : (p : P) (trace : List (Answered A E)) (q : P) → Run at_one_answer p trace q ↔ D p trace q
  run_at_one_answer_iff_law p trace q = (law_of_run trace p q, run_of_law trace p q)

-- Runs of a type whose values are seen by their parts, of which each names one value, are runs over the parts.
module _ {V P A E : Type 0} (parts : V → P) (make : P → V) (made : (s : V) → make (parts s) ≡ s) (has : (p : P) → parts (make p) ≡ p) (steps : P → Answered A E → P → Type 0) where
  run_over_parts : (trace : List (Answered A E)) (s t : V) → Run (λ u r v. steps (parts u) r (parts v)) s trace t → Run steps (parts s) trace (parts t)
  run_over_parts [] s t e = ap parts e
  run_over_parts (r ∷ rest) s t h = (parts h.0, h.1, run_over_parts rest h.0 t h.2)

  run_from_parts : (trace : List (Answered A E)) (s t : V) → Run steps (parts s) trace (parts t) → Run (λ u r v. steps (parts u) r (parts v)) s trace t
  run_from_parts [] s t e = sym (made s) ∙ ap make e ∙ made t
  run_from_parts (r ∷ rest) s t h = let e = has h.0 in (make h.0, subst (λ (p : P). steps (parts s) r p) (sym e) h.1, run_from_parts rest (make h.0) t (subst (λ (p : P). Run steps p rest (parts t)) (sym e) h.2))

  -- so a law of the runs over the parts is one of the values
  pub traces_are_of_parts : (D : P → List (Answered A E) → P → Type 0) → ((p : P) (trace : List (Answered A E)) (q : P) → Run steps p trace q ↔ D p trace q) → TracesAre parts (λ u r v. steps (parts u) r (parts v)) D
  traces_are_of_parts D law s trace t = ((λ ran. (law (parts s) trace (parts t)).0 (run_over_parts trace s t ran)), (λ d. run_from_parts trace s t ((law (parts s) trace (parts t)).1 d)))

-- Runs of a type around a value, in whose place any other can stand, are runs of that value.
module _ {V P A E : Type 0} (view : V → P) (put : V → P → V) (has : (s : V) (p : P) → view (put s p) ≡ p) (steps : P → Answered A E → P → Type 0) where
  run_of_viewed : (trace : List (Answered A E)) (s t : V) → Run (λ u r v. steps (view u) r (view v)) s trace t → Run steps (view s) trace (view t)
  run_of_viewed [] s t e = ap view e
  run_of_viewed (r ∷ rest) s t h = (view h.0, h.1, run_of_viewed rest h.0 t h.2)

  run_around : (trace : List (Answered A E)) (s t : V) → (trace ≡ [] → s ≡ t) → Run steps (view s) trace (view t) → Run (λ u r v. steps (view u) r (view v)) s trace t
  run_around [] s t none ran = none refl
  run_around (r ∷ []) s t none ran = (t, subst (λ (p : P). steps (view s) r p) ran.2 ran.1, refl)
  run_around (r ∷ q ∷ rest) s t none ran = let e = has s ran.0 in (put s ran.0, subst (λ (p : P). steps (view s) r p) (sym e) ran.1, run_around (q ∷ rest) (put s ran.0) t (λ no. absurd (let h = no in cc)) (subst (λ (p : P). Run steps p (q ∷ rest) (view t)) (sym e) ran.2))

  none_leaves_itself : (trace : List (Answered A E)) (s t : V) → Run (λ u r v. steps (view u) r (view v)) s trace t → trace ≡ [] → s ≡ t
  none_leaves_itself [] s t ran none = ran
  none_leaves_itself (r ∷ rest) s t ran none = absurd (let h = none in cc)

  -- so a law of the runs of the value is one of the type
  pub traces_are_around : (D : P → List (Answered A E) → P → Type 0) → ((p : P) (trace : List (Answered A E)) (q : P) → Run steps p trace q ↔ D p trace q) → (s : V) (trace : List (Answered A E)) (t : V) → Run (λ u r v. steps (view u) r (view v)) s trace t ↔ ((trace ≡ [] → s ≡ t) × D (view s) trace (view t))
  traces_are_around D law s trace t = ((λ ran. (none_leaves_itself trace s t ran, (law (view s) trace (view t)).0 (run_of_viewed trace s t ran))), (λ d. run_around trace s t d.0 ((law (view s) trace (view t)).1 d.1)))

-- ---- what a contract's `traced` says

-- the runs are the definition
abbrev pub IsTraced : {S A E : Type 0} → (S → Answered A E → S → Type 0) → (S → List (Answered A E) → S → Type 0) → Type 0
IsTraced {S} {A} {E} steps traces = (s : S) (trace : List (Answered A E)) (t : S) → Run steps s trace t ↔ traces s trace t

-- one definition by way of another
pub iff_of_two : {A B C : Type 0} → (A ↔ B) → (B ↔ C) → A ↔ C
iff_of_two first second = ((λ a. second.0 (first.0 a)), (λ c. first.1 (second.1 c)))

pub run_of_whole_list : {A E : Type 0} → (l : List (Answered A E)) → Run first_of l l []
run_of_whole_list [] = refl
run_of_whole_list (r ∷ rest) = (rest, refl, run_of_whole_list rest)

pub list_is_trace : {A E : Type 0} → (trace l : List (Answered A E)) → Run first_of l trace [] → l ≡ trace
list_is_trace [] l e = e
list_is_trace {A} {E} (r ∷ rest) l h = h.1 ∙ ap (λ (k : List (Answered A E)). r ∷ k) (list_is_trace rest h.0 h.2)
