-- Loops by hand over draws: what their invariants say, and what each turn and each exit makes of it; and what each turn of a fold keeps.
use Rattle.std.specs.Prelude.{◌≡◌, ℕ, ◌≤◌, List, [], ◌∷◌, Result, Some, None, Ok, Err}
use Rattle.std.specs.List.{FoldsTo}
use Rattle.std.proofs.Common.{sym, ap, subst, ◌∙◌}
use Rattle.fallible_contract.specs.Traces.{Answered}
use Rattle.fallible_contract.specs.Contract.{Contract}
use Rattle.fallible_contract.specs.Folds.{HoldsAtEachTurn}
use Rattle.fallible_contract.specs.Lists.{AlwaysGives, Lists}

-- It may be drawn from, and some bound of it is at most the number that is counted down.
abbrev pub CountsDown : {S A E : Type 0} → Contract S A E → S → ℕ → Type 0
CountsDown m s left = m.can_next s × ((n : ℕ) × m.bound s n × (n ≤ left))

module _ {S A E B R : Type 0} where
  -- What the whole that s0 lists returns from the value b0 on is what the rest that s lists returns from b on.
  pub record AnswersFromHere (steps : S → Answered A E → S → Type 0) (answers : B → List (Result A E) → R) (s0 : S) (b0 : B) (s : S) (b : B) : Type 0 where
    pub at : (whole : List (Result A E)) → Lists steps s0 whole → (rest : List (Result A E)) × Lists steps s rest × (answers b0 whole ≡ answers b rest)

  module _ (steps : S → Answered A E → S → Type 0) (answers : B → List (Result A E) → R) (s t : S) (b : B) (r : Answered A E) (drawn : steps s r t) where
    lists_after_item : (x : A) (c : B) (v : R) (rest : List (Result A E)) → r ≡ Ok (Some x) → ((l : List (Result A E)) → answers b (Ok x ∷ l) ≡ answers c l) → AlwaysGives steps s rest → v ≡ answers b rest → (l : List (Result A E)) × Lists steps t l × (v ≡ answers c l)
    lists_after_item x c v [] is same i e = absurd (let h = i r t drawn in cc)
    lists_after_item x c v (Ok y ∷ l) is same i e = let h = i r t drawn in let at : y ≡ x = (let q = h.0 in cc) in (l, record { runs = h.1 }, e ∙ ap (λ z. answers b (Ok z ∷ l)) at ∙ same l)
    lists_after_item x c v (Err y ∷ l) is same i e = absurd (let h = (i r t drawn).0 in cc)

    answer_of_item : (x : A) (v : R) (rest : List (Result A E)) → r ≡ Ok (Some x) → ((l : List (Result A E)) → v ≡ answers b (Ok x ∷ l)) → AlwaysGives steps s rest → v ≡ answers b rest
    answer_of_item x v [] is same i = absurd (let h = i r t drawn in cc)
    answer_of_item x v (Ok y ∷ l) is same i = let at : x ≡ y = (let q = (i r t drawn).0 in cc) in same l ∙ ap (λ z. answers b (Ok z ∷ l)) at
    answer_of_item x v (Err y ∷ l) is same i = absurd (let h = (i r t drawn).0 in cc)

    answer_of_failure : (e : E) (v : R) (rest : List (Result A E)) → r ≡ Err e → ((l : List (Result A E)) → v ≡ answers b (Err e ∷ l)) → AlwaysGives steps s rest → v ≡ answers b rest
    answer_of_failure e v [] is same i = absurd (let h = i r t drawn in cc)
    answer_of_failure e v (Ok y ∷ l) is same i = absurd (let h = (i r t drawn).0 in cc)
    answer_of_failure e v (Err d ∷ l) is same i = let at : e ≡ d = (let q = (i r t drawn).0 in cc) in same l ∙ ap (λ z. answers b (Err z ∷ l)) at

    answer_of_end : (v : R) (rest : List (Result A E)) → r ≡ Ok None → v ≡ answers b [] → AlwaysGives steps s rest → v ≡ answers b rest
    answer_of_end v [] is same i = same
    answer_of_end v (Ok y ∷ l) is same i = absurd (let h = (i r t drawn).0 in cc)
    answer_of_end v (Err y ∷ l) is same i = absurd (let h = (i r t drawn).0 in cc)

  module _ {steps : S → Answered A E → S → Type 0} {answers : B → List (Result A E) → R} {s0 s t : S} {b0 b : B} {r : Answered A E} where
    -- after an item on which the loop goes on with the value c
    pub answers_after_item : (x : A) {c : B} → AnswersFromHere steps answers s0 b0 s b → steps s r t → r ≡ Ok (Some x) → ((l : List (Result A E)) → answers b (Ok x ∷ l) ≡ answers c l) → AnswersFromHere steps answers s0 b0 t c
    answers_after_item x {c = c} here drawn is same = record { at = λ whole i. let k = here.at whole i in lists_after_item steps answers s t b r drawn x c _ k.0 is same k.1.runs k.2 }

    -- at an item at which the loop is left with v
    pub answer_at_stop : (x : A) {v : R} → AnswersFromHere steps answers s0 b0 s b → steps s r t → r ≡ Ok (Some x) → ((l : List (Result A E)) → v ≡ answers b (Ok x ∷ l)) → (whole : List (Result A E)) → Lists steps s0 whole → v ≡ answers b0 whole
    answer_at_stop x {v = v} here drawn is same whole i = let k = here.at whole i in answer_of_item steps answers s t b r drawn x v k.0 is same k.1.runs ∙ sym k.2

    -- at a failure, with which the loop is left
    pub answer_at_failure : (e : E) {v : R} → AnswersFromHere steps answers s0 b0 s b → steps s r t → r ≡ Err e → ((l : List (Result A E)) → v ≡ answers b (Err e ∷ l)) → (whole : List (Result A E)) → Lists steps s0 whole → v ≡ answers b0 whole
    answer_at_failure e {v = v} here drawn is same whole i = let k = here.at whole i in answer_of_failure steps answers s t b r drawn e v k.0 is same k.1.runs ∙ sym k.2

    -- at the end
    pub answer_at_end : {v : R} → AnswersFromHere steps answers s0 b0 s b → steps s r t → r ≡ Ok None → v ≡ answers b [] → (whole : List (Result A E)) → Lists steps s0 whole → v ≡ answers b0 whole
    answer_at_end {v = v} here drawn is same whole i = let k = here.at whole i in answer_of_end steps answers s t b r drawn v k.0 is same k.1.runs ∙ sym k.2

-- ---- what each turn of a fold keeps

kept_by_turns : {A C : Type 0} {goes : C → A → C → Type 0} (kept : C → Type 0) → ((c : C) (x : A) (d : C) → goes c x d → kept c → kept d) → (items : List A) (c d : C) → FoldsTo goes c items d → kept c → kept d
kept_by_turns kept keeps [] c d went is = subst kept went is
kept_by_turns kept keeps (x ∷ items) c d went is = kept_by_turns kept keeps items went.0 d went.2 (keeps c x went.0 went.1 is)

-- If each turn keeps what is known of the state, and a turn may be taken where that is known, each may be taken.
pub holds_at_each_turn_of_kept : {S A E C : Type 0} {steps : S → Answered A E → S → Type 0} {goes : C → A → C → Type 0} {may : C → A → Type 0} (kept : C → Type 0) → ((c : C) (x : A) (d : C) → goes c x d → kept c → kept d) → ((c : C) (x : A) → kept c → may c x) → {s : S} {c : C} → kept c → HoldsAtEachTurn steps goes may s c
holds_at_each_turn_of_kept kept keeps takes {c = c} is = record { at = λ items t u d x ran went step. takes d x (kept_by_turns kept keeps items c d went is) }
