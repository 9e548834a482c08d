-- What the steps of a consumer make of a list.
use Rattle.std.specs.Prelude.{◌≡◌, Option, Some, None, Result, Ok, Err, List, [], ◌∷◌, ◌++◌, map}
use Rattle.std.specs.List.{FoldsTo}
use Rattle.std.proofs.Common.{refl, sym, ap, subst, ◌∙◌}
use Rattle.std.specs.declared.ops.ControlFlow.TheVariants.{Continue, Break}
use Rattle.fallible_iterator.specs.Traces.{Answered, Run, item}
use Rattle.fallible_iterator.specs.Folds.{DriveExit, Driven, goes_on}
use Rattle.fallible_iterator.specs.Lists.{Acts, AlwaysGives, Lists}
use Rattle.fallible_itertools_adapters.specs.Staging.{Plan, calls, makes}
use Rattle.fallible_itertools.specs.Stepping.{Consumes, KeptAndControlFlow, Made, StepTurns, consumed, made_by, on_flow, rest_stepped, stepped}

-- what is made where it is known what is kept
pub made_at : {A C Q V F T : Type 0} (call : F → Q → V → F → Type 0) (step : C → A → Plan Q V T) (x : A) (c d : C) (f : F) (made : T) (g : F) → c ≡ d → Made call (step d x) f made g → Made call (step c x) f made g
made_at call step x c d f made g is w = subst (λ k. Made call (step k x) f made g) (sym is) w

-- by the fold whose turns are the steps
pub consumes_by_drive : {A C F Q V R S E Z : Type 0} {call : F → Q → V → F → Type 0} {step : C → A → Plan Q V (KeptAndControlFlow R C)} {steps : S → Answered A E → S → Type 0} {finish : Answered R E → C → Z} {s t : S} {p q : C × F} {answer : Answered R E} {r : Z} → Driven steps (StepTurns call step) s p answer t q → r ≡ finish answer q.0 → Consumes call step steps finish s p.0 p.1 r t q.1
consumes_by_drive w is = record { items = w.items; last = w.last; ran = w.ran; at = record { answer = _; kept = _; folded = w.at; result = is } }

module _ {F Q V : Type 0} (call : F → Q → V → F → Type 0) (h : Q → V) (f : F) (acts : Acts call f h) where
  made_is_made_by : {T : Type 0} (plan : Plan Q V T) (made : T) (g : F) → Made call plan f made g → (g ≡ f) × (made ≡ made_by h plan)
  made_is_made_by (makes t) made g w = (w.1, w.0)
  made_is_made_by (calls q by) made g w = let d = acts q w.0 g w.1 in (d.0, w.2 ∙ ap by d.1)

  module _ {A C R S E : Type 0} (step : C → A → Plan Q V (KeptAndControlFlow R C)) (steps : S → Answered A E → S → Type 0) where
    abbrev flow : C → A → KeptAndControlFlow R C
    flow kept x = made_by h (step kept x)

    -- This is answered and kept; and what stands in the list is left, if it met no end.
    abbrev IsStepped : Answered R E → C → S → Answered R E × C × List (Result A E) → Type 0
    IsStepped answer d t p = (answer ≡ p.0) × (d ≡ p.1) × (¬ (answer ≡ Ok None) → AlwaysGives steps t p.2)

    -- one item, which the list has as y
    is_stepped_by : (x y : A) (l : List (Result A E)) (t : S) (c d : C) (answer : Answered R E) (made : KeptAndControlFlow R C) → y ≡ x → made ≡ flow c x → IsStepped answer d t (on_flow made l (λ kept. stepped flow kept l)) → IsStepped answer d t (stepped flow c (Ok y ∷ l))
    is_stepped_by x y l t c d answer made same is w = subst (λ z. IsStepped answer d t (stepped flow c (Ok z ∷ l))) (sym same) (subst (λ o. IsStepped answer d t (on_flow o l (λ kept. stepped flow kept l))) is w)

    is_stepped_at_last : (last : Answered A E) (l : List (Result A E)) (s t : S) (c d : C) (g : F) (answer : Answered R E) → AlwaysGives steps s l → steps s last t → DriveExit (StepTurns call step) (c, f) last answer (d, g) → IsStepped answer d t (stepped flow c l)
    is_stepped_at_last (Ok None) [] s t c d g answer a w exit = (exit.0, ap (λ p. p.0) exit.1, λ no_end. absurd (no_end exit.0))
    is_stepped_at_last (Ok (Some x)) [] s t c d g answer a w exit = absurd (let k = a (Ok (Some x)) t w in cc)
    is_stepped_at_last (Err e) [] s t c d g answer a w exit = absurd (let k = a (Err e) t w in cc)
    is_stepped_at_last (Ok None) (Ok y ∷ l) s t c d g answer a w exit = absurd (let k = (a (Ok None) t w).0 in cc)
    is_stepped_at_last (Ok None) (Err y ∷ l) s t c d g answer a w exit = absurd (let k = (a (Ok None) t w).0 in cc)
    is_stepped_at_last (Ok (Some x)) (Ok y ∷ l) s t c d g answer a w exit = let k = a (Ok (Some x)) t w in is_stepped_by x y l t c d answer (Break exit.0, d) (let q = k.0 in cc) (made_is_made_by (step c x) (Break exit.0, d) g exit.1).1 (exit.2, refl, λ no_end. k.1)
    is_stepped_at_last (Ok (Some x)) (Err y ∷ l) s t c d g answer a w exit = absurd (let k = (a (Ok (Some x)) t w).0 in cc)
    is_stepped_at_last (Err e) (Ok y ∷ l) s t c d g answer a w exit = absurd (let k = (a (Err e) t w).0 in cc)
    is_stepped_at_last (Err e) (Err y ∷ l) s t c d g answer a w exit = let k = a (Err e) t w in ((let q = k.0 in let r = exit.0 in cc), ap (λ p. p.0) exit.1, λ no_end. k.1)

    is_stepped : (items : List A) (last : Answered A E) (l : List (Result A E)) (s t : S) (c : C) (p : C × F) (d : C) (g : F) (answer : Answered R E) → AlwaysGives steps s l → Run steps s (map item items ++ last ∷ []) t → FoldsTo (goes_on (StepTurns call step)) (c, f) items p → DriveExit (StepTurns call step) p last answer (d, g) → IsStepped answer d t (stepped flow c l)
    is_stepped [] last l s t c p d g answer a ran went exit = is_stepped_at_last last l s t c d g answer a (subst (λ (u : S). steps s last u) ran.2 ran.1) (subst (λ (z : C × F). DriveExit (StepTurns call step) z last answer (d, g)) (sym went) exit)
    is_stepped (x ∷ items) last [] s t c p d g answer a ran went exit = absurd (let k = a (Ok (Some x)) ran.0 ran.1 in cc)
    is_stepped (x ∷ items) last (Err y ∷ l) s t c p d g answer a ran went exit = absurd (let k = (a (Ok (Some x)) ran.0 ran.1).0 in cc)
    is_stepped (x ∷ items) last (Ok y ∷ l) s t c p d g answer a ran went exit =
        let k = a (Ok (Some x)) ran.0 ran.1 in
        let m = made_is_made_by (step c x) (Continue tt, went.0.0) went.0.1 went.1 in
        is_stepped_by x y l t c d answer (Continue tt, went.0.0) (let q = k.0 in cc) m.1 (is_stepped items last l ran.0 t went.0.0 p d g answer k.1 ran.2 (subst (λ (z : F). FoldsTo (goes_on (StepTurns call step)) (went.0.0, z) items p) m.0 went.2) exit)

  module _ {A C R S E Z : Type 0} {step : C → A → Plan Q V (KeptAndControlFlow R C)} {steps : S → Answered A E → S → Type 0} {finish : Answered R E → C → Z} {s t : S} {c : C} {r : Z} {g : F} (l : List (Result A E)) (i : Lists steps s l) (w : Consumes call step steps finish s c f r t g) where
    is_stepped_of_lists : IsStepped step steps w.at.answer w.at.kept t (stepped (λ kept x. made_by h (step kept x)) c l)
    is_stepped_of_lists = is_stepped step steps w.items w.last l s t c w.at.folded.carried w.at.kept g w.at.answer i.runs w.ran w.at.folded.went w.at.folded.exit

    pub consumed_of_lists : r ≡ consumed (λ kept x. made_by h (step kept x)) finish c l
    consumed_of_lists = w.at.result ∙ ap (λ answer. finish answer w.at.kept) is_stepped_of_lists.0 ∙ ap (λ kept. finish (stepped (λ kept x. made_by h (step kept x)) c l).0 kept) is_stepped_of_lists.1

    -- where the result isn't that of an end
    pub lists_rest_stepped : ((kept : C) → ¬ (r ≡ finish (Ok None) kept)) → Lists steps t (rest_stepped (λ kept x. made_by h (step kept x)) c l)
    lists_rest_stepped no_end = record { runs = is_stepped_of_lists.2 (λ ended. no_end w.at.kept (w.at.result ∙ ap (λ answer. finish answer w.at.kept) ended)) }
