-- What a call leaves of a source whose answers are listed, where it drew no end.
use Rattle.std.specs.Prelude.{◌≡◌, ℕ, ◌+◌, ◌-◌, zero, suc, length, Bool, true, false, not, is_some, Option, Some, None, Result, Ok, Err, List, [], ◌∷◌, ◌++◌, map, ⊤}
use Rattle.std.specs.List.{FoldsTo}
use Rattle.std.proofs.Common.{refl, sym, ap, subst, ◌∙◌, arith}
use Rattle.fallible_contract.specs.Traces.{Answered, Run, item}
use Rattle.fallible_contract.specs.Folds.{NthDrains, NthExit, went_on_with, FoldExit, FoldDrains}
use Rattle.fallible_contract.specs.Lists.{AlwaysGives, Lists, Acts, ActsWith, nth_of, rest_first, rest_nth, stopped_or, rest_answer, rest_stop, rest_true, rest_false, rest_value, rest_failed, rest_fold}
use Rattle.fallible_contract.specs.Searching.{WentOn, SearchDecides, SearchExit, SearchDrains, all_pick, any_pick, find_map_pick, find_pick, position_pick}

module _ {S A E : Type 0} (steps : S → Answered A E → S → Type 0) where
  -- the list at the last answer that was drawn, and what is yielded after it, where that is no end
  abbrev GivesAfter : S → Answered A E → List (Result A E) → Type 0
  GivesAfter t (Ok (Some x)) l = (rest : List (Result A E)) × (l ≡ Ok x ∷ rest) × AlwaysGives steps t rest
  GivesAfter t (Ok None) l = ⊤
  GivesAfter t (Err e) l = (rest : List (Result A E)) × (l ≡ Err e ∷ rest) × AlwaysGives steps t rest

  gives_after_last : (last : Answered A E) (l : List (Result A E)) (s t : S) → AlwaysGives steps s l → steps s last t → GivesAfter t last l
  gives_after_last (Ok None) l s t a w = tt
  gives_after_last (Ok (Some x)) [] s t a w = absurd (let h = a (Ok (Some x)) t w in cc)
  gives_after_last (Err e) [] s t a w = absurd (let h = a (Err e) t w in cc)
  gives_after_last (Ok (Some x)) (Ok y ∷ l) s t a w = let h = a (Ok (Some x)) t w in (l, (let q = h.0 in cc), h.1)
  gives_after_last (Ok (Some x)) (Err y ∷ l) s t a w = absurd (let h = (a (Ok (Some x)) t w).0 in cc)
  gives_after_last (Err e) (Ok y ∷ l) s t a w = absurd (let h = (a (Err e) t w).0 in cc)
  gives_after_last (Err e) (Err y ∷ l) s t a w = let h = a (Err e) t w in (l, (let q = h.0 in cc), h.1)

  -- the list is the items that were drawn, and what was left at the last answer
  record DrawnThen (items : List A) (last : Answered A E) (l : List (Result A E)) (t : S) : Type 0 where
    rest : List (Result A E)
    list_is : l ≡ map (λ x. Ok x) items ++ rest
    given : GivesAfter t last rest

  run_is_drawn_then : (items : List A) (last : Answered A E) (l : List (Result A E)) (s t : S) → AlwaysGives steps s l → Run steps s (map item items ++ last ∷ []) t → DrawnThen items last l t
  run_is_drawn_then [] last l s t a ran = record { rest = l; list_is = refl; given = gives_after_last last l s t a (subst (λ (u : S). steps s last u) ran.2 ran.1) }
  run_is_drawn_then (x ∷ items) last [] s t a ran = absurd (let h = a (Ok (Some x)) ran.0 ran.1 in cc)
  run_is_drawn_then (x ∷ items) last (Err y ∷ l) s t a ran = absurd (let h = (a (Ok (Some x)) ran.0 ran.1).0 in cc)
  run_is_drawn_then (x ∷ items) last (Ok y ∷ l) s t a ran = let h = a (Ok (Some x)) ran.0 ran.1 in let d = run_is_drawn_then items last l ran.0 t h.1 ran.2 in
      record { rest = d.rest; list_is = (let same : y ≡ x = (let q = h.0 in cc) in let is = d.list_is in cc); given = d.given }

-- ---- one draw

pub answer_of_lists_is_nth_of_zero : {S A E : Type 0} {steps : S → Answered A E → S → Type 0} {s : S} {r : Answered A E} (t : S) (l : List (Result A E)) → steps s r t → Lists steps s l → r ≡ nth_of 0 l
unfolding nth_of
answer_of_lists_is_nth_of_zero {r = r} t [] step i = i.runs r t step
answer_of_lists_is_nth_of_zero {r = r} t (Ok x ∷ l) step i = (i.runs r t step).0
answer_of_lists_is_nth_of_zero {r = r} t (Err e ∷ l) step i = (i.runs r t step).0

pub lists_rest_first : {S A E : Type 0} {steps : S → Answered A E → S → Type 0} {s t : S} {r : Answered A E} (l : List (Result A E)) → steps s r t → Lists steps s l → ¬ (r ≡ Ok None) → Lists steps t (rest_first l)
unfolding rest_first
lists_rest_first {t = t} {r = r} [] step i no_end = absurd (no_end (i.runs r t step))
lists_rest_first {t = t} {r = r} (y ∷ l) step i no_end = record { runs = (i.runs r t step).1 }

-- ---- nth

module _ {S A E : Type 0} (steps : S → Answered A E → S → Type 0) where
  rest_nth_after_items : (items : List A) (rest : List (Result A E)) (n k : ℕ) → n ≡ length items + k → rest_nth n (map (λ x. Ok x) items ++ rest) ≡ rest_nth k rest
  unfolding rest_nth
  rest_nth_after_items [] rest n k e = ap (λ (j : ℕ). rest_nth j rest) (omega (arith, e))
  rest_nth_after_items (x ∷ items) rest zero k e = absurd (omega (arith, e))
  rest_nth_after_items (x ∷ items) rest (suc n) k e = rest_nth_after_items items rest n k (omega (arith, e))

  rest_nth_of_failure_first_is_rest : (n : ℕ) (e : E) (l : List (Result A E)) → rest_nth n (Err e ∷ l) ≡ l
  unfolding rest_nth
  rest_nth_of_failure_first_is_rest zero e l = refl
  rest_nth_of_failure_first_is_rest (suc n) e l = refl

  gives_rest_nth : (n skipped : ℕ) (r : Answered A E) (rest : List (Result A E)) (t : S) → NthExit n skipped r → ¬ (r ≡ Ok None) → GivesAfter steps t r rest → (k : ℕ) × (n ≡ skipped + k) × AlwaysGives steps t (rest_nth k rest)
  unfolding rest_nth
  gives_rest_nth n skipped (Ok (Some x)) rest t exit no_end given = (0, omega (arith, exit), subst (λ (l : List (Result A E)). AlwaysGives steps t (rest_nth 0 l)) (sym given.1) given.2)
  gives_rest_nth n skipped (Ok None) rest t exit no_end given = absurd (no_end refl)
  gives_rest_nth n skipped (Err e) rest t exit no_end given = (n - skipped, omega (arith, exit), subst (λ (l : List (Result A E)). AlwaysGives steps t l) (sym (ap (rest_nth (n - skipped)) given.1 ∙ rest_nth_of_failure_first_is_rest (n - skipped) e given.0)) given.2)

pub lists_rest_nth : {S A E : Type 0} {steps : S → Answered A E → S → Type 0} {s t : S} {n : ℕ} {r : Answered A E} (l : List (Result A E)) → NthDrains steps s n r t → Lists steps s l → ¬ (r ≡ Ok None) → Lists steps t (rest_nth n l)
lists_rest_nth {steps = steps} {s = s} {t = t} {n = n} {r = r} l c i no_end =
    let d = run_is_drawn_then steps c.items r l s t i.runs (subst (λ (q : Answered _ _). Run steps s (map item c.items ++ q ∷ []) t) c.at.is c.ran) in
    let k = gives_rest_nth steps n (length c.items) r d.rest t c.at.exit no_end d.given in
    record { runs = subst (λ (m : _). AlwaysGives steps t m) (sym (ap (rest_nth n) d.list_is ∙ rest_nth_after_items steps c.items d.rest n k.0 k.1)) k.2 }

-- ---- searches

module _ {A E F V R : Type 0} (call : F → A → Result V E → F → Type 0) (pick : ℕ → A → V → Option R) (none : R) (stops : V → Bool) (fits : (n : ℕ) (x : A) (v : V) → is_some (pick n x v) ≡ stops v) (h : A → Result V E) (f : F) (acts : Acts call f h) where
  -- it went on over the items, and the closure stayed as it is
  rest_stop_after_items : (items : List A) (rest : List (Result A E)) (g : F) → FoldsTo (WentOn call pick) f items g → (g ≡ f) × (rest_stop stops h (map (λ x. Ok x) items ++ rest) ≡ rest_stop stops h rest)
  unfolding rest_stop
  rest_stop_after_items [] rest g went = (sym went, refl)
  rest_stop_after_items (x ∷ items) rest g went =
      let v = (went.1).0 in
      let a = acts x (Ok v) went.0 (went.1).1 in
      let others : FoldsTo (WentOn call pick) f items g = subst (λ (k : F). FoldsTo (WentOn call pick) k items g) a.0 went.2 in
      let d = rest_stop_after_items items rest g others in
      let all : List (Result A E) = map (λ y. Ok y) items ++ rest in
      (d.0, ap (λ (w : Result V E). rest_answer stops w all (rest_stop stops h all)) (sym a.1) ∙ ap (λ (b : Bool). stopped_or b all (rest_stop stops h all)) (sym (fits 0 x v) ∙ ap is_some ((went.1).2 0)) ∙ d.1)

  rest_stop_item : (n : ℕ) (x : A) (r : Result R E) (g : F) (l : List (Result A E)) → SearchDecides call pick n f x r g → rest_stop stops h (Ok x ∷ l) ≡ l
  unfolding rest_stop
  rest_stop_item n x (Ok z) g l d = let a = acts x (Ok d.0) g d.1 in ap (λ (w : Result V E). rest_answer stops w l (rest_stop stops h l)) (sym a.1) ∙ ap (λ (b : Bool). stopped_or b l (rest_stop stops h l)) (sym (fits n x d.0) ∙ ap is_some d.2)
  rest_stop_item n x (Err e) g l d = let a = acts x (Err e) g d in ap (λ (w : Result V E). rest_answer stops w l (rest_stop stops h l)) (sym a.1)

  rest_stop_of_failure_first_is_rest : (e : E) (l : List (Result A E)) → rest_stop stops h (Err e ∷ l) ≡ l
  unfolding rest_stop
  rest_stop_of_failure_first_is_rest e l = refl

  module _ {S : Type 0} (steps : S → Answered A E → S → Type 0) where
    always_gives_rest_stop : (last : Answered A E) (n : ℕ) (r : Result R E) (g : F) (rest : List (Result A E)) (t : S) → SearchExit call pick none n f last r g → ¬ (r ≡ Ok none) → GivesAfter steps t last rest → AlwaysGives steps t (rest_stop stops h rest)
    always_gives_rest_stop (Ok None) n r g rest t exit no_end given = absurd (no_end exit.0)
    always_gives_rest_stop (Err e) n r g rest t exit no_end given = subst (λ (l : List (Result A E)). AlwaysGives steps t l) (sym (ap (rest_stop stops h) given.1 ∙ rest_stop_of_failure_first_is_rest e given.0)) given.2
    always_gives_rest_stop (Ok (Some x)) n r g rest t exit no_end given = subst (λ (l : List (Result A E)). AlwaysGives steps t l) (sym (ap (rest_stop stops h) given.1 ∙ rest_stop_item n x r g given.0 exit)) given.2

    lists_rest_stop : {s t : S} {g : F} {r : Result R E} (l : List (Result A E)) → SearchDrains call pick steps none s f r t g → Lists steps s l → ¬ (r ≡ Ok none) → Lists steps t (rest_stop stops h l)
    lists_rest_stop {s = s} {t = t} {g = g} {r = r} l c i no_end =
        let d = run_is_drawn_then steps c.items c.last l s t i.runs c.ran in
        let p = rest_stop_after_items c.items d.rest c.at.closure c.at.went in
        let given = always_gives_rest_stop c.last (length c.items) r g d.rest t (subst (λ (k : F). SearchExit call pick none (length c.items) k c.last r g) p.0 c.at.exit) no_end d.given in
        record { runs = subst (λ (m : List (Result A E)). AlwaysGives steps t m) (sym (ap (rest_stop stops h) d.list_is ∙ p.1)) given }

-- each search stops at what it picks
is_some_of_all_pick_is_not_answer : {A : Type 0} (n : ℕ) (x : A) (v : Bool) → is_some (all_pick n x v) ≡ not v
is_some_of_all_pick_is_not_answer n x true = refl
is_some_of_all_pick_is_not_answer n x false = refl

pub is_some_of_any_pick_is_answer : {A : Type 0} (n : ℕ) (x : A) (v : Bool) → is_some (any_pick n x v) ≡ v
is_some_of_any_pick_is_answer n x true = refl
is_some_of_any_pick_is_answer n x false = refl

pub is_some_of_find_pick_is_answer : {A : Type 0} (n : ℕ) (x : A) (v : Bool) → is_some (find_pick n x v) ≡ v
is_some_of_find_pick_is_answer n x true = refl
is_some_of_find_pick_is_answer n x false = refl

is_some_of_find_map_pick_is_of_answer : {A B : Type 0} (n : ℕ) (x : A) (v : Option B) → is_some (find_map_pick n x v) ≡ is_some v
is_some_of_find_map_pick_is_of_answer n x (Some y) = refl
is_some_of_find_map_pick_is_of_answer n x None = refl

pub is_some_of_position_pick_is_answer : {A : Type 0} (n : ℕ) (x : A) (v : Bool) → is_some (position_pick n x v) ≡ v
is_some_of_position_pick_is_answer n x true = refl
is_some_of_position_pick_is_answer n x false = refl

module _ {S A E F : Type 0} {steps : S → Answered A E → S → Type 0} {s t : S} {f g : F} (l : List (Result A E)) (i : Lists steps s l) where
  pub lists_rest_all : {call : F → A → Result Bool E → F → Type 0} (h : A → Result Bool E) {r : Result Bool E} → Acts call f h → SearchDrains call all_pick steps true s f r t g → ¬ (r ≡ Ok true) → Lists steps t (rest_false h l)
  unfolding rest_false
  lists_rest_all {call = call} h acts d no_end = lists_rest_stop call all_pick true not is_some_of_all_pick_is_not_answer h f acts steps l d i no_end

  pub lists_rest_any : {call : F → A → Result Bool E → F → Type 0} (h : A → Result Bool E) {r : Result Bool E} → Acts call f h → SearchDrains call any_pick steps false s f r t g → ¬ (r ≡ Ok false) → Lists steps t (rest_true h l)
  unfolding rest_true
  lists_rest_any {call = call} h acts d no_end = lists_rest_stop call any_pick false (λ v. v) is_some_of_any_pick_is_answer h f acts steps l d i no_end

  pub lists_rest_find : {call : F → A → Result Bool E → F → Type 0} (h : A → Result Bool E) {r : Result (Option A) E} → Acts call f h → SearchDrains call find_pick steps None s f r t g → ¬ (r ≡ Ok None) → Lists steps t (rest_true h l)
  unfolding rest_true
  lists_rest_find {call = call} h acts d no_end = lists_rest_stop call find_pick None (λ v. v) is_some_of_find_pick_is_answer h f acts steps l d i no_end

  pub lists_rest_find_map : {B : Type 0} {call : F → A → Result (Option B) E → F → Type 0} (h : A → Result (Option B) E) {r : Result (Option B) E} → Acts call f h → SearchDrains call find_map_pick steps None s f r t g → ¬ (r ≡ Ok None) → Lists steps t (rest_value h l)
  unfolding rest_value
  lists_rest_find_map {call = call} h acts d no_end = lists_rest_stop call find_map_pick None is_some is_some_of_find_map_pick_is_of_answer h f acts steps l d i no_end

  pub lists_rest_place : {call : F → A → Result Bool E → F → Type 0} (h : A → Result Bool E) {r : Result (Option ℕ) E} → Acts call f h → SearchDrains call position_pick steps None s f r t g → ¬ (r ≡ Ok None) → Lists steps t (rest_true h l)
  unfolding rest_true
  lists_rest_place {call = call} h acts d no_end = lists_rest_stop call position_pick None (λ v. v) is_some_of_position_pick_is_answer h f acts steps l d i no_end

-- ---- try_fold

module _ {A E F B E' : Type 0} (call : F → B → A → Result B E' → F → Type 0) (from : E → E' → Type 0) (h : B → A → Result B E') (f : F) (acts : ActsWith call f h) where
  pub rest_fold_after_items : (items : List A) (rest : List (Result A E)) (b v : B) (g : F) → FoldsTo {P = B × F} (went_on_with call) (b, f) items (v, g) → (g ≡ f) × (rest_fold h b (map (λ x. Ok x) items ++ rest) ≡ rest_fold h v rest)
  unfolding rest_fold
  rest_fold_after_items [] rest b v g went = (sym (ap (λ p. p.1) went), ap (λ p. rest_fold h p.0 rest) went)
  rest_fold_after_items (x ∷ items) rest b v g went =
      let a = acts b x (Ok (went.0).0) (went.0).1 went.1 in
      let others : FoldsTo {P = B × F} (went_on_with call) ((went.0).0, f) items (v, g) = subst (λ (k : F). FoldsTo {P = B × F} (went_on_with call) ((went.0).0, k) items (v, g)) a.0 went.2 in
      let d = rest_fold_after_items items rest (went.0).0 v g others in
      let all : List (Result A E) = map (λ y. Ok y) items ++ rest in
      (d.0, ap (λ (w : Result B E'). rest_failed w all (λ c. rest_fold h c all)) (sym a.1) ∙ d.1)

  pub rest_fold_of_failure_first_is_rest : (b : B) (e : E) (l : List (Result A E)) → rest_fold h b (Err e ∷ l) ≡ l
  unfolding rest_fold
  rest_fold_of_failure_first_is_rest b e l = refl

  pub rest_fold_where_call_fails_is_rest : (b : B) (x : A) (e : E') (g : F) (l : List (Result A E)) → call f b x (Err e) g → rest_fold h b (Ok x ∷ l) ≡ l
  unfolding rest_fold
  rest_fold_where_call_fails_is_rest b x e g l called = ap (λ (w : Result B E'). rest_failed w l (λ c. rest_fold h c l)) (sym (acts b x (Err e) g called).1)

  module _ {S : Type 0} (steps : S → Answered A E → S → Type 0) where
    always_gives_rest_fold : (last : Answered A E) (v : B) (d : E') (rest : List (Result A E)) (t : S) → FoldExit call from v f last (Err d) → GivesAfter steps t last rest → AlwaysGives steps t (rest_fold h v rest)
    always_gives_rest_fold (Ok None) v d rest t exit given = absurd cc
    always_gives_rest_fold (Err e) v d rest t exit given = subst (λ (l : List (Result A E)). AlwaysGives steps t l) (sym (ap (rest_fold h v) given.1 ∙ rest_fold_of_failure_first_is_rest v e given.0)) given.2
    always_gives_rest_fold (Ok (Some x)) v d rest t exit given = subst (λ (l : List (Result A E)). AlwaysGives steps t l) (sym (ap (rest_fold h v) given.1 ∙ rest_fold_where_call_fails_is_rest v x exit.1 exit.0 given.0 exit.2)) given.2

    pub lists_rest_fold : {s t : S} {b : B} {r : Result B E'} (l : List (Result A E)) → FoldDrains steps call from s b f r t → Lists steps s l → (d : E') → r ≡ Err d → Lists steps t (rest_fold h b l)
    lists_rest_fold {s = s} {t = t} {b = b} {r = r} l c i e is =
        let d = run_is_drawn_then steps c.items c.last l s t i.runs c.ran in
        let p = rest_fold_after_items c.items d.rest b c.at.value c.at.closure c.at.went in
        let exit = subst (λ (q : Result B E'). FoldExit call from c.at.value f c.last q) is (subst (λ (g : F). FoldExit call from c.at.value g c.last r) p.0 c.at.exit) in
        record { runs = subst (λ (m : List (Result A E)). AlwaysGives steps t m) (sym (ap (rest_fold h b) d.list_is ∙ p.1)) (always_gives_rest_fold c.last c.at.value e d.rest t exit d.given) }
