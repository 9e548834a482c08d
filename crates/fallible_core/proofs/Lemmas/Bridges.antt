-- What the std iterators over a fallible iterator read is what it lists.
use Rattle.std.specs.Prelude.{◌≡◌, List, [], ◌∷◌, ◌++◌, map, length, Option, Some, None, Result, Ok, Err}
use Rattle.std.specs.Option.{option_transpose}
use Rattle.std.specs.Iterator.{Yields, MakesProgress}
use Rattle.std.specs.Iterator.Runs.{EachRunFrom, ItemsAre}
use Rattle.std.proofs.Common.{refl, sym, ap, subst, ◌∙◌}
use Rattle.std.proofs.iter.runs.Made.{took}
use Rattle.std.proofs.iter.runs.Sources.{lists, as_is}
use Rattle.std.specs.Result.{IsOk}
use Rattle.fallible_contract.specs.Contract.{Contract, Lawful, NeverFails}
use Rattle.fallible_contract.specs.Traces.{Answered}
use Rattle.fallible_contract.specs.Lists.{AlwaysGives, Lists, result_answer, items}
use Rattle.fallible_core.specs.Bridges.Unwrap.{unwrapped}

map_identity : {A : Type 0} (l : List A) → map (λ y. y) l ≡ l
map_identity [] = refl
map_identity (x ∷ l) = ap {B = List _} (λ k. x ∷ k) (map_identity l)

-- Values V are seen as those of a fallible iterator. What std's `next` returned is `unwrapped_answer` of it, and `shown` is what it returns of a list.
module _ {V S A E Z : Type 0} (view : V → S) (steps : S → Answered A E → S → Type 0) (unwrapped_answer : Option Z → Answered A E) (shown : List (Result A E) → List Z) (nothing : shown [] ≡ [])
    (element : (o : Option Z) (y : Result A E) (l : List (Result A E)) → unwrapped_answer o ≡ result_answer y → (z : Z) × (o ≡ Some z) × (shown (y ∷ l) ≡ z ∷ shown l)) (none : (o : Option Z) → unwrapped_answer o ≡ Ok None → o ≡ None) where
  abbrev gives_transposed : V → Option Z → V → Type 0
  gives_transposed s o t = steps (view s) (unwrapped_answer o) (view t)

  -- what calls returned is the front of what is shown, and what is left lists the rest
  always_gives_rest_after : (l : List (Result A E)) (xs : List Z) (s t : V) → AlwaysGives steps (view s) l → Yields gives_transposed s xs t → (more : List (Result A E)) × (shown l ≡ xs ++ shown more) × AlwaysGives steps (view t) more
  always_gives_rest_after l [] s t g y = (l, refl, subst (λ (u : V). AlwaysGives steps (view u) l) y g)
  always_gives_rest_after [] (x ∷ xs) s t g y = absurd (let e = none (Some x) (g (unwrapped_answer (Some x)) (view y.0) y.1) in cc)
  always_gives_rest_after (r ∷ l) (x ∷ xs) s t g y =
      let d = g (unwrapped_answer (Some x)) (view y.0) y.1 in
      let first = element (Some x) r l d.0 in
      let is : Some x ≡ Some first.0 = first.1 in
      let shows : shown (r ∷ l) ≡ first.0 ∷ shown l = first.2 in
      let k = always_gives_rest_after l xs y.0 t d.1 y.2 in
      let cut : shown l ≡ xs ++ shown k.0 = k.1 in
      (k.0, cc, k.2)

  -- std's none comes only where nothing is left
  length_is_zero_at_end : (more : List (Result A E)) (t u : V) → AlwaysGives steps (view t) more → gives_transposed t None u → length (shown more) ≡ 0
  length_is_zero_at_end [] t u g y = ap length nothing
  length_is_zero_at_end (r ∷ more) t u g y = absurd (let d = g (unwrapped_answer None) (view u) y in let first = element None r more d.0 in let is : None ≡ Some first.0 = first.1 in cc)

  pub each_run_reads_shown : (l : List (Result A E)) (s : V) → Lists steps (view s) l → EachRunFrom gives_transposed s (λ p. ItemsAre p (shown l))
  each_run_reads_shown l s i p _ e =
      let t = took p in
      let k = always_gives_rest_after l p.items p.from t.0 (subst (λ (u : V). AlwaysGives steps (view u) l) (sym e) i.runs) t.1 in
      as_is p (shown l) (lists p (λ y. y) (shown l) (shown k.0) (λ w. length_is_zero_at_end k.0 t.0 (t.2 w).0 k.2 (t.2 w).1) (k.1 ∙ ap (λ j. j ++ shown k.0) (sym (map_identity p.items))))

-- ---- `Iterator`

module _ {A E : Type 0} where
  option_is_some_of_first_element : (o : Option (Result A E)) (y : Result A E) (l : List (Result A E)) → option_transpose o ≡ result_answer y → (z : Result A E) × (o ≡ Some z) × (y ∷ l ≡ z ∷ l)
  option_is_some_of_first_element None (Ok x) l e = absurd cc
  option_is_some_of_first_element None (Err d) l e = absurd cc
  option_is_some_of_first_element (Some (Ok z)) (Ok x) l e = (Ok x, cc, refl)
  option_is_some_of_first_element (Some (Ok z)) (Err d) l e = absurd cc
  option_is_some_of_first_element (Some (Err z)) (Ok x) l e = absurd cc
  option_is_some_of_first_element (Some (Err z)) (Err d) l e = (Err d, cc, refl)

  option_is_none_at_end : (o : Option (Result A E)) → option_transpose o ≡ Ok None → o ≡ None
  option_is_none_at_end None e = refl
  option_is_none_at_end (Some (Ok z)) e = absurd cc
  option_is_none_at_end (Some (Err z)) e = absurd cc

module _ {V S A E : Type 0} (view : V → S) (steps : S → Answered A E → S → Type 0) where
  pub each_run_reads_list : (l : List (Result A E)) (s : V) → Lists steps (view s) l → EachRunFrom (λ s o t. steps (view s) (option_transpose o) (view t)) s (λ p. ItemsAre p l)
  each_run_reads_list l s i = each_run_reads_shown view steps option_transpose (λ k. k) refl option_is_some_of_first_element option_is_none_at_end l s i

-- ---- `Unwrap`

module _ {S A E : Type 0} (m : Contract S A E) where
  -- what can never fail did not fail now
  pub is_ok_where_sure : (s t : S) (r : Answered A E) → NeverFails m s → m.steps s r t → IsOk r
  is_ok_where_sure s t (Ok o) sure step = refl
  is_ok_where_sure s t (Err e) sure step = absurd (sure [] s t e refl step)

  -- and can't fail after a draw
  never_fails_after : (s t : S) (r : Answered A E) → NeverFails m s → m.steps s r t → NeverFails m t
  never_fails_after s t r sure step trace u v e ran fails = sure (r ∷ trace) u v e (t, step, ran) fails

  -- a draw of what can never fail is a call of std's `next` as std requires it to be
  pub makes_progress_where_sure : {V : Type 0} (view : V → S) → Lawful m → (s t : V) (o : Option A) → m.can_next (view s) → NeverFails m (view s) → m.steps (view s) (Ok o) (view t) → MakesProgress {S = V} {A = A} (λ v. m.can_next (view v) × NeverFails m (view v)) (λ v. m.remaining (view v)) s o t
  makes_progress_where_sure view l s t (Some x) c sure step =
      let g = l.kept_by_draw (view s) (Ok (Some x)) (view t) c step in
      let later : m.can_next (view t) × NeverFails m (view t) = (g.can_next, never_fails_after (view s) (view t) (Ok (Some x)) sure step) in
      record { on = λ f. let less = g.answer.2 f in (later, less.0, less.1); keeps = later; rests = λ f. tt }
  makes_progress_where_sure view l s t None c sure step = record { on = λ f. tt; keeps = tt; rests = λ f. ((l.kept_by_draw (view s) (Ok None) (view t) c step).answer.1 f).0 }

module _ {A E : Type 0} where
  -- an item, or none, is an answer
  abbrev unwrapped_answer : Option A → Answered A E
  unwrapped_answer o = Ok o

  option_is_some_of_first_unwrapped : (o : Option A) (y : Result A E) (l : List (Result A E)) → unwrapped_answer o ≡ result_answer y → (z : A) × (o ≡ Some z) × (unwrapped (y ∷ l) ≡ z ∷ unwrapped l)
  unfolding unwrapped
  option_is_some_of_first_unwrapped o (Ok x) l e = (x, cc, refl)
  option_is_some_of_first_unwrapped o (Err d) l e = absurd cc

  none_of_unwrapped_end : (o : Option A) → unwrapped_answer o ≡ Ok None → o ≡ None
  none_of_unwrapped_end o e = cc

-- of items alone nothing is left out
pub unwrapped_items : {A : Type 0} (E : Type 0) (l : List A) → unwrapped (items {E = E} l) ≡ l
unfolding items unwrapped
unwrapped_items E [] = refl
unwrapped_items E (x ∷ l) = ap {B = List _} (λ t. x ∷ t) (unwrapped_items E l)

unwrapped_of_nil_is_nil : (A E : Type 0) → unwrapped {A = A} {E = E} [] ≡ []
unfolding unwrapped
unwrapped_of_nil_is_nil A E = refl

module _ {V S A E : Type 0} (view : V → S) (steps : S → Answered A E → S → Type 0) where
  pub each_run_reads_unwrapped : (l : List (Result A E)) (s : V) → Lists steps (view s) l → EachRunFrom (λ s o t. steps (view s) (Ok o) (view t)) s (λ p. ItemsAre p (unwrapped l))
  each_run_reads_unwrapped l s i = each_run_reads_shown view steps unwrapped_answer unwrapped (unwrapped_of_nil_is_nil A E) option_is_some_of_first_unwrapped none_of_unwrapped_end l s i
