-- What `Chunks` and `ChunkBy` make of their source's answers, what they list, and what `chunked` and `chunked_by` make of a list.
use Rattle.std.specs.Prelude.{◌≡◌, ℕ, ◌+◌, ◌≤◌, ◌<◌, Bool, true, false, ltb, Option, Some, None, Result, Ok, Err, List, [], ◌∷◌, ◌++◌, length, ⊤, ◌-◌, ◌⊎◌, vec_items, cond, map, All}
use Rattle.std.specs.Borrow.{Bor}
use Rattle.std.specs.Fn.{Mut}
use Rattle.std.specs.List.{AllByRecursion, FoldsTo}
use Rattle.std.specs.declared.alloc.AllocError.{AllocError}
use Rattle.std.specs.declared.alloc.Global.{Global}
use Rattle.std.specs.declared.vec.Vec.{Vec}
use Rattle.std.proofs.Common.{refl, sym, ap, arith, append-nil, append_assoc, length-append, ◌∙◌, subst, inl, inr}
use Rattle.std.proofs.lemmas.Bool.{ltb-true, ltb-false, lt-ltb, le-ltb}
use Rattle.std.proofs.lemmas.List.Elements.{All-from_recursion, All-nil, All-push, recursion_from_All}
use Rattle.fallible_iterator.specs.BothEnds.{failures_listed, items_listed}
use Rattle.fallible_iterator.specs.Closures.{IsCallable, Reaches, call_by_reference, takes_by_reference}
use Rattle.fallible_iterator.specs.Contract.{Contract, parts_as}
use Rattle.fallible_iterator.specs.Lists.{Acts, Lists, items}
use Rattle.fallible_iterator.specs.Making.{ListsMade}
use Rattle.fallible_iterator.specs.Traces.{Answered, item}
use Rattle.fallible_iterator.specs.Laws.Closures.{reaches_by_call_first, reaches_reflexive}
use Rattle.fallible_iterator.proofs.Lemmas.Making.{lists_made_seen}
use Rattle.fallible_itertools_adapters.specs.Adjacent.{AdjacentItems, HasKey, IsGroup}
use Rattle.fallible_itertools_adapters.specs.Chunks.{BatchesOf, BatchesUpTo, Group, Grown, GrownTo, KeyedPut, MadeGroup, NoRoom, Put, PutsLastOrRefused, SameHeld, batch_at, batch_by, batches_joined, chunk_by_contract, chunk_by_parts, chunk_by_plan, chunk_by_stops, chunked, chunked_by, chunks_contract, chunks_parts, chunks_plan, chunks_stops, group_at, group_by, group_kept, held_items, held_without_item, items_of_key, put_by_key, put_last, puts, puts_by_key, takes_key, vec_count}
use Rattle.fallible_itertools_adapters.specs.Staging.{Emitted, IsTransition, MayMeet, Transition, as_function, before_stop, emitted_first, held_one, plan_can, plan_does, plan_item, plan_meets, staged, stop_comes}
use Rattle.fallible_itertools_adapters.specs.Laws.Chunks.{group_by_buffers}
use Rattle.fallible_itertools_adapters.proofs.Lemmas.Adjacent.{EachNext, HoldsOfNext, adjacent_items_of_each_next}
use Rattle.fallible_itertools_adapters.proofs.Lemmas.Staging.{HeldMade, MadeAlike, PlansAlike, RefusalAfterHeld, before_stop_made, end_before_stop, gives_made_plan, parted_by_failure, plan_can_where_callable}
use Rattle.fallible_itertools_adapters.specs.declared.chunks.ChunkBy.{ChunkBy}
use Rattle.fallible_itertools_adapters.specs.declared.chunks.Chunks.{Chunks}

-- ---- What the batches of a list are

module _ {A E : Type 0} (n : ℕ) where
  -- what `chunked n` makes of the list where this batch is held before it
  abbrev pub chunked_from : Option (List A) → List (Result A E) → List (Result (List A) E)
  chunked_from held l = staged stop_comes (plan_does (as_function (λ q. put_last q.0 q.1)) (chunks_plan length) chunks_stops) ((n, held), tt) l

  -- the same, where xs are held with the last item: too few, or a whole batch
  abbrev pub chunked_at : List A → Bool → List (Result A E) → List (Result (List A) E)
  chunked_at xs few l = emitted_first stop_comes (batch_at n xs few).0 (staged stop_comes (plan_does (as_function (λ q. put_last q.0 q.1)) (chunks_plan length) chunks_stops) ((batch_at {E = E} n xs few).1, tt) l)

module _ {A : Type 0} where
  -- the items of the batch that is held
  abbrev batch_items : Option (List A) → List A
  batch_items None = []
  batch_items (Some xs) = xs

  -- some are held, and too few
  abbrev TooFew : ℕ → Option (List A) → Type 0
  TooFew n None = ⊤
  TooFew n (Some xs) = (0 < length xs) × (length xs < n)

  length_of_put_last : (xs : List A) (x : A) → length (xs ++ x ∷ []) ≡ length xs + 1
  length_of_put_last xs x = length-append xs (x ∷ [])

module _ {A : Type 0} (E : Type 0) (n : ℕ) where
  abbrev From : Option (List A) → List (Result A E) → List (Result (List A) E)
  From held l = chunked_from n held l

  abbrev At : List A → Bool → List (Result A E) → List (Result (List A) E)
  At xs few l = chunked_at n xs few l

  -- P holds of the rest, whatever batch is held before it
  abbrev OfRest : (List (Result (List A) E) → Type 0) → List (Result A E) → Type 0
  OfRest P l = (held : Option (List A)) → TooFew n held → P (From held l)

  too_few_of_ltb : (xs : List A) → 0 < length xs → ltb (length xs) n ≡ true → TooFew n (Some xs)
  too_few_of_ltb xs some is = (some, ltb-true (length xs) n is)

  full_of_ltb : (xs : List A) → length xs ≤ n → ltb (length xs) n ≡ false → length xs ≡ n
  full_of_ltb xs up_to is = let enough : n ≤ length xs = ltb-false (length xs) n is in omega (arith, enough, up_to)

  -- ---- the items

  joined_at : (xs : List A) (few : Bool) (l : List (Result A E)) → ((held : Option (List A)) → batches_joined (items_listed (From held l)) ≡ batch_items held ++ items_listed l) → batches_joined (items_listed (At xs few l)) ≡ xs ++ items_listed l
  joined_at xs true l rest = rest (Some xs)
  joined_at xs false l rest = ap (λ (k : List A). xs ++ k) (rest None)

  joined_from : (held : Option (List A)) (l : List (Result A E)) → batches_joined (items_listed (From held l)) ≡ batch_items held ++ items_listed l
  joined_from None [] = refl
  joined_from (Some xs) [] = refl
  joined_from None (Ok x ∷ l) = joined_at (x ∷ []) (ltb 1 n) l (λ held. joined_from held l)
  joined_from (Some xs) (Ok x ∷ l) = joined_at (xs ++ x ∷ []) (ltb (length (xs ++ x ∷ [])) n) l (λ held. joined_from held l) ∙ append_assoc xs (x ∷ []) (items_listed l)
  joined_from None (Err e ∷ l) = joined_from None l
  joined_from (Some xs) (Err e ∷ l) = ap (λ (k : List A). xs ++ k) (joined_from None l)

  -- Law: The batches of a list joined are its items.
  pub batches_joined_of_chunked_is_items : (l : List (Result A E)) → batches_joined (items_listed (chunked n l)) ≡ items_listed l
  unfolding chunked
  batches_joined_of_chunked_is_items l = joined_from None l

  -- ---- the sizes

  abbrev UpTo : List (Result (List A) E) → Type 0
  UpTo l = BatchesUpTo n (items_listed l)

  up_to_at : (xs : List A) (few : Bool) (l : List (Result A E)) → ltb (length xs) n ≡ few → 0 < length xs → length xs ≤ n → OfRest UpTo l → UpTo (At xs few l)
  up_to_at xs true l is some up_to rest = rest (Some xs) (too_few_of_ltb xs some is)
  up_to_at xs false l is some up_to rest = (some, up_to, rest None tt)

  up_to_from : 0 < n → (held : Option (List A)) (l : List (Result A E)) → TooFew n held → UpTo (From held l)
  up_to_from some None [] few = tt
  up_to_from some (Some xs) [] few = (few.0, omega (arith, few.1), tt)
  up_to_from some None (Ok x ∷ l) few = up_to_at (x ∷ []) (ltb 1 n) l refl (omega arith) (omega (arith, some)) (λ held k. up_to_from some held l k)
  up_to_from some (Some xs) (Ok x ∷ l) few = let k = length_of_put_last xs x in up_to_at (xs ++ x ∷ []) (ltb (length (xs ++ x ∷ [])) n) l refl (omega (arith, k)) (omega (arith, k, few.1)) (λ held k. up_to_from some held l k)
  up_to_from some None (Err e ∷ l) few = up_to_from some None l tt
  up_to_from some (Some xs) (Err e ∷ l) few = (few.0, omega (arith, few.1), up_to_from some None l tt)

  -- Each batch has some items and at most n.
  pub batches_up_to_all_sized : (l : List (Result A E)) → 0 < n → BatchesUpTo n (items_listed (chunked n l))
  unfolding chunked
  batches_up_to_all_sized l some = up_to_from some None l tt

  -- ---- the sizes where nothing fails

  batches_of_before_whole : (xs : List A) (bs : List (List A)) → 0 < n → length xs ≡ n → BatchesOf n bs → BatchesOf n (xs ∷ bs)
  batches_of_before_whole xs [] some is rest = (omega (arith, some, is), omega (arith, is))
  batches_of_before_whole xs (c ∷ bs) some is rest = (is, rest)

  abbrev Whole : List (Result (List A) E) → Type 0
  Whole l = BatchesOf n (items_listed l)

  whole_at : (xs : List A) (few : Bool) (l : List (Result A E)) → ltb (length xs) n ≡ few → 0 < n → 0 < length xs → length xs ≤ n → OfRest Whole l → Whole (At xs few l)
  whole_at xs true l is above some up_to rest = rest (Some xs) (too_few_of_ltb xs some is)
  whole_at xs false l is above some up_to rest = batches_of_before_whole xs (items_listed (From None l)) above (full_of_ltb xs up_to is) (rest None tt)

  whole_from : 0 < n → (held : Option (List A)) (ys : List A) → TooFew n held → Whole (From held (items ys))
  unfolding items
  whole_from some None [] few = tt
  whole_from some (Some xs) [] few = (few.0, omega (arith, few.1))
  whole_from some None (x ∷ ys) few = whole_at (x ∷ []) (ltb 1 n) (items ys) refl some (omega arith) (omega (arith, some)) (λ held k. whole_from some held ys k)
  whole_from some (Some xs) (x ∷ ys) few = let k = length_of_put_last xs x in whole_at (xs ++ x ∷ []) (ltb (length (xs ++ x ∷ [])) n) (items ys) refl some (omega (arith, k)) (omega (arith, k, few.1)) (λ held k. whole_from some held ys k)

  -- If nothing fails, each batch but the last has n items.
  pub batches_of_all_whole : (ys : List A) → 0 < n → BatchesOf n (items_listed (chunked {E = E} n (items ys)))
  unfolding chunked
  batches_of_all_whole ys some = whole_from some None ys tt

  -- ---- neighbours

  -- the earlier of two batches is full
  abbrev IsFullBefore : List A → List A → Type 0
  IsFullBefore b c = length b ≡ n

  full_before_next_where_length_full : (b : List A) (l : List (Result (List A) E)) → length b ≡ n → HoldsOfNext IsFullBefore b l
  full_before_next_where_length_full b [] is = tt
  full_before_next_where_length_full b (Ok c ∷ l) is = is
  full_before_next_where_length_full b (Err e ∷ l) is = tt

  each_full_at : (xs : List A) (few : Bool) (l : List (Result A E)) → ltb (length xs) n ≡ few → 0 < length xs → length xs ≤ n → OfRest (EachNext IsFullBefore) l → EachNext IsFullBefore (At xs few l)
  each_full_at xs true l is some up_to rest = rest (Some xs) (too_few_of_ltb xs some is)
  each_full_at xs false l is some up_to rest = (full_before_next_where_length_full xs (From None l) (full_of_ltb xs up_to is), rest None tt)

  each_full_from : 0 < n → (held : Option (List A)) (l : List (Result A E)) → TooFew n held → EachNext IsFullBefore (From held l)
  each_full_from some None [] few = tt
  each_full_from some (Some xs) [] few = (tt, tt)
  each_full_from some None (Ok x ∷ l) few = each_full_at (x ∷ []) (ltb 1 n) l refl (omega arith) (omega (arith, some)) (λ held k. each_full_from some held l k)
  each_full_from some (Some xs) (Ok x ∷ l) few = let k = length_of_put_last xs x in each_full_at (xs ++ x ∷ []) (ltb (length (xs ++ x ∷ [])) n) l refl (omega (arith, k)) (omega (arith, k, few.1)) (λ held k. each_full_from some held l k)
  each_full_from some None (Err e ∷ l) few = each_full_from some None l tt
  each_full_from some (Some xs) (Err e ∷ l) few = (tt, each_full_from some None l tt)

  -- A batch that another one follows has n items.
  pub chunked_full_before_next : (l : List (Result A E)) → 0 < n → AdjacentItems IsFullBefore (chunked n l)
  unfolding chunked
  chunked_full_before_next l some = adjacent_items_of_each_next IsFullBefore (chunked n l) (each_full_from some None l tt)

  -- ---- the failures

  failures_at : (xs : List A) (few : Bool) (l : List (Result A E)) → ((held : Option (List A)) → failures_listed (From held l) ≡ failures_listed l) → failures_listed (At xs few l) ≡ failures_listed l
  failures_at xs true l rest = rest (Some xs)
  failures_at xs false l rest = rest None

  failures_from : (held : Option (List A)) (l : List (Result A E)) → failures_listed (From held l) ≡ failures_listed l
  failures_from None [] = refl
  failures_from (Some xs) [] = refl
  failures_from None (Ok x ∷ l) = failures_at (x ∷ []) (ltb 1 n) l (λ held. failures_from held l)
  failures_from (Some xs) (Ok x ∷ l) = failures_at (xs ++ x ∷ []) (ltb (length (xs ++ x ∷ [])) n) l (λ held. failures_from held l)
  failures_from None (Err e ∷ l) = ap (λ k. e ∷ k) (failures_from None l)
  failures_from (Some xs) (Err e ∷ l) = ap (λ k. e ∷ k) (failures_from None l)

  -- The failures of `chunked` are the list's.
  pub failures_of_chunked : (l : List (Result A E)) → failures_listed (chunked n l) ≡ failures_listed l
  unfolding chunked
  failures_of_chunked l = failures_from None l

  -- ---- its equations

  -- the first n items are a batch, and so are fewer at the end
  first_at : (xs : List A) (few : Bool) (l : List (Result A E)) → few ≡ false → At xs few l ≡ Ok xs ∷ From None l
  first_at xs few l is = rw is refl

  more_at : (xs : List A) (few : Bool) (l : List (Result A E)) → few ≡ true → At xs few l ≡ From (Some xs) l
  more_at xs few l is = rw is refl

  chunked_from_first : (xs ys : List A) (l : List (Result A E)) → 0 < length ys → length (xs ++ ys) ≡ n → From (Some xs) (items ys ++ l) ≡ Ok (xs ++ ys) ∷ From None l
  unfolding items
  chunked_from_first xs [] l some is = absurd (omega (arith, some))
  chunked_from_first xs (y ∷ []) l some is = first_at (xs ++ y ∷ []) (ltb (length (xs ++ y ∷ [])) n) l (le-ltb (length (xs ++ y ∷ [])) n (omega (arith, is)))
  chunked_from_first xs (y ∷ z ∷ ys) l some is = let k = length_of_put_last xs y in let j = length-append xs (y ∷ z ∷ ys) in let i : (xs ++ y ∷ []) ++ z ∷ ys ≡ xs ++ y ∷ z ∷ ys = append_assoc xs (y ∷ []) (z ∷ ys) in
      more_at (xs ++ y ∷ []) (ltb (length (xs ++ y ∷ [])) n) (items (z ∷ ys) ++ l) (lt-ltb (length (xs ++ y ∷ [])) n (omega (arith, k, j, is))) ∙ chunked_from_first (xs ++ y ∷ []) (z ∷ ys) l (omega arith) (ap length i ∙ is) ∙ ap (λ b. Ok b ∷ From None l) i

  chunked_from_short : (xs ys : List A) → length (xs ++ ys) < n → From (Some xs) (items ys) ≡ Ok (xs ++ ys) ∷ []
  unfolding items
  chunked_from_short xs [] few = ap (λ b. Ok b ∷ []) (sym (append-nil xs))
  chunked_from_short xs (y ∷ ys) few = let k = length_of_put_last xs y in let j = length-append xs (y ∷ ys) in let i : (xs ++ y ∷ []) ++ ys ≡ xs ++ y ∷ ys = append_assoc xs (y ∷ []) ys in
      more_at (xs ++ y ∷ []) (ltb (length (xs ++ y ∷ [])) n) (items ys) (lt-ltb (length (xs ++ y ∷ [])) n (omega (arith, k, j, few))) ∙ chunked_from_short (xs ++ y ∷ []) ys (rw (ap length i) few) ∙ ap (λ b. Ok b ∷ []) i

  chunked_first_from_none : (ys : List A) (l : List (Result A E)) → 0 < n → length ys ≡ n → From None (items ys ++ l) ≡ Ok ys ∷ From None l
  unfolding items
  chunked_first_from_none [] l some is = absurd (omega (arith, some, is))
  chunked_first_from_none (y ∷ []) l some is = first_at (y ∷ []) (ltb 1 n) l (le-ltb 1 n (omega (arith, is)))
  chunked_first_from_none (y ∷ z ∷ ys) l some is = more_at (y ∷ []) (ltb 1 n) (items (z ∷ ys) ++ l) (lt-ltb 1 n (omega (arith, is))) ∙ chunked_from_first (y ∷ []) (z ∷ ys) l (omega arith) is

  chunked_short_from_none : (ys : List A) → 0 < length ys → length ys < n → From None (items ys) ≡ Ok ys ∷ []
  unfolding items
  chunked_short_from_none [] some few = absurd (omega (arith, some))
  chunked_short_from_none (y ∷ ys) some few = more_at (y ∷ []) (ltb 1 n) (items ys) (lt-ltb 1 n (omega (arith, few))) ∙ chunked_from_short (y ∷ []) ys few

  -- Law: The first n items are a batch.
  pub chunked_of_first : (ys : List A) (l : List (Result A E)) → 0 < n → length ys ≡ n → chunked n (items ys ++ l) ≡ Ok ys ∷ chunked n l
  unfolding chunked
  chunked_of_first ys l some is = chunked_first_from_none ys l some is

  -- Fewer than n items are a batch at the end.
  pub chunked_of_fewer : (ys : List A) → 0 < length ys → length ys < n → chunked {E = E} n (items ys) ≡ Ok ys ∷ []
  unfolding chunked
  chunked_of_fewer ys some few = chunked_short_from_none ys some few

  -- `chunked` makes nothing of an empty list.
  pub chunked_of_none : chunked {A = A} {E = E} n [] ≡ []
  unfolding chunked
  chunked_of_none = refl

  -- ---- what a failure parts

  parted_at : (xs : List A) (few : Bool) (l : List (Result A E)) (e : E) (k : List (Result A E)) → ((held : Option (List A)) → From held (l ++ Err e ∷ k) ≡ From held l ++ Err e ∷ From None k) → At xs few (l ++ Err e ∷ k) ≡ At xs few l ++ Err e ∷ From None k
  parted_at xs true l e k rest = rest (Some xs)
  parted_at xs false l e k rest = ap (λ j. Ok xs ∷ j) (rest None)

  parted_from : (held : Option (List A)) (l : List (Result A E)) (e : E) (k : List (Result A E)) → From held (l ++ Err e ∷ k) ≡ From held l ++ Err e ∷ From None k
  parted_from None [] e k = refl
  parted_from (Some xs) [] e k = refl
  parted_from None (Ok x ∷ l) e k = parted_at (x ∷ []) (ltb 1 n) l e k (λ held. parted_from held l e k)
  parted_from (Some xs) (Ok x ∷ l) e k = parted_at (xs ++ x ∷ []) (ltb (length (xs ++ x ∷ [])) n) l e k (λ held. parted_from held l e k)
  parted_from None (Err d ∷ l) e k = ap (λ j. Err d ∷ j) (parted_from None l e k)
  parted_from (Some xs) (Err d ∷ l) e k = ap (λ j. Ok xs ∷ Err d ∷ j) (parted_from None l e k)

  -- What stands before a failure is batched by itself, and so is what comes after it.
  pub chunked_in_parts : (a : List (Result A E)) (e : E) (b : List (Result A E)) → chunked n (a ++ Err e ∷ b) ≡ chunked n a ++ Err e ∷ chunked n b
  unfolding chunked
  chunked_in_parts a e b = parted_from None a e b

  -- ---- where it is empty

  at_is_not_nil : (xs : List A) (few : Bool) (l : List (Result A E)) → (From (Some xs) l ≡ [] → ⊥) → At xs few l ≡ [] → ⊥
  at_is_not_nil xs true l rest is = rest is
  at_is_not_nil xs false l rest is = cc

  held_is_not_nil : (xs : List A) (l : List (Result A E)) → From (Some xs) l ≡ [] → ⊥
  held_is_not_nil xs [] is = cc
  held_is_not_nil xs (Ok x ∷ l) is = at_is_not_nil (xs ++ x ∷ []) (ltb (length (xs ++ x ∷ [])) n) l (λ k. held_is_not_nil (xs ++ x ∷ []) l k) is
  held_is_not_nil xs (Err e ∷ l) is = cc

  pub chunked_from_is_never_nil : (held : Option (List A)) (y : Result A E) (l : List (Result A E)) → From held (y ∷ l) ≡ [] → ⊥
  chunked_from_is_never_nil (Some xs) y l is = held_is_not_nil xs (y ∷ l) is
  chunked_from_is_never_nil None (Ok x) l is = at_is_not_nil (x ∷ []) (ltb 1 n) l (λ k. held_is_not_nil (x ∷ []) l k) is
  chunked_from_is_never_nil None (Err e) l is = cc

-- ---- What `Chunks` makes of its source's answers, and what it lists

-- ---- what becomes of an item

module _ {A E : Type 0} (from : AllocError → E → Type 0) where
  abbrev IsPut : (ℕ × Option (Vec A Global)) × Bool → A → Emitted (Vec A Global) (Option E) E → (ℕ × Option (Vec A Global)) × Bool → Type 0
  IsPut p x emitted q = plan_item (puts from) (chunks_plan vec_count) chunks_stops p x emitted q

  pub put_of_too_few : (n : ℕ) (flag next : Bool) (held left : Option (Vec A Global)) (x : A) (count : ℕ) → GrownTo held x left count → count < n → IsPut ((n, held), flag) x None ((n, left), next)
  put_of_too_few n flag next held None x count grown few = absurd grown
  put_of_too_few n flag next held (Some w) x count (grown, is) few = (Ok w, grown, subst (λ b. IsTransition {E = E} (batch_at n w b) None (n, Some w)) (sym (lt-ltb (vec_count w) n (subst (λ k. k < n) is few))) (refl, refl))

  pub put_of_whole : (n : ℕ) (flag next : Bool) (held left after : Option (Vec A Global)) (x : A) (count : ℕ) (whole : Vec A Global) (emitted : Emitted (Vec A Global) (Option E) E) → GrownTo held x left count → n ≤ count → left ≡ Some whole → emitted ≡ Some (item whole, None) → after ≡ None → IsPut ((n, held), flag) x emitted ((n, after), next)
  put_of_whole n flag next held None after x count whole emitted grown full same is none = absurd grown
  put_of_whole n flag next held (Some w) after x count whole emitted (grown, counts) full same is none = let at : w ≡ whole = cc in (Ok w, grown, subst (λ b. IsTransition {E = E} (batch_at n w b) emitted (n, after)) (sym (le-ltb (vec_count w) n (subst (λ k. n ≤ k) counts full))) (rw (is, at) refl, rw none refl))

  kept_where_same : (held kept : Option (Vec A Global)) → SameHeld held kept → held_without_item held kept ≡ kept
  kept_where_same None None w = refl
  kept_where_same None (Some v) w = absurd w
  kept_where_same (Some v) kept w = refl

  pub put_of_refused : (n : ℕ) (flag next : Bool) (held kept taken after : Option (Vec A Global)) (x : A) (refused : AllocError) (e : E) (emitted : Emitted (Vec A Global) (Option E) E) → NoRoom held × SameHeld held kept → from refused e → taken ≡ kept → emitted ≡ before_stop taken (Some e) → after ≡ None → IsPut ((n, held), flag) x emitted ((n, after), next)
  put_of_refused n flag next held kept taken after x refused e emitted w because same is none = (Err (kept, e), ((refused, because), w.0, w.1), (is ∙ ap (λ v. before_stop v (Some e)) (same ∙ sym (kept_where_same held kept w.1)), ap (λ v. (n, v)) none))

-- ---- where nothing is emitted

module _ {A E : Type 0} (from : AllocError → E → Type 0) where
  -- how many items the batch that is held takes yet
  abbrev pub room_of : (ℕ × Option (Vec A Global)) × Bool → ℕ
  room_of p = p.0.0 - length (held_items p.0.1)

  abbrev FillsWhereNone : ℕ × Option (Vec A Global) → Emitted (Vec A Global) (Option E) E → ℕ × Option (Vec A Global) → Type 0
  FillsWhereNone p emitted q = emitted ≡ None → q.0 - length (held_items q.1) < p.0 - length (held_items p.1)

  before_stop_makes_some : (held : Option (Vec A Global)) (stop : Option E) → before_stop held stop ≡ None → ⊥
  before_stop_makes_some None stop is = cc
  before_stop_makes_some (Some v) stop is = cc

  batch_at_fills : (p : ℕ × Option (Vec A Global)) (x : A) (w : Vec A Global) (few : Bool) → ltb (vec_count w) p.0 ≡ few → Grown p.1 x w → FillsWhereNone p (batch_at p.0 w few).0 (batch_at {E = E} p.0 w few).1
  batch_at_fills p x w true is grown = λ none. let fewer = ltb-true (vec_count w) p.0 is in let more = ap length grown ∙ length-append (held_items p.1) (x ∷ []) in omega (arith, fewer, more)
  batch_at_fills p x w false is grown = λ none. absurd cc

  put_fills : (p : ℕ × Option (Vec A Global)) (x : A) (put : Put (Vec A Global) E) → PutsLastOrRefused from p.1 x put → FillsWhereNone p (batch_by vec_count p put).0 (batch_by vec_count p put).1
  put_fills p x (Ok w) grown = batch_at_fills p x w (ltb (vec_count w) p.0) refl grown
  put_fills p x (Err (kept, e)) w = λ none. absurd (before_stop_makes_some (held_without_item p.1 kept) (Some e) none)

  pub room_shrinks_where_none_emitted : (p q : (ℕ × Option (Vec A Global)) × Bool) (a : Answered A E) → plan_meets (puts from) (chunks_plan vec_count) chunks_stops p a None q → room_of q < room_of p
  room_shrinks_where_none_emitted p q (Ok (Some x)) w = let k = put_fills p.0 x w.0 w.1 (sym w.2.0) in rw w.2.1 k
  room_shrinks_where_none_emitted p q (Ok None) w = absurd (before_stop_makes_some p.0.1 None (sym w.0.0))
  room_shrinks_where_none_emitted p q (Err e) w = absurd (before_stop_makes_some p.0.1 (Some e) (sym w.0.0))

-- ---- what it lists

-- a batch is made of the items
abbrev batch_made : {A : Type 0} → List A → Vec A Global → Type 0
batch_made xs v = vec_items v ≡ xs

module _ {A E : Type 0} (from : AllocError → E → Type 0) where
  -- the same number, and a batch of the same items
  abbrev HeldAlike : ℕ × Option (Vec A Global) → ℕ × Option (List A) → Type 0
  HeldAlike h k = (h.0 ≡ k.0) × HeldMade batch_made h.1 k.1

  abbrev put_of : Option (List A) × A → Put (List A) E
  put_of q = put_last q.0 q.1

  abbrev Alike : Transition (ℕ × Option (Vec A Global)) (Vec A Global) (Option E) E → Transition (ℕ × Option (List A)) (List A) (Option E) E → Type 0
  Alike t u = MadeAlike (puts from) (chunks_plan vec_count) chunks_stops put_of (chunks_plan length) chunks_stops batch_made from (λ whole. ⊤) HeldAlike t u

  batch_at_alike : (n : ℕ) (w : Vec A Global) (ys : List A) (few : Bool) → vec_items w ≡ ys → Alike (batch_at n w few) (batch_at n ys few)
  batch_at_alike n w ys true is = ((refl, is), tt)
  batch_at_alike n w ys false is = ((refl, tt), (is, refl))

  batch_put_alike : (n m : ℕ) (w : Vec A Global) (ys : List A) → n ≡ m → vec_items w ≡ ys → Alike (batch_at n w (ltb (vec_count w) n)) (batch_at m ys (ltb (length ys) m))
  batch_put_alike n m w ys same is = subst (λ (k : ℕ). Alike (batch_at n w (ltb (vec_count w) n)) (batch_at k ys (ltb (length ys) k))) same (subst (λ (b : Bool). Alike (batch_at n w (ltb (vec_count w) n)) (batch_at n ys b)) (ap (λ (zs : List A). ltb (length zs) n) is) (batch_at_alike n w ys (ltb (vec_count w) n) is))

  grown_alike : (h : ℕ × Option (Vec A Global)) (k : ℕ × Option (List A)) (x : A) (w : Vec A Global) → HeldAlike h k → Grown h.1 x w → Alike (batch_by vec_count h (Ok w)) (batch_by length k (put_last k.1 x))
  grown_alike (n, None) (m, None) x w at grown = batch_put_alike n m w (x ∷ []) at.0 grown
  grown_alike (n, None) (m, Some xs) x w at grown = absurd at.1
  grown_alike (n, Some v) (m, None) x w at grown = absurd at.1
  grown_alike (n, Some v) (m, Some xs) x w at grown = batch_put_alike n m w (xs ++ x ∷ []) at.0 (subst (λ (zs : List A). vec_items w ≡ zs ++ x ∷ []) at.1 grown)

  abbrev Refused : Emitted (Vec A Global) (Option E) E → Type 0
  Refused emitted = RefusalAfterHeld (puts from) (chunks_plan vec_count) chunks_stops put_of (chunks_plan length) chunks_stops batch_made from (λ whole. ⊤) HeldAlike emitted

  put_alike : (h : ℕ × Option (Vec A Global)) (k : ℕ × Option (List A)) (x : A) (put : Put (Vec A Global) E) → HeldAlike h k → PutsLastOrRefused from h.1 x put → Refused (batch_by vec_count h put).0 ⊎ Alike (batch_by vec_count h put) (batch_by length k (put_last k.1 x))
  put_alike h k x (Ok w) at grown = inr (grown_alike h k x w at grown)
  put_alike h k x (Err (kept, e)) at w = inl (held_without_item h.1 kept, e, refl, w.0)

  chunks_plans_alike : (h : ℕ × Option (Vec A Global)) (k : ℕ × Option (List A)) (x : A) → HeldAlike h k → PlansAlike (puts from) (chunks_plan vec_count) chunks_stops put_of (chunks_plan length) chunks_stops batch_made from (λ whole. ⊤) HeldAlike (chunks_plan vec_count h x) (chunks_plan length k x)
  chunks_plans_alike h k x at = λ whole put next acting called. elim (put_alike h k x put at called) [ inl w ↦ inl w | inr w ↦ inr (tt, w) ]

  chunks_stops_alike : (h : ℕ × Option (Vec A Global)) (k : ℕ × Option (List A)) (stop : Option E) → HeldAlike h k → Alike (chunks_stops h stop) (chunks_stops k stop)
  chunks_stops_alike h k stop at = ((at.0, tt), before_stop_made batch_made h.1 k.1 stop at.1)

pub lists_up_to_refusal_chunked : {S A E : Type 0} {it : S} (m : Contract S A E) (from : AllocError → E → Type 0) (n : ℕ) (s : Chunks S A E) (l : List (Result A E)) → chunks_parts s ≡ (it, (((n, None), true), None)) → Lists m.steps it l → ListsMade (λ xs v. vec_items v ≡ xs) (parts_as chunks_parts (chunks_contract from m)).steps from s (chunked n l)
unfolding chunked
lists_up_to_refusal_chunked {E = E} {it = it} m from n s l parts i = lists_made_seen (λ xs v. vec_items v ≡ xs) from chunks_parts (chunks_contract from m).steps s _ _ _ parts refl
    (gives_made_plan (puts from) (chunks_plan vec_count) chunks_stops (put_of from) (chunks_plan length) chunks_stops batch_made from (λ whole. ⊤) (HeldAlike from) (chunks_plans_alike from) (chunks_stops_alike from) m.steps (λ v. (vec_items v, refl)) (λ k. end_before_stop E k.1) (λ k y l is. chunked_from_is_never_nil E k.0 k.1 y l is) l it (n, None) true (n, None) tt (refl, tt) i.runs)

-- ---- What `chunked_by` makes of a list, step by step

module _ {A K E : Type 0} (eq : K → K → Bool) (h : A → Result K E) where
  -- what `chunked_by` makes of the list where this group is held before it
  abbrev pub grouped_from : Option (K × List A) → List (Result A E) → List (Result (K × List A) E)
  grouped_from held l = staged stop_comes (plan_does (as_function (λ q. put_by_key eq h q.0 q.1 (h q.1))) (chunk_by_plan eq) chunk_by_stops) (held, tt) l

  -- the same, where this comes of the next item
  abbrev grouped_then : Transition (Option (K × List A)) (K × List A) (Option E) E → List (Result A E) → List (Result (K × List A) E)
  grouped_then t l = emitted_first stop_comes t.0 (staged stop_comes (plan_does (as_function (λ q. put_by_key eq h q.0 q.1 (h q.1))) (chunk_by_plan eq) chunk_by_stops) (t.1, tt) l)

  -- where v is the key of the next item x
  abbrev pub grouped_at : Option (K × List A) → A → Result K E → List (Result A E) → List (Result (K × List A) E)
  grouped_at held x v l = grouped_then (group_by eq held (put_by_key eq h held x v)) l

  -- where that group is held, by whether the next item has its key
  abbrev pub group_or : K × List A → Bool → List (Result (K × List A) E) → List (Result (K × List A) E) → List (Result (K × List A) E)
  group_or g true more other = more
  group_or g false more other = Ok g ∷ other

  -- what is emitted at that item, and what is held then
  abbrev pub group_made : K × List A → A → K → Bool → Transition (Option (K × List A)) (K × List A) (Option E) E
  group_made g x k true = group_at g k (g.1 ++ x ∷ []) true
  group_made g x k false = group_at g k (x ∷ []) false

  put_by_next : (g : K × List A) (x : A) (k : K) (b : Bool) → eq g.0 k ≡ b → group_by eq (Some g) (put_by_key eq h (Some g) x (Ok k)) ≡ group_by eq (Some g) (Ok (k, put_last (cond b (Some g.1) None) x))
  put_by_next g x k b is = ap (λ c. group_by eq (Some g) (Ok (k, put_last {E = E} (cond c (Some g.1) None) x))) is

  pub group_by_is_made : (g : K × List A) (x : A) (k : K) (b : Bool) → eq g.0 k ≡ b → group_by eq (Some g) (put_by_key eq h (Some g) x (Ok k)) ≡ group_made g x k b
  group_by_is_made g x k true is = put_by_next g x k true is ∙ ap (λ c. group_at g k (g.1 ++ x ∷ []) c) is
  group_by_is_made g x k false is = put_by_next g x k false is ∙ ap (λ c. group_at g k (x ∷ []) c) is

  grouped_then_made : (g : K × List A) (x : A) (k : K) (l : List (Result A E)) (b : Bool) → grouped_then (group_made g x k b) l ≡ group_or g b (grouped_from (Some (g.0, g.1 ++ x ∷ [])) l) (grouped_from (Some (k, x ∷ [])) l)
  grouped_then_made g x k l true = refl
  grouped_then_made g x k l false = refl

  grouped_at_next_by : (g : K × List A) (x : A) (k : K) (l : List (Result A E)) (b : Bool) → eq g.0 k ≡ b → grouped_at (Some g) x (Ok k) l ≡ group_or g b (grouped_from (Some (g.0, g.1 ++ x ∷ [])) l) (grouped_from (Some (k, x ∷ [])) l)
  grouped_at_next_by g x k l b is = ap (λ t. grouped_then t l) (group_by_is_made g x k b is) ∙ grouped_then_made g x k l b

  -- An item of the held group's key goes into it, and one of another key begins a group.
  pub grouped_at_next : (g : K × List A) (x : A) (k : K) (l : List (Result A E)) → grouped_at (Some g) x (Ok k) l ≡ group_or g (eq g.0 k) (grouped_from (Some (g.0, g.1 ++ x ∷ [])) l) (grouped_from (Some (k, x ∷ [])) l)
  grouped_at_next g x k l = grouped_at_next_by g x k l (eq g.0 k) refl

  -- ---- its equations

  grouped_from_same : (g : K × List A) (y : A) (v : Result K E) (l : List (Result A E)) (j : K) → v ≡ Ok j → eq g.0 j ≡ true → grouped_at (Some g) y v l ≡ grouped_from (Some (g.0, g.1 ++ y ∷ [])) l
  grouped_from_same g y v l j is same = ap (λ w. grouped_at (Some g) y w l) is ∙ grouped_at_next_by g y j l true same

  grouped_from_other : (g : K × List A) (y : A) (v : Result K E) (l : List (Result A E)) (j : K) → v ≡ Ok j → eq g.0 j ≡ false → grouped_at (Some g) y v l ≡ Ok g ∷ grouped_at None y v l
  grouped_from_other g y v l j is differ = ap (λ w. grouped_at (Some g) y w l) is ∙ grouped_at_next_by g y j l false differ ∙ ap (λ w. Ok g ∷ grouped_at None y w l) (sym is)

  grouped_run : (k : K) (xs ys : List A) (l : List (Result A E)) → AllByRecursion (HasKey eq h k) ys → grouped_from (Some (k, xs)) (items ys ++ l) ≡ grouped_from (Some (k, xs ++ ys)) l
  unfolding items
  grouped_run k xs [] l all = ap (λ z. grouped_from (Some (k, z)) l) (sym (append-nil xs))
  grouped_run k xs (y ∷ ys) l (has, all) = grouped_from_same (k, xs) y (h y) (items ys ++ l) has.0 has.1 has.2 ∙ grouped_run k (xs ++ y ∷ []) ys l all ∙ ap (λ z. grouped_from (Some (k, z)) l) (append_assoc xs (y ∷ []) ys)

  grouped_of_group : (g : K × List A) (l : List (Result A E)) → IsGroup eq h g → grouped_from None (items g.1 ++ l) ≡ grouped_from (Some g) l
  unfolding items
  grouped_of_group (k, []) l is = absurd is
  grouped_of_group (k, x ∷ xs) l is = ap (λ w. grouped_at None x w (items xs ++ l)) is.0 ∙ grouped_run k (x ∷ []) xs l (recursion_from_All (HasKey eq h k) xs is.1)

  -- Law: The first items are a group, up to one whose key doesn't equal that of the first.
  pub chunked_by_of_first : (g : K × List A) (y : A) (j : K) (l : List (Result A E)) → IsGroup eq h g → h y ≡ Ok j → eq g.0 j ≡ false → chunked_by eq h (items g.1 ++ Ok y ∷ l) ≡ Ok g ∷ chunked_by eq h (Ok y ∷ l)
  unfolding chunked_by
  chunked_by_of_first g y j l is has differ = grouped_of_group g (Ok y ∷ l) is ∙ grouped_from_other g y (h y) l j has differ

  -- Items of one key are one group at the end.
  pub chunked_by_of_last : (g : K × List A) → IsGroup eq h g → chunked_by eq h (items g.1) ≡ Ok g ∷ []
  unfolding chunked_by
  chunked_by_of_last g is = ap (λ l. grouped_from None l) (sym (append-nil (items g.1))) ∙ grouped_of_group g [] is

  -- `chunked_by` makes nothing of an empty list.
  pub chunked_by_of_none : chunked_by eq h [] ≡ []
  unfolding chunked_by
  chunked_by_of_none = refl

  -- ---- where it is empty

  grouped_or_is_not_nil : (g : K × List A) (b : Bool) (more other : List (Result (K × List A) E)) → (more ≡ [] → ⊥) → group_or g b more other ≡ [] → ⊥
  grouped_or_is_not_nil g true more other rest is = rest is
  grouped_or_is_not_nil g false more other rest is = cc

  next_is_not_nil : (g : K × List A) (x : A) (v : Result K E) (l : List (Result A E)) → ((xs : List A) → grouped_from (Some (g.0, xs)) l ≡ [] → ⊥) → grouped_at (Some g) x v l ≡ [] → ⊥
  next_is_not_nil g x (Ok k) l rest is = grouped_or_is_not_nil g (eq g.0 k) (grouped_from (Some (g.0, g.1 ++ x ∷ [])) l) (grouped_from (Some (k, x ∷ [])) l) (rest (g.1 ++ x ∷ [])) (sym (grouped_at_next g x k l) ∙ is)
  next_is_not_nil g x (Err e) l rest is = cc

  held_group_is_not_nil : (k : K) (xs : List A) (l : List (Result A E)) → grouped_from (Some (k, xs)) l ≡ [] → ⊥
  held_group_is_not_nil k xs [] is = cc
  held_group_is_not_nil k xs (Ok x ∷ l) is = next_is_not_nil (k, xs) x (h x) l (λ ys. held_group_is_not_nil k ys l) is
  held_group_is_not_nil k xs (Err e ∷ l) is = cc

  first_is_not_nil : (x : A) (v : Result K E) (l : List (Result A E)) → grouped_at None x v l ≡ [] → ⊥
  first_is_not_nil x (Ok k) l is = held_group_is_not_nil k (x ∷ []) l is
  first_is_not_nil x (Err e) l is = cc

  pub grouped_from_is_never_nil : (held : Option (K × List A)) (y : Result A E) (l : List (Result A E)) → grouped_from held (y ∷ l) ≡ [] → ⊥
  grouped_from_is_never_nil (Some g) y l is = held_group_is_not_nil g.0 g.1 (y ∷ l) is
  grouped_from_is_never_nil None (Ok x) l is = first_is_not_nil x (h x) l is
  grouped_from_is_never_nil None (Err e) l is = cc

-- ---- the items

module _ {A K : Type 0} (E : Type 0) (eq : K → K → Bool) (key : A → K) where
  abbrev key_answer : A → Result K E
  key_answer x = Ok (key x)

  abbrev items_of_groups : List (Result (K × List A) E) → List A
  items_of_groups l = batches_joined (map (λ g. g.1) (items_listed l))

  -- the items that are held
  abbrev items_held : Option (K × List A) → List A
  items_held None = []
  items_held (Some g) = g.1

  items_of_groups_of_group_or : (g : K × List A) (rest : List A) (b : Bool) (more other : List (Result (K × List A) E)) → items_of_groups more ≡ g.1 ++ rest → items_of_groups other ≡ rest → items_of_groups (group_or eq key_answer g b more other) ≡ g.1 ++ rest
  items_of_groups_of_group_or g rest true more other is_more is_other = is_more
  items_of_groups_of_group_or g rest false more other is_more is_other = ap (λ (k : List A). g.1 ++ k) is_other

  items_of_groups_from : (a : Option (K × List A)) (l : List (Result A E)) → items_of_groups (grouped_from eq key_answer a l) ≡ items_held a ++ items_listed l
  items_of_groups_from None [] = refl
  items_of_groups_from (Some g) [] = refl
  items_of_groups_from None (Ok x ∷ l) = items_of_groups_from (Some (key x, x ∷ [])) l
  items_of_groups_from (Some g) (Ok x ∷ l) = ap items_of_groups (grouped_at_next eq key_answer g x (key x) l) ∙ items_of_groups_of_group_or g (x ∷ items_listed l) (eq g.0 (key x)) _ _ (items_of_groups_from (Some (g.0, g.1 ++ x ∷ [])) l ∙ append_assoc g.1 (x ∷ []) (items_listed l)) (items_of_groups_from (Some (key x, x ∷ [])) l)
  items_of_groups_from None (Err e ∷ l) = items_of_groups_from None l
  items_of_groups_from (Some g) (Err e ∷ l) = ap (λ (k : List A). g.1 ++ k) (items_of_groups_from None l)

  -- The groups of a list joined are its items, if each item has a key.
  pub items_of_groups_of_chunked_by_are_items : (l : List (Result A E)) → items_of_groups (chunked_by eq key_answer l) ≡ items_listed l
  unfolding chunked_by
  items_of_groups_of_chunked_by_are_items l = items_of_groups_from None l

-- ---- What the groups are that `chunked_by` makes

module _ {A K : Type 0} (E : Type 0) (eq : K → K → Bool) (h : A → Result K E) where
  -- ---- neighbours

  abbrev Differ : K × List A → K × List A → Type 0
  Differ g k = eq g.0 k.0 ≡ false

  next_differs_of_group_or : (z g : K × List A) (b : Bool) (more other : List (Result (K × List A) E)) → Differ z g → HoldsOfNext Differ z more → HoldsOfNext Differ z (group_or eq h g b more other)
  next_differs_of_group_or z g true more other d at = at
  next_differs_of_group_or z g false more other d at = d

  next_key_differs : (z g : K × List A) (x : A) (v : Result K E) (l : List (Result A E)) → Differ z g → ((xs : List A) → HoldsOfNext Differ z (grouped_from eq h (Some (g.0, xs)) l)) → HoldsOfNext Differ z (grouped_at eq h (Some g) x v l)
  next_key_differs z g x (Ok k) l d rest = subst (λ r. HoldsOfNext Differ z r) (sym (grouped_at_next eq h g x k l)) (next_differs_of_group_or z g (eq g.0 k) (grouped_from eq h (Some (g.0, g.1 ++ x ∷ [])) l) (grouped_from eq h (Some (k, x ∷ [])) l) d (rest (g.1 ++ x ∷ [])))
  next_key_differs z g x (Err e) l d rest = d

  -- a group of the key that is held comes first
  next_held : (z : K × List A) (k : K) (xs : List A) (l : List (Result A E)) → eq z.0 k ≡ false → HoldsOfNext Differ z (grouped_from eq h (Some (k, xs)) l)
  next_held z k xs [] d = d
  next_held z k xs (Ok x ∷ l) d = next_key_differs z (k, xs) x (h x) l d (λ ys. next_held z k ys l d)
  next_held z k xs (Err e ∷ l) d = d

  -- of the rest, whatever is held before it
  abbrev EachOf : List (Result A E) → Type 0
  EachOf l = (a : Option (K × List A)) → EachNext Differ (grouped_from eq h a l)

  each_next_differs_of_group_or : (g : K × List A) (b : Bool) (more other : List (Result (K × List A) E)) → (b ≡ false → HoldsOfNext Differ g other) → EachNext Differ more → EachNext Differ other → EachNext Differ (group_or eq h g b more other)
  each_next_differs_of_group_or g true more other next at_more at_other = at_more
  each_next_differs_of_group_or g false more other next at_more at_other = (next refl, at_other)

  each_next_differs_at_first_item : (x : A) (v : Result K E) (l : List (Result A E)) → EachOf l → EachNext Differ (grouped_at eq h None x v l)
  each_next_differs_at_first_item x (Ok k) l rest = rest (Some (k, x ∷ []))
  each_next_differs_at_first_item x (Err e) l rest = rest None

  each_keyed : (g : K × List A) (x : A) (v : Result K E) (l : List (Result A E)) → EachOf l → EachNext Differ (grouped_at eq h (Some g) x v l)
  each_keyed g x (Ok k) l rest = subst (λ r. EachNext Differ r) (sym (grouped_at_next eq h g x k l)) (each_next_differs_of_group_or g (eq g.0 k) (grouped_from eq h (Some (g.0, g.1 ++ x ∷ [])) l) (grouped_from eq h (Some (k, x ∷ [])) l) (λ d. next_held g k (x ∷ []) l d) (rest (Some (g.0, g.1 ++ x ∷ []))) (rest (Some (k, x ∷ []))))
  each_keyed g x (Err e) l rest = (tt, rest None)

  each_from : (a : Option (K × List A)) (l : List (Result A E)) → EachNext Differ (grouped_from eq h a l)
  each_from None [] = tt
  each_from (Some g) [] = (tt, tt)
  each_from None (Ok x ∷ l) = each_next_differs_at_first_item x (h x) l (λ a. each_from a l)
  each_from (Some g) (Ok x ∷ l) = each_keyed g x (h x) l (λ a. each_from a l)
  each_from None (Err e ∷ l) = each_from None l
  each_from (Some g) (Err e ∷ l) = (tt, each_from None l)

  -- Law: The keys of adjacent groups differ, unless a failure stands between.
  pub adjacent_groups_differ : (l : List (Result A E)) → AdjacentItems Differ (chunked_by eq h l)
  unfolding chunked_by
  adjacent_groups_differ l = adjacent_items_of_each_next Differ (chunked_by eq h l) (each_from None l)

  -- ---- what is in a group

  abbrev Groups : List (Result (K × List A) E) → Type 0
  Groups l = AllByRecursion (IsGroup eq h) (items_listed l)

  abbrev HeldIsGroup : Option (K × List A) → Type 0
  HeldIsGroup None = ⊤
  HeldIsGroup (Some g) = IsGroup eq h g

  grown : (k : K) (xs : List A) (y : A) → IsGroup eq h (k, xs) → HasKey eq h k y → IsGroup eq h (k, xs ++ y ∷ [])
  grown k [] y is has = absurd is
  grown k (x ∷ xs) y is has = (is.0, All-push (HasKey eq h k) xs y is.1 has)

  alone : (k : K) (x : A) → h x ≡ Ok k → IsGroup eq h (k, x ∷ [])
  alone k x is = (is, All-nil (HasKey eq h k))

  -- of the rest, where a group is held before it
  abbrev GroupsOf : List (Result A E) → Type 0
  GroupsOf l = (a : Option (K × List A)) → HeldIsGroup a → Groups (grouped_from eq h a l)

  groups_of_group_or : (g : K × List A) (b : Bool) (more other : List (Result (K × List A) E)) → IsGroup eq h g → (b ≡ true → Groups more) → Groups other → Groups (group_or eq h g b more other)
  groups_of_group_or g true more other is at_more at_other = at_more refl
  groups_of_group_or g false more other is at_more at_other = (is, at_other)

  groups_at_first_item : (x : A) (v : Result K E) (l : List (Result A E)) → h x ≡ v → GroupsOf l → Groups (grouped_at eq h None x v l)
  groups_at_first_item x (Ok k) l is rest = rest (Some (k, x ∷ [])) (alone k x is)
  groups_at_first_item x (Err e) l is rest = rest None tt

  groups_at_next_item : (g : K × List A) (x : A) (v : Result K E) (l : List (Result A E)) → IsGroup eq h g → h x ≡ v → GroupsOf l → Groups (grouped_at eq h (Some g) x v l)
  groups_at_next_item g x (Ok k) l held is rest = subst Groups (sym (grouped_at_next eq h g x k l)) (groups_of_group_or g (eq g.0 k) (grouped_from eq h (Some (g.0, g.1 ++ x ∷ [])) l) (grouped_from eq h (Some (k, x ∷ [])) l) held (λ same. rest (Some (g.0, g.1 ++ x ∷ [])) (grown g.0 g.1 x held (k, is, same))) (rest (Some (k, x ∷ [])) (alone k x is)))
  groups_at_next_item g x (Err e) l held is rest = (held, rest None tt)

  groups_from : (a : Option (K × List A)) (l : List (Result A E)) → HeldIsGroup a → Groups (grouped_from eq h a l)
  groups_from None [] held = tt
  groups_from (Some g) [] held = (held, tt)
  groups_from None (Ok x ∷ l) held = groups_at_first_item x (h x) l refl (λ a k. groups_from a l k)
  groups_from (Some g) (Ok x ∷ l) held = groups_at_next_item g x (h x) l held refl (λ a k. groups_from a l k)
  groups_from None (Err e ∷ l) held = groups_from None l tt
  groups_from (Some g) (Err e ∷ l) held = (held, groups_from None l tt)

  -- The key of a group is that of its first item, and those of its other items equal it.
  pub items_of_chunked_by_are_groups : (l : List (Result A E)) → All (IsGroup eq h) (items_listed (chunked_by eq h l))
  unfolding chunked_by
  items_of_chunked_by_are_groups l = All-from_recursion (IsGroup eq h) (items_listed (chunked_by eq h l)) (groups_from None l tt)

  -- ---- an item without a key

  -- what comes at the item whose key fails is what comes at the failure
  grouped_from_equal_at_first_failed_key : (a : Option (K × List A)) (x : A) (e : E) (l : List (Result A E)) → h x ≡ Err e → grouped_from eq h a (Ok x ∷ l) ≡ grouped_from eq h a (Err e ∷ l)
  grouped_from_equal_at_first_failed_key None x e l is = ap (λ v. grouped_at eq h None x v l) is
  grouped_from_equal_at_first_failed_key (Some g) x e l is = ap (λ v. grouped_at eq h (Some g) x v l) is

  -- of two rests that are grouped alike
  abbrev GroupsAlike : List (Result A E) → List (Result A E) → Type 0
  GroupsAlike l k = (a : Option (K × List A)) → grouped_from eq h a l ≡ grouped_from eq h a k

  group_or_equal_of_equal_parts : (g : K × List A) (b : Bool) (more more_too other other_too : List (Result (K × List A) E)) → more ≡ more_too → other ≡ other_too → group_or eq h g b more other ≡ group_or eq h g b more_too other_too
  group_or_equal_of_equal_parts g true more more_too other other_too same also = same
  group_or_equal_of_equal_parts g false more more_too other other_too same also = ap {B = List (Result (K × List A) E)} (λ k. Ok g ∷ k) also

  grouped_at_first_equal_where_alike : (y : A) (v : Result K E) (l k : List (Result A E)) → GroupsAlike l k → grouped_at eq h None y v l ≡ grouped_at eq h None y v k
  grouped_at_first_equal_where_alike y (Ok j) l k same = same (Some (j, y ∷ []))
  grouped_at_first_equal_where_alike y (Err d) l k same = ap {B = List (Result (K × List A) E)} (λ r. Err d ∷ r) (same None)

  grouped_at_next_equal_where_alike : (g : K × List A) (y : A) (v : Result K E) (l k : List (Result A E)) → GroupsAlike l k → grouped_at eq h (Some g) y v l ≡ grouped_at eq h (Some g) y v k
  grouped_at_next_equal_where_alike g y (Ok j) l k same = grouped_at_next eq h g y j l ∙ group_or_equal_of_equal_parts g (eq g.0 j) _ _ _ _ (same (Some (g.0, g.1 ++ y ∷ []))) (same (Some (j, y ∷ []))) ∙ sym (grouped_at_next eq h g y j k)
  grouped_at_next_equal_where_alike g y (Err d) l k same = ap {B = List (Result (K × List A) E)} (λ r. Ok g ∷ Err d ∷ r) (same None)

  grouped_from_equal_at_later_failed_key : (a : Option (K × List A)) (before : List (Result A E)) (x : A) (e : E) (l : List (Result A E)) → h x ≡ Err e → grouped_from eq h a (before ++ Ok x ∷ l) ≡ grouped_from eq h a (before ++ Err e ∷ l)
  grouped_from_equal_at_later_failed_key a [] x e l is = grouped_from_equal_at_first_failed_key a x e l is
  grouped_from_equal_at_later_failed_key None (Ok y ∷ before) x e l is = grouped_at_first_equal_where_alike y (h y) _ _ (λ a. grouped_from_equal_at_later_failed_key a before x e l is)
  grouped_from_equal_at_later_failed_key (Some g) (Ok y ∷ before) x e l is = grouped_at_next_equal_where_alike g y (h y) _ _ (λ a. grouped_from_equal_at_later_failed_key a before x e l is)
  grouped_from_equal_at_later_failed_key None (Err d ∷ before) x e l is = ap {B = List (Result (K × List A) E)} (λ r. Err d ∷ r) (grouped_from_equal_at_later_failed_key None before x e l is)
  grouped_from_equal_at_later_failed_key (Some g) (Err d ∷ before) x e l is = ap {B = List (Result (K × List A) E)} (λ r. Ok g ∷ Err d ∷ r) (grouped_from_equal_at_later_failed_key None before x e l is)

  -- For `chunked_by` an item whose key fails is that failure in its place.
  pub chunked_by_of_failed_key_is_of_failure : (before : List (Result A E)) (x : A) (e : E) (l : List (Result A E)) → h x ≡ Err e → chunked_by eq h (before ++ Ok x ∷ l) ≡ chunked_by eq h (before ++ Err e ∷ l)
  unfolding chunked_by
  chunked_by_of_failed_key_is_of_failure before x e l is = grouped_from_equal_at_later_failed_key None before x e l is

-- ---- What `ChunkBy` makes of its source's answers, and what it lists

-- ---- what becomes of an item

module _ {A K E : Type 0} (from : AllocError → E → Type 0) (eq : K → K → Bool) where
  -- what becomes of an item of the key k
  abbrev pub IsGrouped : Option (Group K A) → K → A → Emitted (Group K A) (Option E) E → Option (Group K A) → Type 0
  IsGrouped held k x emitted q = (v : Put (Vec A Global) E) × PutsLastOrRefused from (items_of_key eq held k) x v × IsTransition (group_by eq held (Ok (k, v))) emitted q

  pub grouped_same : (g : Group K A) (k : K) (x : A) (w : Vec A Global) → eq g.0 k ≡ true → Grown (Some g.1) x w → IsGrouped (Some g) k x None (Some (g.0, w))
  grouped_same g k x w is grown = (Ok w, subst (λ b. PutsLastOrRefused from (cond b (Some g.1) None) x (Ok w)) (sym is) grown, subst (λ b. IsTransition {E = E} (group_at g k w b) None (Some (g.0, w))) (sym is) (refl, refl))

  -- the group has the same items, and comes before the failure
  pub grouped_same_refused : (g : Group K A) (k : K) (x : A) (w : Vec A Global) (refused : AllocError) (e : E) (taken : Option (Group K A)) (emitted : Emitted (Group K A) (Option E) E) (q : Option (Group K A)) → eq g.0 k ≡ true → NoRoom (Some g.1) × (vec_items w ≡ vec_items g.1) → from refused e → taken ≡ Some (g.0, w) → emitted ≡ before_stop taken (Some e) → q ≡ None → IsGrouped (Some g) k x emitted q
  grouped_same_refused g k x w refused e taken emitted q is kept because at before none = (Err (Some w, e), subst (λ b. PutsLastOrRefused from (cond b (Some g.1) None) x (Err (Some w, e))) (sym is) ((refused, because), kept.0, kept.1), (before ∙ ap (λ v. before_stop v (Some e)) at, none))

  pub grouped_other : (g : Group K A) (k : K) (x : A) (w : Vec A Global) (whole : Group K A) (emitted : Emitted (Group K A) (Option E) E) (q : Option (Group K A)) → eq g.0 k ≡ false → Grown None x w → whole ≡ g → emitted ≡ Some (item whole, None) → q ≡ Some (k, w) → IsGrouped (Some g) k x emitted q
  grouped_other g k x w whole emitted q is grown same yields then = (Ok w, subst (λ b. PutsLastOrRefused from (cond b (Some g.1) None) x (Ok w)) (sym is) grown, subst (λ b. IsTransition (group_at g k w b) emitted q) (sym is) (rw (yields, same) refl, then))

  pub grouped_first : (k : K) (x : A) (w : Vec A Global) (q : Option (Group K A)) → Grown None x w → q ≡ Some (k, w) → IsGrouped None k x None q
  grouped_first k x w q grown then = (Ok w, grown, (refl, then))

  group_kept_of_none : (held : Option (Group K A)) → group_kept held None ≡ held
  group_kept_of_none None = refl
  group_kept_of_none (Some g) = refl

  -- the item was to begin a group
  pub grouped_refused : (held : Option (Group K A)) (k : K) (x : A) (refused : AllocError) (e : E) (taken : Option (Group K A)) (emitted : Emitted (Group K A) (Option E) E) (q : Option (Group K A)) → items_of_key eq held k ≡ None → from refused e → taken ≡ held → emitted ≡ before_stop taken (Some e) → q ≡ None → IsGrouped held k x emitted q
  grouped_refused held k x refused e taken emitted q begins because at before none = (Err (None, e), subst (λ into. PutsLastOrRefused {A = A} from into x (Err (None, e))) (sym begins) ((refused, because), tt, tt), (before ∙ ap (λ v. before_stop v (Some e)) (at ∙ sym (group_kept_of_none held)), none))

  pub no_items_of_key_where_differ : (g : Group K A) (k : K) → eq g.0 k ≡ false → items_of_key eq (Some g) k ≡ None
  no_items_of_key_where_differ g k is = ap (λ b. cond b (Some g.1) None) is

-- ---- what it lists

module _ {F A K E : Type 0} (from : AllocError → E → Type 0) (eq : K → K → Bool) (g : Mut F (Bor A × Unit {0}) (Result K E)) (f : F) (h : A → Result K E) where
  abbrev GroupHeldAlike : Option (Group K A) → Option (K × List A) → Type 0
  GroupHeldAlike held a = HeldMade MadeGroup held a

  abbrev keyed_put_of : Option (K × List A) × A → KeyedPut K (List A) E
  keyed_put_of q = put_by_key eq h q.0 q.1 (h q.1)

  abbrev GroupAlike : Transition (Option (Group K A)) (Group K A) (Option E) E → Transition (Option (K × List A)) (K × List A) (Option E) E → Type 0
  GroupAlike t u = MadeAlike (puts_by_key from eq g) (chunk_by_plan eq) chunk_by_stops keyed_put_of (chunk_by_plan eq) chunk_by_stops MadeGroup from (λ z. z ≡ f) GroupHeldAlike t u

  abbrev GroupRefused : Emitted (Group K A) (Option E) E → Type 0
  GroupRefused emitted = RefusalAfterHeld (puts_by_key from eq g) (chunk_by_plan eq) chunk_by_stops keyed_put_of (chunk_by_plan eq) chunk_by_stops MadeGroup from (λ z. z ≡ f) GroupHeldAlike emitted

  group_at_alike : (p : Group K A) (xs : List A) (k : K) (x : A) (w : Vec A Global) (same : Bool) → vec_items p.1 ≡ xs → Grown (cond same (Some p.1) None) x w → GroupAlike (group_at p k w same) (group_made eq h (p.0, xs) x k same)
  group_at_alike p xs k x w true is grown = ((refl, subst (λ (zs : List A). vec_items w ≡ zs ++ x ∷ []) is grown), tt)
  group_at_alike p xs k x w false is grown = ((refl, grown), ((refl, is), refl))

  group_grown_alike : (p : Group K A) (i : K × List A) (k : K) (x : A) (w : Vec A Global) → MadeGroup i p → Grown (items_of_key eq (Some p) k) x w → GroupAlike (group_by eq (Some p) (Ok (k, Ok w))) (group_by eq (Some i) (put_by_key eq h (Some i) x (Ok k)))
  group_grown_alike p i k x w is grown = subst (λ (j : K). GroupAlike (group_by eq (Some p) (Ok (k, Ok w))) (group_by eq (Some (j, i.1)) (put_by_key eq h (Some (j, i.1)) x (Ok k)))) is.0 (subst (λ t. GroupAlike (group_by eq (Some p) (Ok (k, Ok w))) t) (sym (group_by_is_made eq h (p.0, i.1) x k (eq p.0 k) refl)) (group_at_alike p i.1 k x w (eq p.0 k) is.1 grown))

  group_put_alike : (held : Option (Group K A)) (a : Option (K × List A)) (x : A) (k : K) (put : Put (Vec A Global) E) → GroupHeldAlike held a → PutsLastOrRefused from (items_of_key eq held k) x put → GroupRefused (group_by eq held (Ok (k, put))).0 ⊎ GroupAlike (group_by eq held (Ok (k, put))) (group_by eq a (put_by_key eq h a x (Ok k)))
  group_put_alike held a x k (Err (kept, e)) at w = inl (group_kept held kept, e, refl, w.0)
  group_put_alike None None x k (Ok v) at grown = inr ((refl, grown), tt)
  group_put_alike None (Some i) x k (Ok v) at grown = absurd at
  group_put_alike (Some p) None x k (Ok v) at grown = absurd at
  group_put_alike (Some p) (Some i) x k (Ok v) at grown = inr (group_grown_alike p i k x v at grown)

  -- where the key is what the call returned
  keyed_alike : (held : Option (Group K A)) (a : Option (K × List A)) (x : A) (v : KeyedPut K (Vec A Global) E) (c : F) → Acts (call_by_reference g) f h → GroupHeldAlike held a → puts_by_key from eq g f (held, x) v c → GroupRefused (group_by eq held v).0 ⊎ ((c ≡ f) × GroupAlike (group_by eq held v) (group_by eq a (keyed_put_of (a, x))))
  keyed_alike held a x (Ok (k, put)) c acts at w = let called = acts x (Ok k) c w.0 in elim (group_put_alike held a x k put at w.1) [ inl r ↦ inl r | inr r ↦ inr (called.0, subst (λ z. GroupAlike (group_by eq held (Ok (k, put))) (group_by eq a (put_by_key eq h a x z))) called.1 r) ]
  keyed_alike held a x (Err e) c acts at w = let called = acts x (Err e) c w in inr (called.0, subst (λ z. GroupAlike (group_by eq held (Err e)) (group_by eq a (put_by_key eq h a x z))) called.1 (tt, before_stop_made MadeGroup held a (Some e) at))

  plans_alike : Acts (call_by_reference g) f h → (held : Option (Group K A)) (a : Option (K × List A)) (x : A) → GroupHeldAlike held a → PlansAlike (puts_by_key from eq g) (chunk_by_plan eq) chunk_by_stops keyed_put_of (chunk_by_plan eq) chunk_by_stops MadeGroup from (λ z. z ≡ f) GroupHeldAlike (chunk_by_plan eq held x) (chunk_by_plan eq a x)
  plans_alike acts held a x at = λ z v c same called. keyed_alike held a x v c acts at (subst (λ (k : F). puts_by_key from eq g k (held, x) v c) same called)

  stops_alike : (held : Option (Group K A)) (a : Option (K × List A)) (stop : Option E) → GroupHeldAlike held a → GroupAlike (chunk_by_stops held stop) (chunk_by_stops a stop)
  stops_alike held a stop at = (tt, before_stop_made MadeGroup held a stop at)

pub lists_up_to_refusal_chunked_by : {S F A K E : Type 0} {it : S} (m : Contract S A E) (from : AllocError → E → Type 0) (eq : K → K → Bool) (c : Mut F (Bor A × Unit {0}) (Result K E)) (f : F) (h : A → Result K E) → Acts (call_by_reference c) f h → (s : ChunkBy S K F A E) (l : List (Result A E)) → chunk_by_parts s ≡ (it, ((None, f), None)) → Lists m.steps it l → ListsMade MadeGroup (parts_as chunk_by_parts (chunk_by_contract from eq c m)).steps from s (chunked_by eq h l)
unfolding chunked_by
lists_up_to_refusal_chunked_by {E = E} {it = it} m from eq c f h acts s l parts i = lists_made_seen MadeGroup from chunk_by_parts (chunk_by_contract from eq c m).steps s _ _ _ parts refl
    (gives_made_plan (puts_by_key from eq c) (chunk_by_plan eq) chunk_by_stops (keyed_put_of from eq c f h) (chunk_by_plan eq) chunk_by_stops MadeGroup from (λ z. z ≡ f) (GroupHeldAlike from eq c f h) (plans_alike from eq c f h acts) (stops_alike from eq c f h) m.steps (λ y. ((y.0, vec_items y.1), (refl, refl))) (λ a. end_before_stop E a) (λ a y l is. grouped_from_is_never_nil eq h a y l is) l it None f None refl tt i.runs)

-- ---- where it may be called

module _ {S F A K E : Type 0} (m : Contract S A E) (from : AllocError → E → Type 0) (eq : K → K → Bool) (g : Mut F (Bor A × Unit {0}) (Result K E)) where
  key_called : (f h : F) (q : Option (Group K A) × A) (v : KeyedPut K (Vec A Global) E) → puts_by_key from eq g f q v h → (r : Result K E) × call_by_reference g f q.1 r h
  key_called f h q (Ok (k, put)) w = (Ok k, w.0)
  key_called f h q (Err e) w = (Err e, w)

  -- what calls by key reach, calls of the closure do
  reached_by_keys : (P : A → Type 0) (made : List ((Option (Group K A) × A) × KeyedPut K (Vec A Global) E)) (f h : F) → FoldsTo (λ p c q. P c.0.1 × puts_by_key from eq g p c.0 c.1 q) f made h → Reaches (call_by_reference g) P f h
  reached_by_keys P [] f h w = subst (λ (k : F). Reaches (call_by_reference g) P f k) w reaches_reflexive
  reached_by_keys P (c ∷ made) f h w = let called = key_called f w.0 c.0 c.1 w.1.1 in reaches_by_call_first c.0.1 called.0 w.1.0 called.1 (reached_by_keys P made w.0 h w.2)

  callable_by_key : (P : A → Type 0) (f : F) → IsCallable (call_by_reference g) (takes_by_reference g) P f → IsCallable (puts_by_key from eq g) (takes_key g) (λ q. P q.1) f
  callable_by_key P f c = record { at = λ h q r may. c.at h q.1 (reached_by_keys P r.made f h r.by) may }

  -- where the closure may be called on what comes, so may the adapter
  pub plan_can_chunk_by : (s : S) (p : Option (Group K A) × F) → IsCallable (call_by_reference g) (takes_by_reference g) (m.may_give s) p.1 → plan_can (puts_by_key from eq g) (chunk_by_plan eq) chunk_by_stops (takes_key g) (MayMeet m s) p
  plan_can_chunk_by s p c = plan_can_where_callable (puts_by_key from eq g) (takes_key g) (chunk_by_plan eq) chunk_by_stops (λ q. m.may_give s q.1) (MayMeet m s) (λ held x may. may) p (callable_by_key (m.may_give s) p.1 c)

-- What stands before a failure is grouped by itself, and so is what comes after it.
pub chunked_by_in_parts : {A K E : Type 0} (eq : K → K → Bool) (h : A → Result K E) (a : List (Result A E)) (e : E) (b : List (Result A E)) → chunked_by eq h (a ++ Err e ∷ b) ≡ chunked_by eq h a ++ Err e ∷ chunked_by eq h b
unfolding chunked_by
chunked_by_in_parts {E = E} eq h a e b = parted_by_failure (λ q. put_by_key eq h q.0 q.1 (h q.1)) (chunk_by_plan eq) (λ held. held) (λ held. None) None (λ held. refl) held_one (λ held x v. group_by_buffers E eq held v) None a e b
