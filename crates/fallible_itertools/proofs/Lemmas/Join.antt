-- A text made of the items by one fold, how long it is, and what stands at each place.
use Rattle.std.specs.Prelude.{◌≡◌, ℕ, List, [], ◌∷◌, ◌++◌, Bool, true, false, cond, Option, Result, ⊤, suc, ◌+◌, ◌-◌, ◌*◌, length, sum_by}
use Rattle.std.specs.declared.alloc.AllocError.{AllocError}
use Rattle.std.specs.declared.ops.ControlFlow.TheVariants.{Continue}
use Rattle.std.specs.declared.string.String.{String}
use Rattle.std.proofs.Common.{refl, sym, ap, ◌∙◌, append_assoc, arith, suc-mul, zero-mul, length-append, append-nil}
use Rattle.std.proofs.lemmas.List.Sums.{sum_by-cons}
use Rattle.fallible_iterator.specs.Collecting.{Collects}
use Rattle.fallible_iterator.specs.Fault.{Fault}
use Rattle.fallible_iterator.specs.Folds.{Driven}
use Rattle.fallible_iterator.specs.Traces.{Answered}
use Rattle.fallible_itertools.specs.Gathering.{gathered}
use Rattle.fallible_itertools.specs.Join.{joined, JoinedAs, IsJoinTurn, StandsInText, joined_after}
use Rattle.fallible_itertools.proofs.Lemmas.Gathering.{collects_by_fold}

-- ---- A text made of the items by one fold

-- whether there is an item
abbrev some_item : {A : Type 0} → List A → Bool
some_item [] = false
some_item (x ∷ items) = true

some_item_of_one_more_is_true : {A : Type 0} (items : List A) (x : A) → some_item (items ++ x ∷ []) ≡ true
some_item_of_one_more_is_true [] x = refl
some_item_of_one_more_is_true (y ∷ items) x = refl

joined_of_items_and_one_more : {A : Type 0} (show : A → List ℕ) (separator : List ℕ) (items : List A) (y : A) → joined show separator (items ++ y ∷ []) ≡ joined show separator items ++ (cond (some_item items) separator [] ++ show y)
joined_of_items_and_one_more show separator [] y = refl
joined_of_items_and_one_more show separator (x ∷ []) y = refl
joined_of_items_and_one_more show separator (x ∷ z ∷ items) y =
    ap (λ (t : List ℕ). show x ++ (separator ++ t)) (joined_of_items_and_one_more show separator (z ∷ items) y)
    ∙ ap (λ (t : List ℕ). show x ++ t) (sym (append_assoc separator (joined show separator (z ∷ items)) (separator ++ show y)))
    ∙ sym (append_assoc (show x) (separator ++ joined show separator (z ∷ items)) (separator ++ show y))

module _ {A X : Type 0} (output : A → Option (List ℕ)) (separator : List ℕ) where
  abbrev WrittenItems : List A → Bool × String X → Type 0
  WrittenItems items c = (c.0 ≡ some_item items) × JoinedAs output separator items c.1

  written_items_with_one_more_after_turn : (c : Bool × String X) (x : A) (d : Bool × String X) → IsJoinTurn output separator c x (Continue tt) d → (items : List A) → WrittenItems items c → WrittenItems (items ++ x ∷ []) d
  written_items_with_one_more_after_turn c x d w items h = (
    w.0 ∙ sym (some_item_of_one_more_is_true items x),
    λ show shows. w.1 (show x) (shows x) ∙ ap (λ (t : List ℕ). t ++ (cond c.0 separator [] ++ show x)) (h.1 show shows) ∙ ap (λ (b : Bool). joined show separator items ++ (cond b separator [] ++ show x)) h.0 ∙ sym (joined_of_items_and_one_more show separator items x),
  )

  pub collects_joined : {S E : Type 0} {steps : S → Answered A E → S → Type 0} {s t : S} {c d : Bool × String X} {answer : Answered AllocError E} {r : Result (String X) (Fault E)} → WrittenItems [] c → Driven steps (IsJoinTurn output separator) s c answer t d → r ≡ gathered answer d.1 → Collects steps (JoinedAs output separator) ⊥ (λ _ _. ⊤) s r
  collects_joined is_empty w is = collects_by_fold (JoinedAs output separator) WrittenItems (λ c. c.1) (λ _ _. ⊤) (IsJoinTurn output separator) written_items_with_one_more_after_turn (λ c x a d p. tt) (λ items c h. h.1) is_empty w is

-- ---- How long the text of `joined` is, and what stands at each place

module _ {A : Type 0} (show : A → List ℕ) (separator : List ℕ) where
  -- one more separator
  mul_of_one_more : (m n s : ℕ) → m ≡ suc n → m * s ≡ n * s + s
  mul_of_one_more m n s is = ap (λ i. i * s) is ∙ suc-mul n s

  mul_of_zero : (m s : ℕ) → m ≡ 0 → m * s ≡ 0
  mul_of_zero m s is = ap (λ i. i * s) is ∙ zero-mul s

  -- Law: The text of n items has the bytes of each, and n - 1 times those of the separator.
  pub length_joined : (xs : List A) → length (joined show separator xs) ≡ sum_by (λ x. length (show x)) xs + (length xs - 1) * length separator
  length_joined [] = omega (arith, mul_of_zero (length {A = A} [] - 1) (length separator) (omega arith))
  length_joined (x ∷ []) = omega (arith, mul_of_zero (length (x ∷ []) - 1) (length separator) (omega arith), sum_by-cons (λ x. length (show x)) x [])
  length_joined (x ∷ y ∷ xs) =
      let both = length-append (show x) (separator ++ joined show separator (y ∷ xs)) in
      let rest = length-append separator (joined show separator (y ∷ xs)) in
      let more = mul_of_one_more (length (x ∷ y ∷ xs) - 1) (length (y ∷ xs) - 1) (length separator) (omega arith) in
      omega (arith, both, rest, more, length_joined (y ∷ xs), sum_by-cons (λ x. length (show x)) x (y ∷ xs))

  -- the text of x, and then what comes after it
  joined_first : (x : A) (after : List A) → joined show separator (x ∷ after) ≡ show x ++ joined_after show separator after
  joined_first x [] = sym (append-nil (show x))
  joined_first x (y ∷ after) = refl

  joined_one_more : (w x : A) (before after : List A) → joined show separator (w ∷ before ++ x ∷ after) ≡ show w ++ (separator ++ joined show separator (before ++ x ∷ after))
  joined_one_more w x [] after = refl
  joined_one_more w x (v ∷ before) after = refl

  -- The text of an item stands where those of the items before it end, each with a separator, and then comes the separator, if an item comes after it.
  pub stands_in_text : (before : List A) (x : A) (after : List A) → StandsInText show separator before x after
  stands_in_text [] x after = ([], joined_first x after, omega (arith, zero-mul (length separator)))
  stands_in_text (w ∷ before) x after =
      let rest = stands_in_text before x after in
      let tail = show x ++ joined_after show separator after in
      let front = show w ++ (separator ++ rest.0) in
      let joined_is = joined_one_more w x before after ∙ ap (λ t. show w ++ (separator ++ t)) rest.1 ∙ ap (λ t. show w ++ t) (sym (append_assoc separator rest.0 tail)) ∙ sym (append_assoc (show w) (separator ++ rest.0) tail) in
      let first = length-append (show w) (separator ++ rest.0) in
      let second = length-append separator rest.0 in
      let more = mul_of_one_more (length (w ∷ before)) (length before) (length separator) (omega arith) in
      (front, joined_is, omega (arith, first, second, more, rest.2, sum_by-cons (λ y. length (show y)) w before))
