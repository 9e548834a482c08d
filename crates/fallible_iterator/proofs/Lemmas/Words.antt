-- What list words come to, of one another and of items alone: equations, each named by its left side. Where a closure is written `λ x. Ok (f x)`, it never fails.
use Rattle.std.specs.Prelude.{◌≡◌, ℕ, zero, suc, ◌+◌, ◌≤◌, List, [], ◌∷◌, ◌++◌, length, map, take, drop, min, filter, fold, Bool, true, false, cond, ◌&&◌, ◌||◌, Option, Some, None, Result, Ok, Err, reverse, option_map}
use Rattle.std.proofs.Common.{refl, sym, ap, ◌∙◌, arith}
use Rattle.std.specs.List.{last_or, find, list_all, list_any}
use Rattle.std.proofs.lemmas.List.{reverse-append, append-nil}
use Rattle.fallible_contract.specs.Lists.{items, reversed, on_value, one_more_than, counted, nth_of, searched, decided, picked_or, all_of, any_of, found, find_mapped, position_in, each_done, before, collected, last_of, folded}
use Rattle.fallible_contract.specs.Searching.{all_pick, any_pick, find_pick, find_map_pick, position_pick, for_each_pick}
use Rattle.fallible_core.specs.OneToOne.Map.{mapped}
use Rattle.fallible_core.specs.Filtering.Filter.{cons_if, filtered}
use Rattle.fallible_core.specs.Filtering.FilterMap.{cons_some, filter_mapped}
use Rattle.fallible_core.specs.Cutting.Take.{taken}
use Rattle.fallible_core.specs.Cutting.Skip.{skipped}
use Rattle.fallible_core.specs.Joining.Chain.{chained}

on_values : {A B E : Type 0} {f g : A → Result B E} (r : Result A E) → ((x : A) → f x ≡ g x) → on_value r f ≡ on_value r g
on_values (Ok x) same = same x
on_values (Err e) same = refl

-- ---- of items alone

module _ {A E : Type 0} where
  pub chained_items : (xs ys : List A) → chained {E = E} (items xs) (items ys) ≡ items (xs ++ ys)
  unfolding items chained
  chained_items [] ys = refl
  chained_items (x ∷ xs) ys = ap (λ (t : List (Result A E)). Ok x ∷ t) (chained_items xs ys)

  pub counted_items : (xs : List A) → counted {E = E} (items xs) ≡ Ok (length xs)
  unfolding items counted
  counted_items [] = refl
  counted_items (x ∷ xs) = ap one_more_than (counted_items xs) ∙ ap Ok (omega arith)

  pub collected_items : (xs : List A) → collected {E = E} (items xs) ≡ Ok xs
  unfolding items collected
  collected_items [] = refl
  collected_items (x ∷ xs) = ap (before x) (collected_items xs)

  pub taken_items : (n : ℕ) (xs : List A) → taken {E = E} n (items xs) ≡ items (take n xs)
  unfolding items taken
  taken_items zero xs = refl
  taken_items (suc n) [] = refl
  taken_items (suc n) (x ∷ xs) = ap (λ (t : List (Result A E)). Ok x ∷ t) (taken_items n xs)

  pub skipped_items : (n : ℕ) (xs : List A) → skipped {E = E} n (items xs) ≡ items (drop n xs)
  unfolding items skipped
  skipped_items zero [] = refl
  skipped_items zero (x ∷ xs) = ap (λ (t : List (Result A E)). Ok x ∷ t) (skipped_items zero xs)
  skipped_items (suc n) [] = refl
  skipped_items (suc n) (x ∷ xs) = skipped_items n xs

module _ {A B E : Type 0} where
  pub mapped_items : (f : A → B) (xs : List A) → mapped {E = E} (λ x. Ok (f x)) (items xs) ≡ items (map f xs)
  unfolding items mapped
  mapped_items f [] = refl
  mapped_items f (x ∷ xs) = ap (λ (t : List (Result B E)). Ok (f x) ∷ t) (mapped_items f xs)

  pub folded_items : {E' : Type 0} (convert : E → E') (f : B → A → B) (b : B) (xs : List A) → folded convert (λ b x. Ok (f b x)) b (items xs) ≡ Ok (fold f b xs)
  unfolding items folded
  folded_items convert f b [] = refl
  folded_items convert f b (x ∷ xs) = folded_items convert f (f b x) xs

module _ {A E : Type 0} (p : A → Bool) where
  cons_if_items : (x : A) (xs : List A) (t : List (Result A E)) (b : Bool) → t ≡ items xs → cons_if x (Ok b) t ≡ items (cond b (x ∷ xs) xs)
  unfolding items
  cons_if_items x xs t true e = ap (λ (t : List (Result A E)). Ok x ∷ t) e
  cons_if_items x xs t false e = e

  pub filtered_items : (xs : List A) → filtered {E = E} (λ x. Ok (p x)) (items xs) ≡ items (filter p xs)
  unfolding items filtered
  filtered_items [] = refl
  filtered_items (x ∷ xs) = cons_if_items x (filter p xs) _ (p x) (filtered_items xs)

-- ---- one list and then another

module _ {E : Type 0} where
  one_more_than_sum : (n : Result ℕ E) (k : Result ℕ E) → one_more_than (on_value n (λ n. on_value k (λ k. Ok (n + k)))) ≡ on_value (one_more_than n) (λ n. on_value k (λ k. Ok (n + k)))
  one_more_than_sum (Ok n) (Ok k) = ap Ok (omega arith)
  one_more_than_sum (Ok n) (Err e) = refl
  one_more_than_sum (Err e) k = refl

  on_value_zero : (k : Result ℕ E) → k ≡ on_value k (λ k. Ok (0 + k))
  on_value_zero (Ok k) = ap Ok (omega arith)
  on_value_zero (Err e) = refl

module _ {A E : Type 0} where
  pub chained_nil : (l : List (Result A E)) → chained l [] ≡ l
  unfolding chained
  chained_nil [] = refl
  chained_nil (y ∷ l) = ap (λ t. y ∷ t) (chained_nil l)

  pub chained_append : (a b : List (Result A E)) → chained a b ≡ a ++ b
  unfolding chained
  chained_append [] b = refl
  chained_append (y ∷ a) b = ap (λ t. y ∷ t) (chained_append a b)

  pub chained_chained : (a b c : List (Result A E)) → chained (chained a b) c ≡ chained a (chained b c)
  unfolding chained
  chained_chained [] b c = refl
  chained_chained (y ∷ a) b c = ap (λ t. y ∷ t) (chained_chained a b c)

  pub reversed_chained : (a b : List (Result A E)) → reversed (chained a b) ≡ chained (reversed b) (reversed a)
  unfolding reversed
  reversed_chained a b = ap reverse (chained_append a b) ∙ reverse-append a b ∙ sym (chained_append (reverse b) (reverse a))

  pub counted_chained : (a b : List (Result A E)) → counted (chained a b) ≡ on_value (counted a) (λ n. on_value (counted b) (λ k. Ok (n + k)))
  unfolding chained counted
  counted_chained [] b = on_value_zero (counted b)
  counted_chained (Ok x ∷ a) b = ap one_more_than (counted_chained a b) ∙ one_more_than_sum (counted a) (counted b)
  counted_chained (Err e ∷ a) b = refl

  before_joined : (x : A) (xs ys : Result (List A) E) → before x (on_value xs (λ xs. on_value ys (λ ys. Ok (xs ++ ys)))) ≡ on_value (before x xs) (λ xs. on_value ys (λ ys. Ok (xs ++ ys)))
  before_joined x (Ok xs) (Ok ys) = refl
  before_joined x (Ok xs) (Err e) = refl
  before_joined x (Err e) ys = refl

  on_value_nil : (ys : Result (List A) E) → ys ≡ on_value ys (λ ys. Ok ([] ++ ys))
  on_value_nil (Ok ys) = refl
  on_value_nil (Err e) = refl

  pub collected_chained : (a b : List (Result A E)) → collected (chained a b) ≡ on_value (collected a) (λ xs. on_value (collected b) (λ ys. Ok (xs ++ ys)))
  unfolding chained collected
  collected_chained [] b = on_value_nil (collected b)
  collected_chained (Ok x ∷ a) b = ap (before x) (collected_chained a b) ∙ before_joined x (collected a) (collected b)
  collected_chained (Err e ∷ a) b = refl

module _ {A B E E' : Type 0} (convert : E → E') (h : B → A → Result B E') where
  on_value_folded : (a b : List (Result A E)) (r : Result B E') → ((c : B) → folded convert h c (chained a b) ≡ on_value (folded convert h c a) (λ c. folded convert h c b)) → on_value r (λ c. folded convert h c (chained a b)) ≡ on_value (on_value r (λ c. folded convert h c a)) (λ c. folded convert h c b)
  on_value_folded a b (Ok c) rest = rest c
  on_value_folded a b (Err e) rest = refl

  pub folded_chained : (c : B) (a b : List (Result A E)) → folded convert h c (chained a b) ≡ on_value (folded convert h c a) (λ c. folded convert h c b)
  unfolding chained folded
  folded_chained c [] b = refl
  folded_chained c (Ok x ∷ a) b = on_value_folded a b (h c x) (λ d. folded_chained d a b)
  folded_chained c (Err e ∷ a) b = refl

-- ---- h x in the place of each item x

module _ {A B E : Type 0} (h : A → Result B E) where
  pub mapped_chained : (a b : List (Result A E)) → mapped h (chained a b) ≡ chained (mapped h a) (mapped h b)
  unfolding chained mapped
  mapped_chained [] b = refl
  mapped_chained (Ok x ∷ a) b = ap (λ t. h x ∷ t) (mapped_chained a b)
  mapped_chained (Err e ∷ a) b = ap (λ (t : List (Result B E)). Err e ∷ t) (mapped_chained a b)

  -- of a first answer
  mapped_first : {C : Type 0} (g : B → Result C E) (r : Result B E) (l : List (Result B E)) → mapped g (r ∷ l) ≡ on_value r g ∷ mapped g l
  unfolding mapped
  mapped_first g (Ok y) l = refl
  mapped_first g (Err e) l = refl

  pub mapped_mapped : {C : Type 0} (g : B → Result C E) (l : List (Result A E)) → mapped g (mapped h l) ≡ mapped (λ x. on_value (h x) g) l
  unfolding mapped
  mapped_mapped g [] = refl
  mapped_mapped {C = C} g (Ok x ∷ l) = mapped_first g (h x) (mapped h l) ∙ ap (λ t. on_value (h x) g ∷ t) (mapped_mapped g l)
  mapped_mapped {C = C} g (Err e ∷ l) = ap (λ (t : List (Result C E)). Err e ∷ t) (mapped_mapped g l)

  -- of a last answer
  mapped_appended : (l : List (Result A E)) (y : Result A E) → mapped h (l ++ y ∷ []) ≡ mapped h l ++ mapped h (y ∷ [])
  mapped_appended l y = ap (mapped h) (sym (chained_append l (y ∷ []))) ∙ mapped_chained l (y ∷ []) ∙ chained_append (mapped h l) (mapped h (y ∷ []))

  pub reversed_mapped : (l : List (Result A E)) → reversed (mapped h l) ≡ mapped h (reversed l)
  unfolding reversed mapped
  reversed_mapped [] = refl
  reversed_mapped (Ok x ∷ l) = reverse-append (h x ∷ []) (mapped h l) ∙ ap (λ t. t ++ h x ∷ []) (reversed_mapped l) ∙ sym (mapped_appended (reverse l) (Ok x)) ∙ ap (mapped h) (sym (reverse-append (Ok x ∷ []) l))
  reversed_mapped (Err e ∷ l) = reverse-append (Err e ∷ []) (mapped h l) ∙ ap (λ t. t ++ Err e ∷ []) (reversed_mapped l) ∙ sym (mapped_appended (reverse l) (Err e)) ∙ ap (mapped h) (sym (reverse-append (Err e ∷ []) l))

last_or_mapped : {A B : Type 0} (f : A → B) (o : Option A) (xs : List A) → last_or (option_map f o) (map f xs) ≡ option_map f (last_or o xs)
last_or_mapped f o [] = refl
last_or_mapped f o (x ∷ xs) = last_or_mapped f (Some x) xs

-- the closure never fails
module _ {A B E : Type 0} (f : A → B) where
  pub counted_mapped : (l : List (Result A E)) → counted (mapped (λ x. Ok (f x)) l) ≡ counted l
  unfolding mapped counted
  counted_mapped [] = refl
  counted_mapped (Ok x ∷ l) = ap one_more_than (counted_mapped l)
  counted_mapped (Err e ∷ l) = refl

  before_all_mapped : (x : A) (xs : Result (List A) E) → before (f x) (on_value xs (λ xs. Ok (map f xs))) ≡ on_value (before x xs) (λ xs. Ok (map f xs))
  before_all_mapped x (Ok xs) = refl
  before_all_mapped x (Err e) = refl

  pub collected_mapped : (l : List (Result A E)) → collected (mapped (λ x. Ok (f x)) l) ≡ on_value (collected l) (λ xs. Ok (map f xs))
  unfolding mapped collected
  collected_mapped [] = refl
  collected_mapped (Ok x ∷ l) = ap (before (f x)) (collected_mapped l) ∙ before_all_mapped x (collected l)
  collected_mapped (Err e ∷ l) = refl

  pub taken_mapped : (n : ℕ) (l : List (Result A E)) → taken n (mapped (λ x. Ok (f x)) l) ≡ mapped (λ x. Ok (f x)) (taken n l)
  unfolding mapped taken
  taken_mapped zero l = refl
  taken_mapped (suc n) [] = refl
  taken_mapped (suc n) (Ok x ∷ l) = ap (λ (t : List (Result B E)). Ok (f x) ∷ t) (taken_mapped n l)
  taken_mapped (suc n) (Err e ∷ l) = ap (λ (t : List (Result B E)). Err e ∷ t) (taken_mapped (suc n) l)

  pub skipped_mapped : (n : ℕ) (l : List (Result A E)) → skipped n (mapped (λ x. Ok (f x)) l) ≡ mapped (λ x. Ok (f x)) (skipped n l)
  unfolding mapped skipped
  skipped_mapped n [] = refl
  skipped_mapped zero (Ok x ∷ l) = ap (λ (t : List (Result B E)). Ok (f x) ∷ t) (skipped_mapped zero l)
  skipped_mapped (suc n) (Ok x ∷ l) = skipped_mapped n l
  skipped_mapped n (Err e ∷ l) = ap (λ (t : List (Result B E)). Err e ∷ t) (skipped_mapped n l)

  pub nth_of_mapped : (n : ℕ) (l : List (Result A E)) → nth_of n (mapped (λ x. Ok (f x)) l) ≡ on_value (nth_of n l) (λ o. Ok (option_map f o))
  unfolding mapped nth_of
  nth_of_mapped n [] = refl
  nth_of_mapped zero (Ok x ∷ l) = refl
  nth_of_mapped (suc n) (Ok x ∷ l) = nth_of_mapped n l
  nth_of_mapped n (Err e ∷ l) = refl

  on_value_last_or : (xs : Result (List A) E) → on_value (on_value xs (λ xs. Ok (map f xs))) (λ ys. Ok (last_or None ys)) ≡ on_value (on_value xs (λ xs. Ok (last_or None xs))) (λ o. Ok (option_map f o))
  on_value_last_or (Ok xs) = ap Ok (last_or_mapped f None xs)
  on_value_last_or (Err e) = refl

  pub last_of_mapped : (l : List (Result A E)) → last_of (mapped (λ x. Ok (f x)) l) ≡ on_value (last_of l) (λ o. Ok (option_map f o))
  unfolding last_of
  last_of_mapped l = ap (λ xs. on_value xs (λ ys. Ok (last_or None ys))) (collected_mapped l) ∙ on_value_last_or (collected l)

  pub folded_mapped : {C E' : Type 0} (convert : E → E') (g : C → B → Result C E') (c : C) (l : List (Result A E)) → folded convert g c (mapped (λ x. Ok (f x)) l) ≡ folded convert (λ c x. g c (f x)) c l
  unfolding mapped folded
  folded_mapped convert g c [] = refl
  folded_mapped convert g c (Ok x ∷ l) = on_values (g c (f x)) (λ d. folded_mapped convert g d l)
  folded_mapped convert g c (Err e ∷ l) = refl

-- ---- what is kept of a list

module _ {A E : Type 0} where
  -- of a first item
  filtered_first : (g : A → Result Bool E) (x : A) (v : Result Bool E) (t : List (Result A E)) → filtered g (cons_if x v t) ≡ cons_if x (on_value v (λ b. cond b (g x) (Ok false))) (filtered g t)
  unfolding filtered
  filtered_first g x (Ok true) t = refl
  filtered_first g x (Ok false) t = refl
  filtered_first g x (Err e) t = refl

  pub filtered_filtered : (g h : A → Result Bool E) (l : List (Result A E)) → filtered g (filtered h l) ≡ filtered (λ x. on_value (h x) (λ b. cond b (g x) (Ok false))) l
  unfolding filtered
  filtered_filtered g h [] = refl
  filtered_filtered g h (Ok x ∷ l) = filtered_first g x (h x) (filtered h l) ∙ ap (λ t. cons_if x (on_value (h x) (λ b. cond b (g x) (Ok false))) t) (filtered_filtered g h l)
  filtered_filtered g h (Err e ∷ l) = ap (λ (t : List (Result A E)). Err e ∷ t) (filtered_filtered g h l)

  cons_if_chained : (x : A) (v : Result Bool E) (a b : List (Result A E)) → cons_if x v (chained a b) ≡ chained (cons_if x v a) b
  unfolding chained
  cons_if_chained x (Ok true) a b = refl
  cons_if_chained x (Ok false) a b = refl
  cons_if_chained x (Err e) a b = refl

  pub filtered_chained : (h : A → Result Bool E) (a b : List (Result A E)) → filtered h (chained a b) ≡ chained (filtered h a) (filtered h b)
  unfolding chained filtered
  filtered_chained h [] b = refl
  filtered_chained h (Ok x ∷ a) b = ap (λ t. cons_if x (h x) t) (filtered_chained h a b) ∙ cons_if_chained x (h x) (filtered h a) (filtered h b)
  filtered_chained h (Err e ∷ a) b = ap (λ (t : List (Result A E)). Err e ∷ t) (filtered_chained h a b)

  reverse_cons_if : (x : A) (v : Result Bool E) (t : List (Result A E)) → reverse (cons_if x v t) ≡ reverse t ++ cons_if x v []
  reverse_cons_if x (Ok true) t = reverse-append (Ok x ∷ []) t
  reverse_cons_if x (Ok false) t = sym (append-nil (reverse t))
  reverse_cons_if x (Err e) t = reverse-append (Err e ∷ []) t

  -- of a last answer
  filtered_appended : (h : A → Result Bool E) (l : List (Result A E)) (y : Result A E) → filtered h (l ++ y ∷ []) ≡ filtered h l ++ filtered h (y ∷ [])
  filtered_appended h l y = ap (filtered h) (sym (chained_append l (y ∷ []))) ∙ filtered_chained h l (y ∷ []) ∙ chained_append (filtered h l) (filtered h (y ∷ []))

  pub reversed_filtered : (h : A → Result Bool E) (l : List (Result A E)) → reversed (filtered h l) ≡ filtered h (reversed l)
  unfolding reversed filtered
  reversed_filtered h [] = refl
  reversed_filtered h (Ok x ∷ l) = reverse_cons_if x (h x) (filtered h l) ∙ ap (λ t. t ++ cons_if x (h x) []) (reversed_filtered h l) ∙ sym (filtered_appended h (reverse l) (Ok x)) ∙ ap (filtered h) (sym (reverse-append (Ok x ∷ []) l))
  reversed_filtered h (Err e ∷ l) = reverse-append (Err e ∷ []) (filtered h l) ∙ ap (λ t. t ++ Err e ∷ []) (reversed_filtered h l) ∙ sym (filtered_appended h (reverse l) (Err e)) ∙ ap (filtered h) (sym (reverse-append (Err e ∷ []) l))

module _ {A B E : Type 0} (f : A → B) where
  cons_if_mapped : (x : A) (v : Result Bool E) (t : List (Result A E)) → cons_if (f x) v (mapped (λ x. Ok (f x)) t) ≡ mapped (λ x. Ok (f x)) (cons_if x v t)
  unfolding mapped
  cons_if_mapped x (Ok true) t = refl
  cons_if_mapped x (Ok false) t = refl
  cons_if_mapped x (Err e) t = refl

  pub filtered_mapped : (p : B → Result Bool E) (l : List (Result A E)) → filtered p (mapped (λ x. Ok (f x)) l) ≡ mapped (λ x. Ok (f x)) (filtered (λ x. p (f x)) l)
  unfolding mapped filtered
  filtered_mapped p [] = refl
  filtered_mapped p (Ok x ∷ l) = ap (λ t. cons_if (f x) (p (f x)) t) (filtered_mapped p l) ∙ cons_if_mapped x (p (f x)) (filtered (λ x. p (f x)) l)
  filtered_mapped p (Err e ∷ l) = ap (λ (t : List (Result B E)). Err e ∷ t) (filtered_mapped p l)

  cons_some_mapped : (x : A) (b : Bool) (t : List (Result A E)) → cons_some (Ok (cond b (Some (f x)) None)) (mapped (λ x. Ok (f x)) t) ≡ mapped (λ x. Ok (f x)) (cons_if x (Ok b) t)
  unfolding mapped
  cons_some_mapped x true t = refl
  cons_some_mapped x false t = refl

  pub filter_mapped_where : (p : A → Bool) (l : List (Result A E)) → filter_mapped (λ x. Ok (cond (p x) (Some (f x)) None)) l ≡ mapped (λ x. Ok (f x)) (filtered (λ x. Ok (p x)) l)
  unfolding mapped filtered filter_mapped
  filter_mapped_where p [] = refl
  filter_mapped_where p (Ok x ∷ l) = ap (λ t. cons_some (Ok (cond (p x) (Some (f x)) None)) t) (filter_mapped_where p l) ∙ cons_some_mapped x (p x) (filtered (λ x. Ok (p x)) l)
  filter_mapped_where p (Err e ∷ l) = ap (λ (t : List (Result B E)). Err e ∷ t) (filter_mapped_where p l)

module _ {A E : Type 0} (p : A → Bool) where
  collected_cons_if : (x : A) (r : Result (List A) E) (t : List (Result A E)) (b : Bool) → p x ≡ b → collected t ≡ on_value r (λ xs. Ok (filter p xs)) → collected (cons_if x (Ok b) t) ≡ on_value (before x r) (λ xs. Ok (filter p xs))
  unfolding collected
  collected_cons_if x (Ok xs) t true is e = ap (before x) e ∙ ap (λ b. Ok (cond b (x ∷ filter p xs) (filter p xs))) (sym is)
  collected_cons_if x (Ok xs) t false is e = e ∙ ap (λ b. Ok (cond b (x ∷ filter p xs) (filter p xs))) (sym is)
  collected_cons_if x (Err d) t true is e = ap (before x) e
  collected_cons_if x (Err d) t false is e = e

  pub collected_filtered : (l : List (Result A E)) → collected (filtered (λ x. Ok (p x)) l) ≡ on_value (collected l) (λ xs. Ok (filter p xs))
  unfolding filtered collected
  collected_filtered [] = refl
  collected_filtered (Ok x ∷ l) = collected_cons_if x (collected l) (filtered (λ x. Ok (p x)) l) (p x) refl (collected_filtered l)
  collected_filtered (Err e ∷ l) = refl

  module _ {C E' : Type 0} (convert : E → E') (g : C → A → Result C E') where
    folded_cons_if : (x : A) (c : C) (t l : List (Result A E)) (b : Bool) → ((d : C) → folded convert g d t ≡ folded convert (λ c x. cond (p x) (g c x) (Ok c)) d l) → folded convert g c (cons_if x (Ok b) t) ≡ on_value (cond b (g c x) (Ok c)) (λ d. folded convert (λ c x. cond (p x) (g c x) (Ok c)) d l)
    unfolding folded
    folded_cons_if x c t l true rest = on_values (g c x) rest
    folded_cons_if x c t l false rest = rest c

    pub folded_filtered : (c : C) (l : List (Result A E)) → folded convert g c (filtered (λ x. Ok (p x)) l) ≡ folded convert (λ c x. cond (p x) (g c x) (Ok c)) c l
    unfolding filtered folded
    folded_filtered c [] = refl
    folded_filtered c (Ok x ∷ l) = folded_cons_if x c (filtered (λ x. Ok (p x)) l) l (p x) (λ d. folded_filtered d l)
    folded_filtered c (Err e ∷ l) = refl

-- ---- the first and the rest

module _ {A E : Type 0} where
  -- of a list that has no more than n items and failures
  pub taken_whole : (n : ℕ) (l : List (Result A E)) → length l ≤ n → taken n l ≡ l
  unfolding taken
  taken_whole zero [] few = refl
  taken_whole zero (y ∷ l) few = absurd (omega (arith, few))
  taken_whole (suc n) [] few = refl
  taken_whole (suc n) (Ok x ∷ l) few = ap (λ (t : List (Result A E)). Ok x ∷ t) (taken_whole n l (omega (arith, few)))
  taken_whole (suc n) (Err e ∷ l) few = ap (λ (t : List (Result A E)). Err e ∷ t) (taken_whole (suc n) l (omega (arith, few)))

  pub taken_taken : (n k : ℕ) (l : List (Result A E)) → taken n (taken k l) ≡ taken (min n k) l
  unfolding taken
  taken_taken zero k l = let less : zero ≡ min zero k = omega arith in ap (λ i. taken i l) less
  taken_taken (suc n) zero l = let less : zero ≡ min (suc n) zero = omega arith in ap (λ i. taken i l) less
  taken_taken (suc n) (suc k) [] = let less : suc (min n k) ≡ min (suc n) (suc k) = omega arith in ap (λ (i : ℕ). taken {X = A} {E = E} i []) less
  taken_taken (suc n) (suc k) (Ok x ∷ l) = let less : suc (min n k) ≡ min (suc n) (suc k) = omega arith in ap (λ (t : List (Result A E)). Ok x ∷ t) (taken_taken n k l) ∙ ap (λ i. taken i (Ok x ∷ l)) less
  taken_taken (suc n) (suc k) (Err e ∷ l) = let less : suc (min n k) ≡ min (suc n) (suc k) = omega arith in ap (λ (t : List (Result A E)). Err e ∷ t) (taken_taken (suc n) (suc k) l ∙ ap (λ i. taken i l) (sym less)) ∙ ap (λ i. taken i (Err e ∷ l)) less

  pub skipped_zero : (l : List (Result A E)) → skipped zero l ≡ l
  unfolding skipped
  skipped_zero [] = refl
  skipped_zero (Ok x ∷ l) = ap (λ t. Ok x ∷ t) (skipped_zero l)
  skipped_zero (Err e ∷ l) = ap (λ t. Err e ∷ t) (skipped_zero l)

  pub skipped_skipped : (n k : ℕ) (l : List (Result A E)) → skipped n (skipped k l) ≡ skipped (k + n) l
  unfolding skipped
  skipped_skipped n zero l = let same : n ≡ zero + n = omega arith in ap (skipped n) (skipped_zero l) ∙ ap (λ i. skipped i l) same
  skipped_skipped n (suc k) [] = refl
  skipped_skipped n (suc k) (Ok x ∷ l) = (let same : suc (k + n) ≡ suc k + n = omega arith in skipped_skipped n k l ∙ ap (λ i. skipped i (Ok x ∷ l)) same)
  skipped_skipped n (suc k) (Err e ∷ l) = ap (λ (t : List (Result A E)). Err e ∷ t) (skipped_skipped n (suc k) l)

  pub chained_taken_skipped : (n : ℕ) (xs : List A) → chained {E = E} (taken n (items xs)) (skipped n (items xs)) ≡ items xs
  unfolding items taken skipped chained
  chained_taken_skipped zero xs = skipped_zero (items xs)
  chained_taken_skipped (suc n) [] = refl
  chained_taken_skipped (suc n) (x ∷ xs) = ap (λ (t : List (Result A E)). Ok x ∷ t) (chained_taken_skipped n xs)

-- ---- searches

module _ {A B E : Type 0} (h : A → Result B E) where
  module _ {V R : Type 0} (pick : ℕ → B → V → Option R) (pick_before : ℕ → A → V → Option R) (same : (n : ℕ) (y : B) (x : A) (v : V) → pick n y v ≡ pick_before n x v) (none : R) (q : B → Result V E) where
    decided_same : (n : ℕ) (y : B) (x : A) (v : Result V E) {r s : Result R E} → r ≡ s → decided (pick n y) v r ≡ decided (pick_before n x) v s
    decided_same n y x (Ok v) {r = r} e = ap (λ o. picked_or o r) (same n y x v) ∙ ap (picked_or (pick_before n x v)) e
    decided_same n y x (Err d) e = refl

    searched_first : (n : ℕ) (x : A) (r : Result B E) (l : List (Result A E)) → searched pick none q (n + 1) (mapped h l) ≡ searched pick_before none (λ x. on_value (h x) q) (n + 1) l → searched pick none q n (r ∷ mapped h l) ≡ decided (pick_before n x) (on_value r q) (searched pick_before none (λ x. on_value (h x) q) (n + 1) l)
    unfolding searched
    searched_first n x (Ok y) l e = decided_same n y x (q y) e
    searched_first n x (Err d) l e = refl

    searched_mapped : (n : ℕ) (l : List (Result A E)) → searched pick none q n (mapped h l) ≡ searched pick_before none (λ x. on_value (h x) q) n l
    unfolding searched mapped
    searched_mapped n [] = refl
    searched_mapped n (Ok x ∷ l) = searched_first n x (h x) l (searched_mapped (n + 1) l)
    searched_mapped n (Err d ∷ l) = refl

  all_pick_ignores_item : (n : ℕ) (y : B) (x : A) (v : Bool) → all_pick n y v ≡ all_pick n x v
  all_pick_ignores_item n y x true = refl
  all_pick_ignores_item n y x false = refl

  pub all_of_mapped : (q : B → Result Bool E) (l : List (Result A E)) → all_of q (mapped h l) ≡ all_of (λ x. on_value (h x) q) l
  unfolding all_of
  all_of_mapped q l = searched_mapped all_pick all_pick all_pick_ignores_item true q 0 l

  any_pick_ignores_item : (n : ℕ) (y : B) (x : A) (v : Bool) → any_pick n y v ≡ any_pick n x v
  any_pick_ignores_item n y x true = refl
  any_pick_ignores_item n y x false = refl

  pub any_of_mapped : (q : B → Result Bool E) (l : List (Result A E)) → any_of q (mapped h l) ≡ any_of (λ x. on_value (h x) q) l
  unfolding any_of
  any_of_mapped q l = searched_mapped any_pick any_pick any_pick_ignores_item false q 0 l

  position_pick_same : (n : ℕ) (y : B) (x : A) (v : Bool) → position_pick n y v ≡ position_pick n x v
  position_pick_same n y x true = refl
  position_pick_same n y x false = refl

  pub position_in_mapped : (q : B → Result Bool E) (l : List (Result A E)) → position_in q (mapped h l) ≡ position_in (λ x. on_value (h x) q) l
  unfolding position_in
  position_in_mapped q l = searched_mapped position_pick position_pick position_pick_same None q 0 l

  find_map_pick_same : {C : Type 0} (n : ℕ) (y : B) (x : A) (v : Option C) → find_map_pick n y v ≡ find_map_pick n x v
  find_map_pick_same n y x (Some c) = refl
  find_map_pick_same n y x None = refl

  pub find_mapped_mapped : {C : Type 0} (q : B → Result (Option C) E) (l : List (Result A E)) → find_mapped q (mapped h l) ≡ find_mapped (λ x. on_value (h x) q) l
  unfolding find_mapped
  find_mapped_mapped q l = searched_mapped find_map_pick find_map_pick find_map_pick_same None q 0 l

  pub each_done_mapped : (q : B → Result (Unit {0}) E) (l : List (Result A E)) → each_done q (mapped h l) ≡ each_done (λ x. on_value (h x) q) l
  unfolding each_done
  each_done_mapped q l = searched_mapped for_each_pick for_each_pick (λ n y x v. refl) tt q 0 l

module _ {A E : Type 0} (p : A → Bool) where
  decided_all_pick : (n : ℕ) (x : A) (b c : Bool) {r : Result Bool E} → r ≡ Ok c → decided (all_pick n x) (Ok b) r ≡ Ok (b && c)
  decided_all_pick n x true c e = e
  decided_all_pick n x false c e = refl

  searched_all_pick_items : (n : ℕ) (xs : List A) → searched {E = E} all_pick true (λ x. Ok (p x)) n (items xs) ≡ Ok (list_all p xs)
  unfolding items searched
  searched_all_pick_items n [] = refl
  searched_all_pick_items n (x ∷ xs) = decided_all_pick n x (p x) (list_all p xs) (searched_all_pick_items (n + 1) xs)

  pub all_of_items : (xs : List A) → all_of {E = E} (λ x. Ok (p x)) (items xs) ≡ Ok (list_all p xs)
  unfolding all_of
  all_of_items xs = searched_all_pick_items 0 xs

  decided_any_pick : (n : ℕ) (x : A) (b c : Bool) {r : Result Bool E} → r ≡ Ok c → decided (any_pick n x) (Ok b) r ≡ Ok (b || c)
  decided_any_pick n x true c e = refl
  decided_any_pick n x false c e = e

  searched_any_pick_items : (n : ℕ) (xs : List A) → searched {E = E} any_pick false (λ x. Ok (p x)) n (items xs) ≡ Ok (list_any p xs)
  unfolding items searched
  searched_any_pick_items n [] = refl
  searched_any_pick_items n (x ∷ xs) = decided_any_pick n x (p x) (list_any p xs) (searched_any_pick_items (n + 1) xs)

  pub any_of_items : (xs : List A) → any_of {E = E} (λ x. Ok (p x)) (items xs) ≡ Ok (list_any p xs)
  unfolding any_of
  any_of_items xs = searched_any_pick_items 0 xs

  decided_find_pick : (n : ℕ) (x : A) (b : Bool) (o : Option A) {r : Result (Option A) E} → r ≡ Ok o → decided (find_pick n x) (Ok b) r ≡ Ok (cond b (Some x) o)
  decided_find_pick n x true o e = refl
  decided_find_pick n x false o e = e

  searched_find_pick_items : (n : ℕ) (xs : List A) → searched {E = E} find_pick None (λ x. Ok (p x)) n (items xs) ≡ Ok (find p xs)
  unfolding items searched
  searched_find_pick_items n [] = refl
  searched_find_pick_items n (x ∷ xs) = decided_find_pick n x (p x) (find p xs) (searched_find_pick_items (n + 1) xs)

  pub found_items : (xs : List A) → found {E = E} (λ x. Ok (p x)) (items xs) ≡ Ok (find p xs)
  unfolding found
  found_items xs = searched_find_pick_items 0 xs
