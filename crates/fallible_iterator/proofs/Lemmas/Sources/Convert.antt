-- What `Convert` lists.
use Rattle.std.specs.Prelude.{◌≡◌, ℕ, IfSome, Option, Some, None, Result, Ok, Err, List, [], ◌∷◌, reverse, length, slice_index_or, zero, suc, ◌<◌}
use Rattle.std.specs.List.{HoldsAt, slice_get}
use Rattle.std.specs.Option.{option_map}
use Rattle.std.proofs.Common.{refl, ap, sym, subst, ◌∙◌, arith}
use Rattle.std.proofs.iter.runs.Lists.{none-some}
use Rattle.std.proofs.iter.runs.Made.{at-is}
use Rattle.std.specs.Iterator.{Count}
use Rattle.fallible_contract.specs.Contract.{parts_as}
use Rattle.fallible_contract.specs.Lists.{Lists, RunsRead, RunsReadBack, results, items, reversed}
use Rattle.fallible_contract.proofs.Lemmas.Lists.Passing.{lists_seen}
use Rattle.fallible_iterator.specs.Sources.Convert.{ItemsRead, convert_parts, convert_contract}
use Rattle.fallible_iterator.specs.Laws.Sources.Listed.{map_id_is_results, map_is_items, answer_of_first_result}
use Rattle.fallible_iterator.proofs.Lemmas.Sources.Std.{gives_read, runs_read_back}
use Rattle.fallible_contract.proofs.Lemmas.BothEnds.Passing.{map-reverse}
use Rattle.fallible_iterator.specs.declared.sources.convert.Convert.{Convert}

results_reversed : {A E : Type 0} (l : List (Result A E)) → results (reverse l) ≡ reversed (results l)
unfolding results reversed
results_reversed l = refl

pub items_reversed : {A E : Type 0} (l : List A) → items {E = E} (reverse l) ≡ reversed (items l)
unfolding reversed
items_reversed l = sym (map_is_items (reverse l)) ∙ map-reverse (λ x. Ok x) l ∙ ap reverse (map_is_items l)

module _ {S A E : Type 0} (can : S → Type 0) (gives : S → Option (Result A E) → S → Type 0) (remaining : S → Count) (s : Convert S) where
  pub lists_results : (l : List (Result A E)) → RunsRead gives (λ y. y) s.it l → Lists (parts_as convert_parts (convert_contract can gives remaining)).steps s (results l)
  lists_results l reads = lists_seen convert_parts (convert_contract can gives remaining).steps s refl (map_id_is_results l) (gives_read Ok Err can gives remaining (λ y. y) (λ y. y) answer_of_first_result l s.it reads)

  pub lists_items : (l : List A) → RunsRead gives Ok s.it l → Lists (parts_as convert_parts (convert_contract can gives remaining)).steps s (items l)
  lists_items l reads = lists_seen convert_parts (convert_contract can gives remaining).steps s refl (map_is_items l) (gives_read Ok Err can gives remaining (λ x. Ok x) (λ x. Ok x) (λ r x. answer_of_first_result r (Ok x)) l s.it reads)

  -- the same, where the std iterator is known by another name
  pub lists_items_of : {it : S} → convert_parts s ≡ it → (l : List A) → RunsRead gives Ok it l → Lists (parts_as convert_parts (convert_contract can gives remaining)).steps s (items l)
  lists_items_of at l reads = lists_items l (subst (λ (q : S). RunsRead gives (λ x. Ok x) q l) (sym at) reads)

  -- from the back
  pub lists_results_back : (l : List (Result A E)) → RunsReadBack gives (λ y. y) s.it l → Lists (parts_as convert_parts (convert_contract can gives remaining)).steps s (reversed (results l))
  lists_results_back l reads = subst (Lists (parts_as convert_parts (convert_contract can gives remaining)).steps s) (results_reversed l) (lists_results (reverse l) (runs_read_back gives (λ y. y) s.it l reads))

  pub lists_items_back : (l : List A) → RunsReadBack gives Ok s.it l → Lists (parts_as convert_parts (convert_contract can gives remaining)).steps s (reversed (items l))
  lists_items_back l reads = subst (Lists (parts_as convert_parts (convert_contract can gives remaining)).steps s) (items_reversed l) (lists_items (reverse l) (runs_read_back gives (λ x. Ok x) s.it l reads))

-- ---- elements in an `Ok`

index_below_length : {Z : Type 0} (zs : List Z) (k : ℕ) (z : Z) → slice_get zs k ≡ Some z → k < length zs
index_below_length [] k z e = absurd (none-some z e)
index_below_length (y ∷ zs) zero z e = omega arith
index_below_length (y ∷ zs) (suc k) z e = omega (arith, index_below_length zs k z e)

module _ {S A E : Type 0} (gives : S → Option (Result A E) → S → Type 0) (s : S) (l : List A) where
  element_at_place : (o : Option (Result A E)) (k : ℕ) (d : A) (z : Result A E) → option_map (λ y. y) o ≡ Some z → IfSome o (λ y. HoldsAt (λ x. y ≡ Ok x) l k) → o ≡ Some (Ok (slice_index_or l k d))
  element_at_place None k d z e h = absurd cc
  element_at_place (Some y) k d z e h = let is = h d in cc

  -- what is read in the words of any list
  pub runs_read_items : ItemsRead gives s l → RunsRead gives Ok s l
  runs_read_items reads p trigger from = let q = reads p trigger from in (q.0, q.1, λ k d lt. element_at_place (p.at k) k d _ (p.reads k (Ok d) lt) (q.2 k))

  item_at_place_if_read : (o : Option (Result A E)) (k n : ℕ) → ((z : Result A E) → o ≡ Some z → k < n) → ((d : A) → k < n → o ≡ Some (Ok (slice_index_or l k d))) → IfSome o (λ y. HoldsAt (λ x. y ≡ Ok x) l k)
  item_at_place_if_read None k n lt at = tt
  item_at_place_if_read (Some y) k n lt at = λ d. let e = at d (lt y refl) in cc

  -- and the other way round
  pub items_read_of_convert : RunsRead gives Ok s l → ItemsRead gives s l
  items_read_of_convert reads p trigger from = let q = reads p trigger from in (q.0, q.1, λ k. item_at_place_if_read (p.at k) k p.len (λ z e. let long = p.long in let lt = index_below_length p.items k z (sym (at-is p k) ∙ e) in omega (arith, long, lt)) (λ d lt. q.2 k d lt))
