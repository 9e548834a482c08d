-- What `IntoFallible` lists.
use Rattle.std.specs.Prelude.{Option, Ok, List, reverse}
use Rattle.std.specs.Iterator.{Count}
use Rattle.std.proofs.Common.{refl, subst}
use Rattle.fallible_contract.specs.Contract.{parts_as}
use Rattle.fallible_contract.specs.Lists.{Lists, RunsRead, RunsReadBack, items, reversed}
use Rattle.fallible_contract.proofs.Lemmas.Lists.Passing.{lists_seen}
use Rattle.fallible_iterator.specs.Sources.IntoFallible.{into_fallible_parts, into_fallible_contract, never}
use Rattle.fallible_iterator.proofs.Lemmas.Sources.Std.{gives_read, runs_read_back}
use Rattle.fallible_iterator.specs.Laws.Sources.Listed.{map_is_items, answer_is_item_where_element_given}
use Rattle.fallible_iterator.proofs.Lemmas.Sources.Convert.{items_reversed}
use Rattle.fallible_iterator.specs.declared.sources.into_fallible.IntoFallible.{IntoFallible}

module _ {S A : Type 0} (can : S → Type 0) (gives : S → Option A → S → Type 0) (remaining : S → Count) (s : IntoFallible S) where
  pub lists_elements : (l : List A) → RunsRead gives (λ x. x) s.it l → Lists (parts_as into_fallible_parts (into_fallible_contract can gives remaining)).steps s (items l)
  lists_elements l reads = lists_seen into_fallible_parts (into_fallible_contract can gives remaining).steps s refl (map_is_items l) (gives_read (λ x. x) never can gives remaining (λ x. x) (λ x. Ok x) answer_is_item_where_element_given l s.it reads)

  -- Law: From the back `IntoFallible` lists what the std iterator reads from the back, each element an item.
  pub lists_elements_back : (l : List A) → RunsReadBack gives (λ x. x) s.it l → Lists (parts_as into_fallible_parts (into_fallible_contract can gives remaining)).steps s (reversed (items l))
  lists_elements_back l reads = subst (Lists (parts_as into_fallible_parts (into_fallible_contract can gives remaining)).steps s) (items_reversed l) (lists_elements (reverse l) (runs_read_back gives (λ x. x) s.it l reads))
