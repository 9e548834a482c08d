-- The parts of `Chain`, from the front and from the back, and what it lists.
use Rattle.std.specs.Prelude.{◌≡◌, true, false, List, [], ◌∷◌, Result, Ok, Err}
use Rattle.std.proofs.Common.{refl, sym, ap, subst, inl, inr}
use Rattle.fallible_contract.specs.Contract.{Contract, parts_as}
use Rattle.fallible_contract.specs.Lists.{AlwaysGives, Lists, result_answer}
use Rattle.fallible_contract.proofs.Lemmas.Lists.Passing.{lists_seen}
use Rattle.fallible_contract.specs.Traces.{Answered, end, is_end}
use Rattle.fallible_core.specs.Joining.Chain.{chained, chain_step, chain_parts, chain_back, chain_contract}
use Rattle.fallible_core.specs.declared.joining.chain.Chain.{Chain}
use Rattle.fallible_core.specs.declared.joining.chain.StillDrawn.{StillDrawn}
use Rattle.fallible_core.specs.declared.joining.chain.StillDrawn.TheVariants.{Both, SecondAlone}

-- ---- values and their parts, from the front and from the back

-- the value of its parts
abbrev pub of_parts : {T U : Type 0} → T × U × StillDrawn → Chain T U
of_parts p = record { first = p.0; second = p.1; still_drawn = p.2 }

-- the parts seen from the back, and the value of them
abbrev pub chain_parts_back : {T U : Type 0} → Chain T U → U × T × StillDrawn
chain_parts_back s = chain_back (chain_parts s)

abbrev pub of_parts_back : {T U : Type 0} → U × T × StillDrawn → Chain T U
of_parts_back p = of_parts (chain_back p)

-- ---- what it lists

pub item_not_end : {A E : Type 0} (y : Result A E) → end ≡ result_answer y → ⊥
item_not_end (Ok x) e = absurd cc
item_not_end (Err x) e = absurd cc

module _ {S U A E : Type 0} (steps : S → Answered A E → S → Type 0) (others : U → Answered A E → U → Type 0) where
  abbrev GivesInChain : S → U → StillDrawn → List (Result A E) → Type 0
  GivesInChain s u drawn l = AlwaysGives (chain_step steps others) (s, u, drawn) l

  gives_second_where_second_alone : (b : List (Result A E)) (s : S) (u : U) → AlwaysGives others u b → GivesInChain s u SecondAlone b
  gives_second_where_second_alone [] s u g = λ r q w. g r q.1 w.0
  gives_second_where_second_alone (y ∷ b) s u g = λ r q w. let d = g r q.1 w.0 in (d.0, subst (λ (k : StillDrawn). GivesInChain q.0 q.1 k b) (sym w.2) (gives_second_where_second_alone b q.0 q.1 d.1))

  -- one draw at the first's end
  gives_second_where_first_ended : (b : List (Result A E)) (s : S) (u : U) → AlwaysGives {A = A} {E = E} steps s [] → AlwaysGives others u b → GivesInChain s u Both b
  gives_second_where_first_ended [] s u f g = λ r q w. elim w [ inl p ↦ f r q.0 p.0 | inr p ↦ g r q.1 p.1 ]
  gives_second_where_first_ended (y ∷ b) s u f g = λ r q w. elim w [
    | inl p ↦ absurd (let e = f r q.0 p.0 in let no : is_end r ≡ false = p.1 in let yes : is_end r ≡ true = ap is_end e in cc)
    | inr p ↦ let d = g r q.1 p.1 in (d.0, subst (λ (k : StillDrawn). GivesInChain q.0 q.1 k b) (sym p.2) (gives_second_where_second_alone b q.0 q.1 d.1))
  ]

  gives_chained : (a b : List (Result A E)) (s : S) (u : U) → AlwaysGives steps s a → AlwaysGives others u b → GivesInChain s u Both (chained a b)
  unfolding chained
  gives_chained [] b s u f g = gives_second_where_first_ended b s u f g
  gives_chained (y ∷ a) b s u f g = λ r q w. elim w [
    | inl p ↦ let d = f r q.0 p.0 in (d.0, rw (p.2, p.3) (gives_chained a b q.0 u d.1 g))
    | inr p ↦ absurd (item_not_end y (f end q.0 p.0).0)
  ]

pub lists_chained : {S U A E : Type 0} (m : Contract S A E) (k : Contract U A E) (c : Chain S U) (s : S) (a b : List (Result A E)) → chain_parts c ≡ (s, c.second, Both) → Lists m.steps s a → Lists k.steps c.second b → Lists (parts_as chain_parts (chain_contract m k)).steps c (chained a b)
lists_chained m k c s a b parts f g = lists_seen chain_parts (chain_step m.steps k.steps) c parts refl (gives_chained m.steps k.steps a b s c.second f.runs g.runs)
