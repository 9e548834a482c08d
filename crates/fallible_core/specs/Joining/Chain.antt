-- `Chain`: one source's answers up to its first end, and then those of another.
use Rattle.std.proofs.Common.{refl}
use Rattle.std.specs.Prelude.{◌≡◌, ◌≢◌, ℕ, ◌+◌, ◌≤◌, false, List, [], ◌∷◌, ◌++◌, Option, ◌⊎◌, Result}
use Rattle.std.specs.Iterator.{Count, count_add}
use Rattle.fallible_contract.specs.Traces.{Answered, Run, first_of, end, is_end, NoEnd}
use Rattle.fallible_contract.specs.Sound.{SoundWhere, as_made_of_both}
use Rattle.fallible_contract.specs.Contract.{Inverse, Contract, lenders_of_both}
use Rattle.fallible_contract.specs.Ends.{Ends}
use Rattle.fallible_contract.specs.Hints.{hint_sum}
use Rattle.fallible_core.specs.declared.joining.chain.StillDrawn.{StillDrawn}
use Rattle.fallible_core.specs.declared.joining.chain.StillDrawn.TheVariants.{Both, FirstAlone, SecondAlone}
use Rattle.fallible_core.specs.declared.joining.chain.Chain.{Chain}

-- The first's trace is a list without an end, and then an end. The answers are that list, and then the second's trace, which isn't empty.
pub record JoinedTrace {S U A E : Type 0} (steps : S → Answered A E → S → Type 0) (others : U → Answered A E → U → Type 0) (s : S) (u : U) (trace : List (Answered A E)) (t : S) (v : U) : Type 0 where
  pub before_end : List (Answered A E)
  pub second_trace : List (Answered A E)
  pub first_drawn : Run steps s (before_end ++ end ∷ []) t
  pub no_end : NoEnd before_end
  pub second_drawn : Run others u second_trace v
  pub not_empty : second_trace ≢ []
  pub answers : trace ≡ before_end ++ second_trace

module _ {S U A E : Type 0} (steps : S → Answered A E → S → Type 0) (others : U → Answered A E → U → Type 0) where
  -- `Chain` of which both sides are still drawn: the first's trace has no end and is the chain's, and the second isn't drawn; or the first met its end, the answers before it and then the second's trace are the chain's, and the second alone is still drawn. If one side alone is still drawn, its trace is the chain's, and the other isn't drawn.
  abbrev pub ChainTrace : S × U × StillDrawn → List (Answered A E) → S × U × StillDrawn → Type 0
  ChainTrace (s, u, Both) trace q = (Run steps s trace q.0 × NoEnd trace × (q.1 ≡ u) × (q.2 ≡ Both)) ⊎ (JoinedTrace steps others s u trace q.0 q.1 × (q.2 ≡ SecondAlone))
  ChainTrace (s, u, FirstAlone) trace q = Run steps s trace q.0 × (q.1 ≡ u) × (q.2 ≡ FirstAlone)
  ChainTrace (s, u, SecondAlone) trace q = Run others u trace q.1 × (q.0 ≡ s) × (q.2 ≡ SecondAlone)

  -- One answer: that of the first, while it isn't an end; at the first's end that of the second, in the same draw; and where one side alone is still drawn, that of this side.
  abbrev pub chain_step : S × U × StillDrawn → Answered A E → S × U × StillDrawn → Type 0
  chain_step (s, u, Both) r q = (steps s r q.0 × (is_end r ≡ false) × (q.1 ≡ u) × (q.2 ≡ Both)) ⊎ (steps s end q.0 × others u r q.1 × (q.2 ≡ SecondAlone))
  chain_step (s, u, FirstAlone) r q = steps s r q.0 × (q.1 ≡ u) × (q.2 ≡ FirstAlone)
  chain_step (s, u, SecondAlone) r q = others u r q.1 × (q.0 ≡ s) × (q.2 ≡ SecondAlone)

-- Its definition over all that both sources return.
abbrev pub chains_all : {S U A E : Type 0} → (S → List (Answered A E) → S → Type 0) → (U → List (Answered A E) → U → Type 0) → S × U × StillDrawn → List (Answered A E) → S × U × StillDrawn → Type 0
chains_all {A = A} {E = E} traces others p trace q = (l : List (Answered A E)) × (k : List (Answered A E)) × traces p.0 l q.0 × others p.1 k q.1 × ChainTrace first_of first_of (l, k, p.2) trace ([], [], q.2)

-- what may still come is what may come of a side that is still drawn
abbrev pub chain_may_come : {S U X : Type 0} → (S → X → Type 0) → (U → X → Type 0) → S × U × StillDrawn → X → Type 0
chain_may_come first second (s, u, Both) x = first s x ⊎ second u x
chain_may_come first second (s, u, FirstAlone) x = first s x
chain_may_come first second (s, u, SecondAlone) x = second u x

-- an upper bound of a hint, by the sides that are still drawn: one that is made of one of each of both, wherever these are, or that of the one side
abbrev pub sides_above : {S U : Type 0} → (S → ℕ × Option ℕ → Type 0) → SoundWhere S → (U → ℕ × Option ℕ → Type 0) → SoundWhere U → S × U × StillDrawn → Option ℕ → Type 0
sides_above {S = S} {U = U} hints w others v (s, u, Both) high = (as_made_of_both {V = S × U} (λ p. p.0) (λ p. p.1) hints w others v hint_sum).above (s, u) high
sides_above hints w others v (s, u, FirstAlone) high = w.above s high
sides_above hints w others v (s, u, SecondAlone) high = v.above u high

-- and so a lower one
abbrev pub sides_below : {S U : Type 0} → (S → ℕ × Option ℕ → Type 0) → SoundWhere S → (U → ℕ × Option ℕ → Type 0) → SoundWhere U → S × U × StillDrawn → ℕ → Type 0
sides_below {S = S} {U = U} hints w others v (s, u, Both) low = (as_made_of_both {V = S × U} (λ p. p.0) (λ p. p.1) hints w others v hint_sum).below (s, u) low
sides_below hints w others v (s, u, FirstAlone) low = w.below s low
sides_below hints w others v (s, u, SecondAlone) low = v.below u low

-- wherever the hints of the sides are that are still drawn
abbrev pub as_sides : {S U : Type 0} → (S → ℕ × Option ℕ → Type 0) → SoundWhere S → (U → ℕ × Option ℕ → Type 0) → SoundWhere U → SoundWhere (S × U × StillDrawn)
as_sides hints w others v = record { above = sides_above hints w others v; below = sides_below hints w others v }

-- All else is said by the sides that are still drawn: the sums if both are, and otherwise what the one side says.
module _ {S U A E : Type 0} (first : Contract S A E) (second : Contract U A E) where
  abbrev pub chain_bound : S × U × StillDrawn → ℕ → Type 0
  chain_bound (s, u, Both) n = (a : ℕ) × (b : ℕ) × first.bound s a × second.bound u b × (a + b ≤ n)
  chain_bound (s, u, FirstAlone) n = first.bound s n
  chain_bound (s, u, SecondAlone) n = second.bound u n

  abbrev pub chain_is_finite : S × U × StillDrawn → Type 0
  chain_is_finite (s, u, Both) = first.is_finite s × second.is_finite u
  chain_is_finite (s, u, FirstAlone) = first.is_finite s
  chain_is_finite (s, u, SecondAlone) = second.is_finite u

  abbrev pub chain_remaining : S × U × StillDrawn → Count
  chain_remaining (s, u, Both) = count_add (first.remaining s) (second.remaining u)
  chain_remaining (s, u, FirstAlone) = first.remaining s
  chain_remaining (s, u, SecondAlone) = second.remaining u

  abbrev pub chain_hints : S × U × StillDrawn → ℕ × Option ℕ → Type 0
  chain_hints (s, u, Both) h = (f : ℕ × Option ℕ) × (b : ℕ × Option ℕ) × first.hints s f × second.hints u b × (h ≡ hint_sum f b)
  chain_hints (s, u, FirstAlone) h = first.hints s h
  chain_hints (s, u, SecondAlone) h = second.hints u h

  -- `Chain`'s contract: both sides may be drawn from, also one that is over.
  abbrev pub chain_contract : Contract (S × U × StillDrawn) A E
  chain_contract = record {
    can_next = λ p. first.can_next p.0 × second.can_next p.1;
    steps = chain_step first.steps second.steps;
    bound = chain_bound;
    is_finite = chain_is_finite;
    remaining = chain_remaining;
    may_give = chain_may_come first.may_give second.may_give;
    may_fail = chain_may_come first.may_fail second.may_fail;
    hints = chain_hints;
    lenders = λ p. lenders_of_both (first.lenders p.0) (second.lenders p.1);
    traces = chains_all first.traces second.traces;
    sound = as_sides first.hints first.sound second.hints second.sound;
  }

-- Seen from the back, the sides are swapped.
abbrev pub sides_back : StillDrawn → StillDrawn
sides_back Both = Both
sides_back FirstAlone = SecondAlone
sides_back SecondAlone = FirstAlone

abbrev pub chain_back : {S U : Type 0} → S × U × StillDrawn → U × S × StillDrawn
chain_back p = (p.1, p.0, sides_back p.2)

-- `Chain`'s second end: a draw from the back is one of the chain seen from the back, whose sides are drawn from the back.
abbrev pub chain_ends : {S U A E : Type 0} → Contract S A E → Ends S A E → Contract U A E → Ends U A E → Ends (S × U × StillDrawn) A E
chain_ends first f second e = record {
  can_next = λ p. f.can_next p.0 × e.can_next p.1;
  steps = λ p r q. chain_step e.steps f.steps (chain_back p) r (chain_back q);
  may_give = chain_may_come f.may_give e.may_give;
  may_fail = chain_may_come f.may_fail e.may_fail;
  traces = λ p trace q. chains_all e.traces f.traces (chain_back p) trace (chain_back q);
  sound = as_sides first.hints f.sound second.hints e.sound;
}

-- the first side
abbrev pub chain_first : {T U : Type 0} → Chain T U → T
chain_first s = s.first

-- the second side
abbrev pub chain_second : {T U : Type 0} → Chain T U → U
chain_second s = s.second

-- which sides are still drawn
abbrev pub chain_still_drawn : {T U : Type 0} → Chain T U → StillDrawn
chain_still_drawn s = s.still_drawn

-- the first, the second, and which of them are still drawn
abbrev pub chain_parts : {T U : Type 0} → Chain T U → T × U × StillDrawn
chain_parts s = (chain_first s, chain_second s, chain_still_drawn s)

-- and back
pub chain_made : {T U : Type 0} → Inverse (chain_parts {T = T} {U = U})
chain_made = record { make = λ p. record { first = p.0; second = p.1; still_drawn = p.2 }; made = λ s. refl; has = λ p. refl }

-- ---- what it lists

-- one list and then another
unfoldable pub chained : {A E : Type 0} → List (Result A E) → List (Result A E) → List (Result A E)
chained [] b = b
chained (y ∷ a) b = y ∷ chained a b
