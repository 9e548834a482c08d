-- What each type with two ends lists. `lists_source` says that from both ends a value of the source lists a list.
use Rattle.std.specs.Prelude.{◌≡◌, List, [], ◌∷◌, reverse, Option, Some, None, MatchOption, Result, Ok, All}
use Rattle.std.specs.Borrow.{Bor}
use Rattle.std.specs.Iterator.{YieldsFirst, YieldsLast}
use Rattle.fallible_contract.specs.Traces.{Answered}
use Rattle.fallible_contract.specs.Closures.{Steady}
use Rattle.fallible_contract.specs.Lists.{Lists, Acts}
use Rattle.fallible_contract.specs.BothEnds.{ListsBothEnds, RunAtEnds, Interleaves, items_listed, failures_listed, source_list, passed_list}
use Rattle.fallible_core.specs.OneToOne.Map.{mapped}
use Rattle.fallible_contract.specs.Failing.{failures_mapped}
use Rattle.fallible_core.specs.OneToOne.Cloned.{pointed_to}
use Rattle.fallible_core.specs.Joining.Chain.{chained}
use Rattle.fallible_core.specs.Peeking.Peekable.{held_then}
use Rattle.fallible_iterator.specs.Sources.Std.{std_element}
use Rattle.fallible_contract.specs.declared.answers.Side.{Side}
use Rattle.fallible_contract.specs.declared.passing.Outcome.{Outcome}
use Rattle.fallible_core.specs.declared.joining.chain.StillDrawn.{StillDrawn}
use Rattle.fallible_core.specs.declared.joining.chain.StillDrawn.TheVariants.{Both, FirstAlone, SecondAlone}

-- An adapter that calls a closure on each item: what becomes of each item by the closure's answer, where that answer stands beside the item, whatever state the calls bring the closure to; or the list function of what the closure acts as.
pub data ListsByClosure {V S F X R B E : Type 0} (parts : V → S × F) (call : F → X → R → F → Type 0) (outcome : X → R → Outcome B E) (list : (X → R) → List (Result X E) → List (Result B E)) (lists_source : S → List (Result X E) → Type 0) : V → List (Result B E) → Type 0 where
  by_steady_answers : {s : V} (it : S) (f : F) (asked : List (Result (X × R) E)) → parts s ≡ (it, f) → Steady call f (items_listed asked) → lists_source it (source_list asked) → ListsByClosure parts call outcome list lists_source s (passed_list outcome asked)
  by_function : {s : V} (it : S) (f : F) (h : X → R) (l : List (Result X E)) → parts s ≡ (it, f) → Acts call f h → lists_source it l → ListsByClosure parts call outcome list lists_source s (list h l)

-- One that calls a closure on each failure: the closure's answer in each failure's place, in both cases.
pub data ListsFailures {V S F X D E : Type 0} (parts : V → S × F) (call : F → D → E → F → Type 0) (lists_source : S → List (Result X D) → Type 0) : V → List (Result X E) → Type 0 where
  by_steady_answers_to_failures : {s : V} (it : S) (f : F) (asked : List (Result X (D × E))) → parts s ≡ (it, f) → Steady call f (failures_listed asked) → lists_source it (failures_mapped (λ c. c.0) asked) → ListsFailures parts call lists_source s (failures_mapped (λ c. c.1) asked)
  by_function_of_failures : {s : V} (it : S) (f : F) (h : D → E) (l : List (Result X D)) → parts s ≡ (it, f) → Acts call f h → lists_source it l → ListsFailures parts call lists_source s (failures_mapped h l)

-- An adapter that clones what each item points to: the clones, if none fails and each item has one clone alone; or what the items point to, if each clone equals its original.
pub data ListsClones {V S T E : Type 0} (parts : V → S × Unit {0}) (is_clone : T → T → Type 0) (is_infallible : T → Type 0) (lists_source : S → List (Result (Bor T) E) → Type 0) : V → List (Result T E) → Type 0 where
  clones : {s : V} (it : S) (asked : List (Result (Bor T × T) E)) → parts s ≡ (it, tt) → All (λ c. is_infallible c.0.now × ((y : T) → is_clone c.0.now y → y ≡ c.1)) (items_listed asked) → lists_source it (source_list asked) → ListsClones parts is_clone is_infallible lists_source s (mapped (λ c. Ok c.1) asked)
  originals : {s : V} (it : S) (l : List (Result (Bor T) E)) → parts s ≡ (it, tt) → ((x y : T) → is_clone x y → y ≡ x) → ((x : T) → is_infallible x) → lists_source it l → ListsClones parts is_clone is_infallible lists_source s (pointed_to l)

-- One that joins two sources: the first's list and then the second's; where one side alone is still drawn, the list of that side.
pub data ListsBothSides {V T U A E : Type 0} (parts : V → T × U × StillDrawn) (lists_first : T → List (Result A E) → Type 0) (lists_second : U → List (Result A E) → Type 0) : V → List (Result A E) → Type 0 where
  both : {s : V} (t : T) (u : U) (a b : List (Result A E)) → parts s ≡ (t, u, Both) → lists_first t a → lists_second u b → ListsBothSides parts lists_first lists_second s (chained a b)
  first_alone : {s : V} {l : List (Result A E)} (t : T) (u : U) → parts s ≡ (t, u, FirstAlone) → lists_first t l → ListsBothSides parts lists_first lists_second s l
  second_alone : {s : V} {l : List (Result A E)} (t : T) (u : U) → parts s ≡ (t, u, SecondAlone) → lists_second u l → ListsBothSides parts lists_first lists_second s l

-- One that lists what a function of lists makes of its source's list, as `reverse` where it swaps the ends.
abbrev pub ListsChanged : {V S A B D E : Type 0} → (V → S) → (List (Result A D) → List (Result B E)) → (S → List (Result A D) → Type 0) → V → List (Result B E) → Type 0
ListsChanged {A = A} {D = D} source_of change lists_source s l = (k : List (Result A D)) × lists_source (source_of s) k × (l ≡ change k)

-- One that looks ahead: what is held and then its source's list; with a held end nothing, where its source lists nothing.
abbrev pub ListsHeld : {V S A E : Type 0} → (V → S × Option (Option A)) → (S → List (Result A E) → Type 0) → V → List (Result A E) → Type 0
ListsHeld {A = A} {E = E} parts lists_source s l = (k : List (Result A E)) × lists_source (parts s).0 k × ((parts s).1 ≡ Some None → k ≡ []) × (l ≡ held_then (parts s).1 k)

-- A source over a std iterator: what that iterator lists, call by call from both ends; or what is left of one whose state shows it, if each call of `next` returns the first of it, and each of `next_back` the last.
pub data ListsElements {V S A E Z : Type 0} (parts : V → S) (of_item : A → Z) (of_failure : E → Z) (list : List Z → List (Result A E)) (gives gives_back : S → Option Z → S → Type 0) : V → List (Result A E) → Type 0 where
  by_calls : {s : V} {l : List (Result A E)} → ListsBothEnds (λ a r b. gives a (std_element of_item of_failure r) b) (λ a r b. gives_back a (std_element of_item of_failure r) b) (parts s) l → ListsElements parts of_item of_failure list gives gives_back s l
  by_state : {s : V} (rest : S → List Z) → ((a : S) (o : Option Z) (b : S) → gives a o b → YieldsFirst rest a o b) → ((a : S) (o : Option Z) (b : S) → gives_back a o b → YieldsLast rest a o b) → ListsElements parts of_item of_failure list gives gives_back s (list (rest (parts s)))

-- A source of one: what it holds, and nothing once that was drawn.
abbrev pub ListsOne : {V B A E : Type 0} → (V → Option B) → (B → Result A E) → V → List (Result A E) → Type 0
ListsOne held to s l = MatchOption (held s) (l ≡ []) (λ x. l ≡ to x ∷ [])

-- If these answers can be drawn from the ends of s and leave t, what came from the front, what is left, and what came from the back, reversed, make l.
abbrev pub DrawsInterleave : {S A E : Type 0} → (S → Answered A E → S → Type 0) → (S → Answered A E → S → Type 0) → List (Result A E) → S → List (Side × Answered A E) → S → Type 0
DrawsInterleave steps steps_back l s drawn t = RunAtEnds steps steps_back s drawn t → Interleaves steps steps_back l drawn t

-- What both ends list, each of them lists: the front the list, and the back its reverse.
pub record ListsAtEachEnd {S A E : Type 0} (steps steps_back : S → Answered A E → S → Type 0) : Type 0 where
  pub front : (s : S) (l : List (Result A E)) → ListsBothEnds steps steps_back s l → Lists steps s l
  pub back : (s : S) (l : List (Result A E)) → ListsBothEnds steps steps_back s l → Lists steps_back s (reverse l)
