-- The words of clauses that say what comes of an iterator whose answers list l.
use Rattle.std.specs.Prelude.{List, Result}
use Rattle.fallible_contract.specs.Lists.{Lists}
use Rattle.fallible_contract.specs.Traces.{Answered}

-- Over a source that lists l, P l.
abbrev pub OverList : {S A E : Type 0} → (S → Answered A E → S → Type 0) → S → (List (Result A E) → Type 0) → Type 0
OverList {A = A} {E = E} steps s P = (l : List (Result A E)) → Lists steps s l → P l

-- Over a source that lists l, and with a function h as which a closure acts, P h l.
abbrev pub OverListWith : {S A E H : Type 0} → (H → Type 0) → (S → Answered A E → S → Type 0) → S → (H → List (Result A E) → Type 0) → Type 0
OverListWith {A = A} {E = E} {H = H} acts steps s P = (h : H) (l : List (Result A E)) → acts h → Lists steps s l → P h l

-- Over a source that lists a, and beside it another one that lists b, whatever a value becomes by `into`, P a b.
abbrev pub OverBoth : {S A E T C B D : Type 0} → (S → Answered A E → S → Type 0) → S → (T → C → Type 0) → T → (C → Answered B D → C → Type 0) → (List (Result A E) → List (Result B D) → Type 0) → Type 0
OverBoth {A = A} {E = E} {C = C} {B = B} {D = D} steps s into other others P = (a : List (Result A E)) (b : List (Result B D)) → Lists steps s a → ((c : C) → into other c → Lists others c b) → P a b
