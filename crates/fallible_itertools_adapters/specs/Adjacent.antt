-- What is said of the adjacent items of a list, and of groups.
use Rattle.std.specs.Prelude.{◌≡◌, Bool, true, List, [], ◌∷◌, ◌++◌, Result, Ok, All}

-- P x y holds wherever y stands next after x.
abbrev pub Adjacent : {X : Type 0} → (X → X → Type 0) → List X → Type 0
Adjacent {X} P xs = (before : List X) (x y : X) (after : List X) → xs ≡ before ++ x ∷ y ∷ after → P x y

-- P x y holds of items wherever y stands next after x. Where a failure stands between two items, nothing is said of them.
abbrev pub AdjacentItems : {A E : Type 0} → (A → A → Type 0) → List (Result A E) → Type 0
AdjacentItems {A} {E} P l = (before : List (Result A E)) (x y : A) (after : List (Result A E)) → l ≡ before ++ Ok x ∷ Ok y ∷ after → P x y

-- h makes keys of both items, of which P holds
abbrev pub HaveKeys : {A K E : Type 0} → (A → Result K E) → (K → K → Type 0) → A → A → Type 0
HaveKeys {K = K} h P x y = (k : K) × (j : K) × (h x ≡ Ok k) × (h y ≡ Ok j) × P k j

-- x has a key that equals k
abbrev pub HasKey : {A K E : Type 0} → (K → K → Bool) → (A → Result K E) → K → A → Type 0
HasKey {K = K} eq h k x = (j : K) × (h x ≡ Ok j) × (eq k j ≡ true)

-- The group has items. Its key is that of the first one, and the others have keys that equal it.
abbrev pub IsGroup : {A K E : Type 0} → (K → K → Bool) → (A → Result K E) → K × List A → Type 0
IsGroup eq h (k, []) = ⊥
IsGroup eq h (k, x ∷ xs) = (h x ≡ Ok k) × All (HasKey eq h k) xs
