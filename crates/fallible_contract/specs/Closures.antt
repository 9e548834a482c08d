-- Calls of stored closures, which may keep state: `call f x r g` says that the closure f, called on x, may return r and is then g.
use Rattle.std.specs.Prelude.{◌≡◌, List, All}
use Rattle.std.specs.List.{FoldsTo}
use Rattle.std.specs.Fn.{Called, CalledAt, Takes, TakesAt, Mut}
use Rattle.std.specs.Borrow.{Bor}

module _ {F X R : Type 0} (call : F → X → R → F → Type 0) where
  -- Called in order on the arguments of the pairs, f can return the results beside them, and is then g.
  abbrev pub Calls : F → List (X × R) → F → Type 0
  Calls f pairs g = FoldsTo (λ p c q. call p c.0 c.1 q) f pairs g

  -- In whatever state its calls bring it to, f returns for each argument of the pairs the result beside it.
  abbrev pub Steady : F → List (X × R) → Type 0
  Steady f pairs = (made : List (X × R)) (p q : F) → Calls f made p → All (λ c. (r : R) → call p c.0 r q → r ≡ c.1) pairs

  -- Calls on arguments of which P holds can bring f to the state g.
  pub record Reaches (P : X → Type 0) (f g : F) : Type 0 where
    pub made : List (X × R)
    pub by : FoldsTo (λ p c q. P c.0 × call p c.0 c.1 q) f made g

  -- In each state that calls on arguments of which P holds bring f to, it may be called on each such argument.
  pub record IsCallable (pre : F → X → Type 0) (P : X → Type 0) (f : F) : Type 0 where
    pub at : (g : F) (x : X) → Reaches P f g → P x → pre g x

  -- In a state that calls on arguments of which P holds bring f to, called on such an argument, f may return what Q says.
  pub record MayAnswer (P : X → Type 0) (f : F) (Q : X → R → Type 0) : Type 0 where
    pub state : F
    pub argument : X
    pub answer : R
    pub after : F
    pub reached : Reaches P f state
    pub given : P argument
    pub called : call state argument answer after
    pub says : Q argument answer

-- one call on an item itself, which may return so and leave the closure so
abbrev pub call_by_value : {F A R : Type 0} → Mut F (A × Unit {0}) R → F → A → R → F → Type 0
call_by_value g f x r f' = Called g f (x, tt) r f'

-- the closure may be called on the item
abbrev pub takes_by_value : {F A R : Type 0} → Mut F (A × Unit {0}) R → F → A → Type 0
takes_by_value g f x = Takes g f (x, tt)

-- one call on a reference to an item
abbrev pub call_by_reference : {F A R : Type 0} → Mut F (Bor A × Unit {0}) R → F → A → R → F → Type 0
call_by_reference g f x r f' = CalledAt g f x r f'

-- the closure may be called on a reference to the item
abbrev pub takes_by_reference : {F A R : Type 0} → Mut F (Bor A × Unit {0}) R → F → A → Type 0
takes_by_reference g f x = TakesAt g f x
