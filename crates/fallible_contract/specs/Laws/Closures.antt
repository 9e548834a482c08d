-- What calls of a stored closure lead to.
use Rattle.std.specs.Prelude.{List, [], ◌∷◌, ◌++◌}
use Rattle.std.specs.List.{FoldsTo}
use Rattle.std.proofs.Common.{refl, sym, subst}
use Rattle.fallible_contract.specs.Closures.{Reaches, IsCallable, MayAnswer}

-- turns over two lists, one after the other
pub folds_to_in_turn : {P A : Type 0} (R : P → A → P → Type 0) (xs ys : List A) (p q r : P) → FoldsTo R p xs q → FoldsTo R q ys r → FoldsTo R p (xs ++ ys) r
folds_to_in_turn R [] ys p q r e w = subst (λ z. FoldsTo R z ys r) (sym e) w
folds_to_in_turn R (x ∷ xs) ys p q r v w = (v.0, v.1, folds_to_in_turn R xs ys v.0 q r v.2 w)

folds_to_weaken : {F X R : Type 0} (call : F → X → R → F → Type 0) (P Q : X → Type 0) → ((x : X) → P x → Q x) → (made : List (X × R)) (f g : F) → FoldsTo (λ p c q. P c.0 × call p c.0 c.1 q) f made g → FoldsTo (λ p c q. Q c.0 × call p c.0 c.1 q) f made g
folds_to_weaken call P Q h [] f g w = w
folds_to_weaken call P Q h (c ∷ made) f g w = (w.0, (h c.0 w.1.0, w.1.1), folds_to_weaken call P Q h made w.0 g w.2)

module _ {F X R : Type 0} {call : F → X → R → F → Type 0} where
  pub reaches_reflexive : {P : X → Type 0} {f : F} → Reaches call P f f
  reaches_reflexive = record { made = []; by = refl }

  pub reaches_weaken : {P Q : X → Type 0} {f g : F} → ((x : X) → P x → Q x) → Reaches call P f g → Reaches call Q f g
  reaches_weaken {P} {Q} {f} {g} h r = record { made = r.made; by = folds_to_weaken call P Q h r.made f g r.by }

  pub reaches_transitive : {P : X → Type 0} {f g h : F} → Reaches call P f g → Reaches call P g h → Reaches call P f h
  reaches_transitive {P} {f} {g} {h} r s = record { made = r.made ++ s.made; by = folds_to_in_turn _ r.made s.made f g h r.by s.by }

  -- one more call, before the others
  pub reaches_by_call_first : {P : X → Type 0} {f g h : F} (x : X) (v : R) → P x → call f x v g → Reaches call P g h → Reaches call P f h
  reaches_by_call_first {P} {f} {g} {h} x v given called r = record { made = (x, v) ∷ r.made; by = (g, (given, called), r.by) }

  pub is_callable_after : {pre : F → X → Type 0} {P Q : X → Type 0} {f g : F} → ((x : X) → Q x → P x) → Reaches call P f g → IsCallable call pre P f → IsCallable call pre Q g
  is_callable_after h r c = record { at = λ k x s q. c.at k x (reaches_transitive r (reaches_weaken h s)) (h x q) }

module _ {F X R : Type 0} {call : F → X → R → F → Type 0} {P : X → Type 0} {f : F} {Q : X → R → Type 0} where
  -- what may be returned after calls may be returned
  pub may_answer_where_reached_may_answer : {P' : X → Type 0} {g : F} → ((x : X) → P' x → P x) → Reaches call P f g → MayAnswer call P' g Q → MayAnswer call P f Q
  may_answer_where_reached_may_answer h r a = record { state = a.state; argument = a.argument; answer = a.answer; after = a.after; reached = reaches_transitive r (reaches_weaken h a.reached); given = h a.argument a.given; called = a.called; says = a.says }

  pub may_answer_of_call : (g : F) (x : X) (v : R) → P x → call f x v g → Q x v → MayAnswer call P f Q
  may_answer_of_call g x v given called says = record { state = f; argument = x; answer = v; after = g; reached = reaches_reflexive; given = given; called = called; says = says }
