-- A set that has what was seen so far.
use Rattle.std.specs.Prelude.{◌≡◌, Bool, true, false, cond, ◌||◌, List, ◌∷◌}
use Rattle.std.specs.Cmp.{IsEquivalence}
use Rattle.std.specs.HashSet.{HashSet, Updates, contains}
use Rattle.std.specs.Set.{is_member}
use Rattle.std.proofs.Common.{refl, ap, ◌∙◌}

pub cond_true_is_or : (a b : Bool) → cond a true b ≡ (a || b)
cond_true_is_or true b = refl
cond_true_is_or false b = refl

module _ {A S : Type 0} (eq : A → A → Bool) where
  -- the set has an item that equals k where one of those seen does
  abbrev pub HasSeen : HashSet A S → List A → Type 0
  HasSeen set seen = (k : A) → contains eq set k ≡ is_member eq seen k

  module _ (equivalence : IsEquivalence eq) where
    pub has_seen_more : (p q : HashSet A S) (seen : List A) (x : A) → HasSeen p seen → Updates eq p q x true → HasSeen q (x ∷ seen)
    has_seen_more p q seen x has updates k = updates.0 k ∙ ap (λ (b : Bool). cond b true (contains eq p k)) (equivalence.symm x k) ∙ ap (λ (b : Bool). cond (eq k x) true b) (has k) ∙ cond_true_is_or (eq k x) (is_member eq seen k)
