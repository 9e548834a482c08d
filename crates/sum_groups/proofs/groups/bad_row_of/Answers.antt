-- The last of a list's items is told where each is an item, and otherwise the first failure.
use Rattle.std.proofs.Common.{◌≡◌, Result, Ok, Err, refl, sym, ap}
use Rattle.fallible_iterator.specs.Lists.{last_of, on_value}
use Rattle.sum_groups.proofs.groups.bad_row_of.Goals as goal

all_found : {A B E : Type 0} (r : Result A E) (f : A → B) (x : B) → on_value r (λ a. Ok (f a)) ≡ Ok x → (a : A) × (r ≡ Ok a)
all_found (Ok a) f x is = (a, refl)
all_found (Err e) f x is = absurd (let k = is in cc)

one_failed : {A B E : Type 0} (r : Result A E) (f : A → B) (e : E) → on_value r (λ a. Ok (f a)) ≡ Err e → r ≡ Err e
one_failed (Ok a) f e is = absurd (let k = is in cc)
one_failed (Err d) f e is = let same : d ≡ e = (let k = is in cc) in ap Err same

pub returns-in-Ok : goal.returns-in-Ok
unfolding last_of
returns-in-Ok c = all_found _ _ _ (sym c.in-Ok.ensures)

pub returns-in-Err : goal.returns-in-Err
unfolding last_of
returns-in-Err c = one_failed _ _ _ (sym c.in-Err.ensures)
