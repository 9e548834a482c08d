-- What a std `for` over a std iterator took, at its end.
use Rattle.std.specs.Prelude.{◌≡◌, List, Option, None, true}
use Rattle.std.specs.Iterator.{Yields}
use Rattle.std.specs.Iterator.Runs.{EachRunFrom, ItemsAre}
use Rattle.std.proofs.Common.{refl, subst}
use Rattle.std.proofs.iter.runs.Made.{run, seen}

module _ {S A : Type 0} {steps : S → Option A → S → Type 0} {s : S} {xs : List A} where
  -- the loop went over an iterator that reads a list: the elements that came before `None` are those of the list
  pub taken_items_are_all : {given : S} (l : List A) (t u : S) {r : Option A} → EachRunFrom steps given (λ p. ItemsAre p l) → s ≡ given → Yields steps s xs t → r ≡ None → steps t r u → xs ≡ l
  taken_items_are_all l t u reads began ran is gave =
      let p = run steps s xs true (t, ran, λ e. (u, subst (λ (o : Option A). steps t o u) is gave)) in
      (reads p (seen p.len) began).4 refl
