-- What a value that is held once lists.
use Rattle.std.specs.Prelude.{◌≡◌, Option, Some, Result, Ok, Err, [], ◌∷◌}
use Rattle.std.proofs.Common.{refl, subst, ◌∙◌}
use Rattle.fallible_contract.specs.Traces.{Answered, item, failure}
use Rattle.fallible_contract.specs.Contract.{parts_as}
use Rattle.fallible_contract.specs.Held.{once_step}
use Rattle.fallible_contract.specs.Lists.{AlwaysGives, Lists, result_answer}
use Rattle.fallible_contract.proofs.Lemmas.Lists.Passing.{lists_seen}
use Rattle.fallible_iterator.specs.Sources.Once.{once_parts, once_contract}
use Rattle.fallible_iterator.specs.Sources.OnceErr.{once_err_parts, once_err_contract}
use Rattle.fallible_iterator.specs.declared.sources.once.Once.{Once}
use Rattle.fallible_iterator.specs.declared.sources.once_err.OnceErr.{OnceErr}

always_gives_held : {A B E : Type 0} (f : B → Answered A E) (x : B) (y : Result A E) → f x ≡ result_answer y → AlwaysGives (once_step f) (Some x) (y ∷ [])
always_gives_held {B = B} f x y e = λ r t w. (w.0 ∙ e, λ q u v. (subst (λ (z : Option B). once_step f z q u) w.1 v).0)

pub lists_once : {A E : Type 0} (s : Once A E) (x : A) → once_parts s ≡ Some x → Lists (parts_as once_parts (once_contract {A = A} {E = E})).steps s (Ok x ∷ [])
lists_once {A} {E} s x parts = lists_seen once_parts (once_contract {A = A} {E = E}).steps s parts refl (always_gives_held item x (Ok x) refl)

pub lists_once_err : {A E : Type 0} (s : OnceErr A E) (e : E) → once_err_parts s ≡ Some e → Lists (parts_as once_err_parts (once_err_contract {A = A} {E = E})).steps s (Err e ∷ [])
lists_once_err {A} {E} s e parts = lists_seen once_err_parts (once_err_contract {A = A} {E = E}).steps s parts refl (always_gives_held failure e (Err e) refl)
