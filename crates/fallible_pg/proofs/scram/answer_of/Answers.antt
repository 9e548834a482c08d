use Rattle.std.proofs.Common.{◌≡◌, ℕ, List, Some, None, MatchOption, vec_items, rules, sym, ap, subst, ◌∙◌}
use Rattle.std.proofs.lemmas.Bool.{both_ways}
use Rattle.fallible_pg.specs.Base64.{base64}
use Rattle.fallible_pg.specs.Scram.{rounds_of}
use Rattle.fallible_pg.proofs.Lemmas.Scram.{asks_well, asked_parts, counts, goes_on, salt_is, test_fails}
use Rattle.fallible_pg.proofs.scram.answer_of.Goals.{then-not-branch-via-then-not-branch, then-not-branch-via-else-not-branch+then-not-goes_on_from}
use Rattle.fallible_pg.proofs.scram.answer_of.Goals as goal

pub returns-in_default : goal.returns-in_default
returns-in_default g c = λ nonce salt digits rounds a. subst (λ o. MatchOption o ((bytes : List ℕ) → base64 bytes ≡ c.parts_of-parts.result.salt.now → ⊥) (λ bytes. base64 (vec_items bytes) ≡ c.parts_of-parts.result.salt.now)) c.in_default.is c.in_ok-salt.ensures salt (sym (c.parts_of-parts.ensures.salt ∙ salt_is a))

pub returns-in_default-rounds_of : goal.returns-in_default-rounds_of
returns-in_default-rounds_of g c = λ nonce salt digits rounds a. let is : None ≡ Some rounds = sym c.in_default-rounds_of.is ∙ c.rounds_of.ensures ∙ ap rounds_of c.parts_of-parts.ensures.digits ∙ counts a in absurd cc

pub returns-then-not-branch : goal.returns-then-not-branch
returns-then-not-branch g c = λ nonce salt digits rounds a. elim c.then-not-branch.branch [
  | then-not-branch-via-then-not-branch w ↦ test_fails c.in_ok-has_parts.ensures w.if-not-branch.true (asked_parts a c.parts_of-parts.ensures.nonce c.parts_of-parts.ensures.salt c.parts_of-parts.ensures.digits)
  | then-not-branch-via-else-not-branch+then-not-goes_on_from w ↦ both_ways _ (sym w.goes_on_from.ensures ∙ w.if-not-goes_on_from.true) (goes_on a c.parts_of-parts.ensures.nonce)
]

pub returns : goal.returns
returns g c =
    let salt_is = subst (λ o. MatchOption o ((bytes : List ℕ) → base64 bytes ≡ c.parts_of-parts.result.salt.now → ⊥) (λ bytes. base64 (vec_items bytes) ≡ c.parts_of-parts.result.salt.now)) c.in-Some.is c.in_ok-salt.ensures in
    record { nonce = c.parts_of-parts.result.nonce.now; salt = vec_items c.in-Some.salt; digits = c.parts_of-parts.result.digits.now; rounds = c.in-Some-rounds_of.rounds; asks = asks_well c.parts_of-parts.ensures.nonce salt_is (search rules) c.in_ok-has_parts.ensures c.if-not-branch.false c.goes_on_from.ensures c.if-not-goes_on_from.false; says = search rules; wants = search rules }
