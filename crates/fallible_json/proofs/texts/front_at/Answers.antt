-- What was left goes on; or blanks alone stand there, a byte that begins nothing, or a token.
use Rattle.std.proofs.Common.{arith, refl, subst, sym}
use Rattle.fallible_json.specs.Taking.{IsFront, IsSeenAt}
use Rattle.fallible_json.specs.declared.lexer.LexFault.TheVariants.{Unknown}
use Rattle.fallible_json.proofs.Lemmas.Front.{front_blank, front_of_fault}
use Rattle.fallible_json.proofs.Lemmas.Seen.{left_within, run_after_left, unknown_draws}
use Rattle.fallible_json.proofs.texts.front_at.Goals as goal

pub run_in-end-requires : goal.run_in-end-requires
run_in-end-requires c =
    let seen = subst (λ o. IsSeenAt o c.args.bytes.now c.args.place) c.in-Some.is c.requires.seen in
    (left_within c.args.bytes.now c.in-Some.count c.in-Some.begun seen.1).0

pub front_of-requires : goal.front_of-requires
front_of-requires c =
    let seen = subst (λ o. IsSeenAt o c.args.bytes.now c.args.place) c.in-Some.is c.requires.seen in
    let k = left_within c.args.bytes.now c.in-Some.count c.in-Some.begun seen.1 in
    let some = k.0 in
    let later = c.run_in-end.ensures.later in
    (omega (arith, some, later), c.run_in-end.ensures.within k.1)

pub returns-in-Some : goal.returns-in-Some
returns-in-Some c =
    let seen = subst (λ o. IsSeenAt o c.args.bytes.now c.args.place) c.in-Some.is c.requires.seen in
    let k = left_within c.args.bytes.now c.in-Some.count c.in-Some.begun seen.1 in
    subst (λ n. IsFront c.args.bytes.now n c.front_of.result) (sym seen.0) (c.front_of.ensures 0 (run_after_left c.args.bytes.now c.in-Some.count c.run_in-end.result.0 c.in-Some.begun c.run_in-end.result.1 seen.1 c.run_in-end.ensures.later (c.run_in-end.ensures.within k.1) c.run_in-end.ensures.run c.run_in-end.ensures.ends))

pub returns-in-Blank : goal.returns-in-Blank
returns-in-Blank c = front_blank c.args.bytes.now c.args.place c.requires.within (c.in-Blank.ensures c.requires.within)

pub returns-in-Unknown : goal.returns-in-Unknown
returns-in-Unknown c =
    let h = c.in-Unknown.ensures in
    let later = h.0 in
    front_of_fault c.args.bytes.now c.args.place _ _ (Unknown c.in-Unknown.first) refl refl (omega (arith, later), h.1) (λ rest settled. unknown_draws c.args.bytes.now c.args.place c.in-Unknown.first h rest)

pub returns-in-Begun : goal.returns-in-Begun
returns-in-Begun c = c.front_of-in-Begun.ensures c.args.place c.in-Begun.ensures
