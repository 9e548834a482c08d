-- A token is taken, a fault is told, and nothing more can be taken.
use Rattle.std.proofs.Common.{sym, ap, subst, subst₂, ◌≡◌, ◌∙◌, Err}
use Rattle.fallible_iterator.specs.Fault.TheVariants.{Source}
use Rattle.fallible_json.specs.Taking.{FindsFault}
use Rattle.fallible_json.proofs.Lemmas.Seen.{seen_at_first}
use Rattle.fallible_json.proofs.Lemmas.Taking.{finds_break, finds_misplaced, takes_more, takes_none, takes_open}
use Rattle.fallible_json.proofs.texts.Texts.take_settled.Goals as goal

pub loop-first-init : goal.loop-first-init
loop-first-init c = (takes_none c.args.self.now c.args.bytes.now c.requires.fits.0, seen_at_first c.args.self.now.seen c.args.bytes.now c.requires.left)

pub front_at-requires-clause-within : goal.front_at-requires-clause-within
front_at-requires-clause-within c = c.loop-first.invariant.0.within

pub front_at-requires-clause-seen : goal.front_at-requires-clause-seen
front_at-requires-clause-seen c = c.loop-first.invariant.1

pub loop-first-preserved : goal.loop-first-preserved
loop-first-preserved c = (takes_more c.args.bytes.now c.loop-first.at c.in-Token.first c.in-Token.last c.in-Token.end c.in-Token.token c.loop-first.invariant.0 c.in-Token.ensures c.in-Ok.ensures.taken, tt)

pub returns-in-Err-clause-fault : goal.returns-in-Err-clause-fault
returns-in-Err-clause-fault c = λ fault is.
    let same : c.in-Err.fault ≡ Source fault = cc in
    let k = c.in-Err.ensures.fault fault (ap (λ z. Err z) same) in
    subst₂ (λ f u. FindsFault c.args.self.now c.args.bytes.now f u) (sym k.0) (sym k.2) (finds_misplaced c.args.bytes.now c.loop-first.at c.in-Token.first c.in-Token.last c.in-Token.end c.in-Token.token c.loop-first.invariant.0 c.in-Token.ensures k.1)

pub returns-in-Faulty-clause-fault : goal.returns-in-Faulty-clause-fault
returns-in-Faulty-clause-fault c = λ fault is.
    subst (λ f. FindsFault c.args.self.now c.args.bytes.now f c.loop-first.self) (sym c.told.ensures ∙ cc) (finds_break c.args.bytes.now c.loop-first.at c.in-Faulty.fault c.loop-first.invariant.0 c.in-Faulty.ensures)

pub returns-in-Open-clause-taken : goal.returns-in-Open-clause-taken
returns-in-Open-clause-taken c = takes_open c.args.bytes.now c.loop-first.at c.in-Open.taken c.in-Open.seen c.loop-first.invariant.0 c.in-Open.ensures
