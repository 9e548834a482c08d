-- A token is taken, a fault is told, and what is begun ends.
use Rattle.std.proofs.Common.{rules, sym, ap, subst, subst₂, ◌≡◌, ◌∙◌, Err}
use Rattle.fallible_iterator.specs.Fault.TheVariants.{Source}
use Rattle.fallible_json.specs.Taking.{FindsLastFault}
use Rattle.fallible_json.proofs.Lemmas.Last.{on_ok, last_all, last_break, last_fault, last_misplaced, last_more, last_none}
use Rattle.fallible_json.proofs.texts.Texts.finish.Goals as goal

pub loop-first-init : goal.loop-first-init
loop-first-init c = last_none c.args.self.now c.args.bytes.now c.requires.0

pub loop-first-preserved : goal.loop-first-preserved
loop-first-preserved c = last_more c.args.bytes.now c.loop-first.at c.in-Ok-Some.first c.in-Ok-Some.last c.token_at-drawn.result.1 c.in-Ok-Some.token c.token_at-drawn.result.0 (search rules) c.loop-first.invariant c.token_at-drawn.ensures.draws c.token_at-drawn.ensures.leaves c.in-Ok.ensures.taken

pub returns-in-Err-take-clause-fault : goal.returns-in-Err-take-clause-fault
returns-in-Err-take-clause-fault c = λ fault is.
    let same : c.in-Err-take.fault ≡ Source fault = cc in
    let k = c.in-Err-take.ensures.fault fault (ap (λ z. Err z) same) in
    subst₂ (λ f u. FindsLastFault c.args.self.now c.args.bytes.now f u) (sym k.0) (sym k.2) (last_misplaced c.args.bytes.now c.loop-first.at c.in-Ok-Some.first c.in-Ok-Some.last c.token_at-drawn.result.1 c.in-Ok-Some.token c.token_at-drawn.result.0 (search rules) c.loop-first.invariant c.token_at-drawn.ensures.draws k.1)

pub returns-in-Ok-None-clause-all : goal.returns-in-Ok-None-clause-all
returns-in-Ok-None-clause-all c = on_ok c.end.result (λ ends. last_all c.args.bytes.now c.loop-first.at c.token_at-drawn.result.1 c.token_at-drawn.result.0 (search rules) c.loop-first.invariant c.token_at-drawn.ensures.draws ends) c.end.ensures.all

pub returns-in-Ok-None-clause-fault : goal.returns-in-Ok-None-clause-fault
returns-in-Ok-None-clause-fault c = λ fault is.
    let k = c.end.ensures.fault fault is in
    last_fault c.args.bytes.now c.loop-first.at c.token_at-drawn.result.1 c.token_at-drawn.result.0 fault (search rules) c.loop-first.invariant c.token_at-drawn.ensures.draws k.0 k.1

pub returns-in-Err-clause-fault : goal.returns-in-Err-clause-fault
returns-in-Err-clause-fault c = λ fault is.
    subst (λ f. FindsLastFault c.args.self.now c.args.bytes.now f c.loop-first.self) (sym c.told.ensures ∙ cc) (last_break c.args.bytes.now c.loop-first.at c.token_at-drawn.result.1 c.in-Err.fault c.token_at-drawn.result.0 (search rules) c.loop-first.invariant c.token_at-drawn.ensures.draws)
