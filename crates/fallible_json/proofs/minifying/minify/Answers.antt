-- What a failure, a token after which the text goes on, one that may not stand there, and the end make of it.
use Rattle.std.proofs.Common.{Err, rules, ap, sym, subst, reverse, ◌∙◌}
use Rattle.fallible_iterator.proofs.Lemmas.Loops.{answers_after_item, answer_at_stop, answer_at_failure, answer_at_end}
use Rattle.fallible_json.specs.Minifying.{ComesFrom, ended, with_wanted}
use Rattle.fallible_json.specs.Wanted.{wanted_of}
use Rattle.fallible_json.specs.declared.minifying.Misplaced.TheVariants.{Source, Unexpected}
use Rattle.fallible_json.proofs.Lemmas.Minifying.{minified_ends, minified_fails, minified_goes_on, minified_stops}
use Rattle.fallible_json.proofs.minifying.minify.Goals as goal

pub returns-in-Err : goal.returns-in-Err
returns-in-Err g c = λ l i. sym (answer_at_failure c.in-Err.e c.loop-next.invariant.1 c.draw.ensures.drawn c.in-Err.is (λ rest. minified_fails _ _ c.in-Err.e rest) l i) ∙ ap (λ w. Err (Source c.in-Err.e, w)) (sym c.wanted-in-Err.ensures)

pub loop-next-preserved : goal.loop-next-preserved
loop-next-preserved g c =
    let before = c.loop-next.nesting in
    let after = c.after.new.self in (
      search rules,
      answers_after_item c.in-Ok-Some.next c.loop-next.invariant.1 c.draw.ensures.drawn (search rules) (λ l. minified_goes_on _ ((reverse before.containers.items, before.expects), c.loop-next.json.items) c.in-Ok-Some.next (reverse after.containers.items, after.expects) _ (search rules) (search rules) l),
    )

pub returns-in-Ok-None : goal.returns-in-Ok-None
returns-in-Ok-None g c = λ l i.
    let before = c.loop-next.nesting in
    subst (λ r. ComesFrom r c.ended.result) (ap (λ w. with_wanted w (ended c.is_whole.result c.loop-next.json.items)) c.wanted.ensures ∙ ap (λ w. with_wanted (wanted_of (reverse before.containers.items, before.expects)) (ended w c.loop-next.json.items)) c.is_whole.ensures ∙ answer_at_end c.loop-next.invariant.1 c.draw.ensures.drawn (search rules) (minified_ends _ _) l i) c.ended.ensures

pub returns-in-Err-Unexpected : goal.returns-in-Err-Unexpected
returns-in-Err-Unexpected g c = λ l i.
    let before = c.loop-next.nesting in
    sym (answer_at_stop c.in-Ok-Some.next c.loop-next.invariant.1 c.draw.ensures.drawn (search rules) (λ rest. minified_stops _ ((reverse before.containers.items, before.expects), c.loop-next.json.items) c.in-Ok-Some.next (search rules) rest) l i) ∙ ap (λ w. Err (Unexpected c.in-Ok-Some.next.0, w)) (sym (c.wanted-in-Err-Unexpected.ensures ∙ ap (λ n. wanted_of (reverse n.containers.items, n.expects)) (c.after.ensures.unchanged (search rules))))
