-- The part's sum is added to what is known.
use Rattle.std.proofs.Common.{◌∙◌, sym, ap, arith, Ok, Err}
use Rattle.fallible_table.proofs.Lemmas.Totals.{Sum, after_known, totals_after_known, fault_within}
use Rattle.fallible_table.specs.declared.table.TableFault.{TableFault}
use Rattle.fallible_table.specs.declared.table.Totals.{Totals}
use Rattle.fallible_table.proofs.table.sum_up_more.Goals as goal

pub placed_after-requires : goal.placed_after-requires
placed_after-requires c = omega (arith, fault_within c.args.bytes.now c.in-Err.fault (sym c.in-Err.is ∙ c.sum_up.ensures), c.requires)

pub returns-in-Ok : goal.returns-in-Ok
returns-in-Ok c = λ first good long.
    ap {B = Sum} (λ (t : Totals). Ok t) c.plus.ensures ∙ ap (after_known c.args.known) (sym c.in-Ok.is ∙ c.sum_up.ensures) ∙ sym (totals_after_known first c.args.bytes.now c.args.known good long)

pub returns-in-Err : goal.returns-in-Err
returns-in-Err c = λ first good long.
    ap {B = Sum} (λ (f : TableFault). Err f) c.placed_after.ensures ∙ ap (after_known c.args.known) (sym c.in-Err.is ∙ c.sum_up.ensures) ∙ sym (totals_after_known first c.args.bytes.now c.args.known good long)
