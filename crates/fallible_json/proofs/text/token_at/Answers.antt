-- Blanks alone, a byte that begins nothing, and a token.
use Rattle.std.proofs.Common.{arith, Err, sym, subst, ◌+◌, ◌++◌, List, ℕ}
use Rattle.std.specs.declared.convert.Infallible.{Infallible}
use Rattle.fallible_iterator.specs.Showing.{TakesShown}
use Rattle.fallible_json.specs.Bytes.{IsSettled, LeavesAt, placed_from}
use Rattle.fallible_json.specs.Lexing.{lexed}
use Rattle.fallible_json.specs.declared.lexer.LexFault.TheVariants.{Unknown}
use Rattle.fallible_json.proofs.Lemmas.Seen.{blank_draws, run_draws, run_leaves, run_settled, unknown_draws}
use Rattle.fallible_json.proofs.Lemmas.TextDraws.{draws_alone}
use Rattle.fallible_json.proofs.text.token_at.Goals as goal

pub returns-in-Blank-clause-draws : goal.returns-in-Blank-clause-draws
returns-in-Blank-clause-draws c = blank_draws c.args.text.now c.args.place c.in-Blank.ensures

pub returns-in-Unknown : goal.returns-in-Unknown
returns-in-Unknown c =
    let h = c.in-Unknown.ensures in
    let text = c.args.text.now in
    let first = c.in-Unknown.first in
    let takes : (rest : List ℕ) → TakesShown (lexed {E = Infallible} (placed_from c.args.place (text ++ rest))) (Err (Unknown first)) (lexed (placed_from (first + 1) (text ++ rest))) = λ rest. unknown_draws text c.args.place first h rest in
    let later = h.0 in
    record { draws = draws_alone text c.args.place (first + 1) _ takes; settled = λ rest settled. takes rest; leaves = (omega (arith, later), h.1) }

pub returns-in-Begun-clause-draws : goal.returns-in-Begun-clause-draws
returns-in-Begun-clause-draws c =
    let text = c.args.text.now in
    let end = c.in-Begun.end in
    subst (λ r. TakesShown (lexed (placed_from c.args.place text)) r (lexed (placed_from end text))) (sym c.closed.ensures) (run_draws c.in-Begun.ensures)

pub returns-in-Begun-clause-settled : goal.returns-in-Begun-clause-settled
returns-in-Begun-clause-settled c = λ rest settled.
    let text = c.args.text.now in
    let end = c.in-Begun.end in
    subst (λ r. TakesShown (lexed (placed_from c.args.place (text ++ rest))) r (lexed (placed_from end (text ++ rest)))) (sym c.closed.ensures) (run_settled c.in-Begun.ensures rest (subst (IsSettled text) c.closed.ensures settled))

pub returns-in-Begun-clause-leaves : goal.returns-in-Begun-clause-leaves
returns-in-Begun-clause-leaves c = subst (λ r. LeavesAt c.args.text.now c.args.place r c.in-Begun.end) (sym c.closed.ensures) (run_leaves c.in-Begun.ensures)
