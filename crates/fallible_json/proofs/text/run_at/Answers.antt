-- An end, a byte that is a token alone, one that begins nothing, and a longer token.
use Rattle.std.proofs.Common.{arith, Some, None, rules, subst, ◌≡◌, ◌≤◌, ◌<◌, refl, get_or, length}
use Rattle.fallible_json.specs.Bytes.{SameTokens}
use Rattle.fallible_json.specs.declared.token.Phase.TheVariants.{Whole}
use Rattle.fallible_json.proofs.Lemmas.TextTokens.{begun_by_letter, begun_by_sign}
use Rattle.fallible_json.proofs.text.run_at.Goals as goal

pub returns-then-text-first : goal.returns-then-text-first
returns-then-text-first c = λ within.
    let text = c.args.text.now in
    let first = c.blanks_end-first.result in
    let past : length text ≤ first = search rules in
    let most : first ≤ length text = c.blanks_end-first.ensures.within within in
    let same : first ≡ length text = omega (arith, past, most) in
    subst (λ k. SameTokens text c.args.place k) same c.blanks_end-first.ensures.tokens

pub returns-in-Some : goal.returns-in-Some
returns-in-Some c =
    let first = c.blanks_end-first.result in
    let within : first < length c.args.text.now = search rules in
    record {
      begun = Whole c.in-Some.token;
      later = c.blanks_end-first.ensures.later;
      within = (omega arith, omega (arith, within));
      same = c.blanks_end-first.ensures.tokens;
      begins = begun_by_sign (get_or c.args.text.now first 0) c.in-Some.token (search rules);
      goes = λ rest. refl;
      ends = λ short. refl;
    }

pub returns-in_default-letter_begun : goal.returns-in_default-letter_begun
returns-in_default-letter_begun c =
    let first = c.blanks_end-first.result in
    let within : first < length c.args.text.now = search rules in (
      c.blanks_end-first.ensures.later,
      within,
      c.blanks_end-first.ensures.tokens,
      c.blanks_end-first.ensures.ends within,
      begun_by_letter (get_or c.args.text.now first 0) None (search rules) (search rules),
    )

pub returns : goal.returns
returns c =
    let text = c.args.text.now in
    let first = c.blanks_end-first.result in
    let within : first < length text = search rules in
    let later = c.run_in-end.ensures.later in
    record {
      begun = c.in-Some-letter_begun.begun;
      later = c.blanks_end-first.ensures.later;
      within = (omega (arith, later), c.run_in-end.ensures.within (omega (arith, within)));
      same = c.blanks_end-first.ensures.tokens;
      begins = begun_by_letter (get_or text first 0) (Some c.in-Some-letter_begun.begun) (search rules) (search rules);
      goes = c.run_in-end.ensures.run;
      ends = c.run_in-end.ensures.ends;
    }
