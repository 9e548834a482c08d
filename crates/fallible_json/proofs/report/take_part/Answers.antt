-- Where a byte is no UTF-8, that is the fault after all that was taken.
use Rattle.std.proofs.Common.{◌+◌, sym, ◌∙◌}
use Rattle.fallible_json.proofs.Lemmas.Report.{fits_after, left_in_part, part_broken, part_taken}
use Rattle.fallible_json.proofs.report.take_part.Goals as goal

pub broken-requires : goal.broken-requires
broken-requires g c = fits_after c.args.texts.now c.push.new.texts c.args.bytes.now (c.args.checked + c.valid_len-more.result.0) c.in_ok-taken.taken c.requires.fits c.in_ok-taken.ensures.taken

pub returns : goal.returns
returns g c =
    let valid = c.valid_len-more.ensures in
    part_taken (g.M.MakeTexts.refused c.args.maker.now) c.args.bytes.now c.args.checked c.valid_len-more.result.0 c.requires.within valid.valid valid.within c.in_ok-taken.ensures.taken (sym valid.broken ∙ c.if-broken.false)

pub push-requires-clause-left : goal.push-requires-clause-left
push-requires-clause-left g c = left_in_part c.args.texts.now.seen c.args.bytes.now c.args.checked c.valid_len-more.result.0 c.requires.left

pub returns-then-broken : goal.returns-then-broken
returns-then-broken g c =
    let valid = c.valid_len-more.ensures in
    part_broken (g.M.MakeTexts.refused c.args.maker.now) c.args.bytes.now c.args.checked c.valid_len-more.result.0 c.broken.result c.requires.within valid.valid valid.within (c.in_ok-taken.ensures.taken) c.broken.ensures (sym valid.broken ∙ c.if-broken.true)
