use Rattle.std.proofs.Common.{rules, sym, subst, ◌+◌, ◌++◌, take, drop, slice_index}
use Rattle.std.specs.Io.KnownBytes.{Appends}
use Rattle.std.proofs.KnownBytes.{Appends-nil, Appends-trans}
use Rattle.fallible_pg.specs.Csv.{doubled, within_quotes}
use Rattle.fallible_pg.proofs.Lemmas.Csv.{doubled-around, doubled-none, doubled-more}
use Rattle.fallible_pg.proofs.Lemmas.Putting.{on_err_known, stops_first, stops_same, stops_then}
use Rattle.fallible_pg.proofs.csv.write_doubled.Goals as goal

pub loop-byte-init : goal.loop-byte-init
loop-byte-init g c = subst (Appends (g.P.PutBytes.written c.args.writer.now) (g.P.PutBytes.written c.args.writer.now)) (sym doubled-none) (Appends-nil (g.P.PutBytes.written c.args.writer.now))

pub loop-byte-preserved : goal.loop-byte-preserved
loop-byte-preserved g c = subst (Appends (g.P.PutBytes.written c.args.writer.now) (g.P.PutBytes.written c.write_within.new.writer)) (sym (doubled-more c.args.field.now c.loop-byte.byte-index (search rules))) (Appends-trans _ _ _ _ _ c.loop-byte.invariant c.in_ok-write_within.ensures.text)

pub returns-in_err-write_within-clause-stops : goal.returns-in_err-write_within-clause-stops
returns-in_err-write_within-clause-stops g c =
    let field = c.args.field.now in
    let i = c.loop-byte.byte-index in
    let byte = within_quotes (slice_index field i) in
    let rest = doubled (drop (i + 1) field) in
    on_err_known _ (stops_same (doubled-around field i (search rules)) (stops_then (doubled (take i field)) (byte ++ rest) c.loop-byte.invariant (stops_first byte rest c.in_err-write_within.ensures.stops)))
