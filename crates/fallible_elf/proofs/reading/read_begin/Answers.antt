-- What was read decides, or the reader is at its end.
use Rattle.std.proofs.Common.{◌≡◌, ◌+◌, ◌∙◌, [], take, sym, subst, arith, length-take-le, inl, inr}
use Rattle.std.proofs.KnownBytes.{Consumes-nil}
use Rattle.std.specs.Io.KnownBytes.{Consumes}
use Rattle.program_io.proofs.Lemmas.Reading.{consumes_after, fails_after}
use Rattle.fallible_elf.proofs.Lemmas.Reading.{decided_by_64}
use Rattle.fallible_elf.proofs.reading.read_begin.Goals as goal

pub loop-init : goal.loop-init
loop-init g c = record { taken = Consumes-nil _; room = c.requires; few = omega arith; some = omega arith }

pub returns-then-is_decided : goal.returns-then-is_decided
returns-then-is_decided g c = (c.loop.invariant.few, c.loop.invariant.taken, inr (sym c.is_decided.ensures ∙ c.if-is_decided.true))

pub returns-in-Ok-eq0 : goal.returns-in-Ok-eq0
returns-in-Ok-eq0 g c =
    let left = g.R.ReadBytes.left in
    let inv = c.loop.invariant in
    let came = c.in-Ok-eq0.ensures.read in
    let same : c.loop.count + c.in-Ok-eq0.field-0 ≡ c.loop.count = omega (arith, c.in-Ok-eq0.field-0-test) in
    let taken = subst (λ k. Consumes (left c.args.reader.now) (left c.read_after.new.reader) (take k c.read_after.new.buf)) same (consumes_after _ _ _ [] c.loop.begin c.read_after.new.buf c.loop.count c.in-Ok-eq0.field-0 inv.taken came.0 came.2) in
    (inv.few, taken, inl (came.3 c.in-Ok-eq0.field-0-test))

pub returns-in-Err : goal.returns-in-Err
returns-in-Err g c = fails_after g.R.ReadBytes.left g.R.ReadBytes.fails _ _ _ _ _ c.loop.invariant.taken c.in-Err.ensures.read.2

pub returns : goal.returns
returns g c =
    let inv = c.loop.invariant in
    let room = inv.room in
    let few = inv.few in
    let some = inv.some in
    (few, inv.taken, inr (decided_by_64 (take c.loop.count c.loop.begin) (omega (arith, length-take-le c.loop.count c.loop.begin (omega (arith, few, room)), some, c.loop-test.false))))

pub loop-preserved : goal.loop-preserved
loop-preserved g c =
    let inv = c.loop.invariant in
    let came = c.in-Ok.ensures.read in
    let some = inv.some in
    let more = c.in-Ok.more-test.1 in
    record {
      taken = consumes_after _ _ _ [] c.loop.begin c.read_after.new.buf c.loop.count c.in-Ok.more inv.taken came.0 came.2;
      room = c.read_after.ensures.room ∙ inv.room;
      few = came.1;
      some = omega (arith, some, more);
    }
