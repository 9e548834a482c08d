-- A read failed after interrupted ones, which took nothing.
use Rattle.std.proofs.Common.{rules, [], inl}
use Rattle.std.proofs.KnownBytes.{Consumes-nil, Consumes-kept, Keeps-trans}
use Rattle.program_io.proofs.reading.read_retried.Goals as goal

pub returns-then-ne : goal.returns-then-ne
returns-then-ne g c =
    let kept = c.loop.invariant.kept in
    let failed = c.in-Err.ensures in
    (Keeps-trans _ _ _ kept failed.0, record { retried = search rules; bytes = []; last = c.loop.reader; taken = Consumes-kept _ _ _ _ (Consumes-nil _) kept; failed = inl failed.1 })
