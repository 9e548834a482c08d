-- The loop stops at the first 0, or after the last byte.
use Rattle.std.proofs.Common.{rules, arith}
use Rattle.fallible_elf.proofs.Lemmas.Name.{end_is_name_length}
use Rattle.fallible_elf.proofs.names.length_of.Goals as goal

pub returns-else-bytes-end-ne0 : goal.returns-else-bytes-end-ne0
returns-else-bytes-end-ne0 c = end_is_name_length c.args.bytes.now c.loop-end.end c.loop-end.invariant.0 c.loop-end.invariant.1 (λ less. search rules)

pub returns-after-loop-end : goal.returns-after-loop-end
returns-after-loop-end c = end_is_name_length c.args.bytes.now c.loop-end.end c.loop-end.invariant.0 c.loop-end.invariant.1 (λ less. absurd (omega arith))
