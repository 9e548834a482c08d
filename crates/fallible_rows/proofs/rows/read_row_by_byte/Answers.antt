use Rattle.std.proofs.Common.{◌≢◌, ℕ, ◌++◌, ◌∷◌, [], Option, Ok, subst, arith, rules}
use Rattle.std.proofs.lemmas.Fn.{FoldsTo-push}
use Rattle.std.proofs.lemmas.List.{length_push}
use Rattle.program_io.specs.Bytes.{GivesByte, ReadsOne}
use Rattle.fallible_rows.proofs.Lemmas.Trace.{is_one_row_one_more}
use Rattle.program_io.specs.declared.reading.ReadFailed.{ReadFailed}
use Rattle.fallible_rows.proofs.rows.read_row_by_byte.Goals as goal

pub loop-read-preserved : goal.loop-read-preserved
loop-read-preserved g c =
    let before = c.loop-read.invariant.bytes in
    let came = subst (λ (o : Option ℕ). ReadsOne g.B.ReadByte.left g.B.ReadByte.stays {E = ReadFailed} c.loop-read.reader (Ok o) c.read_byte.new.self) c.in-Ok-Some.field-0-is c.in-Ok-Some.ensures in
    let other : c.in-Ok-Some.byte ≢ 10 = search rules in
    record {
      bytes = before ++ c.in-Ok-Some.byte ∷ [];
      one = is_one_row_one_more before c.in-Ok-Some.byte c.loop-read.invariant.one other;
      given = FoldsTo-push (GivesByte g.B.ReadByte.left g.B.ReadByte.stays) _ before _ c.in-Ok-Some.byte _ c.loop-read.invariant.given came;
      tells = c.followed_by-row.ensures before c.loop-read.invariant.tells;
      long = let longer = length_push before c.in-Ok-Some.byte in let long = c.loop-read.invariant.long in omega (arith, longer, long);
    }
