-- One place, by what each side gave or which one failed.
use Rattle.std.specs.Prelude.{Some, None, Ok}
use Rattle.std.proofs.Common.{refl}
use Rattle.fallible_itertools_joins.proofs.zip.ZipLongestDrawsBoth.next_of_both.Goals as goal

pub returns-in-Ok-Some-next : goal.returns-in-Ok-Some-next
returns-in-Ok-Some-next g c = let l = c.in-Ok-Some.ensures.given in (l.0, Some _, l.2, rw c.in-Ok-Some-next.field-0-is at c.in-Ok-Some-next.ensures, (_, l.1, rw c.in-Ok-Some.field-0-is (_, refl, (Ok tt, refl, cc))))

pub returns-in-Ok-None-next : goal.returns-in-Ok-None-next
returns-in-Ok-None-next g c = let l = c.in-Ok-Some.ensures.given in (l.0, Some _, l.2, rw c.in-Ok-None-next.field-0-is at c.in-Ok-None-next.ensures, (_, l.1, rw c.in-Ok-Some.field-0-is (_, refl, (cc, refl))))

pub returns-in-Err-next : goal.returns-in-Err-next
returns-in-Err-next g c = let l = c.in-Ok-Some.ensures.given in (l.0, Some _, l.2, c.in-Err-next.ensures, (_, l.1, rw c.in-Ok-Some.field-0-is (_, refl, (cc, refl))))

pub returns-in-Ok-Some-next-2 : goal.returns-in-Ok-Some-next-2
returns-in-Ok-Some-next-2 g c = let l = c.in-Ok-None.ensures.given in (l.0, Some _, l.2, rw c.in-Ok-Some-next-2.field-0-is at c.in-Ok-Some-next-2.ensures, (_, l.1, rw c.in-Ok-None.field-0-is (_, refl, (cc, refl))))

pub returns-in-Ok-None-next-2 : goal.returns-in-Ok-None-next-2
returns-in-Ok-None-next-2 g c = let l = c.in-Ok-None.ensures.given in (l.0, Some _, l.2, rw c.in-Ok-None-next-2.field-0-is at c.in-Ok-None-next-2.ensures, (_, l.1, rw c.in-Ok-None.field-0-is (_, refl, (cc, refl))))

pub returns-in-Err-next-2 : goal.returns-in-Err-next-2
returns-in-Err-next-2 g c = let l = c.in-Ok-None.ensures.given in (l.0, Some _, l.2, c.in-Err-next-2.ensures, (_, l.1, rw c.in-Ok-None.field-0-is (_, refl, (cc, refl))))

pub returns-in-Err : goal.returns-in-Err
returns-in-Err g c = let l = c.in-Err.ensures.given in (l.0, None, l.2, refl, (_, l.1, (refl, cc, refl)))
