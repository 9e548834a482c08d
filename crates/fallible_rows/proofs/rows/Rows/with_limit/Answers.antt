-- As many items as bytes at most, and they list the results of the rows.
use Rattle.std.proofs.Common.{refl, inl}
use Rattle.fallible_rows.proofs.Lemmas.Bound.{bounds_rows}
use Rattle.fallible_rows.proofs.ListsLaw.{lists_rows, lists_rows_where_read}
use Rattle.fallible_rows.proofs.rows.Rows.with_limit.Goals as goal

pub returns-clause-finite : goal.returns-clause-finite
returns-clause-finite g c = (c.args.limit, bounds_rows g.B.ReadByte.left g.B.ReadByte.stays _ c.args.reader c.args.limit refl)

pub returns-clause-fits : goal.returns-clause-fits
returns-clause-fits g c = inl (bounds_rows g.B.ReadByte.left g.B.ReadByte.stays _ c.args.reader c.args.limit refl)

pub returns-clause-lists : goal.returns-clause-lists
returns-clause-lists g c = λ bytes never tells within. lists_rows g.B.ReadByte.left g.B.ReadByte.stays never c.args.reader c.args.limit refl tells within

pub returns-clause-lists_where_read : goal.returns-clause-lists_where_read
returns-clause-lists_where_read g c = λ bytes tells within. lists_rows_where_read g.B.ReadByte.left g.B.ReadByte.stays c.args.reader c.args.limit refl tells within
