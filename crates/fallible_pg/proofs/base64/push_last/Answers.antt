use Rattle.std.proofs.Common.{rules}
use Rattle.fallible_pg.proofs.Lemmas.Base64.{last_none, last_one, last_two}
use Rattle.fallible_pg.proofs.base64.push_last.Goals as goal

pub returns-then-is_empty : goal.returns-then-is_empty
returns-then-is_empty c = last_none c.args.text.now.items c.args.bytes.now (search rules)

pub returns-then-bytes-eq1 : goal.returns-then-bytes-eq1
returns-then-bytes-eq1 c = last_one c.args.text.now.items c.args.bytes.now c.if-bytes-eq1.true c.symbol.ensures c.symbol-then-bytes-eq1.ensures c.in_ok-extend_from_slice.ensures.items

pub returns : goal.returns
returns c = last_two c.args.text.now.items c.args.bytes.now (search rules) c.symbol-2.ensures c.symbol-3.ensures c.symbol-4.ensures c.in_ok-extend_from_slice-2.ensures.items
