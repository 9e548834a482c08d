use Rattle.std.proofs.Common.{rules, sym, ap, ◌∙◌}
use Rattle.std.specs.Vec.Iter.{into_iter_items}
use Rattle.program_io.specs.declared.arguments.Asked.{Asked}
use Rattle.pg_rows.specs.declared.words.Wanted.{Wanted}
use Rattle.pg_rows.proofs.Lemmas.Word.{nil_of, from_none, from_asking, from_csv, from_null, from_input}
use Rattle.pg_rows.proofs.words.+wanted_from.Goals as goal

pub returns-in_default : goal.returns-in_default
returns-in_default t c = from_none c.args.asking c.args.null c.args.csv (into_iter_items c.args.words) c.wanted_at_end.ensures (nil_of (into_iter_items c.args.words) c.args.words.rest.len c.args.words.rest.ok.0 (search rules))

pub returns-then-is_some : goal.returns-then-is_some
returns-then-is_some t c = from_asking c.args.asking c.args.null c.args.csv c.in-Some.word (into_iter_items c.next.new.self) (into_iter_items c.args.words) (sym c.is_some.ensures ∙ c.if-is_some.true) c.wanted_from.ensures c.in-Some.ensures.items

pub returns-then-eq : goal.returns-then-eq
returns-then-eq t c = from_csv c.args.asking c.args.null c.args.csv c.in-Some.word (into_iter_items c.next.new.self) (into_iter_items c.args.words) c.in-Some.ensures.items (sym c.is_some.ensures ∙ c.if-is_some.false) c.wanted_from-then-eq.ensures (search rules)

pub returns-then-eq-2 : goal.returns-then-eq-2
returns-then-eq-2 t c = from_null c.args.asking c.args.null c.args.csv c.in-Some.word (into_iter_items c.next.new.self) (into_iter_items c.args.words) c.in-Some.ensures.items (sym c.is_some.ensures ∙ c.if-is_some.false) c.wanted_from-then-eq-2.ensures (search rules) (search rules)

pub returns : goal.returns
returns t c = from_input c.args.asking c.args.null c.args.csv c.in-Some.word (into_iter_items c.next.new.self) (into_iter_items c.args.words) c.in-Some.ensures.items (sym c.is_some.ensures ∙ c.if-is_some.false) (ap {B = Wanted} (λ (a : Asked). record { null = c.args.null; csv = c.args.csv; asked = a }) c.asked_from.ensures) (search rules) (search rules)
