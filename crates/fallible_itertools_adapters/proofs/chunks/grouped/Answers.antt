-- What becomes of the item, by its key and the group that is held.
use Rattle.std.specs.Prelude.{Some, None}
use Rattle.std.proofs.Common.{refl, sym, ◌∙◌}
use Rattle.fallible_itertools_adapters.proofs.Lemmas.Chunks.{grouped_first, grouped_other, grouped_refused, grouped_same, grouped_same_refused, no_items_of_key_where_differ}
use Rattle.fallible_itertools_adapters.proofs.chunks.grouped.Goals as goal
use Rattle.fallible_itertools_adapters.proofs.chunks.grouped.Goals.{in-Ok, in-Err, in-Some+else-eq, in-None}

pub returns-then-eq : goal.returns-then-eq
returns-then-eq g c = let same = sym c.eq.ensures ∙ c.if-eq.true in rw c.in-Some.is (elim c.match-pushed.branch [ in-Ok w ↦ rw (w.result-is, w.group-is) (grouped_same g.E.From.from_gives g.K.PartialEq.eq (c.in-Some.of, c.in-Some.items) c.args.key c.args.item c.pushed.new.items same w.in-Ok.ensures.0) | in-Err w ↦ rw (w.result-is, w.group-is) (grouped_same_refused g.E.From.from_gives g.K.PartialEq.eq (c.in-Some.of, c.in-Some.items) c.args.key c.args.item c.pushed.new.items w.in-Err.refused w.from.result w.take.result w.let_go.result w.take.new.self same w.in-Err.ensures w.from.ensures w.take.ensures.value w.let_go.ensures w.take.ensures.after) ])

pub returns-in-Some-replace : goal.returns-in-Some-replace
returns-in-Some-replace g c = let held = sym c.in-Some-replace.is ∙ c.replace.ensures.value in
    elim c.match-group.branch [ in-Some+else-eq w ↦ rw w.in-Some.is (grouped_other g.E.From.from_gives g.K.PartialEq.eq (w.in-Some.of, w.in-Some.items) c.args.key c.args.item c.in-Ok-alone.first c.in-Some-replace.whole c.one.result c.replace.new.self (sym w.eq.ensures ∙ w.if-eq.false) c.in-Ok-alone.ensures.0 (let e = held ∙ w.group-is in cc) c.one.ensures c.replace.ensures.after) | in-None w ↦ absurd (let e = held ∙ w.group-is in cc) ]

pub returns-in-None-replace : goal.returns-in-None-replace
returns-in-None-replace g c = let held = sym c.in-None-replace.is ∙ c.replace.ensures.value in
    elim c.match-group.branch [ in-Some+else-eq w ↦ absurd (let e = held ∙ w.group-is in cc) | in-None w ↦ rw w.in-None.is (grouped_first g.E.From.from_gives g.K.PartialEq.eq c.args.key c.args.item c.in-Ok-alone.first c.replace.new.self c.in-Ok-alone.ensures.0 c.replace.ensures.after) ]

pub returns-in-Err-alone : goal.returns-in-Err-alone
returns-in-Err-alone g c = elim c.match-group.branch [ in-Some+else-eq w ↦ rw w.in-Some.is (grouped_refused g.E.From.from_gives g.K.PartialEq.eq (Some (w.in-Some.of, w.in-Some.items)) c.args.key c.args.item c.in-Err-alone.refused c.from-in-Err-alone.result c.take-in-Err-alone.result c.let_go-in-Err-alone.result c.take-in-Err-alone.new.self (no_items_of_key_where_differ g.E.From.from_gives g.K.PartialEq.eq (w.in-Some.of, w.in-Some.items) c.args.key (sym w.eq.ensures ∙ w.if-eq.false)) c.from-in-Err-alone.ensures (c.take-in-Err-alone.ensures.value ∙ w.group-is) c.let_go-in-Err-alone.ensures c.take-in-Err-alone.ensures.after) | in-None w ↦ rw w.in-None.is (grouped_refused g.E.From.from_gives g.K.PartialEq.eq None c.args.key c.args.item c.in-Err-alone.refused c.from-in-Err-alone.result c.take-in-Err-alone.result c.let_go-in-Err-alone.result c.take-in-Err-alone.new.self refl c.from-in-Err-alone.ensures (c.take-in-Err-alone.ensures.value ∙ w.group-is ∙ w.in-None.is) c.let_go-in-Err-alone.ensures c.take-in-Err-alone.ensures.after) ]
