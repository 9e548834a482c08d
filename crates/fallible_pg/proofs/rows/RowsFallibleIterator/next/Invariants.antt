-- Messages were passed that are skipped, each of which has five bytes, and rows have come so far by them.
use Rattle.std.proofs.Common.{◌≡◌, ◌≤◌, ◌*◌, List, true}
use Rattle.std.specs.Prelude.{All}
use Rattle.fallible_iterator.specs.Traces.{Yields}
use Rattle.fallible_pg.specs.Reading.{messages_parts, message_step, place_of}
use Rattle.fallible_pg.specs.Progress.{shows_progress, reached_by}
use Rattle.fallible_pg.specs.Rows.{all_bytes, IsSkipped}
use Rattle.fallible_pg.specs.declared.message.Message.{Message}
use Rattle.fallible_pg.proofs.rows.RowsFallibleIterator.next.Given as goal

abbrev pub invariant-loop : goal.invariant-loop
invariant-loop g l = record {
  ended : l.self.ended ≡ true;
  skipped : List Message;
  each : All (IsSkipped l.fn.self.progress.recorded) skipped;
  passed : Yields (message_step g.R.ReadByte.left g.R.ReadByte.stays g.R.ReadMessage.no_room) (messages_parts l.fn.self.messages) skipped (messages_parts l.self.messages);
  recorded : l.self.progress.recorded ≡ l.fn.self.progress.recorded;
  came : shows_progress l.self.progress ≡ reached_by (shows_progress l.fn.self.progress) (all_bytes skipped);
  many : 5 * l.counter ≤ place_of (messages_parts l.self.messages).1;
}
