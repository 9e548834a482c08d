-- Messages.
use Rattle.std.specs.Prelude.{ℕ, List}
use Rattle.fallible_pg.specs.declared.message.Message.{Message}

-- all bytes of a message: its tag, its length and its body
abbrev pub message_bytes : Message → List ℕ
message_bytes m = m.bytes.items
