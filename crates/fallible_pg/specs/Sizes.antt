-- The sizes of messages in bytes.
use Rattle.std.specs.Prelude.{◌≡◌, ℕ, ◌+◌, Bool, ◌&&◌, if◌then◌else◌, nat_le, List, length, Result, Ok, Err}
use Rattle.fallible_pg.specs.Numbers.{u32_at}
use Rattle.fallible_pg.specs.declared.fault.Damage.{Damage}
use Rattle.fallible_pg.specs.declared.fault.Damage.TheVariants.{Cut, Length}

-- whether a message may state this length, which counts its own four bytes and the body
abbrev pub is_length : ℕ → Bool
is_length n = nat_le 4 n && nat_le n 1073741823

-- The size of the message that bytes begin with and that states this length, tag and all; or what is wrong.
abbrev pub size_by : ℕ → List ℕ → Result ℕ Damage
size_by n bytes = if is_length n then (if nat_le (n + 1) (length bytes) then Ok (n + 1) else Err Cut) else Err (Length n)

-- The size of the message that bytes begin with; or what is wrong: they are cut, or it states a length that none has. After its tag, one byte, a message states its length.
unfoldable pub first_size : List ℕ → Result ℕ Damage
first_size bytes = if nat_le 5 (length bytes) then size_by (u32_at bytes 1) bytes else Err Cut

-- These bytes are one message.
abbrev pub IsMessage : List ℕ → Type 0
IsMessage bytes = first_size bytes ≡ Ok (length bytes)
