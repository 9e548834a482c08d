-- What the program's words ask for.
use Rattle.std.specs.Prelude.{ℕ, ◌+◌, ◌-◌, ◌*◌, ◌^◌, nat_le, nat_lt, nat_eq, ◌&&◌, ◌||◌, if◌then◌else◌, drop, List, [], ◌∷◌, Option, Some, None, codes, bytes_eq, string_bytes}
use Rattle.std.specs.List.{starts_with}
use Rattle.std.specs.declared.string.String.{String}
use Rattle.std.specs.declared.alloc.Global.{Global}
use Rattle.program_io.specs.Arguments.{asked_from}
use Rattle.program_io.specs.declared.arguments.Asked.TheVariants.{Standard, Unexpected}
use Rattle.elf_tables.specs.declared.words.Wanted.{Wanted}

-- ---- an address

-- the value of a digit to the base 16, in either case, where the byte is one
abbrev pub hex_digit : ℕ → Option ℕ
hex_digit byte = if nat_le 48 byte && nat_le byte 57 then Some (byte - 48)
    else if nat_le 65 byte && nat_le byte 70 then Some (byte - 55)
    else if nat_le 97 byte && nat_le byte 102 then Some (byte - 87)
    else None

-- a digit more after a number below 2 ^ 60, and what comes of the number that this makes
abbrev pub digit_more : ℕ → Option ℕ → (ℕ → Option ℕ) → Option ℕ
digit_more n None rest = None
digit_more n (Some digit) rest = if nat_lt n (2 ^ 60) then rest (n * 16 + digit) else None

-- the number below 2 ^ 64 that digits write after a number, where they are all digits
unfoldable pub number_after : ℕ → List ℕ → Option ℕ
number_after n [] = Some n
number_after n (byte ∷ bytes) = digit_more n (hex_digit byte) (λ m. number_after m bytes)

-- a text without `0x` or `0X` in front
abbrev pub without_0x : List ℕ → List ℕ
without_0x text = if starts_with nat_eq text (codes "0x") || starts_with nat_eq text (codes "0X") then drop 2 text else text

-- the number that digits write, of which there is at least one
abbrev pub address_of_digits : List ℕ → Option ℕ
address_of_digits [] = None
address_of_digits (byte ∷ bytes) = number_after 0 (byte ∷ bytes)

-- the address that a word writes: digits to the base 16, in either case, with `0x` in front or without
abbrev pub address_of : List ℕ → Option ℕ
address_of word = address_of_digits (without_0x word)

-- ---- words

-- what words ask for that may name an input
abbrev pub wanted_of_input : Option ℕ → List (String Global) → Wanted
wanted_of_input address [] = record { address = address; asked = Standard }
wanted_of_input address (word ∷ words) = record { address = address; asked = asked_from word words }

-- a word that asks for nothing that there is
abbrev pub refused : String Global → Wanted
refused word = record { address = None; asked = Unexpected word }

-- what is asked for where a word is to be an address, by the address that it writes
abbrev pub wanted_at : Option ℕ → String Global → List (String Global) → Wanted
wanted_at None word words = refused word
wanted_at (Some address) word words = wanted_of_input (Some address) words

-- what the words after `--find` ask for
abbrev pub wanted_after_find : String Global → List (String Global) → Wanted
wanted_after_find find [] = refused find
wanted_after_find find (word ∷ words) = wanted_at (address_of (string_bytes word)) word words

-- what the words ask for, of which the first may be `--find`
abbrev pub wanted_from : List (String Global) → Wanted
wanted_from [] = wanted_of_input None []
wanted_from (word ∷ words) = if bytes_eq (string_bytes word) (codes "--find") then wanted_after_find word words else wanted_of_input None (word ∷ words)

-- what the program's words ask for, of which the first is its name
abbrev pub wanted_by : List (String Global) → Wanted
wanted_by [] = wanted_from []
wanted_by (name ∷ words) = wanted_from words
