-- What lines of settings say.
use Rattle.std.specs.Prelude.{ℕ, ◌+◌, ◌%◌, ◌^◌, ◌==◌, Bool, List, length, map, Option, Some, None, Result, Ok, Err, if◌then◌else◌, nat_lt, codes, bytes_eq}
use Rattle.std.specs.List.{before_first, after_first, position_or_len}
use Rattle.std.specs.Str.Lines.{lines}
use Rattle.fallible_iterator.specs.Lists.{folded, mapped, on_value, results}
use Rattle.fallible_itertools.specs.Failing.{recovered, stopped_after}
use Rattle.program_io.specs.Numbers.{number_of}
use Rattle.example_consumers.specs.declared.settings.BadLine.{BadLine}
use Rattle.example_consumers.specs.declared.settings.NoSettings.{NoSettings}
use Rattle.example_consumers.specs.declared.settings.NoSettings.TheVariants.{TooManyBad}
use Rattle.example_consumers.specs.declared.settings.Setting.{Setting}
use Rattle.example_consumers.specs.declared.settings.Setting.TheVariants.{Width, Height}
use Rattle.example_consumers.specs.declared.settings.Settings.{Settings}

-- whether the byte is an equals sign
abbrev pub is_equals : ℕ → Bool
is_equals b = b == 61

-- the setting of a key and a value, if the value is a number and the key is `width` or `height`
abbrev pub setting_with : List ℕ → Option ℕ → Result Setting BadLine
setting_with key None = Err (record {})
setting_with key (Some value) =
    if bytes_eq key (codes "width") then Ok (Width value)
    else if bytes_eq key (codes "height") then Ok (Height value)
    else Err (record {})

-- the setting that a line is: the key before its first equals sign, and the value after it
abbrev pub setting_of : List ℕ → Result Setting BadLine
setting_of line = if nat_lt (position_or_len is_equals line) (length line)
    then setting_with (before_first is_equals line) (number_of (after_first is_equals line))
    else Err (record {})

-- settings and a number of bad lines, with one line more: a setting replaces the last value of its key, and a bad line is counted, modulo 2 ^ 32
abbrev pub with_line : Settings × ℕ → Option Setting → Settings × ℕ
with_line read (Some (Width value)) = (record { width = Some value; height = read.0.height }, read.1)
with_line read (Some (Height value)) = (record { width = read.0.width; height = Some value }, read.1)
with_line read None = (read.0, (read.1 + 1) % 2 ^ 32)

-- no settings and no bad line
abbrev pub nothing_read : Settings × ℕ
nothing_read = (record { width = None; height = None }, 0)

-- what was read, if less than a hundred lines are bad
abbrev pub few_bad_lines : Settings × ℕ → Result (Settings × ℕ) NoSettings
few_bad_lines read = if nat_lt read.1 100 then Ok read else Err TooManyBad

-- what the settings of a list say and how many bad lines it has, if less than a hundred
abbrev pub settings_in : List (Result Setting BadLine) → Result (Settings × ℕ) NoSettings
settings_in l = on_value (folded (λ e. e) (λ read line. Ok (with_line read line)) nothing_read (recovered (λ _. Ok (Some None)) (stopped_after 100 (mapped (λ x. Ok (Some x)) l)))) few_bad_lines

-- what the lines of a text say and how many of them are bad, if less than a hundred
abbrev pub settings_of : List ℕ → Result (Settings × ℕ) NoSettings
settings_of text = settings_in (results (map setting_of (lines text)))
