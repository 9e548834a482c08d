-- What a message is to one who reads rows.
use Rattle.std.specs.Prelude.{ℕ, ◌==◌, Bool, ◌||◌, ◌&&◌, if◌then◌else◌, List, slice_index}
use Rattle.fallible_pg.specs.Cells.{is_row}
use Rattle.fallible_pg.specs.declared.fault.Damage.TheVariants as What
use Rattle.fallible_pg.specs.declared.kind.Kind.{Kind}
use Rattle.fallible_pg.specs.declared.kind.Kind.TheVariants.{Row, Notice, Skipped, Refusal, Ready, Damaged}

-- whether messages with this tag are part of results and no row: T describes rows, C ends a statement, and I an empty one; S is a parameter, and A a notification
abbrev pub is_of_results : ℕ → Bool
is_of_results tag = tag == 84 || tag == 67 || tag == 73 || tag == 83 || tag == 65

-- whether messages with this tag are those of a prepared statement: 1, 2 and 3 where it was parsed, bound and closed, t describes its parameters, n says that it has no rows, and s that more of them may be asked for
abbrev pub is_extended : ℕ → Bool
is_extended tag = tag == 49 || tag == 50 || tag == 51 || tag == 110 || tag == 115 || tag == 116

-- whether messages with this tag start a session: what the server asks for, R, the key by which a query is cancelled, K, or the version that it speaks, v
abbrev pub is_start : ℕ → Bool
is_start tag = tag == 82 || tag == 75 || tag == 118

-- whether messages with this tag are skipped: in a recording also those that start a session, and Z, which says that the server is ready
abbrev pub is_skipped : Bool → ℕ → Bool
is_skipped recorded tag = is_of_results tag || is_extended tag || (recorded && (is_start tag || tag == 90))

-- what a message with this tag is: D a row, N a notice, E a refusal, Z ready for the next query
abbrev pub kind_by : Bool → ℕ → List ℕ → Kind
kind_by recorded tag bytes = if tag == 68 then (if is_row bytes then Row else Damaged What.Row)
    else if is_skipped recorded tag then Skipped
    else if tag == 78 then Notice
    else if tag == 69 then Refusal
    else if tag == 90 then Ready
    else Damaged (What.Tag tag)

-- what a message is to one who reads rows, those of a recording or of one query
unfoldable pub kind_of : Bool → List ℕ → Kind
kind_of recorded bytes = kind_by recorded (slice_index bytes 0) bytes
