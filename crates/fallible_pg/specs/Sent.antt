-- What a client sends, and what a server asks of it first.
use Rattle.std.specs.Prelude.{ℕ, ◌+◌, ◌==◌, ◌&&◌, if◌then◌else◌, nat_le, List, [], ◌∷◌, ◌++◌, length, slice_index, Option, Some, None, codes}
use Rattle.std.specs.Int.{w32, to_be_bytes}
use Rattle.fallible_pg.specs.Numbers.{u32_at}
use Rattle.fallible_pg.specs.declared.sending.CancelKey.{CancelKey}
use Rattle.fallible_pg.specs.declared.sending.Request.{Request}
use Rattle.fallible_pg.specs.declared.sending.Request.TheVariants.{Nothing, Password, Other}

-- a message: its tag, its length, which counts its own four bytes and the body, and the body
abbrev pub sent_message : List ℕ → List ℕ → List ℕ
sent_message tag body = tag ++ to_be_bytes w32 (length body + 4) ++ body

-- a message of a text, which ends with a 0
abbrev pub sent_text : List ℕ → List ℕ → List ℕ
sent_text tag text = sent_message tag (text ++ 0 ∷ [])

-- a query
abbrev pub sent_query : List ℕ → List ℕ
sent_query query = sent_text (codes "Q") query

-- a password in clear text
abbrev pub sent_password : List ℕ → List ℕ
sent_password password = sent_text (codes "p") password

-- the end of a session
abbrev pub sent_end : List ℕ
sent_end = sent_message (codes "X") []

-- what asks for a session: version 3.0, and pairs of names and values, each with a 0 after it, and a 0
abbrev pub startup_body : List ℕ → List ℕ → List ℕ
startup_body user database = 0 ∷ 3 ∷ 0 ∷ 0 ∷ codes "user" ++ 0 ∷ user ++ 0 ∷ codes "database" ++ 0 ∷ database ++ 0 ∷ codes "client_encoding" ++ 0 ∷ codes "UTF8" ++ 0 ∷ 0 ∷ []

-- what asks for a session; it has no tag
abbrev pub sent_startup : List ℕ → List ℕ → List ℕ
sent_startup user database = sent_message [] (startup_body user database)

-- what a number asks for
abbrev pub request_by : ℕ → Request
request_by n = if n == 0 then Nothing else if n == 3 then Password else Other n

-- what a message asks for: it has the tag R, and its body begins with a number
abbrev pub request_of : List ℕ → Option Request
request_of message = if (slice_index message 0 == 82) && nat_le 9 (length message) then Some (request_by (u32_at message 5)) else None

-- the two numbers by which a query of a session is cancelled, by the message that tells them: it has the tag K, and its body is these
abbrev pub cancel_key_of : List ℕ → Option CancelKey
cancel_key_of message = if (slice_index message 0 == 75) && (length message == 13) then Some (record { process = u32_at message 5; secret = u32_at message 9 }) else None

-- what asks a server to cancel the query of a session: a number that stands for this, and the two; it has no tag
abbrev pub sent_cancel : CancelKey → List ℕ
sent_cancel key = sent_message [] (to_be_bytes w32 80877102 ++ to_be_bytes w32 key.process ++ to_be_bytes w32 key.secret)
