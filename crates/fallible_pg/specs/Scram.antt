-- The words of SCRAM-SHA-256, over a hash.
use Rattle.std.specs.Prelude.{◌≡◌, ◌<◌, ◌&&◌, if◌then◌else◌, ℕ, zero, suc, List, [], ◌∷◌, ◌++◌, length, take, drop, nat_le, nat_lt, slice_index, Option, Some, None, codes, vec_items}
use Rattle.std.specs.Int.{w32, to_be_bytes}
use Rattle.std.specs.Int.Bits.{bit_xor}
use Rattle.program_io.specs.Numbers.{number_of}
use Rattle.fallible_pg.specs.Base64.{base64}
use Rattle.fallible_pg.specs.Sent.{sent_message}
use Rattle.fallible_pg.specs.Strings.{before}
use Rattle.fallible_pg.specs.declared.scram.Answer.{Answer}

-- ---- what a client says first

-- what a client says first, by a text of its own that no one can guess, without what comes before it
abbrev pub client_first_bare : List ℕ → List ℕ
client_first_bare nonce = codes "n=,r=" ++ nonce

-- what it says first: that it binds to no channel, and this
abbrev pub first_words : List ℕ → List ℕ
first_words nonce = codes "n,," ++ client_first_bare nonce

-- the message by which it says so: the mechanism's name, how many words, and the words
abbrev pub sent_first : List ℕ → List ℕ
sent_first nonce = sent_message (codes "p") (codes "SCRAM-SHA-256" ++ 0 ∷ to_be_bytes w32 (length (first_words nonce)) ++ first_words nonce)

-- ---- what a server asks then

-- What a server asks: it repeats the client's text and adds one of its own, and tells the salt and how many rounds of the hash the password takes.
abbrev pub asked_words : List ℕ → List ℕ → List ℕ → List ℕ
asked_words nonce salt digits = codes "r=" ++ nonce ++ codes ",s=" ++ base64 salt ++ codes ",i=" ++ digits

-- the number of rounds that digits write, if they write one; no 0 and no plus stands first
abbrev pub rounds_of : List ℕ → Option ℕ
rounds_of digits = if nat_le 1 (length digits) && nat_lt 48 (slice_index digits 0) then number_of digits else None

-- A server asks well: it asks in these words, the digits write a number of rounds, and its text begins with the client's own, goes on, and has no comma.
pub record Asks (own asked nonce salt digits : List ℕ) (rounds : ℕ) : Type 0 where
  pub is : asked ≡ asked_words nonce salt digits
  pub counted : rounds_of digits ≡ Some rounds
  pub repeats : take (length own) nonce ≡ own
  pub adds : length own < length nonce
  pub plain : before 44 nonce ≡ nonce

-- The parts that a text has, if a server asks well by it: the client's text with the server's
abbrev pub nonce_part : List ℕ → List ℕ
nonce_part asked = before 44 (drop 2 asked)

-- what is after that and the name of the salt
abbrev pub salted_part : List ℕ → List ℕ
salted_part asked = drop 3 (drop (length (nonce_part asked)) (drop 2 asked))

-- the salt, in base64
abbrev pub salt_part : List ℕ → List ℕ
salt_part asked = before 44 (salted_part asked)

-- the digits of the number of rounds
abbrev pub digits_part : List ℕ → List ℕ
digits_part asked = drop 3 (drop (length (salt_part asked)) (salted_part asked))

-- ---- what the client answers

-- what the client answers, without its proof
abbrev pub unproved_words : List ℕ → List ℕ
unproved_words nonce = codes "c=biws,r=" ++ nonce

-- all that was said, of which both prove that they know the password
abbrev pub said_words : List ℕ → List ℕ → List ℕ → List ℕ
said_words own asked nonce = client_first_bare own ++ 44 ∷ asked ++ 44 ∷ unproved_words nonce

-- the first so many bytes of two texts, joined by exclusive or
unfoldable pub xored : ℕ → List ℕ → List ℕ → List ℕ
xored zero a b = []
xored (suc n) a b = xored n a b ++ bit_xor (slice_index a n) (slice_index b n) ∷ []

module _ (hash : List ℕ → List ℕ) (hmac : List ℕ → List ℕ → List ℕ) where
  -- the key by which a client proves that it knows the password, of what the password was stretched to
  abbrev pub client_key : List ℕ → List ℕ
  client_key stretched = hmac stretched (codes "Client Key")

  -- the client's proof: its key, joined with the HMAC of all that was said by the hash of that key
  abbrev pub client_proof : List ℕ → List ℕ → List ℕ
  client_proof stretched said = xored 32 (client_key stretched) (hmac (hash (client_key stretched)) said)

  -- the server's proof: the HMAC of all that was said by a key of its own
  abbrev pub server_proof : List ℕ → List ℕ → List ℕ
  server_proof stretched said = hmac (hmac stretched (codes "Server Key")) said

  -- what the client answers
  abbrev pub answer_words : List ℕ → List ℕ → List ℕ → List ℕ
  answer_words nonce stretched said = unproved_words nonce ++ codes ",p=" ++ base64 (client_proof stretched said)

  -- what the server says last, where it knows the password too
  abbrev pub last_words : List ℕ → List ℕ → List ℕ
  last_words stretched said = codes "v=" ++ base64 (server_proof stretched said)

-- The client's answer to what a server asks: it asks well, and the answer has the words by which the client proves that it knows the password, and those by which the server does.
pub record Answers (hash : List ℕ → List ℕ) (hmac : List ℕ → List ℕ → List ℕ) (stretch : List ℕ → List ℕ → ℕ → List ℕ) (password own asked words wanted : List ℕ) : Type 0 where
  pub nonce : List ℕ
  pub salt : List ℕ
  pub digits : List ℕ
  pub rounds : ℕ
  pub asks : Asks own asked nonce salt digits rounds
  pub says : words ≡ answer_words hash hmac nonce (stretch password salt rounds) (said_words own asked nonce)
  pub wants : wanted ≡ last_words hash hmac (stretch password salt rounds) (said_words own asked nonce)

-- what an answer says
abbrev pub answer_says : Answer → List ℕ
answer_says answer = vec_items answer.words

-- the words by which the server proves that it knows the password
abbrev pub answer_wants : Answer → List ℕ
answer_wants answer = vec_items answer.wanted
