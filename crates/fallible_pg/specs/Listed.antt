-- What messages come of bytes.
use Rattle.std.specs.Prelude.{◌≡◌, ℕ, zero, suc, ◌+◌, List, [], ◌∷◌, length, take, drop, Result, Ok, Err}
use Rattle.std.specs.declared.alloc.AllocError.{AllocError}
use Rattle.fallible_pg.specs.Messages.{message_bytes}
use Rattle.fallible_pg.specs.Sizes.{first_size}
use Rattle.fallible_pg.specs.declared.fault.Damage.{Damage}
use Rattle.fallible_pg.specs.declared.fault.Damage.TheVariants.{Cut}
use Rattle.fallible_pg.specs.declared.fault.PgFault.{PgFault}
use Rattle.fallible_pg.specs.declared.fault.PgFault.TheVariants.{Damaged, Memory}
use Rattle.fallible_pg.specs.declared.message.Message.{Message}

-- what comes of bytes that begin with a message of so many, or with none
abbrev pub messages_at : Result ℕ Damage → ℕ → List ℕ → (ℕ → List ℕ → List (Result (List ℕ) PgFault)) → List (Result (List ℕ) PgFault)
messages_at (Ok n) place bytes messages = Ok (take n bytes) ∷ messages (place + n) (drop n bytes)
messages_at (Err damage) place bytes messages = Err (Damaged place damage) ∷ []

-- the same in so many steps at most
unfoldable pub messages_in : ℕ → ℕ → List ℕ → List (Result (List ℕ) PgFault)
messages_in k place [] = []
messages_in zero place (b ∷ bs) = Err (Damaged place Cut) ∷ []
messages_in (suc k) place (b ∷ bs) = messages_at (first_size (b ∷ bs)) place (b ∷ bs) (messages_in k)

-- the messages of bytes, the first of which has this place, up to the end or the damage that ends them
abbrev pub messages_of : ℕ → List ℕ → List (Result (List ℕ) PgFault)
messages_of place bytes = messages_in (length bytes) place bytes

-- the message has these bytes
abbrev pub HasBytes : List ℕ → Message → Type 0
HasBytes bytes m = message_bytes m ≡ bytes

-- an allocation failure is this failure
abbrev pub BecomesMemory : AllocError → PgFault → Type 0
BecomesMemory refused fault = fault ≡ Memory
