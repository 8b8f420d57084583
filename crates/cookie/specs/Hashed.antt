-- What is hashed, held as words. Assumes nothing.
use Rattle.std.specs.Prelude.{ℕ, List, ◌++◌, leb, length, drop, cond, ◌&&◌, Option, Some, None}
use Rattle.octets.specs.Numbers.{le_bytes}
use Rattle.cookie.specs.ServerCookie.{is_address}
use Rattle.cookie.specs.declared.hashed.Address.{Address}
use Rattle.cookie.specs.declared.hashed.Address.TheVariants.{V4, V6}
use Rattle.cookie.specs.declared.hashed.Hashed.{Hashed}

-- an address's bytes
abbrev pub address_bytes : Address → List ℕ
address_bytes (V4 word) = le_bytes 4 word
address_bytes (V6 low high) = le_bytes 8 low ++ le_bytes 8 high

-- bytes that are an address, and nothing for others
abbrev pub address_in : List ℕ → Option (List ℕ)
address_in s = cond (is_address s) (Some s) None

-- the bytes that are hashed
abbrev pub hashed_bytes : Hashed → List ℕ
hashed_bytes h = le_bytes 8 h.client ++ le_bytes 8 h.front ++ address_bytes h.address

-- bytes that are so, two words and an address, and nothing for others
abbrev pub hashed_in : List ℕ → Option (List ℕ)
hashed_in message = cond (leb 16 (length message) && is_address (drop 16 message)) (Some message) None
