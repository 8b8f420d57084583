-- What dnscookie_find answers, as include/dnscookie.h says it. Its numbers and fields are those of the library (dnscookie's Words). Assumes nothing.
use Rattle.std.specs.Prelude.{ℕ, ◌+◌, ◌*◌, ◌^◌, List}
use Rattle.request.specs.Request as request

-- what is found in a message: the refusal's number, Absent's, which is 201, or 0; QDCOUNT, which is 0 or 1, in the 8 bits behind it; where the body starts in the
-- next 16, and where it ends in 16 more
abbrev pub found_word : request.Answer → ℕ
found_word (request.refused n) = n
found_word (request.no_cookie q) = 201 + 2 ^ 8 * q
found_word (request.cookie q start end) = 2 ^ 8 * q + 2 ^ 16 * start + 2 ^ 32 * end

-- of a message
unfoldable pub find_call : List ℕ → ℕ
find_call message = found_word (request.request message)
