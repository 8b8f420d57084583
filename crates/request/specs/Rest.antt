-- What is left to do behind each step of the reading, over what that step found. Only private functions promise it. Assumes nothing.
use Rattle.std.specs.Prelude.{ℕ, ◌+◌, ◌-◌, not, List, [], ◌∷◌, eqb}
use Rattle.octets.specs.Refusals.{◌when◌, first, answered}
use Rattle.edns.specs.Options.{cookie_in, is_cookie_length}
use Rattle.edns.specs.Options as edns
use Rattle.message.specs.Message as message
use Rattle.message.specs.declared.Record.{Record}
use Rattle.request.specs.Request.{Answer, refused, no_cookie, cookie, data_of, rest_checks, found_in}

-- check 10
abbrev pub after_cookie : ℕ → ℕ → ℕ → ℕ → Answer
after_cookie q base start end = answered refused (first (10 when not (is_cookie_length (end - start)) ∷ [])) (cookie q (base + start) (base + end))

-- behind the options
abbrev pub after_list : ℕ → ℕ → edns.Listed → Answer
after_list q base (edns.refused n) = refused n
after_list q base edns.no_cookie = no_cookie q
after_list q base (edns.cookie start end) = after_cookie q base start end

-- checks 8 to 10 on the OPT
abbrev pub after_opt : List ℕ → ℕ → Record → Answer
after_opt s q r = answered refused (first (8 when not (eqb r.version 0) ∷ [])) (after_list q r.start (cookie_in (data_of s r)))

-- behind the records
abbrev pub after_outline : List ℕ → ℕ → message.Outlined → Answer
after_outline s q (message.refused n) = refused n
after_outline s q message.no_opt = no_cookie q
after_outline s q (message.the_opt r) = after_opt s q r

-- checks 5 to 10 on a message
unfoldable pub after_head : List ℕ → Answer
after_head s = answered refused (first (rest_checks s)) (found_in s)
