-- What the code's answers say, in document 01's numbers and values. The cases `NamesHold` pin each. Assumes nothing.
use Rattle.std.specs.Prelude.{ℕ, Option, Some, None, Result, Ok, Err, ⊤}
use Rattle.edns.specs.declared.Cookie.{Cookie}
use Rattle.message.specs.declared.Fault.{Fault}
use Rattle.message.specs.declared.Fault.TheVariants as fault-as
use Rattle.request.specs.Request.{Answer, refused, no_cookie, cookie}
use Rattle.request.specs.declared.Reading.{Reading}
use Rattle.request.specs.declared.Refusal.{Refusal}
use Rattle.request.specs.declared.Refusal.TheVariants.{Size, Response, Questions, Malformed, WrongOpt, Version, OptionPast, CookieLength}

-- document 01's numbers
abbrev pub refusal_number : Refusal → ℕ
refusal_number Size = 3
refusal_number Response = 4
refusal_number Questions = 5
refusal_number Malformed = 6
refusal_number WrongOpt = 7
refusal_number Version = 8
refusal_number OptionPast = 9
refusal_number CookieLength = 10

-- what is wrong with a message, as a refusal
abbrev pub of_fault : Fault → Refusal
of_fault fault-as.Malformed = Malformed
of_fault fault-as.WrongOpt = WrongOpt

-- what `check_head` answers: the refusal's number, 0 for none
abbrev pub head_number : Result ⊤ Refusal → ℕ
head_number (Err refusal) = refusal_number refusal
head_number (Ok x) = 0

-- what is told of a COOKIE option, or of none
abbrev pub told_of : ℕ → Option Cookie → Answer
told_of q None = no_cookie q
told_of q (Some c) = cookie q c.start c.end

-- what `read` answers
abbrev pub answer_of : Result Reading Refusal → Answer
answer_of (Err refusal) = refused (refusal_number refusal)
answer_of (Ok reading) = told_of reading.qdcount reading.cookie
