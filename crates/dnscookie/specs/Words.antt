-- Answers as numbers, for C: what include/dnscookie.h says of them. Refusals have document 01's numbers; it has none for a verdict, and those here, from 200 on, are
-- this project's own, as are those from 101 on for arguments that only C can get wrong. Assumes nothing.
use Rattle.std.specs.Prelude.{ℕ, ◌+◌, ◌-◌, ◌*◌, ◌/◌, ◌%◌, ◌^◌, ℤ, pos, negsuc}
use Rattle.verdict.specs.Findings.{Finding}
use Rattle.verdict.specs.Findings.Finding.{ignored, absent, clientOnly, bad, good}
use Rattle.verdict.specs.ReplyTable.{Sent, serve, truncate, error}
use Rattle.verdict.specs.Serial.{signed}
use Rattle.verdict.specs.declared.Carried.{Carried}
use Rattle.verdict.specs.declared.Carried.TheVariants.{Nothing, Fresh, Kept}
use Rattle.verdict.specs.declared.Which.{Which}
use Rattle.verdict.specs.declared.Which.TheVariants.{Generating, Other}
use Rattle.cookie.specs.ServerCookie as cookie
use Rattle.server.specs.Server.{Due, callersFault, noReply, rcode, due, Answer, refused, replied}

-- ---- arguments that are refused before any table of document 01 is looked at

-- a mode that is none
abbrev pub wrong_mode : ℕ
wrong_mode = 101

-- secrets that are not 16 bytes each
abbrev pub wrong_secrets : ℕ
wrong_secrets = 102

-- a client cookie that is not 8 bytes
abbrev pub wrong_client : ℕ
wrong_client = 103

-- bytes that are no ledger
abbrev pub wrong_ledger : ℕ
wrong_ledger = 104

-- a record that is not 32 bytes
abbrev pub wrong_record : ℕ
wrong_record = 105

-- an answer above 10, which no step that reached a ledger gets
abbrev pub wrong_answer : ℕ
wrong_answer = 106

-- lent bytes that are fewer than what may be written
abbrev pub no_room_word : ℕ
no_room_word = 107

-- and one that is no fault of the arguments: the ledger gives the member no secrets
abbrev pub no_secrets : ℕ
no_secrets = 108

-- ---- a verdict

-- a good one, by the secret that matched
abbrev pub which_number : Which → ℕ
which_number Generating = 206
which_number Other = 207

-- any, by its number
abbrev pub finding_number : Finding → ℕ
finding_number ignored = 200
finding_number absent = 201
finding_number clientOnly = 202
finding_number (bad step) = 202 + step
finding_number (good a which) = which_number which

-- a number that is not negative, and 0 for one that is
abbrev pub natural_of : ℤ → ℕ
natural_of (pos n) = n
natural_of (negsuc n) = 0

-- a signed number in 32 bits, in two's complement
abbrev pub in32 : ℤ → ℕ
in32 (pos n) = n
in32 (negsuc n) = 2 ^ 32 - 1 - n

-- the age of a good one, and 0
abbrev pub age_number : Finding → ℕ
age_number ignored = 0
age_number absent = 0
age_number clientOnly = 0
age_number (bad step) = 0
age_number (good a which) = in32 a

-- ---- a reply

-- by its RCODE: 0 where the question is served, and 23. 128 is not one: the question alone with the TC bit
abbrev pub sent_number : Sent → ℕ
sent_number serve = 0
sent_number (error code) = code
sent_number truncate = 128

-- of a refused request, likewise. 129 is no reply, and 130 the caller's fault
abbrev pub due_number : Due → ℕ
due_number (rcode code) = code
due_number noReply = 129
due_number callersFault = 130

-- the option that it carries
abbrev pub option_number : Carried → ℕ
option_number Nothing = 0
option_number Fresh = 1
option_number Kept = 2

-- ---- an answer with more than a number is a number of 64 bits with fields

-- the number in the lowest 8 bits; the reply, of 8, and the option, of 2, behind it; the age in the highest 32
abbrev pub fields : ℕ → ℕ → ℕ → ℕ → ℕ
fields number reply option age = number + 2 ^ 8 * reply + 2 ^ 16 * option + 2 ^ 32 * age

-- what is answered to a request
abbrev pub answer_word : Answer → ℕ
answer_word (refused n) = fields n (due_number (due n)) 0 0
answer_word (replied f owed) = fields (finding_number f) (sent_number owed.sent) (option_number owed.option) (age_number f)

-- and where an argument is refused, which is the caller's fault
abbrev pub fault_word : ℕ → ℕ
fault_word n = fields n (due_number callersFault) 0 0

-- a verdict with nothing of a reply
abbrev pub finding_word : Finding → ℕ
finding_word f = fields (finding_number f) 0 0 (age_number f)

-- what is answered to a COOKIE body
abbrev pub judged_word : cookie.Answer → ℕ
judged_word (cookie.refused n) = fields n 0 0 0
judged_word (cookie.found f) = finding_word f

-- what is written where only its length is told: 0 in the lowest 8 bits, and the length, of 8, behind it
abbrev pub length_word : ℕ → ℕ
length_word n = 2 ^ 8 * n

-- ---- the fields read, as the header's functions do

-- dnscookie_.._number: the lowest 8 bits
abbrev pub number_in : ℕ → ℕ
number_in w = w % 2 ^ 8

-- dnscookie_answer_reply
abbrev pub reply_in : ℕ → ℕ
reply_in w = w / 2 ^ 8 % 2 ^ 8

-- dnscookie_answer_option
abbrev pub option_in : ℕ → ℕ
option_in w = w / 2 ^ 16 % 2 ^ 2

-- dnscookie_.._age: the highest 32 bits, as a signed number
abbrev pub age_in : ℕ → ℤ
age_in w = signed (w / 2 ^ 32)

-- dnscookie_found_qdcount
abbrev pub qdcount_in : ℕ → ℕ
qdcount_in w = w / 2 ^ 8 % 2 ^ 8

-- dnscookie_found_start
abbrev pub start_in : ℕ → ℕ
start_in w = w / 2 ^ 16 % 2 ^ 16

-- dnscookie_found_end
abbrev pub end_in : ℕ → ℕ
end_in w = w / 2 ^ 32 % 2 ^ 16

-- dnscookie_written_length
abbrev pub length_in : ℕ → ℕ
length_in w = w / 2 ^ 8 % 2 ^ 8
