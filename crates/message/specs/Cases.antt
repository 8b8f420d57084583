-- Cases that pin the definitions of Name.antt, Record.antt, Message.antt and Answers.antt, with bytes written out. Assumes nothing.
use Rattle.std.specs.Prelude.{◌≡◌, true, false, List, [], ◌∷◌, ◌++◌, map, ℕ, zero, suc, replicate, Some, None, Ok, Err}
use Rattle.std.proofs.Math.Option.{none, some}
use Rattle.octets.specs.Numbers.{up_to}
use Rattle.message.specs.Answers.{end_of, found_of, outline_of}
use Rattle.message.specs.Message.{qdcount, ancount, nscount, arcount, Outlined, refused, no_opt, the_opt, outline}
use Rattle.message.specs.Name.{name_end}
use Rattle.message.specs.Record.{question_end, record_at}
use Rattle.message.specs.declared.Fault.TheVariants.{Malformed, WrongOpt}
use Rattle.message.specs.declared.Record.{Record}

-- what the answers say, case by case
pub record NamesHold : Type 0 where
  pub ends : (e : ℕ) → end_of (Some e) ≡ some e
  pub ends_not : end_of None ≡ none
  pub whole : (r : Record) → found_of (Some r) ≡ some r
  pub cut : found_of None ≡ none
  pub malformed_is_6 : outline_of (Err Malformed) ≡ refused 6
  pub wrong_is_7 : outline_of (Err WrongOpt) ≡ refused 7
  pub without : outline_of (Ok None) ≡ no_opt
  pub with_one : (r : Record) → outline_of (Ok (Some r)) ≡ the_opt r

-- n zeros
abbrev pub zeros : ℕ → List ℕ
zeros n = replicate n 0

-- ---- names

-- a name of n labels "a"
abbrev pub labels : ℕ → List ℕ
labels zero = 0 ∷ []
labels (suc n) = 1 ∷ 97 ∷ labels n

pub record NameCases : Type 0 where
  pub root : name_end (0 ∷ []) 0 ≡ some 1
  pub one_label : name_end (1 ∷ 97 ∷ 0 ∷ []) 0 ≡ some 3
  pub mid_message : name_end (9 ∷ 9 ∷ 1 ∷ 97 ∷ 2 ∷ 98 ∷ 99 ∷ 0 ∷ 9 ∷ []) 2 ≡ some 8
  pub pointer : name_end (192 ∷ 0 ∷ []) 0 ≡ some 2
  pub last_pointer : name_end (255 ∷ 255 ∷ []) 0 ≡ some 2
  pub label_pointer : name_end (1 ∷ 97 ∷ 192 ∷ 12 ∷ 0 ∷ []) 0 ≡ some 4
  -- a pointer to itself is no loop
  pub not_followed : name_end (192 ∷ 0 ∷ 9 ∷ []) 0 ≡ some 2
  pub pointer_cut : name_end (192 ∷ []) 0 ≡ none
  pub nothing : name_end [] 0 ≡ none
  pub at_the_end : name_end (0 ∷ []) 1 ≡ none
  pub no_end : name_end (1 ∷ 97 ∷ []) 0 ≡ none
  pub label_past : name_end (3 ∷ 97 ∷ 0 ∷ []) 0 ≡ none
  pub label_just_past : name_end (2 ∷ 97 ∷ 0 ∷ []) 0 ≡ none
  -- no bound on a whole name: 200 labels
  pub many_labels : name_end (labels 200) 0 ≡ some 401
  -- every first byte, before 255 zeros: 0 is the root; a label of n bytes and a zero end at n + 2; 64 to 191 is malformed; 192 to 255 is a pointer
  pub every_byte : map (λ (b : ℕ). name_end (b ∷ zeros 255) 0) (up_to 0 256)
      ≡ some 1 ∷ map (λ (n : ℕ). some n) (up_to 3 63) ++ replicate 128 none ++ replicate 64 (some 2)

-- ---- questions and records

-- a record with a byte of its own in each place
abbrev pub each_byte : List ℕ
each_byte = 1 ∷ 97 ∷ 0 ∷ 0x21 ∷ 0x22 ∷ 0x31 ∷ 0x32 ∷ 0x41 ∷ 0x42 ∷ 0x43 ∷ 0x44 ∷ 0x00 ∷ 0x02 ∷ 0x61 ∷ 0x62 ∷ []

pub record RecordCases : Type 0 where
  pub question : question_end (1 ∷ 97 ∷ 0 ∷ 0 ∷ 1 ∷ 0 ∷ 1 ∷ []) 0 ≡ some 7
  pub question_cut : question_end (1 ∷ 97 ∷ 0 ∷ 0 ∷ 1 ∷ 0 ∷ []) 0 ≡ none
  pub question_name : question_end (1 ∷ 97 ∷ 64 ∷ 0 ∷ 1 ∷ 0 ∷ 1 ∷ 0 ∷ []) 0 ≡ none
  pub places : record_at each_byte 0 ≡ some (record { root = false; kind = 0x2122; version = 0x42; start = 13; end = 15 })
  pub root_owner : record_at each_byte 2 ≡ some (record { root = true; kind = 0x2122; version = 0x42; start = 13; end = 15 })
  pub rooted : record_at (9 ∷ 0 ∷ 0 ∷ 41 ∷ 4 ∷ 208 ∷ 0 ∷ 7 ∷ 0 ∷ 0 ∷ 0 ∷ 0 ∷ []) 1 ≡ some (record { root = true; kind = 41; version = 7; start = 12; end = 12 })
  pub pointed : record_at (192 ∷ 0 ∷ 0 ∷ 41 ∷ 4 ∷ 208 ∷ 0 ∷ 7 ∷ 0 ∷ 0 ∷ 0 ∷ 0 ∷ []) 0 ≡ some (record { root = false; kind = 41; version = 7; start = 12; end = 12 })
  pub long_data : record_at (zeros 9 ++ (1 ∷ 2 ∷ zeros 258)) 0 ≡ some (record { root = true; kind = 0; version = 0; start = 11; end = 269 })
  pub data_cut : record_at (zeros 9 ++ (1 ∷ 2 ∷ zeros 257)) 0 ≡ none
  pub fixed_cut : record_at (zeros 10) 0 ≡ none
  pub owner_cut : record_at (1 ∷ 97 ∷ []) 0 ≡ none

-- ---- whole messages

-- a header with this byte 2, whose top bit is QR, and these counts
abbrev pub flagged : ℕ → ℕ → ℕ → ℕ → ℕ → List ℕ
flagged flags qd an ns ar = 0x12 ∷ 0x34 ∷ flags ∷ 0x80 ∷ 0 ∷ qd ∷ 0 ∷ an ∷ 0 ∷ ns ∷ 0 ∷ ar ∷ []

-- a query's
abbrev pub header : ℕ → ℕ → ℕ → ℕ → List ℕ
header = flagged 0x01

-- a response's
abbrev pub response : ℕ → ℕ → ℕ → ℕ → List ℕ
response = flagged 0x81

-- "a", IN, A: 7 bytes
abbrev pub question : List ℕ
question = 1 ∷ 97 ∷ 0 ∷ 0 ∷ 1 ∷ 0 ∷ 1 ∷ []

-- records without data: of TYPE 1, owned by the root, 11 bytes
abbrev pub plain : List ℕ
plain = 0 ∷ 0 ∷ 1 ∷ 0 ∷ 1 ∷ 0 ∷ 0 ∷ 0 ∷ 0 ∷ 0 ∷ 0 ∷ []

-- an OPT, 11 bytes
abbrev pub opt : List ℕ
opt = 0 ∷ 0 ∷ 41 ∷ 4 ∷ 208 ∷ 0 ∷ 0 ∷ 128 ∷ 0 ∷ 0 ∷ 0 ∷ []

-- one whose owner is "a"
abbrev pub foreign : List ℕ
foreign = 1 ∷ 97 ∷ opt

-- one whose owner is a pointer to a zero byte
abbrev pub pointed : List ℕ
pointed = 192 ∷ 4 ∷ 0 ∷ 41 ∷ 4 ∷ 208 ∷ 0 ∷ 0 ∷ 128 ∷ 0 ∷ 0 ∷ 0 ∷ []

-- an OPT that lacks its last byte
abbrev pub cut : List ℕ
cut = 0 ∷ 0 ∷ 41 ∷ 4 ∷ 208 ∷ 0 ∷ 0 ∷ 128 ∷ 0 ∷ 0 ∷ []

-- the OPT whose data, none, stands here
abbrev pub opt_at : ℕ → Outlined
opt_at at = the_opt (record { root = true; kind = 41; version = 0; start = at; end = at })

pub record MessageCases : Type 0 where
  pub counts : qdcount (zeros 4 ++ 1 ∷ 2 ∷ 3 ∷ 4 ∷ 5 ∷ 6 ∷ 7 ∷ 8 ∷ []) ≡ 0x0102
  pub counts_an : ancount (zeros 4 ++ 1 ∷ 2 ∷ 3 ∷ 4 ∷ 5 ∷ 6 ∷ 7 ∷ 8 ∷ []) ≡ 0x0304
  pub counts_ns : nscount (zeros 4 ++ 1 ∷ 2 ∷ 3 ∷ 4 ∷ 5 ∷ 6 ∷ 7 ∷ 8 ∷ []) ≡ 0x0506
  pub counts_ar : arcount (zeros 4 ++ 1 ∷ 2 ∷ 3 ∷ 4 ∷ 5 ∷ 6 ∷ 7 ∷ 8 ∷ []) ≡ 0x0708
  -- made of its parts
  pub empty : outline (header 0 0 0 0) ≡ no_opt
  pub asked : outline (header 1 0 0 0 ++ question) ≡ no_opt
  pub asked_twice : outline (header 2 0 0 0 ++ question ++ question) ≡ no_opt
  pub each_section : outline (header 1 1 1 1 ++ question ++ plain ++ plain ++ plain) ≡ no_opt
  -- 6: a part missing, of each kind
  pub no_message : outline [] ≡ refused 6
  pub no_header : outline (zeros 11) ≡ refused 6
  pub no_question : outline (header 1 0 0 0) ≡ refused 6
  pub no_answer : outline (header 1 1 0 0 ++ question) ≡ refused 6
  pub no_authority : outline (header 1 0 1 0 ++ question) ≡ refused 6
  pub no_additional : outline (header 1 0 0 1 ++ question) ≡ refused 6
  pub one_of_two : outline (header 1 0 0 2 ++ question ++ opt) ≡ refused 6
  pub cut_record : outline (header 1 0 0 1 ++ question ++ cut) ≡ refused 6
  -- 6: bytes left over
  pub left_over : outline (header 0 0 0 0 ++ 0 ∷ []) ≡ refused 6
  pub left_over_question : outline (header 1 0 0 0 ++ question ++ question) ≡ refused 6
  pub left_over_record : outline (header 1 0 0 1 ++ question ++ opt ++ opt) ≡ refused 6
  pub left_over_byte : outline (header 1 0 0 1 ++ question ++ opt ++ 0 ∷ []) ≡ refused 6
  -- the OPT, wherever it stands in the additional section
  pub the_one : outline (header 1 0 0 1 ++ question ++ opt) ≡ opt_at 30
  pub the_first : outline (header 0 0 0 2 ++ opt ++ plain) ≡ opt_at 23
  pub the_last : outline (header 0 0 0 2 ++ plain ++ opt) ≡ opt_at 34
  pub behind_sections : outline (header 1 1 1 1 ++ question ++ plain ++ plain ++ opt) ≡ opt_at 52
  pub other_type : outline (header 0 0 0 1 ++ 0 ∷ 41 ∷ 0 ∷ 4 ∷ 208 ∷ 0 ∷ 0 ∷ 0 ∷ 0 ∷ 0 ∷ 0 ∷ []) ≡ no_opt
  pub type_is_2_bytes : outline (header 0 0 0 1 ++ 0 ∷ 1 ∷ 41 ∷ 4 ∷ 208 ∷ 0 ∷ 0 ∷ 0 ∷ 0 ∷ 0 ∷ 0 ∷ []) ≡ no_opt
  pub next_type : outline (header 0 1 0 0 ++ 0 ∷ 0 ∷ 42 ∷ 4 ∷ 208 ∷ 0 ∷ 0 ∷ 0 ∷ 0 ∷ 0 ∷ 0 ∷ []) ≡ no_opt
  -- 7: misplaced
  pub in_answer : outline (header 1 1 0 0 ++ question ++ opt) ≡ refused 7
  pub in_authority : outline (header 1 0 1 0 ++ question ++ opt) ≡ refused 7
  pub last_before : outline (header 1 1 1 1 ++ question ++ plain ++ opt ++ plain) ≡ refused 7
  pub in_both : outline (header 1 1 0 1 ++ question ++ opt ++ opt) ≡ refused 7
  -- 7: its owner is not the root, where it is the only one, the first and the second
  pub foreign_owner : outline (header 1 0 0 1 ++ question ++ foreign) ≡ refused 7
  pub pointer_owner : outline (header 1 0 0 1 ++ question ++ pointed) ≡ refused 7
  pub foreign_first : outline (header 1 0 0 2 ++ question ++ foreign ++ opt) ≡ refused 7
  pub foreign_second : outline (header 1 0 0 2 ++ question ++ opt ++ foreign) ≡ refused 7
  -- 7: a second one
  pub second : outline (header 1 0 0 2 ++ question ++ opt ++ opt) ≡ refused 7
  pub second_later : outline (header 1 0 0 3 ++ question ++ opt ++ plain ++ opt) ≡ refused 7
  pub third : outline (header 1 0 0 3 ++ question ++ opt ++ opt ++ opt) ≡ refused 7
  -- the same of a response
  pub response_opt : outline (response 1 1 0 1 ++ question ++ plain ++ opt) ≡ opt_at 41
  pub response_in_answer : outline (response 1 1 0 0 ++ question ++ opt) ≡ refused 7
  pub response_foreign : outline (response 1 0 0 1 ++ question ++ foreign) ≡ refused 7
  pub response_second : outline (response 1 0 0 2 ++ question ++ opt ++ opt) ≡ refused 7
  pub response_over : outline (response 1 0 0 1 ++ question ++ opt ++ 0 ∷ []) ≡ refused 6
  -- 6 covers the whole message before 7 is tried
  pub six_first : outline (header 1 0 0 3 ++ question ++ opt ++ opt ++ cut) ≡ refused 6
  pub six_first_over : outline (header 1 1 0 0 ++ question ++ opt ++ 0 ∷ []) ≡ refused 6
