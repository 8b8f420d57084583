-- Cases that pin the definitions of this crate: small journals with document 01's answers, its sample journal, rows that win over others, each line of the stage table, and whole
-- ledgers field by field. The wait is document 01's, and A, B and C are its secrets. Assumes nothing.
use Rattle.std.specs.Prelude.{ℕ, ◌≡◌, Bool, true, false, cond, List, [], ◌∷◌, ◌++◌, map, eqb, ltb, Some, None, Ok, Err}
use Rattle.std.proofs.Math.Option.{Option, none, some}
use Rattle.octets.specs.Numbers.{printed}
use Rattle.secret.specs.Secrets.{generating_of, other_of}
use Rattle.secret.specs.declared.Secret.{Secret}
use Rattle.secret.specs.declared.Secrets.{Secrets}
use Rattle.secret.specs.declared.Secrets.TheVariants.{One, Two}
use Rattle.ledger.specs.declared.kinds.Kind.TheVariants as kind-as
use Rattle.ledger.specs.declared.Ledger.{Ledger}
use Rattle.ledger.specs.declared.Refusal.{Refusal}
use Rattle.ledger.specs.declared.Refusal.TheVariants as refusal-as
use Rattle.ledger.specs.declared.Step.{Step}
use Rattle.ledger.specs.Account.{account}
use Rattle.ledger.specs.Answers.{refusal_number, answer_number, held_of, kind_number}
use Rattle.ledger.specs.Claims.{member_steps}
use Rattle.ledger.specs.Journal.{read_step, START, OPEN, LEARN, SWITCH, DROP, CANCEL}
use Rattle.ledger.specs.Rules.{View, wait, refusal, stage_table, secrets_of}
use Rattle.ledger.specs.Run.{run, offered, ledger_after, history}
use Rattle.ledger.specs.Ledger.{fresh_ledger, view_of}

-- what the names say, case by case
pub record NamesHold : Type 0 where
  pub kinds : START ∷ OPEN ∷ LEARN ∷ SWITCH ∷ DROP ∷ CANCEL ∷ [] ≡ 0 ∷ 1 ∷ 2 ∷ 3 ∷ 4 ∷ 5 ∷ []
  pub refusals : map refusal_number (refusal-as.Kind ∷ refusal-as.Time ∷ refusal-as.Earlier ∷ refusal-as.Again ∷ refusal-as.NotOpen ∷ refusal-as.OtherSecret ∷ refusal-as.NoMember
      ∷ refusal-as.OtherStage ∷ refusal-as.OthersApart ∷ refusal-as.Wait ∷ [])
      ≡ 1 ∷ 2 ∷ 3 ∷ 4 ∷ 5 ∷ 6 ∷ 7 ∷ 8 ∷ 9 ∷ 10 ∷ []
  pub accepted : answer_number (Ok tt) ≡ 0
  pub refused : (r : Refusal) → answer_number (Err r) ≡ refusal_number r
  pub nothing : held_of None ≡ none
  pub holds : (s : Secrets) → held_of (Some s) ≡ some s
  pub numbered : map kind_number (kind-as.Start ∷ kind-as.Open ∷ kind-as.Learn ∷ kind-as.Switch ∷ kind-as.Drop ∷ kind-as.Cancel ∷ []) ≡ 0 ∷ 1 ∷ 2 ∷ 3 ∷ 4 ∷ 5 ∷ []

-- a record as document 01 lays it out: kind, member, six spare bytes, time, secret
abbrev pub entry : ℕ → ℕ → ℕ → ℕ → List ℕ
entry kind member time secret = kind ∷ member ∷ 0 ∷ 0 ∷ 0 ∷ 0 ∷ 0 ∷ 0 ∷ printed 8 time ++ printed 16 secret

-- sixteen bytes of 11 hex, of 22 and of 33
abbrev pub A : ℕ
A = 0x11111111111111111111111111111111

abbrev pub B : ℕ
B = 0x22222222222222222222222222222222

abbrev pub C : ℕ
C = 0x33333333333333333333333333333333

-- B but for its last byte, and for its first
abbrev pub last_other : ℕ
last_other = 0x22222222222222222222222222222223

abbrev pub first_other : ℕ
first_other = 0x23222222222222222222222222222222

-- the secret of sixteen bytes that are alike, by its words: A, B and C
abbrev pub alike : ℕ → Secret
alike word = record { k0 = word; k1 = word }

abbrev pub s_a : Secret
s_a = alike 0x1111111111111111

abbrev pub s_b : Secret
s_b = alike 0x2222222222222222

-- the answers to records offered to a fresh ledger
unfoldable pub answers : List (List ℕ) → List ℕ
answers records = map (λ e. e.answer) (run wait fresh_ledger records)

-- the answers to records that are each offered by themselves to a ledger
unfoldable pub answers_on : Ledger → List (List ℕ) → List ℕ
answers_on l records = map (λ r. (offered wait l r).answer) records

-- the same after a journal
unfoldable pub each : List (List ℕ) → List (List ℕ) → List ℕ
each before records = answers_on (ledger_after wait before) records

-- ---- records

-- each byte in its place
pub record RecordsHold : Type 0 where
  pub places : read_step (printed 32 0x04fe0102030405061011121314151617202122232425262728292a2b2c2d2e2f) ≡ record { kind = 4; member = 254; time = 0x1011121314151617; secret = record { k0 = 0x2726252423222120; k1 = 0x2f2e2d2c2b2a2928 } }
  -- the same with every bit the other way
  pub complements : read_step (printed 32 0xfb01fefdfcfbfaf9efeeedecebeae9e8dfdedddcdbdad9d8d7d6d5d4d3d2d1d0) ≡ record { kind = 251; member = 1; time = 0xefeeedecebeae9e8; secret = record { k0 = 0xd8d9dadbdcdddedf; k1 = 0xd0d1d2d3d4d5d6d7 } }

-- ---- journals that the cases begin with

-- two members at 1000 with the secret A; a rollover to B; both have learnt it; the first has switched, and the other; the first has dropped, and the other
abbrev pub begun : List (List ℕ)
begun = entry START 2 1000 A ∷ []

abbrev pub opened : List (List ℕ)
opened = begun ++ (entry OPEN 0 1010 B ∷ [])

abbrev pub learning : List (List ℕ)
learning = opened ++ (entry LEARN 0 1020 B ∷ [])

abbrev pub learnt : List (List ℕ)
learnt = learning ++ (entry LEARN 1 1021 B ∷ [])

abbrev pub switching : List (List ℕ)
switching = learnt ++ (entry SWITCH 0 1030 B ∷ [])

abbrev pub switched : List (List ℕ)
switched = switching ++ (entry SWITCH 1 1040 B ∷ [])

abbrev pub dropping : List (List ℕ)
dropping = switched ++ (entry DROP 0 4641 B ∷ [])

abbrev pub closed : List (List ℕ)
closed = dropping ++ (entry DROP 1 4641 B ∷ [])

-- a whole ledger
abbrev pub whole : Bool → Bool → Secret → Secret → ℕ → ℕ → ℕ → ℕ → ℕ → ℕ → Ledger
whole started rolling current new members learnt switched dropped last switch = record {
  started = started;
  rolling = rolling;
  current = current;
  new = new;
  stages = record { members = members; learnt = learnt; switched = switched; dropped = dropped };
  last = last;
  last_switch = switch;
}

-- no secret
abbrev pub s_none : Secret
s_none = alike 0

-- ---- the table of refusals, row by row: alone, and before the rows that apply too

pub record RowsHold : Type 0 where
  -- 1: alone; with a time that is too great, or goes back; before START
  pub row_1 : each begun (entry 6 0 1000 A ∷ entry 255 0 1000 B ∷ entry 6 0 281474976710656 A ∷ entry 6 0 999 A ∷ []) ≡ 1 ∷ 1 ∷ 1 ∷ 1 ∷ []
  pub row_1_fresh : each [] (entry 6 1 1000 A ∷ entry 5 1 1000 A ∷ []) ≡ 1 ∷ 5 ∷ []
  -- 2: the last time and the next; START again, a count of 0, a wrong secret
  pub row_2 : each [] (entry START 2 281474976710655 A ∷ entry START 2 281474976710656 A ∷ entry START 0 281474976710656 A ∷ entry START 2 18446744073709551615 A ∷ []) ≡ 0 ∷ 2 ∷ 2 ∷ 2 ∷ []
  pub row_2_begun : each begun (entry OPEN 0 281474976710655 B ∷ entry OPEN 0 281474976710656 B ∷ entry START 2 281474976710656 A ∷ entry OPEN 0 281474976710656 A ∷ []) ≡ 0 ∷ 2 ∷ 2 ∷ 2 ∷ []
  pub row_2_member : each opened (entry LEARN 0 281474976710656 B ∷ entry CANCEL 0 281474976710656 B ∷ entry LEARN 9 281474976710656 C ∷ entry LEARN 0 281474976710655 B ∷ []) ≡ 2 ∷ 2 ∷ 2 ∷ 0 ∷ []
  pub row_2_moved : each switched (entry DROP 0 281474976710656 B ∷ entry DROP 0 281474976710655 B ∷ entry SWITCH 0 281474976710656 B ∷ []) ≡ 2 ∷ 0 ∷ 2 ∷ []
  -- 3: a second before, and the same second; START again; with none open; with the current secret
  pub row_3 : each begun (entry OPEN 0 999 B ∷ entry OPEN 0 1000 B ∷ entry START 2 999 A ∷ entry LEARN 0 999 B ∷ entry OPEN 0 999 A ∷ []) ≡ 3 ∷ 0 ∷ 3 ∷ 3 ∷ 3 ∷ []
  pub row_3_open : each opened (entry LEARN 0 1009 B ∷ entry CANCEL 0 1009 B ∷ entry OPEN 0 1009 C ∷ entry LEARN 0 1009 C ∷ entry LEARN 9 1009 B ∷ []) ≡ 3 ∷ 3 ∷ 3 ∷ 3 ∷ 3 ∷ []
  pub row_3_moved : each learnt (entry SWITCH 0 1020 B ∷ entry LEARN 0 1020 B ∷ []) ≡ 3 ∷ 3 ∷ []
  pub row_3_switched : each (switched ++ (entry DROP 0 5000 B ∷ [])) (entry DROP 1 4999 B ∷ entry CANCEL 0 4999 B ∷ entry DROP 1 5000 B ∷ []) ≡ 3 ∷ 3 ∷ 0 ∷ []
  pub row_3_fresh : each [] (entry START 2 0 A ∷ []) ≡ 0 ∷ []
  -- 4: START when started, with a count of 0 or 33 too; OPEN when open, with the current secret too
  pub row_4 : each begun (entry START 2 1000 A ∷ entry START 0 1000 A ∷ entry START 33 1000 A ∷ []) ≡ 4 ∷ 4 ∷ 4 ∷ []
  pub row_4_open : each opened (entry OPEN 0 1010 C ∷ entry OPEN 0 1010 B ∷ entry OPEN 0 1010 A ∷ entry START 2 1010 A ∷ []) ≡ 4 ∷ 4 ∷ 4 ∷ 4 ∷ []
  -- 5: each kind before START; with none open; with a wrong secret, no member, another stage too (a fresh ledger holds zeros where a secret will be)
  pub row_5_fresh : each [] (entry OPEN 0 5 B ∷ entry LEARN 0 5 B ∷ entry SWITCH 0 5 B ∷ entry DROP 0 5 B ∷ entry CANCEL 0 5 B ∷ entry OPEN 0 5 0 ∷ entry LEARN 0 5 0 ∷ []) ≡ 5 ∷ 5 ∷ 5 ∷ 5 ∷ 5 ∷ 5 ∷ 5 ∷ []
  pub row_5 : each begun (entry LEARN 0 1000 0 ∷ entry CANCEL 0 1000 0 ∷ entry LEARN 0 1000 B ∷ entry SWITCH 0 1000 B ∷ entry DROP 0 1000 B ∷ entry CANCEL 0 1000 B ∷ entry LEARN 9 1000 0 ∷ []) ≡ 5 ∷ 5 ∷ 5 ∷ 5 ∷ 5 ∷ 5 ∷ 5 ∷ []
  pub row_5_closed : each closed (entry LEARN 0 4641 B ∷ entry CANCEL 0 4641 B ∷ entry DROP 1 4641 B ∷ []) ≡ 5 ∷ 5 ∷ 5 ∷ []
  -- 6: OPEN with the current secret; another secret than the open one, by one byte too; no member, another stage, others apart or too soon as well
  pub row_6 : each begun (entry OPEN 0 1000 A ∷ entry OPEN 255 1000 B ∷ entry OPEN 0 1000 0x11111111111111111111111111111112 ∷ []) ≡ 6 ∷ 0 ∷ 0 ∷ []
  pub row_6_open : each opened (entry LEARN 0 1010 C ∷ entry LEARN 0 1010 A ∷ entry LEARN 0 1010 last_other ∷ entry LEARN 0 1010 first_other ∷ entry LEARN 2 1010 C ∷ entry SWITCH 0 1010 C ∷ entry CANCEL 0 1010 C ∷ entry CANCEL 0 1010 last_other ∷ []) ≡ 6 ∷ 6 ∷ 6 ∷ 6 ∷ 6 ∷ 6 ∷ 6 ∷ 6 ∷ []
  pub row_6_moved : each switched (entry DROP 0 4641 C ∷ entry CANCEL 0 1040 C ∷ entry DROP 0 1040 A ∷ []) ≡ 6 ∷ 6 ∷ 6 ∷ []
  pub row_6_words : each opened (entry LEARN 0 1010 0x22222222222222232222222222222222 ∷ entry LEARN 0 1010 0x22222222222222222322222222222222 ∷ []) ≡ 6 ∷ 6 ∷ []
  pub row_6_closed : each closed (entry OPEN 0 4641 B ∷ entry OPEN 0 4641 A ∷ entry OPEN 0 4641 C ∷ []) ≡ 6 ∷ 0 ∷ 0 ∷ []
  -- 7: counts; member numbers from the count on, at another stage and with others apart too
  pub row_7_fresh : each [] (entry START 0 5 A ∷ entry START 1 5 A ∷ entry START 32 5 A ∷ entry START 33 5 A ∷ entry START 255 5 A ∷ []) ≡ 7 ∷ 0 ∷ 0 ∷ 7 ∷ 7 ∷ []
  pub row_7 : each opened (entry LEARN 0 1010 B ∷ entry LEARN 1 1010 B ∷ entry LEARN 2 1010 B ∷ entry LEARN 31 1010 B ∷ entry LEARN 32 1010 B ∷ entry LEARN 255 1010 B ∷ entry SWITCH 2 1010 B ∷ entry DROP 2 1010 B ∷ []) ≡ 0 ∷ 0 ∷ 7 ∷ 7 ∷ 7 ∷ 7 ∷ 7 ∷ 7 ∷ []
  pub row_7_most : each (entry START 32 1000 A ∷ entry OPEN 0 1000 B ∷ []) (entry LEARN 31 1000 B ∷ entry LEARN 32 1000 B ∷ entry LEARN 64 1000 B ∷ []) ≡ 0 ∷ 7 ∷ 7 ∷ []
  -- 8: at another stage; with others apart and too soon too
  pub row_8 : each learnt (entry LEARN 0 1021 B ∷ entry DROP 0 1021 B ∷ entry SWITCH 0 1021 B ∷ []) ≡ 8 ∷ 8 ∷ 0 ∷ []
  pub row_8_open : each opened (entry SWITCH 0 1010 B ∷ entry DROP 0 1010 B ∷ []) ≡ 8 ∷ 8 ∷ []
  pub row_8_dropping : each dropping (entry DROP 0 4641 B ∷ entry SWITCH 0 4641 B ∷ entry LEARN 0 4641 B ∷ entry DROP 1 4641 B ∷ []) ≡ 8 ∷ 8 ∷ 8 ∷ 0 ∷ []
  -- 9: SWITCH, DROP and CANCEL with others apart; too soon too
  pub row_9_learning : each learning (entry SWITCH 0 1020 B ∷ entry LEARN 1 1020 B ∷ entry CANCEL 0 1020 B ∷ []) ≡ 9 ∷ 0 ∷ 0 ∷ []
  pub row_9_switching : each switching (entry DROP 0 4631 B ∷ entry DROP 0 1030 B ∷ entry CANCEL 0 1030 B ∷ entry SWITCH 1 1030 B ∷ []) ≡ 9 ∷ 9 ∷ 9 ∷ 0 ∷ []
  pub row_9_switched : each switched (entry CANCEL 0 1040 B ∷ []) ≡ 9 ∷ []
  pub row_9_dropping : each dropping (entry CANCEL 0 4641 B ∷ []) ≡ 9 ∷ []
  -- 10: the last second of the wait and the next; it counts from the last SWITCH, not from the member's own
  pub row_10 : each switched (entry DROP 0 1040 B ∷ entry DROP 0 4631 B ∷ entry DROP 0 4640 B ∷ entry DROP 0 4641 B ∷ entry DROP 1 4640 B ∷ entry DROP 1 4641 B ∷ []) ≡ 10 ∷ 10 ∷ 10 ∷ 0 ∷ 10 ∷ 0 ∷ []
  -- behind 2^32 seconds too
  pub row_10_late : each (entry START 1 0 A ∷ entry OPEN 0 0 B ∷ entry LEARN 0 0 B ∷ entry SWITCH 0 4294967301 B ∷ []) (entry DROP 0 4294970901 B ∷ entry DROP 0 4294970902 B ∷ entry DROP 0 5 B ∷ entry DROP 0 3606 B ∷ []) ≡ 10 ∷ 0 ∷ 3 ∷ 3 ∷ []
  -- spare bytes are ignored, and so is the member of OPEN and CANCEL
  pub spare : each learning (printed 32 0x0201ffffffffffff000000000000040122222222222222222222222222222222 ∷ printed 32 0x0563010203040506000000000000040122222222222222222222222222222222 ∷ []) ≡ 0 ∷ 0 ∷ []

-- ledgers that no steps give: a last time that is too great (2 before 3), a rollover before START (4 before 5), a wait whose sum is no u64; and member 31 as the one that is apart
pub record OthersHold : Type 0 where
  pub late : answers_on (whole false false s_none s_none 0 0 0 0 18446744073709551615 0) (entry START 2 281474976710655 A ∷ entry START 2 281474976710656 A ∷ []) ≡ 3 ∷ 2 ∷ []
  pub unstarted : answers_on (whole false true s_a s_b 3 0 0 0 0 0) (entry OPEN 0 0 C ∷ entry LEARN 0 0 B ∷ entry START 2 0 A ∷ []) ≡ 4 ∷ 5 ∷ 0 ∷ []
  pub far : answers_on (whole true true s_a s_b 1 1 1 0 0 18446744073709551615) (entry DROP 0 281474976710655 B ∷ []) ≡ 10 ∷ []
  pub last_learns : answers_on (whole true true s_a s_b 0xffffffff 0x7fffffff 0 0 0 0) (entry SWITCH 0 0 B ∷ entry SWITCH 31 0 B ∷ entry LEARN 31 0 B ∷ entry CANCEL 0 0 B ∷ []) ≡ 9 ∷ 8 ∷ 0 ∷ 0 ∷ []
  pub last_switches : answers_on (whole true true s_a s_b 0xffffffff 0xffffffff 0x7fffffff 0 0 0) (entry DROP 0 3601 B ∷ entry DROP 31 3601 B ∷ entry SWITCH 31 3601 B ∷ []) ≡ 9 ∷ 8 ∷ 0 ∷ []
  pub last_alone : answers_on (whole true true s_a s_b 0xffffffff 0xffffffff 0x80000000 0 0 0) (entry CANCEL 0 0 B ∷ []) ≡ 9 ∷ []
  pub last_drops : (offered wait (whole true true s_a s_b 0xffffffff 0xffffffff 0xffffffff 0x7fffffff 3601 0) (entry DROP 31 3601 B)).ledger ≡ whole true false s_b s_none 0xffffffff 0 0 0 3601 0
  pub not_last : (offered wait (whole true true s_a s_b 0xffffffff 0xffffffff 0xffffffff 0x7ffffffe 3601 0) (entry DROP 31 3601 B)).ledger
      ≡ whole true true s_a s_b 0xffffffff 0xffffffff 0xffffffff 0xfffffffe 3601 0

-- rows 8 and 9 for two members at every two stages, whether steps can give them or not: the first is at 0 in the first four, at 1 in the next, and so on
abbrev pub two : ℕ → ℕ → View
two a b = record { started = true; present = λ m. ltb m 2; current = s_a; rolling = true; new = s_b; stage = λ m. cond (eqb m 0) a b; last = 0; last_switch = 0 }

-- what is answered to a step of the first at each
unfoldable pub at_each : ℕ → List ℕ
at_each kind =
    let s : Step = record { kind = kind; member = 0; time = 3601; secret = s_b } in
    map (λ v. refusal wait v s) (two 0 0 ∷ two 0 1 ∷ two 0 2 ∷ two 0 3 ∷ two 1 0 ∷ two 1 1 ∷ two 1 2 ∷ two 1 3 ∷ two 2 0 ∷ two 2 1 ∷ two 2 2 ∷ two 2 3 ∷ two 3 0 ∷ two 3 1 ∷ two 3 2 ∷ two 3 3 ∷ [])

pub record StagesHold : Type 0 where
  pub learns : at_each LEARN ≡ 0 ∷ 0 ∷ 0 ∷ 0 ∷ 8 ∷ 8 ∷ 8 ∷ 8 ∷ 8 ∷ 8 ∷ 8 ∷ 8 ∷ 8 ∷ 8 ∷ 8 ∷ 8 ∷ []
  pub switches : at_each SWITCH ≡ 8 ∷ 8 ∷ 8 ∷ 8 ∷ 9 ∷ 0 ∷ 0 ∷ 0 ∷ 8 ∷ 8 ∷ 8 ∷ 8 ∷ 8 ∷ 8 ∷ 8 ∷ 8 ∷ []
  pub drops : at_each DROP ≡ 8 ∷ 8 ∷ 8 ∷ 8 ∷ 8 ∷ 8 ∷ 8 ∷ 8 ∷ 9 ∷ 9 ∷ 0 ∷ 0 ∷ 8 ∷ 8 ∷ 8 ∷ 8 ∷ []
  pub cancels : at_each CANCEL ≡ 0 ∷ 0 ∷ 9 ∷ 9 ∷ 0 ∷ 0 ∷ 9 ∷ 9 ∷ 9 ∷ 9 ∷ 9 ∷ 9 ∷ 9 ∷ 9 ∷ 9 ∷ 9 ∷ []

-- ---- the stage table

-- the secrets of the members 0, 1 and 2 after a journal
unfoldable pub held : List (List ℕ) → List (Option Secrets)
held records = map (secrets_of (view_of (ledger_after wait records))) (0 ∷ 1 ∷ 2 ∷ [])

pub record SecretsHold : Type 0 where
  pub fresh : held [] ≡ none ∷ none ∷ none ∷ []
  pub stage_0 : held begun ≡ some (One s_a) ∷ some (One s_a) ∷ none ∷ []
  pub stage_0_open : held opened ≡ some (One s_a) ∷ some (One s_a) ∷ none ∷ []
  pub stage_1 : held learning ≡ some (Two s_a s_b) ∷ some (One s_a) ∷ none ∷ []
  pub stage_2 : held switching ≡ some (Two s_b s_a) ∷ some (Two s_a s_b) ∷ none ∷ []
  pub stage_3 : held dropping ≡ some (One s_b) ∷ some (Two s_b s_a) ∷ none ∷ []
  pub closed_again : held closed ≡ some (One s_b) ∷ some (One s_b) ∷ none ∷ []
  pub past : map (secrets_of (view_of (ledger_after wait begun))) (31 ∷ 32 ∷ 255 ∷ []) ≡ none ∷ none ∷ none ∷ []
  pub last : map (secrets_of (view_of (ledger_after wait (entry START 32 0 A ∷ [])))) (31 ∷ 32 ∷ []) ≡ some (One s_a) ∷ none ∷ []
  pub learnt_both : held learnt ≡ some (Two s_a s_b) ∷ some (Two s_a s_b) ∷ none ∷ []
  pub cancelled : held (learnt ++ (entry CANCEL 7 1500 B ∷ [])) ≡ some (One s_a) ∷ some (One s_a) ∷ none ∷ []
  pub second : held (closed ++ (entry OPEN 0 4700 A ∷ entry LEARN 0 4700 A ∷ [])) ≡ some (Two s_b s_a) ∷ some (One s_b) ∷ none ∷ []
  -- the table's lines for any two secrets: what is made with, and what else is accepted
  pub table : (c n : Secret) → map (λ k. generating_of (stage_table k c n)) (0 ∷ 1 ∷ 2 ∷ 3 ∷ []) ≡ c ∷ c ∷ n ∷ n ∷ []
  pub table_other : (c n : Secret) → map (λ k. other_of (stage_table k c n)) (0 ∷ 1 ∷ 2 ∷ 3 ∷ []) ≡ none ∷ some n ∷ some c ∷ none ∷ []
  -- a ledger that no steps give has members and is not started
  pub before : secrets_of (record { started = false; present = λ m. true; current = s_a; rolling = false; new = s_b; stage = λ m. 1; last = 0; last_switch = 0 }) 0 ≡ none

-- ---- whole journals

-- document 01's sample
abbrev pub sample : List (List ℕ)
sample =
    entry START 2 1000 A ∷ entry OPEN 0 1010 B ∷ entry OPEN 0 1011 C ∷ entry LEARN 0 1020 B ∷ entry SWITCH 0 1030 B ∷ entry LEARN 1 1030 B ∷ entry SWITCH 1 1040 B ∷ entry SWITCH 0 1050 B
    ∷ entry DROP 0 4650 B ∷ entry DROP 0 4651 B ∷ entry DROP 1 4651 B ∷ []

pub record JournalsHold : Type 0 where
  pub sampled : answers sample ≡ 0 ∷ 0 ∷ 4 ∷ 0 ∷ 9 ∷ 0 ∷ 0 ∷ 0 ∷ 10 ∷ 0 ∷ 0 ∷ []
  -- the ledger after each accepted step, field by field
  pub at_first : ledger_after wait [] ≡ whole false false s_none s_none 0 0 0 0 0 0
  pub at_start : ledger_after wait begun ≡ whole true false s_a s_none 3 0 0 0 1000 0
  pub at_open : ledger_after wait opened ≡ whole true true s_a s_b 3 0 0 0 1010 0
  pub at_learn : ledger_after wait learning ≡ whole true true s_a s_b 3 1 0 0 1020 0
  pub at_switch : ledger_after wait switching ≡ whole true true s_a s_b 3 3 1 0 1030 1030
  pub at_last_switch : ledger_after wait switched ≡ whole true true s_a s_b 3 3 3 0 1040 1040
  pub at_drop : ledger_after wait dropping ≡ whole true true s_a s_b 3 3 3 1 4641 1040
  pub at_close : ledger_after wait closed ≡ whole true false s_b s_none 3 0 0 0 4641 1040
  pub at_cancel : ledger_after wait (learnt ++ (entry CANCEL 7 1500 B ∷ [])) ≡ whole true false s_a s_none 3 0 0 0 1500 0
  -- a refusal leaves it as it was, its last time too
  pub refused : ledger_after wait (begun ++ (entry LEARN 0 5000 B ∷ entry START 9 5000 C ∷ entry OPEN 0 281474976710656 B ∷ [])) ≡ ledger_after wait begun
  -- after a refused step of a later time an earlier one is accepted; after a CANCEL all begin again; an earlier secret may come back; two rollovers
  pub later_refused : answers (entry START 2 1000 A ∷ entry LEARN 0 5000 B ∷ entry OPEN 0 1500 B ∷ []) ≡ 0 ∷ 5 ∷ 0 ∷ []
  pub cancelled : answers (learning ++ (entry CANCEL 0 1030 B ∷ entry LEARN 1 1030 B ∷ entry OPEN 0 1030 C ∷ entry LEARN 0 1030 B ∷ entry LEARN 0 1030 C ∷ entry SWITCH 0 1030 C ∷ []))
      ≡ 0 ∷ 0 ∷ 0 ∷ 0 ∷ 5 ∷ 0 ∷ 6 ∷ 0 ∷ 9 ∷ []
  pub again : answers (closed ++ (entry OPEN 0 4700 A ∷ entry LEARN 0 4700 A ∷ entry LEARN 1 4700 A ∷ entry SWITCH 1 4700 A ∷ entry SWITCH 0 4800 A ∷ entry DROP 0 8400 A ∷ entry DROP 0 8401 A ∷ entry DROP 1 8401 A ∷ entry OPEN 0 8401 A ∷ []))
      ≡ 0 ∷ 0 ∷ 0 ∷ 0 ∷ 0 ∷ 0 ∷ 0 ∷ 0 ∷ 0 ∷ 0 ∷ 0 ∷ 0 ∷ 0 ∷ 10 ∷ 0 ∷ 0 ∷ 6 ∷ []
  -- one member alone
  pub alone : answers (entry START 1 0 A ∷ entry OPEN 0 0 B ∷ entry LEARN 0 0 B ∷ entry SWITCH 0 0 B ∷ entry DROP 0 3600 B ∷ entry DROP 0 3601 B ∷ entry CANCEL 0 3601 B ∷ []) ≡ 0 ∷ 0 ∷ 0 ∷ 0 ∷ 10 ∷ 0 ∷ 5 ∷ []
  -- zeros are a secret as any other, once they are named
  pub zeros : answers (entry START 1 0 0 ∷ entry OPEN 0 0 0 ∷ entry OPEN 0 0 A ∷ entry LEARN 0 0 0 ∷ entry LEARN 0 0 A ∷ []) ≡ 0 ∷ 6 ∷ 0 ∷ 6 ∷ 0 ∷ []
  pub zeros_new : answers (entry START 1 0 A ∷ entry OPEN 0 0 0 ∷ entry LEARN 0 0 A ∷ entry LEARN 0 0 0 ∷ entry SWITCH 0 0 0 ∷ entry DROP 0 3601 0 ∷ entry OPEN 0 3601 0 ∷ entry OPEN 0 3601 A ∷ [])
      ≡ 0 ∷ 0 ∷ 6 ∷ 0 ∷ 0 ∷ 0 ∷ 6 ∷ 0 ∷ []
  -- a START that was refused leaves nothing, and the next may be earlier
  pub start_again : answers (entry START 33 5 A ∷ entry LEARN 0 5 A ∷ entry START 2 4 A ∷ entry START 2 4 A ∷ []) ≡ 7 ∷ 5 ∷ 0 ∷ 4 ∷ []

-- ---- the history and the account

-- a step by its fields
abbrev pub step : ℕ → ℕ → ℕ → Secret → Step
step kind member time secret = record { kind = kind; member = member; time = time; secret = secret }

abbrev pub s_c : Secret
s_c = alike 0x3333333333333333

-- the sample's accepted steps, the newest first
abbrev pub sample_steps : List Step
sample_steps = step 4 1 4651 s_b ∷ step 4 0 4651 s_b ∷ step 3 0 1050 s_b ∷ step 3 1 1040 s_b ∷ step 2 1 1030 s_b ∷ step 2 0 1020 s_b ∷ step 1 0 1010 s_b ∷ step 0 2 1000 s_a ∷ []

-- a rollover that was cancelled
abbrev pub cancelled_steps : List Step
cancelled_steps = step 5 9 1030 s_b ∷ step 2 0 1020 s_b ∷ step 1 0 1010 s_b ∷ step 0 2 1000 s_a ∷ []

-- of an account: started, rolling, the current and the new secret, the last time, the last SWITCH's, who of 0, 1 and 2 is present, and the stages of 0 and 1
pub record Summary : Type 0 where
  pub started : Bool
  pub rolling : Bool
  pub current : Secret
  pub new : Secret
  pub last : ℕ
  pub last_switch : ℕ
  pub members : List Bool
  pub stages : List ℕ

-- of the account of some steps
unfoldable pub summary : List Step → Summary
summary h =
    let v = account h in
    record { started = v.started; rolling = v.rolling; current = v.current; new = v.new; last = v.last; last_switch = v.last_switch; members = map v.present (0 ∷ 1 ∷ 2 ∷ []); stages = map v.stage (0 ∷ 1 ∷ []) }

-- as it is written
abbrev pub summed : Bool → Bool → Secret → Secret → ℕ → ℕ → List Bool → List ℕ → Summary
summed started rolling current new last last_switch members stages =
    record { started = started; rolling = rolling; current = current; new = new; last = last; last_switch = last_switch; members = members; stages = stages }

-- the two members
abbrev pub pair : List Bool
pair = true ∷ true ∷ false ∷ []

pub record AccountsHold : Type 0 where
  pub none_yet : history wait [] ≡ []
  pub sampled : history wait sample ≡ sample_steps
  pub with_cancel : history wait (learnt ++ (entry CANCEL 7 1500 B ∷ [])) ≡ step 5 7 1500 s_b ∷ step 2 1 1021 s_b ∷ step 2 0 1020 s_b ∷ step 1 0 1010 s_b ∷ step 0 2 1000 s_a ∷ []
  pub at_first : summary [] ≡ summed false false s_none s_none 0 0 (false ∷ false ∷ false ∷ []) (0 ∷ 0 ∷ [])
  pub at_close : summary sample_steps ≡ summed true false s_b s_none 4651 1050 pair (0 ∷ 0 ∷ [])
  pub before_close : summary (step 4 0 4651 s_b ∷ step 3 0 1050 s_b ∷ step 3 1 1040 s_b ∷ step 2 1 1030 s_b ∷ step 2 0 1020 s_b ∷ step 1 0 1010 s_b ∷ step 0 2 1000 s_a ∷ [])
      ≡ summed true true s_a s_b 4651 1050 pair (3 ∷ 2 ∷ [])
  pub opened_again : summary (step 1 0 4700 s_a ∷ sample_steps) ≡ summed true true s_b s_a 4700 1050 pair (0 ∷ 0 ∷ [])
  pub learnt_again : summary (step 2 1 4700 s_a ∷ step 1 0 4700 s_a ∷ sample_steps) ≡ summed true true s_b s_a 4700 1050 pair (0 ∷ 1 ∷ [])
  pub at_cancel : summary cancelled_steps ≡ summed true false s_a s_none 1030 0 pair (0 ∷ 0 ∷ [])
  pub after_cancel : summary (step 1 0 1040 s_c ∷ cancelled_steps) ≡ summed true true s_a s_c 1040 0 pair (0 ∷ 0 ∷ [])
  pub steps_sampled : member_steps sample_steps ≡ 6
  pub steps_opened : member_steps (step 1 0 4700 s_a ∷ sample_steps) ≡ 0
  pub steps_cancelled : member_steps cancelled_steps ≡ 1
