-- The claims of specs/Cases.antt, by computing the definitions. Assumes nothing.
use Rattle.std.proofs.Common.{◌≡◌, ℕ, ◌≤◌, refl, arith}
use mathlib.Core.Option.{bind}
use Rattle.octets.specs.Numbers.{be_number, be_bytes, le_number, le_bytes, printed}
use Rattle.octets.specs.Runs.{same_run, fits, written}
use Rattle.edns.specs.Options.{option_at, options_in, options_from, first_cookie, is_cookie_length}
use Rattle.message.specs.Message.{questions_end, records, sections, wrong_among}
use Rattle.message.specs.Name.{past_labels, labels_end, terminator, name_end}
use Rattle.message.specs.Record.{question_end, record_at}
use Rattle.request.specs.Request.{request}
use Rattle.secret.specs.Secret.{secret_of, secret_bytes, same_secret}
use Rattle.siphash.specs.SipHash.{sip_hash24, sip_hash24_bytes, finalized, absorbed, compressed, initialized, last_word, word_at, rounds, sip_round, rotl64}
use Rattle.verdict.specs.Findings.{by_time, is_timely}
use Rattle.verdict.specs.ReplyTable.{reserved_zero, is_young}
use Rattle.verdict.specs.Serial.{age}
use Rattle.cookie.specs.CookieOption.{fresh_option, fresh_server, fresh_front, kept_option, fresh_refusal}
use Rattle.cookie.specs.ServerCookie.{is_address, checking_refusal, judgement, judge_body, judge_server, is_method, matching, matches}
use Rattle.server.specs.Server.{respond}
use Rattle.stages.specs.Sets.{is_in, with_member, numbers_below, any_below, count_below}
use Rattle.stages.proofs.SetLaws.{in_past}
use Rattle.ledger.specs.Journal.{read_step}
use Rattle.ledger.specs.Ledger.{fresh_ledger, accept, stepped}
use Rattle.ledger.specs.Rules.{refusal, secrets_of}
use Rattle.rows.specs.Rows.{decimal_in, line, row_line}
use Rattle.snapshot.specs.Cases.{learning_bytes}
use Rattle.snapshot.specs.Snapshot.{stages_bytes, front_of, snapshot_of, is_snapshot, stages_of, ledger_of, ledger_in}
use Rattle.fleet.specs.Calls as fleet
use Rattle.dnscookie_find.specs.Find.{find_call}
use Rattle.dnscookie.specs.Calls.{◌leaving◌, is_mode, are_secrets, secrets_in, holder_refusal, respond_call, judge_call, maker_refusal, make_call, hash_refusal, hash_call, fresh_call, step_call, secrets_call, line_refusal, line_call}
use Rattle.dnscookie.specs.Cases.{sevens, NamesHold, LengthsHold, FieldsHold, RespondHolds, JudgeHolds, MakeHolds, FindHolds, HashHolds, LedgersHold, CallsHold}

pub names_hold : NamesHold
unfolding is_mode
names_hold = record {
  own_numbers = refl;
  findings = refl;
  good_generating = λ a. refl;
  good_other = λ a. refl;
  which = refl;
  served = refl;
  error_code = λ code. refl;
  truncated = refl;
  due_code = λ code. refl;
  due_nothing = refl;
  due_caller = refl;
  dues = refl;
  options = refl;
  modes = refl;
  are_modes = refl;
  no_mode = refl;
}

pub lengths_hold : LengthsHold
unfolding are_secrets
lengths_hold = record {
  secrets = refl;
}

pub fields_hold : FieldsHold
fields_hold = record {
  placed = refl;
  number = refl;
  reply = refl;
  option = refl;
  age = refl;
  age_after = refl;
  number_alone = refl;
  reply_alone = refl;
  option_alone = refl;
  age_alone = refl;
  count = refl;
  start = refl;
  end = refl;
  written = refl;
  age_0 = refl;
  age_3600 = refl;
  age_minus_1 = refl;
  age_minus_300 = refl;
  natural = refl;
  ages = refl;
  refused_3 = refl;
  fault = refl;
  judged_10 = refl;
  found_6 = refl;
  found_none = refl;
  found_one = refl;
  written_47 = refl;
}

pub respond_holds : RespondHolds
unfolding respond_call is_mode holder_refusal respond reserved_zero is_young kept_option fresh_option fresh_server fresh_front are_secrets secrets_in is_address is_cookie_length judge_body judge_server is_method matching matches by_time is_timely age same_run be_number secret_of sip_hash24_bytes sip_hash24 finalized absorbed compressed initialized last_word word_at rounds sip_round rotl64 le_number le_bytes printed be_bytes sections questions_end records wrong_among question_end record_at bind name_end labels_end past_labels terminator option_at options_in options_from first_cookie
respond_holds = record {
  kept = refl;
  p2 = refl;
  ahead = refl;
  age_1800 = refl;
  age_1801 = refl;
  p3 = refl;
  p6 = refl;
  p5 = refl;
  client = refl;
  client_enforced = refl;
  hash = refl;
  method = refl;
  absent_served = refl;
  absent_truncated = refl;
  off = refl;
  mode_3 = refl;
  secrets_0 = refl;
  secrets_15 = refl;
  secrets_17 = refl;
  secrets_31 = refl;
  secrets_33 = refl;
  secrets_off = refl;
  mode_wins = refl;
  mode_first = refl;
  secrets_first = refl;
  one = refl;
  two = refl;
  three = refl;
  four = refl;
  five = refl;
  six = refl;
  seven = refl;
  eight = refl;
  nine = refl;
  ten = refl;
}

pub judge_holds : JudgeHolds
unfolding judge_call is_mode holder_refusal judgement checking_refusal are_secrets secrets_in is_address is_cookie_length judge_body judge_server is_method matching matches by_time is_timely age same_run be_number secret_of sip_hash24_bytes sip_hash24 finalized absorbed compressed initialized last_word word_at rounds sip_round rotl64 le_number le_bytes printed be_bytes
judge_holds = record {
  p2 = refl;
  ahead = refl;
  too_far = refl;
  age_3600 = refl;
  age_3601 = refl;
  p3 = refl;
  p5 = refl;
  p5_alone = refl;
  p5_other = refl;
  client = refl;
  method = refl;
  off = refl;
  mode_3 = refl;
  secrets_15 = refl;
  secrets_33 = refl;
  no_address = refl;
  no_body = refl;
}

pub make_holds : MakeHolds
unfolding make_call are_secrets maker_refusal fresh_refusal is_address fresh_option fresh_server fresh_front secret_of sip_hash24_bytes sip_hash24 finalized absorbed compressed initialized last_word word_at rounds sip_round rotl64 le_number le_bytes printed be_bytes
make_holds = record {
  p1 = refl;
  p6 = refl;
  client_7 = refl;
  client_9 = refl;
  client_first = refl;
  secrets_15 = refl;
  secrets_17 = refl;
  secrets_first = refl;
  one = refl;
  two = refl;
}

pub find_holds : FindHolds
unfolding find_call request is_cookie_length be_number be_bytes printed sections questions_end records wrong_among question_end record_at bind name_end labels_end past_labels terminator option_at options_in options_from first_cookie
find_holds = record {
  real = refl;
  not_asked_case = refl;
  no_opt_case = refl;
  no_question = refl;
  three = refl;
  six = refl;
  ten = refl;
}

pub hash_holds : HashHolds
unfolding hash_call hash_refusal written fits secret_of sip_hash24_bytes sip_hash24 finalized absorbed compressed initialized last_word word_at rounds sip_round rotl64 le_number le_bytes printed be_bytes
hash_holds = record {
  paper = refl;
  just_fits = refl;
  secret_15 = refl;
  secret_17 = refl;
  secret_32 = refl;
  no_room = refl;
  secret_first = refl;
}

-- a number that can be no member's
no_member : (m : ℕ) → 32 ≤ m → secrets_call learning_bytes m (sevens 32) ≡ (108 leaving sevens 32)
unfolding secrets_call is_snapshot stages_of ledger_of ledger_in le_number be_bytes printed secrets_of
no_member m past = rw (in_past 32 3 m (omega arith) past)

pub ledgers_hold : LedgersHold
unfolding fresh_call step_call secrets_call line_refusal line_call written fits stages_bytes front_of snapshot_of is_snapshot stages_of ledger_of ledger_in decimal_in line row_line read_step secret_of secret_bytes same_secret le_number le_bytes be_number be_bytes printed fresh_ledger accept stepped refusal secrets_of is_in with_member numbers_below any_below count_below
ledgers_hold = record {
  fresh = refl;
  fresh_67 = refl;
  fresh_69 = refl;
  start = refl;
  opens = refl;
  learn = refl;
  again = refl;
  no_kind = refl;
  earlier = refl;
  zeros = refl;
  short_state = refl;
  record_31 = refl;
  record_33 = refl;
  neither = refl;
  stage_0 = refl;
  stage_0_open = refl;
  stage_1 = refl;
  stage_2 = refl;
  stage_3 = refl;
  member_2 = refl;
  member_32 = refl;
  member_256 = refl;
  member_past = no_member;
  not_started = refl;
  secrets_31 = refl;
  one_31 = refl;
  room_first = refl;
  room_first_2 = refl;
  secrets_zeros = refl;
  line_4 = refl;
  line_10 = refl;
  line_3 = refl;
  line_fresh = refl;
  line_last = refl;
  line_46 = refl;
  line_zeros = refl;
  line_record = refl;
  line_record_33 = refl;
  line_answer = refl;
  line_answer_104 = refl;
  line_first = refl;
}

pub calls_hold : CallsHold
unfolding fleet.reply_to fleet.making_reply fresh_call step_call secrets_call make_call judge_call holder_refusal maker_refusal fresh_refusal is_mode are_secrets secrets_in judgement checking_refusal is_address is_cookie_length judge_body fresh_option fresh_server fresh_front secret_of secret_bytes same_secret written fits stages_bytes front_of snapshot_of is_snapshot stages_of ledger_of ledger_in read_step le_number le_bytes be_number be_bytes printed fresh_ledger accept stepped refusal secrets_of is_in with_member numbers_below any_below count_below
calls_hold = record {
  answers = refl;
  none_first = refl;
  number_first = refl;
  untouched = refl;
  no_ledger = refl;
  modes = refl;
}
