-- The claims of specs/Cases.antt, by computing the definitions. Assumes nothing.
use mathlib.Core.Path.{refl}
use Rattle.octets.specs.Numbers.{be_number, be_bytes, le_number, printed}
use Rattle.secret.specs.Secret.{secret_of, same_secret}
use Rattle.stages.specs.Sets.{is_in, with_member, numbers_below, any_below}
use Rattle.ledger.specs.Account.{account}
use Rattle.ledger.specs.Cases.{NamesHold, RecordsHold, RowsHold, OthersHold, StagesHold, SecretsHold, JournalsHold, AccountsHold, answers, answers_on, each, at_each, held, summary}
use Rattle.ledger.specs.Journal.{read_step}
use Rattle.ledger.specs.Ledger.{fresh_ledger, accept, stepped}
use Rattle.ledger.specs.Rules.{refusal, secrets_of}

pub names_hold : NamesHold
names_hold = record { kinds = refl; refusals = refl; accepted = refl; refused = λ r. refl; nothing = refl; holds = λ s. refl; numbered = refl }

pub records_hold : RecordsHold
unfolding read_step secret_of le_number be_number be_bytes printed
records_hold = record { places = refl; complements = refl }

pub rows_hold : RowsHold
unfolding each answers_on read_step secret_of same_secret le_number be_number be_bytes printed fresh_ledger accept stepped refusal is_in with_member numbers_below any_below
rows_hold = record {
  row_1 = refl;
  row_1_fresh = refl;
  row_2 = refl;
  row_2_begun = refl;
  row_2_member = refl;
  row_2_moved = refl;
  row_3 = refl;
  row_3_open = refl;
  row_3_moved = refl;
  row_3_switched = refl;
  row_3_fresh = refl;
  row_4 = refl;
  row_4_open = refl;
  row_5_fresh = refl;
  row_5 = refl;
  row_5_closed = refl;
  row_6 = refl;
  row_6_open = refl;
  row_6_moved = refl;
  row_6_words = refl;
  row_6_closed = refl;
  row_7_fresh = refl;
  row_7 = refl;
  row_7_most = refl;
  row_8 = refl;
  row_8_open = refl;
  row_8_dropping = refl;
  row_9_learning = refl;
  row_9_switching = refl;
  row_9_switched = refl;
  row_9_dropping = refl;
  row_10 = refl;
  row_10_late = refl;
  spare = refl;
}

pub others_hold : OthersHold
unfolding answers_on read_step secret_of same_secret le_number be_number be_bytes printed accept stepped refusal is_in with_member any_below
others_hold = record { late = refl; unstarted = refl; far = refl; last_learns = refl; last_switches = refl; last_alone = refl; last_drops = refl; not_last = refl }

pub stages_hold : StagesHold
unfolding at_each same_secret refusal any_below
stages_hold = record { learns = refl; switches = refl; drops = refl; cancels = refl }

pub secrets_hold : SecretsHold
unfolding held read_step secret_of same_secret le_number be_number be_bytes printed fresh_ledger accept stepped refusal secrets_of is_in with_member numbers_below any_below
secrets_hold = record {
  fresh = refl;
  stage_0 = refl;
  stage_0_open = refl;
  stage_1 = refl;
  stage_2 = refl;
  stage_3 = refl;
  closed_again = refl;
  past = refl;
  last = refl;
  learnt_both = refl;
  cancelled = refl;
  second = refl;
  table = λ c n. refl;
  table_other = λ c n. refl;
  before = refl;
}

pub journals_hold : JournalsHold
unfolding answers read_step secret_of same_secret le_number be_number be_bytes printed fresh_ledger accept stepped refusal is_in with_member numbers_below any_below
journals_hold = record {
  sampled = refl;
  at_first = refl;
  at_start = refl;
  at_open = refl;
  at_learn = refl;
  at_switch = refl;
  at_last_switch = refl;
  at_drop = refl;
  at_close = refl;
  at_cancel = refl;
  refused = refl;
  later_refused = refl;
  cancelled = refl;
  again = refl;
  alone = refl;
  zeros = refl;
  zeros_new = refl;
  start_again = refl;
}

pub accounts_hold : AccountsHold
unfolding summary account read_step secret_of same_secret le_number be_number be_bytes printed fresh_ledger accept stepped refusal is_in with_member numbers_below any_below
accounts_hold = record {
  none_yet = refl;
  sampled = refl;
  with_cancel = refl;
  at_first = refl;
  at_close = refl;
  before_close = refl;
  opened_again = refl;
  learnt_again = refl;
  at_cancel = refl;
  after_cancel = refl;
  steps_sampled = refl;
  steps_opened = refl;
  steps_cancelled = refl;
}
