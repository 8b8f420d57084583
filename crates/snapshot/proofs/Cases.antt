-- The claims of specs/Cases.antt, by computing the definitions. Assumes nothing.
use mathlib.Core.Path.{refl}
use Rattle.octets.specs.Numbers.{be_number, be_bytes, le_number, le_bytes, printed}
use Rattle.secret.specs.Secret.{secret_of, secret_bytes, same_secret}
use Rattle.stages.specs.Sets.{is_in, with_member, numbers_below, any_below}
use Rattle.ledger.specs.Journal.{read_step}
use Rattle.ledger.specs.Ledger.{fresh_ledger, accept, stepped}
use Rattle.ledger.specs.Rules.{refusal}
use Rattle.snapshot.specs.Cases.{NamesHold, CasesHold}
use Rattle.snapshot.specs.Snapshot.{stages_bytes, front_of, snapshot_of, is_snapshot, stages_of, ledger_of, ledger_in, kept_in}

pub names_hold : NamesHold
names_hold = record { nothing = refl; holds = λ l. refl }

pub cases_hold : CasesHold
unfolding stages_bytes front_of snapshot_of is_snapshot stages_of ledger_of ledger_in kept_in read_step secret_of secret_bytes same_secret le_number le_bytes be_number be_bytes printed fresh_ledger accept stepped refusal is_in with_member numbers_below any_below
cases_hold = record {
  of_fresh = refl;
  of_learning = refl;
  of_dropping = refl;
  of_closed = refl;
  of_placed = refl;
  of_turned = refl;
  in_fresh = refl;
  in_learning = refl;
  in_dropping = refl;
  in_placed = refl;
  in_turned = refl;
  shorter = refl;
  longer = refl;
  empty = refl;
  zeros = refl;
  later = refl;
  started_2 = refl;
  rolling_2 = refl;
  spare_1 = refl;
  started_255 = refl;
  rolling_255 = refl;
  spare_255 = refl;
  kept = refl;
  kept_not = refl;
  kept_over = refl;
  kept_none = refl;
}
