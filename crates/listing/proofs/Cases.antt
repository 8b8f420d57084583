-- The claims of specs/Cases.antt, by computing the definitions. Assumes nothing.
use Rattle.std.proofs.Common.{refl}
use Rattle.octets.specs.Numbers.{be_number, be_bytes, le_number, printed}
use Rattle.octets.specs.Runs.{written, fits}
use Rattle.secret.specs.Secret.{secret_of, same_secret}
use Rattle.stages.specs.Sets.{is_in, with_member, numbers_below, any_below, count_below}
use Rattle.ledger.specs.Journal.{read_step}
use Rattle.ledger.specs.Ledger.{fresh_ledger, accept, stepped}
use Rattle.ledger.specs.Rules.{refusal}
use Rattle.rows.specs.Rows.{decimal_in, line, row_line, short_line}
use Rattle.listing.specs.Cases.{CasesHold}
use Rattle.listing.specs.Listing.{fresh_lister, row_of, lister_after, lines_of, lister_past, listing_from, listed}

pub cases_hold : CasesHold
unfolding fresh_lister row_of lister_after lines_of lister_past listing_from listed decimal_in line row_line short_line written fits read_step secret_of same_secret le_number be_number be_bytes printed fresh_ledger accept stepped refusal is_in with_member numbers_below any_below count_below
cases_hold = record {
  sampled = refl;
  tail = refl;
  empty = refl;
  less = refl;
  one_over = refl;
  one_fits = refl;
  one_end = refl;
  one_output = refl;
  one_number = refl;
  all_fit = refl;
  all_end = refl;
  none_fits = refl;
  none_end = refl;
  none_output = refl;
  many = refl;
  again = refl;
  goes_on = refl;
}
