-- The claims of specs/Cases.antt, by computing the definitions. Assumes nothing.
use mathlib.Core.Path.{refl}
use mathlib.Core.Bool.{or-true}
use mathlib.Core.Option.{bind}
use native.Mathlib.Omega.{arith}
use borrow.Author.Tests.{lt-ltb, le-ltb, le-leb, lt-leb}
use lib.ListN.{length}
use Rattle.octets.specs.Numbers.{be_number, be_bytes, printed}
use Rattle.edns.specs.Options.{option_at, options_in, options_from, first_cookie, is_cookie_length}
use Rattle.message.specs.Message.{qdcount, questions_end, records, sections, wrong_among}
use Rattle.message.specs.Name.{past_labels, labels_end, terminator, name_end}
use Rattle.message.specs.Record.{question_end, record_at}
use Rattle.request.specs.Cases.{NamesHold, TableHolds, RequestCases}
use Rattle.request.specs.Request.{request, cookie_body}

pub names_hold : NamesHold
names_hold =
    record {
      size = refl;
      response = refl;
      questions = refl;
      malformed = refl;
      wrong_opt_case = refl;
      version = refl;
      option_past_case = refl;
      cookie_length = refl;
      malformed_is = refl;
      wrong_opt_is = refl;
      head_refused = λ r. refl;
      head_passed = λ x. refl;
      refused_by = λ r. refl;
      without = λ q. refl;
      with_one = λ q c. refl;
    }

pub table_holds : TableHolds
table_holds =
    record {
      in_order = λ s. refl;
      head_rows = λ s. refl;
      too_short = λ s short. simp (lt-ltb (length s) 12 (omega arith));
      long_enough = λ s low high. simp (le-ltb _ _ low, le-ltb _ _ high);
      too_long = λ s long. simp (lt-ltb 65535 (length s) (omega arith), or-true);
      query = λ a b flags rest low. lt-leb 128 flags (omega arith);
      response = λ a b flags rest high. le-leb 128 flags high;
      few_questions = λ s few. le-ltb 1 (qdcount s) few;
      many_questions_case = λ s many. lt-ltb 1 (qdcount s) (omega arith);
      no_part = λ s n. refl;
      no_part_either = λ s q. refl;
      the_part = refl;
    }

pub request_cases : RequestCases
unfolding request cookie_body sections questions_end records wrong_among question_end record_at bind name_end labels_end past_labels terminator option_at options_in options_from first_cookie is_cookie_length be_number be_bytes printed
request_cases =
    record {
      real = refl;
      real_body = refl;
      empty = refl;
      asked = refl;
      no_options = refl;
      other_options = refl;
      client_only = refl;
      not_asked_case = refl;
      behind_another = refl;
      the_first = refl;
      the_first_longer = refl;
      behind_records = refl;
      before_record = refl;
      in_a_record = refl;
      in_an_option = refl;
      three = refl;
      three_four = refl;
      nothing = refl;
      four = refl;
      four_five = refl;
      five = refl;
      five_six = refl;
      five_high = refl;
      six = refl;
      six_cut = refl;
      six_seven = refl;
      seven = refl;
      seven_second = refl;
      seven_owner = refl;
      seven_eight = refl;
      eight = refl;
      versions = refl;
      eight_nine = refl;
      nine = refl;
      nine_later = refl;
      nine_ten = refl;
      ten = refl;
      ten_first = refl;
      ten_not_second = refl;
      lengths = refl;
      no_body = refl;
      no_body_9 = refl;
      no_body_8 = refl;
      no_body_4 = refl;
      no_cookie_case = refl;
      body = refl;
    }
