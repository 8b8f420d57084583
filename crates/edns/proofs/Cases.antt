-- The claims of specs/Cases.antt, by computing the definitions. Assumes nothing.
use mathlib.Core.Path.{refl}
use mathlib.Core.Option.{bind}
use native.Mathlib.Omega.{arith}
use borrow.Author.Tests.{le-leb, lt-leb, ne_eqb}
use Rattle.octets.specs.Numbers.{be_number}
use Rattle.edns.specs.Cases.{NamesHold, OptionCases, LengthsHold}
use Rattle.edns.specs.Options.{option_at, options_in, options_from, first_cookie, is_cookie_length, cookie_in}

pub names_hold : NamesHold
names_hold =
    record {
      inside = λ x. refl;
      past = refl;
      past_is_9 = λ p. refl;
      without = refl;
      with_one = λ x. refl;
    }

pub option_cases : OptionCases
unfolding cookie_in options_from options_in option_at first_cookie bind be_number
option_cases =
    record {
      places = refl;
      long_body = refl;
      long_past = refl;
      head_past = refl;
      empty = refl;
      one = refl;
      in_order = refl;
      none_there = refl;
      other_there = refl;
      alone = refl;
      behind = refl;
      first_of_two = refl;
      first_is_short = refl;
      first_of_three = refl;
      empty_body = refl;
      code_is_2_bytes = refl;
      code_is_10 = refl;
      hidden = refl;
      one_byte = refl;
      three_bytes = refl;
      body_past = refl;
      behind_cookie = refl;
      head_behind_cookie = refl;
      before_cookie = refl;
      most = refl;
    }

pub lengths_hold : LengthsHold
unfolding is_cookie_length
lengths_hold =
    record {
      lengths = refl;
      longer = λ n long. rw (ne_eqb n 8 (λ e. omega (arith, long, e)), le-leb 16 n (omega arith), lt-leb n 40 (omega arith));
    }
