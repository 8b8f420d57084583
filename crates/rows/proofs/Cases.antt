-- The claim `CasesHold` of specs/Cases.antt, by computing the definitions. Assumes nothing.
use mathlib.Core.Path.{refl}
use Rattle.octets.specs.Runs.{fits, written}
use Rattle.rows.specs.Cases.{CasesHold}
use Rattle.rows.specs.Rows.{decimal_in, line, row_line, short_line, placed}

pub cases_hold : CasesHold
unfolding decimal_in line row_line short_line placed fits written
cases_hold =
    record {
      zero_is = refl;
      nine_is = refl;
      ten_is = refl;
      two_digits = refl;
      hundred_is = refl;
      byte_is = refl;
      last_is = refl;
      first_line = refl;
      ninth_line = refl;
      each_place = refl;
      longest_is = refl;
      short_is = refl;
      room = refl;
      no_room = refl;
    }
