-- The claim of specs/Cases.antt, by computing the definitions. Assumes nothing.
use mathlib.Core.Path.{refl}
use Rattle.octets.specs.Numbers.{be_bytes, printed}
use Rattle.decimal.specs.Cases.{CasesHold}
use Rattle.decimal.specs.Decimal.{followed_by, decimal, below}

pub cases_hold : CasesHold
unfolding decimal followed_by below printed be_bytes
cases_hold = record { empty = refl; digits = refl; others = refl; more = refl; spoilt = refl; greatest = refl; bytes = refl }
