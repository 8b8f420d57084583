-- The claim `TheTable`: at a kind that is written every row of document 01's table computes, and `or false` falls away. Assumes nothing.
use mathlib.Core.Path.{refl}
use mathlib.Core.Bool.{not, ◌||◌, or-false}
use lib.Dec.{eqb, ltb}
use borrow.Author.Tests.{lt-ltb}
use Rattle.secret.specs.Secret.{same_secret}
use Rattle.ledger.specs.Claims.{TheTable}
use Rattle.ledger.specs.Rules.{refusal, any_at}

pub the_table : TheTable
unfolding refusal
the_table v m t x = record {
  starts = rw (or-false v.started, or-false (eqb m 0 || ltb 32 m));
  opens = rw (or-false (not v.started), or-false (same_secret x v.current));
  learns = refl;
  switches = rw (or-false (any_at v 0), or-false (any_at v 0));
  drops = rw (or-false (any_at v 0 || any_at v 1));
  cancels = refl;
  others = λ kind high. rw (lt-ltb 5 kind high);
}
