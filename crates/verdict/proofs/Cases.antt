-- The claims of specs/Cases.antt, by computing the definitions. Assumes nothing.
use Rattle.std.proofs.Common.{suc, ◌+◌, [], ◌∷◌, take, drop, refl, arith, ne_eqb, le-leb}
use borrow.Author.Tests.{lt-leb}
use Rattle.octets.specs.Numbers.{be_bytes, printed}
use Rattle.octets.specs.Runs.{same_run}
use Rattle.octets.proofs.RunLaws.{same_other}
use Rattle.verdict.proofs.ReplyLaws.{and_false}
use Rattle.verdict.specs.Cases.{AgesHold, RepliesHold, NamesHold, WordsHold}
use Rattle.std.specs.Fmt.{digits}
use Rattle.verdict.specs.Findings.{is_timely, by_time}
use Rattle.verdict.specs.ReplyTable.{reserved_zero, is_young}
use Rattle.verdict.specs.Serial.{age}

pub ages_hold : AgesHold
unfolding age by_time is_timely
ages_hold =
    record {
      same = refl;
      later = refl;
      sooner = refl;
      furthest_old = refl;
      furthest_new = refl;
      round_old = refl;
      round_new = refl;
      p3 = refl;
      first_good = λ w. refl;
      too_new = λ n w. rw (lt-leb (300 + n) 299 (omega arith));
      last_good = λ w. refl;
      too_old = λ n w. rw (lt-leb (3601 + n) 3600 (omega arith));
    }

pub replies_hold : RepliesHold
unfolding reserved_zero is_young same_run printed be_bytes
replies_hold =
    record {
      disabled = λ q v b. refl;
      enabled_ignored = λ q b. refl;
      enabled_absent = λ q b. refl;
      enabled_client = λ q b. refl;
      enabled_bad = λ q n b. refl;
      enforced_ignored = λ q b. refl;
      enforced_absent = λ q b. refl;
      enforced_client = λ q b. rw (ne_eqb (suc q) 0 (λ e. omega (arith, e)));
      enforced_client_0 = λ b. refl;
      enforced_bad = λ q n b. refl;
      good_alike = λ q r a w b. refl;
      good_other = λ q a b. refl;
      kept_first = refl;
      kept_last = refl;
      too_old = λ n b. rw (le-leb 0 (1801 + n) (omega arith), lt-leb (1801 + n) 1800 (omega arith), and_false (same_run (take 3 (drop 9 b)) (0 ∷ 0 ∷ 0 ∷ [])));
      ahead = λ n b. rw (and_false (same_run (take 3 (drop 9 b)) (0 ∷ 0 ∷ 0 ∷ [])));
      young_kept = λ n b le e. rw (e, le-leb n 1800 le, le-leb 0 n (omega arith));
      reserved_set = λ a b ne. rw (same_other (take 3 (drop 9 b)) (0 ∷ 0 ∷ 0 ∷ []) ne);
      reserved_one = refl;
      reserved_two = refl;
      reserved_three = refl;
      no_reserved = refl;
    }

pub names_hold : NamesHold
names_hold =
    record {
      ignores = refl;
      enabled = refl;
      enforced = refl;
      method = refl;
      hash = refl;
      time = refl;
      of_ignored = refl;
      of_absent = refl;
      client_only = refl;
      of_good = λ a w. refl;
      served = λ o. refl;
      bad_cookie = λ o. refl;
      truncated = λ o. refl;
    }

pub words_hold : WordsHold
unfolding digits
words_hold =
    record {
      ignored_words = refl;
      absent_words = refl;
      client_words = refl;
      method_words = refl;
      hash_words = refl;
      time_words = refl;
      good_144 = refl;
      good_0 = refl;
      good_3600 = refl;
      good_ahead = refl;
      good_least = refl;
      good_most = refl;
      serve_none = refl;
      serve_fresh = refl;
      serve_kept = refl;
      bad_fresh = refl;
      truncate_none = refl;
      every_good = λ age which. refl;
      every_reply = λ action option. refl;
    }
