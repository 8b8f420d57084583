-- The claim `CasesHold` of specs/Cases.antt, by computing the definitions. Assumes nothing.
use mathlib.Core.Path.{refl}
use Rattle.stages.specs.Cases.{mixed, alone, leapt, done, almost, last, CasesHold}
use Rattle.stages.specs.Sets.{is_in, with_member, numbers_below, any_below, count_below}

pub cases_hold : CasesHold
unfolding is_in with_member numbers_below any_below count_below mixed alone leapt done almost last
cases_hold =
    record {
      in_first = refl;
      in_second = refl;
      in_last = refl;
      in_past = refl;
      with_first = refl;
      with_last = refl;
      with_past = refl;
      with_again = refl;
      below_none = refl;
      below_one = refl;
      below_last = refl;
      below_all = refl;
      below_past = refl;
      stage_0 = refl;
      stage_1 = refl;
      stage_2 = refl;
      stage_3 = refl;
      learnt_alone = refl;
      switched_alone = refl;
      dropped_alone = refl;
      count_0 = refl;
      count_1 = refl;
      count_2 = refl;
      count_3 = refl;
      count_4 = refl;
      any_0 = refl;
      any_1 = refl;
      any_2 = refl;
      any_3 = refl;
      any_4 = refl;
      absent_0 = refl;
      absent_1 = refl;
      absent_2 = refl;
      absent_3 = refl;
      all_dropped_case = refl;
      all_but_one = refl;
      no_members = refl;
      all_but_first = refl;
      any_last = refl;
      none_made = refl;
      first_made = refl;
      reset_made = refl;
      learn_made = refl;
      switch_made = refl;
      drop_made = refl;
      past_made = refl;
    }
