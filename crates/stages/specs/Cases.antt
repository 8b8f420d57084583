-- Cases that pin the definitions of Sets.antt and Stages.antt: the ends of a word, sets that no steps give, and numbers that are no member's. Assumes nothing.
use Rattle.std.specs.Prelude.{◌≡◌, true, false}
use Rattle.stages.specs.Sets.{is_in, with_member, numbers_below}
use Rattle.stages.specs.Stages.{is_present, stage_of, any_at, count_at, all_dropped, no_stages, first_stages, reset_stages, learnt_by, switched_by, dropped_by}
use Rattle.stages.specs.declared.Stages.{Stages}

-- 0 is at stage 0, 1 and 2 at 1, 3 to 5 at 2, 6 to 8 and 31 at 3; the sets have 9 to 11 too, which are no members'
unfoldable pub mixed : Stages
mixed = record { members = 0x800001ff; learnt = 0x80000ffe; switched = 0x80000df8; dropped = 0x800009c0 }

-- the one member is at stage 0; 1, 2 and 3 are no members', and in the sets as members at stages 1, 2 and 3
unfoldable pub alone : Stages
alone = record { members = 0x1; learnt = 0xe; switched = 0xc; dropped = 0x8 }

-- as no steps give them: a step without those before it
unfoldable pub leapt : Stages
leapt = record { members = 0x7; learnt = 0x1; switched = 0x2; dropped = 0x4 }

-- every member is in `dropped`
unfoldable pub done : Stages
done = record { members = 0x80000003; learnt = 0x0; switched = 0x0; dropped = 0x80000003 }

-- every one but 1
unfoldable pub almost : Stages
almost = record { members = 0x80000003; learnt = 0x80000003; switched = 0x80000003; dropped = 0x80000001 }

-- the one member is 31
unfoldable pub last : Stages
last = record { members = 0x80000000; learnt = 0x0; switched = 0x0; dropped = 0x0 }

-- the claim: each definition gives what is written beside it
pub record CasesHold : Type 0 where
  pub in_first : is_in 0x80000001 0 ≡ true
  pub in_second : is_in 0x80000001 1 ≡ false
  pub in_last : is_in 0x80000001 31 ≡ true
  pub in_past : is_in 0xffffffff 32 ≡ false
  pub with_first : with_member 0x80000000 0 ≡ 0x80000001
  pub with_last : with_member 0x1 31 ≡ 0x80000001
  pub with_past : with_member 0x1 32 ≡ 0x1
  pub with_again : with_member 0x80000001 31 ≡ 0x80000001
  pub below_none : numbers_below 0 ≡ 0x0
  pub below_one : numbers_below 1 ≡ 0x1
  pub below_last : numbers_below 31 ≡ 0x7fffffff
  pub below_all : numbers_below 32 ≡ 0xffffffff
  pub below_past : numbers_below 255 ≡ 0xffffffff
  pub stage_0 : stage_of mixed 0 ≡ 0
  pub stage_1 : stage_of mixed 1 ≡ 1
  pub stage_2 : stage_of mixed 3 ≡ 2
  pub stage_3 : stage_of mixed 31 ≡ 3
  pub learnt_alone : stage_of leapt 0 ≡ 1
  pub switched_alone : stage_of leapt 1 ≡ 2
  pub dropped_alone : stage_of leapt 2 ≡ 3
  pub count_0 : count_at (is_present mixed) (stage_of mixed) 0 ≡ 1
  pub count_1 : count_at (is_present mixed) (stage_of mixed) 1 ≡ 2
  pub count_2 : count_at (is_present mixed) (stage_of mixed) 2 ≡ 3
  pub count_3 : count_at (is_present mixed) (stage_of mixed) 3 ≡ 4
  pub count_4 : count_at (is_present mixed) (stage_of mixed) 4 ≡ 0
  pub any_0 : any_at (is_present mixed) (stage_of mixed) 0 ≡ true
  pub any_1 : any_at (is_present mixed) (stage_of mixed) 1 ≡ true
  pub any_2 : any_at (is_present mixed) (stage_of mixed) 2 ≡ true
  pub any_3 : any_at (is_present mixed) (stage_of mixed) 3 ≡ true
  pub any_4 : any_at (is_present mixed) (stage_of mixed) 4 ≡ false
  pub absent_0 : any_at (is_present no_stages) (stage_of no_stages) 0 ≡ false
  pub absent_1 : any_at (is_present alone) (stage_of alone) 1 ≡ false
  pub absent_2 : any_at (is_present alone) (stage_of alone) 2 ≡ false
  pub absent_3 : any_at (is_present alone) (stage_of alone) 3 ≡ false
  pub all_dropped_case : all_dropped (is_present done) (stage_of done) ≡ true
  pub all_but_one : all_dropped (is_present almost) (stage_of almost) ≡ false
  pub no_members : all_dropped (is_present no_stages) (stage_of no_stages) ≡ true
  pub all_but_first : all_dropped (is_present (record { members = 0x3; learnt = 0x3; switched = 0x3; dropped = 0x2 })) (stage_of (record { members = 0x3; learnt = 0x3; switched = 0x3; dropped = 0x2 })) ≡ false
  pub any_last : any_at (is_present last) (stage_of last) 0 ≡ true
  -- what is made of stages, word by word
  pub none_made : no_stages ≡ record { members = 0x0; learnt = 0x0; switched = 0x0; dropped = 0x0 }
  pub first_made : first_stages 32 ≡ record { members = 0xffffffff; learnt = 0x0; switched = 0x0; dropped = 0x0 }
  pub reset_made : reset_stages mixed ≡ record { members = 0x800001ff; learnt = 0x0; switched = 0x0; dropped = 0x0 }
  pub learn_made : learnt_by mixed 0 ≡ record { members = 0x800001ff; learnt = 0x80000fff; switched = 0x80000df8; dropped = 0x800009c0 }
  pub switch_made : switched_by mixed 1 ≡ record { members = 0x800001ff; learnt = 0x80000ffe; switched = 0x80000dfa; dropped = 0x800009c0 }
  pub drop_made : dropped_by mixed 3 ≡ record { members = 0x800001ff; learnt = 0x80000ffe; switched = 0x80000df8; dropped = 0x800009c8 }
  pub past_made : learnt_by mixed 32 ≡ mixed
