-- Members and their stages: document 01, "The rollover ledger". What the rules ask is asked of two functions, who is present and at which stage, so that it
-- can be asked of any way to keep them. Below stands how this crate keeps them. Assumes nothing.
use Rattle.std.specs.Prelude.{ℕ, Bool, not, cond, ◌&&◌, eqb}
use Rattle.stages.specs.Sets.{member_limit, is_in, with_member, numbers_below, any_below, count_below}
use Rattle.stages.specs.declared.Stages.{Stages}

-- ---- what the rules ask

module _ (present : ℕ → Bool) (stage : ℕ → ℕ) where
  -- whether any member is at a stage
  abbrev pub any_at : ℕ → Bool
  any_at k = any_below member_limit (λ m. present m && eqb (stage m) k)

  -- how many members are
  abbrev pub count_at : ℕ → ℕ
  count_at k = count_below member_limit (λ m. present m && eqb (stage m) k)

  -- whether every member is at 3
  abbrev pub all_dropped : Bool
  all_dropped = not (any_below member_limit (λ m. present m && not (eqb (stage m) 3)))

-- ---- how they are kept

-- whether a number is a member's
abbrev pub is_present : Stages → ℕ → Bool
is_present s m = is_in s.members m

-- the furthest step that a member took in the open rollover tells its stage
abbrev pub stage_of : Stages → ℕ → ℕ
stage_of s m = cond (is_in s.dropped m) 3 (cond (is_in s.switched m) 2 (cond (is_in s.learnt m) 1 0))

-- no members
abbrev pub no_stages : Stages
no_stages = record { members = 0; learnt = 0; switched = 0; dropped = 0 }

-- the members below a number, at stage 0
abbrev pub first_stages : ℕ → Stages
first_stages count = record { members = numbers_below count; learnt = 0; switched = 0; dropped = 0 }

-- the same members, at stage 0
abbrev pub reset_stages : Stages → Stages
reset_stages s = record { members = s.members; learnt = 0; switched = 0; dropped = 0 }

-- a member took LEARN
abbrev pub learnt_by : Stages → ℕ → Stages
learnt_by s m = record { members = s.members; learnt = with_member s.learnt m; switched = s.switched; dropped = s.dropped }

-- SWITCH
abbrev pub switched_by : Stages → ℕ → Stages
switched_by s m = record { members = s.members; learnt = s.learnt; switched = with_member s.switched m; dropped = s.dropped }

-- DROP
abbrev pub dropped_by : Stages → ℕ → Stages
dropped_by s m = record { members = s.members; learnt = s.learnt; switched = s.switched; dropped = with_member s.dropped m }
