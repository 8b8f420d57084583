-- What a verdict says, in the words and numbers of document 01, "The verdict". Assumes nothing.
use Rattle.std.specs.Prelude.{ℕ, Bool, cond, ◌&&◌, ℤ, pos, negsuc, int_le}
use Rattle.verdict.specs.declared.Reason.{Reason}
use Rattle.verdict.specs.declared.Reason.TheVariants.{Method, Hash, Time}
use Rattle.verdict.specs.declared.Verdict.{Verdict}
use Rattle.verdict.specs.declared.Verdict.TheVariants.{Ignored, Absent, ClientOnly, Bad, Good}
use Rattle.verdict.specs.declared.Which.{Which}

-- a verdict: the code's `Verdict` says it by names of its own, and `finding` below gives what they mean. A bad one has the number of the step that failed
-- first: 1 method, 2 hash, 3 time. Which secret matched (`Which`) has no number in document 01: its names, generating and other, are the code's too
pub data Finding : Type 0 where
  ignored absent clientOnly : Finding
  bad : ℕ → Finding
  good : ℤ → Which → Finding

-- the step of document 01 that a reason names
abbrev pub step_of : Reason → ℕ
step_of Method = 1
step_of Hash = 2
step_of Time = 3

-- what a verdict of the code says
abbrev pub finding : Verdict → Finding
finding Ignored = ignored
finding Absent = absent
finding ClientOnly = clientOnly
finding (Bad reason) = bad (step_of reason)
finding (Good a which) = good a which

-- ---- step 3

-- an age is good from -300 to 3,600
unfoldable pub is_timely : ℤ → Bool
is_timely a = int_le (negsuc 299) a && int_le a (pos 3600)

-- the verdict on a cookie whose hash is right
unfoldable pub by_time : ℤ → Which → Finding
by_time a which = cond (is_timely a) (good a which) (bad 3)
