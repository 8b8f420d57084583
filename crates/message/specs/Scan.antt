-- What the code does with one record after the other: the OPT so far, and whether check 7 refuses. Only private functions promise it. Assumes nothing.
use Rattle.std.specs.Prelude.{ℕ, ◌-◌, Bool, not, cond, ◌||◌, List, [], ◌∷◌, eqb, is_some, Option, Some, Result, Ok, Err}
use Rattle.std.proofs.Math.Option.{none, some}
use Rattle.std.proofs.Math.Option as math
use Rattle.message.specs.Message.{records, is_opt}
use Rattle.message.specs.declared.Fault.{Fault}
use Rattle.message.specs.declared.Fault.TheVariants.{Malformed, WrongOpt}
use Rattle.message.specs.declared.Record.{Record}

-- what `walk` answers
abbrev pub Outline : Type 0
Outline = Result (Option Record) Fault

-- whether an OPT is wrong: not placed in the additional section, by its owner, or behind another
abbrev pub is_wrong : Option Record → Bool → Record → Bool
is_wrong opt placed r = not placed || not r.root || is_some opt

-- all that are left, of which the first b stand before the additional section, behind an OPT or none and a wrong one or none
unfoldable pub with_records : ℕ → Option Record → Bool → List Record → Outline
with_records b opt wrong [] = cond wrong (Err WrongOpt) (Ok opt)
with_records b opt wrong (r ∷ rs) = cond (is_opt r) (with_records (b - 1) (Some r) (wrong || is_wrong opt (eqb b 0) r) rs) (with_records (b - 1) opt wrong rs)

-- or that the records are not all there
abbrev pub scan : ℕ → Option Record → Bool → math.Option (List Record) → Outline
scan b opt wrong none = Err Malformed
scan b opt wrong (some rs) = with_records b opt wrong rs

-- so many records from here to the message's end
unfoldable pub scanned : ℕ → Option Record → Bool → ℕ → List ℕ → ℕ → Outline
scanned b opt wrong n s at = scan b opt wrong (records n s at)
