-- The shape of an OPT record's data as a grammar, with no places in it: RFC 6891, section 6.1.2, and document 01, "Reading a request". Two claims at the end:
-- check 9 lets through exactly this shape, and the options that the definitions list are those of the shape. Assumes nothing.
use Rattle.std.specs.Prelude.{ℕ, ◌-◌, ◌≡◌, false, List, [], ◌∷◌, ◌++◌, map, length, take, drop}
use Rattle.std.proofs.Math.Option.{some}
use Rattle.octets.specs.Numbers.{be_number}
use Rattle.octets.specs.Runs.{Standing}
use Rattle.edns.specs.Options.{option_at, options_of, option_past}
use Rattle.edns.specs.declared.EdnsOption.{EdnsOption}

-- ---- the shape

-- an option: code 2, length 2, then as many bytes as that says
pub data AnOption : List ℕ → Type 0 where
  an_option : (code size body : List ℕ) → length code ≡ 2 → length size ≡ 2 → length body ≡ be_number size → AnOption (code ++ size ++ body)

-- options one behind the other, and nothing behind. Empty data is a run of none
pub data Run : List ℕ → Type 0 where
  nothing : Run []
  more : (one rest : List ℕ) → AnOption one → Run rest → Run (one ++ rest)

-- ---- what its options say

-- its code and its body
pub record Said : Type 0 where
  pub code : ℕ
  pub body : List ℕ

-- by the shape, of one
abbrev pub saying_of : {p : List ℕ} → AnOption p → Said
saying_of (an_option code size body c s b) = record { code = be_number code; body = body }

-- of all
abbrev pub sayings : {d : List ℕ} → Run d → List Said
sayings nothing = []
sayings (more one rest o os) = saying_of o ∷ sayings os

-- by the definitions, of an option that they list for some data
abbrev pub said : List ℕ → EdnsOption → Said
said d o = record { code = o.code; body = take (o.end - o.start) (drop o.start d) }

-- ---- the claims

-- check 9 lets through exactly the runs of options
abbrev pub NineExactlyWhen : Type 0
NineExactlyWhen = (d : List ℕ) → (option_past d ≡ false → Run d) × (Run d → option_past d ≡ false)

-- and of those the definitions list the options that are there, in their order
abbrev pub ListedAreThese : Type 0
ListedAreThese = (d : List ℕ) (run : Run d) → map (said d) (options_of d) ≡ sayings run

-- an option that is found at a place stands there, and one that stands there is found and says what it says
pub record OptionHere (d : List ℕ) (at end : ℕ) : Type 0 where
  pub found_stands : (o : EdnsOption) → option_at d at ≡ some o → Standing AnOption d at o.end
  pub standing_found : (standing : Standing AnOption d at end) → (o : EdnsOption) × (option_at d at ≡ some o) × (o.end ≡ end) × (said d o ≡ saying_of standing.holds)

-- at every place
abbrev pub AtEveryPlace : Type 0
AtEveryPlace = (d : List ℕ) (at end : ℕ) → OptionHere d at end
