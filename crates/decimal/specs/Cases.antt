-- Cases that pin the definitions of Decimal.antt: no digit, one, zeros in front, the bytes on both sides of the digits, the greatest number of 64 bits and the next. Texts are
-- as ASCII has them. Assumes nothing.
use Rattle.std.specs.Prelude.{◌^◌, ◌≡◌, [], ◌∷◌, map}
use Rattle.std.proofs.Math.Option.{none, some}
use Rattle.octets.specs.Numbers.{printed}
use Rattle.decimal.specs.Decimal.{decimal, below}

-- the claim: each text gives what is written beside it
pub record CasesHold : Type 0 where
  pub empty : decimal [] ≡ none
  -- 0 to 9
  pub digits : map (λ b. decimal (b ∷ [])) (48 ∷ 49 ∷ 50 ∷ 51 ∷ 52 ∷ 53 ∷ 54 ∷ 55 ∷ 56 ∷ 57 ∷ [])
      ≡ some 0 ∷ some 1 ∷ some 2 ∷ some 3 ∷ some 4 ∷ some 5 ∷ some 6 ∷ some 7 ∷ some 8 ∷ some 9 ∷ []
  -- `/`, `:`, a space, `-`, `a`
  pub others : map (λ b. decimal (b ∷ [])) (47 ∷ 58 ∷ 32 ∷ 45 ∷ 97 ∷ []) ≡ none ∷ none ∷ none ∷ none ∷ none ∷ []
  -- 000, 007, 1050, 281474976710656
  pub more : map decimal (printed 3 0x303030 ∷ printed 3 0x303037 ∷ printed 4 0x31303530 ∷ printed 15 0x323831343734393736373130363536 ∷ [])
      ≡ some 0 ∷ some 7 ∷ some 1050 ∷ some 281474976710656 ∷ []
  -- `1 0`, `10 `, `1x`
  pub spoilt : map decimal (printed 3 0x312030 ∷ printed 3 0x313020 ∷ printed 2 0x3178 ∷ []) ≡ none ∷ none ∷ none ∷ []
  -- 18446744073709551615 and 18446744073709551616; 255 and 256
  pub greatest : map (λ s. below (2 ^ 64) (decimal s)) (printed 20 0x3138343436373434303733373039353531363135 ∷ printed 20 0x3138343436373434303733373039353531363136 ∷ [])
      ≡ some 18446744073709551615 ∷ none ∷ []
  pub bytes : map (λ s. below 256 (decimal s)) (printed 3 0x323535 ∷ printed 3 0x323536 ∷ []) ≡ some 255 ∷ none ∷ []
