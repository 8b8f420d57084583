-- Cases that pin the definitions of Listing.antt, with bytes in and out written out: document 01's sample journal and its eleven lines, a journal with a tail, an unknown kind and a
-- record before START, journals of less than a record, and outputs with too little room. Assumes nothing.
use Rattle.std.specs.Prelude.{◌≡◌, ℕ, List, [], ◌++◌, take, drop, replicate}
use Rattle.octets.specs.Numbers.{printed}
use Rattle.listing.specs.Listing.{listing, fresh_lister, listed}

-- document 01's sample, a record to a line
abbrev pub sample : List ℕ
sample =
    printed 32 0x000200000000000000000000000003e811111111111111111111111111111111
    ++ (printed 32 0x010000000000000000000000000003f222222222222222222222222222222222
    ++ (printed 32 0x010000000000000000000000000003f333333333333333333333333333333333
    ++ (printed 32 0x020000000000000000000000000003fc22222222222222222222222222222222
    ++ (printed 32 0x0300000000000000000000000000040622222222222222222222222222222222
    ++ (printed 32 0x0201000000000000000000000000040622222222222222222222222222222222
    ++ (printed 32 0x0301000000000000000000000000041022222222222222222222222222222222
    ++ (printed 32 0x0300000000000000000000000000041a22222222222222222222222222222222
    ++ (printed 32 0x0400000000000000000000000000122a22222222222222222222222222222222
    ++ (printed 32 0x0400000000000000000000000000122b22222222222222222222222222222222
    ++ printed 32 0x0401000000000000000000000000122b22222222222222222222222222222222)))))))))

-- its eleven lines
abbrev pub sample_lines : List ℕ
sample_lines =
    printed 16 0x3120302030203020322030203020300a
    ++ (printed 16 0x3220312030203120322030203020300a
    ++ (printed 16 0x3320312034203120322030203020300a
    ++ (printed 16 0x3420322030203120312031203020300a
    ++ (printed 16 0x3520332039203120312031203020300a
    ++ (printed 16 0x3620322030203120302032203020300a
    ++ (printed 16 0x3720332030203120302031203120300a
    ++ (printed 16 0x3820332030203120302030203220300a
    ++ (printed 17 0x392034203130203120302030203220300a
    ++ (printed 17 0x313020342030203120302030203120310a
    ++ printed 17 0x313120342030203020322030203020300a)))))))))

-- an unknown kind, a LEARN before START, START of 3, OPEN, and five bytes
abbrev pub tailed : List ℕ
tailed =
    printed 32 0xc800000000000000000000000000000511111111111111111111111111111111
    ++ (printed 32 0x0200000000000000000000000000000511111111111111111111111111111111
    ++ (printed 32 0x0003000000000000000000000000000511111111111111111111111111111111
    ++ (printed 32 0x0100000000000000000000000000000522222222222222222222222222222222
    ++ replicate 5 7)))

pub record CasesHold : Type 0 where
  pub sampled : listing sample ≡ sample_lines
  -- 1 200 1 0 0 0 0 0, 2 2 5 0 0 0 0 0, 3 0 0 0 3 0 0 0, 4 1 0 1 3 0 0 0, short 5
  pub tail : listing tailed
      ≡ printed 74 0x31203230302031203020302030203020300a3220322035203020302030203020300a3320302030203020332030203020300a3420312030203120332030203020300a73686f727420350a
  pub empty : listing [] ≡ []
  -- short 31
  pub less : listing (replicate 31 0) ≡ printed 9 0x73686f72742033310a
  -- 1 0 7 0 0 0 0 0, short 1
  pub one_over : listing (replicate 33 0) ≡ printed 24 0x3120302037203020302030203020300a73686f727420310a
  -- room for one of the longest lines, for all of them, and for none: the records that are listed, where their lines end, and the whole output
  pub one_fits : (listed fresh_lister sample (replicate 93 9)).records ≡ 1
  pub one_end : (listed fresh_lister sample (replicate 93 9)).end ≡ 16
  pub one_output : (listed fresh_lister sample (replicate 93 9)).output ≡ printed 16 0x3120302030203020322030203020300a ++ replicate 77 9
  pub one_number : (listed fresh_lister sample (replicate 93 9)).lister.number ≡ 1
  pub all_fit : (listed fresh_lister tailed (replicate 200 9)).records ≡ 4
  pub all_end : (listed fresh_lister tailed (replicate 200 9)).end ≡ 66
  pub none_fits : (listed fresh_lister sample (replicate 46 9)).records ≡ 0
  pub none_end : (listed fresh_lister sample (replicate 46 9)).end ≡ 0
  pub none_output : (listed fresh_lister sample (replicate 46 9)).output ≡ replicate 46 9
  -- a number has 64 bits, and starts again behind the greatest
  pub many : (listed (record { ledger = fresh_lister.ledger; number = 18446744073709551614 }) (take 32 sample) (replicate 47 9)).lister.number ≡ 18446744073709551615
  pub again : (listed (record { ledger = fresh_lister.ledger; number = 18446744073709551615 }) (take 32 sample) (replicate 47 9)).lister.number ≡ 0
  -- the numbers go on where a block ended
  pub goes_on : (listed (listed fresh_lister (take 64 sample) (replicate 94 9)).lister (drop 64 sample) (replicate 47 9)).output
      ≡ printed 16 0x3320312034203120322030203020300a ++ replicate 31 9
