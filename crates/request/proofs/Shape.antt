-- The claim `ReadByShape` of specs/Shape.antt. Assumes nothing.
use Prim.Native.Nat.{ℕ, zero, suc, ◌+◌, ◌-◌, ◌≤◌}
use mathlib.Core.Path.{◌≡◌, refl, sym, ap, subst, ◌∙◌}
use mathlib.Core.Bool.{Bool, true, false, not, cond, ◌||◌, or-true, or-false, true≢false}
use mathlib.Core.List.{List, [], ◌∷◌, ◌++◌, map}
use mathlib.Core.Option.{Option, none, some, get_or}
use native.Mathlib.Omega.{arith}
use lib.Dec.{eqb}
use lib.ListN.{length, take, drop, length-drop}
use lib.Seq.{length-take-le, take-take, drop-drop, take-append_seam}
use Rattle.octets.specs.Refusals.{Row, ◌when◌, first, answered}
use Rattle.octets.proofs.EachLaws.{Each, IfOne}
use Rattle.edns.proofs.GrammarLaws.{nine_exactly_when}
use Rattle.edns.proofs.GrammarLaws as edns-laws
use Rattle.edns.proofs.Within.{BodyInside, cookie_within}
use Rattle.edns.specs.Grammar.{Run, sayings}
use Rattle.edns.specs.Grammar as edns
use Rattle.edns.specs.Options.{options_from, options_in, options_of, option_past, is_cookie, first_cookie, is_cookie_length}
use Rattle.edns.specs.declared.EdnsOption.{EdnsOption}
use Rattle.message.proofs.GrammarLaws.{six_exactly_when}
use Rattle.message.proofs.GrammarLaws as message-laws
use Rattle.message.proofs.Within.{DataInside, opts_within}
use Rattle.message.specs.Grammar.{WellFormed, Said, sayings_before, sayings_additional, said}
use Rattle.message.specs.Message.{qdcount, ancount, nscount, records_of, malformed, is_opt, opts, is_any, is_second, any_foreign, wrong_among, wrong_opt}
use Rattle.message.specs.declared.Record.{Record}
use Rattle.request.specs.Request.{opts_in, data_of, opt_data, version_of, is_illegal, wrong_size, is_response, many_questions, wrong_version, wrong_cookie, checks_from6, checks, Answer, refused, no_cookie, cookie, start_of, found, found_in, request, body_at, cookie_body}
use Rattle.request.specs.Shape.{opts_among, wrong_opts, opt_or_empty, opt_in, first_body, wrong_body, rows_to5, rows7_and8, Told, refusal, passed, told, Reads, ReadByShape}

-- ---- lists

map_take : {A B : Type 0} (f : A → B) (n : ℕ) (l : List A) → map f (take n l) ≡ take n (map f l)
map_take f zero l = refl
map_take f (suc n) [] = refl
map_take {B = B} f (suc n) (x ∷ l) = ap (λ (k : List B). f x ∷ k) (map_take f n l)

-- a part of what was taken is a part of the whole
part_of_taken : (k m n : ℕ) (l : List ℕ) → k + m ≤ n → take m (drop k (take n l)) ≡ take m (drop k l)
part_of_taken zero m n l h = take-take m n l (omega (arith, h))
part_of_taken (suc k) m zero l h = absurd (omega (arith, h))
part_of_taken (suc k) m (suc n) [] h = refl
part_of_taken (suc k) m (suc n) (x ∷ l) h = part_of_taken k m n l (omega (arith, h))

-- ---- the OPTs, as records and as what these say

opts_append : (xs ys : List Said) → opts_among (xs ++ ys) ≡ opts_among xs ++ opts_among ys
opts_append [] ys = refl
opts_append (x ∷ xs) ys = pick (opts_append xs ys) (eqb x.kind 41)
  where
    pick : opts_among (xs ++ ys) ≡ opts_among xs ++ opts_among ys → (b : Bool)
        → cond b (x ∷ opts_among (xs ++ ys)) (opts_among (xs ++ ys)) ≡ cond b (x ∷ opts_among xs) (opts_among xs) ++ opts_among ys
    pick ih true = ap (λ (l : List Said). x ∷ l) ih
    pick ih false = ih

module _ (s : List ℕ) where
  opts_said : (rs : List Record) → map (said s) (opts rs) ≡ opts_among (map (said s) rs)
  opts_said [] = refl
  opts_said (r ∷ rs) = pick (opts_said rs) (is_opt r)
    where
      pick : map (said s) (opts rs) ≡ opts_among (map (said s) rs) → (b : Bool)
          → map (said s) (cond b (r ∷ opts rs) (opts rs)) ≡ cond b (said s r ∷ opts_among (map (said s) rs)) (opts_among (map (said s) rs))
      pick ih true = ap (λ (l : List Said). said s r ∷ l) ih
      pick ih false = ih

  wrong_said : (os : List Record) → (any_foreign os || is_second os) ≡ wrong_opts [] (map (said s) os)
  wrong_said [] = refl
  wrong_said (r ∷ []) = or-false (not r.root || false) ∙ or-false (not r.root)
  wrong_said (r ∷ q ∷ rs) = or-true (any_foreign (r ∷ q ∷ rs))

  wrong_is : (misplaced all : List Record) (before additional : List Said) → map (said s) misplaced ≡ before → map (said s) all ≡ before ++ additional
      → (is_any misplaced || any_foreign all || is_second all) ≡ wrong_opts before additional
  wrong_is [] all before additional b e =
      let all-is : map (said s) all ≡ additional = e ∙ ap (λ (l : List Said). l ++ additional) (sym b) in
      wrong_said all ∙ ap (wrong_opts []) all-is ∙ ap (λ (l : List Said). wrong_opts l additional) b
  wrong_is (r ∷ rs) all before additional b e = ap (λ (l : List Said). wrong_opts l additional) b

  version_said : (os : List Record) → version_of os ≡ (opt_or_empty (map (said s) os)).version
  version_said [] = refl
  version_said (r ∷ rs) = refl

  data_said : (os : List Record) → opt_data s os ≡ (opt_or_empty (map (said s) os)).rdata
  data_said [] = refl
  data_said (r ∷ rs) = refl

-- ---- the first COOKIE option, as an option and as what it says

abbrev body_of : List ℕ → Option EdnsOption → Option (List ℕ)
body_of d none = none
body_of d (some o) = some (edns.said d o).body

module _ (d : List ℕ) where
  first_said : (os : List EdnsOption) → body_of d (first_cookie os) ≡ first_body (map (edns.said d) os)
  unfolding first_cookie
  first_said [] = refl
  first_said (o ∷ os) = pick (first_said os) (is_cookie o)
    where
      pick : body_of d (first_cookie os) ≡ first_body (map (edns.said d) os) → (b : Bool)
          → body_of d (cond b (some o) (first_cookie os)) ≡ cond b (some (edns.said d o).body) (first_body (map (edns.said d) os))
      pick ih true = refl
      pick ih false = ih

  body_is : (run : Run d) → body_of d (first_cookie (options_of d)) ≡ first_body (sayings run)
  body_is run = first_said (options_of d) ∙ ap first_body (edns-laws.listed_are_these d run)

  illegal_is : (c : Option EdnsOption) → IfOne (BodyInside (length d)) c → is_illegal c ≡ wrong_body (body_of d c)
  illegal_is none i = refl
  illegal_is (some o) i =
      let long = length-take-le (o.end - o.start) (drop o.start d) (omega (arith, length-drop o.start d, i.within)) in
      ap (λ (n : ℕ). not (is_cookie_length n)) (sym long)

-- a part of the data is a part of the message, from the data's start on
found_is : (s : List ℕ) (r : Record) (q : ℕ) → DataInside (length s) r → (c : Option EdnsOption) → IfOne (BodyInside (length (data_of s r))) c
    → told s (found q r.start c) ≡ passed q (body_of (data_of s r) c)
found_is s r q inside none i = refl
found_is s r q inside (some o) i =
    let size = r.end - r.start in
    let n = o.end - o.start in
    let long : length (data_of s r) ≡ size = length-take-le size (drop r.start s) (omega (arith, length-drop r.start s, inside.ordered, inside.within)) in
    let same : r.start + o.end - (r.start + o.start) ≡ n = omega arith in
    let fits : o.start + n ≤ size = omega (arith, long, i.ordered, i.within) in
    let here = part_of_taken o.start n size (drop r.start s) fits ∙ ap (take n) (drop-drop o.start r.start s) in
    ap (λ (k : ℕ). passed q (some (take k (drop (r.start + o.start) s)))) same ∙ ap (λ (l : List ℕ). passed q (some l)) (sym here)

module _ (s : List ℕ) where
  abbrev cookie_from : List Record → Option EdnsOption
  cookie_from os = first_cookie (options_of (opt_data s os))

  -- rows 9 and 10, and what is found, where the data is a run of options of which the first COOKIE has this body
  record Listed (os : List Record) (body : Option (List ℕ)) : Type 0 where
    nine : option_past (opt_data s os) ≡ false
    ten : is_illegal (cookie_from os) ≡ wrong_body body
    finds : told s (found (qdcount s) (start_of os) (cookie_from os)) ≡ passed (qdcount s) body

  listed_by : (os : List Record) (run : Run (opt_data s os))
      → told s (found (qdcount s) (start_of os) (cookie_from os)) ≡ passed (qdcount s) (body_of (opt_data s os) (cookie_from os)) → Listed os (first_body (sayings run))
  listed_by os run finds =
      let d = opt_data s os in
      record {
        nine = (nine_exactly_when d).1 run;
        ten = illegal_is d (cookie_from os) (cookie_within d) ∙ ap wrong_body (body_is d run);
        finds = finds ∙ ap (passed (qdcount s)) (body_is d run);
      }

  listed_said : (os : List Record) → Each (DataInside (length s)) os → (run : Run (opt_or_empty (map (said s) os)).rdata) → Listed os (first_body (sayings run))
  unfolding options_from options_in first_cookie
  listed_said [] inside run = listed_by [] run refl
  listed_said (r ∷ rs) inside run =
      listed_by (r ∷ rs) run (found_is s r (qdcount s) inside.0 (cookie_from (r ∷ rs)) (cookie_within (data_of s r)))

-- ---- from the number to the answer

-- behind one that does not apply
past_row : (b : Bool) (n k : ℕ) → cond b (suc n) k ≡ 0 → k ≡ 0
past_row true n k e = absurd (omega (arith, e))
past_row false n k e = e

told_body : Told → List ℕ
told_body (refusal n) = []
told_body (passed q body) = get_or body []

module _ (s : List ℕ) where
  told_answered : (k : ℕ) (a : Answer) (p : Told) → (k ≡ 0 → told s a ≡ p) → told s (answered refused k a) ≡ answered refusal k p
  told_answered zero a p is = is refl
  told_answered (suc k) a p is = refl

  body_told : (a : Answer) → body_at s a ≡ told_body (told s a)
  unfolding told_body
  body_told (refused n) = refl
  body_told (no_cookie q) = refl
  body_told (cookie q start end) = refl

  body_answered : (k q : ℕ) (body : Option (List ℕ)) → told_body (answered refusal k (passed q body)) ≡ answered (λ n. []) k (get_or body [])
  unfolding told_body
  body_answered zero q body = refl
  body_answered (suc k) q body = refl

  abbrev behind5 : ℕ → ℕ
  behind5 k = cond (wrong_size s) 3 (cond (is_response s) 4 (cond (many_questions s) 5 k))

  past_5 : (k : ℕ) → behind5 k ≡ 0 → k ≡ 0
  past_5 k e = past_row (many_questions s) 4 k (past_row (is_response s) 3 _ (past_row (wrong_size s) 2 _ e))

  reads : (rows : List Row) (body : Option (List ℕ)) → first (checks_from6 s) ≡ first rows
      → (first rows ≡ 0 → told s (found_in s) ≡ passed (qdcount s) body) → Reads s rows body
  unfolding request cookie_body
  reads rows body from_6 finds =
      let number : first (checks s) ≡ first (rows_to5 s ++ rows) = ap behind5 from_6 in
      let k = first (rows_to5 s ++ rows) in
      let p = passed (qdcount s) body in
      let answer : told s (request s) ≡ answered refusal k p =
      ap (λ (n : ℕ). told s (answered refused n (found_in s))) number ∙ told_answered k (found_in s) p (λ e. finds (past_5 (first rows) e)) in
      record { from_6 = from_6; finds = finds; number = number; answer = answer; part = body_told (request s) ∙ ap told_body answer ∙ body_answered k (qdcount s) body }

-- ---- rows

-- with an OPT before the additional section 7 applies, whatever stands behind it
rows_from_6 : (before additional : List Said) (six seven : Bool) (k m : ℕ) → six ≡ false → seven ≡ wrong_opts before additional → (before ≡ [] → k ≡ m)
    → cond six 6 (cond seven 7 k) ≡ cond (wrong_opts before additional) 7 m
rows_from_6 [] additional six seven k m six-is seven_is is = rw (six-is, seven_is, is refl)
rows_from_6 (o ∷ os) additional six seven k m six-is seven_is is = rw (six-is, seven_is)

none_before : (before additional : List Said) (m : ℕ) → cond (wrong_opts before additional) 7 m ≡ 0 → before ≡ []
none_before [] additional m e = refl
none_before (o ∷ os) additional m e = absurd (omega (arith, e))

is_true : (b : Bool) → (b ≡ false → ⊥) → b ≡ true
is_true true never = refl
is_true false never = absurd (never refl)

-- ---- the cases

module _ (s : List ℕ) where
  abbrev from7 : ℕ
  from7 = first (7 when wrong_opt s ∷ 8 when wrong_version s ∷ 9 when option_past (opt_data s (opts_in s)) ∷ 10 when wrong_cookie s ∷ [])

  read_malformed : (WellFormed s → ⊥) → Reads s (6 when true ∷ []) none
  read_malformed never =
      let six : malformed s ≡ true = is_true (malformed s) (λ e. never ((six_exactly_when s).0 e)) in
      reads s (6 when true ∷ []) none (ap (λ (b : Bool). cond b 6 from7) six) (λ e. absurd (omega (arith, e)))

  module _ (w : WellFormed s) where
    abbrev before : List Said
    before = opts_among (sayings_before w)

    abbrev additional : List Said
    additional = opts_among (sayings_additional w)

    opts_before : map (said s) (opts (take (ancount s + nscount s) (records_of s))) ≡ before
    opts_before =
        let listed = message-laws.listed_are_these s w in
        let n = ancount s + nscount s in
        let taken = map_take (said s) n (records_of s) ∙ ap (take n) listed.say in
        let counted = ap (λ (k : ℕ). take k (sayings_before w ++ sayings_additional w)) listed.before ∙ take-append_seam (sayings_before w) (sayings_additional w) in
        opts_said s (take n (records_of s)) ∙ ap opts_among (taken ∙ counted)

    opts_all : map (said s) (opts_in s) ≡ before ++ additional
    opts_all = opts_said s (records_of s) ∙ ap opts_among (message-laws.listed_are_these s w).say ∙ opts_append (sayings_before w) (sayings_additional w)

    seven_is : wrong_opt s ≡ wrong_opts before additional
    unfolding wrong_among
    seven_is = wrong_is s (opts (take (ancount s + nscount s) (records_of s))) (opts_in s) before additional opts_before opts_all

    -- where 7 does not apply the OPTs are those of the additional section
    opts_are : before ≡ [] → map (said s) (opts_in s) ≡ additional
    opts_are e = opts_all ∙ ap (λ (l : List Said). l ++ additional) e

    version_is : before ≡ [] → version_of (opts_in s) ≡ (opt_in w).version
    version_is e = version_said s (opts_in s) ∙ ap (λ (l : List Said). (opt_or_empty l).version) (opts_are e)

    data_is : before ≡ [] → opt_data s (opts_in s) ≡ (opt_in w).rdata
    data_is e = data_said s (opts_in s) ∙ ap (λ (l : List Said). (opt_or_empty l).rdata) (opts_are e)

    abbrev from9 : ℕ
    from9 = first (9 when option_past (opt_data s (opts_in s)) ∷ 10 when wrong_cookie s ∷ [])

    -- with what is left of rows 9 and 10
    read_opt : (row : Row) (body : Option (List ℕ)) → (before ≡ [] → from9 ≡ first (row ∷ []))
        → (before ≡ [] → first (row ∷ []) ≡ 0 → told s (found_in s) ≡ passed (qdcount s) body) → Reads s (rows7_and8 w ++ row ∷ []) body
    read_opt row body is finds =
        let from8 = first (8 when not (eqb (opt_in w).version 0) ∷ row ∷ []) in
        let from6-is = rows_from_6 before additional (malformed s) (wrong_opt s) (cond (wrong_version s) 8 from9) from8 ((six_exactly_when s).1 w) seven_is
        (λ e. rw (version_is e, is e)) in
        reads s (rows7_and8 w ++ row ∷ []) body from6-is
        (λ e.
        let eight = past_row (wrong_opts before additional) 6 from8 e in
        finds (none_before before additional from8 e) (past_row (not (eqb (opt_in w).version 0)) 7 (first (row ∷ [])) eight))

    read_past : (Run (opt_in w).rdata → ⊥) → Reads s (rows7_and8 w ++ 9 when true ∷ []) none
    read_past never =
        let d = opt_data s (opts_in s) in
        let nine : before ≡ [] → option_past d ≡ true = λ e. is_true (option_past d) (λ f. never (subst Run (data_is e) ((nine_exactly_when d).0 f))) in
        read_opt (9 when true) none (λ e. ap (λ (b : Bool). first (9 when b ∷ 10 when wrong_cookie s ∷ [])) (nine e)) (λ e f. absurd (omega (arith, f)))

    read_whole : (run : Run (opt_in w).rdata) → Reads s (rows7_and8 w ++ 10 when wrong_body (first_body (sayings run)) ∷ []) (first_body (sayings run))
    read_whole run =
        let body = first_body (sayings run) in
        let listed : before ≡ [] → Listed s (opts_in s) body = λ e.
        subst (λ (l : List Said). (r : Run (opt_or_empty l).rdata) → Listed s (opts_in s) (first_body (sayings r))) (opts_are e) (listed_said s (opts_in s) (opts_within s)) run in
        read_opt (10 when wrong_body body) body (λ e. rw ((listed e).nine, (listed e).ten)) (λ e f. (listed e).finds)

decided : {A : Type 0} (b : Bool) → (b ≡ false → A) → (A → b ≡ false) → Dec A
decided true to from = no (λ a. true≢false (from a))
decided false to from = yes (to refl)

pub read_by_shape : ReadByShape
read_by_shape s =
    record {
      well_formed? = decided (malformed s) (six_exactly_when s).0 (six_exactly_when s).1;
      run? = λ w. decided (option_past (opt_in w).rdata) (nine_exactly_when (opt_in w).rdata).0 (nine_exactly_when (opt_in w).rdata).1;
      malformed = read_malformed s;
      past = read_past s;
      whole = read_whole s;
    }
