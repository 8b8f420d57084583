-- The claims `SixExactlyWhen` and `ListedAreThese` of specs/Grammar.antt. Assumes nothing.
use Prim.Native.Nat.{ℕ, zero, suc, ◌+◌, ◌≤◌, ◌<◌}
use native.Mathlib.Nat.{add-zero, zero-add, suc-add}
use mathlib.Core.Path.{◌≡◌, refl, sym, ap, ◌∙◌, subst}
use mathlib.Core.Bool.{Bool, true, false, cond}
use mathlib.Core.List.{List, [], ◌∷◌, ◌++◌, map, append_assoc, append-nil}
use mathlib.Core.Option.{none, some, bind, none-ne-some}
use native.Mathlib.Decide.{dec_lt}
use native.Mathlib.Omega.{arith}
use borrow.Author.Tests.{le-leb, leb-true, eqb-true, eq-eqb, ne_eqb}
use lib.Dec.{eqb, leb}
use lib.ListN.{length, drop, get_or, length-append, get_or-eq_default}
use lib.Seq.{drop-length}
use Rattle.octets.specs.Numbers.{be_number, be16_at}
use Rattle.octets.specs.Runs.{Stands, Standing}
use Rattle.octets.proofs.PartLaws.{Bytes, join, left, right, all_stands, filled, taken, bytes, byte, byte_in, first_byte, number, bind_told, test_told}
use Rattle.message.specs.Name.{within, is_label, past_labels, labels_end, terminator, name_end}
use Rattle.message.specs.Record.{question_end, fields, whole, record_at}
use Rattle.octets.proofs.RefusalLaws.{both_true, is_some}
use Rattle.octets.specs.Refusals.{is_none}
use Rattle.message.specs.Message.{qdcount, ancount, nscount, arcount, questions_end, records, sections, malformed}
use Rattle.message.specs.Grammar.{Name, Question, ARecord, Several, Header, WellFormed, SixExactlyWhen, Said, is_root, saying_of, sayings, questions_in, sayings_before, sayings_additional, said, ListedAreThese, AtEveryPlace}
use Rattle.message.specs.Grammar.Name.{zero_byte, pointer, label}
use Rattle.message.specs.Grammar.Question.{question}
use Rattle.message.specs.Grammar.ARecord.{arecord}
use Rattle.message.specs.Grammar.Several.{nothing, more}
use Rattle.message.specs.Grammar.Header.{header}
use Rattle.message.specs.Grammar.WellFormed.{message}
use Rattle.message.specs.declared.Record.{Record}
use Rattle.message.proofs.NameLaws.{labels_zero, labels_long, labels_go, ends_zero, ends_pointer, name_is}

-- ---- names

not_empty : (p : List ℕ) → Name p → 1 ≤ length p
not_empty p zero_byte = omega arith
not_empty p (pointer high low h) = omega arith
not_empty p (label n text rest l m e q) = omega arith

module _ (s : List ℕ) where
  -- a byte that is not 0 is there
  there : (at : ℕ) → 1 ≤ get_or s at 0 → at < length s
  there at positive =
      elim (dec_lt at (length s)) [
        | yes l ↦ l
        | no m ↦ let z : get_or s at 0 ≡ 0 = get_or-eq_default s 0 (omega arith) in absurd (omega (arith, z))
      ]

  root_here : (t : ℕ) → get_or s t 0 ≡ 0 → t + 1 ≤ length s → Standing Name s t (t + 1)
  root_here t z l = record { part = 0 ∷ []; stands = rw z at (byte s t (omega arith)); holds = zero_byte }

  pointer_here : (t : ℕ) → 192 ≤ get_or s t 0 → t + 2 ≤ length s → Standing Name s t (t + 2)
  pointer_here t high l =
      let two : t + 1 + 1 ≡ t + 2 = omega arith in
      record {
        part = get_or s t 0 ∷ get_or s (t + 1) 0 ∷ [];
        stands = join (byte s t (omega arith)) (rw two at (byte s (t + 1) (omega arith)));
        holds = pointer (get_or s t 0) (get_or s (t + 1) 0) high;
      }

  module _ (end : ℕ) where
    last_here : (t : ℕ) → terminator s t ≡ some end → Standing Name s t end
    unfolding terminator
    last_here t h = go (eqb (get_or s t 0) 0) refl (leb 192 (get_or s t 0)) refl h
      where
        go : (z : Bool) → eqb (get_or s t 0) 0 ≡ z → (p : Bool) → leb 192 (get_or s t 0) ≡ p
            → cond z (within s (t + 1)) (cond p (within s (t + 2)) none) ≡ some end → Standing Name s t end
        go true is_zero p k f =
            let w = test_told (t + 1) (length s) (t + 1) end f in
            rw w.1 at (root_here t (eqb-true (get_or s t 0) 0 is_zero) w.0)
        go false k true high f =
            let w = test_told (t + 2) (length s) (t + 2) end f in
            rw w.1 at (pointer_here t (leb-true 192 (get_or s t 0) high) w.0)
        go false k false q f = absurd (none-ne-some end f)

    -- a label before a name
    label_here : (at : ℕ) → is_label s at ≡ true → Standing Name s (at + 1 + get_or s at 0) end → Standing Name s at end
    label_here at is-label rest =
        let n = get_or s at 0 in
        let bounds = both_true (leb 1 n) (leb n 63) is-label in
        let low : 1 ≤ n = leb-true 1 n bounds.0 in
        let some_left : 1 ≤ length rest.part = not_empty rest.part rest.holds in
        let fits = filled s (at + 1 + n) end rest.part rest.stands some_left in
        let text = bytes s (at + 1) n (at + 1 + n) refl (omega (arith, fits, rest.stands.ends)) in
        record {
          part = n ∷ text.part ++ rest.part;
          stands = join (join (byte s at (there at low)) text.stands) rest.stands;
          holds = label n text.part rest.part low (leb-true n 63 bounds.1) text.holds rest.holds;
        }

    by_turns : (turns : ℕ) (at : ℕ) → terminator s (past_labels turns s at) ≡ some end → Standing Name s at end
    unfolding past_labels
    by_turns zero at h = last_here at h
    by_turns (suc turns) at h = go (is_label s at) refl h (by_turns turns (at + 1 + get_or s at 0))
      where
        go : (b : Bool) → is_label s at ≡ b → terminator s (cond b (past_labels turns s (at + 1 + get_or s at 0)) at) ≡ some end
            → (terminator s (past_labels turns s (at + 1 + get_or s at 0)) ≡ some end → Standing Name s (at + 1 + get_or s at 0) end) → Standing Name s at end
        go true is-label f ih = label_here at is-label (ih f)
        go false k f ih = last_here at f

    name_spans : (at : ℕ) → name_end s at ≡ some end → Standing Name s at end
    unfolding name_end labels_end
    name_spans at h = by_turns (length s) at h

  -- past one label
  name_next : (at : ℕ) → 1 ≤ get_or s at 0 → get_or s at 0 ≤ 63 → name_end s at ≡ name_end s (at + 1 + get_or s at 0)
  unfolding name_end
  name_next at low high = ap (terminator s) (sym (labels_go s at at refl (λ z. omega (arith, z)) high))

  name_found : (name : List ℕ) → Name name → (at end : ℕ) → Stands s at end name → name_end s at ≡ some end
  name_found name zero_byte at end w =
      let z = first_byte s at end 0 [] w in
      let fits = filled s at end name w (omega arith) in
      sym (rw w.ends (name_is s at at (some (at + 1)) (labels_zero s at at refl z) (ends_zero s at (omega (arith, fits, w.ends)) z)))
  name_found name (pointer high low m) at end w =
      let b = first_byte s at end high (low ∷ []) w in
      let fits = filled s at end name w (omega arith) in
      let two = ends_pointer s at (λ z. omega (arith, b, z)) (omega (arith, b)) (omega (arith, fits, w.ends)) in
      sym (rw w.ends (name_is s at at (some (at + 2)) (labels_long s at at refl (omega (arith, b))) two))
  name_found name (label n text rest low high long q) at end w =
      let b = first_byte s at end n (text ++ rest) w in
      let next : at + suc (length text) ≡ at + 1 + get_or s at 0 = omega (arith, b, long) in
      name_next at (omega (arith, b)) (omega (arith, b))
      ∙ name_found rest q (at + 1 + get_or s at 0) end (rw next at (right s at end (n ∷ text) rest w))

-- ---- questions and records

module _ (s : List ℕ) (at : ℕ) where
  question_here : {m : ℕ} → Standing Name s at m → Standing (Bytes 2) s m (m + 2) → Standing (Bytes 2) s (m + 2) (m + 4) → Standing Question s at (m + 4)
  question_here name qtype qclass =
      record {
        part = name.part ++ qtype.part ++ qclass.part;
        stands = join (join name.stands qtype.stands) qclass.stands;
        holds = question name.part qtype.part qclass.part name.holds qtype.holds qclass.holds;
      }

  question_spans : (end : ℕ) → question_end s at ≡ some end → Standing Question s at end
  unfolding question_end
  question_spans end h =
      let told = bind_told (name_end s at) (λ (m : ℕ). within s (m + 4)) end h in
      let m = told.0 in
      let test = test_told (m + 4) (length s) (m + 4) end told.2 in
      let qtype = bytes s m 2 (m + 2) refl (omega (arith, test.0)) in
      let qclass = bytes s (m + 2) 2 (m + 4) (omega arith) test.0 in
      rw test.1 at (question_here (name_spans s m at told.1) qtype qclass)

  question_found : (q : List ℕ) → Question q → (end : ℕ) → Stands s at end q → question_end s at ≡ some end
  unfolding question_end bind
  question_found q (question name qtype qclass named t2 c2) end w =
      let n = left s at (at + length (name ++ qtype)) name qtype (left s at end (name ++ qtype) qclass w) in
      let long : at + length name + 4 ≡ end = omega (arith, w.ends, t2, c2, length-append (name ++ qtype) qclass, length-append name qtype) in
      let fits = filled s at end q w (omega (arith, w.ends, long)) in
      rw (name_found s name named at (at + length name) n, long) (simp (le-leb end (length s) fits))

  record_here : (m size : ℕ) → size ≡ be16_at s (m + 8) → Standing Name s at m → m + 10 + size ≤ length s → Standing ARecord s at (m + 10 + size)
  record_here m size read owner fits =
      let kind = bytes s m 2 (m + 2) refl (omega (arith, fits)) in
      let class = bytes s (m + 2) 2 (m + 4) (omega arith) (omega (arith, fits)) in
      let ttl = bytes s (m + 4) 4 (m + 8) (omega arith) (omega (arith, fits)) in
      let rdlength = bytes s (m + 8) 2 (m + 10) (omega arith) (omega (arith, fits)) in
      let rdata = bytes s (m + 10) size (m + 10 + size) refl fits in
      let size_is = rdata.holds ∙ read ∙ number s (m + 8) (m + 10) rdlength.part rdlength.stands rdlength.holds in
      record {
        part = owner.part ++ kind.part ++ class.part ++ ttl.part ++ rdlength.part ++ rdata.part;
        stands = join (join (join (join (join owner.stands kind.stands) class.stands) ttl.stands) rdlength.stands) rdata.stands;
        holds =
            arecord owner.part kind.part class.part ttl.part rdlength.part rdata.part
            owner.holds kind.holds class.holds ttl.holds rdlength.holds size_is;
      }

  record_spans : (r : Record) → record_at s at ≡ some r → Standing ARecord s at r.end
  unfolding record_at
  record_spans r h =
      let told = bind_told (name_end s at) (λ (m : ℕ). whole s (fields s at m)) r h in
      let m = told.0 in
      let test = test_told (m + 10 + be16_at s (m + 8)) (length s) (fields s at m) r told.2 in
      let end : m + 10 + be16_at s (m + 8) ≡ r.end = ap (λ (q : Record). q.end) test.1 in
      rw end at (record_here m (be16_at s (m + 8)) refl (name_spans s m at told.1) test.0)

  -- an owner that is the single byte 0 is one that starts with it
  root_told : (p : List ℕ) (name : Name p) (end : ℕ) → Stands s at end p → eqb (get_or s at 0) 0 ≡ is_root name
  root_told p zero_byte end w = eq-eqb (get_or s at 0) 0 (first_byte s at end 0 [] w)
  root_told p (pointer high low h) end w =
      let b = first_byte s at end high (low ∷ []) w in
      ne_eqb (get_or s at 0) 0 (λ z. omega (arith, b, z, h))
  root_told p (label n text rest l h e name) end w =
      let b = first_byte s at end n (text ++ rest) w in
      ne_eqb (get_or s at 0) 0 (λ z. omega (arith, b, z, l))

  -- the record that is listed for one of the shape
  record Found (p : List ℕ) (a : ARecord p) (end : ℕ) : Type 0 where
    the : Record
    found : record_at s at ≡ some the
    ends : the.end ≡ end
    says : said s the ≡ saying_of a

  record_found : (p : List ℕ) (a : ARecord p) (end : ℕ) → Stands s at end p → Found p a end
  unfolding record_at bind
  record_found p (arecord owner kind class ttl rdlength rdata named k2 c2 t4 l2 long) end w =
      let p3 = owner ++ kind ++ class in
      let p4 = owner ++ kind ++ class ++ ttl in
      let p5 = owner ++ kind ++ class ++ ttl ++ rdlength in
      let w5 = left s at end p5 rdata w in
      let w4 = left s at _ p4 rdlength w5 in
      let w3 = left s at _ p3 ttl w4 in
      let w2 = left s at _ (owner ++ kind) class w3 in
      let w1 = left s at _ owner kind w2 in
      let m = at + length owner in
      let l4 : at + length p3 ≡ m + 4 = omega (arith, k2, c2, length-append (owner ++ kind) class, length-append owner kind) in
      let l8 : at + length p4 ≡ m + 8 = omega (arith, l4, t4, length-append p3 ttl) in
      let l10 : at + length p5 ≡ m + 10 = omega (arith, l8, l2, length-append p4 rdlength) in
      let size : be16_at s (m + 8) ≡ be_number rdlength = number s (m + 8) _ rdlength (rw l8 at (right s at _ p4 rdlength w5)) l2 in
      let all : m + 10 + be16_at s (m + 8) ≡ end = omega (arith, w.ends, l10, long, size, length-append p5 rdata) in
      let fits = filled s at end p w (omega (arith, w.ends, all)) in
      let n : name_end s at ≡ some m = name_found s owner named at m w1 in
      let second : m + 4 + 1 ≡ m + 5 = omega arith in
      let version = rw second at (byte_in s (m + 4) _ ttl (rw l4 at (right s at _ p3 ttl w4)) 1 (omega (arith, t4))) in
      let data_is = taken s (m + 10) end rdata (rw l10 at (right s at end p5 rdata w)) in
      record {
        the = fields s at m;
        found = rw n (simp (le-leb (m + 10 + be16_at s (m + 8)) (length s) (omega (arith, fits, all))));
        ends = all;
        says = rw (all, root_told owner named m w1, number s m _ kind (right s at _ owner kind w2) k2, version, data_is);
      }

-- ---- so many of them

questions_span : (n : ℕ) (s : List ℕ) (at end : ℕ) → questions_end n s at ≡ some end → Standing (Several Question n) s at end
unfolding questions_end
questions_span zero s at end h =
    let e : at ≡ end = cc h in
    record { part = []; stands = record { here = ap (λ (k : ℕ). drop k s) e; ends = sym e ∙ sym (add-zero at) }; holds = nothing }
questions_span (suc n) s at end h =
    let told = bind_told (question_end s at) (λ (m : ℕ). questions_end n s m) end h in
    let one = question_spans s at told.0 told.1 in
    let rest = questions_span n s told.0 end told.2 in
    record {
      part = one.part ++ rest.part;
      stands = join one.stands rest.stands;
      holds = more n one.part rest.part one.holds rest.holds;
    }

questions_found : (s : List ℕ) (n : ℕ) (q : List ℕ) → Several Question n q → (at end : ℕ) → Stands s at end q → questions_end n s at ≡ some end
unfolding questions_end bind
questions_found s n q nothing at end w = ap (λ (k : ℕ). some k) (sym (w.ends ∙ add-zero at))
questions_found s n q (more k one rest p ps) at end w =
    rw (question_found s at one p (at + length one) (left s at end one rest w)) (questions_found s k rest ps (at + length one) end (right s at end one rest w))

-- records, to the message's end
records_span : (n : ℕ) (s : List ℕ) (at : ℕ) (rs : List Record) → records n s at ≡ some rs → (at ≤ length s) × Several ARecord n (drop at s)
unfolding records
records_span zero s at rs h = go (eqb at (length s)) refl h
  where
    go : (t : Bool) → eqb at (length s) ≡ t → cond t (some []) none ≡ some rs → (at ≤ length s) × Several ARecord 0 (drop at s)
    go true p q =
        let e = eqb-true at (length s) p in
        (omega (arith, e), rw (e, drop-length s) nothing)
    go false p q = absurd (none-ne-some rs q)
records_span (suc n) s at rs h =
    let told = bind_told (record_at s at) (λ (r : Record). bind (records n s r.end) (λ (rest : List Record). some (r ∷ rest))) rs h in
    let r = told.0 in
    let told-rest = bind_told (records n s r.end) (λ (rest : List Record). some (r ∷ rest)) rs told.2 in
    let one = record_spans s at r told.1 in
    let rest = records_span n s r.end told-rest.0 told-rest.1 in
    (omega (arith, one.stands.ends, rest.0), rw one.stands.here (more n one.part (drop r.end s) one.holds rest.1))

-- what the definitions list from a place on
record Run (s : List ℕ) (at n : ℕ) (say : List Said) : Type 0 where
  list : List Record
  found : records n s at ≡ some list
  says : map (said s) list ≡ say

run_end : (s : List ℕ) → Run s (length s) 0 []
unfolding records
run_end s = record { list = []; found = rw (eq-eqb (length s) (length s) refl); says = refl }

-- records before what is listed from their end on
run_more : (s : List ℕ) (n : ℕ) (p : List ℕ) (v : Several ARecord n p) (at end m : ℕ) (later : List Said) → Stands s at end p → Run s end m later
    → Run s at (n + m) (sayings v ++ later)
unfolding records bind
run_more s n p nothing at end m later w run =
    let same : end ≡ at = w.ends ∙ add-zero at in
    rw (zero-add m, ← same) run
run_more s n p (more k one rest r rs) at end m later w run =
    let here = record_found s at one r (at + length one) (left s at end one rest w) in
    let after = run_more s k rest rs (at + length one) end m later (right s at end one rest w) run in
    record {
      list = here.the ∷ after.list;
      found = rw (suc-add k m, here.found, here.ends, after.found);
      says = rw (here.says, after.says);
    }

-- one run of records as two
module _ (P : List ℕ → Type 0) where
  record Apart (n m : ℕ) (all : List ℕ) : Type 0 where
    front : List ℕ
    back : List ℕ
    made_of : all ≡ front ++ back
    in_front : Several P n front
    in_back : Several P m back

  apart : (n m : ℕ) (all : List ℕ) → Several P (n + m) all → Apart n m all
  apart zero m all h = record { front = []; back = all; made_of = refl; in_front = nothing; in_back = rw (zero-add m) at h }
  apart (suc n) m all h = go all (rw (suc-add n m) at h) (apart n m)
    where
      go : (l : List ℕ) → Several P (suc (n + m)) l → ((r : List ℕ) → Several P (n + m) r → Apart n m r) → Apart (suc n) m l
      go l (more k one rest x xs) ih =
          let a = ih rest xs in
          record {
            front = one ++ a.front;
            back = a.back;
            made_of = ap (λ (r : List ℕ). one ++ r) a.made_of ∙ sym (append_assoc one a.front a.back);
            in_front = more n one a.front x a.in_front;
            in_back = a.in_back;
          }

-- ---- the whole

header_spans : (s : List ℕ) → 12 ≤ length s → Standing (Header (qdcount s) (ancount s) (nscount s) (arcount s)) s 0 12
header_spans s l =
    let id = bytes s 0 2 2 refl (omega (arith, l)) in
    let flags = bytes s 2 2 4 refl (omega (arith, l)) in
    let qd = bytes s 4 2 6 refl (omega (arith, l)) in
    let an = bytes s 6 2 8 refl (omega (arith, l)) in
    let ns = bytes s 8 2 10 refl (omega (arith, l)) in
    let ar = bytes s 10 2 12 refl (omega (arith, l)) in
    record {
      part = id.part ++ flags.part ++ qd.part ++ an.part ++ ns.part ++ ar.part;
      stands = join (join (join (join (join id.stands flags.stands) qd.stands) an.stands) ns.stands) ar.stands;
      holds =
          rw (
            number s 4 6 qd.part qd.stands qd.holds,
            number s 6 8 an.part an.stands an.holds,
            number s 8 10 ns.part ns.stands ns.holds,
            number s 10 12 ar.part ar.stands ar.holds,
          )
          (header id.part flags.part qd.part an.part ns.part ar.part id.holds flags.holds qd.holds an.holds ns.holds ar.holds);
    }

-- what is read of a header of the shape
record Counts (s : List ℕ) (end qd an ns ar : ℕ) : Type 0 where
  twelve : end ≡ 12
  questions : qdcount s ≡ qd
  answers : ancount s ≡ an
  authority : nscount s ≡ ns
  additional : arcount s ≡ ar

longer : (p x : List ℕ) (k : ℕ) → length p ≡ k → length x ≡ 2 → length (p ++ x) ≡ k + 2
longer p x k pk x2 = length-append p x ∙ omega (arith, pk, x2)

-- a number of the header, behind those before it
count_here : (s : List ℕ) (end : ℕ) (p x : List ℕ) → Stands s 0 end (p ++ x) → (k : ℕ) → length p ≡ k → length x ≡ 2 → be16_at s k ≡ be_number x
count_here s end p x w k pk x2 =
    let place : 0 + length p ≡ k = omega (arith, pk) in
    number s k end x (rw place at (right s 0 end p x w)) x2

header_found : (s : List ℕ) (qd an ns ar : ℕ) (head : List ℕ) → Header qd an ns ar head → (end : ℕ) → Stands s 0 end head → Counts s end qd an ns ar
header_found s qd an ns ar head (header id flags q a n r id2 flags2 q2 a2 n2 r2) end w =
    let l4 = longer id flags 2 id2 flags2 in
    let l6 = longer (id ++ flags) q 4 l4 q2 in
    let l8 = longer (id ++ flags ++ q) a 6 l6 a2 in
    let l10 = longer (id ++ flags ++ q ++ a) n 8 l8 n2 in
    let l12 = longer (id ++ flags ++ q ++ a ++ n) r 10 l10 r2 in
    let w10 = left s 0 end (id ++ flags ++ q ++ a ++ n) r w in
    let w8 = left s 0 _ (id ++ flags ++ q ++ a) n w10 in
    let w6 = left s 0 _ (id ++ flags ++ q) a w8 in
    record {
      twelve = w.ends ∙ omega (arith, l12);
      questions = count_here s _ (id ++ flags) q w6 4 l4 q2;
      answers = count_here s _ (id ++ flags ++ q) a w8 6 l6 a2;
      authority = count_here s _ (id ++ flags ++ q ++ a) n w10 8 l8 n2;
      additional = count_here s end (id ++ flags ++ q ++ a ++ n) r w 10 l10 r2;
    }

-- the message's brackets
regroup : (front a b c : List ℕ) → front ++ (a ++ b ++ c) ≡ front ++ a ++ b ++ c
regroup front a b c = sym (append_assoc front (a ++ b) c) ∙ ap (λ (l : List ℕ). l ++ c) (sym (append_assoc front a b))

module _ (s : List ℕ) where
  abbrev Head : List ℕ → Type 0
  Head = Header (qdcount s) (ancount s) (nscount s) (arcount s)

  gathered : (m : ℕ) → Standing Head s 0 12 → Standing (Several Question (qdcount s)) s 12 m
      → (last : Apart ARecord (ancount s + nscount s) (arcount s) (drop m s)) → Apart ARecord (ancount s) (nscount s) last.front → WellFormed s
  gathered m head questions last firsts =
      let front = head.part ++ questions.part in
      let cut : s ≡ front ++ drop m s = (join head.stands questions.stands).here in
      let run : drop m s ≡ firsts.front ++ firsts.back ++ last.back = last.made_of ∙ ap (λ (l : List ℕ). l ++ last.back) firsts.made_of in
      let all = cut ∙ ap (λ (l : List ℕ). front ++ l) run ∙ regroup front firsts.front firsts.back last.back in
      subst WellFormed (sym all)
      (message (qdcount s) (ancount s) (nscount s) (arcount s) head.part questions.part firsts.front firsts.back last.back
      head.holds questions.holds firsts.in_front firsts.in_back last.in_back)

  split : (m : ℕ) (rs : List Record) → questions_end (qdcount s) s 12 ≡ some m → records (ancount s + nscount s + arcount s) s m ≡ some rs → WellFormed s
  split m rs asked listed =
      let questions = questions_span (qdcount s) s 12 m asked in
      let run = records_span (ancount s + nscount s + arcount s) s m rs listed in
      let last = apart ARecord (ancount s + nscount s) (arcount s) (drop m s) run.1 in
      let firsts = apart ARecord (ancount s) (nscount s) last.front last.in_front in
      gathered m (header_spans s (omega (arith, run.0, questions.stands.ends))) questions last firsts

  well_formed : malformed s ≡ false → WellFormed s
  unfolding sections
  well_formed h =
      let got = is_some (sections s) h in
      let told = bind_told (questions_end (qdcount s) s 12) (λ (at : ℕ). records (ancount s + nscount s + arcount s) s at) got.0 got.1 in
      split told.0 got.0 told.1 told.2

count_sayings : (n : ℕ) (p : List ℕ) (v : Several ARecord n p) → length (sayings v) ≡ n
count_sayings n p nothing = refl
count_sayings n p (more k one rest r rs) = ap suc (count_sayings k rest rs)

-- the three sections one behind the other
three_runs : (s : List ℕ) (an ns ar : ℕ) (answers authority additional : List ℕ) (a : Several ARecord an answers) (u : Several ARecord ns authority)
    (d : Several ARecord ar additional) (at m n : ℕ) → Stands s at m answers → Stands s m n authority → Stands s n (length s) additional
    → Run s at (an + ns + ar) (sayings a ++ sayings u ++ sayings d)
three_runs s an ns ar answers authority additional a u d at m n first second third =
    let run3 = run_more s ar additional d n (length s) 0 [] third (run_end s) in
    let run2 = run_more s ns authority u m n (ar + 0) (sayings d ++ []) second run3 in
    let run1 = run_more s an answers a at m (ns + (ar + 0)) (sayings u ++ (sayings d ++ [])) first run2 in
    let sum : an + (ns + (ar + 0)) ≡ an + ns + ar = omega arith in
    rw (sum, append-nil (sayings d), ← append_assoc (sayings a) (sayings u) (sayings d)) at run1

record All (s : List ℕ) (w : WellFormed s) : Type 0 where
  list : List Record
  found : sections s ≡ some list
  says : map (said s) list ≡ sayings_before w ++ sayings_additional w
  before : ancount s + nscount s ≡ length (sayings_before w)
  asked : qdcount s ≡ questions_in w

all_found : (s : List ℕ) (w : WellFormed s) → All s w
unfolding sections bind
all_found s (message qd an ns ar head questions answers authority additional h q a u d) =
    let p2 = head ++ questions in
    let p3 = head ++ questions ++ answers in
    let p4 = head ++ questions ++ answers ++ authority in
    let w4 = left s 0 (length s) p4 additional (all_stands s) in
    let w3 = left s 0 _ p3 authority w4 in
    let w2 = left s 0 _ p2 answers w3 in
    let counts = header_found s qd an ns ar head h _ (left s 0 _ head questions w2) in
    let asked = questions_found s qd questions q 12 _ (rw counts.twelve at (right s 0 _ head questions w2)) in
    let w5 = right s 0 (length s) p4 additional (all_stands s) in
    let run = three_runs s an ns ar answers authority additional a u d _ _ _ (right s 0 _ p2 answers w3) (right s 0 _ p3 authority w4) w5 in
    record {
      list = run.list;
      found = rw (counts.questions, counts.answers, counts.authority, counts.additional, asked) run.found;
      says = run.says;
      before = omega (arith, counts.answers, counts.authority, count_sayings an answers a, count_sayings ns authority u, length-append (sayings a) (sayings u));
      asked = counts.questions;
    }

pub six_exactly_when : SixExactlyWhen
six_exactly_when s = (well_formed s, λ w. ap is_none (all_found s w).found)

pub listed_are_these : ListedAreThese
listed_are_these s w = let all = all_found s w in record { say = rw all.found all.says; before = all.before; asked = all.asked }

-- ---- at every place

pub at_every_place : AtEveryPlace
at_every_place s at end =
    record {
      name = (name_spans s end at, λ x. name_found s x.part x.holds at end x.stands);
      asked_there = (question_spans s at end, λ x. question_found s at x.part x.holds end x.stands);
      found_stands = record_spans s at;
      standing_found = λ x. let f = record_found s at x.part x.holds end x.stands in (f.the, f.found, f.ends, f.says);
    }
