-- Theorem 2 of the meaning: the answer that is computed is the one that `Answers` relates to the edition and the bytes, and there is no other.
-- Each step of the computation is one case. Assumes nothing.
use Prim.Native.Nat.{ℕ, ◌≤◌, ◌<◌}
use native.Mathlib.Omega.{arith}
use mathlib.Core.Logic.{◌↔◌}
use mathlib.Core.Path.{◌≡◌, refl, sym, ap, subst, ◌∙◌}
use mathlib.Core.Bool.{Bool, true, false, not, ◌&&◌, false≢true}
use mathlib.Core.List.{List, [], ◌∷◌, ◌++◌}
use lib.Dec.{eqb, ltb, leb}
use lib.ListN.{length, take, drop, length-append, length-drop, take-append-drop}
use lib.Seq.{take_at, take_all, length-take-le}
use borrow.Author.Tests.{ltb-true, ltb-false, leb-true, leb-false}
use Rattle.der.specs.steps.Nest.{Nest, End, Fault}
use Rattle.der.specs.meaning.Bounds.{depth, longest}
use Rattle.der.specs.meaning.Octets.{Octets}
use Rattle.der.specs.meaning.Refusal.{accepted as acceptance, trailing_bytes, not_in_grammar, other_edition, long_cert_req_id, too_long_number, unknown_edition_number}
use Rattle.der.specs.meaning.Tree.{WellFormed, Single, encode}
use Rattle.der.specs.steps.Explain.{walk_at}
use Rattle.der.specs.steps.Reading.{tree}
use Rattle.der.proofs.Laws.{exact, Checked, walk_tree, walk_fault, first_number}
use Rattle.crmf.specs.steps.explain.Tally.{Tally}
use Rattle.crmf.specs.steps.explain.Walk.{Walked, Passed, Broken}
use Rattle.crmf.specs.meaning.Edition.{Edition}
use Rattle.crmf.specs.meaning.Notation.{Top}
use Rattle.crmf.specs.meaning.Rows.{Row, batch_rows, all_short, FirstLongId}
use Rattle.crmf.specs.steps.explain.LongIds.{first_long}
use Rattle.crmf.specs.steps.explain.Walk.{empty_tally}
use Rattle.crmf.proofs.Laws.{read_back, long_none, long_exactly, short_none, stops_exactly}
use Rattle.editions.specs.meaning.Answer.{Answer}
use Rattle.editions.specs.meaning.Edition.{opposite}
use Rattle.editions.specs.meaning.Membership.{InGrammar}
use Rattle.editions.specs.meaning.Answers.{ReadingStops, ShortIds, Answers, unknown, long, fault, trailing, neither, other, long_id, accept, Reason, nest, grammar}
use Rattle.editions.specs.steps.Reading.{refusal, accepted, own_walk, walk_passes, eight_or_nine, long_id_or_accepted, answer}
use Rattle.editions.proofs.theorems.Answers.{no_edition, in_range, too_long, nest_fault, bytes_after, one_element}
use Rattle.editions.proofs.theorems.OneElement.{OneElement, Late, late_accepted, one_whole}
use Rattle.editions.proofs.theorems.OneWalk.{edition, stops_at}
use Rattle.editions.proofs.theorems.Tables.{not_short}
use Rattle.editions.proofs.theorems.Accepting.{known, encoded_in, encoded_element, nest_rows, in_walks, in_counted, in_accepted, accepted_in_lem, walk_in}
use Rattle.editions.proofs.theorems.Differing.{nine_first, nine_where}

-- a list that isn't empty has a length
length_pos : (l : List ℕ) → (l ≡ [] → ⊥) → 0 < length l
length_pos [] some = absurd (some refl)
length_pos (b ∷ bs) some = omega arith

-- an answer is related to the edition and the bytes
abbrev Related : ℕ → List ℕ → Answer → Type 0
Related e s a = Answers e s a.number a.place a.count

-- a walk doesn't both pass and break
passed_or_broken : {A : Type 0} {w : Walked} {p d : ℕ} {r q : Tally} → w ≡ Passed r → w ≡ Broken p d q → A
passed_or_broken passed breaks = let z : ◌≡◌ {A = ℕ} 0 1 = cc in absurd (omega arith)

-- what is noted of a batch's rows decides between 10 and acceptance
module _ {e : ℕ} (ed : Edition e) (s : List ℕ) (octets : Octets s) (g : InGrammar e s) where
  counted_answer : answer e s ≡ long_id_or_accepted (first_long (0, 0) (batch_rows g.batch)) (length (batch_rows g.batch))
  counted_answer = in_counted s g ed octets ∙ ap (λ (rs : List Row). long_id_or_accepted (first_long (0, 0) rs) (length rs)) (nest_rows s g)

  long_answer : (place : ℕ) → FirstLongId (batch_rows g.batch) place → answer e s ≡ refusal long_cert_req_id place
  long_answer place first =
      let (some, is) = (long_exactly g.batch depth g.formed place).0 first in
      counted_answer ∙ rw (long_id_or_accepted, some) (ap (refusal long_cert_req_id) is)

  short_answer : ShortIds g → answer e s ≡ accepted (length (batch_rows g.batch))
  short_answer none = in_accepted s g ed octets (go (all_short (batch_rows g.batch)) refl)
    where
      go : (b : Bool) → all_short (batch_rows g.batch) ≡ b → all_short (batch_rows g.batch) ≡ true
      go true short = short
      go false some =
          let first = (long_exactly g.batch depth g.formed (first_long (0, 0) (batch_rows g.batch)).1).1 (long_none (batch_rows g.batch) ∙ some, refl) in
          absurd (none _ first.here)

  -- bytes in the grammar have the answer 10 or acceptance
  counted_related : Related e s (answer e s)
  counted_related = go (eqb (first_long (0, 0) (batch_rows g.batch)).0 0) refl
    where
      go : (b : Bool) → eqb (first_long (0, 0) (batch_rows g.batch)).0 0 ≡ b → Related e s (answer e s)
      go true clear =
          let none = short_none (batch_rows g.batch) (sym (long_none (batch_rows g.batch)) ∙ clear) in
          rw (short_answer none) (accept ed g none)
      go false some =
          let first = (long_exactly g.batch depth g.formed (first_long (0, 0) (batch_rows g.batch)).1).1 (some, refl) in
          rw (long_answer _ first) (long_id ed g first)

-- The answer that is computed is related, step by step.
module _ (e : ℕ) (s : List ℕ) (octets : Octets s) where
  -- an answer that equals the computed one is related if the computed one is
  to_answer : (a : Answer) → a ≡ answer e s → Related e s a → Related e s (answer e s)
  to_answer a same = subst (Related e s) same

  module _ (known-test : (not (eqb e 1) && not (eqb e 2)) ≡ false) (short : length s ≤ longest) where
    ed : Edition e
    ed = let range = in_range e s known-test in edition e range.0 range.1

    -- bytes after the first element
    by_trailing : (q : ℕ) → walk_at s 0 (length s) ≡ End q → q < length s → Related e s (answer e s)
    by_trailing q ends more =
        let (within, (t, formed, single, same)) = (exact s q octets short).0 ends in
        let size : length (encode t) ≡ q = ap length same ∙ length-take-le q s within in
        let after_some : drop q s ≡ [] → ⊥ = λ none. omega (arith, length-drop q s, ap length none) in
        let split : s ≡ encode t ++ drop q s = rw same (sym (take-append-drop q s)) in
        to_answer (refusal trailing_bytes q) (bytes_after e s known-test short q ends more)
        (subst (λ (n : ℕ). Answers e s trailing_bytes n 0) size (trailing ed short t (drop q s) formed single split after_some))

    -- one element, which the edition's own walk passes, or which it stops in
    module _ (one : OneElement e s) where
      c : Checked s one.end
      c = (walk_tree s one.end octets one.short).0 one.ends

      all : take one.end s ≡ s
      all = take_all one.end s one.last

      -- where it stops
      stopping : (p d : ℕ) (r : Tally) → own_walk e (tree 0 s) ≡ Broken p d r → ReadingStops e s p d
      stopping p d r breaks = record {
        short = one.short;
        nest = tree 0 s;
        formed = subst (λ (bs : List ℕ). WellFormed depth 0 (tree 0 bs)) all c.formed;
        single = subst (λ (bs : List ℕ). Single (tree 0 bs)) all c.single;
        encoded = subst (λ (bs : List ℕ). encode (tree 0 bs) ≡ bs) all c.encoded;
        stops = (stops_exactly (λ x. eqb x e) empty_tally Top 0 p d (tree 0 s)).0 (r, breaks);
      }

      -- bytes that its own walk stops in are not in its grammar
      unmatched : {f p d : ℕ} {r : Tally} → own_walk f (tree 0 s) ≡ Broken p d r → InGrammar f s → ⊥
      unmatched breaks g = let (u, passed) = in_walks s g in passed_or_broken passed breaks

      by_other : (p d : ℕ) (r : Tally) → own_walk e (tree 0 s) ≡ Broken p d r → (w : Walked) → own_walk (opposite e) (tree 0 s) ≡ w → Related e s (answer e s)
      by_other p d r breaks (Passed u) passed =
          let nine = stops_at e p d r s other_edition breaks (rw passed) ∙ sym one.same in
          let (q, (is, first)) = nine_first ed s octets (ap (λ (a : Answer). a.number) (sym nine)) in
          to_answer (refusal other_edition q) (sym is) (other ed (unmatched breaks) first)
      by_other p d r breaks (Broken q f u) stops =
          to_answer (refusal not_in_grammar p) (stops_at e p d r s not_in_grammar breaks (rw stops) ∙ sym one.same)
          (neither ed (unmatched breaks) (unmatched stops) (stopping p d r breaks))

      by_walk : (w : Walked) → own_walk e (tree 0 s) ≡ w → Related e s (answer e s)
      by_walk (Passed r) passed = counted_related ed s octets (walk_in s octets one r passed)
      by_walk (Broken p d r) breaks = by_other p d r breaks (own_walk (opposite e) (tree 0 s)) refl

    by_end : (q : ℕ) → walk_at s 0 (length s) ≡ End q → (b : Bool) → ltb q (length s) ≡ b → Related e s (answer e s)
    by_end q ends true more = by_trailing q ends (ltb-true q (length s) more)
    by_end q ends false whole =
        let last = ltb-false q (length s) whole in
        let one : OneElement e s = record { edition = ed; short = short; end = q; ends = ends; last = last; same = sym (one_element e s known-test short q ends last) } in
        by_walk one (own_walk e (tree 0 s)) refl

    by_nest : (w : Nest) → walk_at s 0 (length s) ≡ w → Related e s (answer e s)
    by_nest (End q) ends = by_end q ends (ltb q (length s)) refl
    by_nest (Fault n p d) faulty =
        to_answer (refusal n p) (nest_fault e s known-test short n p d faulty) (fault ed short ((walk_fault s octets short n p d).0 faulty))

  by_length : (not (eqb e 1) && not (eqb e 2)) ≡ false → (b : Bool) → leb (length s) longest ≡ b → Related e s (answer e s)
  by_length test true short = by_nest test (leb-true _ _ short) (walk_at s 0 (length s)) refl
  by_length test false over =
      let range = in_range e s test in
      to_answer (refusal too_long_number 0) (too_long e s test (leb-false _ _ over)) (long (edition e range.0 range.1) (leb-false _ _ over))

  -- The answer that is computed is one that `Answers` relates.
  pub answer_related : Answers e s (answer e s).number (answer e s).place (answer e s).count
  answer_related = by_edition (not (eqb e 1) && not (eqb e 2)) refl
    where
      by_edition : (b : Bool) → (not (eqb e 1) && not (eqb e 2)) ≡ b → Related e s (answer e s)
      by_edition true none =
          to_answer (refusal unknown_edition_number 0) (no_edition e s none) (unknown (λ ed. false≢true (sym (known ed) ∙ none)))
      by_edition false test = by_length test (leb (length s) longest) refl

  -- Any answer that it relates is the computed one.
  pub related_answer : (number place count : ℕ) → Answers e s number place count → answer e s ≡ record { number = number; place = place; count = count }
  related_answer number place count (unknown none) = go (not (eqb e 1) && not (eqb e 2)) refl
    where
      go : (b : Bool) → (not (eqb e 1) && not (eqb e 2)) ≡ b → answer e s ≡ refusal unknown_edition_number 0
      go true test = sym (no_edition e s test)
      go false test = let range = in_range e s test in absurd (none (edition e range.0 range.1))
  related_answer number place count (long ed over) = sym (too_long e s (known ed) over)
  related_answer number place count (fault {detail = d} ed short first) = sym (nest_fault e s (known ed) short number place d ((walk_fault s octets short number place d).1 first))
  related_answer number place count (trailing ed short t after formed single split some) =
      let q = length (encode t) in
      let size : q < length s = omega (arith, ap length split, length-append (encode t) after, length_pos after some) in
      let head : encode t ≡ take q s = rw split (sym (take_at (encode t) after q refl)) in
      sym (bytes_after e s (known ed) short q ((exact s q octets short).1 (omega arith, (t, formed, single, head))) size)
  related_answer number place count (neither {detail = d} ed outside outside-too stop) =
      let read = read_back s stop.nest stop.short stop.formed stop.encoded in
      let (r, breaks) = (stops_exactly (λ x. eqb x e) empty_tally Top 0 place d stop.nest).1 stop.stops in
      let own : own_walk e (tree 0 s) ≡ Broken place d r = rw read breaks in
      encoded_element s stop.nest stop.short stop.formed stop.single stop.encoded ed octets
      ∙ sym (stops_at e place d r s not_in_grammar own (ap eight_or_nine (go (own_walk (opposite e) (tree 0 s)) refl)))
    where
      go : (w : Walked) → own_walk (opposite e) (tree 0 s) ≡ w → walk_passes (own_walk (opposite e) (tree 0 s)) ≡ false
      go (Passed u) passed = absurd (outside-too (encoded_in s stop.nest stop.short stop.formed stop.single stop.encoded u passed))
      go (Broken p d u) stops = rw stops
  related_answer number place count (other ed outside first) =
      let nine = nine_where ed s [] octets place first.here in
      let same = not_short e s [] (λ zero. omega (arith, nine)) (λ eleven. omega (arith, nine)) in
      let (q, (is, found)) = nine_first ed s octets (ap (λ (a : Answer). a.number) (sym same) ∙ nine) in
      let here : q ≡ place = omega (arith, found.least place first.here, first.least q found.here) in
      is ∙ ap (refusal other_edition) here
  related_answer number place count (long_id ed g first) = long_answer ed s octets g place first
  related_answer number place count (accept ed g none) = short_answer ed s octets g none

  -- Theorem 2: the answer is exactly the one that `Answers` relates.
  pub answers_exactly : (number place count : ℕ) → Answers e s number place count ↔ (answer e s ≡ record { number = number; place = place; count = count })
  answers_exactly number place count = (
    related_answer number place count,
    λ same. subst (Related e s) same answer_related,
  )

  -- There is exactly one.
  pub answers_once : (n p c n' p' c' : ℕ) → Answers e s n p c → Answers e s n' p' c' → (n ≡ n') × (p ≡ p') × (c ≡ c')
  answers_once n p c n' p' c' one two =
      let same = sym (related_answer n p c one) ∙ related_answer n' p' c' two in
      (ap (λ (a : Answer). a.number) same, ap (λ (a : Answer). a.place) same, ap (λ (a : Answer). a.count) same)

  -- so an answer that equals it is related
  pub equal_related : (a : Answer) → a ≡ answer e s → Answers e s a.number a.place a.count
  equal_related a same = subst (Related e s) (sym same) answer_related

-- What an acceptance says: the edition is known, and the bytes are in its grammar, with so many rows and no long certReqId.
pub record Shows (e : ℕ) (s : List ℕ) (count : ℕ) : Type 0 where
  pub edition : Edition e
  pub within : InGrammar e s
  pub short : ShortIds within
  pub counted : length (batch_rows within.batch) ≡ count

-- An answer with the number 0 is one.
pub acceptance_shows : {e : ℕ} {s : List ℕ} {number place count : ℕ} → Answers e s number place count → number ≡ acceptance → Shows e s count
acceptance_shows (unknown none) zero = absurd (omega (arith, zero))
acceptance_shows (long known_edition past) zero = absurd (omega (arith, zero))
acceptance_shows {s = s} (fault {number} {place} {detail} known_edition short first) zero = absurd (omega (arith, (first_number s number place detail first).0, zero))
acceptance_shows (trailing known_edition short t after formed single same some) zero = absurd (omega (arith, zero))
acceptance_shows (neither known_edition outside outside-too stops) zero = absurd (omega (arith, zero))
acceptance_shows (other known_edition outside first) zero = absurd (omega (arith, zero))
acceptance_shows (long_id known_edition g first) zero = absurd (omega (arith, zero))
acceptance_shows (accept known_edition g short) zero = record { edition = known_edition; within = g; short = short; counted = refl }

-- The numbers that come back without a table are at most 13.
pub related_number : {e : ℕ} {s : List ℕ} {number place count : ℕ} → Answers e s number place count → number ≤ unknown_edition_number
related_number (unknown none) = omega arith
related_number (long known_edition past) = omega arith
related_number {s = s} (fault {number} {place} {detail} known_edition short first) = omega (arith, first_number s number place detail first)
related_number (trailing known_edition short t after formed single same some) = omega arith
related_number (neither known_edition outside outside-too stops) = omega arith
related_number (other known_edition outside first) = omega arith
related_number (long_id known_edition g first) = omega arith
related_number (accept known_edition g short) = omega arith

-- An acceptance comes from bytes in the grammar, with the count of their rows.
pub accepted_related : (e : ℕ) (s : List ℕ) → Octets s → (answer e s).number ≡ acceptance
    → (g : InGrammar e s) × Answers e s acceptance 0 (length (batch_rows g.batch))
accepted_related e s octets zero =
    let (g, fit) = accepted_in_lem e s octets zero in
    (g, accept (one_whole e s octets (late_accepted zero)).edition g (short_none (batch_rows g.batch) fit))

-- the reason of a refusal by the nest or the grammar, as the walks compute it
unfoldable pub reason_of : ℕ → List ℕ → ℕ × ℕ × ℕ
reason_of e s =
    elim (walk_at s 0 (length s)) [
      | Fault n p d ↦ (n, p, d)
      | End q ↦ elim (own_walk e (tree 0 s)) [ Broken p d r ↦ (not_in_grammar, p, d) | Passed r ↦ (acceptance, 0, 0) ]
    ]

-- It is one that `Reason` relates.
pub reason_related : (e : ℕ) (s : List ℕ) → Octets s → length s ≤ longest → (n p d : ℕ) → (answer e s).number ≡ n → 0 < n → reason_of e s ≡ (n, p, d) → Reason e s n p d
unfolding reason_of
reason_related e s octets short n p d answered some is = by_nest_answer (walk_at s 0 (length s)) refl is
  where
    computed : Nest → ℕ × ℕ × ℕ
    computed w = elim w [
      | Fault n p d ↦ (n, p, d)
      | End q ↦ elim (own_walk e (tree 0 s)) [ Broken p d r ↦ (not_in_grammar, p, d) | Passed r ↦ (acceptance, 0, 0) ]
    ]

    number : {a b c x y z : ℕ} → ◌≡◌ {A = ℕ × ℕ × ℕ} (a, b, c) (x, y, z) → a ≡ x
    number same = ap (λ (t : ℕ × ℕ × ℕ). t.0) same

    place : {a b c x y z : ℕ} → ◌≡◌ {A = ℕ × ℕ × ℕ} (a, b, c) (x, y, z) → b ≡ y
    place same = ap (λ (t : ℕ × ℕ × ℕ). t.1) same

    detail : {a b c x y z : ℕ} → ◌≡◌ {A = ℕ × ℕ × ℕ} (a, b, c) (x, y, z) → c ≡ z
    detail same = ap (λ (t : ℕ × ℕ × ℕ). t.2) same

    by_own : (w : Walked) → own_walk e (tree 0 s) ≡ w
        → ◌≡◌ {A = ℕ × ℕ × ℕ} (elim w [ Broken p d r ↦ (not_in_grammar, p, d) | Passed r ↦ (acceptance, 0, 0) ]) (n, p, d) → Reason e s n p d
    by_own (Passed r) passed same = absurd (omega (arith, number same))
    by_own (Broken q f r) breaks same =
        let late : Late (answer e s).number = (λ thirteen. omega (arith, number same), λ low. omega (arith, number same)) in
        let one = one_whole e s octets late in
        let stop = stopping e s octets (known one.edition) one.short one q f r breaks in
        subst (λ (x : ℕ). Reason e s x p d) (number same)
        (subst (λ (x : ℕ). Reason e s not_in_grammar x d) (place same) (subst (Reason e s not_in_grammar q) (detail same) (grammar stop)))

    by_nest_answer : (w : Nest) → walk_at s 0 (length s) ≡ w → computed w ≡ (n, p, d) → Reason e s n p d
    by_nest_answer (Fault x y z) faulty same =
        let first = (walk_fault s octets short x y z).0 faulty in
        subst (λ (k : ℕ). Reason e s k p d) (number same)
        (subst (λ (k : ℕ). Reason e s x k d) (place same) (subst (Reason e s x y) (detail same) (nest first)))
    by_nest_answer (End q) ends same = by_own (own_walk e (tree 0 s)) refl same
