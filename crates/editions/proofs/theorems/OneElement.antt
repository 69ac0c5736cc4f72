-- An answer that is neither 13 nor one of 1 to 7 comes from bytes that are one element, with nothing after it. Assumes nothing.
use Prim.Native.Nat.{ℕ, ◌≤◌}
use native.Mathlib.Omega.{arith}
use mathlib.Core.Path.{◌≡◌, refl, sym, ap}
use mathlib.Core.Bool.{Bool, true, false, not, ◌&&◌}
use mathlib.Core.List.{List}
use lib.Dec.{eqb, ltb, leb}
use lib.ListN.{length}
use borrow.Author.Tests.{ltb-true, ltb-false, leb-true, leb-false}
use Rattle.der.specs.steps.Nest.{Nest, End, Fault}
use Rattle.der.specs.meaning.Octets.{Octets}
use Rattle.der.specs.meaning.Bounds.{longest}
use Rattle.der.specs.steps.Explain.{walk_at}
use Rattle.der.proofs.Laws.{fault_number}
use Rattle.crmf.proofs.Laws.{Edition}
use Rattle.editions.specs.meaning.Answer.{Answer}
use Rattle.editions.specs.steps.Reading.{batch_answer, answer}
use Rattle.editions.proofs.theorems.Answers.{no_edition, in_range, too_long, nest_fault, bytes_after, one_element}
use Rattle.editions.proofs.theorems.OneWalk.{edition}

-- the bytes are one element, and the answer is the grammar's
pub record OneElement (e : ℕ) (s : List ℕ) : Type 0 where
  pub edition : Edition e
  pub short : length s ≤ longest
  pub end : ℕ
  pub ends : walk_at s 0 (length s) ≡ End end
  pub last : length s ≤ end
  pub same : answer e s ≡ batch_answer e s

-- a number that belongs to no refusal before those of the grammar
abbrev pub Late : ℕ → Type 0
Late n = (n ≡ 13 → ⊥) × (1 ≤ n → 8 ≤ n)

pub late_accepted : {n : ℕ} → n ≡ 0 → Late n
late_accepted zero = (λ thirteen. omega arith, λ low. absurd (omega arith))

pub late_nine : {n : ℕ} → n ≡ 9 → Late n
late_nine nine = (λ thirteen. omega arith, λ low. omega arith)

module _ (e : ℕ) (s : List ℕ) (octets : Octets s) (late : Late (answer e s).number) where
  number : {a : Answer} → a ≡ answer e s → (answer e s).number ≡ a.number
  number is = sym (ap (λ (x : Answer). x.number) is)

  module _ (known : (not (eqb e 1) && not (eqb e 2)) ≡ false) (short : length s ≤ longest) where
    by_end : (q : ℕ) → walk_at s 0 (length s) ≡ End q → (b : Bool) → ltb q (length s) ≡ b → OneElement e s
    by_end q ends true more = let seven = number (bytes_after e s known short q ends (ltb-true _ _ more)) in absurd (omega (arith, late.1 (omega arith)))
    by_end q ends false whole =
        let last = ltb-false q (length s) whole in
        let range = in_range e s known in
        record {
          edition = edition e range.0 range.1;
          short = short;
          end = q;
          ends = ends;
          last = last;
          same = sym (one_element e s known short q ends last);
        }

    by_nest : (w : Nest) → walk_at s 0 (length s) ≡ w → OneElement e s
    by_nest (End q) ends = by_end q ends (ltb q (length s)) refl
    by_nest (Fault n p d) faulty =
        let some = fault_number s octets short n p d faulty in
        let early = number (nest_fault e s known short n p d faulty) in
        absurd (omega (arith, late.1 (omega arith)))

  by_length : (not (eqb e 1) && not (eqb e 2)) ≡ false → (b : Bool) → leb (length s) longest ≡ b → OneElement e s
  by_length known true short = by_nest known (leb-true _ _ short) (walk_at s 0 (length s)) refl
  by_length known false long = let one = number (too_long e s known (leb-false _ _ long)) in absurd (omega (arith, late.1 (omega arith)))

  by_edition : (b : Bool) → (not (eqb e 1) && not (eqb e 2)) ≡ b → OneElement e s
  by_edition true none = absurd (late.0 (number (no_edition e s none)))
  by_edition false known = by_length known (leb (length s) longest) refl

  pub one_whole : OneElement e s
  one_whole = by_edition (not (eqb e 1) && not (eqb e 2)) refl
