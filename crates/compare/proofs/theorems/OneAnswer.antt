-- Comparing has one answer, and one list afterwards, for every input, and so has finding an entry's part; a refusal leaves the list as it was, and
-- has an empty part. Assumes nothing.
use Prim.Native.Nat.{ℕ, ◌*◌}
use native.Mathlib.Omega.{arith}
use mathlib.Core.Path.{◌≡◌, refl, sym, ap, ap₂, subst, ◌∙◌}
use mathlib.Core.List.{List, ◌++◌}
use mathlib.Core.Option.{some-injective}
use lib.IntN.{ℤ}
use lib.ListN.{length, drop, get_elem?}
use Rattle.der.specs.meaning.Octets.{Octets}
use Rattle.der.specs.meaning.Refusal.{accepted}
use Rattle.crmf.specs.meaning.Rows.{Row}
use Rattle.editions.specs.meaning.TwoBatches.{Accepted}
use Rattle.editions.proofs.Laws.{answers_once, not_refused, nest_rows}
use Rattle.compare.specs.meaning.Changes.{Change, Changes, Later, entry_numbers, entries}
use Rattle.compare.specs.meaning.Compares.{rows_of, Between, later_in, Compares, first_refused, second_refused, no_room, listed}
use Rattle.compare.specs.meaning.Times.{seconds_later}
use Rattle.compare.specs.meaning.Parts.{part_file, part_row, Finds, past, found}
use Rattle.compare.specs.meaning.Parts as parts
use Rattle.compare.proofs.theorems.Gathering.{the_entry}
use Rattle.compare.proofs.theorems.OneList.{changes_once}

-- Two answers, each with a number, a place, a file, a count and a list afterwards, are the same.
pub record Same (n p f c n' p' f' c' : ℕ) (new new' : List ℤ) : Type 0 where
  pub number : n ≡ n'
  pub place : p ≡ p'
  pub file : f ≡ f'
  pub count : c ≡ c'
  pub output : new ≡ new'

-- So are two that have a part's first byte and length instead.
pub record SamePart (n p f from size n' p' f' from' size' : ℕ) : Type 0 where
  pub number : n ≡ n'
  pub place : p ≡ p'
  pub file : f ≡ f'
  pub starts : from ≡ from'
  pub long : size ≡ size'

-- an accepted batch has one list of rows
same_rows : {e : ℕ} {s : List ℕ} (one one' : Accepted e s) → rows_of one ≡ rows_of one'
same_rows {s = s} one one' = sym (nest_rows s one.batch) ∙ nest_rows s one'.batch

module _ {e : ℕ} {first second : List ℕ} (one one' : Accepted e first) (two two' : Accepted e second) where
  -- and two have one list of changes
  same_changes : {cs ds : List Change} → Between one two cs → Between one' two' ds → cs ≡ ds
  same_changes {ds = ds} x y =
      changes_once x
      (subst (λ (A : List Row). Changes first second A (rows_of two) ds) (same_rows one' one)
      (subst (λ (B : List Row). Changes first second (rows_of one') B ds) (same_rows two' two) y))

  -- and the same seconds between their times
  pub same_later : later_in one two ≡ later_in one' two'
  same_later = ap₂ (seconds_later first second) (same_rows one one') (same_rows two two')

module _ {e : ℕ} {first second : List ℕ} (octets : Octets first) (more : Octets second) where
  -- Comparing has one answer and one list.
  pub compares_once : {old : List ℤ} {n p f c n' p' f' c' : ℕ} {new new' : List ℤ} → Compares e first second old n p f c new
      → Compares e first second old n' p' f' c' new' → Same n p f c n' p' f' c' new new'
  compares_once (first_refused {number = n} {place = p} {count = c} a refusing) (first_refused {number = n'} {place = p'} {count = c'} b again) =
      let (number, place, count) = answers_once e first octets n p c n' p' c' a b in
      record { number = number; place = place; file = refl; count = refl; output = refl }
  compares_once (first_refused a refusing) (second_refused one b again) = absurd (not_refused octets one a refusing)
  compares_once (first_refused a refusing) (no_room one two cs x short) = absurd (not_refused octets one a refusing)
  compares_once (first_refused a refusing) (listed one two cs x room) = absurd (not_refused octets one a refusing)
  compares_once (second_refused one a refusing) (first_refused b again) = absurd (not_refused octets one b again)
  compares_once (second_refused {number = n} {place = p} {count = c} one a refusing) (second_refused {number = n'} {place = p'} {count = c'} one' b again) =
      let (number, place, count) = answers_once e second more n p c n' p' c' a b in
      record { number = number; place = place; file = refl; count = refl; output = refl }
  compares_once (second_refused one a refusing) (no_room one' two cs x short) = absurd (not_refused more two a refusing)
  compares_once (second_refused one a refusing) (listed one' two cs x room) = absurd (not_refused more two a refusing)
  compares_once (no_room one two cs x short) (first_refused b again) = absurd (not_refused octets one b again)
  compares_once (no_room one two cs x short) (second_refused one' b again) = absurd (not_refused more two b again)
  compares_once (no_room one two cs x short) (no_room one' two' ds y little) =
      record { number = refl; place = refl; file = refl; count = refl; output = refl }
  compares_once (no_room one two cs x short) (listed one' two' ds y room) = absurd (omega (arith, ap length (same_changes one one' two two' x y)))
  compares_once (listed one two cs x room) (first_refused b again) = absurd (not_refused octets one b again)
  compares_once (listed one two cs x room) (second_refused one' b again) = absurd (not_refused more two b again)
  compares_once (listed one two cs x room) (no_room one' two' ds y short) = absurd (omega (arith, ap length (same_changes one one' two two' x y)))
  compares_once {old = old} (listed one two cs x room) (listed one' two' ds y enough) =
      let same = same_changes one one' two two' x y in
      record {
        number = refl;
        place = refl;
        file = refl;
        count = ap length same;
        output = ap₂ (λ (later : Later) (z : List Change). entries later z ++ drop (entry_numbers * length z) old) (same_later one one' two two') same;
      }

  -- Finding a part has one answer.
  pub finds_once : {k n p f from size n' p' f' from' size' : ℕ} → Finds e first second k n p f from size → Finds e first second k n' p' f' from' size'
      → SamePart n p f from size n' p' f' from' size'
  finds_once (parts.first_refused {number = n} {place = p} {count = c} a refusing) (parts.first_refused {number = n'} {place = p'} {count = c'} b again) =
      let (number, place, count) = answers_once e first octets n p c n' p' c' a b in
      record { number = number; place = place; file = refl; starts = refl; long = refl }
  finds_once (parts.first_refused a refusing) (parts.second_refused one b again) = absurd (not_refused octets one a refusing)
  finds_once (parts.first_refused a refusing) (past one two cs x few) = absurd (not_refused octets one a refusing)
  finds_once (parts.first_refused a refusing) (found one two cs c x here) = absurd (not_refused octets one a refusing)
  finds_once (parts.second_refused one a refusing) (parts.first_refused b again) = absurd (not_refused octets one b again)
  finds_once (parts.second_refused {number = n} {place = p} {count = c} one a refusing) (parts.second_refused {number = n'} {place = p'} {count = c'} one' b again) =
      let (number, place, count) = answers_once e second more n p c n' p' c' a b in
      record { number = number; place = place; file = refl; starts = refl; long = refl }
  finds_once (parts.second_refused one a refusing) (past one' two cs x few) = absurd (not_refused more two a refusing)
  finds_once (parts.second_refused one a refusing) (found one' two cs c x here) = absurd (not_refused more two a refusing)
  finds_once (past one two cs x few) (parts.first_refused b again) = absurd (not_refused octets one b again)
  finds_once (past one two cs x few) (parts.second_refused one' b again) = absurd (not_refused more two b again)
  finds_once (past one two cs x few) (past one' two' ds y none) = record { number = refl; place = refl; file = refl; starts = refl; long = refl }
  finds_once {k = k} (past one two cs x few) (found one' two' ds d y here) =
      absurd (omega (arith, ap length (same_changes one one' two two' x y), (the_entry ds k d here).0))
  finds_once (found one two cs c x here) (parts.first_refused b again) = absurd (not_refused octets one b again)
  finds_once (found one two cs c x here) (parts.second_refused one' b again) = absurd (not_refused more two b again)
  finds_once {k = k} (found one two cs c x here) (past one' two' ds y few) =
      absurd (omega (arith, ap length (same_changes one one' two two' x y), (the_entry cs k c here).0))
  finds_once {k = k} (found one two cs c x here) (found one' two' ds d y there) =
      let same = same_changes one one' two two' x y in
      let entry : c ≡ d = some-injective c d (sym here ∙ ap (λ (z : List Change). get_elem? z k) same ∙ there) in
      let row = ap (part_row (rows_of one) (rows_of two)) entry
      ∙ ap₂ (λ (A B : List Row). part_row A B d) (same_rows one one') (same_rows two two') in
      record { number = refl; place = refl; file = ap part_file entry; starts = ap (λ (r : Row). r.first) row; long = ap (λ (r : Row). r.whole) row }

-- "A refused call leaves all lent memory as it was", and counts nothing.
pub compare_stays : {e : ℕ} {first second : List ℕ} {old new : List ℤ} {n p f c : ℕ} → Compares e first second old n p f c new → (n ≡ accepted → ⊥)
    → (new ≡ old) × (c ≡ 0)
compare_stays (first_refused a refusing) other-number = (refl, refl)
compare_stays (second_refused one a refusing) other-number = (refl, refl)
compare_stays (no_room one two cs x short) other-number = (refl, refl)
compare_stays (listed one two cs x room) other-number = absurd (other-number refl)

-- "with an empty part"
pub refused_empty : {e k : ℕ} {first second : List ℕ} {n p f from size : ℕ} → Finds e first second k n p f from size → (n ≡ accepted → ⊥)
    → (from ≡ 0) × (size ≡ 0)
refused_empty (parts.first_refused a refusing) other-number = (refl, refl)
refused_empty (parts.second_refused one a refusing) other-number = (refl, refl)
refused_empty (past one two cs x few) other-number = (refl, refl)
refused_empty (found one two cs c x here) other-number = absurd (other-number refl)
