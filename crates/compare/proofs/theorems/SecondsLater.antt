-- The fourth number of an entry, in the list that comparing two batches leaves: document 02's request A12, "for two times that differ, second less
-- first in seconds, else 0". Assumes nothing.
use Prim.Native.Nat.{ℕ, zero, suc, ◌+◌, ◌*◌, ◌<◌}
use native.Mathlib.Omega.{arith}
use mathlib.Core.Path.{◌≡◌, refl, sym, ap, ap₂, ◌∙◌}
use mathlib.Core.Bool.{true, false, ◌||◌}
use mathlib.Core.Logic.{◌⊎◌, inl, inr}
use mathlib.Core.List.{List, [], ◌∷◌, ◌++◌, append_assoc}
use mathlib.Core.Option.{some}
use lib.IntN.{ℤ, pos, ◌-ℤ◌}
use lib.ListN.{length, take, drop}
use lib.Seq.{take_at, drop_at, drop-drop}
use borrow.Author.Tests.{ne_eqb}
use Rattle.der.specs.meaning.Refusal.{accepted}
use Rattle.time.specs.meaning.Validity.{shown_moment}
use Rattle.crmf.specs.meaning.Kinds as kinds
use Rattle.editions.specs.meaning.TwoBatches.{Accepted}
use Rattle.compare.specs.meaning.Counterparts.{row_at}
use Rattle.compare.specs.meaning.Changes.{Change, only_first, only_second, leaves_differ, Later, entry_numbers, entry, entries, row_octets}
use Rattle.compare.specs.meaning.Times.{is_time_kind}
use Rattle.compare.specs.meaning.Compares.{rows_of, later_in, Compares, first_refused, second_refused, no_room, listed}
use Rattle.compare.proofs.theorems.Gathering.{change_at}
use Rattle.compare.proofs.theorems.LeafSeconds.{seconds_other, seconds_times}
use Rattle.compare.proofs.theorems.OneAnswer.{same_later}
use Rattle.compare.proofs.theorems.Windows.{entry_length}

-- the numbers of the entry with a number, from 0, in a list
abbrev pub numbers_at : List ℤ → ℕ → List ℤ
numbers_at list n = take entry_numbers (drop (entry_numbers * n) list)

-- a kind is that of a time
abbrev pub TimeKind : ℕ → Type 0
TimeKind kind = (kind ≡ kinds.not_before) ⊎ (kind ≡ kinds.not_after)

-- the test of kinds tells this
pub time_kind : (kind : ℕ) → TimeKind kind → is_time_kind kind ≡ true
unfolding is_time_kind
time_kind kind (inl is) = rw is
time_kind kind (inr is) = rw is

no_time_kind : (kind : ℕ) → (TimeKind kind → ⊥) → is_time_kind kind ≡ false
unfolding is_time_kind
no_time_kind kind none = ap₂ ◌||◌ (ne_eqb kind kinds.not_before (λ is. none (inl is))) (ne_eqb kind kinds.not_after (λ is. none (inr is)))

-- an entry's numbers stand at its place
entry_numbers_lem : (later : Later) (cs : List Change) (rest : List ℤ) (n : ℕ) → n < length cs
    → numbers_at (entries later cs ++ rest) n ≡ entry later (change_at cs n)
unfolding entries
entry_numbers_lem later [] rest n there = absurd (omega arith)
entry_numbers_lem later (c ∷ cs) rest zero there =
    ap (take entry_numbers) (append_assoc (entry later c) (entries later cs) rest)
    ∙ take_at (entry later c) (entries later cs ++ rest) entry_numbers (entry_length later c)
entry_numbers_lem later (c ∷ cs) rest (suc n) there =
    let l = entries later cs ++ rest in
    let four_more : entry_numbers * suc n ≡ entry_numbers + entry_numbers * n = omega arith in
    let further : drop (entry_numbers * suc n) (entry later c ++ l) ≡ drop (entry_numbers * n) l =
    ap (λ (k : ℕ). drop k (entry later c ++ l)) four_more
    ∙ sym (drop-drop (entry_numbers * n) entry_numbers (entry later c ++ l))
    ∙ ap (drop (entry_numbers * n)) (drop_at (entry later c) l entry_numbers (entry_length later c)) in
    ap (λ (k : List ℤ). take entry_numbers (drop (entry_numbers * suc n) k)) (append_assoc (entry later c) (entries later cs) rest)
    ∙ ap (take entry_numbers) further
    ∙ entry_numbers_lem later cs rest n (omega arith)

-- The fourth number of an entry: 0, or that of the two rows that an entry with 3 speaks of.
data Fourth (later : Later) (x y z fourth : ℤ) : Type 0 where
  nothing : (x ≡ pos 3 → ⊥) → fourth ≡ pos 0 → Fourth later x y z fourth
  between : (i j : ℕ) → x ≡ pos 3 → y ≡ pos i → z ≡ pos j → fourth ≡ later i j → Fourth later x y z fourth

-- the first number of an entry with 1 or 2 isn't 3
other : {x : ℤ} (k : ℕ) → x ≡ pos k → x ≡ pos 3 → (k ≡ 3 → ⊥) → ⊥
other k is three apart = let same : k ≡ 3 = cc in apart same

-- What an entry's numbers say of the fourth.
fourth_number : (later : Later) (c : Change) {x y z fourth : ℤ} → x ∷ y ∷ z ∷ fourth ∷ [] ≡ entry later c → Fourth later x y z fourth
unfolding entry
fourth_number later (only_first i) {x} is = nothing (λ three. other 1 (cc) three (λ same. omega (arith, same))) (cc)
fourth_number later (only_second j) {x} is = nothing (λ three. other 2 (cc) three (λ same. omega (arith, same))) (cc)
fourth_number later (leaves_differ i j) is = between i j (cc) (cc) (cc) (cc)

module _ {e : ℕ} {first second : List ℕ} (one : Accepted e first) (two : Accepted e second) where
  -- So is an entry's fourth number in the list that comparing leaves.
  listed_fourth : {old new : List ℤ} {number place file count n : ℕ} {x y z fourth : ℤ} → Compares e first second old number place file count new
      → number ≡ accepted → n < count → numbers_at new n ≡ x ∷ y ∷ z ∷ fourth ∷ [] → Fourth (later_in one two) x y z fourth
  listed_fourth (first_refused answer refused) accepting there is = absurd (refused accepting)
  listed_fourth (second_refused a answer refused) accepting there is = absurd (refused accepting)
  listed_fourth (no_room a b cs changes short) accepting there is = absurd (omega (arith, accepting))
  listed_fourth {old} {n = n} (listed a b cs changes room) accepting there is =
      fourth_number (later_in one two) (change_at cs n)
      (sym is
      ∙ entry_numbers_lem (later_in a b) cs (drop (entry_numbers * length cs) old) n there
      ∙ ap (λ (later : Later). entry later (change_at cs n)) (same_later a one b two))

  module _ {old new : List ℤ} {place file count n : ℕ} (left : Compares e first second old accepted place file count new) (there : n < count) where
    -- "for two times that differ, second less first in seconds": an entry with 3 of two times that show moments has the second's less the first's.
    pub seconds_later_lem : {i j : ℕ} {fourth : ℤ} → numbers_at new n ≡ pos 3 ∷ pos i ∷ pos j ∷ fourth ∷ [] → TimeKind (row_at (rows_of one) i).kind
        → {a b : ℕ} → shown_moment (row_octets first (row_at (rows_of one) i)) ≡ some a → shown_moment (row_octets second (row_at (rows_of two) j)) ≡ some b
        → fourth ≡ pos b -ℤ pos a
    seconds_later_lem {i} {j} {fourth} is time {a} {b} shown also = go (listed_fourth left refl there is)
      where
        go : Fourth (later_in one two) (pos 3) (pos i) (pos j) fourth → fourth ≡ pos b -ℤ pos a
        go (nothing other-number zero-then) = absurd (other-number refl)
        go (between k l three row other_row told) =
            let same : k ≡ i = cc in
            let same_other : l ≡ j = cc in
            told ∙ ap₂ (later_in one two) same same_other
            ∙ seconds_times (row_at (rows_of one) i).kind (row_octets first (row_at (rows_of one) i)) (row_octets second (row_at (rows_of two) j)) (time_kind _ time) shown also

    -- "else 0": any other entry has 0.
    pub seconds_none : {x y z fourth : ℤ} → numbers_at new n ≡ x ∷ y ∷ z ∷ fourth ∷ []
        → ((i : ℕ) → x ≡ pos 3 → y ≡ pos i → TimeKind (row_at (rows_of one) i).kind → ⊥) → fourth ≡ pos 0
    seconds_none {x} {y} {z} {fourth} is none = go (listed_fourth left refl there is)
      where
        go : Fourth (later_in one two) x y z fourth → fourth ≡ pos 0
        go (nothing other-number zero-then) = zero-then
        go (between i j three row other_row told) =
            told
            ∙ seconds_other (row_at (rows_of one) i).kind (row_octets first (row_at (rows_of one) i)) (row_octets second (row_at (rows_of two) j)) (no_time_kind _ (none i three row))
