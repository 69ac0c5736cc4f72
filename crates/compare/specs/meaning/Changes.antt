-- The list of changes between two batches: document 02's requests A5 and A12, SPECIFICATION 11. What an entry is, in what order entries stand, and
-- that the list has all of them and no others. Assumes nothing.
use Rattle.std.specs.Prelude.{ℕ, ◌+◌, ◌<◌, ◌≡◌, ◌⊎◌, false, ℤ, pos}
use mathlib.Core.List.{List, [], ◌∷◌, ◌++◌, Memᴰ}
use Rattle.std.proofs.Math.Seq.{slice}
use Rattle.crmf.specs.meaning.Rows.{Row, container}
use Rattle.compare.specs.meaning.Counterparts.{row_at, Child, Spot, spot, Counterpart, Below}

-- An entry of the list: "only in the first", "only in the second" or "leaf bytes differ", with its row "in either file".
pub data Change : Type 0 where
  only_first : ℕ → Change
  only_second : ℕ → Change
  leaves_differ : ℕ → ℕ → Change

-- how many numbers an entry has
abbrev pub entry_numbers : ℕ
entry_numbers = 4

-- how many seconds later the second of two leaves is than the first, by their rows: 0 if they are no times (`seconds_later`)
abbrev pub Later : Type 0
Later = ℕ → ℕ → ℤ

-- "Each is three numbers: 1 only in the first, 2 only in the second .. or 3 leaf bytes differ, then its row in either file, 0 where none." Request
-- A12: "a signed fourth number: for two times that differ, second less first in seconds, else 0".
unfoldable pub entry : Later → Change → List ℤ
entry later (only_first i) = pos 1 ∷ pos i ∷ pos 0 ∷ pos 0 ∷ []
entry later (only_second j) = pos 2 ∷ pos 0 ∷ pos j ∷ pos 0 ∷ []
entry later (leaves_differ i j) = pos 3 ∷ pos i ∷ pos j ∷ later i j ∷ []

-- the numbers of a list of entries, one after the other
unfoldable pub entries : Later → List Change → List ℤ
entries later [] = []
entries later (c ∷ cs) = entry later c ++ entries later cs

-- the octets of a row's element
abbrev pub row_octets : List ℕ → Row → List ℕ
row_octets s r = slice r.first (r.first + r.whole) s

-- What changed between the batches s and t, whose rows are A and B.
pub data Changed (s t : List ℕ) (A B : List Row) : Change → Type 0 where
  -- "1 only in the first": a row without counterpart whose parent has one, "one entry for a whole container"
  in_first : {p q i : ℕ} → Counterpart A B p q → Child A p i → ((j : ℕ) → Counterpart A B i j → ⊥) → Changed s t A B (only_first i)
  -- "2 only in the second"
  in_second : {p q j : ℕ} → Counterpart A B p q → Child B q j → ((i : ℕ) → Counterpart A B i j → ⊥) → Changed s t A B (only_second j)
  -- "3 leaf bytes differ"
  in_both : {i j : ℕ} → Counterpart A B i j → container (row_at A i).kind ≡ false
      → (row_octets s (row_at A i) ≡ row_octets t (row_at B j) → ⊥) → Changed s t A B (leaves_differ i j)

-- the spots on the way from the batch down to a row
pub data Path (rs : List Row) : ℕ → List Spot → Type 0 where
  batch : Path rs 0 []
  child : {p i : ℕ} {way : List Spot} → Path rs p way → Child rs p i → Path rs i (way ++ (spot rs i ∷ []))

-- the spots on the way to what an entry speaks of
pub data Way (A B : List Row) : Change → List Spot → Type 0 where
  first : {i : ℕ} {way : List Spot} → Path A i way → Way A B (only_first i) way
  second : {j : ℕ} {way : List Spot} → Path B j way → Way A B (only_second j) way
  both : {i j : ℕ} {way : List Spot} → Path A i way → Way A B (leaves_differ i j) way

-- A spot is before another: "by position or by kind number", and by occurrence within a kind.
abbrev pub Sooner : Spot → Spot → Type 0
Sooner x y = (x.kind < y.kind) ⊎ ((x.kind ≡ y.kind) × (x.number < y.number))

-- A way leads to an earlier spot than another: where the two part, it takes the sooner.
pub data Earlier : List Spot → List Spot → Type 0 where
  parts : {x y : Spot} {xs ys : List Spot} → Sooner x y → Earlier (x ∷ xs) (y ∷ ys)
  along : {x : Spot} {xs ys : List Spot} → Earlier xs ys → Earlier (x ∷ xs) (x ∷ ys)

-- An entry comes before another: "Entries follow that walk, children by position or by kind number, at one spot the first file's before the
-- second's."
pub data Before (A B : List Row) : Change → Change → Type 0 where
  by_spot : {c d : Change} {xs ys : List Spot} → Way A B c xs → Way A B d ys → Earlier xs ys → Before A B c d
  at_one_spot : {i j : ℕ} {way : List Spot} → Path A i way → Path B j way → Before A B (only_first i) (only_second j)

-- Each entry comes before all those after it.
abbrev pub InOrder : (A B : List Row) → List Change → Type 0
InOrder A B [] = Unit {0}
InOrder A B (c ∷ cs) = ((d : Change) → Memᴰ d cs → Before A B c d) × InOrder A B cs

-- "The list is complete": all that changed, nothing else, in order.
pub record Changes (s t : List ℕ) (A B : List Row) (cs : List Change) : Type 0 where
  pub all : (c : Change) → Changed s t A B c → Memᴰ c cs
  pub only : (c : Change) → Memᴰ c cs → Changed s t A B c
  pub in_order : InOrder A B cs

-- "The list is complete": a row of one of the batches is accounted for in the list. It has a counterpart and, if it is a leaf, one of the same
-- octets; or it is an entry, or stands below one. The batch's own rows are A, and its entries `alone` and `differing`.
pub data Accounted (s t : List ℕ) (A B : List Row) (alone : ℕ → Change) (differing : ℕ → ℕ → Change) (cs : List Change) (i : ℕ) : Type 0 where
  matched : {j : ℕ} → Counterpart A B i j
      → (container (row_at A i).kind ≡ false → row_octets s (row_at A i) ≡ row_octets t (row_at B j)) → Accounted s t A B alone differing cs i
  is_alone : Memᴰ (alone i) cs → Accounted s t A B alone differing cs i
  differs : {j : ℕ} → Memᴰ (differing i j) cs → Accounted s t A B alone differing cs i
  below : {k : ℕ} → Memᴰ (alone k) cs → Below A k i → Accounted s t A B alone differing cs i

-- the same of the first batch's rows, and of the second's
abbrev pub FirstAccounted : (s t : List ℕ) (A B : List Row) → List Change → ℕ → Type 0
FirstAccounted s t A B cs i = Accounted s t A B only_first leaves_differ cs i

abbrev pub SecondAccounted : (s t : List ℕ) (A B : List Row) → List Change → ℕ → Type 0
SecondAccounted s t A B cs j = Accounted t s B A only_second (λ y x. leaves_differ x y) cs j
