-- Rows: the fields of an accepted element tree, by document 01's section "Rows" and document 02's A11, SPECIFICATION 5. They are defined on the
-- meaning of the grammar alone. Assumes nothing.
use Rattle.std.specs.Prelude.{ℕ, zero, suc, ◌+◌, ◌-◌, ◌*◌, ◌≤◌, ◌<◌, ◌≡◌, Bool, true, false, ◌&&◌, not, ltb, eqb, length, take as first-numbers, drop}
use mathlib.Core.List.{List, [], ◌∷◌, ◌++◌, Memᴰ}
use Rattle.std.proofs.Math.Seq.{slice}
use Rattle.der.specs.meaning.Tree.{Tree, header}
use Rattle.crmf.specs.meaning.Lists.{over}
use Rattle.crmf.specs.meaning.Kinds as kinds
use Rattle.crmf.specs.meaning.Notation.{among, Inside, Parts, Top}
use Rattle.crmf.specs.meaning.Grammar.{content}
use Rattle.crmf.specs.meaning.Language.{Matches, end, pass, take, choose, Within, unseen, parts}

-- "A row is kind, first byte, whole length, parent's row", and "a fifth number, the content's first byte"
pub record Row : Type 0 where
  pub kind : ℕ
  pub first : ℕ
  pub whole : ℕ
  pub parent : ℕ
  pub content : ℕ

-- how many numbers a row has
abbrev pub width : ℕ
width = 5

-- "Containers: batch 1, message 2, certReq 3, template 5, validity 14, extensions 19, controls 30, signature 51, keyEncipherment 52,
-- keyAgreement 53, regInfo 70, carried certReq item 74"
unfoldable pub container : ℕ → Bool
container =
    among (kinds.batch ∷ kinds.message ∷ kinds.cert_req ∷ kinds.cert_template ∷ kinds.validity ∷ kinds.extensions ∷ kinds.controls ∷ kinds.signature ∷ kinds.key_encipherment ∷ kinds.key_agreement ∷ kinds.reg_info ∷ kinds.reg_info_cert_req ∷ [])

-- What a row shows of where its element stands: "first byte, whole length" and "the content's first byte".
pub record Extent : Type 0 where
  pub first : ℕ
  pub whole : ℕ
  pub content : ℕ

-- the length of an element's header, its identifier and length octets: what its whole length has beside its content
abbrev pub header_length : ℕ → List ℕ → ℕ
header_length whole content = whole - length content

-- the extent of an element: its content comes after its header
abbrev pub extent_of : (first whole : ℕ) (content : List ℕ) → Extent
extent_of p w c = record { first = p; whole = w; content = p + header_length w c }

-- the extent around the batch, where no element is
abbrev pub no_extent : Extent
no_extent = record { first = 0; whole = 0; content = 0 }

-- the row of an element, by its kind, its extent and its parent's row
abbrev pub row_with : ℕ → Extent → ℕ → Row
row_with kind extent parent =
    record { kind = kind; first = extent.first; whole = extent.whole; parent = parent; content = extent.content }

-- the same if it has a kind
abbrev pub row_if : ℕ → Extent → ℕ → List Row
row_if kind extent parent = elim (eqb kind kinds.none) [ true ↦ [] | false ↦ row_with kind extent parent ∷ [] ]

-- the number of the parent's row for the rows inside an element: n, that of its own row, if it has one, else up
abbrev pub parent_if : ℕ → ℕ → ℕ → ℕ
parent_if kind n up = elim (eqb kind kinds.none) [ true ↦ up | false ↦ n ]

-- The rows of a container's elements, in order of first byte (SPECIFICATION 5): n is the number of the next row, up is the number of the row
-- around them, and extent is the container's own. A value that decides its item's kind gives the item its row.
unfoldable mutual
  pub rows : {R : ℕ → Bool} {ps : Parts} {t : Tree} → Matches R ps t → (n up : ℕ) (extent : Extent) → List Row
  rows end n up extent = []
  rows (pass ok m) n up extent = rows m n up extent
  rows (take {first = p} {whole = w} {c = c} f among fits read kept within m) n up extent =
      let item = row_if f.item extent up in
      let above = parent_if f.item n up in
      let here = extent_of p w c in
      let own = row_if f.kind here above in
      let next = n + length item in
      let inner = rows_in within (next + length own) (parent_if f.kind next above) here in
      item ++ (own ++ (inner ++ rows m (next + length own + length inner) up extent))
  rows (choose name way m) n up extent = rows m n up extent

  pub rows_in : {R : ℕ → Bool} {i : Inside} {t : Tree} → Within R i t → (n up : ℕ) (extent : Extent) → List Row
  rows_in unseen n up extent = []
  rows_in (parts m) n up extent = rows m n up extent

-- the rows of a batch: "the batch is row 0, its own parent"
unfoldable pub batch_rows : {R : ℕ → Bool} {t : Tree} → Matches R (content Top) t → List Row
batch_rows m = rows m 0 0 no_extent

-- a row, d bytes further on: "places move", and content starts with them
abbrev pub moved_row : ℕ → Row → Row
moved_row d r = record { kind = r.kind; first = d + r.first; whole = r.whole; parent = r.parent; content = d + r.content }

-- a row's number, k rows further down: "row numbers [move] (parent 0 stays)"
abbrev pub numbered_further : ℕ → ℕ → ℕ
numbered_further k zero = zero
numbered_further k (suc n) = k + suc n

-- a row of rows that are k rows further down
abbrev pub renumbered_row : ℕ → Row → Row
renumbered_row k r =
    record { kind = r.kind; first = r.first; whole = r.whole; parent = numbered_further k r.parent; content = r.content }

-- the numbers of rows, one after the other
unfoldable pub numbers : List Row → List ℕ
numbers [] = []
numbers (r ∷ rs) = r.kind ∷ r.first ∷ r.whole ∷ r.parent ∷ r.content ∷ numbers rs

-- "It is right": an element stands where the row says, and the row's fifth number is the element's first byte and the length of its header.
pub record RightContent (s : List ℕ) (r : Row) : Type 0 where
  pub identifier : ℕ
  pub octets : List ℕ
  pub stands : slice r.first (r.first + r.whole) s ≡ header identifier octets ++ octets
  pub starts : r.content ≡ r.first + length (header identifier octets)

-- whether a row of a kind and a whole length is a certReqId "of more than 8 content octets" (SPECIFICATION 4): 8 content octets have two before
-- them
abbrev pub long_id : ℕ → ℕ → Bool
long_id kind whole = eqb kind kinds.cert_req_id && ltb 10 whole

-- whether none of some rows is such a certReqId
unfoldable pub all_short : List Row → Bool
all_short [] = true
all_short (r ∷ rs) = not (long_id r.kind r.whole) && all_short rs

-- One of some rows is "a certReqId of more than 8 content octets", at this place.
pub record LongIdAt (rs : List Row) (place : ℕ) : Type 0 where
  pub row : Row
  pub among : Memᴰ row rs
  pub cert_req_id : row.kind ≡ kinds.cert_req_id
  -- 8 content octets have two before them
  pub long : 10 < row.whole
  pub stands : row.first ≡ place

-- the "first such" in byte order, which is the place of a refusal 10
pub record FirstLongId (rs : List Row) (place : ℕ) : Type 0 where
  pub here : LongIdAt rs place
  pub least : (other : ℕ) → LongIdAt rs other → place ≤ other

-- A table with some rows in its first numbers, and its other numbers as they were: "what an accepted reading changes" is "now five numbers a
-- row", and "no others".
pub record Holds (rs : List Row) (count : ℕ) (old new : List ℕ) : Type 0 where
  pub counted : length rs ≡ count
  pub whole : new ≡ over old 0 (numbers rs)
  pub first : first-numbers (width * count) new ≡ numbers rs
  pub others : drop (width * count) new ≡ drop (width * count) old
  pub sized : length new ≡ length old
