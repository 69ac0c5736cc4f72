-- What it means that a batch has a draft's rows: SPECIFICATION 6. It speaks of the batch's own rows and names nothing that puts a batch
-- together. Assumes nothing.
use Rattle.std.specs.Prelude.{ℕ, ◌+◌, ◌≡◌, Bool, true, false, ◌&&◌, ◌||◌, leb, length}
use mathlib.Core.List.{List, [], ◌∷◌, Memᴰ}
use Rattle.der.specs.meaning.Octets.{Octets}
use Rattle.crmf.specs.meaning.Rows.{Row, container, numbers, batch_rows, all_short, RightContent}
use Rattle.crmf.specs.meaning.Pieces.{pieces_of}
use Rattle.editions.specs.meaning.Membership.{InGrammar}

-- no leaf "leaves the slice"
unfoldable pub inside : List ℕ → List Row → Bool
inside bytes [] = true
inside bytes (r ∷ rs) = (container r.kind || leb (r.first + r.whole) (length bytes)) && inside bytes rs

-- "A batch has a draft's rows if its own rows show the same kinds and parents in the same order and, in each leaf, the same length and the
-- bytes the draft points at" (SPECIFICATION 6); and reading in the edition accepts the batch. The fifth number "is ignored in containers of a
-- draft but must be right in its leaves, by the slice's own places": "a batch has a draft's rows only if it is".
pub record HasRows (e : ℕ) (draft bytes s : List ℕ) : Type 0 where
  pub octets : Octets s
  pub batch : InGrammar e s
  pub fit : all_short (batch_rows batch.batch) ≡ true
  pub rows : List Row
  pub numbered : numbers rows ≡ draft
  pub leaves : inside bytes rows ≡ true
  pub alike : pieces_of bytes rows ≡ pieces_of s (batch_rows batch.batch)
  pub right : (r : Row) → Memᴰ r rows → container r.kind ≡ false → RightContent bytes r
