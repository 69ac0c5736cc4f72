-- Assembling from the first row to the last: what the scratch holds before a row, after it, and at the end. Assumes nothing.
use Prim.Native.Nat.{ℕ, suc, ◌+◌, ◌≤◌, ◌<◌}
use native.Mathlib.Numerals.{add-one}
use native.Mathlib.Omega.{arith}
use mathlib.Core.Path.{◌≡◌, refl, sym, ap, ◌∙◌}
use mathlib.Core.Bool.{true, and-eq-true_iff}
use mathlib.Core.List.{List, [], ◌∷◌, ◌++◌, append_assoc, append-nil}
use Rattle.std.specs.Prelude.{Some, None}
use lib.Dec.{leb}
use lib.ListN.{length, take, drop, length-append}
use lib.Seq.{drop-length, length-take-le}
use borrow.Author.Tests.{leb-true}
use Rattle.der.specs.meaning.Bounds.{longest}
use Rattle.crmf.specs.meaning.Rows.{Row}
use Rattle.crmf.specs.meaning.Pieces.{piece_of, pieces_of}
use Rattle.crmf.specs.steps.rows.Assembly.{own, whole_of, assembled, none_longer}
use Rattle.crmf.proofs.Laws.{pieces_none, pieces_row, assembled_none, assembled_piece, within_piece}
use Rattle.writer.specs.meaning.Draft.{inside}
use Rattle.writer.specs.steps.Inner.{lies, children, Placed, Begins}

-- The scratch begins with the octets of the rows before number i, and those of the other rows come after them.
pub record Joined (bytes : List ℕ) (rs : List Row) (i at : ℕ) (old scratch : List ℕ) : Type 0 where
  pub room : length old ≤ longest
  pub sized : length scratch ≡ length old
  pub below : i ≤ length rs
  pub short : at ≤ length old
  pub within : inside bytes (drop i rs) ≡ true
  pub fit : none_longer longest i (pieces_of bytes (drop i rs)) ≡ true
  pub whole : assembled 0 (pieces_of bytes rs) ≡ take at scratch ++ assembled i (pieces_of bytes (drop i rs))

module _ (bytes : List ℕ) (rs : List Row) where
  -- before the first row the scratch holds nothing
  pub joined_first : (scratch : List ℕ) → length scratch ≤ longest → inside bytes rs ≡ true → none_longer longest 0 (pieces_of bytes rs) ≡ true
      → Joined bytes rs 0 0 scratch scratch
  joined_first scratch room within fit =
      record { room = room; sized = refl; below = omega arith; short = omega arith; within = within; fit = fit; whole = refl }

  module _ (i at : ℕ) (old scratch : List ℕ) (j : Joined bytes rs i at old scratch) where
    before : length (take at scratch) ≡ at
    before = length-take-le at scratch (omega (arith, j.sized, j.short))

    -- after the last row it holds the whole candidate
    pub joined_last : length rs ≤ i → Begins (assembled 0 (pieces_of bytes rs)) (Some at) scratch
    joined_last last =
        let end : i ≡ length rs = omega (arith, j.below) in
        let none : assembled i (pieces_of bytes (drop i rs)) ≡ [] =
        rw (end, drop-length rs, pieces_none bytes) (assembled_none (length rs)) in
        let all : assembled 0 (pieces_of bytes rs) ≡ take at scratch =
        j.whole ∙ ap (λ (l : List ℕ). take at scratch ++ l) none ∙ append-nil (take at scratch) in
        (omega (arith, j.sized, j.short), sym all)

    module _ (r : Row) (cut : drop i rs ≡ r ∷ drop (suc i) rs) (there : i < length rs) (inner : ℕ) (sum : inner ≡ children bytes rs i) where
      rest : List ℕ
      rest = assembled (suc i) (pieces_of bytes (drop (suc i) rs))

      -- the pieces from this row on
      pieces : pieces_of bytes (drop i rs) ≡ piece_of bytes r ∷ pieces_of bytes (drop (suc i) rs)
      pieces = ap (pieces_of bytes) cut ∙ pieces_row bytes r (drop (suc i) rs)

      -- the row's whole length isn't too long, and neither is that of one after it
      fits : (leb (whole_of (piece_of bytes r) inner) longest ≡ true) × (none_longer longest (suc i) (pieces_of bytes (drop (suc i) rs)) ≡ true)
      fits =
          rw sum
          ((and-eq-true_iff (leb (whole_of (piece_of bytes r) (children bytes rs i)) longest) (none_longer longest (suc i) (pieces_of bytes (drop (suc i) rs)))).0
          (sym (ap (none_longer longest i) pieces ∙ within_piece longest i (piece_of bytes r) (pieces_of bytes (drop (suc i) rs))) ∙ j.fit))

      -- it lies in the slice, and so do those after it
      lying : (lies bytes r ≡ true) × (inside bytes (drop (suc i) rs) ≡ true)
      unfolding inside
      lying = (and-eq-true_iff (lies bytes r) (inside bytes (drop (suc i) rs))).0 (sym (ap (inside bytes) cut) ∙ j.within)

      pub row_lies : lies bytes r ≡ true
      row_lies = lying.0

      pub row_fits : whole_of (piece_of bytes r) inner ≤ longest
      row_fits = leb-true (whole_of (piece_of bytes r) inner) longest fits.0

      -- the row's own octets come before the others'
      parted : assembled 0 (pieces_of bytes rs) ≡ (take at scratch ++ own (piece_of bytes r) inner) ++ rest
      unfolding rest
      parted =
          j.whole
          ∙ ap (λ (l : List ℕ). take at scratch ++ l)
          (ap (assembled i) pieces ∙ assembled_piece i (piece_of bytes r) (pieces_of bytes (drop (suc i) rs))
          ∙ ap (λ (n : ℕ). own (piece_of bytes r) n ++ rest) (sym sum))
          ∙ sym (append_assoc (take at scratch) (own (piece_of bytes r) inner) rest)

      -- with the row's octets
      pub joined_next : (next : ℕ) (new : List ℕ) → length new ≡ length scratch → Placed scratch at (own (piece_of bytes r) inner) next new
          → Joined bytes rs (i + 1) next old new
      unfolding rest
      joined_next next new sized a =
          rw add-one
          (record {
            room = j.room;
            sized = sized ∙ j.sized;
            below = there;
            short = omega (arith, a.room, j.sized);
            within = lying.1;
            fit = fits.1;
            whole = parted ∙ ap (λ (l : List ℕ). l ++ rest) (sym a.kept);
          })

      -- for which there may be no room
      pub joined_stops : (new : List ℕ) → length new ≡ length scratch → length scratch < at + length (own (piece_of bytes r) inner)
          → Begins (assembled 0 (pieces_of bytes rs)) None new
      joined_stops new sized long =
          let size = ap length parted ∙ length-append (take at scratch ++ own (piece_of bytes r) inner) rest in
          let front = length-append (take at scratch) (own (piece_of bytes r) inner) in
          omega (arith, size, front, before)
