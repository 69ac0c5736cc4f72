-- The text of a table's rows, number by number. Assumes nothing.
use Prim.Native.Nat.{ℕ, ◌+◌, ◌≤◌, ◌<◌}
use native.Mathlib.Numerals.{add-one}
use mathlib.Core.Path.{◌≡◌, sym, ap, ◌∙◌}
use mathlib.Core.List.{List, [], ◌∷◌, ◌++◌}
use lib.ListN.{length, drop, get_or, drop_of_length-le}
use lib.Seq.{drop-cons}
use Rattle.format.specs.Page.{Page, put}
use Rattle.format.specs.Decimal.{decimal}
use Rattle.format.specs.Rows.{mark, rows_from}
use Rattle.format.proofs.Writing.{put_none, put_next, put_parts}

-- the rows from a number on
module _ (width i : ℕ) (numbers : List ℕ) where
  rows_next : i < length numbers
      → rows_from width i (drop i numbers) ≡ decimal (get_or numbers i 0) ++ (mark width i ∷ rows_from width (i + 1) (drop (i + 1) numbers))
  unfolding rows_from
  rows_next here = rw (add-one, drop-cons numbers i 0 here)

  rows_none : length numbers ≤ i → rows_from width i (drop i numbers) ≡ []
  unfolding rows_from
  rows_none past = rw (drop_of_length-le numbers past)

  module _ (p : Page) where
    rows_left : i < length numbers
        → put p (rows_from width i (drop i numbers))
        ≡ put (put (put p (decimal (get_or numbers i 0))) (mark width i ∷ [])) (rows_from width (i + 1) (drop (i + 1) numbers))
    rows_left here =
        let rest = rows_from width (i + 1) (drop (i + 1) numbers) in
        ap (put p) (rows_next here) ∙ sym (put_parts p (decimal (get_or numbers i 0)) (mark width i ∷ rest))
        ∙ put_next (put p (decimal (get_or numbers i 0))) (mark width i) rest

    -- a number and its mark are written: what is left is the rows from the next number on
    pub rows_again : (n m : ℕ) {q r : Page} → i < length numbers → get_or numbers i 0 ≡ n → m ≡ mark width i → q ≡ put p (decimal n) → r ≡ put q (m ∷ [])
        → put r (rows_from width (i + 1) (drop (i + 1) numbers)) ≡ put p (rows_from width i (drop i numbers))
    rows_again n m here read marked one both = rw (both, one, ← read, marked) (sym (rows_left here))

    pub rows_done : length numbers ≤ i → put p (rows_from width i (drop i numbers)) ≡ p
    rows_done past = ap (put p) (rows_none past) ∙ put_none p
