-- Adding up from the last row to the first: what is settled after some rows, after one row more, and after all of them. Assumes nothing.
use Prim.Native.Nat.{ℕ, zero, suc, ◌+◌, ◌-◌, ◌*◌, ◌≤◌, ◌<◌}
use native.Mathlib.Nat.{add-zero, zero-add, add-suc, suc-add}
use native.Mathlib.Omega.{arith}
use mathlib.Core.Path.{◌≡◌, refl, sym, ap, ap₂, subst, ◌∙◌}
use mathlib.Core.Bool.{Bool, true, false, ◌&&◌, and-eq-true_iff, and-true, false≢true}
use mathlib.Core.List.{List, [], ◌∷◌}
use Rattle.std.specs.Prelude.{Some, None}
use lib.Dec.{eqb, leb}
use lib.ListN.{length, get_or, drop, length-drop}
use lib.Seq.{drop-length}
use borrow.Author.Tests.{le-leb, eqb-true, eqb-false}
use Rattle.der.specs.meaning.Bounds.{longest}
use Rattle.crmf.specs.meaning.Rows.{Row}
use Rattle.crmf.specs.meaning.Pieces.{piece_of, pieces_of}
use Rattle.crmf.specs.steps.rows.Assembly.{whole_of, children_of, none_longer}
use Rattle.crmf.proofs.Laws.{pieces_none, pieces_row, children_none, children_piece, within_none, within_piece, children_bound, pieces_length}
use Rattle.writer.specs.meaning.Draft.{inside}
use Rattle.writer.specs.steps.Writing.{most_rows}
use Rattle.writer.specs.steps.Inner.{lies, Whole, sound, children, Summed, Blank, Added}

module _ (bytes : List ℕ) where
  -- no rows are sound, and so are a row and those after it if each is
  sound_none : (n : ℕ) → sound bytes n [] ≡ true
  unfolding inside
  sound_none n = ap (none_longer longest n) (pieces_none bytes) ∙ within_none longest n

  abbrev whole : ℕ → Row → List Row → ℕ
  whole n r rs = whole_of (piece_of bytes r) (children_of n (suc n) (pieces_of bytes rs))

  -- the tests of a row and of those after it, in the definition's order and row by row
  regroup : (a b c d : Bool) → ((a && b) && (c && d)) ≡ ((a && c) && (b && d))
  regroup true true c d = refl
  regroup true false true d = refl
  regroup true false false d = refl
  regroup false b c d = refl

  pub sound_row : (n : ℕ) (r : Row) (rs : List Row) → sound bytes n (r ∷ rs) ≡ ((lies bytes r && leb (whole n r rs) longest) && sound bytes (suc n) rs)
  unfolding inside
  sound_row n r rs =
      ap (λ (b : Bool). (lies bytes r && inside bytes rs) && b) (ap (none_longer longest n) (pieces_row bytes r rs) ∙ within_piece longest n _ _)
      ∙ regroup (lies bytes r) (inside bytes rs) (leb (whole n r rs) longest) (none_longer longest (suc n) (pieces_of bytes rs))

  -- the last rows of sound ones are sound
  sound_rest : (n : ℕ) (rs : List Row) → sound bytes n rs ≡ true → (j : ℕ) → sound bytes (n + j) (drop j rs) ≡ true
  sound_rest n rs ok zero = rw add-zero ok
  sound_rest n [] ok (suc j) = sound_none (n + suc j)
  sound_rest n (r ∷ rs) ok (suc j) =
      let after = ((and-eq-true_iff (lies bytes r && leb (whole n r rs) longest) (sound bytes (suc n) rs)).0 (sym (sound_row n r rs) ∙ ok)).1 in
      subst (λ (k : ℕ). sound bytes k (drop j rs) ≡ true) (suc-add n j ∙ sym (add-suc n j)) (sound_rest (suc n) rs after j)

-- What the rows from number i on have settled: each is sound, and a table has the sums of the rows before i so far, and of the others whole.
pub record Settled (bytes : List ℕ) (rs : List Row) (i : ℕ) (old table : List ℕ) : Type 0 where
  pub few : length rs ≤ most_rows
  pub sized : length table ≡ length old
  pub room : length rs ≤ length table
  pub below : i ≤ length rs
  pub sounds : sound bytes i (drop i rs) ≡ true
  pub open_sums : (k : ℕ) → k < i → get_or table k 0 ≡ children_of k i (pieces_of bytes (drop i rs))
  pub whole_sums : (k : ℕ) → i ≤ k → k < length rs → get_or table k 0 ≡ children bytes rs k

module _ (bytes : List ℕ) (rs : List Row) where
  -- after the last row nothing is added
  pub settled_last : (table : List ℕ) → Blank rs table → Settled bytes rs (length rs) table table
  settled_last table blank =
      record {
        few = blank.few;
        sized = refl;
        room = blank.room;
        below = omega arith;
        sounds = rw (drop-length rs) (sound_none bytes (length rs));
        open_sums = λ k before. blank.zero k before ∙ sym (rw (drop-length rs, pieces_none bytes) (children_none k (length rs)));
        whole_sums = λ k after there. absurd (omega arith);
      }

  -- before the first, every sum is whole
  pub settled_first : (i : ℕ) (old table : List ℕ) → i ≤ 0 → Settled bytes rs i old table → (true ≡ sound bytes 0 rs) × (true ≡ true → Summed bytes rs table)
  settled_first i old table first s =
      let none : i ≡ 0 = omega arith in
      (sym (subst (λ (k : ℕ). sound bytes k (drop k rs) ≡ true) none s.sounds), λ yes k there. s.whole_sums k (omega arith) there)

  -- the row before those
  pub settled_before : (i : ℕ) (old table : List ℕ) → 0 < i → Settled bytes rs i old table → Settled bytes rs (suc (i - 1)) old table
  settled_before i old table some s = let one : i ≡ suc (i - 1) = omega arith in subst (λ (k : ℕ). Settled bytes rs k old table) one s

  module _ (j : ℕ) (old table : List ℕ) (s : Settled bytes rs (suc j) old table) where
    -- a sum is no more than the longest length for each row
    pub sum_bound : (k : ℕ) → k < suc j → get_or table k 0 ≤ longest * most_rows
    sum_bound k before =
        let ok = ((and-eq-true_iff (inside bytes (drop (suc j) rs)) (none_longer longest (suc j) (pieces_of bytes (drop (suc j) rs)))).0 s.sounds).1 in
        let bound = children_bound longest k (suc j) (pieces_of bytes (drop (suc j) rs)) ok in
        omega (arith, s.open_sums k before, bound, pieces_length bytes (drop (suc j) rs), length-drop (suc j) rs, s.few)

    -- the row's own sum is whole
    own_sum : get_or table j 0 ≡ children bytes rs j
    own_sum = s.open_sums j (omega arith)

    -- the row before those
    module _ (r : Row) (cut : drop j rs ≡ r ∷ drop (suc j) rs) where
      -- the rows from this one on are sound if it is
      next_sound : sound bytes j (drop j rs) ≡ (lies bytes r && leb (whole_of (piece_of bytes r) (get_or table j 0)) longest)
      next_sound =
          ap (sound bytes j) cut ∙ sound_row bytes j r (drop (suc j) rs)
          ∙ ap₂ (λ (k : ℕ) (b : Bool). (lies bytes r && leb (whole_of (piece_of bytes r) k) longest) && b) (sym own_sum) s.sounds
          ∙ and-true (lies bytes r && leb (whole_of (piece_of bytes r) (get_or table j 0)) longest)

      -- if it isn't, the draft isn't sound
      pub settled_stops : Whole bytes r (get_or table j 0) None → (out : List ℕ) → (false ≡ sound bytes 0 rs) × (false ≡ true → Summed bytes rs out)
      settled_stops none out = (sym (go (sound bytes 0 rs) refl), λ no. absurd (false≢true no))
        where
          go : (b : Bool) → sound bytes 0 rs ≡ b → sound bytes 0 rs ≡ false
          go true ok =
              absurd (false≢true (sym none ∙ sym next_sound ∙ ap (λ (k : ℕ). sound bytes k (drop j rs)) (sym (zero-add j)) ∙ sound_rest bytes 0 rs ok j))
          go false ok = ok

      -- otherwise its whole length is added to the parent's sum, if the parent is before it
      pub settled_next : (n : ℕ) → Whole bytes r (get_or table j 0) (Some n) → (new : List ℕ) → length new ≡ length table → Added table r.parent j n new
          → Settled bytes rs j old new
      settled_next n (inside, whole, short) new sized added =
          record {
            few = s.few;
            sized = sized ∙ s.sized;
            room = omega (arith, s.room);
            below = omega (arith, s.below);
            sounds = next_sound ∙ ap₂ (λ (x y : Bool). x && y) inside (ap (λ (k : ℕ). leb k longest) (sym whole) ∙ le-leb n longest short);
            open_sums = λ k before.
                added.below k before
                ∙ ap₂ (λ (x y : ℕ). elim (eqb r.parent k) as (λ b. ℕ) [ true ↦ x | false ↦ 0 ] + y) (whole ∙ ap (whole_of (piece_of bytes r)) own_sum) (s.open_sums k (omega arith))
                ∙ sym (children_piece k j (piece_of bytes r) (pieces_of bytes (drop (suc j) rs)))
                ∙ ap (children_of k j) (sym (ap (pieces_of bytes) cut ∙ pieces_row bytes r (drop (suc j) rs)));
            whole_sums = λ k after there. added.others k after ∙ go k after there (eqb j k) refl;
          }
        where
          go : (k : ℕ) → j ≤ k → k < length rs → (b : Bool) → eqb j k ≡ b → get_or table k 0 ≡ children bytes rs k
          go k after there true is = subst (λ (x : ℕ). get_or table x 0 ≡ children bytes rs x) (eqb-true j k is) own_sum
          go k after there false other = s.whole_sums k (omega (arith, eqb-false j k other)) there
