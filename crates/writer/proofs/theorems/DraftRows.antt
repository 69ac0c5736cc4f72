-- The rows of a draft as chunks of its numbers. Assumes nothing.
use Prim.Native.Nat.{ℕ, zero, suc, ◌+◌, ◌*◌, ◌/◌, ◌<◌}
use native.Mathlib.Nat.{add-zero}
use native.Mathlib.Omega.{arith}
use mathlib.Core.Path.{◌≡◌, refl, sym, ap, ◌∙◌}
use mathlib.Core.List.{List, [], ◌∷◌}
use lib.ListN.{length, get_or, take, drop}
use Rattle.std.proofs.lemmas.List.{get_or-take, get_or-drop}
use lib.Seq.{drop-drop}
use Rattle.std.specs.Simd.{first_chunks}
use Rattle.crmf.specs.meaning.Rows.{Row, width}
use Rattle.crmf.specs.steps.rows.Agree.{draft_rows}
use Rattle.crmf.proofs.Laws.{rows_by_width, row_cut}
use Rattle.writer.specs.steps.Inner.{row_with, Numbered}

-- a chunk is the numbers at its place
chunk : (k : ℕ) (d : List ℕ) (i : ℕ) → i < k → get_or (first_chunks width k d) i [] ≡ take width (drop (width * i) d)
chunk zero d i there = absurd (omega arith)
chunk (suc k) d zero there = refl
chunk (suc k) d (suc i) there =
    let next : width + width * i ≡ width * suc i = omega arith in
    chunk k (drop width d) i (omega arith) ∙ ap (take width) (drop-drop (width * i) width d) ∙ ap (λ (n : ℕ). take width (drop n d)) next

-- the row of its numbers
row_there : (d : List ℕ) (at : ℕ) → row_with (take width (drop at d))
    ≡ record { kind = get_or d at 0; first = get_or d (at + 1) 0; whole = get_or d (at + 2) 0; parent = get_or d (at + 3) 0; content = get_or d (at + 4) 0 }
row_there d at = rw (number 0 (omega arith), number 1 (omega arith), number 2 (omega arith), number 3 (omega arith), number 4 (omega arith), add-zero at) refl
  where
    number : (k : ℕ) → k < width → get_or (take width (drop at d)) k 0 ≡ get_or d (at + k) 0
    number k there = get_or-take width (drop at d) k 0 there ∙ get_or-drop at d k 0

pub numbered : (d : List ℕ) (rows : List (List ℕ)) → rows ≡ first_chunks width (length d / width) d → length rows ≡ length d / width → Numbered d rows
numbered d rows is count =
    record {
      count = count ∙ sym (rows_by_width d);
      each = λ i there.
          row_cut d i (omega (arith, count, rows_by_width d))
          ∙ ap (λ (r : Row). r ∷ drop (suc i) (draft_rows d))
          (sym (ap (λ (rows : List (List ℕ)). row_with (get_or rows i [])) is ∙ ap row_with (chunk (length d / width) d i (omega (arith, count)))
          ∙ row_there d (width * i)));
    }
