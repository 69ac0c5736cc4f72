-- Whole lengths of rows, and when they are told. Assumes nothing.
use Prim.Native.Nat.{ℕ, suc, ◌+◌, ◌≤◌, ◌<◌}
use native.Mathlib.Nat.{add-sub_cancel_left}
use native.Mathlib.Omega.{arith}
use mathlib.Core.Path.{◌≡◌, refl, sym, ap, ap₂, ◌∙◌}
use mathlib.Core.Bool.{Bool, true, false, ◌&&◌}
use mathlib.Core.List.{List}
use Rattle.std.specs.Prelude.{Option, Some, None}
use lib.Dec.{leb}
use lib.ListN.{length}
use lib.Seq.{slice, length-slice}
use borrow.Author.Tests.{lt-leb, le-leb, leb-true}
use Rattle.der.specs.meaning.Length.{length_octets}
use Rattle.der.specs.meaning.Bounds.{longest}
use Rattle.crmf.specs.meaning.Rows.{Row, container}
use Rattle.crmf.specs.meaning.Pieces.{piece_of}
use Rattle.crmf.specs.steps.rows.Assembly.{whole_of, implied}
use Rattle.crmf.proofs.Laws.{leaf_octets, whole_container, whole_leaf}
use Rattle.writer.specs.steps.Inner.{Told, Whole, lies}

module _ (bytes : List ℕ) (r : Row) (inner : ℕ) where
  -- whether the row lies in the slice and isn't too long
  abbrev sound_row : Bool
  sound_row = lies bytes r && leb (whole_of (piece_of bytes r) inner) longest

  -- a container lies anywhere
  pub container_whole : (n : Option ℕ) → container r.kind ≡ true
      → Told (suc (length (length_octets (length (implied r.kind) + inner)) + (length (implied r.kind) + inner))) n → Whole bytes r inner n
  container_whole (Some n) is told = (rw is refl, told.0 ∙ sym (whole_container (piece_of bytes r) inner is), omega (arith, told.0, told.1))
  container_whole None is long = ap₂ (λ (x : Bool) (n : ℕ). x && leb n longest) lying (whole_container (piece_of bytes r) inner is) ∙ lt-leb _ longest long
    where
      lying : lies bytes r ≡ true
      lying = rw is refl

  module _ (is : container r.kind ≡ false) where
    -- one that lies in it is as long as it says
    leaf_size : r.first + r.whole ≤ length bytes → whole_of (piece_of bytes r) inner ≡ r.whole
    leaf_size fits =
        let size : length (slice r.first (r.first + r.whole) bytes) ≡ r.whole =
        length-slice r.first (r.first + r.whole) bytes fits ∙ add-sub_cancel_left r.first r.whole in
        whole_leaf (piece_of bytes r) inner is ∙ ap length (leaf_octets bytes r is) ∙ size

    -- a leaf that leaves the slice or is too long
    pub leaf_not : (r.first + r.whole ≤ length bytes → longest < r.whole) → sound_row ≡ false
    leaf_not long = go (leb (r.first + r.whole) (length bytes)) refl
      where
        go : (b : Bool) → leb (r.first + r.whole) (length bytes) ≡ b → sound_row ≡ false
        go true fits =
            let inside = leb-true (r.first + r.whole) (length bytes) fits in
            let lying : lies bytes r ≡ true = rw is fits in
            ap₂ (λ (x : Bool) (n : ℕ). x && leb n longest) lying (leaf_size inside) ∙ lt-leb r.whole longest (long inside)
        go false out = ap (λ (x : Bool). x && leb (whole_of (piece_of bytes r) inner) longest) lying
          where
            lying : lies bytes r ≡ false
            lying = rw is out

    pub leaf_whole : r.first + r.whole ≤ length bytes → r.whole ≤ longest → Whole bytes r inner (Some r.whole)
    leaf_whole fits short = (rw is (le-leb (r.first + r.whole) (length bytes) fits), sym (leaf_size fits), short)
