-- The rows of a batch stand as a merge asks, and each can be read back from the number that it is packed into. Assumes nothing.
use Prim.Native.Nat.{ℕ, ◌+◌, ◌≤◌, ◌<◌}
use native.Mathlib.Omega.{arith}
use mathlib.Core.Path.{◌≡◌, sym, ap, subst, ◌∙◌}
use mathlib.Core.Bool.{false, false≢true}
use mathlib.Core.List.{List}
use lib.ListN.{length, get_or, take}
use Rattle.der.specs.meaning.Bounds.{longest}
use Rattle.der.specs.meaning.Refusal.{accepted}
use Rattle.crmf.specs.meaning.Kinds as kinds
use Rattle.crmf.specs.meaning.Rows.{Row, batch_rows}
use Rattle.crmf.specs.steps.rows.Fill.{rows_of_input}
use Rattle.crmf.specs.steps.rows.Packing.{pack_row, packed_rows, kind_of, first_of, whole_of, parent_of}
use Rattle.crmf.specs.meaning.Lists.{over}
use Rattle.crmf.proofs.Laws.{row_zero, rows_some, row_parent, parent_container, rows_nested, kinds_ascend, rows_few, row_ends, packed_at, packed_length, packed_row, packed_all}
use Rattle.editions.specs.meaning.Membership.{InGrammar}
use Rattle.editions.specs.meaning.Answers.{Answers}
use Rattle.editions.proofs.Laws.{nest_rows, acceptance_shows}
use Rattle.compare.specs.meaning.Counterparts.{row_at, by_position}
use Rattle.compare.specs.steps.Arranged.{Arranged}
use Rattle.compare.specs.steps.Tables.{Tabled, ReadBack, Ready}

-- a kind whose children aren't matched by position is neither controls' nor regInfo's
not_controls : (k : ℕ) → by_position k ≡ false → k ≡ kinds.controls → ⊥
unfolding by_position
not_controls k by same = false≢true (sym by ∙ ap by_position same)

not_reg_info : (k : ℕ) → by_position k ≡ false → k ≡ kinds.reg_info → ⊥
unfolding by_position
not_reg_info k by same = false≢true (sym by ∙ ap by_position same)

module _ {e : ℕ} {s : List ℕ} (g : InGrammar e s) where
  -- the rows of a batch stand so
  pub in_place : Arranged s (batch_rows g.batch)
  in_place =
      let rs = batch_rows g.batch in
      record {
        some = rows_some g.batch _ g.formed;
        batch = ap (λ (r : Row). r.kind) (row_zero g.batch _ g.formed);
        own = ap (λ (r : Row). r.parent) (row_zero g.batch _ g.formed);
        earlier = row_parent g.batch _ g.formed;
        held = parent_container g.batch _ g.formed;
        nested = rows_nested g.batch;
        ascends = λ i j some before there up by. kinds_ascend g.batch i j some before there up (not_controls _ by) (not_reg_info _ by);
        within = λ i there. subst (λ (l : List ℕ). (row_at rs i).first + (row_at rs i).whole ≤ length l) g.encoded (row_ends g.batch _ g.formed i there);
      }

  -- The rows that reading finds in a batch stand so.
  pub arranged : Arranged s (rows_of_input s)
  arranged = subst (Arranged s) (sym (nest_rows s g)) in_place

  -- and each is read back from its number
  read_back : (i : ℕ) → i < length (rows_of_input s) → ReadBack (row_at (rows_of_input s) i)
  read_back i there =
      let at = subst (λ (rs : List Row). i < length rs) (nest_rows s g) there in
      let few = subst (λ (l : List ℕ). length l ≤ longest) (sym g.encoded) g.short in
      let fields = packed_row g.batch _ g.formed few i at in
      subst (λ (rs : List Row). ReadBack (row_at rs i)) (sym (nest_rows s g))
      (record { kind = fields.0; first = fields.1; whole = fields.2; parent = fields.3 })

-- A batch that is accepted can be put into a table of its count of rows.
pub ready : {e : ℕ} {s : List ℕ} {number place count : ℕ} → Answers e s number place count → number ≡ accepted → Ready s count
ready {s = s} answered zero =
    let shown = acceptance_shows answered zero in
    let g = shown.within in
    let counted = sym shown.counted ∙ ap length (sym (nest_rows s g)) in
    let half = rows_few g.batch _ g.formed s g.encoded in
    record {
      arranged = arranged g;
      counted = counted;
      few = omega (arith, half, g.short, shown.counted);
      read_back = λ i there. read_back g i (omega (arith, counted));
    }

-- Its rows, packed, are a table of them.
pub tabled : (s old new : List ℕ) → Ready s (length old) → new ≡ over old 0 (packed_rows (take (length old) (rows_of_input s))) → Tabled s new
tabled s old new r is =
    let rs = rows_of_input s in
    let all : new ≡ packed_rows rs = is ∙ packed_all s old r.counted in
    let sized : length new ≡ length rs = ap length all ∙ packed_length rs in
    let at : (i : ℕ) → i < length new → get_or new i 0 ≡ pack_row (row_at rs i) = λ i there. ap (λ (l : List ℕ). get_or l i 0) all ∙ packed_at rs i (omega (arith, sized)) in
    let back : (i : ℕ) → i < length new → ReadBack (row_at rs i) = λ i there. r.read_back i (omega (arith, sized, r.counted)) in
    record {
      arranged = r.arranged;
      sized = sized;
      kinds = λ i there. ap kind_of (at i there) ∙ (back i there).kind;
      firsts = λ i there. ap first_of (at i there) ∙ (back i there).first;
      wholes = λ i there. ap whole_of (at i there) ∙ (back i there).whole;
      parents = λ i there. ap parent_of (at i there) ∙ (back i there).parent;
      few = omega (arith, sized, r.counted, r.few);
    }
