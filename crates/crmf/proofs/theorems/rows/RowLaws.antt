-- What the table of an accepted batch's rows keeps: the batch is row 0 and its own parent, rows ascend strictly by first byte, each other
-- row's parent is an earlier row and a container's, and its bytes lie within the parent's. Assumes nothing.
use Prim.Native.Nat.{ℕ, zero, suc, ◌+◌, ◌≤◌, ◌<◌}
use native.Mathlib.Omega.{arith}
use mathlib.Core.Path.{◌≡◌, refl, sym, ◌∙◌, ap, ap₂, subst}
use mathlib.Core.Bool.{Bool, true, false, ◌||◌}
use mathlib.Core.List.{List, [], ◌∷◌, ◌++◌, append-nil}
use lib.ListN.{length, get_or, take as upto, length-append, length-take}
use lib.Seq.{get_or-take}
use Rattle.der.specs.meaning.Identifier.{constructed}
use Rattle.der.specs.meaning.Tree.{Tree, none, element, header, encode, WellFormed, Formed}
use Rattle.der.proofs.Laws.{header_some, encode_none, encode_length, well_formed_none, well_formed_deep, well_formed_element}
use Rattle.crmf.specs.meaning.Kinds as kinds
use Rattle.crmf.specs.meaning.Notation.{among, Top, Batch, Inside, Form, once, part, Parts, done, ◌then◌, holding, row}
use Rattle.crmf.specs.meaning.Grammar.{content}
use Rattle.crmf.specs.meaning.Language.{parts_after, OneOf, first, Matches, end, pass, take, choose, Within, unseen, parts}
use Rattle.crmf.specs.meaning.Rows.{Row, Extent, header_length, extent_of, no_extent, row_with, container, rows, rows_in, batch_rows}
use Rattle.crmf.proofs.theorems.grammar.Choices.{never_both}
use Rattle.crmf.proofs.theorems.values.ValueRules.{way_selected}
use Rattle.crmf.proofs.theorems.rows.RowsOfLines.{rows_one}
use Rattle.crmf.proofs.theorems.grammar.Containers.{bears_if, early, early_in, gives_item, right, right_in, item_given, right_content, right_way, right_part}
use Rattle.crmf.proofs.theorems.rows.RowsInPlace.{absent_row, before_at, Fit, Fits, fits_at, Laid, Room, room_less, Early, early_less, one_laid}

-- one of two holds if the second does
pub or_true : (a b : Bool) → b ≡ true → (a || b) ≡ true
or_true true b e = refl
or_true false b e = e

-- and if the first does
pub or_first : (a b : Bool) → a ≡ true → (a || b) ≡ true
or_first true b e = refl
or_first false b e = never_both false e refl

-- What a well-formed element says of its places: where it stands, where its inside starts and ends, and the elements after it. Its content
-- begins with the elements inside: nothing is beyond them if it is constructed, and there are none if it is primitive.
pub record Standing (left q id p w : ℕ) (c : List ℕ) (inside rest : Tree) : Type 0 where
  pub at : p ≡ q
  pub sized : w ≡ length (header id c ++ c)
  pub deeper : ℕ
  pub within : WellFormed deeper (p + length (header id c)) inside
  pub beyond : List ℕ
  pub filled : c ≡ encode inside ++ beyond
  pub starts : p < p + length (header id c)
  pub holds : p + length (header id c) + length (encode inside) ≤ p + w
  pub further : WellFormed left (p + w) rest
  pub ends : p + w + length (encode rest) ≡ q + length (encode (element id p w c inside rest))

module _ (q id p w : ℕ) (c : List ℕ) (inside rest : Tree) where
  -- an element says so if its inside is well-formed and its content begins with that
  stands_at : (left deeper : ℕ) → p ≡ q → w ≡ length (header id c ++ c) → WellFormed deeper (q + length (header id c)) inside
      → (beyond : List ℕ) → c ≡ encode inside ++ beyond → WellFormed left (q + w) rest → Standing left q id p w c inside rest
  stands_at left deeper at sized within beyond filled further =
      record {
        at = at;
        sized = sized;
        deeper = deeper;
        within = rw at within;
        beyond = beyond;
        filled = filled;
        starts = omega (arith, header_some id c);
        holds = omega (arith, length-append (header id c) c, ap length filled, length-append (encode inside) beyond);
        further = rw at further;
        ends = omega (arith, encode_length id p w c inside rest);
      }

  -- so any well-formed element says so
  pub standing : (left : ℕ) → WellFormed left q (element id p w c inside rest) → Standing left q id p w c inside rest
  standing zero wf = absurd (well_formed_deep q id p w c inside rest wf)
  standing (suc left) wf = go (constructed id) refl
    where
      one : Formed q id p w c inside (WellFormed left (q + length (header id c)) inside)
      one = ((well_formed_element left q id p w c inside rest).0 wf).0

      more : WellFormed (suc left) (q + w) rest
      more = ((well_formed_element left q id p w c inside rest).0 wf).1

      go : (b : Bool) → constructed id ≡ b → Standing (suc left) q id p w c inside rest
      go true e =
          let (octets, deeper) = one.filled e in
          stands_at (suc left) left one.placed one.sized deeper [] (octets ∙ sym (append-nil (encode inside))) more
      go false e =
          let empty = (one.valued e).0 in
          let nothing : WellFormed left (q + length (header id c)) inside = rw empty (well_formed_none left (q + length (header id c))) in
          let none_inside : encode inside ≡ [] = ap encode empty ∙ encode_none in
          stands_at (suc left) left one.placed one.sized nothing c (rw none_inside) more

mutual
  unfolding rows rows_in rows_one early early_in right_in

  -- The rows of a derivation are in place below a row that leaves room for them, after any others, if the grammar's parts are right there.
  laid : {R : ℕ → Bool} {ps : Parts} {t : Tree} (m : Matches R ps t) (left q : ℕ) → WellFormed left q t → (pre : List Row)
      (n up : ℕ) (extent : Extent) (b : Bool) → length pre ≡ n → right b ps ≡ true → Room pre up b q (q + length (encode t))
      → (early ps ≡ true → Early pre up b extent q (q + length (encode t)))
      → Laid pre (rows m n up extent) (q + length (encode t))
  laid end left q wf pre n up extent b sized ok room given = record { fits = tt; before = tt }
  laid (pass {o = o} {fs = fs} {ps = ps} past m) left q wf pre n up extent b sized ok room given =
      laid m left q wf pre n up extent b sized (right_part b o fs ps ok).past room (λ y. given (or_true (gives_item fs) (early ps) y))
  laid (take {o = o} {fs = fs} {ps = ps} {id = id} {first = p} {whole = w} {c = c} {inside = inside} {rest = rest} f among fits read kept within m)
      left q wf pre n up extent b sized ok room given =
      let s = standing q id p w c inside rest left wf in
      let e = q + length (encode (element id p w c inside rest)) in
      let h = p + length (header id c) in
      let a = h + length (encode inside) in
      let here = extent_of p w c in
      let parts-right = right_part b o fs ps ok in
      let form-right = parts-right.form among in
      let room-here = room_less pre up b q e p e room (omega (arith, s.at)) (omega arith) in
      one_laid f.kind f.item here (λ j u. rows_in within j u here) (λ j. rows m j up extent) pre n up extent b e h a sized room-here
      (omega (arith, s.ends)) s.starts (omega arith) s.holds form-right.item form-right.own
      (λ z.
      early_less pre up b extent q e p e (given (or_first (gives_item fs) (early ps) (item_given among z))) (omega (arith, s.at)) (omega arith))
      (λ new j u long r y. laid_in within s.deeper h s.within new j u here (bears_if f.kind (bears_if f.item b)) long form-right.inside r
      (λ z. y (form-right.late z)))
      (λ new j long r.
      subst (λ (x : ℕ). Laid new (rows m j up extent) x) s.ends
      (laid m left (p + w) s.further new j up extent b long parts-right.after_form
      (room_less new up b (p + w) e (p + w) (p + w + length (encode rest)) r (omega arith) (omega (arith, s.ends)))
      (λ y. never_both (early (parts_after o fs ps)) y parts-right.late)))
  laid (choose {s = s} {names = ns} {id = id} {first = p} {whole = w} {c = c} {inside = inside} {rest = rest} name way m)
      left q wf pre n up extent b sized ok room given =
      let stand = standing q id p w c inside rest left wf in
      let e = q + length (encode (element id p w c inside rest)) in
      let f = p + w + length (encode rest) in
      let (i, is, there) = (way_selected s c ns name).0 way in
      subst (λ (x : ℕ). Laid pre (rows m n up extent) x) stand.ends
      (laid m left (p + w) stand.further pre n up extent b sized (right_way b id i s ns name ok there)
      (room_less pre up b q e (p + w) f room (omega (arith, stand.at)) (omega (arith, stand.ends)))
      (λ y. early_less pre up b extent q e (p + w) f (given refl) (omega (arith, stand.at)) (omega (arith, stand.ends))))

  -- so are the rows inside an element
  laid_in : {R : ℕ → Bool} {i : Inside} {t : Tree} (within : Within R i t) (left q : ℕ) → WellFormed left q t → (pre : List Row)
      (n up : ℕ) (extent : Extent) (b : Bool) → length pre ≡ n → right_in b i ≡ true → Room pre up b q (q + length (encode t))
      → (early_in i ≡ true → Early pre up b extent q (q + length (encode t)))
      → Laid pre (rows_in within n up extent) (q + length (encode t))
  laid_in unseen left q wf pre n up extent b sized ok room given = record { fits = tt; before = tt }
  laid_in (parts {n = name} m) left q wf pre n up extent b sized ok room given =
      laid m left q wf pre n up extent b sized (right_content b name ok) room given

-- the length of the first element's header
unfoldable pub first_header : Tree → ℕ
first_header none = 0
first_header (element id p w c inside rest) = length (header id c)

-- the row of a batch that is such a tree
abbrev pub batch_row : Tree → Row
batch_row t = record { kind = kinds.batch; first = 0; whole = length (encode t); parent = 0; content = first_header t }

-- Rows that begin with the batch's, and the others in place after it.
record Batched (rs : List Row) (t : Tree) : Type 0 where
  more : List Row
  table : rs ≡ batch_row t ∷ more
  fits : Fits (batch_row t ∷ []) more

-- the one form of a list
pub only_form : {f g : Form} → OneOf f (g ∷ []) → f ≡ g
only_form first = refl
only_form {f = f} {g = g} (Rattle.crmf.specs.meaning.Language.later x3) = elim x3 [ ]

-- no parts describe no elements, which have no rows
pub nothing_left : {R : ℕ → Bool} {t : Tree} (m : Matches R done t) (n up : ℕ) (extent : Extent) → (t ≡ none) × (rows m n up extent ≡ [])
unfolding rows
nothing_left end n up extent = (refl, refl)

-- the batch's form
abbrev pub batch_form : Form
batch_form = row kinds.batch (holding 0x30 Batch)

-- the rows of the batch's element begin so
batch_first : {R : ℕ → Bool} {inside rest : Tree} (id p w : ℕ) (c : List ℕ) (f : Form) → f ≡ batch_form → (within : Within R f.inside inside)
    (m : Matches R done rest) (left : ℕ) → WellFormed left 0 (element id p w c inside rest)
    → Batched (rows_one f.kind f.item (extent_of p w c) (λ j u. rows_in within j u (extent_of p w c)) (λ j. rows m j 0 no_extent) 0 0 no_extent)
    (element id p w c inside rest)
unfolding rows_one first_header container among right_in early early_in content gives_item
batch_first {inside = inside} {rest = rest} id p w c f same within m left wf =
    let s = standing 0 id p w c inside rest left wf in
    let t = element id p w c inside rest in
    let h = p + length (header id c) in
    let a = h + length (encode inside) in
    let extent = extent_of p w c in
    let own : Row = row_with kinds.batch extent 0 in
    let inner = rows_in within 1 0 extent in
    let kind : f.kind ≡ kinds.batch = ap (λ (g : Form). g.kind) same in
    let item : f.item ≡ 0 = ap (λ (g : Form). g.item) same in
    let in-form = ap (λ (g : Form). g.inside) same in
    let after = nothing_left m (1 + length inner) 0 no_extent in
    let ended : length (encode rest) ≡ 0 = ap (λ (x : Tree). length (encode x)) after.0 ∙ ap length encode_none in
    let here : own ≡ batch_row t =
    ap₂ (λ (x y : ℕ). record { kind = kinds.batch; first = x; whole = y; parent = 0; content = x + header_length w c }) s.at (omega (arith, s.at, s.ends))
    ∙ ap (λ (n : ℕ). record { kind = kinds.batch; first = 0; whole = length (encode t); parent = 0; content = n }) (omega (arith, s.sized, length-append (header id c) c)) in
    let room : Room (own ∷ []) 0 true h a =
    record { there = omega arith; bears = λ e. refl; low = omega (arith, s.starts); high = s.holds; before = (s.starts, tt) } in
    let in_place = laid_in within s.deeper h s.within (own ∷ []) 1 0 extent true refl (rw in-form) room
    (λ y. never_both (early_in f.inside) y (rw in-form)) in
    record {
      more = inner;
      table = rw (kind, item) (rw (after.1, append-nil) (ap (λ (r : Row). r ∷ inner) here));
      fits = subst (λ (r : Row). Fits (r ∷ []) inner) here in_place.fits;
    }

-- a batch's rows begin so
batched : {R : ℕ → Bool} {t : Tree} (m : Matches R (part once (batch_form ∷ []) then done) t) (left : ℕ) → WellFormed left 0 t
    → Batched (rows m 0 0 no_extent) t
unfolding rows rows_one
batched (pass past m) left wf = absurd past
batched (take {id = id} {first = p} {whole = w} {c = c} f among fits read kept within m) left wf =
    batch_first id p w c f (only_form among) within m left wf

-- A row's bytes lie within another's: its first byte, and its first byte with its whole length.
pub record Inner (outer r : Row) : Type 0 where
  pub low : outer.first ≤ r.first
  pub high : r.first + r.whole ≤ outer.first + outer.whole

module _ {R : ℕ → Bool} {t : Tree} (m : Matches R (content Top) t) (left : ℕ) (wf : WellFormed left 0 t) where
  -- the batch's rows begin with its own
  top : Batched (batch_rows m) t
  unfolding content batch_rows
  top = batched m left wf

  -- Row 0 is the batch: kind 1, from byte 0 on, the batch's whole length, its own parent, and its content after its header.
  pub row_zero : get_or (batch_rows m) 0 absent_row
      ≡ record { kind = kinds.batch; first = 0; whole = length (encode t); parent = 0; content = first_header t }
  row_zero = ap (λ (rs : List Row). get_or rs 0 absent_row) top.table

  -- There is such a row.
  pub rows_some : 0 < length (batch_rows m)
  rows_some = omega (arith, ap length top.table)

  -- row 0 is its own parent
  own_parent : get_or (batch_rows m) (get_or (batch_rows m) 0 absent_row).parent absent_row ≡ get_or (batch_rows m) 0 absent_row
  own_parent = ap (λ (r : Row). get_or (batch_rows m) r.parent absent_row) row_zero

  -- each other row is in place after the rows before it
  pub row_fits : (i : ℕ) → 0 < i → i < length (batch_rows m) → Fit (upto i (batch_rows m)) (get_or (batch_rows m) i absent_row)
  row_fits zero l there = absurd (omega arith)
  row_fits (suc i) l there =
      let more = top.more in
      subst (λ (rs : List Row). Fit (upto (suc i) rs) (get_or rs (suc i) absent_row)) (sym top.table)
      (fits_at (batch_row t ∷ []) more top.fits i (omega (arith, ap length top.table)))

  -- a row before another, in the table up to that other
  earlier : (i j : ℕ) → i < j → get_or (upto j (batch_rows m)) i absent_row ≡ get_or (batch_rows m) i absent_row
  earlier i j l = get_or-take j (batch_rows m) i absent_row l

  -- Rows ascend strictly by first byte.
  pub rows_ascend : (i j : ℕ) → i < j → j < length (batch_rows m)
      → (get_or (batch_rows m) i absent_row).first < (get_or (batch_rows m) j absent_row).first
  rows_ascend i j l there =
      let q = (get_or (batch_rows m) j absent_row).first in
      let fit = row_fits j (omega arith) there in
      let below = before_at q (upto j (batch_rows m)) fit.ordered i (omega (arith, length-take j (batch_rows m))) in
      subst (λ (r : Row). r.first < q) (earlier i j l) below

  -- Each other row's parent is an earlier row.
  pub row_parent : (i : ℕ) → 0 < i → i < length (batch_rows m) → (get_or (batch_rows m) i absent_row).parent < i
  row_parent i l there = omega (arith, (row_fits i l there).parented, length-take i (batch_rows m))

  -- Each row's parent is a container's.
  pub parent_container : (i : ℕ) → i < length (batch_rows m)
      → container (get_or (batch_rows m) (get_or (batch_rows m) i absent_row).parent absent_row).kind ≡ true
  unfolding container among
  parent_container zero there = subst (λ (r : Row). container r.kind ≡ true) (sym (own_parent ∙ row_zero)) refl
  parent_container (suc i) there =
      let up = (get_or (batch_rows m) (suc i) absent_row).parent in
      let l : 0 < suc i = omega arith in
      subst (λ (r : Row). container r.kind ≡ true) (earlier up (suc i) (row_parent (suc i) l there)) (row_fits (suc i) l there).held

  -- Each row's bytes lie within its parent's.
  pub row_within : (i : ℕ) → i < length (batch_rows m)
      → Inner (get_or (batch_rows m) (get_or (batch_rows m) i absent_row).parent absent_row) (get_or (batch_rows m) i absent_row)
  row_within zero there =
      let r = get_or (batch_rows m) 0 absent_row in
      subst (λ (x : Row). Inner x r) (sym own_parent) (record { low = omega arith; high = omega arith })
  row_within (suc i) there =
      let r = get_or (batch_rows m) (suc i) absent_row in
      let l : 0 < suc i = omega arith in
      let fit = row_fits (suc i) l there in
      subst (λ (x : Row). Inner x r) (earlier r.parent (suc i) (row_parent (suc i) l there)) (record { low = fit.low; high = fit.high })
