-- In every container but controls and regInfo the kinds of the children ascend. The grammar's tests say it of the rows that parts give the row
-- above; the rows inside an element are below its own row, and those after it are below none of these. Assumes nothing.
use Prim.Native.Nat.{ℕ, ◌+◌, ◌≤◌, ◌<◌}
use native.Mathlib.Omega.{arith}
use mathlib.Core.Path.{◌≡◌, refl, sym, ◌∙◌, ap}
use mathlib.Core.Bool.{Bool, true, false}
use mathlib.Core.List.{List, [], ◌∷◌}
use mathlib.Core.Logic.{⊎_elim}
use lib.Dec.{eqb}
use lib.ListN.{length, get_or}
use Rattle.der.specs.meaning.Tree.{Tree}
use Rattle.crmf.specs.meaning.Kinds as kinds
use Rattle.crmf.specs.meaning.Notation.{Top, Inside, Form, once, part, Parts, done, ◌then◌}
use Rattle.crmf.specs.meaning.Grammar.{content}
use Rattle.crmf.specs.meaning.Language.{OneOf, first, Matches, end, pass, take, choose, Within, unseen, parts}
use Rattle.crmf.specs.meaning.Rows.{Row, Extent, extent_of, no_extent, rows, rows_in, batch_rows}
use Rattle.crmf.proofs.theorems.lists.Tests.{all_get_elem}
use Rattle.crmf.proofs.theorems.values.ValueRules.{way_selected}
use Rattle.crmf.proofs.theorems.grammar.Choices.{never_both}
use Rattle.crmf.proofs.theorems.grammar.Containers.{all_forms, quiet, quiet_to, quiet_parts, quiet_in, or_second}
use Rattle.crmf.proofs.theorems.grammar.AscendingKinds.{loose, not_loose, loose_if, loose_none, loose_own, form_from, kinds_from, ascends, ordered_in, FormFrom, from_part, Orderly, orderly_content, orderly_way, orderly_part}
use Rattle.crmf.proofs.theorems.rows.RowsInPlace.{absent_row}
use Rattle.crmf.proofs.theorems.rows.RowsOfLines.{rows_one}
use Rattle.crmf.proofs.theorems.rows.RowLaws.{batch_form, nothing_left}
use Rattle.crmf.proofs.theorems.rows.QuietParts.{no_rows_in}
use Rattle.crmf.proofs.theorems.rows.RowsInTable.{Stands, Placed, none, own, placed_order, Taken, taken, stands_itself}
use Rattle.crmf.proofs.theorems.rows.RowsNested.{before_or_from, Run, run_row, run_inside, run_element, run_later, runs, runs_in}

module _ (table : ℕ → Row) where
  -- an element's own row, if it has one, says whether the kinds inside it need not ascend
  placed_loose : {kind n up s u : ℕ} → Placed table kind n up s u → loose (table u).kind ≡ loose_if kind (loose (table up).kind)
  placed_loose {kind = kind} {up = up} (none z next same) = ap (λ (k : ℕ). loose (table k).kind) same ∙ sym (loose_none kind (loose (table up).kind) z)
  placed_loose {kind = kind} {up = up} (own z is parent next same) =
      ap (λ (k : ℕ). loose (table k).kind) same ∙ ap loose is ∙ sym (loose_own kind (loose (table up).kind) z)

  -- the only row that an element gives the row above is its own, where the grammar says so
  only_own : (low : ℕ) (f : Form) {inner : ℕ → ℕ → List Row} {later : ℕ → List Row} {n up e : ℕ} (x : Taken table f.kind f.item inner later n up e)
      → up < n → FormFrom low f → (quiet_in quiet f.inside ≡ true → inner x.start x.below ≡ []) → Run table x.start x.after x.below
      → (k : ℕ) → n ≤ k → k < x.after → (table k).parent ≡ up → ((table k).kind ≡ f.kind) × (low ≤ f.kind)
  only_own low f {inner = inner} {n = n} {up = up} x l says empty run k from before is = go x.around x.own
    where
      go : Placed table f.item n up x.next x.above → Placed table f.kind x.next x.above x.start x.below
          → ((table k).kind ≡ f.kind) × (low ≤ f.kind)
      go (own z kind parent next same) y = never_both (eqb f.item 0) says.item z
      go (none z next same) (none y start below) =
          absurd (omega (arith, x.ends, ap length (empty (says.bare y))))
      go (none z next same) (own y kind parent start below) =
          ⊎_elim (λ here. (ap (λ (j : ℕ). (table j).kind) (omega arith) ∙ kind, says.least y)) (λ inside. absurd (omega (arith, (run.each k inside before).low)))
          (before_or_from k x.start)

  -- the rows that parts give the row above are of at least the kind that the grammar says
  least : {R : ℕ → Bool} {ps : Parts} {t : Tree} (m : Matches R ps t) (low n up : ℕ) (extent : Extent) → up < n → kinds_from low ps ≡ true
      → Stands table n (rows m n up extent) → (k : ℕ) → n ≤ k → k < n + length (rows m n up extent) → (table k).parent ≡ up → low ≤ (table k).kind
  unfolding rows rows_in rows_one kinds_from quiet_in
  least end low n up extent l ok stand k from before is = absurd (omega arith)
  least (pass {o = o} {fs = fs} {ps = ps} past m) low n up extent l ok stand k from before is =
      least m low n up extent l (from_part low o fs ps ok).past stand k from before is
  least (take {o = o} {fs = fs} {ps = ps} {first = p} {whole = w} {c = c} f among fits read kept within m) low n up extent l ok stand k from before is =
      let here = extent_of p w c in
      let says = from_part low o fs ps ok in
      let x = taken table f.kind f.item here (λ j u. rows_in within j u here) (λ j. rows m j up extent) n up extent stand in
      let inside = run_inside table (omega arith) x (λ j u le stands. runs_in table within j u here le stands) in
      ⊎_elim
      (λ first.
      let mine = only_own low f x l (says.form among) (λ q. no_rows_in within q x.start x.below here) inside k from first is in
      omega (arith, mine.0, mine.1))
      (λ later. least m low x.after up extent (omega (arith, x.goes)) says.after_form x.further k later (omega (arith, x.last)) is)
      (before_or_from k x.after)
  least (choose {s = s} {names = ns} {c = c} name way m) low n up extent l ok stand k from before is =
      let (i, chosen, there) = (way_selected s c ns name).0 way in
      absurd (omega (arith, ap length (no_rows_in (parts m) (all_get_elem quiet name ns ok i there) n up extent)))

  -- The kinds of the rows below one row ascend among the rows from n on, before e, unless that row says that they need not.
  abbrev Ascending : ℕ → ℕ → Type 0
  Ascending n e =
      (i j : ℕ) → n ≤ i → i < j → j < e → (table i).parent ≡ (table j).parent → loose (table (table j).parent).kind ≡ false
      → (table i).kind ≤ (table j).kind

  -- no rows
  ascending_none : (n : ℕ) → Ascending n (n + 0)
  ascending_none n i j from less before same strict = absurd (omega arith)

  -- a row, if there is one, and those inside it
  ascending_row : {kind n up s u : ℕ} (e : ℕ) → up < n → Placed table kind n up s u → Run table s e u → Ascending s e → Ascending n e
  ascending_row e l (none z next below) run inside i j from less before same strict = inside i j (omega arith) less before same strict
  ascending_row {n = n} {s = s} e l (own z is parent next below) run inside i j from less before same strict =
      ⊎_elim
      (λ here.
      let first : (table i).parent ≡ (table n).parent = ap (λ (k : ℕ). (table k).parent) (omega arith) in
      absurd (omega (arith, (run.each j (omega arith) before).low)))
      (λ later. inside i j later less before same strict) (before_or_from i s)

  -- an element's rows and those after it, if the kinds that they give the row above ascend
  ascending_one : {kind item n up e : ℕ} {inner : ℕ → ℕ → List Row} {later : ℕ → List Row} → up < n → (x : Taken table kind item inner later n up e)
      → Run table x.start x.after x.below → Run table x.after e up → Ascending x.start x.after → Ascending x.after e
      → (loose (table up).kind ≡ false → (i j : ℕ) → n ≤ i → i < x.after → (table i).parent ≡ up → x.after ≤ j → j < e → (table j).parent ≡ up
      → (table i).kind ≤ (table j).kind)
      → Ascending n e
  ascending_one {up = up} {e = e} l x inside rest within further across i j from less before same strict =
      let above = (placed_order table x.around).strictly l in
      let own_run = run_row table x.after (omega arith) x.own inside in
      let whole = ascending_row x.after l x.around own_run (ascending_row x.after above x.own inside within) in
      ⊎_elim (λ both. whole i j from less both same strict)
      (λ later.
      ⊎_elim
      (λ first.
      let early = ((run_element table (omega arith) x inside).each i from first).early in
      let below = rest.each j later before in
      let up_there : (table j).parent ≡ up = omega (arith, below.low, below.outer (omega arith)) in
      across (rw up_there at strict) i j from first (same ∙ up_there) later before up_there)
      (λ both. further i j both less before same strict) (before_or_from i x.after))
      (before_or_from j x.after)

  mutual
    unfolding rows rows_in rows_one ordered_in

    -- The kinds of the rows below one row ascend among the rows of a derivation, where its parts are in order.
    ascending : {R : ℕ → Bool} {ps : Parts} {t : Tree} (m : Matches R ps t) (n up : ℕ) (extent : Extent) → up < n
        → Orderly (loose (table up).kind) ps → Stands table n (rows m n up extent) → Ascending n (n + length (rows m n up extent))
    ascending end n up extent l fine stand = ascending_none n
    ascending (pass past m) n up extent l fine stand = ascending m n up extent l (orderly_part fine).past stand
    ascending (take {first = p} {whole = w} {c = c} f among fits read kept within m) n up extent l fine stand =
        let here = extent_of p w c in
        let says = orderly_part fine in
        let x = taken table f.kind f.item here (λ j u. rows_in within j u here) (λ j. rows m j up extent) n up extent stand in
        let inside = run_inside table (omega arith) x (λ j u le stands. runs_in table within j u here le stands) in
        let rest = run_later table (omega arith) x (λ j le stands. runs table m j up extent le stands) in
        let strictly = (placed_order table x.own).strictly ((placed_order table x.around).strictly l) in
        let fine_inside : ordered_in (loose (table x.below).kind) f.inside ≡ true =
        rw (placed_loose x.own, placed_loose x.around) (says.inside among) in
        ascending_one l x inside rest
        (rw x.ends (ascending_in within x.start x.below here strictly fine_inside x.within))
        (rw x.last (ascending m x.after up extent (omega (arith, x.goes)) says.after_form x.further))
        (λ strict i j from first mine later before theirs.
        let (form, kinds-after) = says.form among strict in
        let here-kind = (only_own 0 f x l form (λ q. no_rows_in within q x.start x.below here) inside i from first mine).0 in
        let after-kind = least m f.kind x.after up extent (omega (arith, x.goes)) kinds-after x.further j later (omega (arith, x.last)) theirs in
        omega arith)
    ascending (choose {s = s} {names = ns} {c = c} name way m) n up extent l fine stand =
        let (i, chosen, there) = (way_selected s c ns name).0 way in
        ascending m n up extent l (orderly_way i name fine there) stand

    -- so it is inside an element
    ascending_in : {R : ℕ → Bool} {i : Inside} {t : Tree} (within : Within R i t) (n up : ℕ) (extent : Extent) → up < n
        → ordered_in (loose (table up).kind) i ≡ true → Stands table n (rows_in within n up extent)
        → Ascending n (n + length (rows_in within n up extent))
    ascending_in unseen n up extent l fine stand = ascending_none n
    ascending_in (parts {n = name} m) n up extent l fine stand =
        let b = loose (table up).kind in
        ascending m n up extent l (orderly_content b name (or_second b (ascends (content name)) fine)) stand

  -- the batch's row is row 0, and the rows inside it come after it
  first_row : {s u q v : ℕ} → Placed table kinds.none 0 0 s u → Placed table kinds.batch s u q v → (q ≡ 1) × (v ≡ 0) × ((table 0).kind ≡ kinds.batch)
  first_row (own z is parent next below) p = never_both (eqb kinds.none 0) refl z
  first_row (none z next below) (none y start inside) = never_both (eqb kinds.batch 0) y refl
  first_row (none z next below) (own y is parent start inside) =
      (omega arith, omega arith, ap (λ (k : ℕ). (table k).kind) (sym next) ∙ is)

  -- so the kinds ascend among the rows after it
  batch_ascending : {R : ℕ → Bool} {f : Form} {inside rest : Tree} (here : Extent) → OneOf f (batch_form ∷ []) → (within : Within R f.inside inside)
      (m : Matches R done rest)
      → Stands table 0 (rows_one f.kind f.item here (λ j u. rows_in within j u here) (λ j. rows m j 0 no_extent) 0 0 no_extent)
      → Ascending 1 (0 + length (rows_one f.kind f.item here (λ j u. rows_in within j u here) (λ j. rows m j 0 no_extent) 0 0 no_extent))
  unfolding content loose ordered_in ascends kinds_from form_from all_forms quiet quiet_to quiet_parts quiet_in
  batch_ascending here first within m stand i j from less before same strict =
      let x = taken table kinds.batch kinds.none here (λ j u. rows_in within j u here) (λ j. rows m j 0 no_extent) 0 0 no_extent stand in
      let (start, below, kind) = first_row x.around x.own in
      let ended = ap length (nothing_left m x.after 0 no_extent).1 in
      ascending_in within x.start x.below here (omega arith) (rw (below, kind)) x.within i j (omega arith) less
      (omega (arith, x.ends, x.last)) same strict
  batch_ascending {R = R} {f = f} {inside = inside} {rest = rest} here (Rattle.crmf.specs.meaning.Language.later x9) within m stand i j from less before same strict = elim x9 [ ]

  -- which are the rows of a batch
  top_ascending : {R : ℕ → Bool} {t : Tree} (m : Matches R (part once (batch_form ∷ []) then done) t) → Stands table 0 (rows m 0 0 no_extent)
      → Ascending 1 (0 + length (rows m 0 0 no_extent))
  unfolding rows rows_one
  top_ascending (pass past m) stand = absurd past
  top_ascending (take {first = p} {whole = w} {c = c} f among fits read kept within m) stand = batch_ascending (extent_of p w c) among within m stand

-- In every container but controls and regInfo the kinds of the children ascend (those of a repeated part are the same).
pub kinds_ascend : {R : ℕ → Bool} {t : Tree} (m : Matches R (content Top) t) (i j : ℕ) → 0 < i → i < j → j < length (batch_rows m)
    → (get_or (batch_rows m) i absent_row).parent ≡ (get_or (batch_rows m) j absent_row).parent
    → ((get_or (batch_rows m) (get_or (batch_rows m) j absent_row).parent absent_row).kind ≡ kinds.controls → ⊥)
    → ((get_or (batch_rows m) (get_or (batch_rows m) j absent_row).parent absent_row).kind ≡ kinds.reg_info → ⊥)
    → (get_or (batch_rows m) i absent_row).kind ≤ (get_or (batch_rows m) j absent_row).kind
unfolding content batch_rows
kinds_ascend m i j some l there same controls reg-info =
    let kind = (get_or (batch_rows m) (get_or (batch_rows m) j absent_row).parent absent_row).kind in
    top_ascending (λ k. get_or (batch_rows m) k absent_row) m (stands_itself (batch_rows m)) i j some l (omega arith) same (not_loose kind controls reg-info)
