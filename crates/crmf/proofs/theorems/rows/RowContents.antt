-- The fifth number of every row is right: it is the first byte of the row's element and the length of the element's header, since a
-- well-formed element has exactly its header before its content. And octets determine it: where two rows point at the same octets and one is
-- right, the other is exactly if both contents are equally far from the rows' first bytes. Assumes nothing.
use Prim.Native.Nat.{ℕ, ◌+◌, ◌-◌, ◌≤◌}
use native.Mathlib.Omega.{arith}
use mathlib.Core.Path.{◌≡◌, refl, sym, ap, subst, ◌∙◌}
use mathlib.Core.Logic.{⊎_elim}
use mathlib.Core.Bool.{Bool, true, false}
use mathlib.Core.List.Memᴰ
use mathlib.Core.List.{List, [], ◌∷◌, ◌++◌, Memᴰ}
use lib.Dec.{eqb}
use lib.ListN.{length, length-append}
use lib.Seq.{slice, take-length}
use Rattle.der.specs.meaning.Bounds.{longest}
use Rattle.der.specs.meaning.Tree.{Tree, header, encode, WellFormed}
use Rattle.der.proofs.Laws.{header_some, header_same}
use Rattle.crmf.specs.meaning.Notation.{Top, Inside, once, optional, repeated, Occurs, part, Parts, ◌then◌, Form}
use Rattle.crmf.specs.meaning.Grammar.{content}
use Rattle.crmf.specs.meaning.Language.{parts_after, Matches, end, pass, take, choose, Within, unseen, parts}
use Rattle.crmf.specs.meaning.Rows.{Row, Extent, extent_of, no_extent, row_with, row_if, parent_if, rows, rows_in, batch_rows, RightContent}
use Rattle.crmf.specs.meaning.Fields.{StandsAt}
use Rattle.crmf.proofs.theorems.grammar.Choices.{never_both}
use Rattle.crmf.proofs.theorems.grammar.Containers.{early, gives_item, item_given}
use Rattle.crmf.proofs.theorems.rows.RowsOfLines.{rows_one, row_none, row_own}
use Rattle.crmf.proofs.theorems.rows.RowLaws.{standing, or_true, or_first}
use Rattle.crmf.proofs.theorems.pieces.ShownPieces.{shown}

-- each row's fifth number is right
abbrev Right : List ℕ → List Row → Type 0
Right s rs = (r : Row) → Memᴰ r rs → RightContent s r

-- An element stands at an extent, with its content after its header.
record RightExtent (s : List ℕ) (x : Extent) : Type 0 where
  identifier : ℕ
  octets : List ℕ
  stands : slice x.first (x.first + x.whole) s ≡ header identifier octets ++ octets
  starts : x.content ≡ x.first + length (header identifier octets)

-- elements that may give the element around them a row may do so after another element too
early_after : (o : Occurs) (fs : List Form) (ps : Parts) → early (parts_after o fs ps) ≡ true → early (part o fs then ps) ≡ true
unfolding early
early_after once fs ps e = or_true (gives_item fs) (early ps) e
early_after optional fs ps e = or_true (gives_item fs) (early ps) e
early_after repeated fs ps e = e

-- no element gives the batch a row
none_above : early (content Top) ≡ false
unfolding early content gives_item
none_above = refl

module _ (s : List ℕ) where
  -- rows and rows after them
  right_append : (a b : List Row) → Right s a → Right s b → Right s (a ++ b)
  right_append a b first second r at = ⊎_elim (first r) (second r) (Memᴰ.append_cases a at)

  -- the row of an element, if it has one
  row_right : (kind : ℕ) (x : Extent) (up : ℕ) → (eqb kind 0 ≡ false → RightExtent s x) → Right s (row_if kind x up)
  row_right kind x up given = go (eqb kind 0) refl
    where
      own : RightExtent s x → Right s (row_with kind x up ∷ [])
      own e r at =
          rw (Memᴰ.eq_of_singleton at)
          (record { identifier = e.identifier; octets = e.octets; stands = e.stands; starts = e.starts })

      go : (b : Bool) → eqb kind 0 ≡ b → Right s (row_if kind x up)
      go true z = subst (Right s) (sym (row_none kind x up z)) (λ r at. absurd (Memᴰ.not-nil at))
      go false z = subst (Right s) (sym (row_own kind x up z)) (own (given z))

  -- an element's rows, those inside it and those after it
  one_right : (kind item : ℕ) (here : Extent) (inner : ℕ → ℕ → List Row) (later : ℕ → List Row) (n up : ℕ) (extent : Extent)
      → (eqb item 0 ≡ false → RightExtent s extent) → RightExtent s here → ((j u : ℕ) → Right s (inner j u)) → ((j : ℕ) → Right s (later j))
      → Right s (rows_one kind item here inner later n up extent)
  unfolding rows_one
  one_right kind item here inner later n up extent given own within further =
      let around = row_if item extent up in
      let above = parent_if item n up in
      let row = row_if kind here above in
      let next = n + length around in
      let inside = inner (next + length row) (parent_if kind next above) in
      let rest = later (next + length row + length inside) in
      right_append around (row ++ (inside ++ rest)) (row_right item extent up given)
      (right_append row (inside ++ rest) (row_right kind here above (λ z. own))
      (right_append inside rest (within (next + length row) (parent_if kind next above)) (further (next + length row + length inside))))

  mutual
    unfolding rows rows_in rows_one early

    -- The rows of elements that stand in some octets are right, if the extent around them is where they may give it a row.
    rows_right : {R : ℕ → Bool} {ps : Parts} {t : Tree} (m : Matches R ps t) (left q : ℕ) → WellFormed left q t → StandsAt s q (encode t)
        → (n up : ℕ) (extent : Extent) → (early ps ≡ true → RightExtent s extent) → Right s (rows m n up extent)
    rows_right end left q wf there n up extent given = λ r at. absurd (Memᴰ.not-nil at)
    rows_right (pass {fs = fs} {ps = ps} ok m) left q wf there n up extent given =
        rows_right m left q wf there n up extent (λ y. given (or_true (gives_item fs) (early ps) y))
    rows_right (take {o = o} {fs = fs} {ps = ps} {id = id} {first = p} {whole = w} {c = c} {inside = inside} {rest = rest} f among fits read kept within m)
        left q wf there n up extent given =
        let here = extent_of p w c in
        let stand = standing q id p w c inside rest left wf in
        let show = shown s left q id p w c inside rest stand there in
        let own : RightExtent s here =
        record {
          identifier = id;
          octets = c;
          stands = show.own;
          starts = omega (arith, stand.sized, length-append (header id c) c);
        } in
        one_right f.kind f.item here (λ j u. rows_in within j u here) (λ j. rows m j up extent) n up extent
        (λ z. given (or_first (gives_item fs) (early ps) (item_given among z))) own
        (λ j u. inside_right within stand.deeper (p + length (header id c)) stand.within show.within j u here own)
        (λ j. rows_right m left (p + w) stand.further show.further j up extent (λ y. given (early_after o fs ps y)))
    rows_right (choose {id = id} {first = p} {whole = w} {c = c} {inside = inside} {rest = rest} name way m) left q wf there n up extent given =
        let stand = standing q id p w c inside rest left wf in
        let show = shown s left q id p w c inside rest stand there in
        rows_right m left (p + w) stand.further show.further n up extent (λ y. given refl)

    -- so are those inside an element
    inside_right : {R : ℕ → Bool} {i : Inside} {t : Tree} (within : Within R i t) (left q : ℕ) → WellFormed left q t → StandsAt s q (encode t)
        → (n up : ℕ) (extent : Extent) → RightExtent s extent → Right s (rows_in within n up extent)
    inside_right unseen left q wf there n up extent own = λ r at. absurd (Memᴰ.not-nil at)
    inside_right (parts m) left q wf there n up extent own = rows_right m left q wf there n up extent (λ y. own)

-- "It is right for every row": of every row of a batch.
pub row_content_lem : {R : ℕ → Bool} {t : Tree} (m : Matches R (content Top) t) (left : ℕ) → WellFormed left 0 t → (s : List ℕ) → encode t ≡ s
    → (r : Row) → Memᴰ r (batch_rows m) → RightContent s r
unfolding batch_rows
row_content_lem {t = t} m left wf s same =
    let there : StandsAt s 0 (encode t) = rw same (take-length s) in
    rows_right s m left 0 wf there 0 0 no_extent (λ y. never_both (early (content Top)) y none_above)

-- Two rows, each over octets of its own, point at the same octets.
module _ (s u : List ℕ) (r q : Row) (alike : slice r.first (r.first + r.whole) s ≡ slice q.first (q.first + q.whole) u) where
  -- If both are right, their contents are equally far from their first bytes.
  pub content_same : length (slice q.first (q.first + q.whole) u) ≤ longest → RightContent s r → RightContent u q
      → r.content - r.first ≡ q.content - q.first
  content_same short a b =
      let x = header a.identifier a.octets ++ a.octets in
      let y = header b.identifier b.octets ++ b.octets in
      let same : x ≡ y = sym a.stands ∙ alike ∙ b.stands in
      let size = length-append (header a.identifier a.octets) a.octets in
      let other = length-append (header b.identifier b.octets) b.octets in
      let equal = ap length same in
      let whole = ap length b.stands in
      let heads = header_same a.identifier b.identifier a.octets b.octets same (omega arith) (omega arith) in
      omega (arith, a.starts, b.starts, heads)

  -- If one is right and their contents are equally far from their first bytes, so is the other.
  pub content_right : RightContent u q → r.content - r.first ≡ q.content - q.first → RightContent s r
  content_right b far =
      record {
        identifier = b.identifier;
        octets = b.octets;
        stands = alike ∙ b.stands;
        starts = omega (arith, far, b.starts, header_some b.identifier b.octets);
      }
