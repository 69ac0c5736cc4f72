-- The elements that a derivation takes in a form, in order. The form of each passes every test that all forms of the grammar pass; its mark is what
-- occurs; its own row shows it, and its content stands where the row says. Assumes nothing.
use Prim.Native.Nat.{ℕ, ◌+◌, ◌-◌}
use native.Mathlib.Omega.{arith}
use mathlib.Core.Path.{◌≡◌, refl, sym, ap, subst, ◌∙◌}
use mathlib.Core.Logic.{◌⊎◌, inl, inr, ⊎_elim}
use mathlib.Core.Bool.{Bool, true, false, ◌&&◌, and-eq-true_iff}
use mathlib.Core.List.Memᴰ
use mathlib.Core.List.{List, [], ◌∷◌, ◌++◌, Memᴰ}
use lib.Dec.{eqb}
use lib.ListN.{length, length-append, drop}
use lib.Seq.{slice, drop_at, take-length}
use Rattle.der.specs.meaning.Tree.{Tree, header, encode, WellFormed}
use Rattle.der.proofs.Laws.{drop_slice}
use Rattle.crmf.specs.meaning.Notation.{mark_of, Name, names, Inside, Form, part, Parts, done, ◌then◌, select}
use Rattle.crmf.specs.meaning.Grammar.{content}
use Rattle.crmf.specs.meaning.Language.{Matches, end, pass, take, choose, Within, unseen, parts, Occurrence, occurs, occurrences, occurrences_in}
use Rattle.crmf.specs.meaning.Fields.{StandsAt}
use Rattle.crmf.specs.meaning.Rows.{Row, Extent, header_length, extent_of, row_with, row_if, parent_if, rows, rows_in}
use Rattle.crmf.proofs.theorems.lists.Tests.{all}
use Rattle.crmf.proofs.theorems.grammar.Names.{at_each}
use Rattle.crmf.proofs.theorems.grammar.Containers.{all_forms, forms_at, after_element}
use Rattle.crmf.proofs.theorems.rows.RowsOfLines.{row_none, row_own}
use Rattle.crmf.proofs.theorems.rows.RowLaws.{standing}
use Rattle.crmf.proofs.theorems.pieces.ShownPieces.{shown}

-- An element that is taken in a form, by its first byte, whole length and content octets.
pub record TakenElement : Type 0 where
  pub form : Form
  pub first : ℕ
  pub whole : ℕ
  pub octets : List ℕ

-- The elements that a derivation takes, and those inside an element.
unfoldable mutual
  pub takes : {R : ℕ → Bool} {ps : Parts} {t : Tree} → Matches R ps t → List TakenElement
  takes end = []
  takes (pass ok m) = takes m
  takes (take {first = p} {whole = w} {c = c} f among fits read kept within m) =
      record { form = f; first = p; whole = w; octets = c } ∷ (takes_in within ++ takes m)
  takes (choose n way m) = takes m

  pub takes_in : {R : ℕ → Bool} {i : Inside} {t : Tree} → Within R i t → List TakenElement
  takes_in unseen = []
  takes_in (parts m) = takes m

-- a test passes at every form of some parts
unfoldable pub forms_pass : (Form → Bool) → Parts → Bool
forms_pass test done = true
forms_pass test (part o fs then ps) = all_forms test fs && forms_pass test ps
forms_pass test (select id s ns) = true

-- A test that passes at every form of the grammar.
module _ (test : Form → Bool) (everywhere : all (λ n. forms_pass test (content n)) names ≡ true) where
  mutual
    unfolding takes forms_pass

    -- It passes at the form of each element that is taken.
    taken_passes : {R : ℕ → Bool} {ps : Parts} {t : Tree} (m : Matches R ps t) → forms_pass test ps ≡ true → (x : TakenElement) → Memᴰ x (takes m)
        → test x.form ≡ true
    taken_passes end good x at = absurd (Memᴰ.not-nil at)
    taken_passes (pass {fs = fs} {ps = ps} ok m) good x at =
        taken_passes m ((and-eq-true_iff (all_forms test fs) (forms_pass test ps)).0 good).1 x at
    taken_passes (take {o = o} {fs = fs} {ps = ps} f among fits read kept within m) good x at =
        let (own, later) = (and-eq-true_iff (all_forms test fs) (forms_pass test ps)).0 good in
        ⊎_elim (λ here. rw here (forms_at test among own))
        (λ more.
        ⊎_elim (λ inner. inside_passes within x inner) (λ after. taken_passes m (after_element (λ qs. forms_pass test qs ≡ true) o fs ps good later) x after)
        (Memᴰ.append_cases (takes_in within) more))
        (Memᴰ.cases_cons at)
    taken_passes (choose n way m) good x at = taken_passes m (at_each (λ a. forms_pass test (content a)) everywhere n) x at

    inside_passes : {R : ℕ → Bool} {i : Inside} {t : Tree} (w : Within R i t) (x : TakenElement) → Memᴰ x (takes_in w) → test x.form ≡ true
    inside_passes unseen x at = absurd (Memᴰ.not-nil at)
    inside_passes (parts {n = n} m) x at = taken_passes m (at_each (λ a. forms_pass test (content a)) everywhere n) x at

  -- in what a container holds
  pub content_passes : {R : ℕ → Bool} (n : Name) {t : Tree} (m : Matches R (content n) t) (x : TakenElement) → Memᴰ x (takes m) → test x.form ≡ true
  content_passes n m = taken_passes m (at_each (λ a. forms_pass test (content a)) everywhere n)

-- what occurs at such an element
abbrev pub occurs_at : TakenElement → List Occurrence
occurs_at x = occurs (mark_of x.form.marking x.octets) x.first

mutual
  unfolding takes occurrences

  -- What occurs, occurs at an element that is taken,
  pub occurs_taken : {R : ℕ → Bool} {ps : Parts} {t : Tree} (m : Matches R ps t) (o : Occurrence) → Memᴰ o (occurrences m)
      → (x : TakenElement) × Memᴰ x (takes m) × Memᴰ o (occurs_at x)
  occurs_taken end o at = absurd (Memᴰ.not-nil at)
  occurs_taken (pass ok m) o at = occurs_taken m o at
  occurs_taken (take {first = p} {whole = w} {c = c} f among fits read kept within m) o at =
      ⊎_elim (λ here. (record { form = f; first = p; whole = w; octets = c }, Memᴰ.head refl, here))
      (λ more.
      ⊎_elim (λ inner. let (x, there, own) = inside_taken within o inner in (x, Memᴰ.tail (Memᴰ.append_left (takes m) there), own))
      (λ after. let (x, there, own) = occurs_taken m o after in (x, Memᴰ.tail (Memᴰ.append_right (takes_in within) there), own))
      (Memᴰ.append_cases (occurrences_in within) more))
      (Memᴰ.append_cases (occurs (mark_of f.marking c) p) at)
  occurs_taken (choose n way m) o at = occurs_taken m o at

  inside_taken : {R : ℕ → Bool} {i : Inside} {t : Tree} (w : Within R i t) (o : Occurrence) → Memᴰ o (occurrences_in w)
      → (x : TakenElement) × Memᴰ x (takes_in w) × Memᴰ o (occurs_at x)
  inside_taken unseen o at = absurd (Memᴰ.not-nil at)
  inside_taken (parts m) o at = occurs_taken m o at

mutual
  unfolding takes occurrences

  -- and what occurs at one occurs.
  pub taken_occurs : {R : ℕ → Bool} {ps : Parts} {t : Tree} (m : Matches R ps t) (x : TakenElement) (o : Occurrence) → Memᴰ x (takes m)
      → Memᴰ o (occurs_at x) → Memᴰ o (occurrences m)
  taken_occurs end x o at own = absurd (Memᴰ.not-nil at)
  taken_occurs (pass ok m) x o at own = taken_occurs m x o at own
  taken_occurs (take {first = p} {c = c} f among fits read kept within m) x o at own =
      let here = occurs (mark_of f.marking c) p in
      ⊎_elim (λ same. Memᴰ.append_left (occurrences_in within ++ occurrences m) (subst (λ (y : TakenElement). Memᴰ o (occurs_at y)) same own))
      (λ more.
      Memᴰ.append_right here
      (⊎_elim (λ inner. Memᴰ.append_left (occurrences m) (inside_occurs within x o inner own)) (λ after. Memᴰ.append_right (occurrences_in within) (taken_occurs m x o after own))
      (Memᴰ.append_cases (takes_in within) more)))
      (Memᴰ.cases_cons at)
  taken_occurs (choose n way m) x o at own = taken_occurs m x o at own

  inside_occurs : {R : ℕ → Bool} {i : Inside} {t : Tree} (w : Within R i t) (x : TakenElement) (o : Occurrence) → Memᴰ x (takes_in w)
      → Memᴰ o (occurs_at x) → Memᴰ o (occurrences_in w)
  inside_occurs unseen x o at own = absurd (Memᴰ.not-nil at)
  inside_occurs (parts m) x o at own = taken_occurs m x o at own

-- A row shows an element that is taken: its own row.
pub record ShownBy (x : TakenElement) (r : Row) : Type 0 where
  pub kind : r.kind ≡ x.form.kind
  pub first : r.first ≡ x.first
  pub whole : r.whole ≡ x.whole
  pub content : r.content ≡ x.first + header_length x.whole x.octets

-- a row of an element, if it has a kind
in_row : (kind : ℕ) (extent : Extent) (up : ℕ) (r : Row) → Memᴰ r (row_if kind extent up) → r ≡ row_with kind extent up
in_row kind extent up r at = go (eqb kind 0) refl
  where
    go : (b : Bool) → eqb kind 0 ≡ b → r ≡ row_with kind extent up
    go true z = absurd (Memᴰ.not-nil (subst (Memᴰ r) (row_none kind extent up z) at))
    go false z = Memᴰ.eq_of_singleton (subst (Memᴰ r) (row_own kind extent up z) at)

mutual
  unfolding takes rows rows_in

  -- Each row shows an element that is taken, or is the row that such an element gives the one around it,
  pub row_taken : {R : ℕ → Bool} {ps : Parts} {t : Tree} (m : Matches R ps t) (n up : ℕ) (extent : Extent) (r : Row) → Memᴰ r (rows m n up extent)
      → (x : TakenElement) × Memᴰ x (takes m) × (ShownBy x r ⊎ (r.kind ≡ x.form.item))
  row_taken end n up extent r at = absurd (Memᴰ.not-nil at)
  row_taken (pass ok m) n up extent r at = row_taken m n up extent r at
  row_taken (take {first = p} {whole = w} {c = c} f among fits read kept within m) n up extent r at =
      let x : TakenElement = record { form = f; first = p; whole = w; octets = c } in
      let here = extent_of p w c in
      let item = row_if f.item extent up in
      let above = parent_if f.item n up in
      let own = row_if f.kind here above in
      let next = n + length item in
      let inner = rows_in within (next + length own) (parent_if f.kind next above) here in
      ⊎_elim (λ first. (x, Memᴰ.head refl, inr (ap (λ (q : Row). q.kind) (in_row f.item extent up r first))))
      (λ more.
      ⊎_elim
      (λ mine. let same = in_row f.kind here above r mine in (x, Memᴰ.head refl, inl (rw same (record { kind = refl; first = refl; whole = refl; content = refl }))))
      (λ rest.
      ⊎_elim
      (λ inside. let (y, there, shows) = inside_row within _ _ here r inside in (y, Memᴰ.tail (Memᴰ.append_left (takes m) there), shows))
      (λ after. let (y, there, shows) = row_taken m _ up extent r after in (y, Memᴰ.tail (Memᴰ.append_right (takes_in within) there), shows))
      (Memᴰ.append_cases inner rest))
      (Memᴰ.append_cases own more))
      (Memᴰ.append_cases item at)
  row_taken (choose name way m) n up extent r at = row_taken m n up extent r at

  inside_row : {R : ℕ → Bool} {i : Inside} {t : Tree} (w : Within R i t) (n up : ℕ) (extent : Extent) (r : Row) → Memᴰ r (rows_in w n up extent)
      → (x : TakenElement) × Memᴰ x (takes_in w) × (ShownBy x r ⊎ (r.kind ≡ x.form.item))
  inside_row unseen n up extent r at = absurd (Memᴰ.not-nil at)
  inside_row (parts m) n up extent r at = row_taken m n up extent r at

mutual
  unfolding takes rows rows_in

  -- and each element that is taken and has a kind is shown by a row.
  pub taken_row : {R : ℕ → Bool} {ps : Parts} {t : Tree} (m : Matches R ps t) (n up : ℕ) (extent : Extent) (x : TakenElement) → Memᴰ x (takes m)
      → eqb x.form.kind 0 ≡ false → (r : Row) × Memᴰ r (rows m n up extent) × ShownBy x r
  taken_row end n up extent x at some = absurd (Memᴰ.not-nil at)
  taken_row (pass ok m) n up extent x at some = taken_row m n up extent x at some
  taken_row (take {first = p} {whole = w} {c = c} f among fits read kept within m) n up extent x at some =
      let here = extent_of p w c in
      let item = row_if f.item extent up in
      let above = parent_if f.item n up in
      let own = row_if f.kind here above in
      let next = n + length item in
      let start = next + length own in
      let below = parent_if f.kind next above in
      let inner = rows_in within start below here in
      let later = rows m (start + length inner) up extent in
      ⊎_elim
      (λ same. (
        row_with f.kind here above,
        Memᴰ.append_right item
            (Memᴰ.append_left (inner ++ later)
            (subst (Memᴰ (row_with f.kind here above)) (sym (row_own f.kind here above (subst (λ (y : TakenElement). eqb y.form.kind 0 ≡ false) same some))) (Memᴰ.head refl))),
        rw same (record { kind = refl; first = refl; whole = refl; content = refl }),
      ))
      (λ more.
      ⊎_elim
      (λ inside.
      let (r, there, shows) = inside_shown within start below here x inside some in
      (r, Memᴰ.append_right item (Memᴰ.append_right own (Memᴰ.append_left later there)), shows))
      (λ after.
      let (r, there, shows) = taken_row m (start + length inner) up extent x after some in
      (r, Memᴰ.append_right item (Memᴰ.append_right own (Memᴰ.append_right inner there)), shows))
      (Memᴰ.append_cases (takes_in within) more))
      (Memᴰ.cases_cons at)
  taken_row (choose name way m) n up extent x at some = taken_row m n up extent x at some

  inside_shown : {R : ℕ → Bool} {i : Inside} {t : Tree} (w : Within R i t) (n up : ℕ) (extent : Extent) (x : TakenElement) → Memᴰ x (takes_in w)
      → eqb x.form.kind 0 ≡ false → (r : Row) × Memᴰ r (rows_in w n up extent) × ShownBy x r
  inside_shown unseen n up extent x at some = absurd (Memᴰ.not-nil at)
  inside_shown (parts m) n up extent x at some = taken_row m n up extent x at some

-- An element that stands at a place has its content there after its header.
content_stands : (s : List ℕ) (id first whole : ℕ) (c : List ℕ) → whole ≡ length (header id c ++ c) → slice first (first + whole) s ≡ header id c ++ c
    → slice (first + header_length whole c) (first + whole) s ≡ c
content_stands s id first whole c sized own =
    let h = first + header_length whole c - first in
    let same : h ≡ length (header id c) = omega (arith, sized, length-append (header id c) c) in
    sym (drop_slice first (first + whole) (first + header_length whole c) s (omega arith)) ∙ ap (drop h) own ∙ drop_at (header id c) c h (sym same)

-- Elements stand in the octets that they encode to.
pub encoded_stands : (s : List ℕ) (t : Tree) → encode t ≡ s → StandsAt s 0 (encode t)
encoded_stands s t encoded = rw encoded (take-length s)

module _ (s : List ℕ) where
  mutual
    unfolding takes

    -- The content of each element that is taken stands where its row says, if the elements stand in some octets.
    pub taken_content : {R : ℕ → Bool} {ps : Parts} {t : Tree} (m : Matches R ps t) (left q : ℕ) → WellFormed left q t → StandsAt s q (encode t)
        → (x : TakenElement) → Memᴰ x (takes m) → slice (x.first + header_length x.whole x.octets) (x.first + x.whole) s ≡ x.octets
    taken_content end left q wf there x at = absurd (Memᴰ.not-nil at)
    taken_content (pass ok m) left q wf there x at = taken_content m left q wf there x at
    taken_content (take {id = id} {first = p} {whole = w} {c = c} {inside = inside} {rest = rest} f among fits read kept within m) left q wf there x at =
        let stand = standing q id p w c inside rest left wf in
        let show = shown s left q id p w c inside rest stand there in
        ⊎_elim (λ same. rw same (content_stands s id p w c stand.sized show.own))
        (λ more.
        ⊎_elim (λ inner. inside_content within stand.deeper (p + length (header id c)) stand.within show.within x inner)
        (λ after. taken_content m left (p + w) stand.further show.further x after) (Memᴰ.append_cases (takes_in within) more))
        (Memᴰ.cases_cons at)
    taken_content (choose {id = id} {first = p} {whole = w} {c = c} {inside = inside} {rest = rest} n way m) left q wf there x at =
        let stand = standing q id p w c inside rest left wf in
        taken_content m left (p + w) stand.further (shown s left q id p w c inside rest stand there).further x at

    inside_content : {R : ℕ → Bool} {i : Inside} {t : Tree} (w : Within R i t) (left q : ℕ) → WellFormed left q t → StandsAt s q (encode t)
        → (x : TakenElement) → Memᴰ x (takes_in w) → slice (x.first + header_length x.whole x.octets) (x.first + x.whole) s ≡ x.octets
    inside_content unseen left q wf there x at = absurd (Memᴰ.not-nil at)
    inside_content (parts m) left q wf there x at = taken_content m left q wf there x at
