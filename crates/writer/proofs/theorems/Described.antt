-- A draft is described exactly if some batch has its rows, and that batch is the draft's assembly: so there is at most one. Assumes nothing.
use Prim.Native.Nat.{ℕ, ◌+◌, ◌*◌, ◌≤◌}
use native.Mathlib.Omega.{arith}
use mathlib.Core.Path.{◌≡◌, refl, sym, ap, subst, ◌∙◌}
use mathlib.Core.Bool.{Bool, true, false, ◌&&◌, ◌||◌, and-eq-true_iff}
use mathlib.Core.Logic.{⊎_elim}
use mathlib.Core.List.Memᴰ
use mathlib.Core.List.{List, [], ◌∷◌, Memᴰ}
use lib.Dec.{eqb, leb}
use lib.ListN.{length}
use borrow.Author.Tests.{eqb-true, eq-eqb, leb-true, le-leb}
use Rattle.der.specs.meaning.Octets.{Octets}
use Rattle.der.specs.meaning.Bounds.{depth, longest}
use Rattle.crmf.specs.meaning.Rows.{Row, container, width, batch_rows}
use Rattle.crmf.specs.steps.recognise.Count.{agreed}
use Rattle.crmf.specs.steps.rows.Agree.{draft_rows, agree}
use Rattle.crmf.specs.steps.rows.Fill.{rows_of_input}
use Rattle.crmf.specs.meaning.Pieces.{pieces_of}
use Rattle.crmf.specs.steps.rows.Assembly.{assembled, none_longer}
use Rattle.crmf.proofs.Laws.{Edition, row_content_lem, assembly, rows_few, pieces_short, pieces_octets, pieces_length, numbers_length, rows_within_lem}
use Rattle.crmf.proofs.Laws.{ShortBatch, recognised_exact, agreed_both, agreed_all, Within, agree_in_place, agreed_pieces, agreed_right, pieces_agree, rows_back, numbers_back}
use Rattle.editions.specs.meaning.Membership.{InGrammar}
use Rattle.editions.proofs.Laws.{nest_rows}
use Rattle.writer.specs.meaning.Draft.{inside, HasRows}
use Rattle.writer.specs.steps.Writing.{most_rows, shaped, drafted, candidate, assembles, shows, described}

-- no leaf leaves the slice exactly if each lies within it
inside_leaves : (bytes : List ℕ) (rs : List Row) → inside bytes rs ≡ true → Within bytes rs
unfolding inside
inside_leaves bytes [] is r at leaf = absurd (Memᴰ.not-nil at)
inside_leaves bytes (q ∷ rs) is r at leaf =
    let both = (and-eq-true_iff (container q.kind || leb (q.first + q.whole) (length bytes)) (inside bytes rs)).0 is in
    ⊎_elim (λ same. rw same (first (rw same at leaf) both.0)) (λ more. inside_leaves bytes rs both.1 r more leaf) (Memᴰ.cases_cons at)
  where
    first : container q.kind ≡ false → (container q.kind || leb (q.first + q.whole) (length bytes)) ≡ true → q.first + q.whole ≤ length bytes
    first bare test = leb-true (q.first + q.whole) (length bytes) (subst (λ (b : Bool). (b || leb (q.first + q.whole) (length bytes)) ≡ true) bare test)

leaves_inside : (bytes : List ℕ) (rs : List Row) → Within bytes rs → inside bytes rs ≡ true
unfolding inside
leaves_inside bytes [] lie = refl
leaves_inside bytes (q ∷ rs) lie =
    (and-eq-true_iff (container q.kind || leb (q.first + q.whole) (length bytes)) (inside bytes rs)).1
    (first (container q.kind) refl, leaves_inside bytes rs (λ r at. lie r (Memᴰ.tail at)))
  where
    first : (b : Bool) → container q.kind ≡ b → (container q.kind || leb (q.first + q.whole) (length bytes)) ≡ true
    first true bears = ap (λ (b : Bool). b || leb (q.first + q.whole) (length bytes)) bears
    first false leaf =
        ap (λ (b : Bool). b || leb (q.first + q.whole) (length bytes)) leaf ∙ le-leb (q.first + q.whole) (length bytes) (lie q (Memᴰ.head refl) leaf)

-- A batch that has a draft's rows is the draft's assembly, and the draft is described.
module _ {e : ℕ} (ed : Edition e) (draft bytes s : List ℕ) (h : HasRows e draft bytes s) where
  abbrev pub g : InGrammar e s
  g = h.batch

  abbrev pub own : List Row
  own = batch_rows h.batch.batch

  pub rows_are : draft_rows draft ≡ h.rows
  rows_are = ap draft_rows (sym h.numbered) ∙ rows_back h.rows

  pub pieces_are : drafted draft bytes ≡ pieces_of s own
  pieces_are = ap (pieces_of bytes) rows_are ∙ h.alike

  pub has_candidate : candidate draft bytes ≡ s
  has_candidate = ap (assembled 0) pieces_are ∙ assembly g.batch depth g.formed s g.encoded

  pub as_many : length (draft_rows draft) ≡ length own
  as_many = sym (pieces_length bytes (draft_rows draft)) ∙ ap length pieces_are ∙ pieces_length s own

  has_shape : shaped draft ≡ true
  has_shape =
      let size : width * length (draft_rows draft) ≡ length draft =
      ap (λ (rs : List Row). width * length rs) rows_are ∙ sym (numbers_length h.rows) ∙ ap length h.numbered in
      let few : length (draft_rows draft) ≤ most_rows = omega (arith, as_many, rows_few g.batch depth g.formed s g.encoded, g.short) in
      (and-eq-true_iff (eqb (width * length (draft_rows draft)) (length draft)) (leb (length (draft_rows draft)) most_rows)).1 (eq-eqb _ _ size, le-leb _ _ few)

  pub pieces_fit : none_longer longest 0 (drafted draft bytes) ≡ true
  pieces_fit = ap (none_longer longest 0) pieces_are ∙ pieces_short g.batch depth g.formed s g.encoded longest g.short

  has_assembly : assembles draft bytes ≡ true
  has_assembly =
      let leaves : inside bytes (draft_rows draft) ≡ true = ap (inside bytes) rows_are ∙ h.leaves in
      let fits : leb (length (candidate draft bytes)) longest ≡ true =
      ap (λ (l : List ℕ). leb (length l) longest) has_candidate ∙ le-leb _ _ g.short in
      (and-eq-true_iff (inside bytes (draft_rows draft)) (none_longer longest 0 (drafted draft bytes) && leb (length (candidate draft bytes)) longest)).1
      (leaves, (and-eq-true_iff (none_longer longest 0 (drafted draft bytes)) (leb (length (candidate draft bytes)) longest)).1 (pieces_fit, fits))

  has_shown : shows e draft bytes ≡ true
  has_shown =
      let short : ShortBatch e s =
      record { fits = g.short; nest = g.nest; formed = g.formed; single = g.single; encoded = g.encoded; batch = g.batch; short = h.fit } in
      let alike : agree false (draft_rows draft) (rows_of_input s) ≡ true =
      rw (nest_rows s g, rows_are)
      (pieces_agree bytes s g.short h.rows own h.alike (inside_leaves bytes h.rows h.leaves)
      (rows_within_lem g.batch depth g.formed s g.encoded) h.right (row_content_lem g.batch depth g.formed s g.encoded)) in
      ap (λ (c : List ℕ). agreed e c draft false) has_candidate ∙ agreed_all e s draft false (length own) alike ((recognised_exact e s h.octets (length own)).1 (short, refl))

  pub has_described : described e draft bytes ≡ true
  unfolding described
  has_described =
      (and-eq-true_iff (shaped draft) (assembles draft bytes && shows e draft bytes)).1
      (has_shape, (and-eq-true_iff (assembles draft bytes) (shows e draft bytes)).1 (has_assembly, has_shown))

-- At most one batch has a draft's rows.
pub one_batch : {e : ℕ} → Edition e → (draft bytes s u : List ℕ) → HasRows e draft bytes s → HasRows e draft bytes u → s ≡ u
one_batch ed draft bytes s u h k = sym (has_candidate ed draft bytes s h) ∙ has_candidate ed draft bytes u k

-- A draft that is described has a batch with its rows: its assembly.
module _ (e : ℕ) (draft bytes : List ℕ) (octets : Octets bytes) (is : described e draft bytes ≡ true) where
  abbrev c : List ℕ
  c = candidate draft bytes

  pub described_has : HasRows e draft bytes c
  unfolding described
  described_has =
      let one = (and-eq-true_iff (shaped draft) (assembles draft bytes && shows e draft bytes)).0 is in
      let two = (and-eq-true_iff (assembles draft bytes) (shows e draft bytes)).0 one.1 in
      let shape = (and-eq-true_iff (eqb (width * length (draft_rows draft)) (length draft)) (leb (length (draft_rows draft)) most_rows)).0 one.0 in
      let parts = (and-eq-true_iff (inside bytes (draft_rows draft)) (none_longer longest 0 (drafted draft bytes) && leb (length c) longest)).0 two.0 in
      let fits = (and-eq-true_iff (none_longer longest 0 (drafted draft bytes)) (leb (length c) longest)).0 parts.1 in
      let plain = pieces_octets bytes octets (draft_rows draft) fits.0 in
      let (agrees, counted) = agreed_both e c draft false two.1 in
      let b = ((recognised_exact e c plain counted.0).0 counted.1).0 in
      let g : InGrammar e c = record { short = b.fits; nest = b.nest; formed = b.formed; single = b.single; encoded = b.encoded; batch = b.batch } in
      let rs = batch_rows g.batch in
      let alike : agree false (draft_rows draft) rs ≡ true = ap (agree false (draft_rows draft)) (sym (nest_rows c g)) ∙ agrees in
      let same = agreed_pieces bytes c (draft_rows draft) rs alike (inside_leaves bytes (draft_rows draft) parts.0) (rows_within_lem g.batch depth g.formed c g.encoded) 0
      (sym (assembly g.batch depth g.formed c g.encoded)) in
      record {
        octets = plain;
        batch = g;
        fit = b.short;
        rows = draft_rows draft;
        numbered = numbers_back draft (eqb-true _ _ shape.0);
        leaves = parts.0;
        alike = same;
        right = agreed_right bytes c (draft_rows draft) rs alike same (row_content_lem g.batch depth g.formed c g.encoded);
      }

-- A draft whose rows are those of the bytes themselves, in place, describes these bytes.
module _ (e : ℕ) (ed : Edition e) (draft bytes : List ℕ) (octets : Octets bytes) (shape : shaped draft ≡ true) (is : agreed e bytes draft true ≡ true) where
  standing : HasRows e draft bytes bytes
  standing =
      let (agrees, counted) = agreed_both e bytes draft true is in
      let b = ((recognised_exact e bytes octets counted.0).0 counted.1).0 in
      let g : InGrammar e bytes = record { short = b.fits; nest = b.nest; formed = b.formed; single = b.single; encoded = b.encoded; batch = b.batch } in
      let rs = batch_rows g.batch in
      let same : draft_rows draft ≡ rs = agree_in_place (draft_rows draft) (rows_of_input bytes) agrees ∙ nest_rows bytes g in
      let shapes = (and-eq-true_iff (eqb (width * length (draft_rows draft)) (length draft)) (leb (length (draft_rows draft)) most_rows)).0 shape in
      record {
        octets = octets;
        batch = g;
        fit = b.short;
        rows = draft_rows draft;
        numbered = numbers_back draft (eqb-true _ _ shapes.0);
        leaves = ap (inside bytes) same ∙ leaves_inside bytes rs (rows_within_lem g.batch depth g.formed bytes g.encoded);
        alike = ap (pieces_of bytes) same;
        right = λ r at leaf. row_content_lem g.batch depth g.formed bytes g.encoded r (subst (Memᴰ r) same at);
      }

  pub stands_described : described e draft bytes ≡ true
  stands_described = has_described ed draft bytes bytes standing

  pub stands_candidate : candidate draft bytes ≡ bytes
  stands_candidate = has_candidate ed draft bytes bytes standing
