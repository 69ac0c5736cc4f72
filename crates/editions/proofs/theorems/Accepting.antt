-- What is accepted, by the computed answer: exactly the bytes in the edition's grammar with every certReqId of at most 8 octets. Their rows
-- are those of their tree, and they have only one. Assumes nothing.
use Prim.Native.Nat.{ℕ, ◌*◌, ◌≤◌}
use native.Mathlib.Omega.{arith}
use mathlib.Core.Logic.{◌↔◌}
use mathlib.Core.Path.{◌≡◌, refl, sym, ap, subst, ◌∙◌}
use mathlib.Core.Bool.{Bool, true, false, not, ◌&&◌}
use mathlib.Core.List.{List}
use lib.Dec.{eqb}
use lib.ListN.{length, take}
use lib.Seq.{take_all}
use borrow.Author.Tests.{le-leb, leb-true}
use Rattle.der.specs.meaning.Refusal.{accepted as acceptance, long_cert_req_id}
use Rattle.der.specs.meaning.Octets.{Octets}
use Rattle.der.specs.meaning.Tree.{Tree, WellFormed, Single, encode}
use Rattle.der.specs.meaning.Bounds.{depth, longest}
use Rattle.der.specs.steps.Reading.{tree}
use Rattle.der.proofs.Laws.{walk_tree, exact}
use Rattle.crmf.specs.steps.explain.Tally.{Tally}
use Rattle.crmf.specs.steps.explain.Walk.{Walked, Passed, Broken}
use Rattle.crmf.specs.meaning.Notation.{Top}
use Rattle.crmf.specs.meaning.Grammar.{content}
use Rattle.crmf.specs.meaning.Language.{Matches}
use Rattle.crmf.specs.steps.explain.Walk.{empty_tally}
use Rattle.crmf.specs.meaning.Rows.{Row, width, batch_rows, all_short}
use Rattle.crmf.specs.steps.explain.LongIds.{first_long}
use Rattle.crmf.specs.steps.rows.Fill.{fits, rows_of_input}
use Rattle.crmf.proofs.Laws.{Edition, first_edition, second_edition, accepts, rows_of, long_none, read_back, Holds, over_holds, fits_room}
use Rattle.editions.specs.meaning.Answer.{Answer}
use Rattle.editions.specs.meaning.Membership.{InGrammar}
use Rattle.editions.specs.meaning.Edition.{opposite}
use Rattle.editions.specs.steps.Reading.{refusal, accepted, own_walk, walk_passes, eight_or_nine, long_id_or_accepted, batch_answer, answer, read_answer, table_after}
use Rattle.editions.proofs.theorems.Answers.{one_element}
use Rattle.editions.proofs.theorems.OneElement.{OneElement, late_accepted, one_whole}
use Rattle.editions.proofs.theorems.OneWalk.{goes_through}
use Rattle.editions.proofs.theorems.Tables.{answer_counts, shown, with_room, shown_table}

module _ (e : ℕ) (s : List ℕ) where
  by_long : (b : Bool) → (elim b as (λ x. Answer) [ true ↦ accepted (length (rows_of_input s)) | false ↦ refusal long_cert_req_id (first_long (0, 0) (rows_of_input s)).1 ]).number ≡ acceptance
      → b ≡ true
  by_long true zero = refl
  by_long false zero = absurd (omega arith)

  by_stop : (p : ℕ) (b : Bool) → (refusal (eight_or_nine b) p).number ≡ acceptance → ⊥
  by_stop p true zero = omega arith
  by_stop p false zero = omega arith

  by_walk : (w : Walked) → own_walk e (tree 0 s) ≡ w → (elim w as (λ x. Answer) [
    | Passed r ↦ long_id_or_accepted (first_long (0, 0) (rows_of_input s)) (length (rows_of_input s))
    | Broken p d r ↦ refusal (eight_or_nine (walk_passes (own_walk (opposite e) (tree 0 s)))) p
  ]).number ≡ acceptance → (r : Tally) × ((own_walk e (tree 0 s) ≡ Passed r) × (eqb (first_long (0, 0) (rows_of_input s)).0 0 ≡ true))
  by_walk (Passed r) is zero = (r, (is, by_long (eqb (first_long (0, 0) (rows_of_input s)).0 0) zero))
  by_walk (Broken p d r) is zero = absurd (by_stop p (walk_passes (own_walk (opposite e) (tree 0 s))) zero)

  -- An answer of acceptance comes from a walk of the edition's own that passes, with no long certReqId among the rows.
  pub batch_inverse : (batch_answer e s).number ≡ acceptance → (r : Tally) × ((own_walk e (tree 0 s) ≡ Passed r) × (eqb (first_long (0, 0) (rows_of_input s)).0 0 ≡ true))
  unfolding batch_answer
  batch_inverse zero = by_walk (own_walk e (tree 0 s)) refl zero

-- bytes that are one element over which an edition's own walk passes are in its grammar
pub walk_in : {e f : ℕ} (s : List ℕ) → Octets s → OneElement f s → (r : Tally) → own_walk e (tree 0 s) ≡ Passed r → InGrammar e s
walk_in {e} s octets one r passed =
    let c = (walk_tree s one.end octets one.short).0 one.ends in
    let all : take one.end s ≡ s = take_all one.end s one.last in
    record {
      short = one.short;
      nest = tree 0 s;
      formed = subst (λ (bs : List ℕ). WellFormed depth 0 (tree 0 bs)) all c.formed;
      single = subst (λ (bs : List ℕ). Single (tree 0 bs)) all c.single;
      encoded = subst (λ (bs : List ℕ). encode (tree 0 bs) ≡ bs) all c.encoded;
      batch = (accepts (λ x. eqb x e) empty_tally Top 0 (tree 0 s)).0 (r, passed);
    }

-- an edition is 1 or 2
pub known : {e : ℕ} → Edition e → (not (eqb e 1) && not (eqb e 2)) ≡ false
known first_edition = refl
known second_edition = refl

-- Bytes that are the encoding of a well-formed element.
module _ (s : List ℕ) (t : Tree) (short : length s ≤ longest) (formed : WellFormed depth 0 t) (single : Single t) (encoded : encode t ≡ s) where
  -- they are in the grammar of an edition whose own walk passes
  pub encoded_in : {f : ℕ} (r : Tally) → own_walk f (tree 0 s) ≡ Passed r → InGrammar f s
  encoded_in {f} r passed = record {
    short = short;
    nest = t;
    formed = formed;
    single = single;
    encoded = encoded;
    batch = (accepts (λ x. eqb x f) empty_tally Top 0 t).0 (r, rw (read_back s t short formed encoded) at passed);
  }

  -- any edition's answer is its grammar's
  pub encoded_element : {f : ℕ} → Edition f → Octets s → answer f s ≡ batch_answer f s
  encoded_element {f} ed octets =
      let all : take (length s) s ≡ s = take_all (length s) s (omega arith) in
      let ends = (exact s (length s) octets short).1 (omega arith, (t, formed, single, encoded ∙ sym all)) in
      sym (one_element f s (known ed) short (length s) ends (omega arith))

module _ {e : ℕ} (s : List ℕ) (g : InGrammar e s) where
  -- the tree that is read is the one whose encoding the bytes are
  pub nest_read : tree 0 s ≡ g.nest
  nest_read = read_back s g.nest g.short g.formed g.encoded

  -- The rows that reading finds are that tree's.
  pub nest_rows : rows_of_input s ≡ batch_rows g.batch
  nest_rows =
      subst (λ (t : Tree). (m : Matches (λ x. eqb x e) (content Top) t) → rows_of_input s ≡ batch_rows m) nest_read (λ m. rows_of s g.short m) g.batch

  -- the bytes are one element, so any edition's answer is its grammar's
  pub in_element : {f : ℕ} → Edition f → Octets s → answer f s ≡ batch_answer f s
  in_element = encoded_element s g.nest g.short g.formed g.single g.encoded

  -- this edition's own walk passes
  pub in_walks : (r : Tally) × (own_walk e (tree 0 s) ≡ Passed r)
  in_walks = (accepts (λ x. eqb x e) empty_tally Top 0 (tree 0 s)).1 (subst (Matches (λ x. eqb x e) (content Top)) (sym nest_read) g.batch)

  -- What is in the grammar is judged by its rows alone.
  pub in_counted : Edition e → Octets s → answer e s ≡ long_id_or_accepted (first_long (0, 0) (rows_of_input s)) (length (rows_of_input s))
  in_counted ed octets =
      let (r, passed) = in_walks in
      in_element ed octets ∙ goes_through e r s passed

  -- If every certReqId fits, it is accepted with the count of its rows.
  pub in_accepted : Edition e → Octets s → all_short (batch_rows g.batch) ≡ true → answer e s ≡ accepted (length (batch_rows g.batch))
  in_accepted ed octets fit =
      let clear : eqb (first_long (0, 0) (rows_of_input s)).0 0 ≡ true = long_none (rows_of_input s) ∙ ap all_short nest_rows ∙ fit in
      in_counted ed octets
      ∙ ap (λ (b : Bool). elim b as (λ x. Answer) [ true ↦ accepted (length (rows_of_input s)) | false ↦ refusal long_cert_req_id (first_long (0, 0) (rows_of_input s)).1 ]) clear
      ∙ ap (λ (rs : List Row). accepted (length rs)) nest_rows

-- What is accepted is in the grammar, and every certReqId fits.
pub accepted_in_lem : (e : ℕ) (s : List ℕ) → Octets s → (answer e s).number ≡ acceptance → (g : InGrammar e s) × (all_short (batch_rows g.batch) ≡ true)
accepted_in_lem e s octets zero =
    let one = one_whole e s octets (late_accepted zero) in
    let (r, (passed, fit)) = batch_inverse e s (ap (λ (a : Answer). a.number) (sym one.same) ∙ zero) in
    let g = walk_in s octets one r passed in
    (g, sym (long_none (batch_rows g.batch)) ∙ ap (λ (rs : List Row). eqb (first_long (0, 0) rs).0 0) (sym (nest_rows s g)) ∙ fit)

-- The tree is unique.
pub one_nest : {e : ℕ} (s : List ℕ) (g h : InGrammar e s) → g.nest ≡ h.nest
one_nest s g h = sym (nest_read s g) ∙ nest_read s h

module _ {e : ℕ} (s old : List ℕ) (octets : Octets s) where
  -- Reading accepts exactly that, given room for the rows.
  pub computed_read : Edition e → ((read_answer e s old).number ≡ acceptance)
      ↔ ((g : InGrammar e s) × (all_short (batch_rows g.batch) ≡ true) × (width * length (batch_rows g.batch) ≤ length old))
  computed_read ed = (there, back)
    where
      there : (read_answer e s old).number ≡ acceptance
          → (g : InGrammar e s) × (all_short (batch_rows g.batch) ≡ true) × (width * length (batch_rows g.batch) ≤ length old)
      there zero =
          let found = shown e s old zero in
          let (g, fit) = accepted_in_lem e s octets found.zero in
          let count = ap (λ (a : Answer). a.count) (in_accepted s g ed octets fit) in
          (g, fit, omega (arith, leb-true (width * (answer e s).count) (length old) (sym (fits_room (answer e s).count old) ∙ found.room)))

      back : (g : InGrammar e s) × (all_short (batch_rows g.batch) ≡ true) × (width * length (batch_rows g.batch) ≤ length old)
          → (read_answer e s old).number ≡ acceptance
      back (g, fit, room) =
          let is = in_accepted s g ed octets fit in
          let zero = ap (λ (a : Answer). a.number) is in
          let enough : fits (answer e s).count old ≡ true = ap (λ (a : Answer). fits a.count old) is ∙ fits_room _ old ∙ le-leb _ _ room in
          ap (λ (a : Answer). a.number) (with_room e s old zero enough) ∙ zero

  -- The table then holds the rows of that tree, as many as the count says, and its other numbers are as they were.
  pub computed_rows : (read_answer e s old).number ≡ acceptance → (g : InGrammar e s)
      → Holds (batch_rows g.batch) (read_answer e s old).count old (table_after e s old)
  computed_rows zero g =
      let found = shown e s old zero in
      let count : (read_answer e s old).count ≡ length (rows_of_input s) =
      ap (λ (a : Answer). a.count) found.same ∙ answer_counts e s octets found.zero in
      let room : width * length (rows_of_input s) ≤ length old =
      omega (arith, leb-true (width * (answer e s).count) (length old) (sym (fits_room (answer e s).count old) ∙ found.room), answer_counts e s octets found.zero) in
      rw (← nest_rows s g, count, shown_table e s old zero) (over_holds old (rows_of_input s) room)
