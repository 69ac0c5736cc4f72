-- Theorem 2 with a table: the answer and the table that are computed are those that `Reads` relates, and there are no others. Assumes nothing.
use Prim.Native.Nat.{ℕ, ◌*◌}
use mathlib.Core.Logic.{◌↔◌}
use mathlib.Core.Path.{◌≡◌, refl, sym, ap, subst, ◌∙◌}
use mathlib.Core.Bool.{Bool, true, false}
use mathlib.Core.List.{List}
use lib.Dec.{eqb, leb}
use lib.ListN.{length}
use borrow.Author.Tests.{eqb-true, eqb-false, leb-true, leb-false, le-leb, lt-leb}
use Rattle.der.specs.meaning.Octets.{Octets}
use Rattle.der.specs.meaning.Refusal.{accepted as acceptance, no_room_number}
use Rattle.crmf.specs.meaning.Lists.{over}
use Rattle.crmf.specs.meaning.Rows.{Row, width, numbers, batch_rows}
use Rattle.crmf.specs.steps.rows.Fill.{fits}
use Rattle.crmf.proofs.Laws.{fits_room, filled_short}
use Rattle.editions.specs.meaning.Answer.{Answer}
use Rattle.editions.specs.meaning.Membership.{InGrammar}
use Rattle.editions.specs.meaning.Answers.{Answers}
use Rattle.editions.specs.meaning.Reads.{Reads, refused, too_short, shown}
use Rattle.editions.specs.steps.Reading.{refusal, accepted, answer, read_answer, table_after}
use Rattle.editions.proofs.theorems.Tables.{read_refused, read_short, with_room, shown_table}
use Rattle.editions.proofs.theorems.Accepting.{nest_rows}
use Rattle.editions.proofs.theorems.AnswersExactly.{answer_related, related_answer, accepted_related}

-- an answer and a table are related to the edition, the bytes and the table at first
abbrev Related : ℕ → List ℕ → List ℕ → Answer → List ℕ → Type 0
Related e s old a new = Reads e s old a.number a.place a.count new

module _ (e : ℕ) (s old : List ℕ) (octets : Octets s) where
  to_reading : (a : Answer) (new : List ℕ) → a ≡ read_answer e s old → new ≡ table_after e s old → Related e s old a new
      → Related e s old (read_answer e s old) (table_after e s old)
  to_reading a new same table r =
      subst (Related e s old (read_answer e s old)) table (subst (λ (x : Answer). Related e s old x new) same r)

  -- an accepted batch is shown if there is room, and otherwise the table is too short
  by_room : (g : InGrammar e s) → Answers e s acceptance 0 (length (batch_rows g.batch)) → (b : Bool) → leb (width * length (batch_rows g.batch)) (length old) ≡ b
      → Related e s old (read_answer e s old) (table_after e s old)
  by_room g related true enough =
      let is = related_answer e s octets acceptance 0 (length (batch_rows g.batch)) related in
      let zero = ap (λ (a : Answer). a.number) is in
      let room : fits (answer e s).count old ≡ true = ap (λ (a : Answer). fits a.count old) is ∙ fits_room _ old ∙ enough in
      let same = with_room e s old zero room in
      to_reading (accepted (length (batch_rows g.batch))) (over old 0 (numbers (batch_rows g.batch))) (sym (same ∙ is))
      (ap (λ (rs : List Row). over old 0 (numbers rs)) (sym (nest_rows s g)) ∙ sym (shown_table e s old (ap (λ (a : Answer). a.number) same ∙ zero)))
      (shown g related (leb-true _ _ enough))
  by_room g related false few =
      let is = related_answer e s octets acceptance 0 (length (batch_rows g.batch)) related in
      let room : fits (length (batch_rows g.batch)) old ≡ false = fits_room _ old ∙ few in
      let (answered, table) = read_short e s old (accepted (length (batch_rows g.batch))) (sym is) refl room in
      to_reading (refusal no_room_number 0) old answered (sym (filled_short s (length (batch_rows g.batch)) old room) ∙ table)
      (too_short related (leb-false _ _ few))

  by_number : (b : Bool) → eqb (answer e s).number acceptance ≡ b → Related e s old (read_answer e s old) (table_after e s old)
  by_number false some =
      let (answered, table) = read_refused e s old (answer e s) refl (eqb-false _ _ some) in
      to_reading (answer e s) old answered table (refused (answer_related e s octets) (eqb-false _ _ some))
  by_number true none =
      let (g, related) = accepted_related e s octets (eqb-true _ _ none) in
      by_room g related (leb (width * length (batch_rows g.batch)) (length old)) refl

  -- What is computed is related.
  pub reading_related : Reads e s old (read_answer e s old).number (read_answer e s old).place (read_answer e s old).count (table_after e s old)
  reading_related = by_number (eqb (answer e s).number acceptance) refl

  -- What is related is computed.
  pub related_reading : (number place count : ℕ) (new : List ℕ) → Reads e s old number place count new
      → (read_answer e s old ≡ record { number = number; place = place; count = count }) × (table_after e s old ≡ new)
  related_reading number place count new (refused related some) =
      let is = related_answer e s octets number place count related in
      let (answered, table) = read_refused e s old (record { number = number; place = place; count = count }) (sym is) some in
      (sym answered, sym table)
  related_reading number place count new (too_short {count = n} related few) =
      let is = related_answer e s octets acceptance 0 n related in
      let room : fits n old ≡ false = fits_room n old ∙ lt-leb _ _ few in
      let (answered, table) = read_short e s old (accepted n) (sym is) refl room in
      (sym answered, sym table ∙ filled_short s n old room)
  related_reading number place count new (shown g related enough) =
      let n = length (batch_rows g.batch) in
      let is = related_answer e s octets acceptance 0 n related in
      let zero = ap (λ (a : Answer). a.number) is in
      let room : fits (answer e s).count old ≡ true = ap (λ (a : Answer). fits a.count old) is ∙ fits_room n old ∙ le-leb _ _ enough in
      let same = with_room e s old zero room in
      (same ∙ is, shown_table e s old (ap (λ (a : Answer). a.number) same ∙ zero) ∙ ap (λ (rs : List Row). over old 0 (numbers rs)) (nest_rows s g))

  -- Theorem 2, with a table: the answer and the table afterwards are exactly those that `Reads` relates.
  pub reads_exactly : (number place count : ℕ) (new : List ℕ) → Reads e s old number place count new
      ↔ ((read_answer e s old ≡ record { number = number; place = place; count = count }) × (table_after e s old ≡ new))
  reads_exactly number place count new = (
    related_reading number place count new,
    λ (same, table).
        subst (Related e s old (record { number = number; place = place; count = count })) table
        (subst (λ (a : Answer). Related e s old a (table_after e s old)) same reading_related),
  )

  -- There is exactly one.
  pub reads_once : (n p c n' p' c' : ℕ) (new new' : List ℕ) → Reads e s old n p c new → Reads e s old n' p' c' new'
      → (n ≡ n') × (p ≡ p') × (c ≡ c') × (new ≡ new')
  reads_once n p c n' p' c' new new' one two =
      let (same, table) = related_reading n p c new one in
      let (same', table') = related_reading n' p' c' new' two in
      let alike = sym same ∙ same' in
      (ap (λ (a : Answer). a.number) alike, ap (λ (a : Answer). a.place) alike, ap (λ (a : Answer). a.count) alike, sym table ∙ table')

  -- so an answer and a table that equal them are related
  pub equal_reading : (a : Answer) (new : List ℕ) → (a ≡ read_answer e s old) × (new ≡ table_after e s old)
      → Reads e s old a.number a.place a.count new
  equal_reading a new (same, table) = (reads_exactly a.number a.place a.count new).1 (sym same, sym table)
