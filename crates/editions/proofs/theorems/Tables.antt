-- The answer and the table of reading, from the answer without a table. Assumes nothing.
use Prim.Native.Nat.{ℕ}
use native.Mathlib.Omega.{arith}
use mathlib.Core.Path.{◌≡◌, refl, sym, ap, ◌∙◌}
use mathlib.Core.Bool.{Bool, true, false}
use mathlib.Core.List.{List}
use lib.Dec.{eqb}
use lib.ListN.{length}
use borrow.Author.Tests.{eqb-true, eqb-false, eq-eqb, ne_eqb}
use Rattle.der.specs.meaning.Refusal.{accepted as acceptance, long_cert_req_id, no_room_number}
use Rattle.der.specs.meaning.Octets.{Octets}
use Rattle.der.specs.steps.Reading.{tree}
use Rattle.crmf.specs.steps.explain.Walk.{Walked, Passed, Broken}
use Rattle.crmf.specs.meaning.Rows.{numbers}
use Rattle.crmf.specs.steps.explain.LongIds.{first_long}
use Rattle.crmf.specs.steps.rows.Fill.{fits, rows_of_input, filled}
use Rattle.crmf.specs.meaning.Lists.{over}
use Rattle.crmf.proofs.Laws.{filled_whole, filled_short}
use Rattle.editions.specs.meaning.Answer.{Answer}
use Rattle.editions.specs.meaning.Edition.{opposite}
use Rattle.editions.specs.steps.Reading.{refusal, accepted, own_walk, walk_passes, eight_or_nine, long_id_or_accepted, batch_answer, answer, read_answer, table_after}
use Rattle.editions.proofs.theorems.OneElement.{late_accepted, one_whole}

-- if an answer's number is 0, its count is the number of rows
abbrev pub Counts : ℕ → Answer → Type 0
Counts n a = a.number ≡ acceptance → a.count ≡ n

counted_counts : (long : ℕ × ℕ) (n : ℕ) → Counts n (long_id_or_accepted long n)
counted_counts long n = go (eqb long.0 0)
  where
    go : (b : Bool) → Counts n (elim b as (λ x. Answer) [ true ↦ accepted n | false ↦ refusal long_cert_req_id long.1 ])
    go true zero = refl
    go false zero = absurd (omega arith)

stopped_counts : (n p : ℕ) (b : Bool) → Counts n (refusal (eight_or_nine b) p)
stopped_counts n p true zero = absurd (omega arith)
stopped_counts n p false zero = absurd (omega arith)

batch_counts : (e : ℕ) (s : List ℕ) → Counts (length (rows_of_input s)) (batch_answer e s)
unfolding batch_answer
batch_counts e s = go (own_walk e (tree 0 s))
  where
    n : ℕ
    n = length (rows_of_input s)

    go : (w : Walked) → Counts n (elim w as (λ x. Answer) [
      | Passed r ↦ long_id_or_accepted (first_long (0, 0) (rows_of_input s)) n
      | Broken p d r ↦ refusal (eight_or_nine (walk_passes (own_walk (opposite e) (tree 0 s)))) p
    ])
    go (Passed r) = counted_counts (first_long (0, 0) (rows_of_input s)) n
    go (Broken p d r) = stopped_counts n p (walk_passes (own_walk (opposite e) (tree 0 s)))

-- An accepted batch's count is the number of its rows.
pub answer_counts : (e : ℕ) (s : List ℕ) → Octets s → Counts (length (rows_of_input s)) (answer e s)
answer_counts e s octets zero =
    let one = one_whole e s octets (late_accepted zero) in
    rw one.same (batch_counts e s (ap (λ (a : Answer). a.number) (sym one.same) ∙ zero))

module _ (e : ℕ) (s old : List ℕ) (a : Answer) (found : a ≡ answer e s) where
  -- a refusal without a table is a refusal with one, and the table stays
  pub read_refused : (a.number ≡ acceptance → ⊥) → (a ≡ read_answer e s old) × (old ≡ table_after e s old)
  unfolding read_answer table_after
  read_refused some =
      let test : eqb (answer e s).number 0 ≡ false = ne_eqb _ _ (λ z. some (ap (λ (x : Answer). x.number) found ∙ z)) in
      let same : read_answer e s old ≡ answer e s = rw (read_answer, test) in
      (found ∙ sym same, rw (table_after, same, test))

  module _ (zero : a.number ≡ acceptance) where
    accepting : eqb (answer e s).number 0 ≡ true
    accepting = eq-eqb _ _ (ap (λ (x : Answer). x.number) (sym found) ∙ zero)

    -- without room the answer is 11, and the table stays
    pub read_short : fits a.count old ≡ false → (refusal no_room_number 0 ≡ read_answer e s old) × (filled s a.count old ≡ table_after e s old)
    unfolding read_answer table_after
    read_short few =
        let room : fits (answer e s).count old ≡ false = ap (λ (x : Answer). fits x.count old) (sym found) ∙ few in
        let same : read_answer e s old ≡ refusal no_room_number 0 = rw (read_answer, accepting, room) in
        (sym same, filled_short s a.count old few ∙ rw (table_after, same))

    -- with room the rows are written
    pub read_accepted : Octets s → fits a.count old ≡ true → (a ≡ read_answer e s old) × (filled s a.count old ≡ table_after e s old)
    unfolding read_answer table_after
    read_accepted octets enough =
        let count : a.count ≡ length (rows_of_input s) = ap (λ (x : Answer). x.count) found ∙ answer_counts e s octets (ap (λ (x : Answer). x.number) (sym found) ∙ zero) in
        let room : fits (answer e s).count old ≡ true = ap (λ (x : Answer). fits x.count old) (sym found) ∙ enough in
        let same : read_answer e s old ≡ answer e s = rw (read_answer, accepting, room) in (
          found ∙ sym same,
          ap (λ (n : ℕ). filled s n old) count ∙ filled_whole s old (ap (λ (n : ℕ). fits n old) (sym count) ∙ enough) ∙ rw (table_after, same, accepting),
        )

-- What a reading that is accepted comes from: the answer without a table, and room for its rows.
pub record Shown (e : ℕ) (s old : List ℕ) : Type 0 where
  pub zero : (answer e s).number ≡ acceptance
  pub same : read_answer e s old ≡ answer e s
  pub room : fits (answer e s).count old ≡ true

module _ (e : ℕ) (s old : List ℕ) where
  pub shown : (read_answer e s old).number ≡ acceptance → Shown e s old
  unfolding read_answer
  shown zero = by_number (eqb (answer e s).number 0) refl
    where
      by_room : eqb (answer e s).number 0 ≡ true → (b : Bool) → fits (answer e s).count old ≡ b → Shown e s old
      by_room none true enough =
          record { zero = eqb-true _ _ none; same = rw (read_answer, none, enough); room = enough }
      by_room none false few = absurd (omega (arith, rw (read_answer, none, few) at zero))

      by_number : (b : Bool) → eqb (answer e s).number 0 ≡ b → Shown e s old
      by_number true none = by_room none (fits (answer e s).count old) refl
      by_number false some = absurd (eqb-false _ _ some (rw (read_answer, some) at zero))

  -- with room the answer is the one without a table
  pub with_room : (answer e s).number ≡ acceptance → fits (answer e s).count old ≡ true → read_answer e s old ≡ answer e s
  unfolding read_answer
  with_room zero enough = rw (read_answer, eq-eqb _ _ zero, enough)

  -- and so it is if it is a refusal
  pub read_alike : ((answer e s).number ≡ acceptance → ⊥) → read_answer e s old ≡ answer e s
  read_alike some = sym (read_refused e s old (answer e s) refl some).0

  -- an answer that is neither acceptance nor 11 is the one without a table
  pub not_short : ((read_answer e s old).number ≡ acceptance → ⊥) → ((read_answer e s old).number ≡ 11 → ⊥) → read_answer e s old ≡ answer e s
  unfolding read_answer
  not_short some enough = by_number (eqb (answer e s).number 0) refl
    where
      by_room : eqb (answer e s).number 0 ≡ true → (b : Bool) → fits (answer e s).count old ≡ b → read_answer e s old ≡ answer e s
      by_room none true room = rw (read_answer, none, room)
      by_room none false few = absurd (enough (rw (read_answer, none, few)))

      by_number : (b : Bool) → eqb (answer e s).number 0 ≡ b → read_answer e s old ≡ answer e s
      by_number true none = by_room none (fits (answer e s).count old) refl
      by_number false is = read_alike (eqb-false _ _ is)

  -- the table then has the rows written over it
  pub shown_table : (read_answer e s old).number ≡ acceptance → table_after e s old ≡ over old 0 (numbers (rows_of_input s))
  unfolding table_after
  shown_table zero = rw (table_after, eq-eqb _ _ zero)
