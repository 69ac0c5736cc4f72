-- The numbers that reading answers. Assumes nothing.
use Prim.Native.Nat.{ℕ, ◌≤◌}
use native.Mathlib.Omega.{arith}
use mathlib.Core.Path.{◌≡◌, refl}
use mathlib.Core.Bool.{Bool, true, false, ◌||◌}
use mathlib.Core.List.{List}
use lib.Dec.{eqb, leb, ltb}
use lib.ListN.{length}
use borrow.Author.Tests.{leb-true}
use Rattle.der.specs.meaning.Refusal.{long_cert_req_id, too_long_number, trailing_bytes, unknown_edition_number}
use Rattle.der.specs.steps.Nest.{Nest, End, Fault}
use Rattle.der.specs.meaning.Octets.{Octets}
use Rattle.der.specs.meaning.Bounds.{longest}
use Rattle.der.specs.steps.Explain.{walk_at}
use Rattle.der.specs.steps.Reading.{tree}
use Rattle.der.proofs.Laws.{fault_number}
use Rattle.crmf.specs.steps.explain.Walk.{Walked, Passed, Broken}
use Rattle.crmf.specs.steps.explain.LongIds.{first_long}
use Rattle.crmf.specs.steps.rows.Fill.{rows_of_input}
use Rattle.editions.specs.meaning.Answer.{Answer}
use Rattle.editions.specs.meaning.Edition.{opposite}
use Rattle.editions.specs.steps.Reading.{refusal, accepted, own_walk, walk_passes, eight_or_nine, stopped, long_id_or_accepted, batch_answer, answer}

module _ (e : ℕ) (s : List ℕ) where
  stopped_number : (b : Bool) → eight_or_nine b ≤ unknown_edition_number
  stopped_number true = omega arith
  stopped_number false = omega arith

  counted_number : (b : Bool) (n p : ℕ) → (elim b as (λ x. Answer) [ true ↦ accepted n | false ↦ refusal long_cert_req_id p ]).number ≤ unknown_edition_number
  counted_number true n p = omega arith
  counted_number false n p = omega arith

  walked_number : (w : Walked)
      → (elim w as (λ x. Answer) [ Passed r ↦ long_id_or_accepted (first_long (0, 0) (rows_of_input s)) (length (rows_of_input s)) | Broken p d r ↦ stopped e p (tree 0 s) ]).number ≤ unknown_edition_number
  walked_number (Passed r) = counted_number (eqb (first_long (0, 0) (rows_of_input s)).0 0) (length (rows_of_input s)) (first_long (0, 0) (rows_of_input s)).1
  walked_number (Broken p d r) = stopped_number (walk_passes (own_walk (opposite e) (tree 0 s)))

  batch_number : (batch_answer e s).number ≤ unknown_edition_number
  unfolding batch_answer
  batch_number = walked_number (own_walk e (tree 0 s))

  ended_number : (b : Bool) (q : ℕ) → (elim b as (λ x. Answer) [ true ↦ refusal trailing_bytes q | false ↦ batch_answer e s ]).number ≤ unknown_edition_number
  ended_number true q = omega arith
  ended_number false q = batch_number

  module _ (o : Octets s) where
    nest_number : length s ≤ longest → (w : Nest) → walk_at s 0 (length s) ≡ w
        → (elim w as (λ x. Answer) [ Fault n p d ↦ refusal n p | End q ↦ elim (ltb q (length s)) [ true ↦ refusal trailing_bytes q | false ↦ batch_answer e s ] ]).number ≤ unknown_edition_number
    nest_number short (Fault n p d) is = omega (arith, fault_number s o short n p d is)
    nest_number short (End q) is = ended_number (ltb q (length s)) q

    length_number : (b : Bool) → leb (length s) longest ≡ b
        → (elim b as (λ x. Answer) [ false ↦ refusal too_long_number 0 | true ↦ elim (walk_at s 0 (length s)) [ Fault n p d ↦ refusal n p | End q ↦ elim (ltb q (length s)) [ true ↦ refusal trailing_bytes q | false ↦ batch_answer e s ] ] ]).number ≤ unknown_edition_number
    length_number false is = omega arith
    length_number true is = nest_number (leb-true (length s) longest is) (walk_at s 0 (length s)) refl

    -- without a table, reading answers a number of at most 13, the largest of its refusals
    pub answer_number : (answer e s).number ≤ unknown_edition_number
    unfolding answer
    answer_number = edition_number (eqb e 1 || eqb e 2)
      where
        edition_number : (b : Bool)
            → (elim b as (λ x. Answer) [ false ↦ refusal unknown_edition_number 0 | true ↦ elim (leb (length s) longest) [ false ↦ refusal too_long_number 0 | true ↦ elim (walk_at s 0 (length s)) [ Fault n p d ↦ refusal n p | End q ↦ elim (ltb q (length s)) [ true ↦ refusal trailing_bytes q | false ↦ batch_answer e s ] ] ] ]).number ≤ unknown_edition_number
        edition_number false = omega arith
        edition_number true = length_number (leb (length s) longest) refl
