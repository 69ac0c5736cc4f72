-- Reading a batch in an edition as it is computed, by walks over the nest and the lines: the answer and the table for every input. `Answers`
-- and `Reads` of the meaning say what these are. Assumes nothing.
use Rattle.std.specs.Prelude.{ℕ, Bool, true, false, ◌||◌, List, eqb, ltb, leb, length}
use Rattle.der.specs.meaning.Refusal.{accepted as acceptance, too_long_number, trailing_bytes, not_in_grammar, other_edition, long_cert_req_id, no_room_number, unknown_edition_number}
use Rattle.der.specs.steps.Nest.{End, Fault}
use Rattle.der.specs.meaning.Tree.{Tree}
use Rattle.der.specs.meaning.Bounds.{longest}
use Rattle.der.specs.steps.Explain.{walk_at}
use Rattle.der.specs.steps.Reading.{tree}
use Rattle.crmf.specs.steps.explain.Walk.{Walked, Passed, Broken}
use Rattle.crmf.specs.meaning.Notation.{Top}
use Rattle.crmf.specs.steps.grammar.Lines.{start}
use Rattle.crmf.specs.steps.explain.Walk.{walk, empty_tally}
use Rattle.crmf.specs.meaning.Rows.{numbers}
use Rattle.crmf.specs.steps.explain.LongIds.{first_long}
use Rattle.crmf.specs.steps.rows.Fill.{fits, rows_of_input}
use Rattle.crmf.specs.meaning.Lists.{over}
use Rattle.editions.specs.meaning.Answer.{Answer}
use Rattle.editions.specs.meaning.Edition.{rfc2511, rfc4211, opposite}

-- "Refusals return their number and place, a count of 0"
abbrev pub refusal : ℕ → ℕ → Answer
refusal n p = record { number = n; place = p; count = 0 }

-- "0: accepted, with the row count"
abbrev pub accepted : ℕ → Answer
accepted n = record { number = acceptance; place = 0; count = n }

-- "this edition's walk, parts left to right, insides first"
abbrev pub own_walk : ℕ → Tree → Walked
own_walk e t = walk (λ x. eqb x e) empty_tally (start Top) 0 t

-- whether a walk passes
abbrev pub walk_passes : Walked → Bool
walk_passes (Passed r) = true
walk_passes (Broken p d r) = false

-- "8: not in the grammar of either edition", "9: not in this edition's grammar, but in the other's"
abbrev pub eight_or_nine : Bool → ℕ
eight_or_nine other = elim other [ true ↦ other_edition | false ↦ not_in_grammar ]

-- 8 or 9, at the place where this edition's walk stops; for 9 that is the first difference (SPECIFICATION 3.8)
abbrev pub stopped : ℕ → ℕ → Tree → Answer
stopped e p t = refusal (eight_or_nine (walk_passes (own_walk (opposite e) t))) p

-- "10: a certReqId of more than 8 content octets", or acceptance. The first such certReqId comes with its whole length, 0 if there is none,
-- and its place.
abbrev pub long_id_or_accepted : ℕ × ℕ → ℕ → Answer
long_id_or_accepted long n = elim (eqb long.0 0) [ true ↦ accepted n | false ↦ refusal long_cert_req_id long.1 ]

-- 8 or 9, 10 or acceptance, for bytes that are one element
unfoldable pub batch_answer : ℕ → List ℕ → Answer
batch_answer e s = elim (own_walk e (tree 0 s)) [ Passed r ↦ long_id_or_accepted (first_long (0, 0) (rows_of_input s)) (length (rows_of_input s)) | Broken p d r ↦ stopped e p (tree 0 s) ]

-- "Order for reading: 13, 1, then 2 to 6 over the whole nest, 7, 8 or 9, 10" (SPECIFICATION 4)
unfoldable pub answer : ℕ → List ℕ → Answer
answer e s =
    elim (eqb e rfc2511 || eqb e rfc4211) [
      | false ↦ refusal unknown_edition_number 0
      | true ↦ elim (leb (length s) longest) [
        | false ↦ refusal too_long_number 0
        | true ↦ elim (walk_at s 0 (length s)) [
          | Fault n p d ↦ refusal n p
          | End q ↦ elim (ltb q (length s)) [ true ↦ refusal trailing_bytes q | false ↦ batch_answer e s ]
        ]
      ]
    ]

-- "11: table or output too short": "Room is enough exactly when the accepted answer fits" (SPECIFICATION 5)
unfoldable pub read_answer : ℕ → List ℕ → List ℕ → Answer
read_answer e s old =
    let a = answer e s in
    elim (eqb a.number acceptance) [ false ↦ a | true ↦ elim (fits a.count old) [ true ↦ a | false ↦ refusal no_room_number 0 ] ]

-- "what an accepted reading changes" is "now five numbers a row", and a refusal changes none
unfoldable pub table_after : ℕ → List ℕ → List ℕ → List ℕ
table_after e s old = elim (eqb (read_answer e s old).number acceptance) [ true ↦ over old 0 (numbers (rows_of_input s)) | false ↦ old ]
