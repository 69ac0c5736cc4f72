-- Refusals, faults and answers as text. Assumes nothing.
use Rattle.std.specs.Prelude.{ℕ, true, false, Result, Ok, Err, List, [], ◌∷◌, ◌++◌, eqb}
use Rattle.der.specs.declared.refusal.Refused.{Refused}
use Rattle.der.specs.steps.Refusal.{refusal_number}
use Rattle.format.specs.Decimal.{decimal}

-- NUMBER@PLACE
unfoldable pub refusal_text : ℕ → ℕ → List ℕ
refusal_text number place = decimal number ++ (0x40 ∷ decimal place)

-- NUMBER@PLACE DETAIL
unfoldable pub fault_text : ℕ → ℕ → ℕ → List ℕ
fault_text number place detail = refusal_text number place ++ (0x20 ∷ decimal detail)

-- ` and not 0 but `
abbrev pub and_not_zero_but : List ℕ
and_not_zero_but =
    0x20 ∷ 0x61 ∷ 0x6E ∷ 0x64 ∷ 0x20 ∷ 0x6E ∷ 0x6F ∷ 0x74 ∷ 0x20 ∷ 0x30 ∷ 0x20 ∷ 0x62 ∷ 0x75 ∷ 0x74 ∷ 0x20 ∷ []

-- nothing for 0, and ` and not 0 but N` for any other number
unfoldable pub remark : ℕ → List ℕ
remark n = elim (eqb n 0) [ true ↦ [] | false ↦ and_not_zero_but ++ decimal n ]

-- `0 COUNT`, and a remark on the place; or NUMBER@PLACE, and a remark on the count
unfoldable pub answer_text : ℕ → ℕ → ℕ → List ℕ
answer_text number place count =
    elim (eqb number 0) [
      | true ↦ (0x30 ∷ 0x20 ∷ decimal count) ++ remark place
      | false ↦ refusal_text number place ++ remark count
    ]

-- the same of what a call answers, which has no third number
unfoldable pub outcome_text : Result ℕ Refused → List ℕ
outcome_text (Ok count) = answer_text 0 0 count
outcome_text (Err refused) = answer_text (refusal_number refused.refusal) refused.place 0
