-- A batch put around the octets of its messages, which come in two runs: the answer, and the output afterwards. Assumes nothing.
use Rattle.std.specs.Prelude.{ℕ, true, false, List, ◌++◌, leb, length}
use Rattle.der.specs.meaning.Bounds.{longest}
use Rattle.der.specs.meaning.Refusal.{too_long_number}
use Rattle.der.specs.meaning.Tree.{header}
use Rattle.editions.specs.meaning.Answer.{Answer}
use Rattle.editions.specs.steps.Reading.{refusal}
use Rattle.writer.specs.steps.Writing.{delivered_answer, delivered_output}

-- the batch whose content is one run of octets and then another
abbrev pub around : List ℕ → List ℕ → List ℕ
around left right = header 0x30 (left ++ right) ++ (left ++ right)

-- it is refused if it is too long, and otherwise delivered
unfoldable pub around_answer : List ℕ → List ℕ → List ℕ → Answer
around_answer left right old =
    elim (leb (length (around left right)) longest) [ false ↦ refusal too_long_number 0 | true ↦ delivered_answer (around left right) old ]

unfoldable pub around_output : List ℕ → List ℕ → List ℕ → List ℕ
around_output left right old =
    elim (leb (length (around left right)) longest) [ false ↦ old | true ↦ delivered_output (around left right) old ]
