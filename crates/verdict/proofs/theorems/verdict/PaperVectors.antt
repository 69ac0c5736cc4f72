-- Document 01's batches marked [P]: one statement over the list of them, of reading and of the verdicts that it prints. Assumes nothing.
use Prim.Native.Nat.{ℕ, suc}
use mathlib.Core.Path.{◌≡◌, refl}
use mathlib.Core.List.{List, [], ◌∷◌}
use Rattle.der.specs.examples.Each.{Each, ◌&◌}
use Rattle.der.specs.meaning.Identifier.{tag_number, constructed, allowed}
use Rattle.der.specs.meaning.Length.{value_from, shortest, long_form, length_of}
use Rattle.der.specs.steps.Header.{sized_by, head_of}
use Rattle.der.specs.meaning.Content.{integer, last_of, unpadded, object_identifier}
use Rattle.der.specs.steps.ContentTest.{holds}
use Rattle.der.specs.steps.Order.{closes}
use Rattle.der.specs.steps.Explain.{list_of, by_rule, after_inside, element_of, walk_at}
use Rattle.der.specs.steps.Reading.{given, read, tree_of, tree, nothing_at}
use Rattle.crmf.specs.meaning.Value.{is_up_to, keeps, type_number, selected}
use Rattle.crmf.specs.meaning.Lists.{same}
use Rattle.crmf.specs.meaning.Notation.{among, named, order}
use Rattle.crmf.specs.meaning.Grammar.{content}
use Rattle.crmf.specs.steps.grammar.Lines.{part_size, size, starts_from, start, inside_line, pass_of, form_lines, next_line, way_line, part_lines, container_lines, lines_from, lines}
use Rattle.crmf.specs.steps.explain.Walk.{line, find_line_in, find_line, closed_in, closed, judged, with_form, with_long_id, with_element, walk, empty_tally}
use Rattle.crmf.specs.steps.explain.LongIds.{first_long}
use Rattle.crmf.specs.steps.rows.Fill.{goes, rows_from, rows_of_input}
use Rattle.crmf.specs.meaning.Fields.{fields, missing, nth, child}
use Rattle.crmf.specs.meaning.Fields
use Rattle.crmf.specs.meaning.Messages.{message_of, batch, messages}
use Rattle.editions.specs.steps.Reading.{batch_answer, answer}
use Rattle.editions.specs.examples.Paper.{Entry, entries}
use Rattle.editions.proofs.Laws.{ReadsEntry, paper as read-paper}
use Rattle.verdict.specs.meaning.Verdict.{verdict_of, signed_of}
use Rattle.verdict.specs.steps.JudgeAnswer.{verdict_answer}

-- the verdicts on an entry's messages, from a position on
abbrev pub JudgesEntry : Entry → ℕ → List ℕ → Type 0
JudgesEntry x i [] = Unit {0}
JudgesEntry x i (v ∷ vs) =
    ((verdict_answer x.edition x.octets i).number ≡ 0) × ((verdict_answer x.edition x.octets i).verdict ≡ v) × JudgesEntry x (suc i) vs

judgings : Each (λ x. JudgesEntry x 0 x.verdicts) entries
unfolding tag_number constructed allowed value_from shortest long_form length_of sized_by head_of
    integer last_of unpadded object_identifier holds list_of by_rule closes after_inside element_of walk_at nothing_at given read tree_of tree same is_up_to keeps type_number selected
    among named order content part_size size starts_from start inside_line pass_of form_lines next_line way_line part_lines container_lines lines_from lines
    line find_line_in find_line closed_in closed judged with_form with_long_id with_element walk empty_tally first_long goes rows_from rows_of_input fields missing nth Fields.first_with child message_of batch messages
    batch_answer answer verdict_of signed_of verdict_answer
judgings =
    tt & tt & tt & tt & tt & tt & tt & tt & tt & tt & tt & tt & tt & tt
    & (refl, refl, tt) & (refl, refl, tt)
    & tt & tt & tt & tt & tt & tt & tt & tt
    & tt

-- two facts of each
both : {A : Type 0} (P Q : A → Type 0) (xs : List A) → Each P xs → Each Q xs → Each (λ x. P x × Q x) xs
both P Q [] p q = tt
both P Q (x ∷ xs) p q = (p.0, q.0) & both P Q xs p.1 q.1

-- Every entry of the list is read and judged as document 01 says.
pub paper : Each (λ x. ReadsEntry x × JudgesEntry x 0 x.verdicts) entries
paper = both ReadsEntry (λ x. JudgesEntry x 0 x.verdicts) entries read-paper judgings
