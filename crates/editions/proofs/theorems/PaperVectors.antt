-- Document 01's batches marked [P], read: one statement over the list of them. The answers are computed, and so are those that `Reads` relates.
-- Assumes nothing.
use mathlib.Core.Bool.{true}
use mathlib.Core.Path.{◌≡◌, refl}
use Rattle.der.specs.examples.Each.{Each, ◌&◌}
use Rattle.der.specs.meaning.Identifier.{tag_number, constructed, allowed}
use Rattle.der.specs.meaning.Length.{value_from, shortest, long_form, length_of}
use Rattle.der.specs.steps.Header.{sized_by, head_of}
use Rattle.der.specs.steps.Utf8Classes.{class_of, leads, tails, lowest, highest, utf8_from, utf8}
use Rattle.der.specs.meaning.Content.{integer, last_of, unpadded, object_identifier}
use Rattle.der.specs.steps.ContentTest.{holds}
use Rattle.der.specs.steps.Order.{closes}
use Rattle.der.specs.steps.Explain.{list_of, by_rule, after_inside, element_of, walk_at}
use Rattle.der.specs.steps.Reading.{given, read, tree_of, tree, nothing_at}
use Rattle.crmf.specs.meaning.Value.{is_up_to, keeps, type_number, selected}
use Rattle.crmf.specs.meaning.Lists.{same, over}
use Rattle.crmf.specs.meaning.Notation.{among, named, order}
use Rattle.crmf.specs.meaning.Grammar.{content}
use Rattle.crmf.specs.steps.grammar.Lines.{part_size, size, starts_from, start, inside_line, pass_of, form_lines, next_line, way_line, part_lines, container_lines, lines_from, lines}
use Rattle.crmf.specs.steps.explain.Walk.{line, find_line_in, find_line, closed_in, closed, judged, with_form, with_long_id, with_element, walk, empty_tally}
use Rattle.crmf.specs.meaning.Rows.{numbers}
use Rattle.crmf.specs.steps.explain.LongIds.{first_long}
use Rattle.crmf.specs.steps.rows.Fill.{goes, rows_from, rows_of_input, fits}
use Rattle.editions.specs.steps.Reading.{batch_answer, answer, read_answer, table_after}
use Rattle.editions.specs.meaning.Reads.{Reads}
use Rattle.editions.specs.examples.Paper.{Entry, entries}
use Rattle.editions.proofs.theorems.ReadsExactly.{reads_exactly}
use Rattle.editions.proofs.theorems.OctetVectors.{are_octets, test_octets, each_of}

-- the octets are octets, reading computes the entry's numbers, and leaves the entry's table
abbrev Computed : Entry → Type 0
Computed x =
    (are_octets x.octets ≡ true)
    × (read_answer x.edition x.octets x.table ≡ record { number = x.number; place = x.place; count = x.count })
    × (table_after x.edition x.octets x.table ≡ x.after)

computed : Each Computed entries
unfolding tag_number constructed allowed value_from shortest long_form length_of sized_by head_of
    class_of leads tails lowest highest utf8_from utf8 integer last_of unpadded object_identifier holds list_of by_rule closes after_inside element_of walk_at
    nothing_at given read tree_of tree same is_up_to keeps type_number selected among named order content
    part_size size starts_from start inside_line pass_of form_lines next_line way_line part_lines container_lines lines_from lines
    line find_line_in find_line closed_in closed judged with_form with_long_id with_element walk empty_tally numbers first_long goes rows_from rows_of_input over fits
    batch_answer answer read_answer table_after are_octets
computed =
    (refl, refl, refl) & (refl, refl, refl)
    & (refl, refl, refl) & (refl, refl, refl)
    & (refl, refl, refl) & (refl, refl, refl)
    & (refl, refl, refl) & (refl, refl, refl)
    & (refl, refl, refl) & (refl, refl, refl)
    & (refl, refl, refl) & (refl, refl, refl)
    & (refl, refl, refl) & (refl, refl, refl)
    & (refl, refl, refl) & (refl, refl, refl)
    & (refl, refl, refl) & (refl, refl, refl)
    & (refl, refl, refl) & (refl, refl, refl)
    & (refl, refl, refl) & (refl, refl, refl)
    & (refl, refl, refl) & (refl, refl, refl)
    & tt

-- reading an entry answers its numbers and leaves its table
abbrev pub ReadsEntry : Entry → Type 0
ReadsEntry x = Reads x.edition x.octets x.table x.number x.place x.count x.after

-- Every entry of the list is read as document 01 says.
pub paper : Each ReadsEntry entries
paper = each_of Computed ReadsEntry (λ x (octets, same, table). (reads_exactly x.edition x.octets x.table (test_octets x.octets octets) x.number x.place x.count x.after).1 (same, table)) entries computed
