-- The duplicate search on short batches and lists of numbers, computed on the definitions. Assumes nothing.
use Prim.Native.Nat.{ℕ, ◌-◌, ◌^◌}
use mathlib.Core.Path.{◌≡◌, refl}
use mathlib.Core.List.{List, [], ◌∷◌, ◌++◌}
use Rattle.std.specs.Prelude.{Option, Some, None}
use lib.IntN.{ℤ, pos, negsuc}
use Rattle.der.specs.examples.Each.{Each, ◌&◌}
use Rattle.der.specs.meaning.Identifier.{tag_number, constructed, allowed}
use Rattle.der.specs.meaning.Length.{value_from, shortest, long_form, length_of}
use Rattle.der.specs.steps.Header.{sized_by, head_of}
use Rattle.der.specs.meaning.Content.{integer, last_of, unpadded, object_identifier}
use Rattle.der.specs.steps.ContentTest.{holds}
use Rattle.der.specs.steps.Order.{closes}
use Rattle.der.specs.steps.Explain.{list_of, by_rule, after_inside, element_of, walk_at}
use Rattle.der.specs.steps.Reading.{given, read, tree_of, tree, nothing_at}
use Rattle.crmf.specs.meaning.Value.{is_up_to, keeps, type_number, selected}
use Rattle.crmf.specs.meaning.Lists.{same}
use Rattle.crmf.specs.meaning.Notation.{among, named, order}
use Rattle.crmf.specs.meaning.Grammar.{content}
use Rattle.crmf.specs.steps.grammar.Lines.{part_size, size, starts_from, start, inside_line, pass_of, form_lines, next_line, way_line, part_lines, container_lines, lines_from, lines}
use Rattle.crmf.specs.steps.explain.Walk.{line, find_line_in, find_line, closed_in, closed, judged, with_form, with_long_id, with_element, walk, empty_tally}
use Rattle.crmf.specs.steps.explain.LongIds.{first_long}
use Rattle.crmf.specs.steps.rows.Fill.{goes, rows_from, rows_of_input}
use Rattle.crmf.specs.meaning.Fields.{fields, missing, nth, child}
use Rattle.crmf.specs.meaning.Fields
use Rattle.crmf.specs.meaning.Messages.{message_of, batch, messages}
use Rattle.editions.specs.steps.Reading.{batch_answer, answer}
use Rattle.verdict.specs.meaning.Duplicates.{signed, own_ids}
use Rattle.verdict.specs.steps.SearchAnswer.{ids, find, pair_from, searched, duplicates_answer}

-- octets and the number that they give
record Number : Type 0 where
  octets : List ℕ
  value : ℤ

-- the least and the greatest number of 8 bits, their neighbours, and those of 64 bits
numbers : List Number
numbers =
    record { octets = 0x00 ∷ []; value = pos 0 }
    ∷ record { octets = 0x7F ∷ []; value = pos 127 }
    ∷ record { octets = 0x80 ∷ []; value = negsuc 127 }
    ∷ record { octets = 0xFF ∷ []; value = negsuc 0 }
    ∷ record { octets = 0x00 ∷ 0x80 ∷ []; value = pos 128 }
    ∷ record { octets = 0xFF ∷ 0x7F ∷ []; value = negsuc 128 }
    ∷ record { octets = 0x7F ∷ 0xFF ∷ 0xFF ∷ 0xFF ∷ 0xFF ∷ 0xFF ∷ 0xFF ∷ 0xFF ∷ []; value = pos (2 ^ 63 - 1) }
    ∷ record { octets = 0x80 ∷ 0x00 ∷ 0x00 ∷ 0x00 ∷ 0x00 ∷ 0x00 ∷ 0x00 ∷ 0x00 ∷ []; value = negsuc (2 ^ 63 - 1) }
    ∷ []

-- each gives its number in two's complement
complements : Each (λ x. signed x.octets ≡ x.value) numbers
unfolding numbers signed value_from
complements = refl & refl & refl & refl & refl & refl & refl & refl & tt

-- the smallest message with a certReqId of one octet
abbrev message : ℕ → List ℕ
message id = 0x30 ∷ 0x07 ∷ 0x30 ∷ 0x05 ∷ 0x02 ∷ 0x01 ∷ id ∷ 0x30 ∷ 0x00 ∷ []

-- "stops at the first equal pair (least later position, then least earlier)": of 5 7 7 5 it is the inner one
abbrev nested : List ℕ
nested = 0x30 ∷ 0x24 ∷ (message 5 ++ message 7 ++ message 7 ++ message 5)

-- of 5 5 5 it is the first two
abbrev thrice : List ℕ
thrice = 0x30 ∷ 0x1B ∷ (message 5 ++ message 5 ++ message 5)

-- 0 and -1 differ, though the complement of FF is 00
abbrev signs : List ℕ
signs = 0x30 ∷ 0x12 ∷ (message 0x00 ++ message 0xFF)

-- "messages' own certReqIds": one message, which carries a certReq with the same certReqId in its regInfo
abbrev carrying : List ℕ
carrying =
    0x30 ∷ 0x1F ∷ 0x30 ∷ 0x1D ∷ 0x30 ∷ 0x05 ∷ 0x02 ∷ 0x01 ∷ 0x05 ∷ 0x30 ∷ 0x00
    ∷ 0x30 ∷ 0x14 ∷ 0x30 ∷ 0x12 ∷ 0x06 ∷ 0x09 ∷ 0x2B ∷ 0x06 ∷ 0x01 ∷ 0x05 ∷ 0x05 ∷ 0x07 ∷ 0x05 ∷ 0x02 ∷ 0x02
    ∷ 0x30 ∷ 0x05 ∷ 0x02 ∷ 0x01 ∷ 0x05 ∷ 0x30 ∷ 0x00 ∷ []

-- a batch, and the pair that is found, if any is
record Case : Type 0 where
  octets : List ℕ
  pair : Option (ℕ × ℕ)

cases : List Case
cases =
    record { octets = nested; pair = Some (1, 2) }
    ∷ record { octets = thrice; pair = Some (0, 1) }
    ∷ record { octets = signs; pair = None }
    ∷ record { octets = carrying; pair = None }
    ∷ []

-- each is accepted in both editions and searched so
searches : Each (λ x. (duplicates_answer 1 x.octets ≡ searched x.pair) × (duplicates_answer 2 x.octets ≡ searched x.pair)) cases
unfolding tag_number constructed allowed value_from shortest long_form length_of sized_by head_of
    integer last_of unpadded object_identifier holds list_of by_rule closes after_inside element_of walk_at nothing_at given read tree_of tree same is_up_to keeps type_number selected
    among named order content part_size size starts_from start inside_line pass_of form_lines next_line way_line part_lines container_lines lines_from lines
    line find_line_in find_line closed_in closed judged with_form with_long_id with_element walk empty_tally first_long goes rows_from rows_of_input fields missing nth Fields.first_with child message_of batch messages
    batch_answer answer cases signed own_ids ids find pair_from duplicates_answer
searches = (refl, refl) & (refl, refl) & (refl, refl) & (refl, refl) & tt
