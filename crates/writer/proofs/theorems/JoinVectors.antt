-- Worked joins and cuts, computed on the definitions: document 01's smallest batch S joined with itself, with both messages cut out again, and the
-- rows that the request gives; and a join whose header is longer than both batches' headers. Assumes nothing.
use Prim.Native.Nat.{ℕ}
use mathlib.Core.Path.{◌≡◌, refl}
use mathlib.Core.List.{List, [], ◌∷◌, map, flatten}
use lib.ListN.{replicate, take}
use Rattle.der.specs.meaning.Identifier.{tag_number, constructed, allowed}
use Rattle.der.specs.meaning.Length.{value_from, shortest, long_form, length_of, length_octets, base256}
use Rattle.der.specs.meaning.Tree.{header}
use Rattle.der.specs.steps.Header.{sized_by, head_of}
use Rattle.der.specs.steps.Reading.{given, read, tree_of, tree}
use Rattle.crmf.specs.meaning.Notation.{among}
use Rattle.crmf.specs.meaning.Fields.{fields, octets, nth, first_with}
use Rattle.crmf.specs.meaning.Messages.{message_of, batch, messages, message_octets, batch_octets}
use Rattle.crmf.specs.meaning.Rows.{Row, moved_row, renumbered_row, numbers}
use Rattle.writer.specs.meaning.Joins.{join}
use Rattle.writer.specs.meaning.Cuts.{cut}

-- S
abbrev smallest : List ℕ
smallest = 0x30 ∷ 0x09 ∷ 0x30 ∷ 0x07 ∷ 0x30 ∷ 0x05 ∷ 0x02 ∷ 0x01 ∷ 0x00 ∷ 0x30 ∷ 0x00 ∷ []

-- "S and S: 30 12 30 07 30 05 02 01 00 30 00 30 07 30 05 02 01 00 30 00"
abbrev twice : List ℕ
twice = 0x30 ∷ 0x12 ∷ 0x30 ∷ 0x07 ∷ 0x30 ∷ 0x05 ∷ 0x02 ∷ 0x01 ∷ 0x00 ∷ 0x30 ∷ 0x00 ∷ 0x30 ∷ 0x07 ∷ 0x30 ∷ 0x05 ∷ 0x02 ∷ 0x01 ∷ 0x00 ∷ 0x30 ∷ 0x00 ∷ []

smallest_twice : join (tree 0 smallest) (tree 0 smallest) ≡ twice
unfolding tag_number constructed allowed tree tree_of read given head_of sized_by length_of long_form shortest value_from length_octets base256 header among fields octets nth first_with message_of batch messages message_octets batch_octets flatten join
smallest_twice = refl

-- S is cut out of it at both positions
smallest_again : map cut (messages (tree 0 twice)) ≡ smallest ∷ smallest ∷ []
unfolding tag_number constructed allowed tree tree_of read given head_of sized_by length_of long_form shortest value_from length_octets base256 header among fields octets nth first_with message_of batch messages message_octets batch_octets flatten cut
smallest_again = refl

-- "further rows 2 11 9 0, 3 13 7 5, 4 15 3 6, 5 18 2 6", here with the content's first byte: S's own rows below the batch's, 9 bytes further on
-- and numbered 4 further
abbrev below : List Row
below =
    record { kind = 2; first = 2; whole = 9; parent = 0; content = 4 }
    ∷ record { kind = 3; first = 4; whole = 7; parent = 1; content = 6 }
    ∷ record { kind = 4; first = 6; whole = 3; parent = 2; content = 8 }
    ∷ record { kind = 5; first = 9; whole = 2; parent = 2; content = 11 }
    ∷ []

further_rows : numbers (map (λ (r : Row). renumbered_row 4 (moved_row 9 r)) below)
    ≡ 2 ∷ 11 ∷ 9 ∷ 0 ∷ 13 ∷ 3 ∷ 13 ∷ 7 ∷ 5 ∷ 15 ∷ 4 ∷ 15 ∷ 3 ∷ 6 ∷ 17 ∷ 5 ∷ 18 ∷ 2 ∷ 6 ∷ 20 ∷ []
unfolding numbers
further_rows = refl

-- "S and a batch of 121 octets (30 77 ..): 30 81 80 ..": 119 octets of messages after S's nine
grown : take 5 (batch_octets ((0x30 ∷ 0x07 ∷ 0x30 ∷ 0x05 ∷ 0x02 ∷ 0x01 ∷ 0x00 ∷ 0x30 ∷ 0x00 ∷ []) ∷ (0x30 ∷ 0x75 ∷ replicate 117 0) ∷ []))
    ≡ 0x30 ∷ 0x81 ∷ 0x80 ∷ 0x30 ∷ 0x07 ∷ []
unfolding header length_octets base256 batch_octets flatten
grown = refl
