-- Worked examples of rows, document 01's batches first, computed on the definitions. Assumes nothing.
use Prim.Native.Nat.{ℕ}
use mathlib.Core.Path.{◌≡◌, refl}
use mathlib.Core.List.{List, [], ◌∷◌, ◌++◌, map}
use Rattle.der.specs.examples.Each.{Each}
use Rattle.der.specs.meaning.Identifier.{tag_number, constructed, allowed}
use Rattle.der.specs.meaning.Length.{value_from, shortest, long_form, length_of, base256}
use Rattle.der.specs.steps.Header.{sized_by, head_of}
use Rattle.der.specs.steps.Reading.{nothing_at, given, read, tree_of, tree}
use Rattle.crmf.specs.meaning.Value.{number, type_number, selected}
use Rattle.crmf.specs.meaning.Lists.{same, over}
use Rattle.crmf.specs.meaning.Notation.{among, named, order}
use Rattle.crmf.specs.meaning.Grammar.{content}
use Rattle.crmf.specs.steps.grammar.Lines.{part_size, size, starts_from, start, inside_line, pass_of, form_lines, next_line, way_line, part_lines, container_lines, lines_from, lines}
use Rattle.crmf.specs.steps.explain.Walk.{line, find_line_in, find_line}
use Rattle.crmf.specs.meaning.Rows.{numbers}
use Rattle.crmf.specs.steps.rows.Fill.{goes, rows_from, rows_of_input, fits, filled}

-- A batch, its octets as the digits of a number, and the numbers of its rows.
record Example : Type 0 where
  octets : ℕ
  table : List ℕ

abbrev each : ℕ → List ℕ → Example
each bs t = record { octets = bs; table = t }

-- the octets of a batch
abbrev batch : ℕ → List ℕ
batch bs = base256 128 bs

-- the rows have these numbers
abbrev Shows : Example → Type 0
Shows e = numbers (rows_of_input (batch e.octets)) ≡ e.table

-- the rows of a message at 2 with an empty template, by its whole length and the batch's
abbrev first : ℕ → ℕ → List ℕ
first w v = 1 ∷ 0 ∷ w ∷ 0 ∷ 2 ∷ 2 ∷ 2 ∷ v ∷ 0 ∷ 4 ∷ 3 ∷ 4 ∷ 7 ∷ 1 ∷ 6 ∷ 4 ∷ 6 ∷ 3 ∷ 2 ∷ 8 ∷ 5 ∷ 9 ∷ 2 ∷ 2 ∷ 11 ∷ []

abbrev examples : List Example
examples =
    -- S, row by row: "gain the column (for S: 2, 4, 6, 8, 11)"
    each 0x3009300730050201003000
    (1 ∷ 0 ∷ 11 ∷ 0 ∷ 2
    ∷ 2 ∷ 2 ∷ 9 ∷ 0 ∷ 4
    ∷ 3 ∷ 4 ∷ 7 ∷ 1 ∷ 6
    ∷ 4 ∷ 6 ∷ 3 ∷ 2 ∷ 8
    ∷ 5 ∷ 9 ∷ 2 ∷ 2 ∷ 11
    ∷ [])
    -- "further rows 52 11 5 1 and 61 13 3 5", here and below with the content's first byte, which two octets come before
    ∷ each 0x300E300C30050201003000A203810100 (first 16 14 ++ (52 ∷ 11 ∷ 5 ∷ 1 ∷ 13 ∷ 61 ∷ 13 ∷ 3 ∷ 5 ∷ 15 ∷ []))
    -- "further rows 70 11 21 1 and 73 13 19 5"
    ∷ each 0x301E301C300502010030003013301106092B06010505070502010C04613F6225 (first 32 30 ++ (70 ∷ 11 ∷ 21 ∷ 1 ∷ 13 ∷ 73 ∷ 13 ∷ 19 ∷ 5 ∷ 15 ∷ []))
    -- "With 04 for 0C: the reverse, kind 72"
    ∷ each 0x301E301C300502010030003013301106092B06010505070502010404613F6225 (first 32 30 ++ (70 ∷ 11 ∷ 21 ∷ 1 ∷ 13 ∷ 72 ∷ 13 ∷ 19 ∷ 5 ∷ 15 ∷ []))
    -- "carried certReq item 74 (its child is a 3; its type is implied)"
    ∷ each 0x301F301D300502010030003014301206092B060105050705020230050201003000
    (first 33 31 ++ (70 ∷ 11 ∷ 22 ∷ 1 ∷ 13 ∷ 74 ∷ 13 ∷ 20 ∷ 5 ∷ 15 ∷ 3 ∷ 26 ∷ 7 ∷ 6 ∷ 28 ∷ 4 ∷ 28 ∷ 3 ∷ 7 ∷ 30 ∷ 5 ∷ 31 ∷ 2 ∷ 7 ∷ 33 ∷ []))
    -- a control's item, and the template's validity with its time
    ∷ each 0x301A301830160201003000300F300D06092B06010505070501010C00
    (1 ∷ 0 ∷ 28 ∷ 0 ∷ 2 ∷ 2 ∷ 2 ∷ 26 ∷ 0 ∷ 4 ∷ 3 ∷ 4 ∷ 24 ∷ 1 ∷ 6 ∷ 4 ∷ 6 ∷ 3 ∷ 2 ∷ 8 ∷ 5 ∷ 9 ∷ 2 ∷ 2 ∷ 11 ∷ 30 ∷ 11 ∷ 17 ∷ 2 ∷ 13 ∷ 41 ∷ 13 ∷ 15 ∷ 5 ∷ 15 ∷ [])
    ∷ each 0x301E301C301A0201003015A413A011180F32303030303232393030303030305A
    (1 ∷ 0 ∷ 32 ∷ 0 ∷ 2 ∷ 2 ∷ 2 ∷ 30 ∷ 0 ∷ 4 ∷ 3 ∷ 4 ∷ 28 ∷ 1 ∷ 6 ∷ 4 ∷ 6 ∷ 3 ∷ 2 ∷ 8 ∷ 5 ∷ 9 ∷ 23 ∷ 2 ∷ 11 ∷ 14 ∷ 11 ∷ 21 ∷ 4 ∷ 13 ∷ 20 ∷ 13 ∷ 19 ∷ 5 ∷ 15 ∷ [])
    -- two messages, the second with a field that the first hasn't
    ∷ each 0x3015300730050201003000300A30080201013003800102
    (first 23 9 ++ (2 ∷ 11 ∷ 12 ∷ 0 ∷ 13 ∷ 3 ∷ 13 ∷ 10 ∷ 5 ∷ 15 ∷ 4 ∷ 15 ∷ 3 ∷ 6 ∷ 17 ∷ 5 ∷ 18 ∷ 5 ∷ 6 ∷ 20 ∷ 10 ∷ 20 ∷ 3 ∷ 8 ∷ 22 ∷ []))
    ∷ []

-- every example has such rows
worked : Each Shows examples
unfolding tag_number constructed allowed value_from shortest long_form length_of base256 sized_by head_of
    nothing_at given read tree_of tree same number type_number selected among named order content
    part_size size starts_from start inside_line pass_of form_lines next_line way_line part_lines container_lines lines_from lines
    line find_line_in find_line goes rows_from rows_of_input numbers
worked = (refl, (refl, (refl, (refl, (refl, (refl, (refl, (refl, tt))))))))

-- a table of 24 equal numbers, and others after them
abbrev before : List ℕ → List ℕ
before more = 7 ∷ 7 ∷ 7 ∷ 7 ∷ 7 ∷ 7 ∷ 7 ∷ 7 ∷ 7 ∷ 7 ∷ 7 ∷ 7 ∷ 7 ∷ 7 ∷ 7 ∷ 7 ∷ 7 ∷ 7 ∷ 7 ∷ 7 ∷ 7 ∷ 7 ∷ 7 ∷ 7 ∷ more

-- "S's room cases become 24 and 25": one number short the table stays; with room it holds the rows, and the number after them stays
tables : map (filled (batch 0x3009300730050201003000) 5) (before [] ∷ before (7 ∷ []) ∷ before (7 ∷ 8 ∷ []) ∷ [])
    ≡ before [] ∷ first 11 9 ∷ (first 11 9 ++ (8 ∷ [])) ∷ []
unfolding tag_number constructed allowed value_from shortest long_form length_of base256 sized_by head_of
    nothing_at given read tree_of tree same number type_number selected among named order content
    part_size size starts_from start inside_line pass_of form_lines next_line way_line part_lines container_lines lines_from lines
    line find_line_in find_line goes rows_from rows_of_input numbers over fits filled
tables = refl
