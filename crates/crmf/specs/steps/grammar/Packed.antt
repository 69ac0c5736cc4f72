-- A line as one number, for the table that code holds: its fields added up by weight, and each field read back. Assumes nothing.
use Rattle.std.specs.Prelude.{ℕ, ◌+◌, ◌*◌, ◌/◌, ◌%◌, Bool, true, false, not, ◌&&◌, List, [], ◌∷◌, map, eqb}
use Rattle.crmf.specs.meaning.Value.{always, integer, boolean, bit_string, empty, zero_or_one, true_only, utc_time, generalized_time_from2050, some_forwards, never}
use Rattle.crmf.specs.meaning.Value.{action, method, control_type, info_type}
use Rattle.crmf.specs.meaning.Notation.{Identifiers, octet, general_name, anything, nothing, Mark, both, alone, Marking, whatever, unless_two, AlgId, Spki, OneName, Rdn, Attribute}
use Rattle.crmf.specs.steps.grammar.Lines.{Judge, keep, choose, Pass, ends, needed, another, over, Line, lines, start}
use Rattle.crmf.specs.steps.explain.Walk.{rows_by}
use Rattle.crmf.specs.meaning.Kinds as kinds
use Rattle.crmf.specs.steps.grammar.Codes as codes

-- the codes of a line's fields
unfoldable pub pass_code : Pass → ℕ
pass_code ends = 0
pass_code needed = 1
pass_code another = 2
pass_code over = 3

unfoldable pub identifiers_code : Identifiers → ℕ
identifiers_code nothing = 0
identifiers_code anything = 1
identifiers_code general_name = 2
identifiers_code (octet a) = a + codes.octet

unfoldable pub judge_code : Judge → ℕ
judge_code (keep always) = 0
judge_code (keep integer) = 1
judge_code (keep boolean) = 2
judge_code (keep bit_string) = 3
judge_code (keep empty) = 4
judge_code (keep zero_or_one) = 5
judge_code (keep true_only) = 6
judge_code (keep utc_time) = 7
judge_code (keep generalized_time_from2050) = 8
judge_code (keep some_forwards) = 9
judge_code (keep never) = 10
judge_code (choose action) = 16
judge_code (choose method) = 17
judge_code (choose control_type) = 18
judge_code (choose info_type) = 19

-- the edition that alone allows the form, and the difference's number; 0 if both editions allow it
unfoldable pub mark_code : Mark → ℕ
mark_code both = 0
mark_code (alone e d detail) = e * codes.edition + d

-- the code of a form's marking
unfoldable pub marking_code : Marking → ℕ
marking_code (whatever m) = mark_code m
marking_code (unless_two m) = codes.unless_two + mark_code m

-- the number beside the first entry i in a list of pairs; `other` if there is none
unfoldable pub beside : List (ℕ × ℕ) → ℕ → ℕ → ℕ
beside [] i other = other
beside ((a, n) ∷ more) i other = elim (eqb i a) [ true ↦ n | false ↦ beside more i other ]

-- the action for a primitive value by its identifier alone: BOOLEAN, INTEGER, BIT STRING, NULL, OBJECT IDENTIFIER, ENUMERATED, UTF8String; the
-- content of any other type isn't looked at
abbrev pub own_action : ℕ → ℕ
own_action i =
    beside
    ((0x01, codes.take_by_line)
    ∷ (0x02, codes.take_integer)
    ∷ (0x03, codes.take_bit_string)
    ∷ (0x05, codes.take_by_line)
    ∷ (0x06, codes.take_object_identifier)
    ∷ (0x0A, codes.take_by_line)
    ∷ (0x0C, codes.take_utf8_string)
    ∷ [])
    i
    codes.take_unseen

-- the action for a primitive value by its line's judge, too: an INTEGER or a BIT STRING under an implicit tag has that type's action
abbrev pub value_action : Judge → ℕ → ℕ
value_action j i =
    beside
    ((judge_code (keep always), own_action i)
    ∷ (judge_code (keep integer), elim (eqb (own_action i) codes.take_unseen) [ true ↦ codes.take_integer | false ↦ codes.take_by_line ])
    ∷ (judge_code (keep bit_string), elim (eqb (own_action i) codes.take_unseen) [ true ↦ codes.take_bit_string | false ↦ codes.take_by_line ])
    ∷ [])
    (judge_code j)
    codes.take_by_line

-- the action for an inside, by the line at which it starts: the commonest containers have an action of their own
abbrev pub inside_action : ℕ → ℕ
inside_action j =
    beside
    ((0, codes.take_by_line)
    ∷ (start AlgId, codes.take_alg_id)
    ∷ (start Attribute, codes.take_attribute)
    ∷ (start Rdn, codes.take_rdn)
    ∷ (start Spki, codes.take_spki)
    ∷ (start OneName, codes.take_name)
    ∷ [])
    j
    codes.take_inside

-- whether bit 6 of an identifier is set: the content is a list of elements
abbrev pub constructed_bit : ℕ → Bool
constructed_bit i = eqb (i / 32 % 2) 1

-- What the recogniser does with an element in a line's form: by the line's identifiers and, if they are one octet, by its inside or its value.
-- For any line without an action of its own, the recogniser reads the line's fields.
unfoldable pub action_of : Line → ℕ
action_of x =
    let free = eqb x.inside 0 in
    let id = eqb x.kind kinds.cert_req_id in
    let common = eqb (marking_code x.marking) 0 in
    let unjudged = eqb (judge_code x.judge) 0 in
    elim x.identifiers [
      | nothing ↦ codes.take_nothing
      | general_name ↦ codes.take_by_line
      | anything ↦ elim (common && unjudged && free && not id) [ true ↦ codes.take_nest | false ↦ codes.take_by_line ]
      | octet i ↦
          elim common [
            | false ↦ codes.take_by_line
            | true ↦
                elim (constructed_bit i) [
                  | true ↦ elim (unjudged && not id) [ true ↦ inside_action x.inside | false ↦ codes.take_by_line ]
                  | false ↦
                      elim free [
                        | false ↦ codes.take_by_line
                        | true ↦ elim id [ false ↦ value_action x.judge i | true ↦ elim (unjudged && eqb i 0x02) [ true ↦ codes.take_cert_req_id | false ↦ codes.take_by_line ] ]
                      ]
                ]
          ]
    ]

-- a line as one number
unfoldable pub pack : Line → ℕ
pack x =
    pass_code x.pass
    + codes.id * identifiers_code x.identifiers
    + codes.inside * x.inside
    + codes.judge * judge_code x.judge
    + codes.kind * x.kind
    + codes.item * x.item
    + codes.mark * marking_code x.marking
    + codes.next * x.next
    + codes.action * action_of x
    + codes.rows * rows_by x

-- the table that code holds
unfoldable pub packed : List ℕ
packed = map pack lines

-- the fields of a packed line
abbrev pub pass_field : ℕ → ℕ
pass_field w = w % codes.passes

abbrev pub identifiers_field : ℕ → ℕ
identifiers_field w = w / codes.id % codes.identifiers

abbrev pub inside_field : ℕ → ℕ
inside_field w = w / codes.inside % codes.line_numbers

abbrev pub judge_field : ℕ → ℕ
judge_field w = w / codes.judge % codes.judges

abbrev pub kind_field : ℕ → ℕ
kind_field w = w / codes.kind % codes.kinds

abbrev pub item_field : ℕ → ℕ
item_field w = w / codes.item % codes.kinds

abbrev pub marking_field : ℕ → ℕ
marking_field w = w / codes.mark % codes.marks

abbrev pub next_field : ℕ → ℕ
next_field w = w / codes.next % codes.line_numbers

abbrev pub action_field : ℕ → ℕ
action_field w = w / codes.action % codes.actions

abbrev pub rows_field : ℕ → ℕ
rows_field w = w / codes.rows % codes.row_counts
