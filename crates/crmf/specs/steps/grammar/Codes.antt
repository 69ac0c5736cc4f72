-- The codes of a packed line, by name: the room of each field, its weight, and the actions. src/grammar/codes.rt has the same names. Assumes
-- nothing.
use Rattle.std.specs.Prelude.{ℕ, ◌*◌}

-- the room of each field: its codes are below this
abbrev pub passes : ℕ
passes = 4

abbrev pub identifiers : ℕ
identifiers = 512

abbrev pub line_numbers : ℕ
line_numbers = 256

abbrev pub judges : ℕ
judges = 32

abbrev pub kinds : ℕ
kinds = 128

abbrev pub marks : ℕ
marks = 64

abbrev pub actions : ℕ
actions = 16

abbrev pub row_counts : ℕ
row_counts = 4

-- their weights, from the lowest up; the pass weighs 1
abbrev pub id : ℕ
id = passes

abbrev pub inside : ℕ
inside = id * identifiers

abbrev pub judge : ℕ
judge = inside * line_numbers

abbrev pub kind : ℕ
kind = judge * judges

abbrev pub item : ℕ
item = kind * kinds

abbrev pub mark : ℕ
mark = item * kinds

abbrev pub next : ℕ
next = mark * marks

abbrev pub action : ℕ
action = next * line_numbers

abbrev pub rows : ℕ
rows = action * actions

-- an octet's code is this plus the octet; the codes of all other identifiers are below it
abbrev pub octet : ℕ
octet = 3

-- a rule's code is below this, and a selector's is not
abbrev pub selectors : ℕ
selectors = 16

-- in a mark's code the edition has this weight, and the number of the difference is below it
abbrev pub edition : ℕ
edition = 8

-- the code of a mark that holds unless the value is 2 is this plus the mark's; all marks' codes are below it
abbrev pub unless_two : ℕ
unless_two = 32

-- The recogniser's actions: no element has the line's identifiers; the content isn't looked at; primitive values by their type (a certReqId
-- has at most 8 content octets, too); an element with any identifier and the whole nest inside it; a container, the commonest by actions of
-- their own; and every other line
abbrev pub take_nothing : ℕ
take_nothing = 0

abbrev pub take_unseen : ℕ
take_unseen = 1

abbrev pub take_object_identifier : ℕ
take_object_identifier = 2

abbrev pub take_integer : ℕ
take_integer = 3

abbrev pub take_cert_req_id : ℕ
take_cert_req_id = 4

abbrev pub take_bit_string : ℕ
take_bit_string = 5

abbrev pub take_utf8_string : ℕ
take_utf8_string = 6

abbrev pub take_nest : ℕ
take_nest = 7

abbrev pub take_inside : ℕ
take_inside = 8

abbrev pub take_alg_id : ℕ
take_alg_id = 9

abbrev pub take_attribute : ℕ
take_attribute = 10

abbrev pub take_rdn : ℕ
take_rdn = 11

abbrev pub take_by_line : ℕ
take_by_line = 12

abbrev pub take_spki : ℕ
take_spki = 13

abbrev pub take_name : ℕ
take_name = 14
