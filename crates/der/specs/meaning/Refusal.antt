-- The numbers that come back from a call: SPECIFICATION 4, document 01's table "Numbers that come back". Assumes nothing.
use Rattle.std.specs.Prelude.{ℕ}

-- "accepted, with the row count"
abbrev pub accepted : ℕ
accepted = 0

-- "input longer than 65,535 bytes"
abbrev pub too_long_number : ℕ
too_long_number = 1

-- "element cut short, or past its parent's end"
abbrev pub truncated : ℕ
truncated = 2

-- "identifier not allowed"
abbrev pub bad_identifier : ℕ
bad_identifier = 3

-- "length indefinite or not shortest"
abbrev pub bad_length : ℕ
bad_length = 4

-- "content breaks DER"
abbrev pub bad_content : ℕ
bad_content = 5

-- "element deeper than 20 (the batch is depth 1)"
abbrev pub too_deep : ℕ
too_deep = 6

-- "bytes after the batch"
abbrev pub trailing_bytes : ℕ
trailing_bytes = 7

-- "not in the grammar of either edition"
abbrev pub not_in_grammar : ℕ
not_in_grammar = 8

-- "not in this edition's grammar, but in the other's"
abbrev pub other_edition : ℕ
other_edition = 9

-- "a certReqId of more than 8 content octets"
abbrev pub long_cert_req_id : ℕ
long_cert_req_id = 10

-- "table or output too short"
abbrev pub no_room_number : ℕ
no_room_number = 11

-- "draft describes no acceptable batch"
abbrev pub no_such_batch : ℕ
no_such_batch = 12

-- "edition not 1 or 2"
abbrev pub unknown_edition_number : ℕ
unknown_edition_number = 13

-- "no message at that position"
abbrev pub no_such_message : ℕ
no_such_message = 14
