-- The number of each refusal. Assumes nothing.
use Rattle.std.specs.Prelude.{ℕ}
use Rattle.der.specs.declared.refusal.Refusal.{Refusal}
use Rattle.der.specs.declared.refusal.Refusal.TheVariants.{TooLong, Truncated, BadIdentifier, BadLength, BadContent, TooDeep, TrailingBytes, NotInGrammar, OtherEdition, LongCertReqId, NoRoom, NoSuchBatch, UnknownEdition, NoSuchMessage}
use Rattle.der.specs.meaning.Refusal.{too_long_number, truncated, bad_identifier, bad_length, bad_content, too_deep, trailing_bytes, not_in_grammar, other_edition, long_cert_req_id, no_room_number, no_such_batch, unknown_edition_number, no_such_message}

-- document 01's "Numbers that come back"
abbrev pub refusal_number : Refusal → ℕ
refusal_number TooLong = too_long_number
refusal_number Truncated = truncated
refusal_number BadIdentifier = bad_identifier
refusal_number BadLength = bad_length
refusal_number BadContent = bad_content
refusal_number TooDeep = too_deep
refusal_number TrailingBytes = trailing_bytes
refusal_number NotInGrammar = not_in_grammar
refusal_number OtherEdition = other_edition
refusal_number LongCertReqId = long_cert_req_id
refusal_number NoRoom = no_room_number
refusal_number NoSuchBatch = no_such_batch
refusal_number UnknownEdition = unknown_edition_number
refusal_number NoSuchMessage = no_such_message
