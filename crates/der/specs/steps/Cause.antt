-- The number and the detail of each cause for which an element is refused. Assumes nothing.
use Rattle.std.specs.Prelude.{ℕ}
use Rattle.der.specs.declared.cause.Cause.{Cause}
use Rattle.der.specs.declared.cause.Cause.TheVariants.{TooLong, TooDeep, NoIdentifier, WrongIdentifier, NoLength, WrongLength, PastEnd, WrongContent}

-- document 01's "Numbers that come back"
abbrev pub cause_number : Cause → ℕ
cause_number TooLong = 1
cause_number TooDeep = 6
cause_number NoIdentifier = 2
cause_number WrongIdentifier = 3
cause_number NoLength = 2
cause_number WrongLength = 4
cause_number PastEnd = 2
cause_number (WrongContent tag) = 5

-- request A9: "for 2, 1 identifier missing, 2 length missing, 3 past the end; for 5 the tag number; .. else 0"
abbrev pub cause_detail : Cause → ℕ
cause_detail TooLong = 0
cause_detail TooDeep = 0
cause_detail NoIdentifier = 1
cause_detail WrongIdentifier = 0
cause_detail NoLength = 2
cause_detail WrongLength = 0
cause_detail PastEnd = 3
cause_detail (WrongContent tag) = tag
