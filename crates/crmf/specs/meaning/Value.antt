-- The value rules, each on an element's content octets: document 01's section "The grammar", SPECIFICATION 3.5 and 3.6. Assumes nothing.
use Rattle.std.specs.Prelude.{ℕ, Bool, true, false, not, ◌&&◌, List, [], ◌∷◌, leb, eqb, length, get_or}
use Rattle.std.proofs.Math.Option
use Rattle.std.proofs.Math.Option.{Option, some as present, none as absent}
use Rattle.der.specs.meaning.Content as der
use Rattle.time.specs.meaning.Time.{utc_moment, generalized_moment}
use Rattle.time.specs.meaning.Validity.{forwards}
use Rattle.crmf.specs.meaning.Lists.{same}
use Rattle.crmf.specs.meaning.Details.{part_missing, value_broken, list_or_location}

-- "raVerified 80 empty"
unfoldable pub is_empty : List ℕ → Bool
is_empty c = eqb (length c) 0

-- whether there is a single octet, and it is at most n
unfoldable pub is_up_to : ℕ → List ℕ → Bool
is_up_to n c = eqb (length c) 1 && leb (get_or c 0 0) n

-- the value of such an octet, if there is one
unfoldable pub number : ℕ → List ℕ → Option ℕ
number n c = elim (is_up_to n c) [ true ↦ present (get_or c 0 0) | false ↦ absent ]

-- "a BOOLEAN present must be FF"
unfoldable pub is_true_octet : List ℕ → Bool
is_true_octet c = same c (0xFF ∷ [])

-- "version, if given, is 2" (document 02, A4): whether the content octets are those of the INTEGER 2
unfoldable pub is_two : List ℕ → Bool
is_two c = same c (0x02 ∷ [])

-- whether a moment is shown
unfoldable pub is_shown : Option ℕ → Bool
is_shown absent = false
is_shown (present n) = true

-- A rule that an element's value keeps, judged after the element's inside (SPECIFICATION 3.6).
pub data Rule : Type 0 where
  -- none
  always : Rule
  -- "An implicitly tagged INTEGER, BOOLEAN or BIT STRING keeps that type's content rule"
  integer boolean bit_string : Rule
  empty : Rule
  -- "INTEGER 0 or 1"
  zero_or_one : Rule
  -- FF
  true_only : Rule
  -- "17, YYMMDDHHMMSSZ"; it shows days from 1950 through 2049
  utc_time : Rule
  -- "18, YYYYMMDDHHMMSSZ"; document 02, A12: "days through 2049 stand as UTCTime and later ones as GeneralizedTime (RFC 5280; none before 1950)"
  generalized_time_from2050 : Rule
  -- "at least one" part inside; document 02, A12: "notAfter isn't earlier than notBefore"
  some_forwards : Rule
  -- "the list only with 1": beside any other action it is never allowed
  never : Rule

-- whether content octets keep a rule
unfoldable pub keeps : Rule → List ℕ → Bool
keeps always c = true
keeps integer c = der.integer c
keeps boolean c = der.boolean c
keeps bit_string c = der.bit_string c
keeps empty c = is_empty c
keeps zero_or_one c = is_up_to 1 c
keeps true_only c = is_true_octet c
keeps utc_time c = is_shown (utc_moment c)
keeps generalized_time_from2050 c = is_shown (generalized_moment c)
keeps some_forwards c = not (is_empty c) && forwards c
keeps never c = false

-- A value that selects how its container goes on (SPECIFICATION 3.5).
pub data Selector : Type 0 where
  -- "02 (0 or 1)" and "02 (0 to 3)"
  action method : Selector
  -- "Type octets 2B 06 01 05 05 07 05 01 n in controls", "In regInfo 2B 06 01 05 05 07 05 02 n"
  control_type info_type : Selector

-- the last octet n of a known type with the arc a, from 1 to `most`; none if the type is unknown (SPECIFICATION 3.5)
unfoldable pub type_number : ℕ → ℕ → List ℕ → Option ℕ
type_number a most c =
    let n = get_or c 8 0 in
    elim (same c (0x2B ∷ 0x06 ∷ 0x01 ∷ 0x05 ∷ 0x05 ∷ 0x07 ∷ 0x05 ∷ a ∷ n ∷ []) && leb 1 n && leb n most) [ true ↦ present n | false ↦ absent ]

-- the number of the way that a value selects, from 0; none if the value breaks its rule. A known type selects the way of its number, and an
-- unknown one way 0, "any value".
unfoldable pub selected : Selector → List ℕ → Option ℕ
selected action c = number 1 c
selected method c = number 3 c
selected control_type c = present (Option.get_or (type_number 1 6 c) 0)
selected info_type c = present (Option.get_or (type_number 2 2 c) 0)

-- request A9's detail of content octets that break a rule: an empty validity lacks a part, one that runs backwards is a value that breaks its
-- rule, and a list beside action 0 is "control 3's list"
abbrev pub rule_detail : Rule → List ℕ → ℕ
rule_detail always c = value_broken
rule_detail integer c = value_broken
rule_detail boolean c = value_broken
rule_detail bit_string c = value_broken
rule_detail empty c = value_broken
rule_detail zero_or_one c = value_broken
rule_detail true_only c = value_broken
rule_detail utc_time c = value_broken
rule_detail generalized_time_from2050 c = value_broken
rule_detail some_forwards c = elim (is_empty c) [ true ↦ part_missing | false ↦ value_broken ]
rule_detail never c = list_or_location
