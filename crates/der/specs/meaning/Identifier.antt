-- Identifier octets (X.690 8.1.2): SPECIFICATION 2.1. Assumes nothing.
use Rattle.std.specs.Prelude.{ℕ, ◌/◌, ◌%◌, Bool, not, ◌&&◌, ◌||◌, leb, ltb, eqb}

-- the tag number: the low five bits
unfoldable pub tag_number : ℕ → ℕ
tag_number id = id % 32

-- bit 6: the content is a list of elements
unfoldable pub constructed : ℕ → Bool
constructed id = eqb (id / 32 % 2) 1

-- bits 8 and 7: the class is universal
abbrev pub universal : ℕ → Bool
universal id = eqb (id / 64) 0

-- "1 to 6, 10, 12, 18 to 28 and 30 primitive"
abbrev pub primitive_type : ℕ → Bool
primitive_type t = leb 1 t && leb t 6 || eqb t 10 || eqb t 12 || leb 18 t && leb t 28 || eqb t 30

-- "16 and 17 constructed"
abbrev pub constructed_type : ℕ → Bool
constructed_type t = eqb t 16 || eqb t 17

-- "nothing else" of the universal class
abbrev pub universal_type : ℕ → Bool
universal_type id = constructed id && constructed_type (tag_number id) || not (constructed id) && primitive_type (tag_number id)

-- the table of SPECIFICATION 2.1: "one octet, tag number below 31"; "other classes: any"
unfoldable pub allowed : ℕ → Bool
allowed id = ltb (tag_number id) 31 && (not (universal id) || universal_type id)
