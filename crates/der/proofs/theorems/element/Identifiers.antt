-- What a known identifier octet says: bit 6, and whether it is allowed, as a test that tables of identifiers can compute. Assumes nothing.
use Prim.Native.Nat.{ℕ, ◌/◌, ◌%◌}
use mathlib.Core.Bool.{Bool, true, false, not, ◌&&◌, ◌||◌, and-eq-true_iff, false≢true}
use mathlib.Core.Path.{◌≡◌, refl, ◌∙◌}
use lib.Dec.{T, leb, ltb, eqb}
use borrow.Author.Tests.{eq-eqb, ltb-true}
use Rattle.der.specs.meaning.Identifier.{tag_number, constructed, allowed}
use Rattle.der.proofs.theorems.lists.Range.{every, each}

-- bit 6 says whether the content is a list of elements
pub constructed_octet : (id : ℕ) → constructed id ≡ eqb (id / 32 % 2) 1
unfolding constructed
constructed_octet id = refl

-- if it is set, the content is a list of elements
pub constructed_bit_lem : (id : ℕ) → id / 32 % 2 ≡ 1 → constructed id ≡ true
constructed_bit_lem id bit = constructed_octet id ∙ eq-eqb (id / 32 % 2) 1 bit

-- a SEQUENCE is constructed
pub sequence_constructed : constructed 0x30 ≡ true
sequence_constructed = constructed_bit_lem 0x30 refl

-- an INTEGER is primitive
pub integer_primitive : constructed 0x02 ≡ false
integer_primitive = constructed_octet 0x02

-- Octets that are allowed as identifiers: of a universal type, or of another class with a tag number below 31.
abbrev pub known : ℕ → Bool
known id =
    ltb id 256
    && (leb 1 id && leb id 6
    || eqb id 10
    || eqb id 12
    || leb 18 id && leb id 28
    || eqb id 30
    || eqb id 0x30
    || eqb id 0x31
    || leb 64 id && ltb (id % 32) 31)

-- what the test takes is allowed, computed at every octet
all_known : every 256 (λ id. not (known id) || allowed id) ≡ true
unfolding allowed constructed tag_number
all_known = refl

pub known_allowed : (id : ℕ) → known id ≡ true → allowed id ≡ true
known_allowed id is =
    implied (known id) (allowed id) (each 256 (λ i. not (known i) || allowed i) all_known id (ltb-true id 256 ((and-eq-true_iff _ _).0 is).0)) is
  where
    implied : (a b : Bool) → (not a || b) ≡ true → a ≡ true → b ≡ true
    implied true b e t = e
    implied false b e t = absurd (false≢true t)

-- the identifier of a SEQUENCE is allowed
pub sequence_allowed : T (allowed 0x30)
unfolding allowed constructed tag_number
sequence_allowed = tt
