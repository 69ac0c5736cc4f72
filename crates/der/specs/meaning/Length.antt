-- Length octets (X.690 8.1.3), what they give, and the shortest that give a number: SPECIFICATION 2.2. Assumes nothing.
use Rattle.std.specs.Prelude.{ℕ, zero, suc, ◌+◌, ◌-◌, ◌*◌, ◌/◌, ◌%◌, Bool, true, false, ◌&&◌, List, [], ◌∷◌, ◌++◌, leb, ltb, eqb, length, take}

-- What the octets from the first length octet to the parent's end say of the content's length.
pub data Length : Type 0 where
  -- not all length octets come before the end
  missing : Length
  -- indefinite, reserved or not the shortest form
  wrong : Length
  -- how many length octets there are, and the number that they give
  octets : ℕ → ℕ → Length

-- the number that octets give, the most significant first, after the number n
unfoldable pub value_from : ℕ → List ℕ → ℕ
value_from n [] = n
value_from n (b ∷ bs) = value_from (n * 256 + b) bs

-- X.690 10.1: "first not 00, and a single octet at least 80"
unfoldable pub shortest : List ℕ → Bool
shortest [] = false
shortest (b ∷ []) = leb 0x80 b
shortest (b ∷ c ∷ bs) = ltb 0 b

-- "81 to FE and that many octets (low seven bits)"; "80 and FF are 4", before any octet after them is looked at
unfoldable pub long_form : ℕ → List ℕ → Length
long_form k bs =
    elim (leb 1 k && leb k 126) [
      | false ↦ wrong
      | true ↦ elim (leb k (length bs)) [
        | false ↦ missing
        | true ↦ elim (shortest (take k bs)) [ false ↦ wrong | true ↦ octets (suc k) (value_from 0 (take k bs)) ]
      ]
    ]

-- the table of SPECIFICATION 2.2: "00 to 7F; or" the long form
unfoldable pub length_of : List ℕ → Length
length_of [] = missing
length_of (b ∷ bs) = elim (ltb b 0x80) [ true ↦ octets 1 b | false ↦ long_form (b - 0x80) bs ]

-- the octets of n to the base 256, the most significant first and not 00; the first argument bounds how many they are
unfoldable pub base256 : ℕ → ℕ → List ℕ
base256 zero n = []
base256 (suc k) n = elim (eqb n 0) [ true ↦ [] | false ↦ base256 k (n / 256) ++ (n % 256 ∷ []) ]

-- the shortest length octets of the number n
unfoldable pub length_octets : ℕ → List ℕ
length_octets n = elim (ltb n 0x80) [ true ↦ n ∷ [] | false ↦ (0x80 + length (base256 n n)) ∷ base256 n n ]
