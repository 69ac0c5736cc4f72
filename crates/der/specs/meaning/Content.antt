-- The content rules, each on the list of content octets, with X.690's sections: SPECIFICATION 2.3. Breaking one is refusal 5. Assumes nothing.
use Rattle.std.specs.Prelude.{ℕ, ◌%◌, ◌^◌, ◌≡◌, Bool, true, false, not, ◌&&◌, ◌||◌, List, [], ◌∷◌, T, leb, ltb, eqb}
use Rattle.der.specs.meaning.Utf8.{Utf8}

-- X.690 8.2, 11.1: "BOOLEAN one octet, 00 or FF"
unfoldable pub boolean : List ℕ → Bool
boolean [] = false
boolean (b ∷ []) = eqb b 0x00 || eqb b 0xFF
boolean (b ∷ c ∷ bs) = false

-- X.690 8.3, 8.4: "INTEGER and ENUMERATED at least one octet; the first nine bits not all equal where there are two or more octets"
unfoldable pub integer : List ℕ → Bool
integer [] = false
integer (b ∷ []) = true
integer (b ∷ c ∷ bs) = not (eqb b 0x00 && ltb c 0x80 || eqb b 0xFF && leb 0x80 c)

-- X.690 8.8: "NULL empty"
unfoldable pub null : List ℕ → Bool
null [] = true
null (b ∷ bs) = false

-- the last of the octet b and the octets after it
unfoldable pub last_of : ℕ → List ℕ → ℕ
last_of b [] = b
last_of b (c ∷ bs) = last_of c bs

-- "no part starting with 80": a part, X.690's subidentifier, starts after an octet below 80, which ends the one before it
unfoldable pub unpadded : ℕ → List ℕ → Bool
unpadded before [] = true
unpadded before (b ∷ bs) = not (ltb before 0x80 && eqb b 0x80) && unpadded b bs

-- X.690 8.19: "OBJECT IDENTIFIER not empty, no part starting with 80, last octet below 80"; the first octet starts a part
unfoldable pub object_identifier : List ℕ → Bool
object_identifier [] = false
object_identifier (b ∷ bs) = unpadded 0x00 (b ∷ bs) && ltb (last_of b bs) 0x80

-- X.690 8.6, 11.2: "BIT STRING: not empty, first octet u at most 7, u = 0 if alone, and the last octet has at least u trailing zero bits", so
-- that 2 ^ u divides it
unfoldable pub bit_string : List ℕ → Bool
bit_string [] = false
bit_string (u ∷ []) = eqb u 0
bit_string (u ∷ b ∷ bs) = leb u 7 && eqb (last_of b bs % 2 ^ u) 0

-- The rule that a primitive element's identifier asks of its content: the table of SPECIFICATION 2.3. Any other "content isn't looked at here".
pub record Content (id : ℕ) (content : List ℕ) : Type 0 where
  pub of_boolean : id ≡ 0x01 → T (boolean content)
  pub of_integer : id ≡ 0x02 → T (integer content)
  pub of_bit_string : id ≡ 0x03 → T (bit_string content)
  pub of_null : id ≡ 0x05 → T (null content)
  pub of_object_identifier : id ≡ 0x06 → T (object_identifier content)
  pub of_enumerated : id ≡ 0x0A → T (integer content)
  pub of_utf8_string : id ≡ 0x0C → Utf8 content
