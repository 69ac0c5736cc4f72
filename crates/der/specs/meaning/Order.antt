-- The order of a SET's members (X.690 11.6; document 02, A3): SPECIFICATION 2.3. Breaking it is refusal 5. Assumes nothing.
use Rattle.std.specs.Prelude.{ℕ, ◌<◌, ◌≡◌, List, [], ◌∷◌, get_or}

-- "as octet strings, the shorter padded with zero octets for comparing": one comes before another if, at the first place where they differ, it has
-- the smaller octet. Past its end a string has zero octets.
pub record Precedes (a b : List ℕ) : Type 0 where
  pub place : ℕ
  pub same : (i : ℕ) → i < place → get_or a i 0 ≡ get_or b i 0
  pub less : get_or a place 0 < get_or b place 0

-- "the members of a SET OF ascending": no member precedes the one before it. Equal ones may follow each other.
unfoldable pub Ascending : List (List ℕ) → Type 0
Ascending [] = Unit {0}
Ascending (a ∷ []) = Unit {0}
Ascending (a ∷ b ∷ members) = (Precedes b a → ⊥) × Ascending (b ∷ members)

-- What an identifier asks of the encodings of the elements inside, judged when these have no fault: "a SET (31) whose members descend anywhere
-- breaks DER. Implicitly tagged sets stay unjudged."
unfoldable pub Closing : ℕ → List (List ℕ) → Type 0
Closing id members = id ≡ 0x31 → Ascending members
