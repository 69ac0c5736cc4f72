-- UTF-8, by the productions of RFC 3629: SPECIFICATION 2.3. Assumes nothing.
use Rattle.std.specs.Prelude.{ℕ, ◌≤◌, List, [], ◌∷◌, ◌++◌}

-- lo to hi, as the RFC's %xlo-hi
abbrev pub InRange : ℕ → ℕ → ℕ → Type 0
InRange lo hi b = (lo ≤ b) × (b ≤ hi)

-- UTF8-tail = %x80-BF
abbrev pub Tail : ℕ → Type 0
Tail b = InRange 0x80 0xBF b

-- UTF8-char = UTF8-1 / UTF8-2 / UTF8-3 / UTF8-4
pub data Character : List ℕ → Type 0 where
  -- UTF8-1 = %x00-7F
  utf8_1 : {a : ℕ} → InRange 0x00 0x7F a → Character (a ∷ [])
  -- UTF8-2 = %xC2-DF UTF8-tail
  utf8_2 : {a b : ℕ} → InRange 0xC2 0xDF a → Tail b → Character (a ∷ b ∷ [])
  -- UTF8-3 = %xE0 %xA0-BF UTF8-tail / %xE1-EC 2( UTF8-tail ) / %xED %x80-9F UTF8-tail / %xEE-EF 2( UTF8-tail )
  utf8_3-E0 : {b c : ℕ} → InRange 0xA0 0xBF b → Tail c → Character (0xE0 ∷ b ∷ c ∷ [])
  utf8_3-E1 : {a b c : ℕ} → InRange 0xE1 0xEC a → Tail b → Tail c → Character (a ∷ b ∷ c ∷ [])
  utf8_3-ED : {b c : ℕ} → InRange 0x80 0x9F b → Tail c → Character (0xED ∷ b ∷ c ∷ [])
  utf8_3-EE : {a b c : ℕ} → InRange 0xEE 0xEF a → Tail b → Tail c → Character (a ∷ b ∷ c ∷ [])
  -- UTF8-4 = %xF0 %x90-BF 2( UTF8-tail ) / %xF1-F3 3( UTF8-tail ) / %xF4 %x80-8F 2( UTF8-tail )
  utf8_4-F0 : {b c d : ℕ} → InRange 0x90 0xBF b → Tail c → Tail d → Character (0xF0 ∷ b ∷ c ∷ d ∷ [])
  utf8_4-F1 : {a b c d : ℕ} → InRange 0xF1 0xF3 a → Tail b → Tail c → Tail d → Character (a ∷ b ∷ c ∷ d ∷ [])
  utf8_4-F4 : {b c d : ℕ} → InRange 0x80 0x8F b → Tail c → Tail d → Character (0xF4 ∷ b ∷ c ∷ d ∷ [])

-- UTF8-octets = *( UTF8-char )
pub data Utf8 : List ℕ → Type 0 where
  none : Utf8 []
  char : {c bs : List ℕ} → Character c → Utf8 bs → Utf8 (c ++ bs)
