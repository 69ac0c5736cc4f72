-- The check of UTF-8 by classes of octets, as code makes it. Assumes nothing.
use Rattle.std.specs.Prelude.{ℕ, zero, suc, ◌+◌, ◌*◌, ◌<◌, Bool, true, false, ◌&&◌, ◌||◌, List, [], ◌∷◌, Option, None, Some, ◌≡◌, leb, eqb, get_or}
use Rattle.der.specs.declared.content.utf8.Tails.{Tails}

-- lo to hi, as a test
abbrev pub in_range : ℕ → ℕ → ℕ → Bool
in_range lo hi b = leb lo b && leb b hi

-- The class of an octet: 0 a whole character; 1 to 3 the three ranges of tails that the productions tell apart; 4 to 10 the leads
-- that ask for different tails; 11 an octet that no production has.
unfoldable pub class_of : ℕ → ℕ
class_of b =
    elim (leb b 0x7F) [
      | true ↦ 0
      | false ↦
          elim (in_range 0x80 0x8F b) [
            | true ↦ 1
            | false ↦
                elim (in_range 0x90 0x9F b) [
                  | true ↦ 2
                  | false ↦
                      elim (in_range 0xA0 0xBF b) [
                        | true ↦ 3
                        | false ↦
                            elim (in_range 0xC2 0xDF b) [
                              | true ↦ 4
                              | false ↦
                                  elim (eqb b 0xE0) [
                                    | true ↦ 5
                                    | false ↦
                                        elim (in_range 0xE1 0xEC b || in_range 0xEE 0xEF b) [
                                          | true ↦ 6
                                          | false ↦
                                              elim (eqb b 0xED) [
                                                | true ↦ 7
                                                | false ↦
                                                    elim (eqb b 0xF0) [
                                                      | true ↦ 8
                                                      | false ↦
                                                          elim (in_range 0xF1 0xF3 b) [
                                                            | true ↦ 9
                                                            | false ↦
                                                                elim (eqb b 0xF4) [ true ↦ 10 | false ↦ 11 ]
                                                          ]
                                                    ]
                                              ]
                                        ]
                                  ]
                            ]
                      ]
                ]
          ]
    ]

-- a class that begins a character
unfoldable pub leads : ℕ → Bool
leads c = eqb c 0 || in_range 4 10 c

-- how many tails follow a lead
unfoldable pub tails : ℕ → ℕ
tails c = elim (eqb c 0) [ true ↦ 0 | false ↦ elim (eqb c 4) [ true ↦ 1 | false ↦ elim (leb c 7) [ true ↦ 2 | false ↦ 3 ] ] ]

-- the lowest and the highest class of the first tail: E0 wants A0-BF, F0 wants 90-BF, ED wants 80-9F, F4 wants 80-8F
unfoldable pub lowest : ℕ → ℕ
lowest c = elim (eqb c 5) [ true ↦ 3 | false ↦ elim (eqb c 8) [ true ↦ 2 | false ↦ 1 ] ]

unfoldable pub highest : ℕ → ℕ
highest c = elim (eqb c 7) [ true ↦ 2 | false ↦ elim (eqb c 10) [ true ↦ 1 | false ↦ 3 ] ]

-- The check from within a character that still wants `left` tails, the next of a class from low to high; at 0 a character begins.
unfoldable pub utf8_from : ℕ → ℕ → ℕ → List ℕ → Bool
utf8_from left low high [] = eqb left 0
utf8_from zero low high (b ∷ bs) =
    let c = class_of b in
    elim (leads c) [ true ↦ utf8_from (tails c) (lowest c) (highest c) bs | false ↦ false ]
utf8_from (suc left) low high (b ∷ bs) =
    elim (in_range low high (class_of b)) [ true ↦ utf8_from left 1 3 bs | false ↦ false ]

-- "UTF8String as in RFC 3629"
unfoldable pub utf8 : List ℕ → Bool
utf8 bs = utf8_from 0 1 3 bs

-- a table of the classes: it has each octet's class at the octet's place
pub record Classes (table : List ℕ) : Type 0 where
  pub entry : (b : ℕ) → b < 256 → get_or table b 0 ≡ class_of b

-- the check of the octets after the step that one octet makes
abbrev pub after_step : Option Tails → List ℕ → Bool
after_step (Some wanted) bs = utf8_from wanted.left wanted.low wanted.high bs
after_step None bs = false

-- n octets as one number, the first the least significant
unfoldable pub little_endian : ℕ → (ℕ → ℕ) → ℕ
little_endian zero at = 0
little_endian (suc n) at = little_endian n (λ k. at (suc k)) * 0x100 + at 0
