-- A number in decimal digits, and the number that digits stand for. Assumes nothing.
use Rattle.std.specs.Prelude.{ℕ, zero, suc, ◌+◌, ◌-◌, ◌*◌, ◌/◌, ◌%◌, ◌≤◌, true, false, List, [], ◌∷◌, ◌++◌, ltb}

-- the character of a digit
abbrev pub digit : ℕ → ℕ
digit d = 0x30 + d

-- the digits of a number: those of its tens, and the last; the first argument is a bound on how many digits follow the first
unfoldable pub digits_within : ℕ → ℕ → List ℕ
digits_within zero n = digit n ∷ []
digits_within (suc more) n =
    elim (ltb n 10) [ true ↦ digit n ∷ [] | false ↦ digits_within more (n / 10) ++ (digit (n % 10) ∷ []) ]

unfoldable pub decimal : ℕ → List ℕ
decimal n = digits_within n n

-- every character is a digit
abbrev pub Digits : List ℕ → Type 0
Digits [] = Unit {0}
Digits (c ∷ rest) = (0x30 ≤ c) × (c ≤ 0x39) × Digits rest

-- the number that digits stand for, after those that stand for a number
unfoldable pub value_after : ℕ → List ℕ → ℕ
value_after n [] = n
value_after n (c ∷ rest) = value_after (n * 10 + (c - 0x30)) rest

unfoldable pub value : List ℕ → ℕ
value digits = value_after 0 digits
