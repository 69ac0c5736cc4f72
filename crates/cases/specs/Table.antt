-- The table that a program lends to a reading, and what it holds beforehand. Assumes nothing.
use Rattle.std.specs.Prelude.{ℕ, ◌+◌, ◌≤◌, ◌<◌, ◌≡◌, List, get_or}

-- how many numbers the table holds
abbrev pub numbers : ℕ
numbers = 150000

-- the number that a place holds beforehand
abbrev pub beforehand : ℕ → ℕ
beforehand i = 1000000000 + i

-- each number from one place up to another is as beforehand
abbrev pub Untouched : List ℕ → ℕ → ℕ → Type 0
Untouched table from to = (i : ℕ) → i < to → from ≤ i → get_or table i 0 ≡ beforehand i
