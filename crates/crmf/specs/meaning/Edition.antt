-- The editions of the request grammar: SPECIFICATION 1. Assumes nothing.
use Rattle.std.specs.Prelude.{ℕ}

-- A number is an edition's: "Edition 1 is RFC 2511", "Edition 2 is RFC 4211". Any other is refused with 13.
pub data Edition : ℕ → Type 0 where
  first_edition : Edition 1
  second_edition : Edition 2
