-- The two editions of the request grammar: SPECIFICATION 1. Assumes nothing.
use Rattle.std.specs.Prelude.{ℕ, ◌+◌, ◌-◌}

-- "Edition 1 is RFC 2511"
abbrev pub rfc2511 : ℕ
rfc2511 = 1

-- "Edition 2 is RFC 4211"
abbrev pub rfc4211 : ℕ
rfc4211 = 2

-- the opposite edition: 2 for 1, and 1 for 2
abbrev pub opposite : ℕ → ℕ
opposite e = rfc2511 + rfc4211 - e
