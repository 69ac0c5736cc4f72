-- The bounds of an input: SPECIFICATION 1. Assumes nothing.
use Rattle.std.specs.Prelude.{ℕ}

-- "input longer than 65,535 bytes"
abbrev pub longest : ℕ
longest = 65535

-- "deeper than 20 (the batch is depth 1)"
abbrev pub depth : ℕ
depth = 20
