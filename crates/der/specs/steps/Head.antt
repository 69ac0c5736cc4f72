-- What is read at the start of an element's octets. Assumes nothing.
use Rattle.std.specs.Prelude.{ℕ, Result, Ok, Err}
use Rattle.der.specs.declared.cause.Cause.{Cause}
use Rattle.der.specs.declared.element.header.Header.{Header}

-- a header with its identifier, so many octets of it, and so many of content, which end no later than the parent; or no element, and why
pub data Head : Type 0 where
  Stands : ℕ → ℕ → ℕ → Head
  Broken : Cause → Head

-- the code's answer
abbrev pub head_from : Result Header Cause → Head
head_from (Ok header) = Stands header.identifier header.octets header.length
head_from (Err cause) = Broken cause
