-- Octets, of which all inputs consist: SPECIFICATION 2. Assumes nothing.
use Rattle.std.specs.Prelude.{ℕ, ◌<◌, List, get_or}

-- every number of the list is an octet, as in a slice of bytes
unfoldable pub Octets : List ℕ → Type 0
Octets bs = (i : ℕ) → get_or bs i 0 < 256
