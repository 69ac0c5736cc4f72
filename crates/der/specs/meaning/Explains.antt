-- What the explanation of a nest answers: its first fault, or where it ends (SPECIFICATION 2.4). A relation that names no walk. Assumes nothing.
use Rattle.std.specs.Prelude.{ℕ, ◌+◌, ◌≤◌, ◌<◌, ◌≡◌, List, ◌++◌, length}
use Rattle.std.proofs.Math.Seq.{slice}
use Rattle.der.specs.meaning.Bounds.{depth, longest}
use Rattle.der.specs.meaning.Refusal.{accepted, too_long_number}
use Rattle.der.specs.meaning.Tree.{Tree, WellFormed, Single, encode}
use Rattle.der.specs.meaning.Fault.{First}

-- Of the first element from a place on, whose parent ends at another: document 01's number, place and detail of a fault, and the place after an
-- element without one; what doesn't apply is 0.
pub data Explains (s : List ℕ) (at end : ℕ) : (number place detail after : ℕ) → Type 0 where
  -- 1 "input longer than 65,535 bytes"
  long : longest < length s → Explains s at end too_long_number 0 0 0
  -- 2 to 6: the first fault in the order of judging
  fault : {number place detail : ℕ} → length s ≤ longest → First depth at (slice at end s) number place detail → Explains s at end number place detail 0
  -- no fault: the octets begin with the encoding of a well-formed element
  ends : length s ≤ longest → (t : Tree) (more : List ℕ) → WellFormed depth at t → Single t → slice at end s ≡ encode t ++ more
      → Explains s at end accepted 0 0 (at + length (encode t))
