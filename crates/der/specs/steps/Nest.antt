-- What the walk over a nest of elements answers: the place after the element, or its first fault. Assumes nothing.
use Rattle.std.specs.Prelude.{ℕ, Result, Ok, Err}
use Rattle.der.specs.declared.explain.Fault.{Fault as Found}
use Rattle.der.specs.steps.Refusal.{refusal_number}

-- no fault, and the place after the element; or the number and the place of its first fault, and request A9's detail
pub data Nest : Type 0 where
  End : ℕ → Nest
  Fault : ℕ → ℕ → ℕ → Nest

-- the code's answer, as numbers
abbrev pub nest_of : Result ℕ Found → Nest
nest_of (Ok end) = End end
nest_of (Err fault) = Fault (refusal_number fault.refusal) fault.place fault.detail
