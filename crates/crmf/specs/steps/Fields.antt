-- The fields between two places of some bytes, as the bytes are read. Assumes nothing.
use Rattle.std.specs.Prelude.{ℕ, ◌≤◌, List, length}
use Rattle.std.proofs.Math.Seq.{slice}
use Rattle.der.specs.meaning.Bounds.{longest}
use Rattle.der.specs.steps.Reading.{tree}
use Rattle.crmf.specs.meaning.Fields.{Field, fields}

-- the elements that some bytes have from a place to another, one by one
unfoldable pub fields_between : List ℕ → ℕ → ℕ → List Field
fields_between s from to = fields (tree from (slice from to s))

-- Two places of an input that is not too long, in order.
pub record Places (s : List ℕ) (at end : ℕ) : Type 0 where
  pub order : at ≤ end
  pub within : end ≤ length s
  pub short : length s ≤ longest
