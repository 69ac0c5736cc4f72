-- What it means that a call hands back a part of bytes that it was lent. Assumes nothing.
use Rattle.std.specs.Prelude.{ℕ, ◌+◌, ◌≡◌, List}
use Rattle.std.proofs.Math.Seq.{slice}
use Rattle.std.specs.Borrow.{Bor}

-- "hand back .. bytes as they stand": a part of the bytes that were lent, at the same address, and no copy of them
pub record HandedBack (bytes part : Bor (List ℕ)) (from size : ℕ) : Type 0 where
  pub octets : part.now ≡ slice from (from + size) bytes.now
  pub block : part.ref_ptr.0 ≡ bytes.ref_ptr.0
  pub offset : part.ref_ptr.1 ≡ bytes.ref_ptr.1 + from
