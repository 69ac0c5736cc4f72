-- The walk from any place to any end of an input that is not too long is exact too: it ends with an encoding, and a fault is true and the first.
-- Assumes nothing.
use Prim.Native.Nat.{ℕ, ◌+◌, ◌≤◌}
use mathlib.Core.Path.{◌≡◌, sym, ◌∙◌, ap}
use mathlib.Core.Logic.{◌↔◌}
use mathlib.Core.List.{List, ◌++◌}
use native.Mathlib.Omega.{arith}
use lib.ListN.{length, take}
use lib.Seq.{slice}
use Rattle.der.specs.steps.Nest.{End, Fault}
use Rattle.der.specs.meaning.Bounds.{depth, longest}
use Rattle.der.specs.meaning.Octets.{Octets}
use Rattle.der.specs.meaning.Fault.{First}
use Rattle.der.specs.meaning.Tree.{Tree, encode, WellFormed, Single}
use Rattle.der.specs.steps.Explain.{walk_at}
use Rattle.der.proofs.theorems.explain.Exact.{element_sound, element_complete}
use Rattle.der.proofs.theorems.explain.FirstFault.{first_fault}
use Rattle.der.proofs.theorems.explain.Steps.{walk_short}
use Rattle.der.proofs.theorems.lists.Parts.{octets_take, octets_drop, slice_size}

-- The octets from a place to an end begin with the encoding of a tree of a single element, which is well-formed at that place and ends at e.
pub record EncodedAt (s : List ℕ) (at end e : ℕ) : Type 0 where
  pub tree : Tree
  pub formed : WellFormed depth at tree
  pub single : Single tree
  pub more : List ℕ
  pub split : slice at end s ≡ encode tree ++ more
  pub ends : e ≡ at + length (encode tree)

module _ (s : List ℕ) (octets : Octets s) (short : length s ≤ longest) (at end : ℕ) where
  -- a part of the input is octets
  octets_between : Octets (slice at end s)
  octets_between = octets_drop at (take end s) (octets_take end s octets)

  -- and not too long
  short_between : length (slice at end s) ≤ longest
  short_between = omega (arith, slice_size at end s)

  -- The walk ends at e exactly if the octets begin with an encoding that ends there.
  pub walk_end_at : (e : ℕ) → walk_at s at end ≡ End e ↔ EncodedAt s at end e
  walk_end_at e = (
    λ ends.
        let k = element_sound depth at e (slice at end s) octets_between short_between (sym (walk_short s at end short) ∙ ends) in
        record { tree = k.tree; formed = k.formed; single = k.single; more = k.more; split = k.split; ends = k.ends },
    λ k.
        let size = ap length (sym k.split) in
        let ended = element_complete depth at k.tree k.more k.formed k.single (omega (arith, short_between)) in
        walk_short s at end short ∙ rw k.split (ended ∙ ap End (sym k.ends)),
  )

  -- It answers a fault exactly if it is true and the first in the order of judging.
  pub walk_fault_at : (number place detail : ℕ) → walk_at s at end ≡ Fault number place detail ↔ First depth at (slice at end s) number place detail
  walk_fault_at number place detail =
      rw (walk_short s at end short) (first_fault depth at (slice at end s) number place detail octets_between short_between)
