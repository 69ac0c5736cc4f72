-- In well-formed elements every SET has members that ascend, at any depth and whatever it is inside. Assumes nothing.
use Prim.Native.Nat.{ℕ, zero, suc, ◌+◌}
use mathlib.Core.Path.{◌≡◌, refl}
use mathlib.Core.Bool.{Bool, true, false}
use lib.ListN.{length}
use Rattle.der.specs.meaning.Identifier.{constructed}
use Rattle.der.specs.meaning.Order.{Ascending, Closing}
use Rattle.der.specs.meaning.Tree.{Tree, none, element, header, members, WellFormed}

-- Every SET (31) among the elements, and inside them, has members that ascend.
pub EverySetAscends : Tree → Type 0
EverySetAscends none = Unit {0}
EverySetAscends (element id first whole content inside rest) =
    (id ≡ 0x31 → Ascending (members inside)) × EverySetAscends inside × EverySetAscends rest

-- So it is in well-formed elements.
pub sets_ascend : (left p : ℕ) (t : Tree) → WellFormed left p t → EverySetAscends t
unfolding WellFormed Closing EverySetAscends
sets_ascend left p none formed = tt
sets_ascend zero p (element id first whole content inside rest) formed = absurd formed
sets_ascend (suc left) p (element id first whole content inside rest) formed =
    (formed.0.closing, within (sets_ascend left (p + length (header id content)) inside) (constructed id) refl, sets_ascend (suc left) (p + whole) rest formed.1)
  where
    within : (WellFormed left (p + length (header id content)) inside → EverySetAscends inside) → (b : Bool) → constructed id ≡ b → EverySetAscends inside
    within deeper true made = deeper (formed.0.filled made).1
    within deeper false plain = rw (formed.0.valued plain).0 tt
