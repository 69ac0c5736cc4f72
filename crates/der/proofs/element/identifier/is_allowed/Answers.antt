-- `der::element::identifier::is_allowed` meets its contract: the code agrees with the definition at every octet, which is computed. Assumes nothing.
use Prim.Native.Nat.{ℕ, ◌+◌, ◌-◌, ◌/◌, ◌%◌, ◌^◌}
use mathlib.Core.Bool.{Bool, true, not, ◌||◌, beq}
use mathlib.Core.Path.{◌≡◌, refl}
use native.Mathlib.Omega.{arith}
use lib.Dec.{ltb, eqb}
use borrow.Author.Tests.{le-ltb}
use Rattle.der.specs.meaning.Identifier.{tag_number, constructed, allowed}
use Rattle.der.proofs.theorems.lists.Range.{every, each, same}
use Rattle.der.proofs.element.identifier.is_allowed.Goals as goal

-- the code's mask: tags 1 to 6, 10, 12, 18 to 28 and 30, and the identifiers 30 and 31
abbrev mask : ℕ
mask = (2 ^ 7 - 2 ^ 1) + 2 ^ 10 + 2 ^ 12 + (2 ^ 29 - 2 ^ 18) + 2 ^ 30 + (2 ^ 0x30 + 2 ^ 0x31)

-- an identifier's bit of the mask is the definition's test
low : ℕ → Bool
low id = beq (eqb (mask / 2 ^ id % 2) 1) (allowed id)

-- it is for each identifier of the universal class
all_low : every 64 low ≡ true
unfolding low allowed constructed tag_number
all_low = refl

-- for an identifier of another class the tag number decides
high : ℕ → Bool
high id = ltb id 64 || beq (not (eqb (id % 32) 31)) (allowed id)

-- it does for each of them
all_high : every 256 high ≡ true
unfolding high allowed constructed tag_number
all_high = refl

pub returns-then-id-lt64 : goal.returns-then-id-lt64
unfolding low
returns-then-id-lt64 c = same _ _ (each 64 low all_low c.args.id c.if-id-lt64.true)

pub returns : goal.returns
unfolding high
returns c =
    let id = c.args.id in
    same (not (eqb (id % 32) 31)) (allowed id) (rw (high, le-ltb id 64 c.if-id-lt64.false) at (each 256 high all_high id (omega (arith, c.ranges.id))))
