-- `der::content::are_subidentifiers` meets its contract: the rule for the octets that are left, given the octet before them, answers as that for
-- the whole content. Assumes nothing.
use Prim.Native.Nat.{ℕ}
use mathlib.Core.Bool.{Bool, ◌&&◌}
use mathlib.Core.List.{List}
use mathlib.Core.Path.{◌≡◌}
use lib.Dec.{ltb}
use lib.ListN.{drop}
use Rattle.der.specs.meaning.Content.{last_of, unpadded, object_identifier}
use Rattle.der.proofs.content.are_subidentifiers.Given as goal

-- the rule for the octets after `before`
unfoldable pub rest : ℕ → List ℕ → Bool
rest before bs = unpadded before bs && ltb (last_of before bs) 0x80

abbrev pub invariant-loop-octet : goal.invariant-loop-octet
invariant-loop-octet l = rest l.before (drop l.octet-index l.content) ≡ object_identifier l.content
