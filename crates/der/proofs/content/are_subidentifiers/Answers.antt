-- `der::content::are_subidentifiers` meets its contract: the rule for the octets that are left, given the octet before them, answers as that for
-- the whole content. Assumes nothing.
use Prim.Native.Nat.{ℕ, ◌+◌, ◌<◌}
use mathlib.Core.Bool.{true, false, ◌&&◌}
use mathlib.Core.List.{List, [], ◌∷◌}
use mathlib.Core.Path.{◌≡◌, refl, sym, ap, ◌∙◌}
use native.Mathlib.Numerals.{add-one}
use native.Mathlib.Omega.{arith}
use lib.Dec.{ltb, eqb}
use lib.ListN.{length, get_or, drop, drop_of_length-le}
use lib.Seq.{drop-cons}
use Rattle.der.specs.meaning.Content.{last_of, unpadded, object_identifier}
use Rattle.der.proofs.content.are_subidentifiers.Invariants.{rest}
use Rattle.der.proofs.content.are_subidentifiers.Goals as goal

whole : (bs : List ℕ) → 0 < length bs → rest 0 bs ≡ object_identifier bs
unfolding rest object_identifier last_of
whole [] h = absurd (omega arith)
whole (b ∷ bs) h = refl

module _ (before i : ℕ) (bs : List ℕ) (h : i < length bs) where
  next : ltb before 0x80 && eqb (get_or bs i 0) 0x80 ≡ false → rest before (drop i bs) ≡ rest (get_or bs i 0) (drop (i + 1) bs)
  unfolding rest unpadded last_of
  next t = rw (add-one, drop-cons bs i 0) (simp t)

  padded : ltb before 0x80 && eqb (get_or bs i 0) 0x80 ≡ true → rest before (drop i bs) ≡ false
  unfolding rest unpadded last_of
  padded t = rw (drop-cons bs i 0) (simp t)

over : (before : ℕ) → rest before [] ≡ ltb before 0x80
unfolding rest unpadded last_of
over before = refl

pub loop-octet-init : goal.loop-octet-init
loop-octet-init c = whole _ c.requires

pub returns-then-before-octet : goal.returns-then-before-octet
returns-then-before-octet c = sym (padded _ _ _ c.loop-octet-test.true c.if-before-octet.true) ∙ c.loop-octet.invariant

pub loop-octet-preserved : goal.loop-octet-preserved
loop-octet-preserved c = sym (next _ _ _ c.loop-octet-test.true c.if-before-octet.false) ∙ c.loop-octet.invariant

pub returns : goal.returns
returns c =
    sym (over _) ∙ sym (ap (rest _) (drop_of_length-le _ c.loop-octet-test.false)) ∙ c.loop-octet.invariant
