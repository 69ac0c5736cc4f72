-- `crmf::recognise::common::rdn_sequence` meets its contract. The loop's invariant: the bytes are RDNs if those that are left are. Assumes nothing.
use Prim.Native.Nat.{ℕ}
use native.Mathlib.Omega.{arith}
use borrow.Author.Tests.{eqb-true}
use mathlib.Core.List.{List, [], ◌∷◌}
use mathlib.Core.Path.{◌≡◌, refl, sym}
use lib.ListN.{length, length-take, length-drop}
use Rattle.crmf.proofs.theorems.recognise.RowlessInsides.{rowless_rdn_from, rowless_none}
use Rattle.crmf.proofs.recognise.common.rdn_sequence.Goals as goal

-- octets without a length are none
nothing_left : (bs : List ℕ) → length bs ≡ 0 → bs ≡ []
nothing_left [] none = refl
nothing_left (b ∷ bs) none = absurd (omega (arith, none))

pub loop-rest-preserved : goal.loop-rest-preserved
loop-rest-preserved c =
    let rest = c.loop-rest.rest.now in
    let i = c.loop-rest.invariant in (
      simp (length-take, length-drop) (omega (arith, i.0)),
      λ later. i.1
          (rowless_rdn_from rest (omega (arith, i.0, c.requires)) c.in-Some.ensures (let (inner, ends) = c.rdn.ensures (c.if-not-rdn.false) in (inner, ends 0x31)) later),
    )

pub returns : goal.returns
returns c = λ yes. c.loop-rest.invariant.1 (rw (nothing_left c.loop-rest.rest.now (eqb-true _ 0 (sym c.loop-rest-test.ensures))) rowless_none)
