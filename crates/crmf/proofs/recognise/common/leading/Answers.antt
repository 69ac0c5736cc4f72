-- `crmf::recognise::common::leading` meets its contract: a span that it answers is the measured one, and the identifier was compared. Assumes nothing.
use Prim.Native.Nat.{ℕ}
use native.Mathlib.Omega.{arith}
use borrow.Author.Tests.{eqb-true}
use mathlib.Core.Bool.{Bool, true, false}
use mathlib.Core.List.{List}
use mathlib.Core.Path.{◌≡◌, refl}
use lib.Dec.{eqb}
use lib.ListN.{get_or}
use Rattle.std.specs.Bool.{then_some}
use Rattle.std.specs.Option.{IfSome}
use Rattle.der.proofs.Laws.{found_some, found_fits}
use Rattle.der.specs.declared.element.length.Span.{Span}
use Rattle.crmf.specs.steps.recognise.Inner.{Leading}
use Rattle.crmf.proofs.recognise.common.leading.Goals as goal

-- it is answered if it has the identifier
answered : (b : Bool) (bytes : List ℕ) (id : ℕ) (x : Span) → eqb (get_or bytes 0 0) id ≡ b → (get_or bytes 0 0 ≡ id → Leading bytes id x)
    → IfSome (then_some b x) (Leading bytes id)
answered true bytes id x same leads = leads (eqb-true _ _ same)
answered false bytes id x other leads = tt

pub bounds-bytes-0 : goal.bounds-bytes-0
bounds-bytes-0 c = omega (arith, found_fits c.args.bytes.now c.measure.ensures c.in_ok-x.was)

pub returns : goal.returns
returns c =
    let s = c.args.bytes.now in
    rw c.then_some.ensures
    (answered _ s c.args.id c.in_ok-x.x refl
    (λ same. record { measured = found_some s c.measure.ensures c.in_ok-x.was; identified = same; fits = found_fits s c.measure.ensures c.in_ok-x.was }))
