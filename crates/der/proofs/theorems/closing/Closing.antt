-- The test at an element's end is exact: it holds exactly if the elements that the content consists of are what the identifier asks for.
-- Assumes nothing.
use Prim.Native.Nat.{ℕ, ◌+◌, ◌-◌, ◌≤◌}
use mathlib.Core.Path.{◌≡◌, refl, sym, ap, ◌∙◌}
use mathlib.Core.Bool.{Bool, true, false, not, ◌||◌, false≢true}
use mathlib.Core.Logic.{◌↔◌}
use mathlib.Core.List.{List, []}
use native.Mathlib.Omega.{arith}
use lib.Dec.{eqb}
use lib.ListN.{length, take, drop}
use lib.Seq.{drop-length}
use borrow.Author.Tests.{eqb-true, eqb-false}
use Rattle.der.specs.meaning.Bounds.{longest}
use Rattle.der.specs.meaning.Fault.{Members}
use Rattle.der.specs.meaning.Order.{Ascending, Closing}
use Rattle.der.specs.meaning.Tree.{Tree, encode, members, WellFormed}
use Rattle.der.specs.steps.Order.{descends, ascends_from, ascends, closes}
use Rattle.der.specs.steps.Span.{span_of}
use Rattle.der.proofs.theorems.closing.Ascends.{ascends_none, ascends_next, members_ascend}
use Rattle.der.proofs.theorems.closing.MembersRead.{members_encoded}
use Rattle.der.proofs.theorems.element.Spans.{span_fits}

-- nothing inside is what every identifier allows
pub closing_none : (id : ℕ) → Closing id []
unfolding Closing Ascending
closing_none id is = tt

-- Only a SET has a rule at its end: under any other identifier members may come as they will.
pub unjudged : (id : ℕ) (ms : List (List ℕ)) → (id ≡ 0x31 → ⊥) → Closing id ms
unfolding Closing
unjudged id ms other is = absurd (other is)

-- so a SEQUENCE has none
pub sequence_closing : (ms : List (List ℕ)) → Closing 0x30 ms
sequence_closing ms = unjudged 0x30 ms (λ is. omega arith)

-- the test, by the identifier and the members
pub closes_asks : (id : ℕ) (c : List ℕ) → closes id c ≡ (not (eqb id 0x31) || ascends c)
unfolding closes
closes_asks id c = refl

-- the test takes any content under another identifier
pub closes_free : (id : ℕ) (c : List ℕ) → eqb id 0x31 ≡ false → closes id c ≡ true
unfolding closes
closes_free id c free = rw (closes, free)

-- of a SET it asks whether its members ascend
pub closes_set : (id : ℕ) (c : List ℕ) → eqb id 0x31 ≡ true → closes id c ≡ ascends c
unfolding closes
closes_set id c set = rw (closes, set)

-- and it takes one element alone
pub closes_one : (id : ℕ) (c : List ℕ) → ((span_of c).octets ≡ 0 → ⊥) → (span_of c).octets + (span_of c).length ≡ length c → closes id c ≡ true
unfolding ascends descends
closes_one id c some all = go (eqb id 0x31) refl
  where
    alone : ascends c ≡ true
    alone =
        ascends_next (length c) [] c (omega (arith, span_fits c some)) (omega arith) some
        ∙ ap (ascends_from (length c - 1) (take ((span_of c).octets + (span_of c).length) c)) (ap (λ (k : ℕ). drop k c) all ∙ drop-length c)
        ∙ ascends_none (length c - 1) (take ((span_of c).octets + (span_of c).length) c)

    go : (t : Bool) → eqb id 0x31 ≡ t → closes id c ≡ true
    go true set = closes_set id c set ∙ alone
    go false free = closes_free id c free

-- The test over octets that consist of elements is exact.
pub closes_exact : (id : ℕ) {bs : List ℕ} {ms : List (List ℕ)} → Members bs ms → length bs ≤ longest → closes id bs ≡ true ↔ Closing id ms
unfolding Closing
closes_exact id {bs} {ms} listed short = go (eqb id 0x31) refl
  where
    go : (t : Bool) → eqb id 0x31 ≡ t → closes id bs ≡ true ↔ Closing id ms
    go true set =
        let (to, from) = members_ascend bs listed short in
        (λ is same. to (sym (closes_set id bs set) ∙ is), λ asked. closes_set id bs set ∙ from (asked (eqb-true id 0x31 set)))
    go false free = (λ is. unjudged id ms (eqb-false id 0x31 free), λ asked. closes_free id bs free)

-- It fails exactly if they aren't what the identifier asks for.
pub closes_not : (id : ℕ) {bs : List ℕ} {ms : List (List ℕ)} → Members bs ms → length bs ≤ longest → closes id bs ≡ false ↔ (Closing id ms → ⊥)
closes_not id {bs} {ms} listed short = (
  λ fails asked. false≢true (sym fails ∙ (closes_exact id listed short).1 asked),
  λ unasked. go unasked (closes id bs) refl,
)
  where
    go : (Closing id ms → ⊥) → (b : Bool) → closes id bs ≡ b → b ≡ false
    go unasked true is = absurd (unasked ((closes_exact id listed short).0 is))
    go unasked false is = refl

-- The test over an encoding, by the tree.
pub closes_encoded : (id left p : ℕ) (t : Tree) → WellFormed left p t → length (encode t) ≤ longest → closes id (encode t) ≡ true ↔ Closing id (members t)
closes_encoded id left p t formed short = closes_exact id (members_encoded left p t formed short) short
