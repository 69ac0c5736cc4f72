-- The test of a content is the rule that its identifier asks of it: each identifier of a rule picks that rule's test. And what the rules say of
-- an OBJECT IDENTIFIER without an octet 80 and of an INTEGER. Assumes nothing.
use Prim.Native.Nat.{ℕ, suc, ◌-◌, ◌≤◌, ◌<◌}
use native.Mathlib.Omega.{arith}
use mathlib.Core.Path.{◌≡◌, refl}
use mathlib.Core.Bool.{Bool, true, false, and-false}
use mathlib.Core.List.{List, [], ◌∷◌}
use mathlib.Core.Logic.{◌↔◌}
use lib.Dec.{T, ltb, eqb}
use lib.ListN.{length, get_or}
use borrow.Author.Tests.{eqb-true, ne_eqb}
use Rattle.der.specs.steps.Utf8Classes.{utf8}
use Rattle.der.specs.meaning.Content.{boolean, integer, bit_string, null, last_of, unpadded, object_identifier, Content}
use Rattle.der.specs.steps.ContentTest.{holds}
use Rattle.der.proofs.theorems.lists.Ends.{last}
use Rattle.der.proofs.theorems.content.Productions.{utf8_exact}

-- a test that is asked of the number k alone, before another that is asked of any number
asked : (id k : ℕ) (rule other : Bool) → (id ≡ k → T rule) → T other → T (elim (eqb id k) [ true ↦ rule | false ↦ other ])
asked id k rule other here there = go (eqb id k) refl
  where
    go : (b : Bool) → eqb id k ≡ b → T (elim b [ true ↦ rule | false ↦ other ])
    go true e = here (eqb-true id k e)
    go false e = there

-- a content passes the test of its identifier exactly when it keeps the rule
pub content_exact : (id : ℕ) (content : List ℕ) → T (holds id content) ↔ Content id content
unfolding holds
content_exact id c = (
  λ t. record {
    of_boolean = λ e. rw e at t;
    of_integer = λ e. rw e at t;
    of_bit_string = λ e. rw e at t;
    of_null = λ e. rw e at t;
    of_object_identifier = λ e. rw e at t;
    of_enumerated = λ e. rw e at t;
    of_utf8_string = λ e. (utf8_exact c).0 (rw e at t);
  },
  λ x. asked id 0x01 (boolean c) _ x.of_boolean
      (asked id 0x02 (integer c) _ x.of_integer
      (asked id 0x03 (bit_string c) _ x.of_bit_string
      (asked id 0x05 (null c) _ x.of_null
      (asked id 0x06 (object_identifier c) _ x.of_object_identifier
      (asked id 0x0A (integer c) _ x.of_enumerated
      (asked id 0x0C (utf8 c) true (λ e. (utf8_exact c).1 (x.of_utf8_string e)) tt)))))),
)

-- without an octet 80 no part starts with one
unpadded_without_80 : (before : ℕ) (bs : List ℕ) → ((i : ℕ) → i < length bs → get_or bs i 0 ≡ 0x80 → ⊥) → unpadded before bs ≡ true
unfolding unpadded
unpadded_without_80 before [] other = refl
unpadded_without_80 before (b ∷ bs) other =
    rw (ne_eqb b 0x80 (other 0 (omega arith)), and-false (ltb before 0x80), unpadded_without_80 b bs (λ i h. other (suc i) (omega arith)))

-- an OBJECT IDENTIFIER without an octet 80 is one by its last octet
pub identifier_without_80 : (bs : List ℕ) → 0 < length bs → ((i : ℕ) → i < length bs → get_or bs i 0 ≡ 0x80 → ⊥)
    → ltb (get_or bs (length bs - 1) 0) 0x80 ≡ object_identifier bs
unfolding object_identifier last_of
identifier_without_80 [] some other = absurd (omega arith)
identifier_without_80 (b ∷ bs) some other = rw (unpadded_without_80 0 (b ∷ bs) other, ← last 0 (b ∷ bs) some) refl

-- an INTEGER has at least one octet
pub integer_some : (content : List ℕ) → T (integer content) → 1 ≤ length content
unfolding integer
integer_some [] t = absurd t
integer_some (b ∷ content) t = omega arith
