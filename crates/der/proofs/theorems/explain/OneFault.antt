-- An input that is not too long begins with the encoding of a well-formed tree of a single element or has a first fault, never both, and never
-- two of either: the walk has one answer, and it is exact. Assumes nothing.
use Prim.Native.Nat.{ℕ, ◌≤◌, ◌<◌}
use mathlib.Core.Path.{◌≡◌, refl, sym, ◌∙◌}
use mathlib.Core.Logic.{◌↔◌, ◌⊎◌, inl, inr}
use mathlib.Core.Bool.{Bool, true, false}
use mathlib.Core.List.{List}
use native.Mathlib.Omega.{arith}
use lib.Dec.{leb}
use lib.ListN.{length}
use borrow.Author.Tests.{leb-true, leb-false}
use Rattle.der.specs.steps.Nest.{Nest, End, Fault}
use Rattle.der.specs.meaning.Bounds.{depth, longest}
use Rattle.der.specs.meaning.Octets.{Octets}
use Rattle.der.specs.meaning.Fault.{First}
use Rattle.der.specs.steps.Explain.{number_of, walk_at}
use Rattle.der.proofs.theorems.explain.Exact.{Encoded, exact}
use Rattle.der.proofs.theorems.explain.FirstFault.{fault_found, fault_number, fault_some, walk_fault}
use Rattle.der.proofs.theorems.explain.Steps.{end_fault, walk_long}

-- two answers that are faults and equal have one number, place and detail
same_fault : {r : Nest} {n a d n' a' d' : ℕ} → r ≡ Fault n a d → r ≡ Fault n' a' d' → (n ≡ n') × (a ≡ a') × (d ≡ d')
same_fault one other = let same = sym one ∙ other in (cc, cc, cc)

-- An element has one first fault.
pub first_single : (left p : ℕ) (bs : List ℕ) → length bs ≤ longest → (n a d n' a' d' : ℕ) → First left p bs n a d → First left p bs n' a' d'
    → (n ≡ n') × (a ≡ a') × (d ≡ d')
first_single left p bs short n a d n' a' d' one other =
    same_fault (fault_found left p bs n a d short one) (fault_found left p bs n' a' d' short other)

-- A whole input has one first fault.
pub one_fault : (s : List ℕ) → length s ≤ longest → (n p d n' p' d' : ℕ) → First depth 0 s n p d → First depth 0 s n' p' d'
    → (n ≡ n') × (p ≡ p') × (d ≡ d')
one_fault s short = first_single depth 0 s short

-- Its number is from 2 to 6.
pub first_number : (s : List ℕ) (n p d : ℕ) → First depth 0 s n p d → (2 ≤ n) × (n ≤ 6)
first_number s n p d = fault_some depth 0 s n p d

-- An input begins with one encoding of a well-formed tree of a single element.
pub one_end : (s : List ℕ) → Octets s → length s ≤ longest → (e e' : ℕ) → Encoded s e → Encoded s e' → e ≡ e'
one_end s o short e e' one other =
    let same : End e ≡ End e' = sym ((exact s e o short).1 one) ∙ (exact s e' o short).1 other in
    cc

-- Beside it there is no first fault.
pub fault_unencoded : (s : List ℕ) → Octets s → length s ≤ longest → (e n p d : ℕ) → Encoded s e → First depth 0 s n p d → ⊥
fault_unencoded s o short e n p d encoded fault = end_fault ((exact s e o short).1 encoded) ((walk_fault s o short n p d).1 fault)

-- There is the one or the other.
pub fault_or_encoded : (s : List ℕ) → Octets s → length s ≤ longest
    → ((e : ℕ) × Encoded s e) ⊎ ((n : ℕ) × (p : ℕ) × (d : ℕ) × First depth 0 s n p d)
fault_or_encoded s o short = go (walk_at s 0 (length s)) refl
  where
    go : (r : Nest) → walk_at s 0 (length s) ≡ r → ((e : ℕ) × Encoded s e) ⊎ ((n : ℕ) × (p : ℕ) × (d : ℕ) × First depth 0 s n p d)
    go (End e) ends = inl (e, (exact s e o short).0 ends)
    go (Fault n p d) faulty = inr (n, p, d, (walk_fault s o short n p d).0 faulty)

-- Document 01's number is 1 exactly if the input is too long.
pub number_one : (s : List ℕ) → Octets s → number_of (walk_at s 0 (length s)) ≡ 1 ↔ longest < length s
unfolding number_of
number_one s o = (λ one. by_length one (leb (length s) longest) refl, λ long. rw (walk_long s 0 (length s) long))
  where
    other : length s ≤ longest → (r : Nest) → walk_at s 0 (length s) ≡ r → number_of r ≡ 1 → longest < length s
    other short (End e) ends one = absurd (omega arith)
    other short (Fault n p d) faulty one = absurd (omega (arith, fault_number s o short n p d faulty))

    by_length : number_of (walk_at s 0 (length s)) ≡ 1 → (b : Bool) → leb (length s) longest ≡ b → longest < length s
    by_length one true e = other (leb-true (length s) longest e) (walk_at s 0 (length s)) refl one
    by_length one false e = leb-false (length s) longest e
