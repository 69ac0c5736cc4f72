-- The walk as the code takes it: what an inner function may lend on, an element by its header, and a list by its first element. The octets that
-- are lent on are written as in the code. Assumes nothing.
use Prim.Native.Nat.{ℕ, suc, ◌+◌, ◌-◌, ◌≤◌, ◌<◌}
use mathlib.Core.Path.{◌≡◌, refl, sym, ap, ◌∙◌}
use mathlib.Core.Bool.{true, false}
use mathlib.Core.List.{List}
use native.Mathlib.Nat.{add_assoc}
use native.Mathlib.Omega.{arith}
use Rattle.std.specs.Prelude.{Result, Ok, Err}
use lib.ListN.{length, take, drop}
use Rattle.der.specs.declared.cause.Cause.{Cause}
use Rattle.der.specs.steps.Head.{Stands, Broken}
use Rattle.der.specs.declared.explain.Fault.{Fault as Found}
use Rattle.der.specs.steps.Nest.{Fault, nest_of}
use Rattle.der.specs.meaning.Identifier.{constructed}
use Rattle.der.specs.steps.Header.{head_of}
use Rattle.der.specs.steps.ContentTest.{holds}
use Rattle.der.specs.steps.Order.{closes}
use Rattle.der.specs.steps.Explain.{Lent, fault_at, list_of, by_rule, after_inside, element_of}
use Rattle.der.proofs.theorems.element.Headers.{head_fits}
use Rattle.der.proofs.theorems.lists.Parts.{middle, length_part}
use Rattle.der.proofs.theorems.explain.Progress.{element_progress, elements_next}
use Rattle.der.proofs.theorems.explain.Steps.{after_end, after_fault, element_broken, element_inside, element_value, list_stop}

-- a part of what was lent has its length, and is lent at its own place
pub lent_part : {bytes : List ℕ} {place : ℕ} (h e : ℕ) → h ≤ e → e ≤ length bytes → Lent bytes place
    → (length (take (e - h) (drop h bytes)) ≡ e - h) × Lent (take (e - h) (drop h bytes)) (place + h)
lent_part {bytes = bytes} h e order fits lent =
    let size = length_part bytes h (e - h) (omega arith) in
    (size, record { short = omega (arith, lent.short); placed = omega (arith, lent.placed) })

-- without a level of depth left
pub way_deep : (p : ℕ) (bs : List ℕ) → Fault 6 p 0 ≡ element_of 0 p bs
unfolding element_of
way_deep p bs = refl

-- With a level of depth left.
module _ (left p : ℕ) (bs : List ℕ) (some : left ≡ 0 → ⊥) where
  -- it is one more than those beneath it
  level : element_of left p bs ≡ element_of (suc (left - 1)) p bs
  level = let one : left ≡ suc (left - 1) = omega arith in ap (λ l. element_of l p bs) one

  -- the header has a fault
  pub way_broken : {c : Cause} → head_of bs ≡ Broken c → fault_at c p ≡ element_of left p bs
  way_broken broken = sym (level ∙ element_broken (left - 1) p bs broken)

  module _ {id h n : ℕ} (stands : head_of bs ≡ Stands id h n) where
    -- the element is constructed
    pub way_inside : constructed id ≡ true → let c = take (h + n - h) (drop h bs) in
        after_inside p id c (list_of (element_of (left - 1)) (length c) (p + h) c) ≡ element_of left p bs
    way_inside made =
        rw (middle bs h n, length_part bs h n (head_fits bs id h n stands).1) (sym (level ∙ element_inside (left - 1) p bs stands made))

    -- the element is primitive
    pub way_value : constructed id ≡ false → by_rule (holds id (take (h + n - h) (drop h bs))) p (p + (h + n)) id ≡ element_of left p bs
    way_value plain = rw (middle bs h n, ← add_assoc p h n) (sym (level ∙ element_value (left - 1) p bs stands plain))

-- A constructed element, by the code's answer for its inside.
module _ (p id : ℕ) (c : List ℕ) {r : Result ℕ Found} where
  -- a fault there is the element's
  pub way_fault : {f : Found} → r ≡ Err f → nest_of (Err f) ≡ after_inside p id c (nest_of r)
  way_fault {f} e = rw e (sym (after_fault p id c _ _ _))

  -- without one the rule at the end decides
  pub way_end : {q : ℕ} → r ≡ Ok q → by_rule (closes id c) p q id ≡ after_inside p id c (nest_of r)
  way_end {q} e = rw e (sym (after_end p id c q))

-- The first of a list's elements is at the place p, and ends at q.
module _ (left n p : ℕ) (bs : List ℕ) (some : 0 < length bs) (enough : length bs ≤ n) {r : Result ℕ Found} (first : nest_of r ≡ element_of left p bs) where
  -- it ends after its place and within the list, and the octets after it answer
  pub list_on : {q : ℕ} → r ≡ Ok q → (p < q) × (q ≤ p + length bs) × (list_of (element_of left) n p bs ≡ list_of (element_of left) n q (drop (q - p) bs))
  list_on {q} e =
      let ends = sym first ∙ ap nest_of e in
      let past = element_progress left p q bs ends in
      (omega arith, past.1, elements_next left n p bs enough q some ends)

  -- its fault is the list's
  pub list_fault : {f : Found} → r ≡ Err f → nest_of (Err f) ≡ list_of (element_of left) n p bs
  list_fault e = sym (list_stop (element_of left) n p bs some enough (sym first ∙ ap nest_of e))
