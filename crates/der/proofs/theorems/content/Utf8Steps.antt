-- One step of the check by classes, at an octet of a known class: after a lead and after a tail the check goes on, and at any other
-- octet it fails. Then the table of classes, which is tested by computing. Assumes nothing.
use Prim.Native.Nat.{ℕ, suc}
use mathlib.Core.Bool.{Bool, true, false, and-eq-true_iff}
use mathlib.Core.List.{List, [], ◌∷◌}
use mathlib.Core.Path.{◌≡◌, refl}
use borrow.Author.Tests.{leb-true, eqb-true, ne_eqb}
use lib.Dec.{leb, eqb}
use lib.ListN.{get_or}
use Rattle.der.specs.meaning.Utf8.{InRange}
use Rattle.der.specs.steps.Utf8Classes.{in_range, class_of, leads, tails, lowest, highest, utf8_from, Classes}
use Rattle.der.proofs.theorems.lists.Range.{every, each}

-- what a test of a range says
pub inside : {lo hi b : ℕ} → in_range lo hi b ≡ true → InRange lo hi b
inside {lo} {hi} {b} e =
    let p = (and-eq-true_iff (leb lo b) (leb b hi)).0 e in
    (leb-true lo b p.0, leb-true b hi p.1)

-- a number outside a range fails its test
outside : (lo hi b : ℕ) → (InRange lo hi b → ⊥) → in_range lo hi b ≡ false
outside lo hi b h = go (in_range lo hi b) refl
  where
    go : (t : Bool) → in_range lo hi b ≡ t → t ≡ false
    go true e = absurd (h (inside e))
    go false e = refl

-- a class that is neither 0 nor from 4 to 10 begins no character
pub none_leads : (c : ℕ) → (c ≡ 0 → ⊥) → (InRange 4 10 c → ⊥) → leads c ≡ false
unfolding leads
none_leads c n h = rw (leads, ne_eqb c 0 n) (outside 4 10 c h)

-- the check at an octet of class c
module _ (b : ℕ) {c : ℕ} (e : class_of b ≡ c) where
  -- a lead begins a character
  pub begin : leads c ≡ true → (low high : ℕ) (bs : List ℕ) → utf8_from 0 low high (b ∷ bs) ≡ utf8_from (tails c) (lowest c) (highest c) bs
  unfolding utf8_from
  begin l low high bs = rw (utf8_from, e, l, e)

  -- any other octet begins none
  pub no_lead : leads c ≡ false → (low high : ℕ) (bs : List ℕ) → utf8_from 0 low high (b ∷ bs) ≡ false
  unfolding utf8_from
  no_lead l low high bs = rw (utf8_from, e, l)

  -- a tail of the range is taken
  pub go_on : (low high : ℕ) → in_range low high c ≡ true → (left : ℕ) (bs : List ℕ) → utf8_from (suc left) low high (b ∷ bs) ≡ utf8_from left 1 3 bs
  unfolding utf8_from
  go_on low high w left bs = rw (utf8_from, e, w)

  -- any other octet is not
  pub no_tail : (low high : ℕ) → in_range low high c ≡ false → (left : ℕ) (bs : List ℕ) → utf8_from (suc left) low high (b ∷ bs) ≡ false
  unfolding utf8_from
  no_tail low high w left bs = rw (utf8_from, e, w)

-- a table has the classes if it has every octet's, which is computed
pub classes_right : (table : List ℕ) → every 256 (λ b. eqb (get_or table b 0) (class_of b)) ≡ true → Classes table
classes_right table e = record { entry = λ b h. eqb-true (get_or table b 0) (class_of b) (each 256 (λ k. eqb (get_or table k 0) (class_of k)) e b h) }

-- at the start of a character the range of tails makes no difference
pub any_range : (low high : ℕ) (bs : List ℕ) → utf8_from 0 low high bs ≡ utf8_from 0 1 3 bs
unfolding utf8_from
any_range low high [] = refl
any_range low high (b ∷ bs) = refl
