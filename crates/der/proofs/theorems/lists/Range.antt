-- A test that computes to true at every number below a bound holds at each of them, and so at each entry of a table, which `get_or`
-- reads. The test goes down from the bound, and the law with it. Assumes nothing.
use Prim.Native.Nat.{ℕ, zero, suc, ◌<◌}
use mathlib.Core.Bool.{Bool, true, false, ◌&&◌, beq, and-eq-true_iff}
use mathlib.Core.Logic.{⊎_elim}
use mathlib.Core.Path.{◌≡◌, refl, sym}
use native.Mathlib.Nat.{le_of_suc-le-suc, not-suc-le-zero, eq-or-lt_of_le}

-- the test passes at every number below n
abbrev pub every : ℕ → (ℕ → Bool) → Bool
every zero f = true
every (suc n) f = f n && every n f

-- if every number below n passes, each one does
pub each : (n : ℕ) (f : ℕ → Bool) → every n f ≡ true → (k : ℕ) → k < n → f k ≡ true
each zero f e k h = absurd (not-suc-le-zero h)
each (suc n) f e k h =
    let p = (and-eq-true_iff (f n) (every n f)).0 e in
    ⊎_elim (λ q. rw q p.0) (each n f p.1 k) (eq-or-lt_of_le (le_of_suc-le-suc h))

-- two truth values that pass the test are equal
pub same : (a b : Bool) → beq a b ≡ true → a ≡ b
same true true e = refl
same true false e = sym e
same false true e = e
same false false e = refl
