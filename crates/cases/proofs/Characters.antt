-- The first character of a text, by what is left of it. Assumes nothing.
use Rattle.std.specs.Prelude.{ℕ, zero, suc, ◌≤◌, Option, None, List, length, refl}
use Rattle.std.proofs.Common.{arith, lit<}
use Rattle.cases.specs.declared.input.Input.{Input}
use Rattle.cases.specs.Input.{taken, begun, Found, Left}

module _ (input : Input) (c : Option ℕ) (text : List ℕ) where
  -- the text of which some characters were read
  abbrev read : ℕ → Input
  read n = record { text = text; read = n; at = 0 }

  pub first : (n : ℕ) → n ≤ length text
      → (Left (read n) → Found input c (taken n text 0)) → ((Left (read n) → ⊥) → Found input c (read n, None))
      → (m : ℕ) × (m ≤ length input.text) × Found input c (begun m input.text)
  unfolding begun
  first zero fits left none =
      let found = none (λ some. omega (arith, some.0)) in
      rw found.0 (0, omega arith, (refl, found.1))
  first (suc n) fits left none =
      let found = left (omega arith, lit< tt) in
      rw found.0 (suc n, fits, (refl, found.1))
