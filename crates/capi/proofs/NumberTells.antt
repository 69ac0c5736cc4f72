-- The one number of a verdict or a refusal tells which it is: at most 7 is a verdict, and 256 and more is a refusal. That of a moment tells the
-- moment, or that there is none. Assumes nothing.
use Prim.Native.Nat.{ℕ, ◌+◌, ◌≤◌}
use native.Mathlib.Omega.{arith}
use mathlib.Core.Logic.{◌↔◌}
use mathlib.Core.Path.{◌≡◌, refl, ap}
use mathlib.Core.Bool.{Bool, true, false}
use mathlib.Core.List.{List}
use mathlib.Core.Option.{Option, some, none}
use lib.Dec.{eqb}
use lib.IntN.{pos, negsuc}
use borrow.Author.Tests.{eqb-true, eqb-false}
use Rattle.der.specs.meaning.Refusal.{accepted}
use Rattle.verdict.specs.meaning.Verdict.{misplaced_dh_mac}
use Rattle.verdict.proofs.Laws.{judges_small}
use Rattle.capi.specs.OneNumber.{refused_by, JudgesBy, moment_number}

-- the number is at most 7 exactly if there is a verdict, and at least 256 exactly if there is a refusal
pub number_tells : {e position told : ℕ} {s : List ℕ} (j : JudgesBy e s position told)
    → ((j.number ≡ accepted) ↔ (told ≤ misplaced_dh_mac)) × ((j.number ≡ accepted → ⊥) ↔ (refused_by ≤ told))
number_tells {told = told} j = go (eqb j.number accepted) refl j.same
  where
    go : (b : Bool) → eqb j.number accepted ≡ b → told ≡ elim b as (λ x. ℕ) [ true ↦ j.verdict | false ↦ refused_by + j.number ]
        → ((j.number ≡ accepted) ↔ (told ≤ misplaced_dh_mac)) × ((j.number ≡ accepted → ⊥) ↔ (refused_by ≤ told))
    go true is same =
        let zero = eqb-true _ _ is in
        let small = judges_small j.answer in
        ((λ h. omega arith, λ h. zero), (λ some. absurd (some zero), λ far. absurd (omega arith)))
    go false is same =
        let some = eqb-false _ _ is in
        ((λ zero. absurd (some zero), λ small. absurd (omega arith)), (λ h. omega arith, λ h. some))

-- the number is a moment exactly if that is shown, and -1 exactly if none is
pub moment_tells : (o : Option ℕ) (n : ℕ) → ((moment_number o ≡ pos n) ↔ (o ≡ some n)) × ((moment_number o ≡ negsuc 0) ↔ (o ≡ none))
unfolding moment_number
moment_tells o n = ((said o, λ is. ap moment_number is), (missing o, λ is. ap moment_number is))
  where
    said : (o : Option ℕ) → moment_number o ≡ pos n → o ≡ some n
    said (some m) is = let same : m ≡ n = cc in ap some same
    said none is = let z : ◌≡◌ {A = ℕ} 0 1 = cc in absurd (omega arith)

    missing : (o : Option ℕ) → moment_number o ≡ negsuc 0 → o ≡ none
    missing (some m) is = let z : ◌≡◌ {A = ℕ} 0 1 = cc in absurd (omega arith)
    missing none is = refl
