-- A token's octets once more, octet by octet and time by time. Assumes nothing.
use Prim.Native.Nat.{ℕ, zero, suc, ◌+◌, ◌-◌, ◌≤◌, ◌<◌}
use native.Mathlib.Numerals.{add-one}
use native.Mathlib.Omega.{arith}
use mathlib.Core.Path.{◌≡◌}
use Rattle.std.specs.Prelude.{Bool, true, false, ltb, get_or, refl}
use Rattle.std.proofs.Common.{ap}
use Rattle.std.proofs.lemmas.Bool.Decides.{nat_tests}
use Rattle.cases.specs.declared.case.Filled.{Filled}
use Rattle.cases.specs.declared.case.Case.{Case}
use Rattle.cases.specs.Reading.{size, pushed, pushed_again, pushed_part, repeated, with_filled}

-- octets up to a place, from the next on and from the last
module _ (i to : ℕ) (k : Filled) where
  pub part_next : i < to → {next : Filled} → next ≡ pushed_again i k → pushed_part (to - (i + 1)) (i + 1) next ≡ pushed_part (to - i) i k
  unfolding pushed_part
  part_next before is =
      let left : to - i ≡ suc (to - (i + 1)) = omega arith in
      rw (left, add-one, is)

  pub part_done : to ≤ i → pushed_part (to - i) i k ≡ k
  unfolding pushed_part
  part_done past =
      let none : to - i ≡ zero = omega arith in
      rw none

-- a full room takes no octet
pushed_full : (k : Filled) (b : ℕ) → ltb k.octets size ≡ false → pushed k b ≡ k
unfolding pushed
pushed_full k b full = rw (full, pushed)

either : (b : Bool) {j k : Filled} → j ≡ k → elim b [ true ↦ j | false ↦ k ] ≡ k
either true same = same
either false same = refl

again_full : (i : ℕ) (k : Filled) → ltb k.octets size ≡ false → pushed_again i k ≡ k
unfolding pushed_again
again_full i k full = either (ltb i size) (pushed_full k (get_or k.room i 0) full)

part_full : (n i : ℕ) (k : Filled) → ltb k.octets size ≡ false → pushed_part n i k ≡ k
unfolding pushed_part
part_full zero i k full = refl
part_full (suc n) i k full = rw (again_full i k full) (part_full n (suc i) k full)

-- the same of a case whose room has part of its octets once more
abbrev pub part_added : ℕ → ℕ → Case → Case
part_added n i c = with_filled c (pushed_part n i c.filled)

module _ (i to : ℕ) (c : Case) where
  pub added_next : i < to → {next : Case} → next ≡ with_filled c (pushed_again i c.filled)
      → part_added (to - (i + 1)) (i + 1) next ≡ part_added (to - i) i c
  added_next before is = rw is (ap (λ (k : Filled). with_filled c k) (part_next i to c.filled before refl))

  pub added_done : to ≤ i → part_added (to - i) i c ≡ c
  added_done past = ap (λ (k : Filled). with_filled c k) (part_done i to c.filled past)

  pub added_full : size ≤ c.filled.octets → part_added (to - i) i c ≡ c
  added_full full =
      let none : ltb c.filled.octets size ≡ false = grind (arith, nat_tests) in
      ap (λ (k : Filled). with_filled c k) (part_full (to - i) i c.filled none)

-- a token's octets, before a further time and after the last
module _ (turn times from n : ℕ) (k : Filled) where
  pub repeated_next : turn < times → {next : Filled} → next ≡ pushed_part n from k
      → repeated (times - (turn + 1)) from n next ≡ repeated (times - turn) from n k
  unfolding repeated
  repeated_next before is =
      let left : times - turn ≡ suc (times - (turn + 1)) = omega arith in
      rw (left, is)

  pub repeated_done : times ≤ turn → repeated (times - turn) from n k ≡ k
  unfolding repeated
  repeated_done past =
      let none : times - turn ≡ zero = omega arith in
      rw none
