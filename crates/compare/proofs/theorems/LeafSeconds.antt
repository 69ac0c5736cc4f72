-- How many seconds later the second of two leaves is, case by case. Assumes nothing.
use Prim.Native.Nat.{ℕ}
use mathlib.Core.Path.{◌≡◌, refl, ap, ap₂, ◌∙◌}
use mathlib.Core.Bool.{Bool, true, false}
use mathlib.Core.List.{List}
use mathlib.Core.Option.{Option, some, none}
use lib.IntN.{pos, ◌-ℤ◌}
use Rattle.time.specs.meaning.Validity.{shown_moment}
use Rattle.compare.specs.meaning.Times.{is_time_kind, second_less_first, leaf_seconds}

module _ (kind : ℕ) (first second : List ℕ) where
  -- leaves that are no times,
  pub seconds_other : is_time_kind kind ≡ false → leaf_seconds kind first second ≡ pos 0
  unfolding leaf_seconds
  seconds_other other =
      ap (λ (b : Bool). elim b [ true ↦ second_less_first (shown_moment first) (shown_moment second) | false ↦ pos 0 ]) other

  -- two times,
  seconds_shown : is_time_kind kind ≡ true → {one other : Option ℕ} → shown_moment first ≡ one → shown_moment second ≡ other
      → leaf_seconds kind first second ≡ second_less_first one other
  unfolding leaf_seconds
  seconds_shown time is also =
      ap (λ (b : Bool). elim b [ true ↦ second_less_first (shown_moment first) (shown_moment second) | false ↦ pos 0 ]) time
      ∙ ap₂ second_less_first is also

  pub seconds_times : is_time_kind kind ≡ true → {a b : ℕ} → shown_moment first ≡ some a → shown_moment second ≡ some b
      → leaf_seconds kind first second ≡ pos b -ℤ pos a
  unfolding second_less_first
  seconds_times time is also = seconds_shown time is also

  -- and elements of which one shows no moment
  pub seconds_no_first : is_time_kind kind ≡ true → shown_moment first ≡ none → leaf_seconds kind first second ≡ pos 0
  unfolding second_less_first
  seconds_no_first time is = seconds_shown time is refl

  pub seconds_no_second : is_time_kind kind ≡ true → {a : ℕ} → shown_moment first ≡ some a → shown_moment second ≡ none
      → leaf_seconds kind first second ≡ pos 0
  unfolding second_less_first
  seconds_no_second time is also = seconds_shown time is also
