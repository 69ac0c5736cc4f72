-- Two times that differ in a comparison of accepted batches both show moments, so that the fourth number of their entry is always the second's less the
-- first's: document 02's request A12. Assumes nothing.
use Prim.Native.Nat.{ℕ, zero, suc}
use mathlib.Core.Path.{◌≡◌, refl, sym, ◌∙◌}
use mathlib.Core.Logic.{inl, inr, ⊎_elim}
use mathlib.Core.List.{List, [], ◌∷◌, Memᴰ}
use mathlib.Core.Option.{some}
use native.Mathlib.Omega.{arith}
use lib.IntN.{pos, ◌-ℤ◌}
use Rattle.time.specs.meaning.Validity.{shown_moment}
use Rattle.crmf.specs.meaning.Rows.{Row}
use Rattle.editions.specs.meaning.TwoBatches.{Accepted}
use Rattle.editions.proofs.Laws.{times_shown}
use Rattle.compare.specs.meaning.Counterparts.{row_at}
use Rattle.compare.specs.meaning.Changes.{Change, leaves_differ, row_octets}
use Rattle.compare.specs.meaning.Compares.{rows_of, later_in, Between}
use Rattle.compare.proofs.theorems.Batches.{in_place}
use Rattle.compare.proofs.theorems.LeafSeconds.{seconds_times}
use Rattle.compare.proofs.theorems.OneCounterpart.{counterpart_kind}
use Rattle.compare.proofs.theorems.SecondsLater.{TimeKind, time_kind}
use Rattle.compare.proofs.theorems.TheList.{leaves_apart}

-- a row of such a kind is one of the rows
row_there : (rs : List Row) (i : ℕ) → TimeKind (row_at rs i).kind → Memᴰ (row_at rs i) rs
row_there [] i kind = ⊎_elim (λ first. absurd (omega (arith, first))) (λ second. absurd (omega (arith, second))) kind
row_there (r ∷ rs) zero kind = Memᴰ.head refl
row_there (r ∷ rs) (suc i) kind = Memᴰ.tail (row_there rs i kind)

module _ {e : ℕ} {first second : List ℕ} (one : Accepted e first) (two : Accepted e second) {cs : List Change} (x : Between one two cs) where
  -- "for two times that differ, second less first in seconds"
  pub times_apart : {i j : ℕ} → Memᴰ (leaves_differ i j) cs → TimeKind (row_at (rows_of one) i).kind
      → (a b : ℕ)
      × (shown_moment (row_octets first (row_at (rows_of one) i)) ≡ some a)
      × (shown_moment (row_octets second (row_at (rows_of two) j)) ≡ some b)
      × (later_in one two i j ≡ pos b -ℤ pos a)
  times_apart {i} {j} listed kind =
      let same = counterpart_kind (in_place one.batch) (in_place two.batch) (leaves_apart one two x listed).pair in
      let too : TimeKind (row_at (rows_of two) j).kind = ⊎_elim (λ before. inl (sym same ∙ before)) (λ after. inr (sym same ∙ after)) kind in
      let (a, shows) = times_shown one.batch (row_at (rows_of one) i) (row_there (rows_of one) i kind) kind in
      let (b, also) = times_shown two.batch (row_at (rows_of two) j) (row_there (rows_of two) j too) too in
      (a, b, shows, also, seconds_times (row_at (rows_of one) i).kind (row_octets first (row_at (rows_of one) i)) (row_octets second (row_at (rows_of two) j)) (time_kind _ kind) shows also)
