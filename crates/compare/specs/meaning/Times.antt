-- How many seconds later a time of one batch is than its counterpart in another: document 02's request A12, SPECIFICATION 11. Assumes nothing.
use Rattle.std.specs.Prelude.{ℕ, Bool, true, false, ◌||◌, List, eqb, ℤ, pos, ◌-ℤ◌}
use Rattle.std.proofs.Math.Option.{Option, some, none}
use Rattle.time.specs.meaning.Validity.{shown_moment}
use Rattle.crmf.specs.meaning.Kinds as kinds
use Rattle.crmf.specs.meaning.Rows.{Row}
use Rattle.compare.specs.meaning.Counterparts.{row_at}
use Rattle.compare.specs.meaning.Changes.{Later, row_octets}

-- "two times": whether a kind is that of a time
unfoldable pub is_time_kind : ℕ → Bool
is_time_kind kind = eqb kind kinds.not_before || eqb kind kinds.not_after

-- "second less first in seconds", if both show a moment
unfoldable pub second_less_first : Option ℕ → Option ℕ → ℤ
second_less_first (some first) (some second) = pos second -ℤ pos first
second_less_first (some first) none = pos 0
second_less_first none second = pos 0

-- "for two times that differ, second less first in seconds, else 0": of the octets of two leaves of a kind
unfoldable pub leaf_seconds : (kind : ℕ) (first second : List ℕ) → ℤ
leaf_seconds kind first second =
    elim (is_time_kind kind) [ true ↦ second_less_first (shown_moment first) (shown_moment second) | false ↦ pos 0 ]

-- "a signed fourth number": of two leaves that differ, by their rows
abbrev pub seconds_later : (s t : List ℕ) (A B : List Row) → Later
seconds_later s t A B i j = leaf_seconds (row_at A i).kind (row_octets s (row_at A i)) (row_octets t (row_at B j))
