-- The first long certReqId among some rows, as a walk notes it: its whole length, 0 if there is none, and its place. Assumes nothing.
use Rattle.std.specs.Prelude.{ℕ, true, false, ◌&&◌, List, [], ◌∷◌, eqb}
use Rattle.crmf.specs.meaning.Rows.{Row, long_id}

-- what is noted after one more row
abbrev pub longer : ℕ × ℕ → ℕ → ℕ → ℕ → ℕ × ℕ
longer h kind first whole = elim (long_id kind whole && eqb h.0 0) [ true ↦ (whole, first) | false ↦ h ]

-- what is noted after some rows, unless a long certReqId was met before them
unfoldable pub first_long : ℕ × ℕ → List Row → ℕ × ℕ
first_long h [] = h
first_long h (r ∷ rs) = first_long (longer h r.kind r.first r.whole) rs
