-- Worked fourth numbers, computed on the definitions: batches of one message whose validity has a notAfter alone, the last second that stands as
-- UTCTime and the first that stands as GeneralizedTime. Assumes nothing.
use Prim.Native.Nat.{ℕ}
use mathlib.Core.Path.{◌≡◌, refl}
use mathlib.Core.List.{List, [], ◌∷◌}
use mathlib.Core.Option.{bind}
use lib.IntN.{pos, negsuc}
use Rattle.time.specs.meaning.Calendar.{leap, month_days, days_in, total, days_before_year, days_before_month, is_day, is_real, days_before, seconds, moment}
use Rattle.time.specs.meaning.Time.{digit, pair_at, date_at, century, utc_date, generalized_date, utc_moment, generalized_moment, time_moment}
use Rattle.time.specs.meaning.Validity.{is_short, element_moment, shown_moment}
use Rattle.crmf.specs.meaning.Kinds as kinds
use Rattle.crmf.specs.meaning.Rows.{Row}
use Rattle.compare.specs.meaning.Changes.{only_first, leaves_differ, entry}
use Rattle.compare.specs.meaning.Times.{is_time_kind, second_less_first, leaf_seconds, seconds_later}

-- "notAfter 491231235959Z"
abbrev utc : List ℕ
utc =
    0x30 ∷ 0x1C ∷ 0x30 ∷ 0x1A ∷ 0x30 ∷ 0x18 ∷ 0x02 ∷ 0x01 ∷ 0x00 ∷ 0x30
    ∷ 0x13 ∷ 0xA4 ∷ 0x11 ∷ 0xA1 ∷ 0x0F ∷ 0x17 ∷ 0x0D ∷ 0x34 ∷ 0x39 ∷ 0x31
    ∷ 0x32 ∷ 0x33 ∷ 0x31 ∷ 0x32 ∷ 0x33 ∷ 0x35 ∷ 0x39 ∷ 0x35 ∷ 0x39 ∷ 0x5A
    ∷ []

abbrev utc_rows : List Row
utc_rows =
    record { kind = kinds.batch; first = 0; whole = 30; parent = 0; content = 2 }
    ∷ record { kind = kinds.message; first = 2; whole = 28; parent = 0; content = 4 }
    ∷ record { kind = kinds.cert_req; first = 4; whole = 26; parent = 1; content = 6 }
    ∷ record { kind = kinds.cert_req_id; first = 6; whole = 3; parent = 2; content = 8 }
    ∷ record { kind = kinds.cert_template; first = 9; whole = 21; parent = 2; content = 11 }
    ∷ record { kind = kinds.validity; first = 11; whole = 19; parent = 4; content = 13 }
    ∷ record { kind = kinds.not_after; first = 13; whole = 17; parent = 5; content = 15 }
    ∷ []

-- "against 20500101000000Z"
abbrev generalized : List ℕ
generalized =
    0x30 ∷ 0x1E ∷ 0x30 ∷ 0x1C ∷ 0x30 ∷ 0x1A ∷ 0x02 ∷ 0x01 ∷ 0x00 ∷ 0x30
    ∷ 0x15 ∷ 0xA4 ∷ 0x13 ∷ 0xA1 ∷ 0x11 ∷ 0x18 ∷ 0x0F ∷ 0x32 ∷ 0x30 ∷ 0x35
    ∷ 0x30 ∷ 0x30 ∷ 0x31 ∷ 0x30 ∷ 0x31 ∷ 0x30 ∷ 0x30 ∷ 0x30 ∷ 0x30 ∷ 0x30
    ∷ 0x30 ∷ 0x5A
    ∷ []

abbrev generalized_rows : List Row
generalized_rows =
    record { kind = kinds.batch; first = 0; whole = 32; parent = 0; content = 2 }
    ∷ record { kind = kinds.message; first = 2; whole = 30; parent = 0; content = 4 }
    ∷ record { kind = kinds.cert_req; first = 4; whole = 28; parent = 1; content = 6 }
    ∷ record { kind = kinds.cert_req_id; first = 6; whole = 3; parent = 2; content = 8 }
    ∷ record { kind = kinds.cert_template; first = 9; whole = 23; parent = 2; content = 11 }
    ∷ record { kind = kinds.validity; first = 11; whole = 21; parent = 4; content = 13 }
    ∷ record { kind = kinds.not_after; first = 13; whole = 19; parent = 5; content = 15 }
    ∷ []

-- "(3,6,6,1)"
a_second_later : entry (seconds_later utc generalized utc_rows generalized_rows) (leaves_differ 6 6) ≡ pos 3 ∷ pos 6 ∷ pos 6 ∷ pos 1 ∷ []
unfolding leap month_days days_in total days_before_year days_before_month is_day is_real days_before seconds moment
    digit pair_at date_at century utc_date generalized_date utc_moment generalized_moment time_moment is_short element_moment shown_moment
    is_time_kind second_less_first leaf_seconds entry bind
a_second_later = refl

-- "the other way (3,6,6,-1)"
a_second_earlier : entry (seconds_later generalized utc generalized_rows utc_rows) (leaves_differ 6 6) ≡ pos 3 ∷ pos 6 ∷ pos 6 ∷ negsuc 0 ∷ []
unfolding leap month_days days_in total days_before_year days_before_month is_day is_real days_before seconds moment
    digit pair_at date_at century utc_date generalized_date utc_moment generalized_moment time_moment is_short element_moment shown_moment
    is_time_kind second_less_first leaf_seconds entry bind
a_second_earlier = refl

-- "a validity on one side only: (1,5,0,0)"
one_side_only : entry (seconds_later utc generalized utc_rows generalized_rows) (only_first 5) ≡ pos 1 ∷ pos 5 ∷ pos 0 ∷ pos 0 ∷ []
unfolding entry
one_side_only = refl
