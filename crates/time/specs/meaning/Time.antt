-- What a UTCTime and a GeneralizedTime are, by their content octets, and the moments that they show: document 01's words on Time, document 02's
-- request A12, SPECIFICATION 3.6. Assumes nothing.
use Rattle.std.specs.Prelude.{ℕ, ◌+◌, ◌-◌, ◌*◌, Bool, true, false, ◌&&◌, List, leb, eqb, length, get_or}
use Rattle.std.proofs.Math.Option.{Option, some, none, bind}
use Rattle.time.specs.meaning.Calendar.{Date, moment}

-- whether an octet is a decimal digit
unfoldable pub digit : ℕ → Bool
digit b = leb 0x30 b && leb b 0x39

-- the number that the two decimal digits at i make, if both are digits
unfoldable pub pair_at : List ℕ → ℕ → Option ℕ
pair_at c i =
    elim (digit (get_or c i 0) && digit (get_or c (i + 1) 0)) [
      | true ↦ some ((get_or c i 0 - 0x30) * 10 + (get_or c (i + 1) 0 - 0x30))
      | false ↦ none
    ]

-- "MMDDHHMMSSZ": the date of a year whose other parts are written from i on, with two digits each, if Z comes after them
unfoldable pub date_at : ℕ → List ℕ → ℕ → Option Date
date_at year c i =
    bind (pair_at c i) (λ month.
    bind (pair_at c (i + 2)) (λ day.
    bind (pair_at c (i + 4)) (λ hour.
    bind (pair_at c (i + 6)) (λ minute.
    bind (pair_at c (i + 8)) (λ second.
    elim (eqb (get_or c (i + 10) 0) 0x5A) [
      | true ↦ some (record { year = year; month = month; day = day; hour = hour; minute = minute; second = second })
      | false ↦ none
    ])))))

-- "two-digit years 50 to 99 are 19xx, others 20xx"
unfoldable pub century : ℕ → ℕ
century yy = elim (leb 50 yy) [ true ↦ 1900 + yy | false ↦ 2000 + yy ]

-- "17, YYMMDDHHMMSSZ"
unfoldable pub utc_date : List ℕ → Option Date
utc_date c = elim (eqb (length c) 13) [ true ↦ bind (pair_at c 0) (λ yy. date_at (century yy) c 2) | false ↦ none ]

-- "18, YYYYMMDDHHMMSSZ"
unfoldable pub generalized_date : List ℕ → Option Date
generalized_date c =
    elim (eqb (length c) 15) [
      | true ↦ bind (pair_at c 0) (λ hundreds. bind (pair_at c 2) (λ rest. date_at (hundreds * 100 + rest) c 4))
      | false ↦ none
    ]

-- "days through 2049 stand as UTCTime and later ones as GeneralizedTime (RFC 5280; none before 1950)": the first year of a GeneralizedTime. Two
-- digits show no year outside 1950 to 2049.
abbrev pub first_generalized_year : ℕ
first_generalized_year = 2050

-- the moment that a UTCTime shows, if the octets are one
unfoldable pub utc_moment : List ℕ → Option ℕ
utc_moment c = bind (utc_date c) moment

-- the moment that a GeneralizedTime shows, if the octets are one
unfoldable pub generalized_moment : List ℕ → Option ℕ
generalized_moment c =
    bind (generalized_date c) (λ d. elim (leb first_generalized_year d.year) [ true ↦ moment d | false ↦ none ])

-- "Time: 17 .. or 18": the moment that an element with an identifier and content octets shows, if it is a Time
unfoldable pub time_moment : ℕ → List ℕ → Option ℕ
time_moment id c = elim (eqb id 0x17) [ true ↦ utc_moment c | false ↦ elim (eqb id 0x18) [ true ↦ generalized_moment c | false ↦ none ] ]
