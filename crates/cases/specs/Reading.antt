-- A case as far as it has been read, with the room and its octets, after the next character. Assumes nothing.
use Rattle.std.specs.Prelude.{ℕ, zero, suc, ◌+◌, ◌-◌, ◌*◌, ◌%◌, true, false, ◌&&◌, ◌||◌, Option, Some, None, List, eqb, ltb, leb, get_or, set, replicate}
use Rattle.std.specs.Option.{unwrap_or}
use Rattle.cases.specs.declared.case.Filled.{Filled}
use Rattle.cases.specs.declared.case.Case.{Case}
use Rattle.cases.specs.declared.case.Progress.{Progress}

-- how many octets the room holds
abbrev pub size : ℕ
size = 70000

-- The room, and how many octets of a case it has.
abbrev pub filled : List ℕ → ℕ → Filled
filled room n = record { room = room; octets = n }

-- after an octet is added; a full room stays as it is
unfoldable pub pushed : Filled → ℕ → Filled
pushed k b = elim (ltb k.octets size) [ true ↦ filled (set k.room k.octets b) (k.octets + 1) | false ↦ k ]

-- after the octet at a place of the room is added once more, if the room has that place
unfoldable pub pushed_again : ℕ → Filled → Filled
pushed_again i k = elim (ltb i size) [ true ↦ pushed k (get_or k.room i 0) | false ↦ k ]

-- after the octets from a place on are added once more; the first argument is their number
unfoldable pub pushed_part : ℕ → ℕ → Filled → Filled
pushed_part zero i k = k
pushed_part (suc n) i k = pushed_part n (suc i) (pushed_again i k)

-- after the same is done a number of times
unfoldable pub repeated : ℕ → ℕ → ℕ → Filled → Filled
repeated zero i n k = k
repeated (suc times) i n k = repeated times i n (pushed_part n i k)

-- a case whose next token begins after the octets that the room has
abbrev pub token_at : Filled → Case
token_at k = record { filled = k; token = k.octets; high = None; times = None }

-- a case that has been read so far, in a room
abbrev pub case_of : Progress → List ℕ → Case
case_of p room = record { filled = filled room p.octets; token = p.token; high = p.high; times = p.times }

-- a case of which nothing is read yet, and one that begins anew in the room of another
unfoldable pub started : Case
started = token_at (filled (replicate size 0) 0)

unfoldable pub restarted : Case → Case
restarted c = token_at (filled c.filled.room 0)

-- "`0500*3` stands for the token's octets three times": the room after a token, whose octets stand once if it has no count
unfoldable pub token_ended : Case → Filled
token_ended c = repeated (unwrap_or c.times 1 - 1) c.token (c.filled.octets - c.token) c.filled

-- the value of a hex digit; 0 for any other character
unfoldable pub digit_of : ℕ → ℕ
digit_of c =
    elim (leb 0x30 c && leb c 0x39) [
      | true ↦ c - 0x30
      | false ↦ elim (leb 0x41 c && leb c 0x46) [ true ↦ c - 0x41 + 10 | false ↦ 0 ]
    ]

-- the largest `usize`: how many turns a program takes at most
abbrev pub largest : ℕ
largest = 18446744073709551615

-- a case with other octets and another digit that waits for a second; and one with another count
abbrev pub with_octets : Case → Filled → Option ℕ → Case
with_octets c k high = record { filled = k; token = c.token; high = high; times = c.times }

abbrev pub with_filled : Case → Filled → Case
with_filled c k = with_octets c k c.high

abbrev pub with_count : Case → ℕ → Case
with_count c n = record { filled = c.filled; token = c.token; high = c.high; times = Some n }

-- a digit of the token's count, which stays once it is too large
unfoldable pub with_count_digit : ℕ → ℕ → ℕ
with_count_digit n d = elim (leb n size) [ true ↦ n * 10 + d | false ↦ n ]

-- a digit of the token's octets: the first of two, or the second
unfoldable pub with_octet_digit : Case → ℕ → Case
with_octet_digit c d =
    elim c.high [
      | None ↦ with_octets c c.filled (Some d)
      | Some high ↦ with_octets c (pushed c.filled (high % 16 * 16 + d % 16)) None
    ]

-- the next character: a space and a line's end end a token, `*` begins the count, and any other is a digit
unfoldable pub read_next : Case → ℕ → Case
read_next c x =
    elim (eqb x 0x20 || eqb x 0x0A) [
      | true ↦ token_at (token_ended c)
      | false ↦ elim (eqb x 0x2A) [
        | true ↦ with_count c 0
        | false ↦ elim c.times [ Some n ↦ with_count c (with_count_digit n (digit_of x)) | None ↦ with_octet_digit c (digit_of x) ]
      ]
    ]
