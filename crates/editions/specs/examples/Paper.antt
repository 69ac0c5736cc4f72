-- Document 01's batches marked [P], as it prints them (SPECIFICATION 9.1): each read in an edition into a lent table, and what comes back.
-- Assumes nothing.
use Rattle.std.specs.Prelude.{ℕ, List, [], ◌∷◌, ◌++◌, take}

-- A batch that is read in an edition into a table: the number, place and count that come back, the table afterwards, and the verdicts on its
-- first messages, as far as document 01 prints them.
pub record Entry : Type 0 where
  pub edition : ℕ
  pub octets : List ℕ
  pub table : List ℕ
  pub number : ℕ
  pub place : ℕ
  pub count : ℕ
  pub after : List ℕ
  pub verdicts : List ℕ

-- a table with room for seven rows and two numbers more
abbrev pub lent : List ℕ
lent =
    201 ∷ 202 ∷ 203 ∷ 204 ∷ 205 ∷ 206 ∷ 207 ∷ 208 ∷ 209 ∷ 210
    ∷ 211 ∷ 212 ∷ 213 ∷ 214 ∷ 215 ∷ 216 ∷ 217 ∷ 218 ∷ 219 ∷ 220
    ∷ 221 ∷ 222 ∷ 223 ∷ 224 ∷ 225 ∷ 226 ∷ 227 ∷ 228 ∷ 229 ∷ 230
    ∷ 231 ∷ 232 ∷ 233 ∷ 234 ∷ 235 ∷ 236 ∷ 237 ∷ []

-- refused with a number and a place: the count is 0, and the table stays
abbrev pub refused_with : List ℕ → ℕ → List ℕ → ℕ → ℕ → Entry
refused_with old e bs n p = record { edition = e; octets = bs; table = old; number = n; place = p; count = 0; after = old; verdicts = [] }

abbrev pub refused_in : ℕ → List ℕ → ℕ → ℕ → Entry
refused_in = refused_with lent

-- accepted with a count of rows: the table begins with the rows, and the numbers after them stay
abbrev pub accepted_with : List ℕ → ℕ → List ℕ → ℕ → List ℕ → List ℕ → Entry
accepted_with old e bs n rows rest =
    record { edition = e; octets = bs; table = old; number = 0; place = 0; count = n; after = rows ++ rest; verdicts = [] }

abbrev pub accepted_in : ℕ → List ℕ → ℕ → List ℕ → List ℕ → Entry
accepted_in = accepted_with lent

-- the same entry with verdicts
abbrev pub judging : List ℕ → Entry → Entry
judging vs x =
    record { edition = x.edition; octets = x.octets; table = x.table; number = x.number; place = x.place; count = x.count; after = x.after; verdicts = vs }

-- "S = 30 09 30 07 30 05 02 01 00 30 00: accepted, five rows, printed whole, one row a line"; "01's cases and listing gain the column (for S: 2,
-- 4, 6, 8, 11)", the fifth of each row here and below
abbrev pub S : List ℕ
S = 0x30 ∷ 0x09 ∷ 0x30 ∷ 0x07 ∷ 0x30 ∷ 0x05 ∷ 0x02 ∷ 0x01 ∷ 0x00 ∷ 0x30 ∷ 0x00 ∷ []

abbrev pub rows_of_s : List ℕ
rows_of_s =
    1 ∷ 0 ∷ 11 ∷ 0 ∷ 2
    ∷ 2 ∷ 2 ∷ 9 ∷ 0 ∷ 4
    ∷ 3 ∷ 4 ∷ 7 ∷ 1 ∷ 6
    ∷ 4 ∷ 6 ∷ 3 ∷ 2 ∷ 8
    ∷ 5 ∷ 9 ∷ 2 ∷ 2 ∷ 11
    ∷ []

-- the numbers of the table after five rows
abbrev pub after_s : List ℕ
after_s = 226 ∷ 227 ∷ 228 ∷ 229 ∷ 230 ∷ 231 ∷ 232 ∷ 233 ∷ 234 ∷ 235 ∷ 236 ∷ 237 ∷ []

-- "S and 00"
abbrev pub longer_s : List ℕ
longer_s = 0x30 ∷ 0x09 ∷ 0x30 ∷ 0x07 ∷ 0x30 ∷ 0x05 ∷ 0x02 ∷ 0x01 ∷ 0x00 ∷ 0x30 ∷ 0x00 ∷ 0x00 ∷ []

-- "30 0E 30 0C 30 05 02 01 00 30 00 A2 03 81 01 00: both editions; further rows 52 11 5 1 and 61 13 3 5; verdict 5"
abbrev pub choice : List ℕ
choice =
    0x30 ∷ 0x0E ∷ 0x30 ∷ 0x0C ∷ 0x30 ∷ 0x05 ∷ 0x02 ∷ 0x01 ∷ 0x00 ∷ 0x30 ∷ 0x00 ∷ 0xA2 ∷ 0x03 ∷ 0x81 ∷ 0x01 ∷ 0x00 ∷ []

abbrev pub rows_of_choice : List ℕ
rows_of_choice =
    1 ∷ 0 ∷ 16 ∷ 0 ∷ 2
    ∷ 2 ∷ 2 ∷ 14 ∷ 0 ∷ 4
    ∷ 3 ∷ 4 ∷ 7 ∷ 1 ∷ 6
    ∷ 4 ∷ 6 ∷ 3 ∷ 2 ∷ 8
    ∷ 5 ∷ 9 ∷ 2 ∷ 2 ∷ 11
    ∷ 52 ∷ 11 ∷ 5 ∷ 1 ∷ 13
    ∷ 61 ∷ 13 ∷ 3 ∷ 5 ∷ 15
    ∷ []

-- "30 1E 30 1C 30 05 02 01 00 30 00 30 13 30 11 06 09 2B 06 01 05 05 07 05 02 01 0C 04 61 3F 62 25: edition 2, further rows 70 11 21 1 and
-- 73 13 19 5; edition 1, 9 at 26"; "With 04 for 0C: the reverse, kind 72"
abbrev pub pairs : ℕ → List ℕ
pairs id =
    0x30 ∷ 0x1E ∷ 0x30 ∷ 0x1C ∷ 0x30 ∷ 0x05 ∷ 0x02 ∷ 0x01 ∷ 0x00 ∷ 0x30 ∷ 0x00 ∷ 0x30 ∷ 0x13 ∷ 0x30 ∷ 0x11
    ∷ 0x06 ∷ 0x09 ∷ 0x2B ∷ 0x06 ∷ 0x01 ∷ 0x05 ∷ 0x05 ∷ 0x07 ∷ 0x05 ∷ 0x02 ∷ 0x01 ∷ id ∷ 0x04 ∷ 0x61 ∷ 0x3F ∷ 0x62 ∷ 0x25 ∷ []

abbrev pub rows_of_pairs : ℕ → List ℕ
rows_of_pairs kind =
    1 ∷ 0 ∷ 32 ∷ 0 ∷ 2
    ∷ 2 ∷ 2 ∷ 30 ∷ 0 ∷ 4
    ∷ 3 ∷ 4 ∷ 7 ∷ 1 ∷ 6
    ∷ 4 ∷ 6 ∷ 3 ∷ 2 ∷ 8
    ∷ 5 ∷ 9 ∷ 2 ∷ 2 ∷ 11
    ∷ 70 ∷ 11 ∷ 21 ∷ 1 ∷ 13
    ∷ kind ∷ 13 ∷ 19 ∷ 5 ∷ 15
    ∷ []

-- the batches
abbrev pub entries : List Entry
entries =
    -- "empty: 2 at 0"
    refused_in 1 [] 2 0
    ∷ refused_in 2 [] 2 0
    -- "30 00: 8 at 0"
    ∷ refused_in 1 (0x30 ∷ 0x00 ∷ []) 8 0
    ∷ refused_in 2 (0x30 ∷ 0x00 ∷ []) 8 0
    -- "30 80: 4 at 0"
    ∷ refused_in 1 (0x30 ∷ 0x80 ∷ []) 4 0
    ∷ refused_in 2 (0x30 ∷ 0x80 ∷ []) 4 0
    -- "30 81 00: 4 at 0"
    ∷ refused_in 1 (0x30 ∷ 0x81 ∷ 0x00 ∷ []) 4 0
    ∷ refused_in 2 (0x30 ∷ 0x81 ∷ 0x00 ∷ []) 4 0
    -- "1F 00: 3 at 0"
    ∷ refused_in 1 (0x1F ∷ 0x00 ∷ []) 3 0
    ∷ refused_in 2 (0x1F ∷ 0x00 ∷ []) 3 0
    -- "S: accepted, five rows"
    ∷ accepted_in 1 S 5 rows_of_s after_s
    ∷ accepted_in 2 S 5 rows_of_s after_s
    -- "S and 00: 7 at 11"
    ∷ refused_in 1 longer_s 7 11
    ∷ refused_in 2 longer_s 7 11
    -- "both editions; further rows 52 11 5 1 and 61 13 3 5; verdict 5"
    ∷ judging (5 ∷ []) (accepted_in 1 choice 7 rows_of_choice (236 ∷ 237 ∷ []))
    ∷ judging (5 ∷ []) (accepted_in 2 choice 7 rows_of_choice (236 ∷ 237 ∷ []))
    -- "edition 2, further rows 70 11 21 1 and 73 13 19 5; edition 1, 9 at 26"
    ∷ accepted_in 2 (pairs 0x0C) 7 (rows_of_pairs 73) (236 ∷ 237 ∷ [])
    ∷ refused_in 1 (pairs 0x0C) 9 26
    -- "With 04 for 0C: the reverse, kind 72"
    ∷ accepted_in 1 (pairs 0x04) 7 (rows_of_pairs 72) (236 ∷ 237 ∷ [])
    ∷ refused_in 2 (pairs 0x04) 9 26
    -- "S's room cases become 24 and 25": 11, with the place 0, and accepted
    ∷ refused_with (take 24 lent) 1 S 11 0
    ∷ refused_with (take 24 lent) 2 S 11 0
    ∷ accepted_with (take 25 lent) 1 S 5 rows_of_s []
    ∷ accepted_with (take 25 lent) 2 S 5 rows_of_s []
    ∷ []
