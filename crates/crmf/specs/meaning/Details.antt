-- Request A9's details of a refusal 8: "1 fits no part, 2 part missing, 3 value breaks its rule, 4 control 3's list or D3's location"
-- (SPECIFICATION 3.8). Assumes nothing.
use Rattle.std.specs.Prelude.{ℕ}

abbrev pub fits_no_part : ℕ
fits_no_part = 1

abbrev pub part_missing : ℕ
part_missing = 2

abbrev pub value_broken : ℕ
value_broken = 3

abbrev pub list_or_location : ℕ
list_or_location = 4
