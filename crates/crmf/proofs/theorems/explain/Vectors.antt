-- Worked examples of the walk, document 01's batches first, computed on the definitions. Assumes nothing.
use Prim.Native.Nat.{ℕ}
use mathlib.Core.Option.{bind}
use mathlib.Core.Path.{◌≡◌, refl}
use mathlib.Core.Bool.{Bool, true}
use mathlib.Core.List.{List, [], ◌∷◌}
use lib.Dec.{eqb}
use Rattle.der.specs.examples.Each.{Each, ◌&◌}
use Rattle.der.specs.meaning.Identifier.{tag_number, constructed, allowed}
use Rattle.der.specs.meaning.Length.{value_from, shortest, long_form, length_of, base256}
use Rattle.der.specs.steps.Header.{sized_by, head_of}
use Rattle.der.specs.meaning.Content.{boolean, integer, last_of, bit_string}
use Rattle.der.specs.steps.Reading.{nothing_at, given, read, tree_of, tree}
use Rattle.crmf.specs.steps.explain.Tally.{Tally}
use Rattle.time.specs.meaning.Calendar.{leap, month_days, days_in, total, days_before_year, days_before_month, is_day, is_real, days_before, seconds, moment}
use Rattle.time.specs.meaning.Time.{digit, pair_at, date_at, century, utc_date, generalized_date, utc_moment, generalized_moment, time_moment}
use Rattle.time.specs.meaning.Validity.{is_short, element_moment, shown_moment, first_element, further_elements, in_order, forwards}
use Rattle.crmf.specs.meaning.Value.{is_empty, is_up_to, number, is_true_octet, is_two, is_shown, keeps}
use Rattle.crmf.specs.meaning.Lists.{same}
use Rattle.crmf.specs.meaning.Value.{type_number, selected}
use Rattle.crmf.specs.meaning.Notation.{Top, among, named, order}
use Rattle.crmf.specs.meaning.Grammar.{content}
use Rattle.crmf.specs.steps.grammar.Lines.{part_size, size, starts_from, start, inside_line, pass_of, form_lines, next_line, way_line, part_lines, container_lines, lines_from, lines}
use Rattle.crmf.specs.steps.explain.Walk.{line, find_line_in, find_line, closed_in, closed, judged, with_form, with_long_id, with_element, walk, Walked, Passed, Broken}

-- A batch, its octets as the digits of a number, and what three walks answer: the one that reads every form, edition 1's and edition 2's.
record Example : Type 0 where
  octets : ℕ
  all : Walked
  one : Walked
  two : Walked

abbrev each : ℕ → Walked → Walked → Walked → Example
each bs a b c = record { octets = bs; all = a; one = b; two = c }

-- the same answer three times
abbrev alike : ℕ → Walked → Example
alike bs a = each bs a a a

-- what was met: the count of rows, and the first form of edition 1 alone and of edition 2 alone
abbrev seen : ℕ → ℕ → ℕ → ℕ → ℕ → Tally
seen n d1 p1 d2 p2 =
    record { count = n; one = record { number = d1; place = p1 }; two = record { number = d2; place = p2 }; long = record { whole = 0; place = 0 } }

-- and with a certReqId of a whole length above 10 at a place
abbrev longer : ℕ → ℕ → Tally → Tally
longer w p s = record { count = s.count; one = s.one; two = s.two; long = record { whole = w; place = p } }

abbrev rows : ℕ → Tally
rows n = seen n 0 0 0 0

-- the three walks answer so
abbrev Walks : Example → Type 0
Walks e =
    let walked : (ℕ → Bool) → Walked = λ R. walk R (rows 0) (start Top) 0 (tree 0 (base256 128 e.octets)) in
    (walked (λ n. true) ≡ e.all) × (walked (eqb 1) ≡ e.one) × (walked (eqb 2) ≡ e.two)

abbrev examples : List Example
examples =
    -- document 01's batches: no message, S, a choice of both editions, pairs of edition 2 and of edition 1
    alike 0x3000 (Broken 0 2 (rows 1))
    ∷ alike 0x3009300730050201003000 (Passed (rows 5))
    ∷ alike 0x300E300C30050201003000A203810100 (Passed (rows 7))
    ∷ each 0x301E301C300502010030003013301106092B06010505070502010C04613F6225 (Passed (seen 7 0 0 2 26)) (Broken 26 1 (rows 6)) (Passed (seen 7 0 0 2 26))
    ∷ each 0x301E301C300502010030003013301106092B06010505070502010404613F6225 (Passed (seen 7 2 26 0 0)) (Passed (seen 7 2 26 0 0)) (Broken 26 1 (rows 6))
    -- no batch: the element fits no part
    ∷ alike 0x3100 (Broken 0 1 (rows 0))
    -- a missing part comes before the element that follows
    ∷ alike 0x3009300530030201000500 (Broken 4 2 (rows 4))
    -- a form of edition 2 alone, and after it a break
    ∷ each 0x300F300D30050201003000A204A3020500 (Broken 15 1 (seen 7 0 0 1 13)) (Broken 13 1 (rows 6)) (Broken 15 1 (seen 7 0 0 1 13))
    -- a needed part is never passed over
    ∷ alike 0x300E300C30050201003000A103030100 (Broken 13 1 (rows 6))
    -- a needed part is missing: the container is the place
    ∷ alike 0x3010300E30050201003000A105300306012A (Broken 11 2 (rows 7))
    -- poposkInput with a single 30: it is the PkMac, and Spki is missing
    ∷ alike 0x301F301D30050201003000A114A00A3008300306012A030100300306012A030100 (Broken 13 2 (rows 7))
    -- control 3, a list with a location beside method 0
    ∷ each 0x3026302430220201003000301B301906092B0601050507050103300C020101300730050201008600 (Passed (seen 7 3 38 0 0)) (Passed (seen 7 3 38 0 0)) (Broken 38 4 (rows 7))
    -- the list beside action 0, judged after its inside
    ∷ each 0x3026302430220201003000301B301906092B0601050507050103300C020100300730050201008600 (Broken 31 4 (seen 7 3 38 0 0)) (Broken 31 4 (seen 7 3 38 0 0)) (Broken 38 4 (rows 7))
    -- the list beside action 0, alone
    ∷ alike 0x30243022302002010030003019301706092B0601050507050103300A02010030053003020101 (Broken 31 4 (rows 7))
    -- a form of edition 2 alone, and after it a message without its certReq
    ∷ each 0x301C301830050201003000300F300D06092B06010505070502010C003000 (Broken 28 2 (seen 8 0 0 2 26)) (Broken 26 1 (rows 6)) (Broken 28 2 (seen 8 0 0 2 26))
    -- forms of both sides
    ∷ each 0x301E301C30050201003000A202A400300F300D06092B06010505070502010400 (Passed (seen 9 2 30 1 13)) (Broken 13 1 (rows 6)) (Broken 30 1 (seen 8 0 0 1 13))
    -- a form of edition 2 alone, after an id of nine octets, which plays no part here
    ∷ each 0x30153013300D02090101010101010101013000A202A400 (Passed (longer 11 6 (seen 7 0 0 1 21))) (Broken 21 1 (longer 11 6 (rows 6))) (Passed (longer 11 6 (seen 7 0 0 1 21)))
    -- a typed item: its value, another value, none, and a third element
    ∷ alike 0x301A301830160201003000300F300D06092B06010505070501010C00 (Passed (rows 7))
    ∷ alike 0x301A301830160201003000300F300D06092B06010505070501010400 (Broken 26 1 (rows 6))
    ∷ alike 0x3018301630140201003000300D300B06092B0601050507050101 (Broken 13 2 (rows 6))
    ∷ alike 0x301C301A301802010030003011300F06092B06010505070501010C000500 (Broken 28 1 (rows 7))
    -- the same type in the other place is unknown, and its value is free
    ∷ alike 0x301A301830050201003000300F300D06092B06010505070501010400 (Passed (rows 7))
    -- a carried certReq
    ∷ alike 0x301F301D300502010030003014301206092B060105050705020230050201003000 (Passed (rows 10))
    -- an Extension with BOOLEAN FF, and with 00
    ∷ alike 0x301530133011020100300CA90A300806012A0101FF0400 (Passed (rows 7))
    ∷ alike 0x301530133011020100300CA90A300806012A0101000400 (Broken 18 3 (rows 7))
    -- subject: A5 around a Name, and A5 as the Name itself
    ∷ alike 0x301730153013020100300EA50C300A3108300606012A0C0141 (Passed (rows 6))
    ∷ alike 0x301530133011020100300CA50A3108300606012A0C0141 (Broken 13 1 (rows 6))
    -- a template without its key's bits
    ∷ alike 0x3010300E300C0201003007A605300306012A (Broken 11 2 (rows 6))
    -- document 02, A4: a version of 0, and of 2; each of the four
    ∷ each 0x300C300A30080201003003800100 (Passed (seen 6 4 11 0 0)) (Passed (seen 6 4 11 0 0)) (Broken 11 3 (rows 5))
    ∷ alike 0x300C300A30080201003003800102 (Passed (rows 6))
    ∷ each 0x300C300A30080201003003810101 (Passed (seen 6 4 11 0 0)) (Passed (seen 6 4 11 0 0)) (Broken 11 1 (rows 5))
    ∷ each 0x300E300C300A0201003005A203060155 (Passed (seen 6 4 11 0 0)) (Passed (seen 6 4 11 0 0)) (Broken 11 1 (rows 5))
    ∷ each 0x300C300A30080201003003870100 (Passed (seen 6 4 11 0 0)) (Passed (seen 6 4 11 0 0)) (Broken 11 1 (rows 5))
    ∷ each 0x300C300A30080201003003880100 (Passed (seen 6 4 11 0 0)) (Passed (seen 6 4 11 0 0)) (Broken 11 1 (rows 5))
    -- a field that breaks edition 1's rule too; edition 2 doesn't enter signingAlg
    ∷ each 0x300D300B3009020100300480020002 (Broken 11 3 (seen 6 4 11 0 0)) (Broken 11 3 (seen 6 4 11 0 0)) (Broken 11 3 (rows 5))
    ∷ each 0x300B3009300702010030028100 (Broken 11 3 (seen 6 4 11 0 0)) (Broken 11 3 (seen 6 4 11 0 0)) (Broken 11 1 (rows 5))
    ∷ each 0x300B300930070201003002A200 (Broken 11 2 (seen 6 4 11 0 0)) (Broken 11 2 (seen 6 4 11 0 0)) (Broken 11 1 (rows 5))
    ∷ each 0x300D300B30090201003004A2020500 (Broken 13 1 (seen 6 4 11 0 0)) (Broken 13 1 (seen 6 4 11 0 0)) (Broken 11 1 (rows 5))
    -- each edition at its own stop: a version after the serialNumber, and D4 beside D1
    ∷ each 0x300F300D300B0201003006810101800102 (Broken 14 1 (seen 6 4 11 0 0)) (Broken 14 1 (seen 6 4 11 0 0)) (Broken 11 1 (rows 5))
    ∷ each 0x3010300E30080201003003800100A202A400 (Passed (seen 8 4 11 1 16)) (Broken 16 1 (seen 7 4 11 0 0)) (Broken 11 3 (rows 5))
    -- in a carried certReq
    ∷ each 0x30223020300502010030003017301506092B060105050705020230080201003003870100 (Passed (seen 11 4 33 0 0)) (Passed (seen 11 4 33 0 0)) (Broken 33 1 (rows 10))
    -- validity without a time
    ∷ alike 0x300B300930070201003002A400 (Broken 11 2 (rows 6))
    -- document 02, A12: 29 February of 2052, 2100 and 2400
    ∷ alike 0x301E301C301A0201003015A413A011180F32303532303232393030303030305A (Passed (rows 7))
    ∷ alike 0x301E301C301A0201003015A413A011180F32313030303232393030303030305A (Broken 15 3 (rows 7))
    ∷ alike 0x301E301C301A0201003015A413A011180F32343030303232393030303030305A (Passed (rows 7))
    -- GeneralizedTime from 2050 on: the last second before it, a year before 1950, the year 0, and the first of 2050
    ∷ alike 0x301E301C301A0201003015A413A011180F32303439313233313233353935395A (Broken 15 3 (rows 7))
    ∷ alike 0x301E301C301A0201003015A413A011180F31393439313233313233353935395A (Broken 15 3 (rows 7))
    ∷ alike 0x301E301C301A0201003015A413A011180F30303030303130313030303030305A (Broken 15 3 (rows 7))
    ∷ alike 0x301E301C301A0201003015A413A011180F32303530303130313030303030305A (Passed (rows 7))
    -- notAfter not earlier than notBefore: 1950 before 2049, the other way round, and equal moments
    ∷ alike 0x302D302B30290201003024A422A00F170D3530303130313030303030305AA10F170D3439313233313233353935395A (Passed (rows 8))
    ∷ alike 0x302D302B30290201003024A422A00F170D3439313233313233353935395AA10F170D3530303130313030303030305A (Broken 11 3 (rows 8))
    ∷ alike 0x302D302B30290201003024A422A00F170D3439313233313233353935395AA10F170D3439313233313233353935395A (Passed (rows 8))
    -- a UTCTime before a GeneralizedTime, and after it; backwards, and then an element that fits no part
    ∷ alike 0x302F302D302B0201003026A424A00F170D3439313233313233353935395AA111180F32303530303130313030303030305A (Passed (rows 8))
    ∷ alike 0x302F302D302B0201003026A424A011180F32303530303130313030303030305AA10F170D3439313233313233353935395A (Broken 11 3 (rows 8))
    ∷ alike 0x302F302D302B0201003026A424A00F170D3439313233313233353935395AA10F170D3530303130313030303030305A0500 (Broken 47 1 (rows 8))
    ∷ []

-- every example is walked as it says
worked : Each Walks examples
unfolding tag_number constructed allowed value_from shortest long_form length_of base256 sized_by head_of
    boolean integer last_of bit_string nothing_at given read tree_of tree
    same is_empty is_up_to number is_true_octet is_two leap month_days days_in total days_before_year days_before_month is_day is_real days_before seconds moment
    digit pair_at date_at century utc_date generalized_date utc_moment generalized_moment time_moment is_short element_moment shown_moment first_element further_elements in_order forwards
    is_shown bind keeps type_number selected among named order content
    part_size size starts_from start inside_line pass_of form_lines next_line way_line part_lines container_lines lines_from lines
    line find_line_in find_line closed_in closed judged with_form with_long_id with_element walk
worked =
    (refl, refl, refl) & (refl, refl, refl) & (refl, refl, refl) & (refl, refl, refl) & (refl, refl, refl) & (refl, refl, refl)
    & (refl, refl, refl) & (refl, refl, refl) & (refl, refl, refl) & (refl, refl, refl) & (refl, refl, refl) & (refl, refl, refl)
    & (refl, refl, refl) & (refl, refl, refl) & (refl, refl, refl) & (refl, refl, refl) & (refl, refl, refl) & (refl, refl, refl)
    & (refl, refl, refl) & (refl, refl, refl) & (refl, refl, refl) & (refl, refl, refl) & (refl, refl, refl) & (refl, refl, refl)
    & (refl, refl, refl) & (refl, refl, refl) & (refl, refl, refl) & (refl, refl, refl) & (refl, refl, refl) & (refl, refl, refl)
    & (refl, refl, refl) & (refl, refl, refl) & (refl, refl, refl) & (refl, refl, refl) & (refl, refl, refl) & (refl, refl, refl)
    & (refl, refl, refl) & (refl, refl, refl) & (refl, refl, refl) & (refl, refl, refl) & (refl, refl, refl) & (refl, refl, refl)
    & (refl, refl, refl) & (refl, refl, refl) & (refl, refl, refl) & (refl, refl, refl) & (refl, refl, refl) & (refl, refl, refl)
    & (refl, refl, refl) & (refl, refl, refl) & (refl, refl, refl) & (refl, refl, refl) & (refl, refl, refl) & (refl, refl, refl)
    & (refl, refl, refl)
    & tt
