-- Refusals worked out by hand from document 01 and request A9: number, place and detail in each edition. Assumes nothing.
use Rattle.std.specs.Prelude.{ℕ, List, [], ◌∷◌}

-- What is answered: the number, the place and the detail.
pub record Refusal : Type 0 where
  pub number : ℕ
  pub place : ℕ
  pub detail : ℕ

-- A batch, its octets as the digits of a number, and its refusals in edition 1 and in edition 2.
pub record Refused : Type 0 where
  pub octets : ℕ
  pub one : Refusal
  pub two : Refusal

abbrev at : ℕ → ℕ → ℕ → Refusal
at n p d = record { number = n; place = p; detail = d }

abbrev each : ℕ → Refusal → Refusal → Refused
each bs a b = record { octets = bs; one = a; two = b }

-- the same refusal in both editions
abbrev alike : ℕ → Refusal → Refused
alike bs a = each bs a a

-- Refusals of the nest and of the grammar.
abbrev pub explained : List Refused
explained =
    -- an empty input, as the number 0: "identifier missing (2)"
    alike 0 (at 2 0 1)
    -- "All length octets have to be there before they are judged": 30 82 00 is cut short, 30 82 00 00 isn't the shortest
    ∷ alike 0x308200 (at 2 0 2)
    ∷ alike 0x30820000 (at 4 0 0)
    -- "30 80", "30 81 00" and 30 FF: "80 and FF are 4"
    ∷ alike 0x3080 (at 4 0 0)
    ∷ alike 0x308100 (at 4 0 0)
    ∷ alike 0x30FF (at 4 0 0)
    -- missing is counted to the parent's end
    ∷ alike 0x300230820080 (at 2 2 2)
    -- "content past the end (2)"
    ∷ alike 0x300430050201 (at 2 2 3)
    -- "1F 00: 3 at 0", and inside a batch
    ∷ alike 0x1F00 (at 3 0 0)
    ∷ alike 0x300430021F00 (at 3 4 0)
    -- the identifier is judged before the length octets: 1F with a length that isn't the shortest
    ∷ alike 0x1F80 (at 3 0 0)
    -- "BOOLEAN one octet, 00 or FF", with the tag number
    ∷ alike 0x30053003010101 (at 5 4 1)
    -- "element deeper than 20": 21 elements, one inside the other
    ∷ alike 0x30283026302430223020301E301C301A30183016301430123010300E300C300A30083006300430023000 (at 6 40 0)
    -- "30 00: 8 at 0", a part missing; a first element other than 30 fits no part
    ∷ alike 0x3000 (at 8 0 2)
    ∷ alike 0x3100 (at 8 0 1)
    ∷ alike 0x020100 (at 8 0 1)
    -- "parts left to right, insides first": the certReq lacks its template before the 05 after it is looked at; an element that fits no part
    -- isn't entered, so edition 1 stops at the choice and edition 2 inside it
    ∷ alike 0x3009300530030201000500 (at 8 4 2)
    ∷ each 0x300F300D30050201003000A204A3020500 (at 8 13 1) (at 8 15 1)
    -- "a needed part never being passed over": signature without its AlgId; with the AlgId alone
    ∷ alike 0x300E300C30050201003000A103030100 (at 8 13 1)
    ∷ alike 0x3010300E30050201003000A1053003060155 (at 8 11 2)
    -- an empty validity lacks a part
    ∷ alike 0x300B300930070201003002A400 (at 8 11 2)
    -- "the list of control 3 beside action 0 (judged after its inside)", which edition 2 stops in; an empty list misses its part
    ∷ each 0x3026302430220201003000301B301906092B0601050507050103300C020100300730050201008600 (at 8 31 4) (at 8 38 4)
    ∷ alike 0x301F301D301B02010030003014301206092B060105050705010330050201003000 (at 8 31 2)
    -- two locations beside method 0: the second fits no part, the first isn't edition 2's
    ∷ each 0x3028302630240201003000301D301B06092B0601050507050103300E0201013009300702010086008600 (at 8 40 1) (at 8 38 4)
    -- 9 needs the whole batch in the other grammar: pairs of edition 2, and a second message that lacks its certReq
    ∷ each 0x301C301830050201003000300F300D06092B06010505070502010C003000 (at 8 26 1) (at 8 28 2)
    -- "A batch using differences of both sides is 8", in each edition at its own stop
    ∷ each 0x301E301C30050201003000A202A400300F300D06092B06010505070502010400 (at 8 13 1) (at 8 30 1)
    -- a choice of edition 2, and an element after it that fits no part
    ∷ each 0x300F300D30050201003000A202A4000500 (at 8 13 1) (at 8 15 1)
    -- document 02, A3: a SET whose members descend, in a free value and in a subject's name; the inner of two; before a fault after the SET
    ∷ alike 0x3017301530130201003000300C300A06015531050500020100 (at 5 18 17)
    ∷ alike 0x301F301D301B0201003016A5143012311030060601550C016230060601550C0161 (at 5 15 17)
    ∷ alike 0x301B3019301702010030003010300E0601553109050031050500020100 (at 5 22 17)
    ∷ alike 0x301B3019301702010030003010300A0601553105050002010030020000 (at 5 18 17)
    -- document 02, A4: a version that isn't the shortest 2, an empty serialNumber, an empty signingAlg and one with NULL inside, which edition 2
    -- doesn't enter; a version after the serialNumber; a version of 0 beside a choice of edition 2
    ∷ alike 0x300D300B3009020100300480020002 (at 8 11 3)
    ∷ each 0x300B3009300702010030028100 (at 8 11 3) (at 8 11 1)
    ∷ each 0x300B300930070201003002A200 (at 8 11 2) (at 8 11 1)
    ∷ each 0x300D300B30090201003004A2020500 (at 8 13 1) (at 8 11 1)
    ∷ each 0x300F300D300B0201003006810101800102 (at 8 14 1) (at 8 11 1)
    ∷ each 0x3010300E30080201003003800100A202A400 (at 8 16 1) (at 8 11 3)
    -- document 02, A12: a GeneralizedTime of the last second of 2049 and of 1949; times that run backwards, in one kind of time and across both;
    -- backwards, and then an element in the validity that fits no part
    ∷ alike 0x301E301C301A0201003015A413A011180F32303439313233313233353935395A (at 8 15 3)
    ∷ alike 0x301E301C301A0201003015A413A011180F31393439313233313233353935395A (at 8 15 3)
    ∷ alike 0x302D302B30290201003024A422A00F170D3439313233313233353935395AA10F170D3530303130313030303030305A (at 8 11 3)
    ∷ alike 0x302F302D302B0201003026A424A011180F32303530303130313030303030305AA10F170D3439313233313233353935395A (at 8 11 3)
    ∷ alike 0x302F302D302B0201003026A424A00F170D3439313233313233353935395AA10F170D3530303130313030303030305A0500 (at 8 47 1)
    ∷ []

-- A batch that edition 1 accepts with a count of rows, and edition 2 with a count, or refuses with 9 at a place.
pub record Answered : Type 0 where
  pub octets : ℕ
  pub rows : ℕ
  pub number : ℕ
  pub place : ℕ
  pub count : ℕ

-- accepted in edition 1 alone: refused with 9 at a place
abbrev first_alone : ℕ → ℕ → ℕ → Answered
first_alone bs n p = record { octets = bs; rows = n; number = 9; place = p; count = 0 }

-- Document 02, A4: what edition 1 accepts of a template.
abbrev pub templates : List Answered
templates =
    -- a version of 0; of 2, which edition 2 accepts too; each of the four
    first_alone 0x300C300A30080201003003800100 6 11
    ∷ record { octets = 0x300C300A30080201003003800102; rows = 6; number = 0; place = 0; count = 6 }
    ∷ first_alone 0x300C300A30080201003003810101 6 11
    ∷ first_alone 0x300E300C300A0201003005A203060155 6 11
    ∷ first_alone 0x300C300A30080201003003870100 6 11
    ∷ first_alone 0x300C300A30080201003003880100 6 11
    -- in a carried certReq
    ∷ first_alone 0x30223020300502010030003017301506092B060105050705020230080201003003870100 11 33
    -- the first of two: a serialNumber after a version of 2, and an issuerUID
    ∷ first_alone 0x30123010300E0201003009800102810101870100 8 14
    ∷ []

-- accepted in both editions with one count of rows
abbrev in_both : ℕ → ℕ → Answered
in_both bs n = record { octets = bs; rows = n; number = 0; place = 0; count = n }

-- Document 02, A12: validities that both editions accept.
abbrev pub validities : List Answered
validities =
    -- the first moment of 1950 and the last of 2049; equal moments; the last of 2049 and the first of 2050
    in_both 0x302D302B30290201003024A422A00F170D3530303130313030303030305AA10F170D3439313233313233353935395A 8
    ∷ in_both 0x302D302B30290201003024A422A00F170D3439313233313233353935395AA10F170D3439313233313233353935395A 8
    ∷ in_both 0x302F302D302B0201003026A424A00F170D3439313233313233353935395AA111180F32303530303130313030303030305A 8
    -- the last second of 9999 alone
    ∷ in_both 0x301E301C301A0201003015A413A111180F39393939313233313233353935395A 7
    ∷ []

-- Other refusals, by number and place; the detail is 0.
abbrev pub told : List Refused
told =
    -- "7 stands before 8", at the first byte after the first element; "S and 00: 7 at 11"
    alike 0x300000 (at 7 2 0)
    ∷ alike 0x050000 (at 7 2 0)
    ∷ alike 0x300930073005020100300000 (at 7 11 0)
    -- "9 before 10": a certReqId of 9 octets beside a choice of edition 2
    ∷ each 0x30153013300D02090101010101010101013000A202A400 (at 9 21 0) (at 10 6 0)
    -- the same with a version of 0, which edition 1 alone allows
    ∷ each 0x30143012301002090101010101010101013003800100 (at 10 6 0) (at 9 19 0)
    -- the first of two long certReqIds
    ∷ alike 0x3022300F300D02090101010101010101013000300F300D02090101010101010101013000 (at 10 6 0)
    ∷ []
