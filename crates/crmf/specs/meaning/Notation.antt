-- The notation of the grammar: forms of elements, parts of a container, and the inside of an element (SPECIFICATION 3.1). Assumes nothing.
use Rattle.std.specs.Prelude.{ℕ, Bool, true, false, ◌||◌, List, [], ◌∷◌, eqb}
use Rattle.crmf.specs.meaning.Kinds as kinds
use Rattle.crmf.specs.meaning.Details.{fits_no_part}
use Rattle.crmf.specs.meaning.Value.{Rule, always, Selector, is_two}

-- Which identifiers a form has.
pub data Identifiers : Type 0 where
  octet : ℕ → Identifiers
  -- "GeneralName: A0 81 82 A3 A4 A5 86 87 88"
  general_name : Identifiers
  -- "any"
  anything : Identifiers
  -- none: at a container's end
  nothing : Identifiers

-- whether an octet is in a list
unfoldable pub among : List ℕ → ℕ → Bool
among [] id = false
among (a ∷ more) id = eqb id a || among more id

-- the identifiers of a GeneralName (SPECIFICATION 3.2)
abbrev pub general_names : List ℕ
general_names = 0xA0 ∷ 0x81 ∷ 0x82 ∷ 0xA3 ∷ 0xA4 ∷ 0xA5 ∷ 0x86 ∷ 0x87 ∷ 0x88 ∷ []

-- whether an octet is one of the identifiers
unfoldable pub named : Identifiers → ℕ → Bool
named (octet a) id = eqb id a
named general_name id = among general_names id
named anything id = true
named nothing id = false

-- Which editions allow an element in a form: both, or one alone, with the number of the difference (SPECIFICATION 3.7) and the detail in the other edition.
pub data Mark : Type 0 where
  both : Mark
  alone : (edition difference detail : ℕ) → Mark

-- the detail of an element that may not be read; it is never asked of one that both editions allow
abbrev pub detail_of : Mark → ℕ
detail_of both = fits_no_part
detail_of (alone e d detail) = detail

-- How the elements in a form are marked: whatever their value is, or unless it is 2.
pub data Marking : Type 0 where
  whatever unless_two : Mark → Marking

-- the mark of an element in a form, by its content octets
abbrev pub mark_of : Marking → List ℕ → Mark
mark_of (whatever m) c = m
mark_of (unless_two m) c = elim (is_two c) [ true ↦ both | false ↦ m ]

-- The containers of the grammar, by the names of what they hold. Grammar.antt has their ASN.1 types.
pub data Name : Type 0 where
  Top Batch Message CertReq Template Validity Time AlgId Spki OneName RdnSequence Rdn Attribute Extensions Extension : Name
  Signature PoposkInput Sender PkMac KeyProof : Name
  Controls Control UnknownControl RegToken Authenticator PublicationInfo ArchiveOptions OldCertId ProtocolKey : Name
  PubInfo NotPublished Published Locations Location DontCare Where Archived CertId : Name
  RegInfo Info UnknownInfo Pairs Carried : Name

-- all of them, in the order of their lines
abbrev pub names : List Name
names =
    Top ∷ Batch ∷ Message ∷ CertReq ∷ Template ∷ Validity ∷ Time ∷ AlgId ∷ Spki ∷ OneName ∷ RdnSequence ∷ Rdn ∷ Attribute ∷ Extensions ∷ Extension ∷ Signature ∷ PoposkInput ∷ Sender ∷ PkMac ∷ KeyProof ∷ Controls ∷ Control ∷ UnknownControl ∷ RegToken ∷ Authenticator ∷ PublicationInfo ∷ ArchiveOptions ∷ OldCertId ∷ ProtocolKey ∷ PubInfo ∷ NotPublished ∷ Published ∷ Locations ∷ Location ∷ DontCare ∷ Where ∷ Archived ∷ CertId ∷ RegInfo ∷ Info ∷ UnknownInfo ∷ Pairs ∷ Carried ∷ []

-- a name's place in that order
unfoldable pub order : Name → ℕ
order Top = 0
order Batch = 1
order Message = 2
order CertReq = 3
order Template = 4
order Validity = 5
order Time = 6
order AlgId = 7
order Spki = 8
order OneName = 9
order RdnSequence = 10
order Rdn = 11
order Attribute = 12
order Extensions = 13
order Extension = 14
order Signature = 15
order PoposkInput = 16
order Sender = 17
order PkMac = 18
order KeyProof = 19
order Controls = 20
order Control = 21
order UnknownControl = 22
order RegToken = 23
order Authenticator = 24
order PublicationInfo = 25
order ArchiveOptions = 26
order OldCertId = 27
order ProtocolKey = 28
order PubInfo = 29
order NotPublished = 30
order Published = 31
order Locations = 32
order Location = 33
order DontCare = 34
order Where = 35
order Archived = 36
order CertId = 37
order RegInfo = 38
order Info = 39
order UnknownInfo = 40
order Pairs = 41
order Carried = 42

-- The inside of an element: free, which "isn't looked at", or the parts of a container.
pub data Inside : Type 0 where
  free : Inside
  holds : Name → Inside

-- A form of an element: its identifiers, its inside, the rule of its value, the kind of its row, the kind of the row that it gives the element
-- around it, and how its elements are marked.
pub record Form : Type 0 where
  pub identifiers : Identifiers
  pub inside : Inside
  pub rule : Rule
  pub kind : ℕ
  pub item : ℕ
  pub marking : Marking

-- How often a part occurs: once, `?` or `*`. A `+` is two parts: one that occurs once, and one that occurs any number of times.
pub data Occurs : Type 0 where
  once optional repeated : Occurs

-- A part of a container: one of some forms, and how often it occurs.
pub data Part : Type 0 where
  part : Occurs → List Form → Part

-- What a container holds, part by part: no more; a part and then further ones; or an element whose value selects the container whose parts
-- come after it. No other part can stand after such an element.
infixr 67 ◌then◌
pub data Parts : Type 0 where
  done : Parts
  ◌then◌ : Part → Parts → Parts
  select : ℕ → Selector → List Name → Parts

-- forms: an element with one identifier and a free inside; with a container's parts inside; with a rule for its value
abbrev pub plain : ℕ → Form
plain id = record { identifiers = octet id; inside = free; rule = always; kind = kinds.none; item = kinds.none; marking = whatever both }

abbrev pub holding : ℕ → Name → Form
holding id name = record { identifiers = octet id; inside = holds name; rule = always; kind = kinds.none; item = kinds.none; marking = whatever both }

abbrev pub ruled : Rule → Form → Form
ruled r f =
    record { identifiers = f.identifiers; inside = f.inside; rule = r; kind = f.kind; item = f.item; marking = f.marking }

-- forms: a GeneralName, and "any"
abbrev pub a_general_name : Form
a_general_name = record { identifiers = general_name; inside = free; rule = always; kind = kinds.none; item = kinds.none; marking = whatever both }

abbrev pub a_value : Form
a_value = record { identifiers = anything; inside = free; rule = always; kind = kinds.none; item = kinds.none; marking = whatever both }

-- a form with a row of a kind; with a row of a kind for the element around it; allowed by one edition alone
abbrev pub row : ℕ → Form → Form
row k f = record { identifiers = f.identifiers; inside = f.inside; rule = f.rule; kind = k; item = f.item; marking = f.marking }

abbrev pub item_row : ℕ → Form → Form
item_row k f = record { identifiers = f.identifiers; inside = f.inside; rule = f.rule; kind = f.kind; item = k; marking = f.marking }

abbrev pub only : (edition difference detail : ℕ) → Form → Form
only e d detail f = record { identifiers = f.identifiers; inside = f.inside; rule = f.rule; kind = f.kind; item = f.item; marking = whatever (alone e d detail) }

-- the same unless the element's value is 2
abbrev pub only_unless_two : (edition difference detail : ℕ) → Form → Form
only_unless_two e d detail f =
    record { identifiers = f.identifiers; inside = f.inside; rule = f.rule; kind = f.kind; item = f.item; marking = unless_two (alone e d detail) }

-- parts: a form, a form `?`, a form `*`, one of some forms, one of some forms `?`
abbrev pub one : Form → Part
one f = part once (f ∷ [])

abbrev pub maybe : Form → Part
maybe f = part optional (f ∷ [])

abbrev pub any : Form → Part
any f = part repeated (f ∷ [])

abbrev pub one_of : List Form → Part
one_of fs = part once fs

abbrev pub maybe_one_of : List Form → Part
maybe_one_of fs = part optional fs

-- the parts of a form `+`
abbrev pub plus : Form → Parts
plus f = one f then any f then done
