-- What a 2005 template may not carry, by the rows of a batch and its bytes: document 02's A4, SPECIFICATION 3.7. Assumes nothing.
use Rattle.std.specs.Prelude.{ℕ, ◌+◌, ◌≡◌, List, [], ◌∷◌, T}
use Rattle.std.proofs.Math.Seq.{slice}
use Rattle.crmf.specs.meaning.Details.{fits_no_part, value_broken}
use Rattle.crmf.specs.meaning.Kinds as kinds
use Rattle.crmf.specs.meaning.Notation.{among}
use Rattle.crmf.specs.meaning.Rows.{Row}

-- "serialNumber, signingAlg, issuerUID and subjectUID are omitted by the requester"
abbrev pub omitted : List ℕ
omitted = kinds.serial_number ∷ kinds.signing_alg ∷ kinds.issuer_uid ∷ kinds.subject_uid ∷ []

-- the content octets of a row's element
abbrev pub row_content : List ℕ → Row → List ℕ
row_content s r = slice r.content (r.first + r.whole) s

-- A row shows a field of a template that edition 2 doesn't allow, with request A9's detail.
pub data LeftOut (s : List ℕ) (r : Row) : (detail : ℕ) → Type 0 where
  -- "In edition 2 those four now fit no part"
  one_of_four : T (among omitted r.kind) → LeftOut s r fits_no_part
  -- "and any version but 2 breaks its rule"
  other_version : r.kind ≡ kinds.version → (row_content s r ≡ 0x02 ∷ [] → ⊥) → LeftOut s r value_broken
