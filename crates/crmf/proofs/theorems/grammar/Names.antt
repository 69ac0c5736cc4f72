-- Each name stands at its place in the list of the names, so a test that passes along the list passes at each name. Assumes nothing.
use Prim.Native.Nat.{ℕ}
use native.Mathlib.Omega.{arith}
use mathlib.Core.Path.{◌≡◌, refl}
use mathlib.Core.Bool.{Bool, true}
use mathlib.Core.Option.{Option, some}
use lib.ListN.{get_elem?}
use Rattle.crmf.specs.meaning.Notation.{Name, names, order}
use Rattle.crmf.specs.meaning.Notation.{Top, Batch, Message, CertReq, Template, Validity, Time, AlgId, Spki, OneName, RdnSequence, Rdn, Attribute, Extensions, Extension}
use Rattle.crmf.specs.meaning.Notation.{Signature, PoposkInput, Sender, PkMac, KeyProof}
use Rattle.crmf.specs.meaning.Notation.{Controls, Control, UnknownControl, RegToken, Authenticator, PublicationInfo, ArchiveOptions, OldCertId, ProtocolKey}
use Rattle.crmf.specs.meaning.Notation.{PubInfo, NotPublished, Published, Locations, Location, DontCare, Where, Archived, CertId}
use Rattle.crmf.specs.meaning.Notation.{RegInfo, Info, UnknownInfo, Pairs, Carried}
use Rattle.crmf.proofs.theorems.lists.Tests.{all, all_get_elem}

-- each name stands at its place
pub in_order : (n : Name) → get_elem? names (order n) ≡ some n
unfolding order
in_order = elim [ Top ↦ refl | Batch ↦ refl | Message ↦ refl | CertReq ↦ refl | Template ↦ refl | Validity ↦ refl | Time ↦ refl | AlgId ↦ refl | Spki ↦ refl | OneName ↦ refl | RdnSequence ↦ refl | Rdn ↦ refl | Attribute ↦ refl | Extensions ↦ refl | Extension ↦ refl | Signature ↦ refl | PoposkInput ↦ refl | Sender ↦ refl | PkMac ↦ refl | KeyProof ↦ refl | Controls ↦ refl | Control ↦ refl | UnknownControl ↦ refl | RegToken ↦ refl | Authenticator ↦ refl | PublicationInfo ↦ refl | ArchiveOptions ↦ refl | OldCertId ↦ refl | ProtocolKey ↦ refl | PubInfo ↦ refl | NotPublished ↦ refl | Published ↦ refl | Locations ↦ refl | Location ↦ refl | DontCare ↦ refl | Where ↦ refl | Archived ↦ refl | CertId ↦ refl | RegInfo ↦ refl | Info ↦ refl | UnknownInfo ↦ refl | Pairs ↦ refl | Carried ↦ refl ]

-- nothing stands at a place of the empty list
pub not_there : {A B : Type 0} {a : A} → Option.none ≡ some a → B
not_there same = let z : ◌≡◌ {A = ℕ} 0 1 = cc in absurd (omega arith)

-- A test that passes at all the names of the list passes at each name.
pub at_each : (f : Name → Bool) → all f names ≡ true → (n : Name) → f n ≡ true
at_each f passed n = all_get_elem f n names passed (order n) (in_order n)
