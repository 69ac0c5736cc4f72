-- Document 02, A12, in bytes of a grammar: notBefore and notAfter show moments, through 2049 in UTCTime and later ones in GeneralizedTime, and no
-- validity runs backwards. Assumes nothing.
use Prim.Native.Nat.{ℕ, ◌+◌, ◌≤◌, ◌<◌}
use mathlib.Core.Logic.{◌⊎◌}
use mathlib.Core.Path.{◌≡◌}
use mathlib.Core.Bool.{true}
use mathlib.Core.List.{List, Memᴰ}
use mathlib.Core.Option.{some}
use lib.ListN.{get_or, drop}
use lib.Seq.{slice}
use Rattle.der.specs.meaning.Bounds.{depth}
use Rattle.time.specs.meaning.Validity.{shown_moment, forwards}
use Rattle.time.proofs.Laws.{shown_kind}
use Rattle.crmf.specs.meaning.Kinds as kinds
use Rattle.crmf.specs.meaning.Rows.{Row, batch_rows}
use Rattle.crmf.specs.meaning.LeftOut.{row_content}
use Rattle.crmf.proofs.Laws as crmf
use Rattle.editions.specs.meaning.Membership.{InGrammar}

-- the octets of a row's element
abbrev octets_of : List ℕ → Row → List ℕ
octets_of s r = slice r.first (r.first + r.whole) s

-- "it shall give the moment": each row of notBefore or notAfter shows one.
pub times_shown : {e : ℕ} {s : List ℕ} (g : InGrammar e s) (r : Row) → Memᴰ r (batch_rows g.batch) → (r.kind ≡ kinds.not_before) ⊎ (r.kind ≡ kinds.not_after)
    → (n : ℕ) × (shown_moment (octets_of s r) ≡ some n)
times_shown {s = s} g r at kind = crmf.times_shown g.batch depth g.formed s g.encoded r at kind

-- "days through 2049 stand as UTCTime and later ones as GeneralizedTime (RFC 5280; none before 1950)": the Time's identifier, the third octet, is 17
-- for moments from 1950-01-01 on and before 2050-01-01, and 18 for later ones.
pub times_stand : {e : ℕ} {s : List ℕ} (g : InGrammar e s) (r : Row) → Memᴰ r (batch_rows g.batch) → (r.kind ≡ kinds.not_before) ⊎ (r.kind ≡ kinds.not_after)
    → (n : ℕ)
    × (shown_moment (octets_of s r) ≡ some n)
    × (((get_or (drop 2 (octets_of s r)) 0 0 ≡ 0x17) × (61_536_067_200 ≤ n) × (n < 64_691_827_200))
    ⊎ ((get_or (drop 2 (octets_of s r)) 0 0 ≡ 0x18) × (64_691_827_200 ≤ n) × (n ≤ 315_569_519_999)))
times_stand {s = s} g r at kind = let (n, shows) = times_shown g r at kind in (n, shows, shown_kind (octets_of s r) n shows)

-- "notAfter isn't earlier than notBefore": no row of a validity runs backwards.
pub validities_forwards : {e : ℕ} {s : List ℕ} (g : InGrammar e s) (r : Row) → Memᴰ r (batch_rows g.batch) → r.kind ≡ kinds.validity → forwards (row_content s r) ≡ true
validities_forwards {s = s} g r at kind = crmf.validities_forwards g.batch depth g.formed s g.encoded r at kind
