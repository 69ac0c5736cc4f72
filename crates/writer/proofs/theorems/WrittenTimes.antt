-- Document 02, A12, writing: what is written has no validity that runs backwards. A draft with a notBefore or notAfter that shows no moment over the slice
-- is refused with 12, whatever the rest of it is, a GeneralizedTime before 2050 among them: a batch with the draft's rows would have the same octets
-- there. Assumes nothing.
use Prim.Native.Nat.{ℕ, ◌+◌}
use mathlib.Core.Logic.{◌⊎◌, inl, inr, ⊎_elim}
use mathlib.Core.Path.{◌≡◌, sym, ap, subst, ◌∙◌}
use mathlib.Core.Bool.{true}
use mathlib.Core.List.{List, Memᴰ}
use mathlib.Core.Option.{none, none-ne-some}
use lib.ListN.{take}
use lib.Seq.{slice}
use Rattle.der.specs.meaning.Refusal.{accepted, no_such_batch}
use Rattle.time.specs.meaning.Validity.{shown_moment, forwards}
use Rattle.crmf.specs.meaning.Edition.{Edition}
use Rattle.crmf.specs.meaning.Kinds as kinds
use Rattle.crmf.specs.meaning.Rows.{Row, numbers, batch_rows}
use Rattle.crmf.specs.meaning.Pieces.{Piece}
use Rattle.crmf.specs.meaning.LeftOut.{row_content}
use Rattle.crmf.proofs.Laws.{numbers_once, leaf_octets, piece_among, time_leaf}
use Rattle.editions.proofs.Laws.{times_shown, validities_forwards}
use Rattle.writer.specs.meaning.Draft.{HasRows}
use Rattle.writer.specs.meaning.Writes.{Writes}
use Rattle.writer.proofs.theorems.Demand2.{describes_nothing, written_has_rows}

-- "notAfter isn't earlier than notBefore": in the bytes of an accepted writing
pub written_forwards : {e : ℕ} {draft bytes old : List ℕ} {number place count : ℕ} {new : List ℕ} (w : Writes e draft bytes old number place count new)
    (zero : number ≡ accepted) (r : Row) → Memᴰ r (batch_rows (written_has_rows w zero).batch.batch) → r.kind ≡ kinds.validity
    → forwards (row_content (take count new) r) ≡ true
written_forwards w zero r at kind = validities_forwards (written_has_rows w zero).batch r at kind

pub unshown_refused : {e : ℕ} {draft bytes old : List ℕ} {number place count : ℕ} {new : List ℕ} → Edition e → Writes e draft bytes old number place count new
    → (rs : List Row) → numbers rs ≡ draft → (r : Row) → Memᴰ r rs → (r.kind ≡ kinds.not_before) ⊎ (r.kind ≡ kinds.not_after)
    → shown_moment (slice r.first (r.first + r.whole) bytes) ≡ none → number ≡ no_such_batch
unshown_refused {e} {draft} {bytes} ed w rs is r at kind lacks = (describes_nothing ed w).1 nothing
  where
    nothing : (s : List ℕ) → HasRows e draft bytes s → ⊥
    nothing s h =
        let g = h.batch in
        let own = subst (Memᴰ r) (sym (numbers_once h.rows rs (h.numbered ∙ sym is))) at in
        let (q, there, alike) = piece_among bytes s h.rows (batch_rows g.batch) h.alike r own in
        let same = ap (λ (p : Piece). p.kind) alike in
        let too : (q.kind ≡ kinds.not_before) ⊎ (q.kind ≡ kinds.not_after) = ⊎_elim (λ first. inl (sym same ∙ first)) (λ second. inr (sym same ∙ second)) kind in
        let octets : slice r.first (r.first + r.whole) bytes ≡ slice q.first (q.first + q.whole) s =
        sym (leaf_octets bytes r (time_leaf r.kind kind)) ∙ ap (λ (p : Piece). p.octets) alike ∙ leaf_octets s q (time_leaf q.kind too) in
        let (n, shows) = times_shown g q there too in
        none-ne-some n (sym lacks ∙ ap shown_moment octets ∙ shows)
