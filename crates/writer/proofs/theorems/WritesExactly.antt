-- What the relation of writing says is what is computed, and there is one answer and one output for every input. Assumes nothing.
use Prim.Native.Nat.{ℕ}
use native.Mathlib.Omega.{arith}
use mathlib.Core.Logic.{◌↔◌}
use mathlib.Core.Path.{◌≡◌, refl, sym, ap, subst, ◌∙◌}
use mathlib.Core.Bool.{Bool, true, false}
use mathlib.Core.List.{List}
use lib.Dec.{leb}
use lib.ListN.{length}
use borrow.Author.Tests.{leb-true, leb-false}
use Rattle.der.specs.meaning.Octets.{Octets}
use Rattle.der.specs.meaning.Refusal.{no_room_number, no_such_batch, unknown_edition_number}
use Rattle.crmf.specs.meaning.Lists.{over}
use Rattle.editions.specs.meaning.Answer.{Answer}
use Rattle.editions.specs.steps.Reading.{refusal, accepted}
use Rattle.writer.specs.meaning.Draft.{HasRows}
use Rattle.writer.specs.meaning.Writes.{Writes, unknown_edition, no_batch, no_room, written}
use Rattle.writer.specs.steps.Writing.{is_known, candidate, described, write_answer, output_after}
use Rattle.writer.specs.steps.Inner.{Computed}
use Rattle.writer.proofs.theorems.Answering as computed
use Rattle.writer.proofs.theorems.Described.{has_candidate, has_described, described_has}

true_false : {b : Bool} → b ≡ false → b ≡ true → ⊥
true_false off on = let z : ◌≡◌ {A = ℕ} 0 1 = cc in omega arith

module _ (e : ℕ) (draft bytes old : List ℕ) (octets : Octets bytes) where
  -- if no batch has the draft's rows, it isn't described
  nothing_described : ((s : List ℕ) → HasRows e draft bytes s → ⊥) → described e draft bytes ≡ false
  nothing_described none = go (described e draft bytes) refl
    where
      go : (b : Bool) → described e draft bytes ≡ b → b ≡ false
      go true is = absurd (none (candidate draft bytes) (described_has e draft bytes octets is))
      go false is = refl

  -- what the relation says is computed
  says : {number place count : ℕ} {new : List ℕ} → Writes e draft bytes old number place count new
      → Computed e draft bytes old (record { number = number; place = place; count = count }) new
  says (unknown_edition none) = computed.no_edition e draft bytes old none (refusal unknown_edition_number 0) refl
  says (no_batch ed none) = computed.no_batch e draft bytes old (computed.known_passes ed) (nothing_described none) (refusal no_such_batch 0) refl
  says (no_room ed s h short) =
      computed.no_room e draft bytes old (computed.known_passes ed) (has_described ed draft bytes s h)
      (omega (arith, ap length (has_candidate ed draft bytes s h))) (refusal no_room_number 0) refl
  says (written ed s h room) =
      let same = has_candidate ed draft bytes s h in
      computed.writes e draft bytes old (computed.known_passes ed) (has_described ed draft bytes s h)
      (omega (arith, ap length same)) (length s) (ap length (sym same)) (over old 0 s) (ap (over old 0) (sym same))

  -- the relation holds of some answer and output
  some_writes : (a : Answer) × ((new : List ℕ) × Writes e draft bytes old a.number a.place a.count new)
  some_writes = go (is_known e) (described e draft bytes) (leb (length (candidate draft bytes)) (length old)) refl refl refl
    where
      go : (known d fits : Bool) → is_known e ≡ known → described e draft bytes ≡ d → leb (length (candidate draft bytes)) (length old) ≡ fits
          → (a : Answer) × ((new : List ℕ) × Writes e draft bytes old a.number a.place a.count new)
      go false d fits other is size = (refusal unknown_edition_number 0, (old, unknown_edition (λ ed. true_false other (computed.known_passes ed))))
      go true false fits known is size =
          let ed = computed.known_edition e known in
          (refusal no_such_batch 0, (old, no_batch ed (λ s h. true_false is (has_described ed draft bytes s h))))
      go true true false known is size =
          (refusal no_room_number 0, (old, no_room (computed.known_edition e known) (candidate draft bytes) (described_has e draft bytes octets is) (leb-false _ _ size)))
      go true true true known is size =
          (accepted (length (candidate draft bytes)), (over old 0 (candidate draft bytes), written (computed.known_edition e known) (candidate draft bytes) (described_has e draft bytes octets is) (leb-true _ _ size)))

  -- the relation says exactly what is computed
  pub writes_exactly : (a : Answer) (new : List ℕ) → Writes e draft bytes old a.number a.place a.count new
      ↔ ((a ≡ write_answer e draft bytes old) × (new ≡ output_after e draft bytes old))
  writes_exactly a new = (says, λ (answers, leaves). from some_writes answers leaves)
    where
      from : (b : Answer) × ((other : List ℕ) × Writes e draft bytes old b.number b.place b.count other)
          → a ≡ write_answer e draft bytes old → new ≡ output_after e draft bytes old → Writes e draft bytes old a.number a.place a.count new
      from (b, (other, w)) answers leaves =
          let (first, last) = says w in
          subst (λ (x : Answer). Writes e draft bytes old x.number x.place x.count new) (first ∙ sym answers)
          (subst (Writes e draft bytes old b.number b.place b.count) (last ∙ sym leaves) w)

  -- so there is one answer, and one output afterwards
  pub writes_once : (a b : Answer) (new other : List ℕ) → Writes e draft bytes old a.number a.place a.count new
      → Writes e draft bytes old b.number b.place b.count other → (a ≡ b) × (new ≡ other)
  writes_once a b new other w v =
      let (answers, leaves) = says w in
      let (also, same) = says v in
      (answers ∙ sym also, leaves ∙ sym same)
