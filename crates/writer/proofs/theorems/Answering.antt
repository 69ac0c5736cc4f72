-- The answer of writing and its output, refusal by refusal, and what is lent to find them. Assumes nothing.
use Prim.Native.Nat.{ℕ, ◌≤◌, ◌<◌}
use native.Mathlib.Omega.{arith}
use mathlib.Core.Path.{◌≡◌, refl, sym, ap, subst, ◌∙◌}
use mathlib.Core.Bool.{Bool, true, false, ◌||◌, false≢true}
use mathlib.Core.List.{List}
use lib.Dec.{eqb, leb}
use lib.ListN.{length}
use borrow.Author.Tests.{eqb-true, leb-true, leb-false, le-leb, lt-leb}
use Rattle.der.specs.meaning.Refusal.{no_room_number, no_such_batch, unknown_edition_number}
use Rattle.der.specs.meaning.Bounds.{longest}
use Rattle.crmf.specs.meaning.Edition.{Edition, first_edition, second_edition}
use Rattle.crmf.specs.meaning.Lists.{over}
use Rattle.editions.specs.declared.edition.Edition.{Edition as Given}
use Rattle.editions.specs.declared.edition.Edition.TheVariants.{Rfc2511, Rfc4211}
use Rattle.editions.specs.meaning.Answer.{Answer}
use Rattle.editions.specs.meaning.Edition.{rfc2511, rfc4211}
use Rattle.editions.specs.steps.Results.{edition_number}
use Rattle.editions.specs.steps.Reading.{refusal, accepted}
use Rattle.crmf.specs.steps.recognise.Count.{agreed}
use Rattle.crmf.specs.steps.rows.Agree.{draft_rows}
use Rattle.writer.specs.steps.Writing.{is_known, shaped, candidate, described, delivered_answer, delivered_output, judged_answer, judged_output, write_answer, output_after}
use Rattle.writer.specs.steps.Inner.{sound, Computed}
use Rattle.writer.proofs.theorems.Describing.{by_showing}

-- the test of the computed answer passes exactly for an edition
pub known_passes : {e : ℕ} → Edition e → is_known e ≡ true
known_passes first_edition = refl
known_passes second_edition = refl

pub known_edition : (e : ℕ) → is_known e ≡ true → Edition e
known_edition e = go (eqb e rfc2511) (eqb e rfc4211) refl refl
  where
    go : (a b : Bool) → eqb e rfc2511 ≡ a → eqb e rfc4211 ≡ b → (a || b) ≡ true → Edition e
    go true b one two is = subst Edition (sym (eqb-true e rfc2511 one)) first_edition
    go false true one two is = subst Edition (sym (eqb-true e rfc4211 two)) second_edition
    go false false one two is = absurd (false≢true is)

unknown_fails : (e : ℕ) → (Edition e → ⊥) → is_known e ≡ false
unknown_fails e none = go (is_known e) refl
  where
    go : (b : Bool) → is_known e ≡ b → is_known e ≡ false
    go true is = absurd (none (known_edition e is))
    go false is = is

-- the number of an edition is one
pub edition_is : (k : Given) {n : ℕ} → edition_number k ≡ n → Edition n
edition_is Rfc2511 is = subst Edition is first_edition
edition_is Rfc4211 is = subst Edition is second_edition

module _ (e : ℕ) (draft bytes old : List ℕ) where
  -- a refusal leaves the output
  refused : (a : Answer) → a ≡ write_answer e draft bytes old → eqb a.number 0 ≡ false → Computed e draft bytes old a old
  unfolding output_after
  refused a is other = (is, rw (output_after, ← is, other))

  pub no_edition : (Edition e → ⊥) → (a : Answer) → a ≡ refusal unknown_edition_number 0 → Computed e draft bytes old a old
  unfolding write_answer
  no_edition none a is = refused a (is ∙ sym (rw (write_answer, unknown_fails e none))) (ap (λ (x : Answer). eqb x.number 0) is)

  module _ (known : is_known e ≡ true) where
    pub no_batch : described e draft bytes ≡ false → (a : Answer) → a ≡ refusal no_such_batch 0 → Computed e draft bytes old a old
    unfolding write_answer
    no_batch nothing a is =
        refused a (is ∙ sym (rw (write_answer, known, nothing))) (ap (λ (x : Answer). eqb x.number 0) is)

    module _ (describes : described e draft bytes ≡ true) where
      pub no_room : length old < length (candidate draft bytes) → (a : Answer) → a ≡ refusal no_room_number 0 → Computed e draft bytes old a old
      unfolding write_answer
      no_room short a is =
          refused a (is ∙ sym (rw (write_answer, known, describes, delivered_answer, lt-leb (length (candidate draft bytes)) (length old) short)))
          (ap (λ (x : Answer). eqb x.number 0) is)

      pub writes : length (candidate draft bytes) ≤ length old → (n : ℕ) → n ≡ length (candidate draft bytes) → (new : List ℕ) → new ≡ over old 0 (candidate draft bytes)
          → Computed e draft bytes old (accepted n) new
      unfolding write_answer output_after
      writes room n size new is =
          let answers : write_answer e draft bytes old ≡ accepted (length (candidate draft bytes)) =
          rw (write_answer, known, describes, delivered_answer, le-leb (length (candidate draft bytes)) (length old) room) in
          (ap accepted size ∙ sym answers, is ∙ sym (rw (output_after, answers)))

      -- so the candidate is delivered
      pub delivered : (batch : List ℕ) → batch ≡ candidate draft bytes → (a : Answer) (new : List ℕ) → a ≡ delivered_answer batch old
          → new ≡ delivered_output batch old → Computed e draft bytes old a new
      delivered batch same a new is output = by_room (leb (length batch) (length old)) refl
        where
          by_room : (b : Bool) → leb (length batch) (length old) ≡ b → Computed e draft bytes old a new
          by_room true room =
              let answers : a ≡ accepted (length batch) = is ∙ ap (λ (b : Bool). elim b [ false ↦ refusal no_room_number 0 | true ↦ accepted (length batch) ]) room in
              let after : new ≡ over old 0 batch = output ∙ ap (λ (b : Bool). elim b [ false ↦ old | true ↦ over old 0 batch ]) room in
              let fits = leb-true (length batch) (length old) room in
              subst (λ (x : Answer). Computed e draft bytes old x new) (sym answers)
              (writes (omega (arith, ap length same)) (length batch) (ap length same) new (after ∙ ap (over old 0) same))
          by_room false room =
              let answers : a ≡ refusal no_room_number 0 = is ∙ ap (λ (b : Bool). elim b [ false ↦ refusal no_room_number 0 | true ↦ accepted (length batch) ]) room in
              let after : new ≡ old = output ∙ ap (λ (b : Bool). elim b [ false ↦ old | true ↦ over old 0 batch ]) room in
              let short = leb-false (length batch) (length old) room in
              subst (Computed e draft bytes old a) (sym after) (no_room (omega (arith, ap length same)) a answers)

    -- a candidate of a sound draft that isn't too long is judged
    pub judged : shaped draft ≡ true → sound bytes 0 (draft_rows draft) ≡ true → (batch : List ℕ) → batch ≡ candidate draft bytes
        → length batch ≤ longest → (a : Answer) (new : List ℕ) → a ≡ judged_answer e draft batch old → new ≡ judged_output e draft batch old
        → Computed e draft bytes old a new
    judged shape sounds batch same short a new is output = by_rows (agreed e batch draft false) refl
      where
        by_rows : (b : Bool) → agreed e batch draft false ≡ b → Computed e draft bytes old a new
        by_rows b test = go b test (by_showing e draft bytes shape sounds (le-leb (length (candidate draft bytes)) longest (omega (arith, ap length same))) ∙ ap (λ (l : List ℕ). agreed e l draft false) (sym same) ∙ test)
          where
            go : (b : Bool) → agreed e batch draft false ≡ b → described e draft bytes ≡ b → Computed e draft bytes old a new
            go true agrees describes =
                delivered describes batch same a new (is ∙ ap (λ (b : Bool). elim b [ false ↦ refusal no_such_batch 0 | true ↦ delivered_answer batch old ]) agrees)
                (output ∙ ap (λ (b : Bool). elim b [ false ↦ old | true ↦ delivered_output batch old ]) agrees)
            go false agrees nothing =
                let after : new ≡ old = output ∙ ap (λ (b : Bool). elim b [ false ↦ old | true ↦ delivered_output batch old ]) agrees in
                subst (Computed e draft bytes old a) (sym after)
                (no_batch nothing a (is ∙ ap (λ (b : Bool). elim b [ false ↦ refusal no_such_batch 0 | true ↦ delivered_answer batch old ]) agrees))
