-- A join is shorter than the two batches together, since one header takes the place of two: so their lengths together are always room enough.
-- Assumes nothing.
use Prim.Native.Nat.{ℕ, ◌+◌, ◌≤◌, ◌<◌}
use native.Mathlib.Omega.{arith}
use mathlib.Core.Path.{◌≡◌, refl, sym, ap, ap₂, ◌∙◌}
use mathlib.Core.Bool.{Bool, true, false}
use mathlib.Core.List.{List, flatten}
use lib.Dec.{ltb}
use lib.ListN.{length, length-append}
use borrow.Author.Tests.{ltb-true, ltb-false}
use Rattle.der.specs.meaning.Bounds.{longest}
use Rattle.der.specs.meaning.Length.{length_octets}
use Rattle.der.proofs.Laws.{header_octets, length_some, shortest_small, shortest_one, shortest_two}
use Rattle.crmf.specs.meaning.Messages.{batch, message_octets}
use Rattle.crmf.proofs.Laws.{batch_length, content_octets, flatten_append}
use Rattle.editions.specs.meaning.Membership.{InGrammar}
use Rattle.editions.proofs.Laws.{grammar_tree}
use Rattle.editions.specs.meaning.TwoBatches.{Accepted}
use Rattle.writer.specs.meaning.Joins.{joined}
use Rattle.writer.proofs.theorems.Joining.{join_within, join_octets}

-- how many length octets a content has
octets_for : ℕ → ℕ
octets_for n = length (length_octets n)

-- at most two below 256, at least two from 128 on, and never more than three
octets_sizes : (n : ℕ) → n ≤ longest → (n < 256 → octets_for n ≤ 2) × (128 ≤ n → 2 ≤ octets_for n) × (octets_for n ≤ 3)
unfolding octets_for
octets_sizes n short = go (ltb n 128) (ltb n 256) refl refl
  where
    go : (x y : Bool) → ltb n 128 ≡ x → ltb n 256 ≡ y → (n < 256 → octets_for n ≤ 2) × (128 ≤ n → 2 ≤ octets_for n) × (octets_for n ≤ 3)
    go true y low test =
        let below = ltb-true n 128 low in
        let size = ap length (shortest_small n below) in
        (λ h. omega arith, λ h. omega arith, omega arith)
    go false true low test =
        let size = ap length (shortest_one n (ltb-false n 128 low) (ltb-true n 256 test)) in
        (λ h. omega arith, λ h. omega arith, omega arith)
    go false false low test =
        let above = ltb-false n 256 test in
        let size = ap length (shortest_two n above short) in
        (λ h. omega arith, λ h. omega arith, omega arith)

-- two contents have no fewer length octets than both together
octets_together : (m n : ℕ) → m + n ≤ longest → octets_for (m + n) ≤ octets_for m + octets_for n
unfolding octets_for
octets_together m n short = go (ltb (m + n) 256) (ltb m 128) refl refl
  where
    go : (x y : Bool) → ltb (m + n) 256 ≡ x → ltb m 128 ≡ y → octets_for (m + n) ≤ octets_for m + octets_for n
    go true y few test = omega (arith, (octets_sizes (m + n) short).0 (ltb-true (m + n) 256 few), length_some m, length_some n)
    go false true many low =
        omega (arith, (octets_sizes (m + n) short).2, (octets_sizes n (omega arith)).1 (omega (arith, ltb-false (m + n) 256 many, ltb-true m 128 low)), length_some m)
    go false false many high =
        omega (arith, (octets_sizes (m + n) short).2, (octets_sizes m (omega arith)).1 (ltb-false m 128 high), length_some n)

-- the length of a batch, by the length of its content
batch_size : {e : ℕ} {s : List ℕ} (g : InGrammar e s) → length s ≡ 1 + octets_for (length (batch g.nest).content) + length (batch g.nest).content
unfolding octets_for
batch_size g = omega (arith, ap length g.encoded, batch_length (grammar_tree g), ap length (header_octets 0x30 (batch g.nest).content))

-- A join is shorter than the two batches together.
pub join_shorter : {e : ℕ} {first second : List ℕ} (one : Accepted e first) (two : Accepted e second) → length (joined one two) ≤ longest
    → length (joined one two) < length first + length second
join_shorter one two fits =
    let g = join_within one two fits in
    let c = (batch one.batch.nest).content in
    let d = (batch two.batch.nest).content in
    let all = (batch g.nest).content in
    let size : length all ≡ length c + length d =
    ap length (content_octets (grammar_tree g) ∙ ap flatten (join_octets one two g) ∙ flatten_append (message_octets one.batch.nest) (message_octets two.batch.nest))
    ∙ length-append (flatten (message_octets one.batch.nest)) (flatten (message_octets two.batch.nest))
    ∙ ap₂ (λ (i j : ℕ). i + j) (ap length (sym (content_octets (grammar_tree one.batch)))) (ap length (sym (content_octets (grammar_tree two.batch)))) in
    let octets = ap octets_for size in
    omega (arith, batch_size one.batch, batch_size two.batch, batch_size g, octets_together (length c) (length d) (omega (arith, batch_size g)), octets)
