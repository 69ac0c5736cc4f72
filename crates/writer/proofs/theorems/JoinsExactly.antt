-- What the code writes around the contents of two batches is their join, and what it answers of it is what the relation of joining says; there is
-- one answer and one output for every input. Assumes nothing.
use Prim.Native.Nat.{ℕ, ◌≤◌, ◌<◌}
use mathlib.Core.Path.{◌≡◌, refl, sym, ap, ap₂, subst, ◌∙◌}
use mathlib.Core.Bool.{Bool, true, false}
use mathlib.Core.List.{List, ◌++◌, flatten}
use lib.Dec.{leb}
use lib.ListN.{length, drop}
use borrow.Author.Tests.{leb-true, leb-false}
use Rattle.der.specs.meaning.Bounds.{longest}
use Rattle.der.specs.meaning.Refusal.{accepted}
use Rattle.der.specs.meaning.Tree.{header}
use Rattle.der.specs.steps.Reading.{reading_at}
use Rattle.crmf.specs.meaning.Lists.{over}
use Rattle.crmf.specs.meaning.Messages.{message_octets}
use Rattle.crmf.proofs.Laws.{flatten_append, batch_octets_parts}
use Rattle.editions.specs.meaning.Answer.{Answer}
use Rattle.editions.proofs.Laws.{content_messages}
use Rattle.editions.specs.meaning.TwoBatches.{Accepted, neither_file}
use Rattle.writer.specs.meaning.Joins.{Joins, join, joined, too_long, no_room, written}
use Rattle.writer.specs.steps.Around.{around, around_answer, around_output}
use Rattle.writer.proofs.theorems.AroundContents.{around_long, around_roomless, around_written}

-- the octets from a batch's content on, as the code finds them
abbrev pub content_of : List ℕ → List ℕ
content_of s = drop (reading_at s 0 (length s)).content s

module _ {e : ℕ} {first second : List ℕ} (one : Accepted e first) (two : Accepted e second) where
  -- the batch around both contents is the join
  pub around_join : around (content_of first) (content_of second) ≡ joined one two
  unfolding join
  around_join =
      let both : content_of first ++ content_of second ≡ flatten (message_octets one.batch.nest ++ message_octets two.batch.nest) =
      ap₂ (λ (l r : List ℕ). l ++ r) (content_messages one.batch) (content_messages two.batch)
      ∙ sym (flatten_append (message_octets one.batch.nest) (message_octets two.batch.nest)) in
      ap (λ (l : List ℕ). header 0x30 l ++ l) both ∙ sym (batch_octets_parts _)

  -- what is answered of it is what the relation says
  pub join_says : (old new : List ℕ) (a : Answer) → a ≡ around_answer (content_of first) (content_of second) old
      → new ≡ around_output (content_of first) (content_of second) old
      → Joins e first second old a.number a.place neither_file a.count new
  join_says old new a answers leaves = by_length (leb (length all) longest) (leb (length all) (length old)) refl refl
    where
      all : List ℕ
      all = around (content_of first) (content_of second)

      Says : Answer → List ℕ → Type 0
      Says b n = Joins e first second old b.number b.place neither_file b.count n

      told : {b : Answer} {n : List ℕ} → (b ≡ around_answer (content_of first) (content_of second) old) × (n ≡ around_output (content_of first) (content_of second) old)
          → Says b n → Says a new
      told {b} {n} (same, also) says = subst (λ (x : Answer). Says x new) (same ∙ sym answers) (subst (Says b) (also ∙ sym leaves) says)

      by_length : (fits room : Bool) → leb (length all) longest ≡ fits → leb (length all) (length old) ≡ room → Says a new
      by_length false room past test =
          let long = leb-false (length all) longest past in
          told (around_long (content_of first) (content_of second) old long) (too_long one two (subst (λ (l : List ℕ). longest < length l) around_join long))
      by_length true false within past =
          let fits = leb-true (length all) longest within in
          let short = leb-false (length all) (length old) past in
          told (around_roomless (content_of first) (content_of second) old fits short)
          (no_room one two (subst (λ (l : List ℕ). length l ≤ longest) around_join fits) (subst (λ (l : List ℕ). length old < length l) around_join short))
      by_length true true within here =
          let fits = leb-true (length all) longest within in
          let room = leb-true (length all) (length old) here in
          told (around_written (content_of first) (content_of second) old fits room)
          (subst (λ (l : List ℕ). Joins e first second old accepted 0 neither_file (length l) (over old 0 l)) (sym around_join)
          (written one two (subst (λ (l : List ℕ). length l ≤ longest) around_join fits) (subst (λ (l : List ℕ). length l ≤ length old) around_join room)))
