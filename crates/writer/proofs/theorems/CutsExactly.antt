-- What the code writes around a message's octets is the cut, which is never longer than the batch, and what it answers of it is what the
-- relation of cutting says. Assumes nothing.
use Prim.Native.Nat.{ℕ, ◌≤◌, ◌<◌}
use native.Mathlib.Nat.{le_trans}
use mathlib.Core.Path.{◌≡◌, refl, sym, ap, subst, ◌∙◌}
use mathlib.Core.Bool.{Bool, true, false}
use mathlib.Core.List.Memᴰ
use mathlib.Core.List.{List, [], ◌∷◌, ◌++◌, map, map-append, flatten, Memᴰ}
use mathlib.Core.Option.{some}
use lib.Dec.{leb}
use lib.ListN.{length, get_elem?}
use borrow.Author.Tests.{leb-true, leb-false}
use Rattle.der.specs.meaning.Bounds.{longest}
use Rattle.der.specs.meaning.Refusal.{accepted}
use Rattle.crmf.specs.meaning.Fields.{octets}
use Rattle.crmf.specs.meaning.Lists.{over}
use Rattle.crmf.specs.meaning.Messages.{Message, messages, message_octets, batch_octets}
use Rattle.crmf.proofs.Laws.{batch_octets_parts, batch_octets_left, batch_octets_right, messages_octets, at_position}
use Rattle.editions.specs.meaning.Answer.{Answer}
use Rattle.editions.specs.meaning.Membership.{InGrammar}
use Rattle.editions.proofs.Laws.{grammar_octets}
use Rattle.editions.specs.meaning.TwoBatches.{Accepted}
use Rattle.writer.specs.meaning.Cuts.{Cuts, cut, no_room, written}
use Rattle.writer.specs.steps.Around.{around, around_answer, around_output}
use Rattle.writer.proofs.theorems.AroundContents.{around_roomless, around_written}

-- The entries of a list before one of them, and those after it.
record Between {A : Type 0} (l : List A) (a : A) : Type 0 where
  front : List A
  back : List A
  whole : l ≡ front ++ (a ∷ back)

between : {A : Type 0} (l : List A) (a : A) → Memᴰ a l → Between l a
between [] a n = absurd (Memᴰ.not-nil n)
between (x ∷ l) a (Memᴰ.head e) = record { front = []; back = l; whole = ap (λ y. y ∷ l) (sym e) }
between (x ∷ l) a (Memᴰ.tail n) =
    let b = between l a n in
    record { front = x ∷ b.front; back = b.back; whole = ap (λ k. x ∷ k) b.whole }

-- A cut is no longer than the batch.
pub cut_fits : {e : ℕ} {s : List ℕ} (g : InGrammar e s) (m : Message) → Memᴰ m (messages g.nest) → length (cut m) ≤ length s
unfolding cut
cut_fits {s = s} g m there =
    let b = between (messages g.nest) m there in
    let of : Message → List ℕ = λ x. octets x.own in
    let before = map of b.front in
    let after = map of b.back in
    let all : message_octets g.nest ≡ before ++ (octets m.own ∷ after) =
    messages_octets g.nest ∙ ap (map of) b.whole ∙ map-append of b.front (m ∷ b.back) in
    let whole : batch_octets (before ++ (octets m.own ∷ after)) ≡ s = sym (ap batch_octets all) ∙ grammar_octets g in
    le_trans (batch_octets_left (octets m.own ∷ []) after)
    (subst (λ (l : List ℕ). length (batch_octets (octets m.own ∷ after)) ≤ length l) whole (batch_octets_right before (octets m.own ∷ after)))

module _ {e : ℕ} {s : List ℕ} (a : Accepted e s) (n : ℕ) (m : Message) (there : get_elem? (messages a.batch.nest) n ≡ some m) where
  -- the batch around the message is the cut
  pub around_cut : around (octets m.own) [] ≡ cut m
  unfolding cut flatten
  around_cut = sym (batch_octets_parts (octets m.own ∷ []))

  -- what is answered of it is what the relation says
  pub cut_says : (old new : List ℕ) (r : Answer) → r ≡ around_answer (octets m.own) [] old → new ≡ around_output (octets m.own) [] old
      → Cuts e s n old r.number r.place r.count new
  cut_says old new r answers leaves = by_room (leb (length all) (length old)) refl
    where
      all : List ℕ
      all = around (octets m.own) []

      fits : length all ≤ longest
      fits = subst (λ (l : List ℕ). length l ≤ longest) (sym around_cut) (le_trans (cut_fits a.batch m (at_position (messages a.batch.nest) n m there)) a.batch.short)

      Says : Answer → List ℕ → Type 0
      Says x k = Cuts e s n old x.number x.place x.count k

      told : {x : Answer} {k : List ℕ} → (x ≡ around_answer (octets m.own) [] old) × (k ≡ around_output (octets m.own) [] old) → Says x k → Says r new
      told {x} {k} (same, also) says = subst (λ (y : Answer). Says y new) (same ∙ sym answers) (subst (Says x) (also ∙ sym leaves) says)

      by_room : (room : Bool) → leb (length all) (length old) ≡ room → Says r new
      by_room false past =
          let short = leb-false (length all) (length old) past in
          told (around_roomless (octets m.own) [] old fits short) (no_room a m there (subst (λ (l : List ℕ). length old < length l) around_cut short))
      by_room true here =
          let room = leb-true (length all) (length old) here in
          told (around_written (octets m.own) [] old fits room)
          (subst (λ (l : List ℕ). Cuts e s n old accepted 0 (length l) (over old 0 l)) (sym around_cut)
          (written a m there (subst (λ (l : List ℕ). length l ≤ length old) around_cut room)))
