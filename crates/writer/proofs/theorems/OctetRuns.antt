-- Octets written after the first of a scratch: a copy, and two runs. Assumes nothing.
use Prim.Native.Nat.{ℕ, ◌+◌, ◌≤◌, ◌<◌}
use native.Mathlib.Omega.{arith}
use mathlib.Core.Path.{◌≡◌, refl, sym, ap, ap₂, ◌∙◌}
use mathlib.Core.List.{List, ◌++◌, append_assoc}
use lib.ListN.{length, take, drop, length-append, take-append-drop}
use lib.Seq.{take_at, drop_at, drop-drop, length-take-le}
use Rattle.std.specs.Prelude.{Option, Some, None}
use Rattle.crmf.specs.meaning.Lists.{over}
use Rattle.crmf.proofs.Laws.{over_parts}
use Rattle.writer.specs.steps.Inner.{Placed, Appended}

module _ (old : List ℕ) (at : ℕ) where
  -- a copy is written where it fits
  pub append_copy : (octets new : List ℕ) → at + length octets ≤ length old → new ≡ over old at octets → Placed old at octets (at + length octets) new
  append_copy octets new room is =
      let rest = drop (at + length octets) old in
      let size : length (take at old ++ octets) ≡ at + length octets =
      length-append (take at old) octets ∙ ap (λ (n : ℕ). n + length octets) (length-take-le at old (omega arith)) in
      let parts = is ∙ over_parts old at octets ∙ sym (append_assoc (take at old) octets rest) in
      record {
        place = refl;
        room = room;
        kept = ap (take (at + length octets)) parts ∙ take_at (take at old ++ octets) rest (at + length octets) size;
        after = ap (drop (at + length octets)) parts ∙ drop_at (take at old ++ octets) rest (at + length octets) size;
      }

  -- two runs, the second after the first
  pub append_two : (mid new : List ℕ) (next : ℕ) (end : Option ℕ) (p q : List ℕ) → length mid ≡ length old → Placed old at p next mid
      → Appended mid next q end new → Appended old at (p ++ q) end new
  append_two mid new next (Some end) p q sized one two =
      record {
        place = omega (arith, one.place, two.place, length-append p q);
        room = omega (arith, two.room);
        kept = two.kept ∙ ap (λ (l : List ℕ). l ++ q) one.kept ∙ append_assoc (take at old) p q;
        after =
            two.after
            ∙ ap (λ (n : ℕ). drop n mid) two.place ∙ sym (drop-drop (length q) next mid)
            ∙ ap (drop (length q)) one.after
            ∙ drop-drop (length q) next old ∙ ap (λ (n : ℕ). drop n old) (sym two.place);
      }
  append_two mid new next None p q sized one two = omega (arith, one.place, two, length-append p q)

  -- the first of them has no room
  pub append_none : (p q : List ℕ) → length old < at + length p → length old < at + length (p ++ q)
  append_none p q long = omega (arith, length-append p q)

-- octets that are written from the first place on are written over the first ones
pub appended_over : (old octets new : List ℕ) (next : ℕ) → Placed old 0 octets next new → new ≡ over old 0 octets
appended_over old octets new next a =
    let size : next ≡ 0 + length octets = a.place in
    sym (take-append-drop next new)
    ∙ ap₂ (λ (x y : List ℕ). x ++ y) a.kept (a.after ∙ ap (λ (n : ℕ). drop n old) size)
    ∙ sym (over_parts old 0 octets)
