-- Whatever occurs is on the list of the differences, and each difference of the list is the mark of some form: tests that compute. So the
-- differences' numbers are 1 to 4. Assumes nothing.
use Prim.Native.Nat.{ℕ, ◌≤◌}
use mathlib.Core.Path.{◌≡◌, refl, ap}
use mathlib.Core.Logic.{⊎_elim}
use mathlib.Core.Bool.{Bool, true, false, ◌&&◌, and-eq-true_iff}
use mathlib.Core.List.Memᴰ
use mathlib.Core.List.{List, [], ◌∷◌, Memᴰ}
use lib.Dec.{eqb, leb}
use borrow.Author.Tests.{eqb-true, leb-true}
use Rattle.der.specs.meaning.Tree.{Tree}
use Rattle.crmf.specs.meaning.Value.{is_two}
use Rattle.crmf.specs.meaning.Notation.{Mark, both, alone, Marking, whatever, unless_two, mark_of, Name, names}
use Rattle.crmf.specs.meaning.Grammar.{content}
use Rattle.crmf.specs.meaning.Differences.{differences}
use Rattle.crmf.specs.meaning.Language.{Matches, Occurrence, occurs, occurrences}
use Rattle.crmf.specs.steps.grammar.Lines.{lines, end_line}
use Rattle.crmf.specs.steps.explain.Walk.{line}
use Rattle.crmf.proofs.theorems.lists.Tests.{all, all_member, any, any_get_d, either}
use Rattle.crmf.proofs.theorems.grammar.Choices.{never_both}
use Rattle.crmf.proofs.theorems.grammar.Containers.{all_forms}
use Rattle.crmf.proofs.theorems.lines.WordFields.{computed, given_mark}
use Rattle.crmf.proofs.theorems.rows.TakenElements.{forms_pass, content_passes, occurs_taken}

-- whether two marks are the same
abbrev same_mark : Mark → Mark → Bool
same_mark both both = true
same_mark both (alone e d detail) = false
same_mark (alone e d detail) both = false
same_mark (alone e d detail) (alone f g other) = eqb e f && (eqb d g && eqb detail other)

same_mark_lem : (a b : Mark) → same_mark a b ≡ true → a ≡ b
same_mark_lem both both is = refl
same_mark_lem both (alone e d detail) is = never_both false is refl
same_mark_lem (alone e d detail) both is = never_both false is refl
same_mark_lem (alone e d detail) (alone f g other) is =
    let (edition, more) = (and-eq-true_iff (eqb e f) _).0 is in
    let (number, last) = (and-eq-true_iff (eqb d g) _).0 more in
    rw (eqb-true e f edition, eqb-true d g number, eqb-true detail other last) refl

-- a mark that is the same as one of some marks is one of them
found_mark : (m : Mark) (ms : List Mark) → any (same_mark m) ms ≡ true → Memᴰ m ms
found_mark m [] is = never_both false is refl
found_mark m (x ∷ ms) is =
    ⊎_elim (λ here. Memᴰ.head (same_mark_lem m x here)) (λ later. Memᴰ.tail (found_mark m ms later)) (either (same_mark m x) (any (same_mark m) ms) is)

-- the mark of a form is on the list, or none
abbrev is_listed : Mark → Bool
is_listed both = true
is_listed (alone e d detail) = any (same_mark (alone e d detail)) differences

all_listed : all (λ n. forms_pass (λ f. is_listed (given_mark f.marking)) (content n)) names ≡ true
unfolding differences forms_pass all_forms content
all_listed = refl

-- so it is with what occurs at an element, by its marking
occurs_listed : (k : Marking) (c : List ℕ) (p : ℕ) (o : Occurrence) → is_listed (given_mark k) ≡ true → Memᴰ o (occurs (mark_of k c) p)
    → Memᴰ (alone o.edition o.difference o.detail) differences
occurs_listed (whatever both) c p o good at = absurd (Memᴰ.not-nil at)
occurs_listed (whatever (alone e d detail)) c p o good at = rw (Memᴰ.eq_of_singleton at) (found_mark (alone e d detail) differences good)
occurs_listed (unless_two both) c p o good at = go (is_two c) at
  where
    go : (b : Bool) → Memᴰ o (occurs (elim b [ true ↦ both | false ↦ both ]) p) → Memᴰ (alone o.edition o.difference o.detail) differences
    go true there = absurd (Memᴰ.not-nil there)
    go false there = absurd (Memᴰ.not-nil there)
occurs_listed (unless_two (alone e d detail)) c p o good at = go (is_two c) at
  where
    go : (b : Bool) → Memᴰ o (occurs (elim b [ true ↦ both | false ↦ alone e d detail ]) p)
        → Memᴰ (alone o.edition o.difference o.detail) differences
    go true there = absurd (Memᴰ.not-nil there)
    go false there = rw (Memᴰ.eq_of_singleton there) (found_mark (alone e d detail) differences good)

module _ {R : ℕ → Bool} (n : Name) {t : Tree} (m : Matches R (content n) t) (o : Occurrence) (at : Memᴰ o (occurrences m)) where
  -- What occurs is on the list of the differences.
  pub listed : Memᴰ (alone o.edition o.difference o.detail) differences
  listed =
      let (x, there, own) = occurs_taken m o at in
      occurs_listed x.form.marking x.octets x.first o (content_passes (λ f. is_listed (given_mark f.marking)) all_listed n m x there) own

  -- So its number is one of 1 to 4,
  pub numbered : (1 ≤ o.difference) × (o.difference ≤ 4)
  unfolding differences
  numbered =
      let low = all_member (λ k. within k) (alone o.edition o.difference o.detail) differences refl listed in
      let (some, few) = (and-eq-true_iff (leb 1 o.difference) _).0 low in
      (leb-true 1 o.difference some, leb-true o.difference 4 few)
    where
      within : Mark → Bool
      within both = false
      within (alone e d detail) = leb 1 d && leb d 4

  -- and a fourth is edition 1's.
  pub fourth_first : o.difference ≡ 4 → o.edition ≡ 1
  unfolding differences
  fourth_first four =
      eqb-true o.edition 1 (go (eqb o.difference 4) (all_member (λ k. own k) (alone o.edition o.difference o.detail) differences refl listed) (ap (λ (d : ℕ). eqb d 4) four))
    where
      own : Mark → Bool
      own both = false
      own (alone e d detail) = elim (eqb d 4) [ true ↦ eqb e 1 | false ↦ true ]

      go : (b : Bool) → (elim b as (λ x. Bool) [ true ↦ eqb o.edition 1 | false ↦ true ]) ≡ true → b ≡ true → eqb o.edition 1 ≡ true
      go true is on = is
      go false is off = never_both false off refl

-- Each difference of the list is the mark of some form.
pub listed_marks : (d : Mark) → Memᴰ d differences → (k : ℕ) × (given_mark (line k).marking ≡ d)
unfolding differences computed line
listed_marks d at =
    let (k, same) = any_get_d (λ x. same_mark (given_mark x.marking) d) end_line lines (all_member (λ k. any (λ x. same_mark (given_mark x.marking) k) lines) d differences refl at) in
    (k, same_mark_lem (given_mark (line k).marking) d same)
