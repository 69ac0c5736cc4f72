-- Every difference that occurs in a tree of one edition's grammar is that edition's own. So the other edition's walk passes with the same
-- answer if none occurs, and otherwise stops at the first. Assumes nothing.
use Prim.Native.Nat.{ℕ}
use mathlib.Core.Path.{◌≡◌, refl, sym, ap, ◌∙◌}
use mathlib.Core.Bool.{Bool, true, false, not}
use mathlib.Core.List.{List, [], ◌∷◌, Memᴰ}
use mathlib.Core.Option.{none}
use lib.Dec.{eqb}
use borrow.Author.Tests.{eqb-true}
use Rattle.der.specs.meaning.Tree.{Tree}
use Rattle.crmf.specs.steps.explain.Tally.{Tally}
use Rattle.crmf.specs.meaning.Notation.{Name}
use Rattle.crmf.specs.meaning.Grammar.{content}
use Rattle.crmf.specs.meaning.Language.{Matches, Occurrence, occurrences}
use Rattle.crmf.specs.steps.grammar.Lines.{start}
use Rattle.crmf.specs.steps.explain.Walk.{walk, Walked, Passed, Broken}
use Rattle.crmf.proofs.theorems.explain.Accepts.{accepts}
use Rattle.crmf.proofs.theorems.editions.Marks.{trail_occurrences}
use Rattle.crmf.proofs.theorems.editions.ReadableSets.{first_of, unread, first_here, first_none, Follows, passed_reads, two_sets}
use Rattle.crmf.proofs.theorems.editions.FirstSeen.{Edition, first_edition, second_edition}
use Rattle.crmf.proofs.theorems.editions.OneEdition.{other}

-- How a walk follows one that passes, by the differences that occur: it answers the same, or stops at the first.
abbrev pub StopsAt : Walked → Walked → List Occurrence → Type 0
StopsAt w u [] = w ≡ u
StopsAt w u (o ∷ os) = (d : ℕ) × ((r : Tally) × (w ≡ Broken o.place d r))

-- a form that is not unread is read
read : (b : Bool) → not b ≡ false → b ≡ true
read true no-unread = refl
read false no-unread = sym no-unread

-- an edition's walk doesn't read the other's forms
foreign_unread : {e : ℕ} → Edition e → not (eqb e (other e)) ≡ true
foreign_unread first_edition = refl
foreign_unread second_edition = refl

module _ {e : ℕ} (n : Name) {t : Tree} (m : Matches (λ x. eqb x e) (content n) t) (s : Tally) (around : ℕ) where
  -- Every difference that occurs is the edition's own.
  pub own_difference : (o : Occurrence) → Memᴰ o (occurrences m) → o.edition ≡ e
  own_difference o member =
      let (r, passed) = (accepts (λ x. eqb x e) s n around t).1 m in
      let clear : first_of (unread (λ x. eqb x e)) (occurrences m) ≡ none =
      rw (trail_occurrences n m) at (passed_reads (λ x. eqb x e) s r (start n) around t passed) in
      eqb-true _ _ (read (eqb o.edition e) (first_none (unread (λ x. eqb x e)) (occurrences m) o clear member))

  -- The other edition's walk answers the same if none occurs, and otherwise stops at the first.
  pub other_walk : Edition e → (r : Tally) × ((walk (λ x. eqb x e) s (start n) around t ≡ Passed r)
      × StopsAt (walk (λ x. eqb x (other e)) s (start n) around t) (Passed r) (occurrences m))
  unfolding first_of
  other_walk ed =
      let (r, passed) = (accepts (λ x. eqb x e) s n around t).1 m in
      let follows = two_sets (λ x. eqb x e) (λ x. eqb x (other e)) s r (start n) around t passed in
      (r, (passed, go r (occurrences m) own_difference (rw (trail_occurrences n m) at follows)))
    where
      w : Walked
      w = walk (λ x. eqb x (other e)) s (start n) around t

      go : (r : Tally) (os : List Occurrence) → ((o : Occurrence) → Memᴰ o os → o.edition ≡ e)
          → Follows w (Passed r) (first_of (unread (λ x. eqb x (other e))) os) → StopsAt w (Passed r) os
      go r [] own alike = alike
      go r (o ∷ os) own stops =
          let taken : not (eqb o.edition (other e)) ≡ true =
          ap (λ (x : ℕ). not (eqb x (other e))) (own o (Memᴰ.head refl)) ∙ foreign_unread ed in
          let (q, is) = rw (first_here (unread (λ x. eqb x (other e))) o os taken) at stops in
          (_, (q, is))
