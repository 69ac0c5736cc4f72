-- The walk that reads every form decides the walk of one edition alone: the latter breaks at the first form of the other edition that was
-- met, and answers the same if none was met. Assumes nothing.
use Prim.Native.Nat.{ℕ, ◌-◌}
use mathlib.Core.Path.{◌≡◌, refl, sym, ◌∙◌, ap}
use mathlib.Core.Bool.{Bool, true, false, not, ◌&&◌, ◌||◌, and-true, and-false}
use mathlib.Core.List.{List, [], ◌∷◌}
use mathlib.Core.Option.{Option, none, some}
use lib.Dec.{eqb}
use borrow.Author.Tests.{eqb-true, eqb-false, eq-eqb}
use Rattle.der.specs.meaning.Tree.{Tree}
use Rattle.crmf.specs.steps.explain.Tally.{Tally}
use Rattle.crmf.specs.meaning.Language.{Occurrence}
use Rattle.crmf.specs.steps.explain.Walk.{walk, passes, trail, Walked, Broken}
use Rattle.crmf.proofs.theorems.explain.EveryForm.{all, is_passed, walk_passes_lem}
use Rattle.crmf.proofs.theorems.editions.ReadableSets.{first_of, first_here, first_later, unread, Follows, own_walk_lem}
use Rattle.crmf.proofs.theorems.editions.FairMarks.{fair_all, fair_first, trail_fair}
use Rattle.crmf.proofs.theorems.editions.FirstSeen.{Edition, first_edition, second_edition, first_seen, first_or, after_unknown, first_fair, seen_of, walk_seen}

-- the other edition
abbrev pub other : ℕ → ℕ
other e = 3 - e

-- it is an edition
pub other_edition_lem : {e : ℕ} → Edition e → Edition (other e)
other_edition_lem first_edition = second_edition
other_edition_lem second_edition = first_edition

-- what one edition doesn't read is the other's
apart_other : {e : ℕ} → Edition e → (f : ℕ) → (eqb f 1 || eqb f 2) ≡ true → not (eqb f e) ≡ eqb f (other e)
apart_other ed f known = go (eqb f 1) refl ed
  where
    go : {e : ℕ} (b : Bool) → eqb f 1 ≡ b → Edition e → not (eqb f e) ≡ eqb f (other e)
    go true one first_edition = rw (eqb-true f 1 one)
    go true one second_edition = rw (eqb-true f 1 one)
    go false more first_edition = rw more (sym (rw more at known))
    go false more second_edition = rw (more, rw more at known)

-- tests that agree take the same first occurrence
first_alike : (f g : ℕ → Bool) (o : Occurrence) (os : List Occurrence) → f o.edition ≡ g o.edition → first_of f os ≡ first_of g os
    → first_of f (o ∷ os) ≡ first_of g (o ∷ os)
first_alike f g o os same later = go (g o.edition) refl
  where
    go : (b : Bool) → g o.edition ≡ b → first_of f (o ∷ os) ≡ first_of g (o ∷ os)
    go true taken = first_here f o os (same ∙ taken) ∙ sym (first_here g o os taken)
    go false passed = first_later f o os (same ∙ passed) ∙ later ∙ sym (first_later g o os passed)

-- so the first occurrence that one edition doesn't read is the other's first
first_unread : {e : ℕ} → Edition e → (os : List Occurrence) → fair_all os ≡ true
    → first_of (unread (λ x. eqb x e)) os ≡ first_of (λ x. eqb x (other e)) os
unfolding first_of
first_unread ed [] good = refl
first_unread {e} ed (o ∷ os) good =
    let own = fair_first o os good in
    first_alike (unread (λ x. eqb x e)) (λ x. eqb x (other e)) o os (apart_other ed o.edition own.0) (first_unread ed os own.2)

-- what a walk has met of the other edition: its first difference (0: none) and place
abbrev pub foreign : ℕ → Walked → ℕ × ℕ
foreign e w = first_seen (other e) (seen_of w)

-- The walk of one edition alone, from what the walk that reads every form has met of the other edition.
module _ {e : ℕ} (ed : Edition e) (s : Tally) (k around : ℕ) (t : Tree) (fresh : (first_seen (other e) s).0 ≡ 0) where
  -- the first of the trail is what was met
  seen_first : foreign e (walk all s k around t) ≡ first_or (first_seen (other e) s) (first_of (λ x. eqb x (other e)) (trail k t))
  seen_first =
      walk_seen (other_edition_lem ed) s k around t
      ∙ after_unknown (other e) (first_seen (other e) s) (trail k t) (eq-eqb (first_seen (other e) s).0 0 fresh)

  -- the walk follows the one that reads every form by it
  own_follows : Follows (walk (λ x. eqb x e) s k around t) (walk all s k around t) (first_of (λ x. eqb x (other e)) (trail k t))
  own_follows = rw (first_unread ed (trail k t) (trail_fair k t)) at (own_walk_lem (λ x. eqb x e) s k around t)

  -- If none of the other's was met, it answers the same.
  pub own_alike : (foreign e (walk all s k around t)).0 ≡ 0 → walk (λ x. eqb x e) s k around t ≡ walk all s k around t
  own_alike clear = go (first_of (λ x. eqb x (other e)) (trail k t)) refl own_follows
    where
      go : (x : Option Occurrence) → first_of (λ x. eqb x (other e)) (trail k t) ≡ x
          → Follows (walk (λ x. eqb x e) s k around t) (walk all s k around t) x
          → walk (λ x. eqb x e) s k around t ≡ walk all s k around t
      go none is alike = alike
      go (some o) is stops =
          let zero_difference : o.difference ≡ 0 = ap (λ (h : ℕ × ℕ). h.0) (sym (rw is at seen_first)) ∙ clear in
          absurd (eqb-false o.difference 0 (first_fair (λ x. eqb x (other e)) (trail k t) o (trail_fair k t) is) zero_difference)

  -- Otherwise it breaks at the first of the other's, which is the one that was met, with the detail of its form.
  pub own_stops : ((foreign e (walk all s k around t)).0 ≡ 0 → ⊥)
      → (o : Occurrence) × (first_of (λ x. eqb x (other e)) (trail k t) ≡ some o) × (foreign e (walk all s k around t) ≡ (o.difference, o.place))
      × ((r : Tally) × (walk (λ x. eqb x e) s k around t ≡ Broken (foreign e (walk all s k around t)).1 o.detail r))
  own_stops seen = go (first_of (λ x. eqb x (other e)) (trail k t)) refl own_follows
    where
      go : (x : Option Occurrence) → first_of (λ x. eqb x (other e)) (trail k t) ≡ x
          → Follows (walk (λ x. eqb x e) s k around t) (walk all s k around t) x
          → (o : Occurrence) × (first_of (λ x. eqb x (other e)) (trail k t) ≡ some o) × (foreign e (walk all s k around t) ≡ (o.difference, o.place))
          × ((r : Tally) × (walk (λ x. eqb x e) s k around t ≡ Broken (foreign e (walk all s k around t)).1 o.detail r))
      go none is alike = absurd (seen (ap (λ (h : ℕ × ℕ). h.0) (rw is at seen_first) ∙ fresh))
      go (some o) is stops = let met = rw is at seen_first in (o, is, met, rw met stops)

  -- So it passes exactly when the walk that reads every form passes and has met none of the other's.
  pub own_passes : is_passed (walk (λ x. eqb x e) s k around t)
      ≡ (passes k t && eqb (foreign e (walk all s k around t)).0 0)
  own_passes = go (eqb (foreign e (walk all s k around t)).0 0) refl
    where
      d : ℕ
      d = (foreign e (walk all s k around t)).0

      go : (b : Bool) → eqb d 0 ≡ b → is_passed (walk (λ x. eqb x e) s k around t) ≡ (passes k t && b)
      go true clear = ap is_passed (own_alike (eqb-true d 0 clear)) ∙ walk_passes_lem s k around t ∙ sym (and-true (passes k t))
      go false seen = ap is_passed (own_stops (eqb-false d 0 seen)).3.1 ∙ sym (and-false (passes k t))
