-- The form of an edition alone that the walk notes is the first in byte order of those that the meaning gives: their places ascend, and no
-- difference has the number 0, which stands for none. Assumes nothing.
use Prim.Native.Nat.{ℕ, ◌+◌, ◌≤◌, ◌<◌}
use native.Mathlib.Omega.{arith}
use mathlib.Core.Logic.{◌↔◌, ◌⊎◌, inl, inr}
use mathlib.Core.Path.{◌≡◌, refl, sym, ap, ◌∙◌}
use mathlib.Core.Bool.{Bool, true, false}
use mathlib.Core.List.Memᴰ
use mathlib.Core.List.{List, [], ◌∷◌, Memᴰ}
use mathlib.Core.Option.{Option, some, none}
use lib.Dec.{eqb}
use lib.ListN.{length}
use borrow.Author.Tests.{eqb-true, eqb-false, eq-eqb}
use Rattle.der.specs.meaning.Tree.{Tree, WellFormed, encode}
use Rattle.crmf.specs.meaning.Notation.{Name}
use Rattle.crmf.specs.meaning.Grammar.{content}
use Rattle.crmf.specs.meaning.Language.{Matches, Occurrence, occurrences}
use Rattle.crmf.specs.steps.grammar.Lines.{start}
use Rattle.crmf.specs.steps.explain.Walk.{walk, empty_tally}
use Rattle.crmf.proofs.theorems.grammar.Choices.{never_both}
use Rattle.crmf.proofs.theorems.explain.EveryForm.{all}
use Rattle.crmf.proofs.theorems.editions.ReadableSets.{first_of, first_none, first_split}
use Rattle.crmf.proofs.theorems.editions.FairMarks.{fair_all, fair_first, trail_fair}
use Rattle.crmf.proofs.theorems.editions.FirstSeen.{Edition, first_edition, second_edition, first_seen, first_or, after, after_unknown, seen_of}
use Rattle.crmf.proofs.theorems.editions.AscendingPlaces.{Ascends, ascends_least, first_least, occurrences_ascend}
use Rattle.crmf.proofs.theorems.editions.Marks.{trail_occurrences, marks_met}

-- The first form of an edition alone among some occurrences, by its difference's number and its place.
pub record FirstForm (os : List Occurrence) (e number place : ℕ) : Type 0 where
  pub form : Occurrence
  pub among : Memᴰ form os
  pub own : form.edition ≡ e
  pub numbered : form.difference ≡ number
  pub stands : form.place ≡ place
  pub least : (other : Occurrence) → Memᴰ other os → other.edition ≡ e → place ≤ other.place

-- no two occurrences have one place
one_place : (low high : ℕ) (os : List Occurrence) (a b : Occurrence) → Ascends low high os → Memᴰ a os → Memᴰ b os → a.place ≡ b.place → a ≡ b
one_place low high [] a b order in-a in_b same = absurd (Memᴰ.not-nil in-a)
one_place low high (o ∷ os) a b order in-a in_b same =
    go (Memᴰ.cases_cons in-a) (Memᴰ.cases_cons in_b) (λ x y. one_place _ high os a b order.2 x y same)
  where
    go : (a ≡ o) ⊎ Memᴰ a os → (b ≡ o) ⊎ Memᴰ b os → (Memᴰ a os → Memᴰ b os → a ≡ b) → a ≡ b
    go (inl x) (inl y) later = x ∙ sym y
    go (inl x) (inr y) later = absurd (omega (arith, ascends_least low high o b os order y, ap (λ (z : Occurrence). z.place) x))
    go (inr x) (inl y) later = absurd (omega (arith, ascends_least low high o a os order x, ap (λ (z : Occurrence). z.place) y))
    go (inr x) (inr y) later = later x y

-- none of them has the number 0
none_zero : (os : List Occurrence) (o : Occurrence) → fair_all os ≡ true → Memᴰ o os → o.difference ≡ 0 → ⊥
none_zero [] o good member zero = Memᴰ.not-nil member
none_zero (x ∷ os) o good member zero =
    let (known, fair, more) = fair_first x os good in
    go fair (Memᴰ.cases_cons member) (none_zero os o more)
  where
    go : eqb x.difference 0 ≡ false → (o ≡ x) ⊎ Memᴰ o os → (Memᴰ o os → o.difference ≡ 0 → ⊥) → ⊥
    go fair (inl same) later = eqb-false x.difference 0 fair (ap (λ (z : Occurrence). z.difference) (sym same) ∙ zero)
    go fair (inr there) later = later there zero

-- the first of an edition is one of them and of the edition
first_member : (e : ℕ) (os : List Occurrence) (o : Occurrence) → first_of (λ x. eqb x e) os ≡ some o → Memᴰ o os × (o.edition ≡ e)
first_member e os o is =
    let (before, later, split, clear, taken) = first_split (λ x. eqb x e) os o is in
    (rw split (Memᴰ.append_right before (Memᴰ.head refl)), eqb-true o.edition e taken)

-- What is found first of an edition is the first in byte order.
module _ (e low high : ℕ) (os : List Occurrence) (order : Ascends low high os) (fair : fair_all os ≡ true) (d p : ℕ) where
  abbrev found : ℕ × ℕ
  found = first_or (0, 0) (first_of (λ x. eqb x e) os)

  found_first : (x : Option Occurrence) → first_of (λ x. eqb x e) os ≡ x → first_or (0, 0) x ≡ (d, p) → 0 < d → FirstForm os e d p
  found_first none is same Some-number = absurd (omega (arith, ap (λ (h : ℕ × ℕ). h.0) same))
  found_first (some o) is same Some-number =
      let (member, own-form) = first_member e os o is in
      record {
        form = o;
        among = member;
        own = own-form;
        numbered = ap (λ (h : ℕ × ℕ). h.0) same;
        stands = ap (λ (h : ℕ × ℕ). h.1) same;
        least = λ q there too. omega (arith, first_least (λ x. eqb x e) low high os o q order is there (eq-eqb q.edition e too), ap (λ (h : ℕ × ℕ). h.1) same);
      }

  first_found : (x : Option Occurrence) → first_of (λ x. eqb x e) os ≡ x → FirstForm os e d p → (first_or (0, 0) x ≡ (d, p)) × (0 < d)
  first_found none is first = never_both (eqb first.form.edition e) (eq-eqb _ _ first.own) (first_none (λ x. eqb x e) os first.form is first.among)
  first_found (some o) is first =
      let (member, own-form) = first_member e os o is in
      let near : o.place ≤ first.form.place = first_least (λ x. eqb x e) low high os o first.form order is first.among (eq-eqb _ _ first.own) in
      let far : first.form.place ≤ o.place = omega (arith, first.least o member own-form, first.stands) in
      let same = one_place low high os o first.form order member first.among (omega arith) in (
        ap (λ (z : Occurrence). (z.difference, z.place)) same ∙ rw (first.numbered, first.stands),
        omega (arith, none_zero os first.form fair first.among, first.numbered),
      )

  first_exactly : FirstForm os e d p ↔ ((found ≡ (d, p)) × (0 < d))
  first_exactly =
      (first_found (first_of (λ x. eqb x e) os) refl, λ (same, Some-number). found_first (first_of (λ x. eqb x e) os) refl same Some-number)

-- before the first element none was met
none_seen : {e : ℕ} → Edition e → first_seen e empty_tally ≡ (0, 0)
unfolding empty_tally
none_seen first_edition = refl
none_seen second_edition = refl

-- What the walk that reads every form has noted of an edition is the first form of it that the meaning gives; the number 0 stands for none.
pub forms_exactly : {R : ℕ → Bool} {t : Tree} {e : ℕ} → Edition e → (n : Name) (m : Matches R (content n) t) (left place around : ℕ) → WellFormed left place t
    → (d p : ℕ) → FirstForm (occurrences m) e d p ↔ ((first_seen e (seen_of (walk all empty_tally (start n) around t)) ≡ (d, p)) × (0 < d))
forms_exactly {t = t} {e = e} ed n m left place around formed d p =
    let noted = marks_met ed empty_tally around n m
    ∙ ap (λ (h : ℕ × ℕ). after e h (occurrences m)) (none_seen ed)
    ∙ after_unknown e (0, 0) (occurrences m) refl in
    let fair : fair_all (occurrences m) ≡ true = rw (trail_occurrences n m) at (trail_fair (start n) t) in
    rw noted (first_exactly e place (place + length (encode t)) (occurrences m) (occurrences_ascend m left place formed) fair d p)
