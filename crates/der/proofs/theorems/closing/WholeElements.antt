-- Of two different elements neither begins with the other, since an element's header says where it ends. So the octets that both have decide which
-- precedes, as the code compares them, and the zero octets of X.690 11.6 never do. Assumes nothing.
use Prim.Native.Nat.{ℕ, zero, suc, ◌+◌, ◌≤◌, ◌<◌}
use mathlib.Core.Path.{◌≡◌, refl, sym, ap, ◌∙◌}
use mathlib.Core.Logic.{◌↔◌}
use mathlib.Core.Bool.{Bool, true, false, false≢true}
use mathlib.Core.List.{List, [], ◌∷◌}
use native.Mathlib.Omega.{arith}
use lib.Dec.{eqb, leb}
use lib.ListN.{length, take, get_or, get_or-eq_default}
use lib.Seq.{take_all, take-take, length-take-le, get_or-take, ext_get_or}
use borrow.Author.Tests.{eqb-true, eq-eqb, ne_eqb, lt-ltb, ltb-true, leb-true, leb-false}
use Rattle.der.specs.steps.Head.{Stands}
use Rattle.der.specs.meaning.Fault.{Headed}
use Rattle.der.specs.meaning.Order.{Precedes}
use Rattle.der.specs.steps.Order.{descends}
use Rattle.der.proofs.theorems.element.Headers.{headed_stands, head_fits}
use Rattle.der.proofs.theorems.element.Length.{length_decided}

-- A whole element: octets with a header, and the content that it gives, and nothing else.
pub record Whole (m : List ℕ) : Type 0 where
  pub identifier : ℕ
  pub before : ℕ
  pub size : ℕ
  pub headed : Headed m identifier before size
  pub all : length m ≡ before + size

-- octets that begin with an element's begin with its header
headed_begins : (bs cs : List ℕ) (id h n : ℕ) → Headed bs id h n → h + n ≤ length cs → take (h + n) cs ≡ take (h + n) bs → Headed cs id h n
headed_begins bs [] id h n e room same = absurd (omega (arith, head_fits bs id h n (headed_stands e)))
headed_begins [] (c ∷ cs) id h n e room same = absurd (omega (arith, head_fits [] id h n (headed_stands e)))
headed_begins (b ∷ bs) (c ∷ cs) id h n e room same =
    let k = e.count in
    let total : h + n ≡ suc (k + n) = omega (arith, e.sized) in
    let parts : c ∷ take (k + n) cs ≡ b ∷ take (k + n) bs = ap (λ (i : ℕ). take i (c ∷ cs)) (sym total) ∙ same ∙ ap (λ (i : ℕ). take i (b ∷ bs)) total in
    let first : c ≡ b = cc in
    let rest : take (k + n) cs ≡ take (k + n) bs = cc in
    let own : id ≡ b = cc e.split in
    let after : e.after ≡ bs = cc e.split in
    let counted : take k cs ≡ take k bs = sym (take-take k (k + n) cs (omega arith)) ∙ ap (take k) rest ∙ take-take k (k + n) bs (omega arith) in
    record {
      count = k;
      after = cs;
      split = ap (λ (i : ℕ). i ∷ cs) (first ∙ sym own);
      known = e.known;
      measured = length_decided bs cs k n (rw after at e.measured) (omega (arith, e.sized)) counted;
      sized = e.sized;
      fits = omega (arith, e.sized);
    }

-- The members that octets consist of are whole elements.
pub member_whole : (bs : List ℕ) (id h n : ℕ) → Headed bs id h n → Whole (take (h + n) bs)
member_whole bs id h n e =
    let size = length-take-le (h + n) bs (head_fits bs id h n (headed_stands e)).1 in
    record {
      identifier = id;
      before = h;
      size = n;
      headed = headed_begins bs (take (h + n) bs) id h n e (omega arith) (take-take (h + n) (h + n) bs (omega arith));
      all = size;
    }

-- Of two different elements neither begins with the other.
pub not_begun : (a b : List ℕ) → Whole a → Whole b → length a ≤ length b → ((i : ℕ) → i < length a → get_or a i 0 ≡ get_or b i 0) → length a ≡ length b
not_begun a b x y shorter same =
    let size = length-take-le (length a) b shorter in
    let taken : a ≡ take (length a) b =
    ext_get_or 0 a (take (length a) b) (sym size) (λ i within. same i within ∙ sym (get_or-take (length a) b i 0 within)) in
    let own : take (x.before + x.size) b ≡ take (x.before + x.size) a =
    rw (sym x.all) (sym taken ∙ sym (take_all (length a) a (omega arith))) in
    let headed = headed_begins a b x.identifier x.before x.size x.headed (omega (arith, x.all)) own in
    let heads : Stands x.identifier x.before x.size ≡ Stands y.identifier y.before y.size = sym (headed_stands headed) ∙ headed_stands y.headed in
    let before : x.before ≡ y.before = cc in
    let within : x.size ≡ y.size = cc in
    omega (arith, x.all, y.all)

-- The padding never decides which of two elements precedes: both have an octet where they first differ.
pub padding_never_decides : (a b : List ℕ) → Whole a → Whole b → (p : Precedes a b) → (p.place < length a) × (p.place < length b)
padding_never_decides a b x y p = (go (leb (length a) p.place) refl, there)
  where
    there : p.place < length b
    there = by (leb (length b) p.place) refl
      where
        by : (t : Bool) → leb (length b) p.place ≡ t → p.place < length b
        by true past = let zero = get_or-eq_default b 0 {n = p.place} (leb-true _ _ past) in absurd (omega (arith, p.less))
        by false within = leb-false _ _ within

    go : (t : Bool) → leb (length a) p.place ≡ t → p.place < length a
    go true past =
        let end = leb-true (length a) p.place past in
        absurd (omega (arith, there, not_begun a b x y (omega (arith, there)) (λ i within. p.same i (omega arith))))
    go false within = leb-false (length a) p.place within

-- a string that the code finds to descend precedes
descends_precedes : (a b : List ℕ) → descends a b ≡ true → Precedes b a
unfolding descends
descends_precedes [] b is = absurd (false≢true is)
descends_precedes (a ∷ rest) [] is = absurd (false≢true is)
descends_precedes (a ∷ rest) (b ∷ bs) is = go (descends_precedes rest bs) (eqb a b) refl
  where
    more : a ≡ b → Precedes bs rest → Precedes (b ∷ bs) (a ∷ rest)
    more first p = record { place = suc p.place; same = same; less = p.less }
      where
        same : (i : ℕ) → i < suc p.place → get_or (b ∷ bs) i 0 ≡ get_or (a ∷ rest) i 0
        same zero within = sym first
        same (suc i) within = p.same i (omega arith)

    go : (descends rest bs ≡ true → Precedes bs rest) → (t : Bool) → eqb a b ≡ t → Precedes (b ∷ bs) (a ∷ rest)
    go later true e = more (eqb-true a b e) (later (rw (descends, e) at is))
    go later false e = record { place = 0; same = λ i none. absurd (omega arith); less = ltb-true b a (rw (descends, e) at is) }

-- a string that precedes where both have an octet is found
precedes_descends : (a b : List ℕ) (p : ℕ) → ((i : ℕ) → i < p → get_or b i 0 ≡ get_or a i 0) → get_or b p 0 < get_or a p 0 → p < length a → p < length b
    → descends a b ≡ true
unfolding descends
precedes_descends [] b p same less inside within = absurd (omega arith)
precedes_descends (a ∷ rest) [] p same less inside within = absurd (omega arith)
precedes_descends (a ∷ rest) (b ∷ bs) zero same less inside within = rw (descends, ne_eqb a b (λ e. omega arith), lt-ltb b a less)
precedes_descends (a ∷ rest) (b ∷ bs) (suc p) same less inside within =
    rw (descends, eq-eqb a b (sym (same 0 (omega arith))))
    (precedes_descends rest bs p (λ i before. same (suc i) (omega arith)) less (omega arith) (omega arith))

-- The code's comparison of two elements is exact.
pub descends_exact : (a b : List ℕ) → Whole a → Whole b → descends a b ≡ true ↔ Precedes b a
descends_exact a b x y = (
  descends_precedes a b,
  λ p.
      let (within, inside) = padding_never_decides b a y x p in
      precedes_descends a b p.place p.same p.less inside within,
)

-- Before the first element there is none to compare it with.
pub descends_none : (b : List ℕ) → descends [] b ≡ true ↔ Precedes b []
unfolding descends
descends_none b = (λ is. absurd (false≢true is), λ p. absurd (omega (arith, p.less, get_or-eq_default {A = ℕ} [] 0 {n = p.place} (omega arith))))
