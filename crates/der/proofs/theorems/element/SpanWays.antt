-- An element's length octets by themselves: a law for each case of the code, by the octets that it looks at. Assumes nothing.
use Prim.Native.Nat.{ℕ, zero, suc, ◌+◌, ◌-◌, ◌*◌, ◌≤◌, ◌<◌}
use mathlib.Core.Path.{◌≡◌, refl, sym, ap, ◌∙◌}
use mathlib.Core.Bool.{Bool, true, false, ◌&&◌, not, false≢true, and-eq-true_iff}
use mathlib.Core.List.{List, [], ◌∷◌}
use native.Mathlib.Omega.{arith}
use lib.Dec.{leb, eqb}
use lib.ListN.{length, get_or}
use borrow.Author.Tests.{le-leb, lt-leb, leb-true, leb-false, lt-ltb, le-ltb, ltb-true, eq-eqb, eqb-true, eqb-false, not-true, not-false}
use Rattle.der.specs.meaning.Length.{Length, missing, wrong, octets, value_from, shortest, long_form, length_of}
use Rattle.der.specs.steps.Span.{no_span, fitted, span_by, span_of}
use Rattle.der.proofs.theorems.element.Length.{Long, long_read}

-- a length in more than three octets, or one that does not fit, gives no span
pub span_unfit : (room k n : ℕ) → (k ≤ 3 → k + n ≤ room → ⊥) → no_span ≡ span_by room (octets k n)
unfolding span_by
span_unfit room k n off = go (leb k 3) (leb (k + n) room) refl refl
  where
    go : (s t : Bool) → leb k 3 ≡ s → leb (k + n) room ≡ t → no_span ≡ span_by room (octets k n)
    go true true d e = absurd (off (leb-true k 3 d) (leb-true (k + n) room e))
    go true false d e = simp (span_by, d, e)
    go false t d e = simp (span_by, d)

-- a length in three octets or fewer that fits gives a span
pub span_there : (room k n : ℕ) → k ≤ 3 → k + n ≤ room → span_by room (octets k n) ≡ record { octets = suc k; length = n }
unfolding span_by
span_there room k n few fits = simp (span_by, le-leb k 3 few, le-leb (k + n) room fits)

-- so with three octets or fewer it only has to fit
span_sized : (room k n : ℕ) → k ≤ 3 → fitted (suc room) (suc k) n ≡ span_by room (octets k n)
span_sized room k n few = go (leb (k + n) room) refl
  where
    go : (t : Bool) → leb (k + n) room ≡ t → fitted (suc room) (suc k) n ≡ span_by room (octets k n)
    go true e =
        let fits : k + n ≤ room = leb-true (k + n) room e in
        rw (fitted, le-leb (suc k + n) (suc room) (omega arith)) (sym (span_there room k n few fits))
    go false e =
        let far : suc room < suc k + n = omega (arith, leb-false (k + n) room e) in
        rw (fitted, lt-leb (suc k + n) (suc room) far) (span_unfit room k n (λ _ fits. omega arith))

-- a long form whose length, if one is read, gives no span
long_none : (j : ℕ) (bs : List ℕ) → ((m n : ℕ) → Long j bs m n → m ≤ 3 → m + n ≤ suc (length bs) → ⊥)
    → no_span ≡ span_by (suc (length bs)) (long_form j bs)
unfolding span_by
long_none j bs off = go (long_form j bs) refl
  where
    go : (l : Length) → long_form j bs ≡ l → no_span ≡ span_by (suc (length bs)) l
    go missing e = refl
    go wrong e = refl
    go (octets m n) e = span_unfit (suc (length bs)) m n (off m n (long_read j bs m n e))

-- the long form's octets decide
span_long : (id c : ℕ) (bs : List ℕ) → 0x80 ≤ c → span_by (suc (length bs)) (long_form (c - 0x80) bs) ≡ span_of (id ∷ c ∷ bs)
unfolding span_of length_of
span_long id c bs high = simp (length_of, le-ltb c 0x80 high)

-- no length octet
pub way_none : (bs : List ℕ) → length bs < 2 → no_span ≡ span_of bs
unfolding span_of length_of span_by
way_none [] low = refl
way_none (id ∷ []) low = refl
way_none (id ∷ c ∷ bs) low = absurd (omega arith)

-- the short form
pub way_small : (bs : List ℕ) → 2 ≤ length bs → get_or bs 1 0 < 0x80 → fitted (length bs) 2 (get_or bs 1 0) ≡ span_of bs
unfolding span_of length_of
way_small [] some low = absurd (omega arith)
way_small (id ∷ []) some low = absurd (omega arith)
way_small (id ∷ c ∷ bs) some low = simp (length_of, lt-ltb c 0x80 low) (span_sized (suc (length bs)) 1 c (omega arith))

-- a long form in one octet or none: its content would be 80 octets or more
one_past : (j : ℕ) (bs : List ℕ) (m n : ℕ) → length bs < 2 → Long j bs m n → m + n ≤ suc (length bs) → ⊥
unfolding shortest value_from
one_past zero bs m n few l fits = false≢true l.brief
one_past (suc zero) [] m n few l fits = absurd (omega (arith, l.fits))
one_past (suc zero) (d ∷ bs) m n few l fits = omega (arith, leb-true 0x80 d l.brief, l.valued, l.counted)
one_past (suc (suc j)) bs m n few l fits = omega (arith, l.fits)

-- the long form in fewer than four octets: its content would be 80 octets or more
pub way_short : (bs : List ℕ) → 2 ≤ length bs → length bs < 4 → 0x80 ≤ get_or bs 1 0 → no_span ≡ span_of bs
way_short [] some few high = absurd (omega arith)
way_short (id ∷ []) some few high = absurd (omega arith)
way_short (id ∷ c ∷ bs) some few high = long_none (c - 0x80) bs (λ m n l _ fits. one_past (c - 0x80) bs m n (omega arith) l fits) ∙ span_long id c bs high

-- one octet after the first
one_read : (bs : List ℕ) → 4 ≤ length bs → get_or bs 1 0 ≡ 0x81 → 0x80 ≤ get_or bs 2 0 → fitted (length bs) 3 (get_or bs 2 0) ≡ span_of bs
unfolding span_of length_of long_form shortest value_from
one_read [] some first high = absurd (omega arith)
one_read (id ∷ []) some first high = absurd (omega arith)
one_read (id ∷ c ∷ []) some first high = absurd (omega arith)
one_read (id ∷ c ∷ d ∷ bs) some first high =
    let v : 0 * 256 + d ≡ d = omega arith in
    let known : long_form 1 (d ∷ bs) ≡ octets 2 d = rw (long_form, le-leb 1 (suc (length bs)) (omega arith), le-leb 0x80 d high, v) in
    let same : c ≡ 0x81 = first in
    rw same (span_sized (suc (suc (length bs))) 2 d (omega arith) ∙ ap (span_by (suc (suc (length bs)))) (sym known))

-- two octets after the first
two_read : (bs : List ℕ) → 4 ≤ length bs → get_or bs 1 0 ≡ 0x82 → (get_or bs 2 0 ≡ 0 → ⊥)
    → fitted (length bs) 4 (get_or bs 2 0 * 256 + get_or bs 3 0) ≡ span_of bs
unfolding span_of length_of long_form shortest value_from
two_read [] some first high = absurd (omega arith)
two_read (id ∷ []) some first high = absurd (omega arith)
two_read (id ∷ c ∷ []) some first high = absurd (omega arith)
two_read (id ∷ c ∷ d ∷ []) some first high = absurd (omega arith)
two_read (id ∷ c ∷ d ∷ e ∷ bs) some first high =
    let v : (0 * 256 + d) * 256 + e ≡ d * 256 + e = omega arith in
    let known : long_form 2 (d ∷ e ∷ bs) ≡ octets 3 (d * 256 + e) = rw (long_form, le-leb 2 (suc (suc (length bs))) (omega arith), lt-ltb 0 d (omega arith), v) in
    let same : c ≡ 0x82 = first in
    rw same (span_sized (suc (suc (suc (length bs)))) 3 (d * 256 + e) (omega arith) ∙ ap (span_by (suc (suc (suc (length bs))))) (sym known))

-- neither of the two
none_read : (bs : List ℕ) → 4 ≤ length bs → 0x80 ≤ get_or bs 1 0 → (get_or bs 1 0 ≡ 0x81 → get_or bs 2 0 < 0x80) → (get_or bs 1 0 ≡ 0x82 → get_or bs 2 0 ≡ 0)
    → no_span ≡ span_of bs
unfolding shortest
none_read [] some high one two = absurd (omega arith)
none_read (id ∷ []) some high one two = absurd (omega arith)
none_read (id ∷ c ∷ []) some high one two = absurd (omega arith)
none_read (id ∷ c ∷ d ∷ []) some high one two = absurd (omega arith)
none_read (id ∷ c ∷ d ∷ e ∷ bs) some high one two = long_none (c - 0x80) (d ∷ e ∷ bs) (off (c - 0x80) refl) ∙ span_long id c (d ∷ e ∷ bs) high
  where
    off : (j : ℕ) → c - 0x80 ≡ j → (m n : ℕ) → Long j (d ∷ e ∷ bs) m n → m ≤ 3 → m + n ≤ suc (length (d ∷ e ∷ bs)) → ⊥
    off zero j m n l low fits = false≢true l.brief
    off (suc zero) j m n l low fits = omega (arith, leb-true 0x80 d l.brief, one (omega arith))
    off (suc (suc zero)) j m n l low fits = omega (arith, ltb-true 0 d l.brief, two (omega arith))
    off (suc (suc (suc k))) j m n l low fits = omega (arith, l.counted)

-- The long form in four octets or more, by the tests of its first two octets.
module _ (bs : List ℕ) (a b : ℕ) (first : a ≡ get_or bs 1 0) (top : b ≡ get_or bs 2 0) (some : 4 ≤ length bs) where
  -- one octet after the first
  pub way_one : (eqb a 0x81 && leb 0x80 b) ≡ true → fitted (length bs) 3 b ≡ span_of bs
  way_one t =
      let both = (and-eq-true_iff (eqb a 0x81) (leb 0x80 b)).0 t in
      rw top (one_read bs some (sym first ∙ eqb-true a 0x81 both.0) (omega (arith, leb-true 0x80 b both.1)))

  -- two octets after the first
  pub way_two : (eqb a 0x82 && not (eqb b 0)) ≡ true → fitted (length bs) 4 (b * 256 + get_or bs 3 0) ≡ span_of bs
  way_two t =
      let both = (and-eq-true_iff (eqb a 0x82) (not (eqb b 0))).0 t in
      rw top (two_read bs some (sym first ∙ eqb-true a 0x82 both.0) (λ z. eqb-false b 0 (not-true (eqb b 0) both.1) (top ∙ z)))

  -- neither of the two
  pub way_last : 0x80 ≤ a → (eqb a 0x81 && leb 0x80 b) ≡ false → (eqb a 0x82 && not (eqb b 0)) ≡ false → no_span ≡ span_of bs
  way_last high s t = none_read bs some (omega arith) one two
    where
      one : get_or bs 1 0 ≡ 0x81 → get_or bs 2 0 < 0x80
      one e = omega (arith, leb-false 0x80 b (rw (eq-eqb a 0x81 (first ∙ e)) at s))

      two : get_or bs 1 0 ≡ 0x82 → get_or bs 2 0 ≡ 0
      two e = sym top ∙ eqb-true b 0 (not-false (eqb b 0) (rw (eq-eqb a 0x82 (first ∙ e)) at t))
