-- The check by classes accepts exactly the sequences of RFC 3629's productions. Sound: the nest of tests in `class_of` gives each octet's
-- range, and what the check accepts is read back as tails and characters. Complete: over each range of the productions the class is one
-- that the check wants, which is computed. Assumes nothing.
use Prim.Native.Nat.{ℕ, zero, suc, ◌+◌, ◌-◌, ◌*◌, zero-le}
use mathlib.Core.Bool.{Bool, true, false, ◌&&◌, ◌||◌, false≢true, and-eq-true_iff}
use mathlib.Core.List.{List, [], ◌∷◌, ◌++◌, append-nil, append_assoc}
use mathlib.Core.Logic.{◌⊎◌, ◌↔◌, inl, inr, ⊎_elim}
use mathlib.Core.Path.{◌≡◌, refl, sym, ap, ◌∙◌}
use native.Mathlib.Omega.{arith}
use borrow.Author.Tests.{leb-true, eqb-true}
use lib.Dec.{T, leb, eqb}
use lib.Ieee.Bits.{is_true}
use Rattle.der.specs.meaning.Utf8.{InRange, Tail, Character, utf8_1, utf8_2, utf8_3-E0, utf8_3-E1, utf8_3-ED, utf8_3-EE, utf8_4-F0, utf8_4-F1, utf8_4-F4, Utf8, none, char}
use Rattle.der.specs.steps.Utf8Classes.{in_range, class_of, leads, tails, lowest, highest, utf8_from, utf8}
use Rattle.der.proofs.theorems.lists.Range.{every, each}
use Rattle.der.proofs.theorems.content.Utf8Steps.{inside, begin, go_on}

-- an octet of a class has passed the class's own test
data Class (b : ℕ) : ℕ → Type 0 where
  ascii : leb b 0x7F ≡ true → Class b 0
  tail_8 : in_range 0x80 0x8F b ≡ true → Class b 1
  tail_9 : in_range 0x90 0x9F b ≡ true → Class b 2
  tail-A : in_range 0xA0 0xBF b ≡ true → Class b 3
  lead-C2 : in_range 0xC2 0xDF b ≡ true → Class b 4
  lead-E0 : eqb b 0xE0 ≡ true → Class b 5
  lead-E1 : in_range 0xE1 0xEC b || in_range 0xEE 0xEF b ≡ true → Class b 6
  lead-ED : eqb b 0xED ≡ true → Class b 7
  lead-F0 : eqb b 0xF0 ≡ true → Class b 8
  lead-F1 : in_range 0xF1 0xF3 b ≡ true → Class b 9
  lead-F4 : eqb b 0xF4 ≡ true → Class b 10
  other : Class b 11

-- one test of the nest
on : {b x y : ℕ} {t : Bool} → (t ≡ true → Class b x) → Class b y → Class b (elim t [ true ↦ x | false ↦ y ])
on {t = true} f o = f refl
on {t = false} f o = o

-- every octet has passed the test of its class
classed : (b : ℕ) → Class b (class_of b)
unfolding class_of
classed b =
    on ascii
    (on tail_8
    (on tail_9
    (on tail-A
    (on lead-C2 (on lead-E0 (on lead-E1 (on lead-ED (on lead-F0 (on lead-F1 (on lead-F4 other))))))))))

-- the first octet of a class of tails, and the last: 16 to a class, and 32 to the third
abbrev first : ℕ → ℕ
first c = 0x70 + 0x10 * c

abbrev last : ℕ → ℕ
last c = 0x7F + 0x10 * c + 0x10 * (c - 2)

-- an octet of a class of tails lies in that class's range
span : {b c : ℕ} → Class b c → InRange 1 3 c → InRange (first c) (last c) b
span (ascii e) w = omega arith
span (tail_8 e) w = inside e
span (tail_9 e) w = inside e
span (tail-A e) w = inside e
span (lead-C2 e) w = omega arith
span (lead-E0 e) w = omega arith
span (lead-E1 e) w = omega arith
span (lead-ED e) w = omega arith
span (lead-F0 e) w = omega arith
span (lead-F1 e) w = omega arith
span (lead-F4 e) w = omega arith
span other w = omega arith

-- one of two tests passes
either : (a b : Bool) → a || b ≡ true → (a ≡ true) ⊎ (b ≡ true)
either true b e = inl refl
either false b e = inr e

-- a number of tails, the first of a class from low to high, and then characters
data Rest : ℕ → ℕ → ℕ → List ℕ → Type 0 where
  end : {low high : ℕ} {bs : List ℕ} → Utf8 bs → Rest 0 low high bs
  tail : {left low high b : ℕ} {bs : List ℕ} → InRange low high (class_of b) → Rest left 1 3 bs → Rest (suc left) low high (b ∷ bs)

-- a tail of a class from low to high, as a production has it
octet : {low high b : ℕ} → InRange low high (class_of b) → leb 1 low && leb high 3 ≡ true → InRange (first low) (last high) b
octet {low} {high} {b} w e =
    let p = (and-eq-true_iff (leb 1 low) (leb high 3)).0 e in
    omega (arith, span (classed b) (omega (arith, leb-true)))

-- a lead and what completes it are a character
lead : {a c : ℕ} {bs : List ℕ} → Class a c → leads c ≡ true → Rest (tails c) (lowest c) (highest c) bs → Utf8 (a ∷ bs)
unfolding leads tails lowest highest
lead (ascii e) l (end u) = char (utf8_1 (zero-le, leb-true _ _ e)) u
lead (tail_8 e) l r = absurd (false≢true l)
lead (tail_9 e) l r = absurd (false≢true l)
lead (tail-A e) l r = absurd (false≢true l)
lead (lead-C2 e) l (tail b (end u)) = char (utf8_2 (inside e) (octet b refl)) u
lead {a} (lead-E0 e) l (tail b (tail c (end u))) = rw (eqb-true a 0xE0 e) (char (utf8_3-E0 (octet b refl) (octet c refl)) u)
lead {a} (lead-E1 e) l (tail b (tail c (end u))) =
    ⊎_elim
    (λ e. char (utf8_3-E1 (inside e) (octet b refl) (octet c refl)) u)
    (λ e. char (utf8_3-EE (inside e) (octet b refl) (octet c refl)) u)
    (either (in_range 0xE1 0xEC a) (in_range 0xEE 0xEF a) e)
lead {a} (lead-ED e) l (tail b (tail c (end u))) = rw (eqb-true a 0xED e) (char (utf8_3-ED (octet b refl) (octet c refl)) u)
lead {a} (lead-F0 e) l (tail b (tail c (tail d (end u)))) = rw (eqb-true a 0xF0 e) (char (utf8_4-F0 (octet b refl) (octet c refl) (octet d refl)) u)
lead (lead-F1 e) l (tail b (tail c (tail d (end u)))) = char (utf8_4-F1 (inside e) (octet b refl) (octet c refl) (octet d refl)) u
lead {a} (lead-F4 e) l (tail b (tail c (tail d (end u)))) = rw (eqb-true a 0xF4 e) (char (utf8_4-F4 (octet b refl) (octet c refl) (octet d refl)) u)
lead other l r = absurd (false≢true l)

-- a test and what is asked after it pass
guard : {t x : Bool} → elim t [ true ↦ x | false ↦ false ] ≡ true → (t ≡ true) × (x ≡ true)
guard {t = true} e = (refl, e)
guard {t = false} e = absurd (false≢true e)

-- what the check accepts is the tails that are wanted and then characters
sound : (left low high : ℕ) (bs : List ℕ) → utf8_from left low high bs ≡ true → Rest left low high bs
unfolding utf8_from
sound left low high [] e = rw (eqb-true left 0 e) (end none)
sound zero low high (b ∷ bs) e = let p = guard e in end (lead (classed b) p.0 (sound _ _ _ bs p.1))
sound (suc left) low high (b ∷ bs) e = let p = guard e in tail (inside p.0) (sound left 1 3 bs p.1)

-- without tails before them, it is characters
ended : {low high : ℕ} {bs : List ℕ} → Rest 0 low high bs → Utf8 bs
ended (end u) = u

-- every octet from lo to hi has a class from low to high
abbrev spans : ℕ → ℕ → ℕ → ℕ → Bool
spans low high lo hi = every (suc (hi - lo)) (λ i. in_range low high (class_of (lo + i)))

-- an octet from lo to hi has such a class
among : (low high lo hi : ℕ) → spans low high lo hi ≡ true → {b : ℕ} → InRange lo hi b → in_range low high (class_of b) ≡ true
among low high lo hi e {b} w =
    let q : lo + (b - lo) ≡ b = omega arith in
    rw q at (each (suc (hi - lo)) (λ i. in_range low high (class_of (lo + i))) e (b - lo) (omega arith))

-- the check enters a character by a lead from lo to hi, and goes on by a tail from lo to hi
enter : (c lo hi : ℕ) → leads c ≡ true → spans c c lo hi ≡ true → {a : ℕ} → InRange lo hi a
    → (low high : ℕ) (bs : List ℕ) → utf8_from 0 low high (a ∷ bs) ≡ utf8_from (tails c) (lowest c) (highest c) bs
enter c lo hi l e {a} w =
    let p : InRange c c (class_of a) = inside (among c c lo hi e w) in
    begin a (omega arith) l

-- a tail from lo to hi
next : (low high lo hi : ℕ) → spans low high lo hi ≡ true → {b : ℕ} → InRange lo hi b
    → (left : ℕ) (bs : List ℕ) → utf8_from (suc left) low high (b ∷ bs) ≡ utf8_from left 1 3 bs
next low high lo hi e {b} w = go_on b refl low high (among low high lo hi e w)

-- any tail
any : {b : ℕ} → Tail b → (left : ℕ) (bs : List ℕ) → utf8_from (suc left) 1 3 (b ∷ bs) ≡ utf8_from left 1 3 bs
unfolding class_of
any w = next 1 3 0x80 0xBF refl w

-- the range of one octet
exactly : (a : ℕ) → InRange a a a
exactly a = omega arith

-- the check steps over a character
over : (bs : List ℕ) {c : List ℕ} → Character c → utf8 (c ++ bs) ≡ utf8 bs
unfolding utf8 leads tails lowest highest class_of
over bs (utf8_1 a) = rw (enter 0 0x00 0x7F refl refl a) refl
over bs (utf8_2 a b) = rw (enter 4 0xC2 0xDF refl refl a, any b) refl
over bs (utf8_3-E0 b c) = rw (enter 5 0xE0 0xE0 refl refl (exactly 0xE0), next 3 3 0xA0 0xBF refl b, any c) refl
over bs (utf8_3-E1 a b c) = rw (enter 6 0xE1 0xEC refl refl a, any b, any c) refl
over bs (utf8_3-ED b c) = rw (enter 7 0xED 0xED refl refl (exactly 0xED), next 1 2 0x80 0x9F refl b, any c) refl
over bs (utf8_3-EE a b c) = rw (enter 6 0xEE 0xEF refl refl a, any b, any c) refl
over bs (utf8_4-F0 b c d) = rw (enter 8 0xF0 0xF0 refl refl (exactly 0xF0), next 2 3 0x90 0xBF refl b, any c, any d) refl
over bs (utf8_4-F1 a b c d) = rw (enter 9 0xF1 0xF3 refl refl a, any b, any c, any d) refl
over bs (utf8_4-F4 b c d) = rw (enter 10 0xF4 0xF4 refl refl (exactly 0xF4), next 1 1 0x80 0x8F refl b, any c, any d) refl

-- the check steps over characters
pub over_characters : (bs : List ℕ) {cs : List ℕ} → Utf8 cs → utf8 (cs ++ bs) ≡ utf8 bs
over_characters bs none = refl
over_characters bs (char {c} {bs = cs} h u) = rw (append_assoc c cs bs) (over (cs ++ bs) h ∙ over_characters bs u)

-- what the productions make is accepted
complete : {bs : List ℕ} → Utf8 bs → utf8 bs ≡ true
unfolding utf8 utf8_from
complete {bs} u = sym (ap utf8 (append-nil bs)) ∙ over_characters [] u

-- the check accepts exactly what the productions make
pub utf8_exact : (bs : List ℕ) → T (utf8 bs) ↔ Utf8 bs
unfolding utf8
utf8_exact bs = (λ t. ended (sound 0 1 3 bs (is_true (utf8 bs) t)), λ u. rw (complete u) tt)
