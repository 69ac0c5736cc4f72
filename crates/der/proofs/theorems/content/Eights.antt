-- Document 02's A2: stepping over eight octets below 80 steps over eight characters, so it changes no answer. An octet below 80 is a
-- character by itself, and characters one after another are UTF-8. Assumes nothing.
use Prim.Native.Nat.{ℕ, zero, suc, ◌+◌, ◌-◌, ◌≤◌, ◌<◌, zero-le}
use Rattle.std.specs.Prelude.{Some, None, cond}
use Rattle.std.specs.List.{position, position_or_len}
use Rattle.std.proofs.lemmas.List.Quantifiers.{position-Some}
use Rattle.std.proofs.lemmas.List.Sums.{prefix_len_passes}
use mathlib.Core.Bool.{Bool, true, false, not}
use mathlib.Core.List.{List, [], ◌∷◌, ◌++◌, append_assoc}
use mathlib.Core.Logic.{◌↔◌}
use mathlib.Core.Path.{◌≡◌, refl, sym, ap, ◌∙◌}
use native.Mathlib.Nat.{add-zero, zero-add}
use native.Mathlib.Numerals.{add-one}
use native.Mathlib.Omega.{arith}
use borrow.Author.Tests.{ltb-true, ltb-false, leb-true, leb-false, not-true}
use lib.Dec.{ltb, leb}
use lib.ListN.{length, get_or, drop, length-drop, take-append-drop}
use lib.Seq.{take-suc, get_or-drop}
use Rattle.der.specs.meaning.Utf8.{Character, utf8_1, Utf8, none, char}
use Rattle.der.specs.meaning.Eights.{Ascii, NextEightAscii, MayBegin, StepsOver, eight, one, AsciiFirst}
use Rattle.der.specs.steps.Utf8Classes.{utf8}
use Rattle.der.proofs.theorems.content.Productions.{over_characters, utf8_exact}

-- "such bytes" are those that are a character each
pub ascii_exactly : (octet : ℕ) → Ascii octet ↔ Character (octet ∷ [])
ascii_exactly octet = (λ a. utf8_1 {a = octet} (zero-le, omega arith), below octet)
  where
    below : (o : ℕ) → Character (o ∷ []) → Ascii o
    below o (utf8_1 w) = omega (arith, w.1)

-- characters after characters are UTF-8
joined : {ps qs : List ℕ} → Utf8 ps → Utf8 qs → Utf8 (ps ++ qs)
joined none v = v
joined (char {c} {bs} h u) v = rw (append_assoc c bs _) (char h (joined u v))

module _ (text : List ℕ) where
  -- an octet below 80 is a character
  one_character : (place : ℕ) → place < length text → Ascii (get_or text place 0) → MayBegin text place → MayBegin text (place + 1)
  one_character place h a u = rw (add-one place, take-suc text place 0 h) (joined u (char ((ascii_exactly (get_or text place 0)).0 a) none))

  -- so many octets below 80 are as many characters
  pub ascii_characters : (n place : ℕ) → place + n ≤ length text → ((k : ℕ) → k < n → Ascii (get_or text (place + k) 0))
      → MayBegin text place → MayBegin text (place + n)
  ascii_characters zero place h a u = rw (add-zero place) u
  ascii_characters (suc n) place h a u =
      let on : place + n + 1 ≡ place + suc n = omega arith in
      rw on at
      (one_character (place + n) (omega arith) (a n (omega arith)) (ascii_characters n place (omega arith) (λ k l. a k (omega arith)) u))

  -- "eight at once": a character may begin after them too
  pub eight_characters : {place : ℕ} → MayBegin text place → NextEightAscii text place → MayBegin text (place + 8)
  eight_characters {place} u n = ascii_characters 8 place n.stand n.ascii u

  -- plain ASCII is characters, up to where it ends
  pub ascii_begins : {count : ℕ} → count ≤ length text → ((k : ℕ) → k < count → Ascii (get_or text k 0)) → MayBegin text count
  ascii_begins {count} h a = rw (zero-add count) at (ascii_characters count 0 (rw (zero-add count) h) (λ k l. rw (zero-add k) (a k l)) none)

  -- ASCII before the place, and the next eight: ASCII before the place after them
  pub ascii_further : {place : ℕ} → ((k : ℕ) → k < place → Ascii (get_or text k 0)) → NextEightAscii text place
      → (k : ℕ) → k < place + 8 → Ascii (get_or text k 0)
  ascii_further {place} a n k h = go (ltb k place) refl
    where
      go : (t : Bool) → ltb k place ≡ t → Ascii (get_or text k 0)
      go true e = a k (ltb-true k place e)
      go false e =
          let g = ltb-false k place e in
          let here : place + (k - place) ≡ k = omega arith in
          rw here at (n.ascii (k - place) (omega arith))

  -- where a character may begin, the text is UTF-8 exactly if the rest is
  begin_kept : (place : ℕ) → MayBegin text place → Utf8 text ↔ Utf8 (drop place text)
  begin_kept place u =
      let rest = drop place text in
      let same : utf8 text ≡ utf8 rest = sym (ap utf8 (take-append-drop place text)) ∙ over_characters rest u in
      (λ t. (utf8_exact rest).0 (rw same at ((utf8_exact text).1 t)), λ t. (utf8_exact text).0 (rw same ((utf8_exact rest).1 t)))

  -- "Answers stay the same for every text": it is UTF-8 exactly if what follows the eight octets is
  pub answer_kept : {place : ℕ} → MayBegin text place → NextEightAscii text place → Utf8 text ↔ Utf8 (drop (place + 8) text)
  answer_kept {place} u n = begin_kept (place + 8) (eight_characters u n)

  -- the next eight are the first eight of what stands from the place on
  pub next_eight : (place : ℕ) {P : Type 0} → place + 8 ≤ length text → P ↔ ((k : ℕ) → k < 8 → Ascii (get_or (drop place text) k 0)) → P ↔ NextEightAscii text place
  next_eight place h b = (
    λ p. record { stand = h; ascii = λ k l. rw (get_or-drop place text k 0) at (b.0 p k l) },
    λ n. b.1 (λ k l. rw (get_or-drop place text k 0) (n.ascii k l)),
  )

  -- "eight at once wherever the next eight are such bytes": there, and nowhere else
  pub eight_exactly : {place octets : ℕ} → StepsOver text place octets → (octets ≡ 8) ↔ (MayBegin text place × NextEightAscii text place)
  eight_exactly (eight u n e) = (λ q. (u, n), λ p. e)
  eight_exactly (one f e) = (λ q. absurd (omega arith), λ p. absurd (f p.0 p.1))

  -- no step ends past the end of the text
  pub steps_within : {place octets : ℕ} → place < length text → StepsOver text place octets → place + octets ≤ length text
  steps_within {place} h (eight u n e) = rw e n.stand
  steps_within {place} h (one f e) = omega arith

  -- at each place there is one step
  pub steps_once : {place m n : ℕ} → StepsOver text place m → StepsOver text place n → m ≡ n
  steps_once (eight u n e) (eight v o f) = e ∙ sym f
  steps_once (eight u n e) (one g f) = absurd (g u n)
  steps_once (one g e) (eight v o f) = absurd (g v o)
  steps_once (one g e) (one h f) = e ∙ sym f

  -- no text has two counts of the ASCII that stands first
  first_once : {m n : ℕ} → AsciiFirst text m → AsciiFirst text n → m < n → ⊥
  first_once {m} f g h = f.ended (omega (arith, g.within)) (g.ascii m h)

  -- the ASCII that stands first has one end
  pub ascii_once : {m n : ℕ} → AsciiFirst text m → AsciiFirst text n → m ≡ n
  ascii_once {m} {n} f g = go (ltb m n) (ltb n m) refl refl
    where
      go : (s t : Bool) → ltb m n ≡ s → ltb n m ≡ t → m ≡ n
      go true t e d = absurd (first_once f g (ltb-true m n e))
      go false true e d = absurd (first_once g f (ltb-true n m d))
      go false false e d = omega (arith, ltb-false m n e, ltb-false n m d)

-- ASCII before the place, and a search for the first octet from there on that is 80 or above.
module _ (text : List ℕ) (place : ℕ) (within : place ≤ length text) (a : (k : ℕ) → k < place → Ascii (get_or text k 0)) where
  -- ASCII further on
  ascii_on : (n : ℕ) → ((k : ℕ) → k < n → leb 0x80 (get_or (drop place text) k 0) ≡ false) → (k : ℕ) → k < place + n → Ascii (get_or text k 0)
  ascii_on n below k h = go (ltb k place) refl
    where
      go : (t : Bool) → ltb k place ≡ t → Ascii (get_or text k 0)
      go true e = a k (ltb-true k place e)
      go false e =
          let g = ltb-false k place e in
          let here : place + (k - place) ≡ k = omega arith in
          rw here at (rw (get_or-drop place text (k - place) 0) at (leb-false 0x80 _ (below (k - place) (omega arith))))

  -- one is found
  pub ascii_found : (n : ℕ) → position (λ b. leb 0x80 b) (drop place text) ≡ Some n → AsciiFirst text (place + n)
  ascii_found n found =
      let first = position-Some (λ b. leb 0x80 b) (drop place text) n 0 found in
      let size = length-drop place text in
      record {
        within = omega (arith, first.0);
        ascii = ascii_on n first.2;
        ended = λ more low. let high = leb-true 0x80 _ (rw (get_or-drop place text n 0) at first.1) in omega arith;
      }

  -- none is found
  pub ascii_whole : position (λ b. leb 0x80 b) (drop place text) ≡ None → AsciiFirst text (length text)
  ascii_whole lost =
      let size = length-drop place text in
      let all = ltb-false _ _ (go (ltb (position_or_len (λ b. leb 0x80 b) (drop place text)) (length (drop place text))) lost) in
      let end : place + (length text - place) ≡ length text = omega arith in
      record {
        within = omega arith;
        ascii = rw end at (ascii_on (length text - place) (λ k h. not-true _ (prefix_len_passes (λ b. not (leb 0x80 b)) (drop place text) k 0 (omega arith))));
        ended = λ more low. omega arith;
      }
    where
      go : (t : Bool) → cond t (Some (position_or_len (λ b. leb 0x80 b) (drop place text))) None ≡ None → t ≡ false
      go true e = let z : ◌≡◌ {A = ℕ} 0 1 = cc in absurd (omega arith)
      go false e = refl
