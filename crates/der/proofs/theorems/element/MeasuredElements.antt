-- What measuring answers by the encoding alone: octets have a span exactly if they begin with a header, whatever its identifier is, and its
-- content, which is no longer than an input may be. Assumes nothing.
use Prim.Native.Nat.{ℕ, zero, suc, ◌+◌, ◌-◌, ◌≤◌}
use mathlib.Core.Path.{◌≡◌, refl, sym, ap, ◌∙◌}
use mathlib.Core.Logic.{◌↔◌}
use mathlib.Core.Bool.{Bool, true, false}
use mathlib.Core.List.{List, [], ◌∷◌, ◌++◌, append_assoc}
use native.Mathlib.Omega.{arith}
use lib.Dec.{leb, ltb}
use lib.ListN.{length, take, drop, length-append, take-append-drop}
use lib.Seq.{length-take-le}
use borrow.Author.Tests.{leb-true, leb-false, ltb-true}
use Rattle.der.specs.meaning.Bounds.{longest}
use Rattle.der.specs.meaning.Octets.{Octets}
use Rattle.der.specs.meaning.Length.{Length, missing, wrong, octets, value_from, length_of, length_octets}
use Rattle.der.specs.meaning.Tree.{header}
use Rattle.der.specs.steps.Span.{no_span, span_by, span_of}
use Rattle.der.proofs.theorems.element.Length.{long_read, never_missing, Shortest, length_encoded, length_octets_lem}
use Rattle.der.proofs.theorems.element.Spans.{Spanned, spanned, span_by_lem, length_large}
use Rattle.der.proofs.theorems.element.SpanWays.{span_there, span_unfit}
use Rattle.der.proofs.theorems.lists.Parts.{octets_rest, octets_take, length_part}
use Rattle.der.proofs.theorems.reading.Trees.{header_some}

-- The octets begin with a header of h octets, whatever its identifier is, and a content of n octets, which is not too long.
pub record Begins (bs : List ℕ) (h n : ℕ) : Type 0 where
  pub identifier : ℕ
  pub content : List ℕ
  pub after : List ℕ
  pub split : bs ≡ (header identifier content ++ content) ++ after
  pub headed : h ≡ length (header identifier content)
  pub sized : n ≡ length content
  pub short : n ≤ longest

-- two octets or fewer give 65,535 or less
value_few : (bs : List ℕ) → Octets bs → length bs ≤ 2 → value_from 0 bs ≤ longest
unfolding value_from Octets
value_few [] o few = omega arith
value_few (b ∷ []) o few = omega (arith, o 0)
value_few (b ∷ c ∷ []) o few = omega (arith, o 0, o 1)
value_few (b ∷ c ∷ d ∷ bs) o few = absurd (omega arith)

-- length octets that are three or fewer give 65,535 or less
length_few : (bs : List ℕ) (k n : ℕ) → Octets bs → length_of bs ≡ octets k n → k ≤ 3 → n ≤ longest
unfolding length_of
length_few [] k n o e few = never_missing e
length_few (b ∷ bs) k n o e few = go (ltb b 0x80) refl
  where
    go : (t : Bool) → ltb b 0x80 ≡ t → n ≤ longest
    go true p = let h : octets 1 b ≡ octets k n = rw (length_of, p) at e in (let is : n ≡ b = cc in omega (arith, ltb-true b 0x80 p))
    go false p =
        let j = b - 0x80 in
        let l = long_read j bs k n (rw (length_of, p) at e) in
        let size = length-take-le j bs l.fits in
        omega (arith, l.valued, value_few (take j bs) (octets_take j bs (octets_rest b bs o)) (omega (arith, l.counted)))

-- a span is such a header and its content
begun : (id : ℕ) (bs : List ℕ) → Octets bs → Spanned id bs → Begins (id ∷ bs) (span_of (id ∷ bs)).octets (span_of (id ∷ bs)).length
unfolding header
begun id bs o x =
    let k = x.count in
    let n = x.size in
    let high = length_few bs k n o x.measured x.few in
    let s : Shortest bs k n = length_octets_lem bs k n o high x.measured in
    let c : List ℕ = take n (drop k bs) in
    let more : List ℕ = drop n (drop k bs) in
    let long : length c ≡ n = length_part bs k n x.fits in
    let own : length_octets (length c) ≡ take k bs = rw long (sym s.taken) in
    let whole : (take k bs ++ c) ++ more ≡ bs = rw (append_assoc (take k bs) c more, take-append-drop n (drop k bs)) (take-append-drop k bs) in
    record {
      identifier = id;
      content = c;
      after = more;
      split = rw own (ap (λ l. id ∷ l) (sym whole));
      headed = x.before ∙ rw (long, s.counted);
      sized = x.content ∙ sym long;
      short = omega (arith, x.content);
    }

-- a length that is read as 65,535 or less is read from three octets or fewer
few_read : (bs : List ℕ) (k n : ℕ) → length_of bs ≡ octets k n → n ≤ longest → k ≤ 3
few_read bs k n e short = go (leb k 3) refl
  where
    go : (t : Bool) → leb k 3 ≡ t → k ≤ 3
    go true p = leb-true k 3 p
    go false p = absurd (omega (arith, length_large bs k n e (leb-false k 3 p)))

-- such a header and its content are a span
span_begun : (bs : List ℕ) (h n : ℕ) → Begins bs h n → span_of bs ≡ record { octets = h; length = n }
unfolding header
span_begun bs h n x =
    let id = x.identifier in
    let c = x.content in
    let ls : List ℕ = length_octets (length c) in
    let rest : List ℕ = (ls ++ c) ++ x.after in
    let short : length c ≤ longest = omega (arith, x.sized, x.short) in
    let read : length_of rest ≡ octets (length ls) (length c) = rw append_assoc (length_encoded (length c) (c ++ x.after) short) in
    let fits : length ls + length c ≤ length rest = simp length-append (omega arith) in
    rw (x.split, x.headed, x.sized)
    (span_by_lem id rest read ∙ span_there (length rest) (length ls) (length c) (few_read rest (length ls) (length c) read short) fits)

-- without octets before the content there is no span
span_lost : (bs : List ℕ) → (span_of bs).octets ≡ 0 → span_of bs ≡ no_span
unfolding span_of span_by
span_lost [] lost = refl
span_lost (id ∷ bs) lost = go (length_of bs) refl
  where
    tests : (k n : ℕ) → length_of bs ≡ octets k n → (s t : Bool) → leb k 3 ≡ s → leb (k + n) (length bs) ≡ t → span_of (id ∷ bs) ≡ no_span
    tests k n e true true p q =
        let there = span_by_lem id bs e ∙ span_there (length bs) k n (leb-true k 3 p) (leb-true (k + n) (length bs) q) in
        let is : suc k ≡ 0 = sym (ap (λ x. x.octets) there) ∙ lost in
        absurd (omega arith)
    tests k n e true false p q = span_by_lem id bs e ∙ sym (span_unfit (length bs) k n (λ few fits. omega (arith, leb-false (k + n) (length bs) q)))
    tests k n e false t p q = span_by_lem id bs e ∙ sym (span_unfit (length bs) k n (λ few fits. omega (arith, leb-false k 3 p)))

    go : (l : Length) → length_of bs ≡ l → span_of (id ∷ bs) ≡ no_span
    go missing e = span_by_lem id bs e
    go wrong e = span_by_lem id bs e
    go (octets k n) e = tests k n e (leb k 3) (leb (k + n) (length bs)) refl refl

-- Octets begin with a header and its content, of h and n octets; or with none, and both are 0.
pub data Measures (bs : List ℕ) : ℕ → ℕ → Type 0 where
  begins : {h n : ℕ} → Begins bs h n → Measures bs h n
  nothing : ((h n : ℕ) → Begins bs h n → ⊥) → Measures bs 0 0

-- octets with a span begin so
span_begins : (bs : List ℕ) → Octets bs → ((span_of bs).octets ≡ 0 → ⊥) → Begins bs (span_of bs).octets (span_of bs).length
unfolding span_of
span_begins [] o some = absurd (some refl)
span_begins (id ∷ bs) o some = begun id bs (octets_rest id bs o) (spanned id bs some)

-- octets without one do not
lost_begins : (bs : List ℕ) → span_of bs ≡ no_span → (h n : ℕ) → Begins bs h n → ⊥
lost_begins bs lost h n x =
    let none : 0 ≡ h = ap (λ y. y.octets) (sym lost ∙ span_begun bs h n x) in
    omega (arith, x.headed, header_some x.identifier x.content)

-- What is measured is exactly that, for all octets.
pub span_exact : (bs : List ℕ) → Octets bs → (h n : ℕ) → span_of bs ≡ record { octets = h; length = n } ↔ Measures bs h n
span_exact bs o h n = (λ e. rw e at (told (span_of bs).octets refl), found)
  where
    told : (k : ℕ) → (span_of bs).octets ≡ k → Measures bs (span_of bs).octets (span_of bs).length
    told zero lost = let none = span_lost bs lost in rw none (nothing (lost_begins bs none))
    told (suc k) some = begins (span_begins bs o (λ lost. omega arith))

    absent : ((h n : ℕ) → Begins bs h n → ⊥) → (k : ℕ) → (span_of bs).octets ≡ k → span_of bs ≡ no_span
    absent none zero lost = span_lost bs lost
    absent none (suc k) some = absurd (none (span_of bs).octets (span_of bs).length (span_begins bs o (λ lost. omega arith)))

    found : {h n : ℕ} → Measures bs h n → span_of bs ≡ record { octets = h; length = n }
    found (begins {h} {n} x) = span_begun bs h n x
    found (nothing none) = absent none (span_of bs).octets refl
