-- The recogniser takes exactly the encodings of well-formed trees: octets that are a list are the encoding of a well-formed tree and not too
-- long, and an element without a fault is a well-formed tree of that element alone. Assumes nothing.
use Prim.Native.Nat.{ℕ, suc, ◌+◌, ◌≤◌}
use mathlib.Core.Path.{◌≡◌, refl, sym, ap, ◌∙◌}
use mathlib.Core.Logic.{◌↔◌}
use mathlib.Core.Bool.{Bool, true, false, false≢true, and-eq-true_iff}
use mathlib.Core.List.{List, ◌++◌}
use native.Mathlib.Omega.{arith}
use lib.ListN.{length}
use Rattle.der.specs.steps.Nest.{Nest, End, Fault}
use Rattle.der.specs.meaning.Octets.{Octets}
use Rattle.der.specs.meaning.Bounds.{longest}
use Rattle.der.specs.meaning.Identifier.{allowed, constructed}
use Rattle.der.specs.meaning.Content.{Content}
use Rattle.der.specs.meaning.Order.{Closing}
use Rattle.der.specs.meaning.Tree.{Tree, none, element, header, encode, members, WellFormed}
use Rattle.der.specs.steps.ContentTest.{holds}
use Rattle.der.specs.steps.Order.{closes}
use Rattle.der.specs.steps.Explain.{list_of, element_of}
use Rattle.der.specs.steps.Recognise.{faultless, is_list, is_element}
use Rattle.der.proofs.theorems.content.ContentRules.{content_exact}
use Rattle.der.proofs.theorems.closing.Closing.{closing_none, closes_encoded}
use Rattle.der.proofs.theorems.element.Headers.{passed}
use Rattle.der.proofs.theorems.explain.Exact.{list_sound, list_complete}
use Rattle.der.proofs.theorems.recognise.Recognising.{is_list_listed, is_list_short, is_element_refused, is_element_inside, is_element_value}

-- Octets that are not too many are the encoding of a tree that is well-formed at a place, with the levels of depth that are left.
pub record ListEncoded (left p : ℕ) (bs : List ℕ) : Type 0 where
  pub short : length bs ≤ longest
  pub tree : Tree
  pub formed : WellFormed left p tree
  pub encoded : encode tree ≡ bs

-- Octets are recognised as a list, wherever they are, exactly if they are not too many and the encoding of a well-formed tree.
pub is_list_exact : (left p : ℕ) (bs : List ℕ) → Octets bs → is_list left bs ≡ true ↔ ListEncoded left p bs
unfolding faultless
is_list_exact left p bs octets = (λ is. found is (list_of (element_of left) (length bs) p bs) refl, recognised)
  where
    listed : length bs ≤ longest → is_list left bs ≡ faultless (list_of (element_of left) (length bs) p bs)
    listed short = is_list_listed left (length bs) p bs short (omega arith)

    found : is_list left bs ≡ true → (r : Nest) → list_of (element_of left) (length bs) p bs ≡ r → ListEncoded left p bs
    found is (End q) ends =
        let short = is_list_short left bs is in
        let k = list_sound left (length bs) p q bs (omega arith) octets short ends in
        record { short = short; tree = k.tree; formed = k.formed; encoded = sym k.whole }
    found is (Fault n q d) faulty = absurd (false≢true (ap faultless (sym faulty) ∙ sym (listed (is_list_short left bs is)) ∙ is))

    recognised : ListEncoded left p bs → is_list left bs ≡ true
    recognised x =
        let size = ap length x.encoded in
        let ends = list_complete left (length (encode x.tree)) p x.tree x.formed (omega (arith, x.short)) (omega arith) in
        listed x.short ∙ ap faultless (rw x.encoded at ends)

-- A tree of one element with the identifier and the content, well-formed at a place, with `left` levels of depth left inside the element; a
-- list inside it is not too long.
pub record OneFormed (id left p : ℕ) (content : List ℕ) : Type 0 where
  pub first : ℕ
  pub whole : ℕ
  pub inside : Tree
  pub formed : WellFormed (suc left) p (element id first whole content inside none)
  pub short : constructed id ≡ true → length content ≤ longest

-- An identifier and a content are recognised as an element exactly if there is such a tree, at any place.
pub is_element_exact : (id left p : ℕ) (c : List ℕ) → Octets c → is_element id left c ≡ true ↔ OneFormed id left p c
unfolding WellFormed members
is_element_exact id left p c octets = (λ is. found is (allowed id) refl (constructed id) refl, recognised (constructed id) refl)
  where
    one : allowed id ≡ true → (inside : Tree)
        → (constructed id ≡ true → (length c ≤ longest) × ((c ≡ encode inside) × WellFormed left (p + length (header id c)) inside))
        → Closing id (members inside) → (constructed id ≡ false → (inside ≡ none) × Content id c) → OneFormed id left p c
    one known inside filled closing valued =
        record {
          first = p;
          whole = length (header id c ++ c);
          inside = inside;
          formed = (
            record { placed = refl; sized = refl; identified = rw known tt; filled = λ made. (filled made).1; closing = closing; valued = valued },
            tt,
          );
          short = λ made. (filled made).0;
        }

    found : is_element id left c ≡ true → (a : Bool) → allowed id ≡ a → (b : Bool) → constructed id ≡ b → OneFormed id left p c
    found is false wrong b kind = absurd (false≢true (sym (is_element_refused id left c wrong) ∙ is))
    found is true known true made =
        let q = p + length (header id c) in
        let both = (and-eq-true_iff (is_list left c) (closes id c)).0 (sym (is_element_inside id left c known made) ∙ is) in
        let x = (is_list_exact left q c octets).0 both.0 in
        let size = ap length x.encoded in
        let closing = (closes_encoded id left q x.tree x.formed (omega (arith, x.short))).0 (ap (closes id) x.encoded ∙ both.1) in
        one known x.tree (λ m. (x.short, (sym x.encoded, x.formed))) closing (λ plain. absurd (false≢true (sym plain ∙ made)))
    found is true known false plain =
        let kept = sym (is_element_value id left c known plain) ∙ is in
        one known none (λ made. absurd (false≢true (sym plain ∙ made))) (closing_none id) (λ e. (refl, (content_exact id c).0 (rw kept tt)))

    recognised : (b : Bool) → constructed id ≡ b → OneFormed id left p c → is_element id left c ≡ true
    recognised true made x =
        let f = x.formed.0 in
        let (same, formed) = f.filled made in
        let q = p + length (header id c) in
        let size = ap length same in
        let listed = (is_list_exact left q c octets).1 (record { short = x.short made; tree = x.inside; formed = formed; encoded = sym same }) in
        let kept = (closes_encoded id left q x.inside formed (omega (arith, x.short made))).1 f.closing in
        is_element_inside id left c (passed (allowed id) f.identified) made
        ∙ (and-eq-true_iff (is_list left c) (closes id c)).1 (listed, ap (closes id) same ∙ kept)
    recognised false plain x =
        let f = x.formed.0 in
        is_element_value id left c (passed (allowed id) f.identified) plain ∙ passed (holds id c) ((content_exact id c).1 (f.valued plain).1)
