-- The laws of the tree that octets are read as: it is read element by element up to the end, an encoding is read back, and octets at another
-- place are read as the same tree there. Assumes nothing.
use Prim.Native.Nat.{ℕ, zero, suc, ◌+◌, ◌-◌, ◌≤◌, ◌<◌}
use mathlib.Core.Path.{◌≡◌, refl, sym, ap, ap₂, ◌∙◌}
use mathlib.Core.Logic.{◌⊎◌, inl, inr}
use mathlib.Core.Bool.{Bool, true, false}
use mathlib.Core.List.{List, [], ◌∷◌, ◌++◌}
use native.Mathlib.Nat.{add_assoc, eq-or-lt_of_le}
use native.Mathlib.Omega.{arith}
use lib.Dec.{T, leb}
use lib.ListN.{length, drop, length-append, length-take, length-drop}
use lib.Seq.{slice, length-slice, drop_at}
use borrow.Author.Tests.{le-leb, lt-leb}
use Rattle.der.specs.declared.cause.Cause.{Cause}
use Rattle.der.specs.steps.Head.{Head, Stands, Broken}
use Rattle.der.specs.declared.element.reading.Element.{Element}
use Rattle.der.specs.meaning.Identifier.{allowed, constructed}
use Rattle.der.specs.steps.Header.{head_of}
use Rattle.der.specs.meaning.Tree.{Tree, none, element, header, encode, Formed, WellFormed, moved}
use Rattle.der.specs.meaning.Bounds.{longest}
use Rattle.der.specs.steps.Reading.{nothing_at, given, read, reading_at, tree_of, tree}
use Rattle.der.proofs.theorems.lists.Parts.{slice_slice, drop_slice, slice_middle, slice_none}
use Rattle.der.proofs.theorems.element.Headers.{head_fits, head_encoded}

-- An element's places lie in order from its first byte to its parent's end: its content starts after its first byte, so the element is not empty.
pub record InOrder (from to : ℕ) (x : Element) : Type 0 where
  pub headed : from < x.content
  pub ordered : x.content ≤ x.end
  pub within : x.end ≤ to

-- if there is an octet, an element is read in order
pub read_in_order : (p : ℕ) (bs : List ℕ) → 0 < length bs → InOrder p (p + length bs) (read p bs)
unfolding read given nothing_at
read_in_order p bs some = by_head (head_of bs) refl
  where
    by_head : (x : Head) → head_of bs ≡ x → InOrder p (p + length bs) (given p bs x)
    by_head (Stands id h n) e =
        let f : (2 ≤ h) × (h + n ≤ length bs) = head_fits bs id h n e in
        record { headed = omega arith; ordered = omega arith; within = omega arith }
    by_head (Broken c) e = record { headed = omega arith; ordered = omega arith; within = omega arith }

-- the content of an element, and the octets after it, are shorter than the octets that it is read from
read_shorter : (p b : ℕ) (bs : List ℕ) → let x = read p (b ∷ bs) in
    (length (slice (x.content - p) (x.end - p) (b ∷ bs)) ≤ length bs) × (length (drop (x.end - p) (b ∷ bs)) ≤ length bs)
read_shorter p b bs =
    let o : InOrder p (p + length (b ∷ bs)) (read p (b ∷ bs)) = read_in_order p (b ∷ bs) (omega arith) in
    (simp (length-drop, length-take) (omega arith), simp length-drop (omega arith))

-- no octets are read as no elements
pub tree_end : (p : ℕ) → tree p [] ≡ none
unfolding tree tree_of
tree_end p = refl

-- the tree of the element x at the place p with this content: what is inside it, if it is constructed, and what is after it
abbrev pub element_at : ℕ → Element → List ℕ → Tree → Tree → Tree
element_at p x content inside rest =
    element x.identifier p (x.end - p) content (elim (constructed x.identifier) [ true ↦ inside | false ↦ none ]) rest

-- any two numbers of levels and siblings that are enough give the same tree
same_tree : (n m p : ℕ) (bs : List ℕ) → length bs ≤ n → length bs ≤ m → tree_of n p bs ≡ tree_of m p bs
unfolding tree_of
same_tree zero zero p bs h k = refl
same_tree zero (suc m) p [] h k = refl
same_tree zero (suc m) p (b ∷ bs) h k = absurd (omega arith)
same_tree (suc n) zero p [] h k = refl
same_tree (suc n) zero p (b ∷ bs) h k = absurd (omega arith)
same_tree (suc n) (suc m) p [] h k = refl
same_tree (suc n) (suc m) p (b ∷ bs) h k =
    let x = read p (b ∷ bs) in
    let content = slice (x.content - p) (x.end - p) (b ∷ bs) in
    let rest = drop (x.end - p) (b ∷ bs) in
    let short = read_shorter p b bs in
    ap₂ (element_at p x content)
    (same_tree n m x.content content (omega arith) (omega arith))
    (same_tree n m x.end rest (omega arith) (omega arith))

-- with at least as many levels and siblings as octets, it is the tree
pub tree_enough : (n p : ℕ) (bs : List ℕ) → length bs ≤ n → tree_of n p bs ≡ tree p bs
unfolding tree
tree_enough n p bs h = same_tree n (length bs) p bs h (omega arith)

-- if there is an octet, the tree is the element that is read there and the tree after it
pub tree_step : (p b : ℕ) (bs : List ℕ) → let x = read p (b ∷ bs) in
    let content = slice (x.content - p) (x.end - p) (b ∷ bs) in
    tree p (b ∷ bs) ≡ element_at p x content (tree x.content content) (tree x.end (drop (x.end - p) (b ∷ bs)))
unfolding tree tree_of
tree_step p b bs =
    let x = read p (b ∷ bs) in
    let content = slice (x.content - p) (x.end - p) (b ∷ bs) in
    let short = read_shorter p b bs in
    ap₂ (element_at p x content)
    (tree_enough (length bs) x.content content short.0)
    (tree_enough (length bs) x.end (drop (x.end - p) (b ∷ bs)) short.1)

-- the same if the element, its content and the octets after it are known
pub tree_parts : (p : ℕ) (bs content rest : List ℕ) (x : Element) → 0 < length bs → read p bs ≡ x
    → slice (x.content - p) (x.end - p) bs ≡ content → drop (x.end - p) bs ≡ rest
    → tree p bs ≡ element_at p x content (tree x.content content) (tree x.end rest)
tree_parts p [] content rest x some e c d = absurd (omega arith)
tree_parts p (b ∷ bs) content rest x some e c d =
    let step : Element → List ℕ → List ℕ → Tree = λ y l m. element_at p y l (tree y.content l) (tree y.end m) in
    tree_step p b bs
    ∙ ap (λ (y : Element). step y (slice (y.content - p) (y.end - p) (b ∷ bs)) (drop (y.end - p) (b ∷ bs))) e
    ∙ ap₂ (step x) c d

-- in an input that is not too long, an element is read from the octets up to its parent's end
pub read_at : (s : List ℕ) (p e : ℕ) → length s ≤ longest → reading_at s p e ≡ read p (slice p e s)
unfolding reading_at
read_at s p e h = rw (reading_at, le-leb (length s) longest h)

-- without an octet there is no element
read_none : (p : ℕ) → read p [] ≡ nothing_at p
unfolding read given head_of
read_none p = ap nothing_at (omega arith)

-- after its parent's end there is no element
pub read_at_end : (s : List ℕ) (p e : ℕ) → e ≤ p → reading_at s p e ≡ nothing_at p
unfolding reading_at
read_at_end s p e past = by_length (leb (length s) longest)
  where
    by_length : (b : Bool) → elim b as (λ x. Element) [ true ↦ read p (slice p e s) | false ↦ nothing_at p ] ≡ nothing_at p
    by_length true = ap (read p) (slice_none p e s (omega arith)) ∙ read_none p
    by_length false = refl

-- if there is no element, the identifier is 0
pub nothing_identifier : (p : ℕ) → (nothing_at p).identifier ≡ 0
unfolding nothing_at
nothing_identifier p = refl

-- a header that stands gives its element
pub read_stands : (p : ℕ) (bs : List ℕ) (id h n : ℕ) → head_of bs ≡ Stands id h n
    → read p bs ≡ record { identifier = id; content = p + h; end = p + h + n }
unfolding read given
read_stands p bs id h n stands = rw stands

-- a broken header gives none, at the end
pub read_broken : (p : ℕ) (bs : List ℕ) {c : Cause} → head_of bs ≡ Broken c → read p bs ≡ nothing_at (p + length bs)
unfolding read given
read_broken p bs broken = rw broken

-- in an input that is too long no element is read
pub read_at_long : (s : List ℕ) (p e : ℕ) → longest < length s → reading_at s p e ≡ nothing_at p
unfolding reading_at
read_at_long s p e long = rw (reading_at, lt-leb _ _ long)

module _ (s : List ℕ) (p e : ℕ) (some : p < e) (fits : e ≤ length s) (high : length s ≤ longest) where
  -- the part has an octet
  part_some : 0 < length (slice p e s)
  part_some = rw (length-slice p e s fits) (omega arith)

  -- by places: an element is read in order
  pub read_at_in_order : InOrder p e (reading_at s p e)
  read_at_in_order =
      let end : p + length (slice p e s) ≡ e = rw (length-slice p e s fits) (omega arith) in
      rw (read_at s p e high) (rw end at (read_in_order p (slice p e s) part_some))

  -- by places: the tree of the octets from p to e is the element that is read there and the tree of the octets from its end to e
  pub tree_at : let x = reading_at s p e in
      let content = slice x.content x.end s in
      tree p (slice p e s) ≡ element_at p x content (tree x.content content) (tree x.end (slice x.end e s))
  tree_at =
      let x = reading_at s p e in
      let o : InOrder p e x = read_at_in_order in
      tree_parts p (slice p e s) _ _ x part_some (sym (read_at s p e high))
      (slice_slice p e x.content x.end s (omega arith) (omega arith) (omega arith))
      (drop_slice p e x.end s (omega arith))

-- by places, whether an element is read or none: its content and its end lie in order between them
pub read_at_within : (s : List ℕ) (p e : ℕ) → p ≤ e → e ≤ length s → length s ≤ longest → let x = reading_at s p e in
    (p ≤ x.content) × (x.content ≤ x.end) × (x.end ≤ e)
unfolding nothing_at
read_at_within s p e order fits high = by_room (eq-or-lt_of_le order)
  where
    by_room : (p ≡ e) ⊎ (p < e) → let x = reading_at s p e in (p ≤ x.content) × (x.content ≤ x.end) × (x.end ≤ e)
    by_room (inl same) = rw (read_at_end s p e (omega arith)) (omega arith)
    by_room (inr some) = let o = read_at_in_order s p e some fits high in omega arith

-- the encoding of an element, and octets after it, are read as that element and those octets
pub tree_encoded : (p id : ℕ) (c more : List ℕ) → T (allowed id) → length c ≤ longest → tree p ((header id c ++ c) ++ more)
    ≡ element id p (length (header id c ++ c)) c (elim (constructed id) [ true ↦ tree (p + length (header id c)) c | false ↦ none ])
    (tree (p + length (header id c ++ c)) more)
unfolding read given header
tree_encoded p id c more known high =
    let h : ℕ = length (header id c) in
    let n : ℕ = length c in
    let bs : List ℕ = (header id c ++ c) ++ more in
    let x : Element = record { identifier = id; content = p + h; end = p + h + n } in
    let sum : length (header id c ++ c) ≡ h + n = length-append (header id c) c in
    let start : p + h - p ≡ h = omega arith in
    let stop : p + h + n - p ≡ h + n = omega arith in
    let same : p + h + n ≡ p + (h + n) = omega arith in
    let content : slice (x.content - p) (x.end - p) bs ≡ c = rw (start, stop) (slice_middle (header id c) c more) in
    let after : drop (x.end - p) bs ≡ more = rw stop (drop_at (header id c ++ c) more (h + n) sum) in
    let found : read p bs ≡ x = rw (read, head_encoded id c more known high) in
    rw sum (rw (stop, same) at (tree_parts p bs c more x (omega arith) found content after))

-- what is inside a well-formed element is read so, if the encoding of what is inside is
inside_read : {place id first whole : ℕ} {content : List ℕ} {inside : Tree} {Inside : Type 0} (q : ℕ)
    → Formed place id first whole content inside Inside → (content ≡ encode inside → Inside → tree q (encode inside) ≡ inside)
    → elim (constructed id) [ true ↦ tree q content | false ↦ none ] ≡ inside
inside_read {id = id} {content = content} {inside = inside} q f known = test (constructed id) refl
  where
    test : (t : Bool) → constructed id ≡ t → elim t [ true ↦ tree q content | false ↦ none ] ≡ inside
    test true e = let (same, formed) = f.filled e in rw same (known same formed)
    test false e = sym (f.valued e).0

-- the encoding of well-formed elements is read as them
pub tree_encode : (left p : ℕ) (t : Tree) → WellFormed left p t → length (encode t) ≤ longest → tree p (encode t) ≡ t
unfolding encode WellFormed
tree_encode left p none w high = tree_end p
tree_encode zero p (element id first whole content inside rest) w high = absurd w
tree_encode (suc left) p (element id first whole content inside rest) w high =
    let f = w.0 in
    let h : ℕ = length (header id content) in
    let n : ℕ = length (header id content ++ content) in
    let long : length ((header id content ++ content) ++ encode rest) ≡ (h + length content) + length (encode rest) = simp length-append in
    let within = inside_read (p + h) f (λ e i. tree_encode left (p + h) inside i (omega (arith, ap length e))) in
    let after : tree (p + n) (encode rest) ≡ rest = rw f.sized at (tree_encode (suc left) (p + whole) rest w.1 (omega arith)) in
    tree_encoded p id content (encode rest) f.identified (omega arith)
    ∙ rw (f.placed, f.sized) (ap₂ (element id p n content) within after)

-- the same element d bytes further on
abbrev pub further : ℕ → Element → Element
further d x = record { identifier = x.identifier; content = d + x.content; end = d + x.end }

-- octets further on are read as the same element, further on
pub read_moved : (d p : ℕ) (bs : List ℕ) → read (d + p) bs ≡ further d (read p bs)
unfolding read given nothing_at
read_moved d p bs = by_head (head_of bs)
  where
    by_head : (x : Head) → given (d + p) bs x ≡ further d (given p bs x)
    by_head (Stands id h n) = rw (add_assoc d p h, add_assoc d (p + h) n)
    by_head (Broken c) = rw (add_assoc d p (length bs))

-- what is inside, if the element is constructed, further on
inside_moved : (d : ℕ) (t : Bool) (i j : Tree) → i ≡ moved d j → elim t [ true ↦ i | false ↦ none ] ≡ moved d (elim t [ true ↦ j | false ↦ none ])
unfolding moved
inside_moved d true i j e = e
inside_moved d false i j e = refl

-- the same of the tree with a bound on levels and siblings
tree_of_moved : (n d p : ℕ) (bs : List ℕ) → tree_of n (d + p) bs ≡ moved d (tree_of n p bs)
unfolding tree_of moved
tree_of_moved zero d p bs = refl
tree_of_moved (suc n) d p [] = refl
tree_of_moved (suc n) d p (b ∷ bs) =
    let l : List ℕ = b ∷ bs in
    let x = read p l in
    let w : ℕ = x.end - p in
    let content : List ℕ = slice (x.content - p) w l in
    let z = further d x in
    let step : Element → ℕ → ℕ → Tree = λ y c e.
    element y.identifier (d + p) e (slice c e l) (elim (constructed y.identifier) [ true ↦ tree_of n y.content (slice c e l) | false ↦ none ])
    (tree_of n y.end (drop e l)) in
    let start : z.content - (d + p) ≡ x.content - p = omega arith in
    let stop : z.end - (d + p) ≡ w = omega arith in
    ap (λ (y : Element). step y (y.content - (d + p)) (y.end - (d + p))) (read_moved d p l)
    ∙ ap₂ (step z) start stop
    ∙ ap₂ (element x.identifier (d + p) w content)
    (inside_moved d (constructed x.identifier) _ _ (tree_of_moved n d x.content content))
    (tree_of_moved n d x.end (drop w l))

-- octets further on are read as the same elements, further on
pub tree_moved : (d p : ℕ) (bs : List ℕ) → tree (d + p) bs ≡ moved d (tree p bs)
unfolding tree
tree_moved d p bs = tree_of_moved (length bs) d p bs
