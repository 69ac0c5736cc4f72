-- What is read at a place by the encoding alone: an element exactly if its header and its content stand there before the end, and its
-- identifier is allowed; of a well-formed tree its first element. Assumes nothing.
use Prim.Native.Nat.{ℕ, zero, suc, ◌+◌, ◌≤◌}
use mathlib.Core.Path.{◌≡◌, refl, sym, ap, ◌∙◌}
use mathlib.Core.Logic.{◌↔◌}
use mathlib.Core.List.{List, ◌++◌, append_assoc}
use native.Mathlib.Omega.{arith}
use lib.Dec.{T}
use lib.ListN.{length, take, drop, length-append}
use lib.Seq.{slice}
use Rattle.der.specs.steps.Head.{Head, Stands, Broken}
use Rattle.der.specs.declared.element.reading.Element.{Element}
use Rattle.der.specs.meaning.Bounds.{longest}
use Rattle.der.specs.meaning.Octets.{Octets}
use Rattle.der.specs.meaning.Identifier.{allowed}
use Rattle.der.specs.meaning.Tree.{Tree, element, header, encode, WellFormed}
use Rattle.der.specs.steps.Header.{head_of}
use Rattle.der.specs.steps.Reading.{nothing_at, read, reading_at}
use Rattle.der.proofs.theorems.element.Headers.{head_encoded, head_octets, head_fits}
use Rattle.der.proofs.theorems.explain.Steps.{stands_broken}
use Rattle.der.proofs.theorems.lists.Parts.{octets_take, octets_drop, length_part, slice_size}
use Rattle.der.proofs.theorems.reading.Readings.{read_at, read_stands, read_broken}
use Rattle.der.proofs.theorems.reading.Trees.{encode_element}

-- Octets at a place begin with an element: its header, with an identifier that is allowed, and its content.
pub record Standing (p : ℕ) (bs : List ℕ) (x : Element) : Type 0 where
  pub content : List ℕ
  pub after : List ℕ
  pub split : bs ≡ (header x.identifier content ++ content) ++ after
  pub known : T (allowed x.identifier)
  pub starts : x.content ≡ p + length (header x.identifier content)
  pub ends : x.end ≡ x.content + length content

-- an element that stands there has its header read
standing_head : (p : ℕ) (bs : List ℕ) (x : Element) → length bs ≤ longest → (s : Standing p bs x)
    → head_of bs ≡ Stands x.identifier (length (header x.identifier s.content)) (length s.content)
standing_head p bs x short s =
    let c = s.content in
    let h = header x.identifier c in
    let size = ap length s.split ∙ length-append (h ++ c) s.after in
    let sized = length-append h c in
    rw s.split (head_encoded x.identifier c s.after s.known (omega arith))

-- so it is read
standing_read : (p : ℕ) (bs : List ℕ) (x : Element) → length bs ≤ longest → Standing p bs x → read p bs ≡ x
standing_read p bs x short s =
    let h = length (header x.identifier s.content) in
    let n = length s.content in
    let stop : p + h + n ≡ x.end = omega (arith, s.starts, s.ends) in
    let start : p + h ≡ x.content = sym s.starts in
    read_stands p bs x.identifier h n (standing_head p bs x short s) ∙ rw (stop, start)

-- What is read at a place: an element that stands there, or, if none does, none with an empty content at the end.
pub data ReadAs (p : ℕ) (bs : List ℕ) (x : Element) : Type 0 where
  stands : Standing p bs x → ReadAs p bs x
  nothing : ((y : Element) → Standing p bs y → ⊥) → x ≡ record { identifier = 0; content = p + length bs; end = p + length bs } → ReadAs p bs x

-- a header that stands gives an element that stands there
head_standing : (p : ℕ) (bs : List ℕ) → Octets bs → length bs ≤ longest → (id h n : ℕ) → head_of bs ≡ Stands id h n
    → Standing p bs (record { identifier = id; content = p + h; end = p + h + n })
head_standing p bs o short id h n e =
    let (known, front, split) = head_octets bs id h n o short e in
    let size = length_part bs h n (head_fits bs id h n e).1 in
    record {
      content = take n (drop h bs);
      after = drop (h + n) bs;
      split = split;
      known = known;
      starts = ap (λ k. p + k) front;
      ends = omega (arith, size);
    }

-- the same over the octets from the place to the end
read_standing : (p : ℕ) (bs : List ℕ) → Octets bs → length bs ≤ longest → (x : Element) → read p bs ≡ x ↔ ReadAs p bs x
unfolding nothing_at
read_standing p bs o short x = (λ e. rw e at (told (head_of bs) refl), found)
  where
    told : (r : Head) → head_of bs ≡ r → ReadAs p bs (read p bs)
    told (Broken c) e = nothing (λ y s. stands_broken (standing_head p bs y short s) e) (read_broken p bs e)
    told (Stands id h n) e = rw (read_stands p bs id h n e) (stands (head_standing p bs o short id h n e))

    absent : ((y : Element) → Standing p bs y → ⊥) → (r : Head) → head_of bs ≡ r → read p bs ≡ nothing_at (p + length bs)
    absent none (Broken c) e = read_broken p bs e
    absent none (Stands id h n) e = absurd (none _ (head_standing p bs o short id h n e))

    found : ReadAs p bs x → read p bs ≡ x
    found (stands s) = standing_read p bs x short s
    found (nothing none e) = absent none (head_of bs) refl ∙ sym e

-- In an input that is not too long, an element is read exactly if it stands at the place and ends no later than its parent.
pub read_exact : (s : List ℕ) → Octets s → length s ≤ longest → (p e : ℕ) (x : Element) → reading_at s p e ≡ x ↔ ReadAs p (slice p e s) x
read_exact s o short p e x =
    rw (read_at s p e short)
    (read_standing p (slice p e s) (octets_drop p (take e s) (octets_take e s o)) (omega (arith, slice_size p e s)) x)

-- Where the encoding of a well-formed tree stands, its first element is read, up to its own end.
pub read_tree : (s : List ℕ) → length s ≤ longest → (left p e id first whole : ℕ) (c more : List ℕ) (inside rest : Tree)
    → WellFormed left p (element id first whole c inside rest) → slice p e s ≡ encode (element id first whole c inside rest) ++ more
    → reading_at s p e ≡ record { identifier = id; content = first + length (header id c); end = first + whole }
unfolding WellFormed
read_tree s short zero p e id first whole c more inside rest formed there = absurd formed
read_tree s short (suc left) p e id first whole c more inside rest formed there =
    let f = formed.0 in
    let x : Element = record { identifier = id; content = first + length (header id c); end = first + whole } in
    let sized = length-append (header id c) c in
    read_at s p e short
    ∙ standing_read p (slice p e s) x (omega (arith, slice_size p e s))
    (record {
      content = c;
      after = encode rest ++ more;
      split = there ∙ rw (encode_element, append_assoc (header id c ++ c) (encode rest) more);
      known = f.identified;
      starts = ap (λ k. k + length (header id c)) f.placed;
      ends = omega (arith, f.sized);
    })
