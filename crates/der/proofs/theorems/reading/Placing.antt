-- The same elements at other places. Alike elements have the same encoding and the same members. Well-formed elements can be placed anywhere,
-- one after the other from there on, and elements that are moved are such elements. Assumes nothing.
use Prim.Native.Nat.{ℕ, zero, suc, ◌+◌}
use mathlib.Core.Path.{◌≡◌, refl, sym, ap, ap₂, subst, ◌∙◌}
use mathlib.Core.Bool.{Bool, true, false}
use mathlib.Core.List.{List}
use native.Mathlib.Nat.{add_assoc}
use lib.ListN.{length}
use Rattle.der.specs.meaning.Identifier.{constructed}
use Rattle.der.specs.meaning.Order.{Closing}
use Rattle.der.specs.meaning.Tree.{Tree, none, element, header, encode, members, Formed, WellFormed, moved}

-- Two lists of elements are the same but for their places.
pub data Alike : Tree → Tree → Type 0 where
  alike_none : Alike none none
  alike_element : {id p q whole : ℕ} {c : List ℕ} {inside inner rest more : Tree} → Alike inside inner → Alike rest more
      → Alike (element id p whole c inside rest) (element id q whole c inner more)

-- alike elements have the same encoding
pub encode_alike : {t u : Tree} → Alike t u → encode t ≡ encode u
unfolding encode
encode_alike alike_none = refl
encode_alike (alike_element inside rest) = rw (encode_alike rest)

-- and are the same members
pub members_alike : {t u : Tree} → Alike t u → members t ≡ members u
unfolding members
members_alike alike_none = refl
members_alike (alike_element inside rest) = rw (members_alike rest)

-- elements further on are alike
pub alike_moved : (d : ℕ) (t : Tree) → Alike t (moved d t)
unfolding moved
alike_moved d none = alike_none
alike_moved d (element id first whole c inside rest) = alike_element (alike_moved d inside) (alike_moved d rest)

-- The same elements from a place on, one after the other.
unfoldable pub placed : ℕ → Tree → Tree
placed p none = none
placed p (element id first whole c inside rest) =
    element id p whole c (placed (p + length (header id c)) inside) (placed (p + whole) rest)

-- no elements, from a place on
pub placed_none : (p : ℕ) → placed p none ≡ none
unfolding placed
placed_none p = refl

-- an element from a place on, with those inside it and after it
pub placed_element : (p id first whole : ℕ) (c : List ℕ) (inside rest : Tree)
    → placed p (element id first whole c inside rest)
    ≡ element id p whole c (placed (p + length (header id c)) inside) (placed (p + whole) rest)
unfolding placed
placed_element p id first whole c inside rest = refl

-- elements that are placed are alike
pub alike_placed : (p : ℕ) (t : Tree) → Alike t (placed p t)
unfolding placed
alike_placed p none = alike_none
alike_placed p (element id first whole c inside rest) =
    alike_element (alike_placed (p + length (header id c)) inside) (alike_placed (p + whole) rest)

-- elements that are placed, further on, are placed further on
pub placed_further : (d p : ℕ) (t : Tree) → moved d (placed p t) ≡ placed (d + p) t
unfolding placed moved
placed_further d p none = refl
placed_further d p (element id first whole c inside rest) =
    rw (add_assoc d p (length (header id c)), add_assoc d p whole)
    (ap₂ (element id (d + p) whole c) (placed_further d (p + length (header id c)) inside) (placed_further d (p + whole) rest))

-- A well-formed element is well-formed at any place, if the elements inside it are.
pub formed_placed : {p id first whole : ℕ} {c : List ℕ} {inside : Tree} {Inside There : Type 0} (q : ℕ) → (Inside → There)
    → Formed p id first whole c inside Inside → Formed q id q whole c (placed (q + length (header id c)) inside) There
formed_placed {id = id} {c = c} {inside = inside} q deeper f =
    let start = q + length (header id c) in
    let like = alike_placed start inside in
    record {
      placed = refl;
      sized = f.sized;
      identified = f.identified;
      filled = λ e. ((f.filled e).0 ∙ encode_alike like, deeper (f.filled e).1);
      closing = subst (Closing id) (members_alike like) f.closing;
      valued = λ e. (ap (placed start) (f.valued e).0 ∙ placed_none start, (f.valued e).1);
    }

-- Well-formed elements are well-formed at any place.
pub well_formed_placed : (left p q : ℕ) (t : Tree) → WellFormed left p t → WellFormed left q (placed q t)
unfolding placed WellFormed
well_formed_placed left p q none w = tt
well_formed_placed zero p q (element id first whole c inside rest) w = absurd w
well_formed_placed (suc left) p q (element id first whole c inside rest) w =
    let h = length (header id c) in (
      formed_placed q (well_formed_placed left (p + h) (q + h) inside) w.0,
      well_formed_placed (suc left) (p + whole) (q + whole) rest w.1,
    )

-- what is inside a well-formed element stays where it is, if it does so once it is well-formed
pub inside_there : {p id first whole : ℕ} {c : List ℕ} {inside : Tree} {Inside : Type 0} (q : ℕ) → Formed p id first whole c inside Inside
    → (Inside → placed q inside ≡ inside) → placed q inside ≡ inside
inside_there {id = id} {inside = inside} q f there = test (constructed id) refl
  where
    test : (b : Bool) → constructed id ≡ b → placed q inside ≡ inside
    test true e = there (f.filled e).1
    test false e = rw (f.valued e).0 (placed_none q)

-- Well-formed elements that are placed where they stand stay as they are.
pub placed_there : (left p : ℕ) (t : Tree) → WellFormed left p t → placed p t ≡ t
unfolding placed WellFormed
placed_there left p none w = refl
placed_there zero p (element id first whole c inside rest) w = absurd w
placed_there (suc left) p (element id first whole c inside rest) w =
    let start = p + length (header id c) in
    rw w.0.placed
    (ap₂ (element id p whole c) (inside_there start w.0 (placed_there left start inside)) (placed_there (suc left) (p + whole) rest w.1))

-- So well-formed elements that are placed further on are moved.
pub placed_moved : (d left p : ℕ) (t : Tree) → WellFormed left p t → placed (d + p) t ≡ moved d t
placed_moved d left p t w = sym (placed_further d p t) ∙ ap (moved d) (placed_there left p t w)

-- elements further on have the same encoding
pub encode_moved : (d : ℕ) (t : Tree) → encode (moved d t) ≡ encode t
encode_moved d t = sym (encode_alike (alike_moved d t))

-- well-formed elements are well-formed further on
pub well_formed_moved : (d left p : ℕ) (t : Tree) → WellFormed left p t → WellFormed left (d + p) (moved d t)
well_formed_moved d left p t w = subst (WellFormed left (d + p)) (placed_moved d left p t w) (well_formed_placed left p (d + p) t w)
