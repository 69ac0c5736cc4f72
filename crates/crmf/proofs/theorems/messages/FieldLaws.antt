-- Lists of elements as lists of fields. Well-formed elements are well-formed fields that stand one after the other: so a constructed field
-- consists of the fields inside it, each stands at its place in the octets of the whole, and all of it moves with the bytes. Assumes nothing.
use Prim.Native.Nat.{ℕ, zero, suc, ◌+◌, ◌≤◌}
use native.Mathlib.Omega.{arith}
use mathlib.Core.Path.{◌≡◌, refl, sym, ap, ap₂, ◌∙◌, subst}
use mathlib.Core.Logic.{◌⊎◌, inl, inr}
use mathlib.Core.Bool.{Bool, true, false}
use mathlib.Core.List.Memᴰ
use mathlib.Core.List.{List, [], ◌∷◌, ◌++◌, map, flat_map, append_assoc, Memᴰ}
use mathlib.Core.Option
use mathlib.Core.Option.{Option, some, none as absent, none-ne-some, some-ne-none, some-injective}
use lib.ListN.{length, length-append, length-take, length-drop, take, drop, get_or, get_or-map}
use lib.Seq.{take-append_seam, take-take, take-add, drop-drop}
use Rattle.der.specs.meaning.Identifier.{constructed}
use Rattle.der.specs.meaning.Tree.{Tree, none, element, header, encode, Formed, WellFormed, moved}
use Rattle.der.proofs.Laws.{encode_none, encode_element, encode_length, moved_none, moved_element, well_formed_none, well_formed_deep, well_formed_element, append_parts}
use Rattle.crmf.specs.meaning.Notation.{among}
use Rattle.crmf.specs.meaning.Fields.{Field, fields, chain, octets, content_start, field_end, Runs, Consists, StandsAt, missing, nth, first_with, child, listed, moved_field}

-- the first field with an identifier inside a field, and a field that may be missing, as a list
pub child_first : (id : ℕ) (f : Field) → child id f ≡ first_with (id ∷ []) (fields f.inside)
unfolding child
child_first id f = refl

pub listed_none : listed absent ≡ []
unfolding listed
listed_none = refl

pub listed_some : (f : Field) → listed (some f) ≡ f ∷ []
unfolding listed
listed_some f = refl

-- no elements have no fields
pub fields_none : fields none ≡ []
unfolding fields
fields_none = refl

-- the fields of some elements: the first element's, and those of the elements after it
pub fields_element : (id first whole : ℕ) (c : List ℕ) (inside rest : Tree)
    → fields (element id first whole c inside rest)
    ≡ record { identifier = id; place = first; whole = whole; content = c; inside = inside } ∷ fields rest
unfolding fields
fields_element id first whole c inside rest = refl

-- the fields of a list make the list
pub chain_fields : (t : Tree) → chain (fields t) ≡ t
unfolding fields chain
chain_fields none = refl
chain_fields (element id first whole c inside rest) = ap (element id first whole c inside) (chain_fields rest)

-- some fields are the fields of the list that they make
pub fields_chain : (fs : List Field) → fields (chain fs) ≡ fs
unfolding fields chain
fields_chain [] = refl
fields_chain (f ∷ fs) = ap (λ (gs : List Field). f ∷ gs) (fields_chain fs)

-- the encoding of a list of elements is its fields' octets, one after the other
pub encode_fields : (t : Tree) → encode t ≡ flat_map octets (fields t)
unfolding fields flat_map octets
encode_fields none = encode_none
encode_fields (element id first whole c inside rest) =
    encode_element id first whole c inside rest ∙ ap (λ (bs : List ℕ). (header id c ++ c) ++ bs) (encode_fields rest)

-- A field is well-formed within some levels of depth, its own among them.
abbrev pub FormedField : ℕ → Field → Type 0
FormedField zero f = ⊥
FormedField (suc left) f =
    Formed f.place f.identifier f.place f.whole f.content f.inside (WellFormed left (content_start f) f.inside)

-- the fields of well-formed elements are well-formed
pub fields_formed : (left p : ℕ) (t : Tree) → WellFormed left p t → (f : Field) → Memᴰ f (fields t) → FormedField left f
unfolding fields
fields_formed left p none w f m = absurd (Memᴰ.not-nil m)
fields_formed zero p (element id first whole c inside rest) w f m = absurd (well_formed_deep p id first whole c inside rest w)
fields_formed (suc left) p (element id first whole c inside rest) w f (Memᴰ.head e) =
    let one = ((well_formed_element left p id first whole c inside rest).0 w).0 in
    rw e
    (subst (λ (q : ℕ). Formed q id first whole c inside (WellFormed left (q + length (header id c)) inside)) (sym one.placed) one)
fields_formed (suc left) p (element id first whole c inside rest) w f (Memᴰ.tail m) =
    fields_formed (suc left) (p + whole) rest ((well_formed_element left p id first whole c inside rest).0 w).1 f m

-- well-formed elements stand one after the other
pub fields_run : (left p : ℕ) (t : Tree) → WellFormed left p t → Runs p (p + length (encode t)) (fields t)
unfolding fields octets
fields_run left p none w = omega (arith, ap length encode_none)
fields_run zero p (element id first whole c inside rest) w = absurd (well_formed_deep p id first whole c inside rest w)
fields_run (suc left) p (element id first whole c inside rest) w =
    let (one, more) = (well_formed_element left p id first whole c inside rest).0 w in
    let size : p + whole + length (encode rest) ≡ p + length (encode (element id first whole c inside rest))
    = omega (arith, one.sized, encode_length id first whole c inside rest) in
    (one.placed, one.sized, subst (λ (e : ℕ). Runs (p + whole) e (fields rest)) size (fields_run (suc left) (p + whole) rest more))

-- well-formed fields that stand one after the other are well-formed elements
pub chain_formed : (left from to : ℕ) (fs : List Field) → Runs from to fs → ((f : Field) → Memᴰ f fs → FormedField left f)
    → WellFormed left from (chain fs)
unfolding chain
chain_formed left from to [] run each = well_formed_none left from
chain_formed zero from to (f ∷ fs) run each = absurd (each f (Memᴰ.head refl))
chain_formed (suc left) from to (f ∷ fs) run each =
    let own = each f (Memᴰ.head refl) in
    (well_formed_element left from f.identifier f.place f.whole f.content f.inside (chain fs)).1 (
      subst
          (λ (q : ℕ). Formed q f.identifier f.place f.whole f.content f.inside (WellFormed left (q + length (header f.identifier f.content)) f.inside))
          run.0
          own,
      chain_formed (suc left) (from + f.whole) to fs run.2 (λ g m. each g (Memᴰ.tail m)),
    )

-- fields that stand one after the other end where they begin or later
runs_up : (from to : ℕ) (fs : List Field) → Runs from to fs → from ≤ to
runs_up from to [] run = omega arith
runs_up from to (f ∷ fs) run = omega (arith, runs_up (from + f.whole) to fs run.2)

-- each of them lies within
pub runs_within : (from to : ℕ) (fs : List Field) → Runs from to fs → (f : Field) → Memᴰ f fs → (from ≤ f.place) × (field_end f ≤ to)
runs_within from to [] run f m = absurd (Memᴰ.not-nil m)
runs_within from to (g ∷ fs) run f (Memᴰ.head e) = rw e (omega (arith, run.0, runs_up (from + g.whole) to fs run.2))
runs_within from to (g ∷ fs) run f (Memᴰ.tail m) =
    omega (arith, runs_within (from + g.whole) to fs run.2 f m)

-- a field's parts lie within its content
pub consists_within : {f : Field} {fs : List Field} → Consists f fs → (g : Field) → Memᴰ g fs → (content_start f ≤ g.place) × (field_end g ≤ field_end f)
consists_within {f} {fs} c g m = runs_within (content_start f) (field_end f) fs c.placed g m

-- what is inside a well-formed constructed field is well-formed
pub inside_formed : (left : ℕ) (f : Field) → FormedField (suc left) f → constructed f.identifier ≡ true
    → WellFormed left (content_start f) f.inside
inside_formed left f formed made = (formed.filled made).1

-- a well-formed constructed field consists of the fields inside it
pub consists_fields : (left : ℕ) (f : Field) → FormedField left f → constructed f.identifier ≡ true → Consists f (fields f.inside)
consists_fields zero f formed made = absurd formed
consists_fields (suc left) f formed made =
    let filled = formed.filled made in
    let size : content_start f + length (encode f.inside) ≡ field_end f
    = omega (arith, formed.sized, length-append (header f.identifier f.content) f.content, ap length filled.0) in
    record {
      held = refl;
      written = filled.0 ∙ encode_fields f.inside;
      placed = subst (λ (e : ℕ). Runs (content_start f) e (fields f.inside)) size (fields_run left (content_start f) f.inside filled.1);
    }

-- a field inside a well-formed constructed field is well-formed
pub child_formed : (left : ℕ) (f : Field) → FormedField (suc left) f → constructed f.identifier ≡ true
    → (g : Field) → Memᴰ g (fields f.inside) → FormedField left g
child_formed left f formed made g m = fields_formed left (content_start f) f.inside (inside_formed left f formed made) g m

-- the first of the octets that stand at a place
pub stands_left : (s : List ℕ) (p : ℕ) (a b : List ℕ) → StandsAt s p (a ++ b) → StandsAt s p a
stands_left s p a b h =
    let within : length a ≤ length (a ++ b) = omega (arith, length-append a b) in
    sym (take-take (length a) (length (a ++ b)) (drop p s) within) ∙ ap (take (length a)) h ∙ take-append_seam a b

-- those after the first
pub stands_right : (s : List ℕ) (p : ℕ) (a b : List ℕ) → StandsAt s p (a ++ b) → StandsAt s (p + length a) b
stands_right s p a b h =
    let front = stands_left s p a b h in
    let both : take (length a) (drop p s) ++ take (length b) (drop (length a) (drop p s)) ≡ a ++ b
    = sym (take-add (length a) (length b) (drop p s)) ∙ subst (λ (n : ℕ). take n (drop p s) ≡ a ++ b) (length-append a b) h in
    rw (drop-drop (length a) p s) at (append_parts (take (length a) (drop p s)) a (take (length b) (drop (length a) (drop p s))) b (ap length front) both).1

-- octets that stand at a place fit into what follows it
pub stands_fit : (s : List ℕ) (p : ℕ) (part : List ℕ) → StandsAt s p part → 1 ≤ length part → p + length part ≤ length s
stands_fit s p part h n = omega (arith, simp (length-take, length-drop) at (ap length h))

-- fields that stand one after the other stand each at its place
pub runs_stand : (s : List ℕ) (from to : ℕ) (fs : List Field) → Runs from to fs → StandsAt s from (flat_map octets fs)
    → (f : Field) → Memᴰ f fs → StandsAt s f.place (octets f)
unfolding flat_map octets
runs_stand s from to [] run h f m = absurd (Memᴰ.not-nil m)
runs_stand s from to (g ∷ fs) run h f (Memᴰ.head e) = rw (e, run.0) (stands_left s from (octets g) (flat_map octets fs) h)
runs_stand s from to (g ∷ fs) run h f (Memᴰ.tail m) =
    runs_stand s (from + g.whole) to fs run.2 (rw run.1 (stands_right s from (octets g) (flat_map octets fs) h)) f m

-- A field that stands at its place has its content there.
pub content_stands : (s : List ℕ) (f : Field) → StandsAt s f.place (octets f) → StandsAt s (content_start f) f.content
unfolding octets
content_stands s f h = stands_right s f.place (header f.identifier f.content) f.content h

-- A field that stands at its place has the fields there that it consists of.
pub consists_stand : (s : List ℕ) (f : Field) (fs : List Field) → Consists f fs → StandsAt s f.place (octets f)
    → (g : Field) → Memᴰ g fs → StandsAt s g.place (octets g)
consists_stand s f fs c h g m =
    runs_stand s (content_start f) (field_end f) fs c.placed (subst (StandsAt s (content_start f)) c.written (content_stands s f h)) g m

-- what holds of a field, if there is one
abbrev pub IfAny : (Field → Type 0) → Option Field → Type 0
IfAny P absent = Unit {0}
IfAny P (some f) = P f

-- what holds of a field if something else does
pub if_any : {P Q : Field → Type 0} (o : Option Field) → ((f : Field) → P f → Q f) → IfAny P o → IfAny Q o
if_any absent step p = tt
if_any (some f) step p = step f p

-- what is found is one of the fields, and has one of the identifiers
pub first_with_found : (ids : List ℕ) (fs : List Field) (f : Field) → first_with ids fs ≡ some f → Memᴰ f fs × (among ids f.identifier ≡ true)
unfolding first_with
first_with_found ids [] f e = absurd (none-ne-some f e)
first_with_found ids (g ∷ fs) f e = by_test (among ids g.identifier) refl e (first_with_found ids fs f)
  where
    by_test : (b : Bool) → among ids g.identifier ≡ b → elim b as (λ x. Option Field) [ true ↦ some g | false ↦ first_with ids fs ] ≡ some f
        → (first_with ids fs ≡ some f → Memᴰ f fs × (among ids f.identifier ≡ true))
        → Memᴰ f (g ∷ fs) × (among ids f.identifier ≡ true)
    by_test true test here below =
        let same : g ≡ f = some-injective g f here in
        (Memᴰ.head (sym same), subst (λ (x : Field). among ids x.identifier ≡ true) same test)
    by_test false test there below = let (m, own) = below there in (Memᴰ.tail m, own)

-- if nothing is found, no field has one of the identifiers
pub first_with_missing : (ids : List ℕ) (fs : List Field) → first_with ids fs ≡ absent → (f : Field) → Memᴰ f fs → among ids f.identifier ≡ false
unfolding first_with
first_with_missing ids [] e f m = absurd (Memᴰ.not-nil m)
first_with_missing ids (g ∷ fs) e f m = by_test (among ids g.identifier) refl e (first_with_missing ids fs) (Memᴰ.cases_cons m)
  where
    by_test : (b : Bool) → among ids g.identifier ≡ b
        → ◌≡◌ {A = Option Field} (elim b as (λ x. Option Field) [ true ↦ some g | false ↦ first_with ids fs ]) absent
        → (first_with ids fs ≡ absent → (x : Field) → Memᴰ x fs → among ids x.identifier ≡ false)
        → (f ≡ g) ⊎ Memᴰ f fs → among ids f.identifier ≡ false
    by_test true test here below place = absurd (some-ne-none g here)
    by_test false test there below (inl same) = rw same test
    by_test false test there below (inr n) = below there f n

-- the first of such fields that has one of the identifiers, if there is no other
pub first_with_own : (ids : List ℕ) (o : Option Field) → IfAny (λ f. among ids f.identifier ≡ true) o → first_with ids (listed o) ≡ o
unfolding first_with listed
first_with_own ids absent e = refl
first_with_own ids (some f) e = rw (e, first_with)

-- after a field that may stand there and has none of them
pub first_with_after : (ids : List ℕ) (o : Option Field) (fs : List Field) → IfAny (λ f. among ids f.identifier ≡ false) o
    → first_with ids (listed o ++ fs) ≡ first_with ids fs
unfolding first_with listed
first_with_after ids absent fs e = refl
first_with_after ids (some f) fs e = rw (e, first_with)

-- before a field that has none of them
pub first_with_before : (ids : List ℕ) (o p : Option Field) → IfAny (λ f. among ids f.identifier ≡ true) o
    → IfAny (λ f. among ids f.identifier ≡ false) p → first_with ids (listed o ++ listed p) ≡ o
unfolding first_with listed
first_with_before ids absent absent e n = refl
first_with_before ids absent (some f) e n = rw (n, first_with)
first_with_before ids (some f) p e n = rw (e, first_with)

-- the fields of elements further on are the fields further on
pub fields_moved : (d : ℕ) (t : Tree) → fields (moved d t) ≡ map (moved_field d) (fields t)
unfolding fields moved_field
fields_moved d none = ap fields (moved_none d)
fields_moved d (element id first whole c inside rest) =
    ap fields (moved_element d id first whole c inside rest)
    ∙ ap
    (λ (fs : List Field). record { identifier = id; place = d + first; whole = whole; content = c; inside = moved d inside } ∷ fs)
    (fields_moved d rest)

-- the fields inside a field further on
pub inside_moved : (d : ℕ) (f : Field) → fields (moved_field d f).inside ≡ map (moved_field d) (fields f.inside)
unfolding moved_field
inside_moved d f = fields_moved d f.inside

-- a field further on, by its number
pub nth_moved : (d n : ℕ) (f : Field) → nth n (moved_field d f) ≡ moved_field d (nth n f)
unfolding nth moved_field missing
nth_moved d n f =
    let absence : missing (moved_field d f) ≡ moved_field d (missing f) =
    ap (λ (t : Tree). record { identifier = 0; place = d + f.place; whole = 0; content = []; inside = t }) (sym (moved_none d)) in
    ap₂ (λ (fs : List Field) (g : Field). get_or fs n g) (fields_moved d f.inside) absence
    ∙ get_or-map (moved_field d) (fields f.inside) n (missing f)

-- a field further on, by its identifier
pub first_with_moved : (d : ℕ) (ids : List ℕ) (fs : List Field) → first_with ids (map (moved_field d) fs) ≡ Option.map (moved_field d) (first_with ids fs)
unfolding first_with moved_field
first_with_moved d ids [] = refl
first_with_moved d ids (f ∷ fs) = by_test (among ids f.identifier) (first_with_moved d ids fs)
  where
    by_test : (b : Bool) → first_with ids (map (moved_field d) fs) ≡ Option.map (moved_field d) (first_with ids fs)
        → elim b as (λ x. Option Field) [ true ↦ some (moved_field d f) | false ↦ first_with ids (map (moved_field d) fs) ]
        ≡ Option.map (moved_field d) (elim b as (λ x. Option Field) [ true ↦ some f | false ↦ first_with ids fs ])
    by_test true e = refl
    by_test false e = e

-- fields further on, after the first ones
pub drop_moved : (d n : ℕ) (fs : List Field) → drop n (map (moved_field d) fs) ≡ map (moved_field d) (drop n fs)
drop_moved d zero fs = refl
drop_moved d (suc n) [] = refl
drop_moved d (suc n) (f ∷ fs) = drop_moved d n fs

-- the octets of fields after others
pub octets_append : (fs gs : List Field) → flat_map octets (fs ++ gs) ≡ flat_map octets fs ++ flat_map octets gs
unfolding flat_map
octets_append [] gs = refl
octets_append (f ∷ fs) gs = rw (octets_append fs gs) (sym (append_assoc (octets f) (flat_map octets fs) (flat_map octets gs)))
