-- Theorem 2. The walk accepts exactly the DER encodings of well-formed trees: an answer without a fault gives the tree, the tree's encoding
-- is accepted up to its end, and two trees with one encoding are equal. Assumes nothing.
use Prim.Native.Nat.{ℕ, zero, suc, ◌+◌, ◌-◌, ◌≤◌, ◌<◌}
use native.Mathlib.Nat.{add-zero, zero-add}
use native.Mathlib.Omega.{arith}
use mathlib.Core.Path.{◌≡◌, refl, sym, ◌∙◌, ap, subst}
use mathlib.Core.Logic.{◌↔◌}
use mathlib.Core.Bool.{Bool, true, false, false≢true}
use mathlib.Core.List.{List, [], ◌++◌, append_assoc, append-nil}
use lib.Dec.{T}
use lib.ListN.{length, take, drop, length-append, length-drop, take-append-drop}
use lib.Seq.{take_at, drop_at, length-take-le}
use Rattle.der.specs.steps.Head.{Stands}
use Rattle.der.specs.steps.Nest.{End}
use Rattle.der.specs.meaning.Octets.{Octets}
use Rattle.der.specs.meaning.Identifier.{allowed, constructed}
use Rattle.der.specs.steps.Header.{head_of}
use Rattle.der.specs.meaning.Content.{Content}
use Rattle.der.specs.steps.ContentTest.{holds}
use Rattle.der.specs.steps.Order.{closes}
use Rattle.der.specs.meaning.Bounds.{depth, longest}
use Rattle.der.specs.steps.Explain.{list_of, by_rule, element_of, walk_at}
use Rattle.der.specs.steps.Reading.{tree}
use Rattle.der.specs.meaning.Order.{Closing}
use Rattle.der.specs.meaning.Tree.{Tree, none, element, header, encode, members, Formed, WellFormed, Single}
use Rattle.der.proofs.theorems.content.ContentRules.{content_exact}
use Rattle.der.proofs.theorems.element.Headers.{passed, head_fits, head_encoded, head_octets}
use Rattle.der.proofs.theorems.lists.Parts.{octets_drop, octets_part_lem, take_middle, append_parts, length_part, part_short}
use Rattle.der.proofs.theorems.explain.Progress.{Ended, list_along, element_deep, element_end, element_progress, elements_next}
use Rattle.der.proofs.theorems.closing.Closing.{closing_none, closes_encoded}
use Rattle.der.proofs.theorems.reading.Readings.{tree_encode}
use Rattle.der.proofs.theorems.explain.Steps.{inside_ends, element_value, rule_kept, list_empty, end_fault, walk_whole}
use Rattle.der.proofs.theorems.reading.Trees.{encode_length}

-- the trees of two lists of elements, one after the other
pub joined : Tree → Tree → Tree
joined none u = u
joined (element id first whole content inside rest) u = element id first whole content inside (joined rest u)

-- the encoding is that of the one and then that of the other
pub joined_encode : (t u : Tree) → encode (joined t u) ≡ encode t ++ encode u
unfolding joined encode
joined_encode none u = refl
joined_encode (element id first whole content inside rest) u =
    rw (joined_encode rest u) (sym (append_assoc (header id content ++ content) (encode rest) (encode u)))

-- both well-formed, they are well-formed together
pub joined_formed : (left p : ℕ) (t u : Tree) → WellFormed left p t → WellFormed left (p + length (encode t)) u → WellFormed left p (joined t u)
unfolding joined encode WellFormed
joined_formed left p none u ft fu = rw add-zero at fu
joined_formed zero p (element id first whole content inside rest) u ft fu = absurd ft
joined_formed (suc left) p (element id first whole content inside rest) u ft fu =
    let size = encode_length id first whole content inside rest in
    let place : p + length ((header id content ++ content) ++ encode rest) ≡ p + whole + length (encode rest) = omega (arith, ft.0.sized) in
    (ft.0, joined_formed (suc left) (p + whole) rest u ft.1 (rw place at fu))

-- What an element's end gives: a tree of a single element, whose encoding the octets start with.
pub record Sound (left p q : ℕ) (bs : List ℕ) : Type 0 where
  pub tree : Tree
  pub formed : WellFormed left p tree
  pub single : Single tree
  pub more : List ℕ
  pub split : bs ≡ encode tree ++ more
  pub ends : q ≡ p + length (encode tree)

-- What a list's end gives: a tree whose encoding the octets are.
pub record ListSound (left p q : ℕ) (bs : List ℕ) : Type 0 where
  pub tree : Tree
  pub formed : WellFormed left p tree
  pub whole : bs ≡ encode tree
  pub ends : q ≡ p + length bs

-- an element that ends and the list after it
sound_next : (left p q e : ℕ) (bs : List ℕ) → Sound left p e bs → ListSound left e q (drop (e - p) bs) → ListSound left p q bs
sound_next left p q e bs first rest =
    let t = first.tree in
    let u = rest.tree in
    let after : drop (e - p) (encode t ++ first.more) ≡ first.more = drop_at (encode t) first.more (e - p) (omega (arith, first.ends)) in
    let size = ap length first.split ∙ length-append (encode t) first.more in
    record {
      tree = joined t u;
      formed = joined_formed left p t u first.formed (subst (λ (x : ℕ). WellFormed left x u) first.ends rest.formed);
      whole = cc (joined_encode t u, after, first.split, rest.whole, ap (drop (e - p)) first.split);
      ends = omega (arith, first.ends, rest.ends, length-drop (e - p) bs);
    }

-- If it is known what an element's end gives, with the levels of depth that are left, so is what a list's end gives, and an element's with one
-- more level.
module _ (left : ℕ)
    (each : (p q : ℕ) (bs : List ℕ) → Octets bs → length bs ≤ longest → element_of left p bs ≡ End q → Sound left p q bs) where
  -- a list that ends
  sound_list : (n p : ℕ) (bs : List ℕ) → length bs ≤ n → Octets bs → length bs ≤ longest → (q : ℕ) → list_of (element_of left) n p bs ≡ End q
      → ListSound left p q bs
  unfolding encode WellFormed
  sound_list =
      list_along (element_of left) (element_progress left)
      (λ p bs r. Octets bs → length bs ≤ longest → (q : ℕ) → r ≡ End q → ListSound left p q bs)
      (λ p octets short q e. record { tree = none; formed = tt; whole = refl; ends = (let z : p ≡ q = cc in omega arith) })
      (λ p bs m x k some faulty octets short q e. end_fault e refl)
      (λ p bs x r some first further octets short q e.
      sound_next left p q x bs (each p x bs octets short first) (further (octets_drop (x - p) bs octets) (simp length-drop (omega arith)) q e))

  module _ (p q : ℕ) (bs : List ℕ) (octets : Octets bs) (short : length bs ≤ longest) (d : Ended left p q bs) where
    -- the content of an element that ends
    abbrev content : List ℕ
    content = take d.size (drop d.before bs)

    -- an element that ends, with what is inside it
    sound_with : (inside : Tree) → (constructed d.identifier ≡ true → (content ≡ encode inside) × WellFormed left (p + d.before) inside)
        → Closing d.identifier (members inside)
        → (constructed d.identifier ≡ false → (inside ≡ none) × Content d.identifier content) → Sound (suc left) p q bs
    unfolding encode WellFormed Single
    sound_with inside filled closing valued =
        let id = d.identifier in
        let c = content in
        let o = head_octets bs id d.before d.size octets short d.stands in
        let size = length_part bs d.before d.size (head_fits bs id d.before d.size d.stands).1 in
        record {
          tree = element id p (length (header id c ++ c)) c inside none;
          formed = (
            record {
              placed = refl;
              sized = refl;
              identified = o.0;
              filled = λ made. ((filled made).0, subst (λ (x : ℕ). WellFormed left (p + x) inside) o.1 (filled made).1);
              closing = closing;
              valued = valued;
            },
            tt,
          );
          single = refl;
          more = drop (d.before + d.size) bs;
          split = rw append-nil o.2;
          ends = simp (append-nil, length-append) (omega (arith, o.1, d.ends));
        }

    -- an element that ends, primitive or constructed
    sound_kind : (b : Bool) → constructed d.identifier ≡ b → Sound (suc left) p q bs
    unfolding members
    sound_kind false plain =
        sound_with none (λ made. absurd (false≢true (sym plain ∙ made))) (closing_none d.identifier)
        (λ k. (refl, (content_exact d.identifier content).0 (rw (d.valued plain) tt)))
    sound_kind true made =
        let part = part_short bs d.before d.size in
        let inner = sound_list d.size (p + d.before) content (omega arith) (octets_part_lem d.before d.size bs octets) (omega arith) q (d.listed made) in
        let size = ap length inner.whole in
        let closing = (closes_encoded d.identifier left (p + d.before) inner.tree inner.formed (omega arith)).0
        (sym (ap (closes d.identifier) inner.whole) ∙ d.closed made) in
        sound_with inner.tree (λ m. (inner.whole, inner.formed)) closing (λ plain. absurd (false≢true (sym plain ∙ made)))

-- Soundness: an element that ends is the encoding of a well-formed tree of a single element, with further octets after it.
pub element_sound : (left p q : ℕ) (bs : List ℕ) → Octets bs → length bs ≤ longest → element_of left p bs ≡ End q → Sound left p q bs
element_sound zero p q bs octets short ends = element_deep p q bs ends
element_sound (suc left) p q bs octets short ends =
    let d = element_end left p q bs ends in
    sound_kind left (element_sound left) p q bs octets short d (constructed d.identifier) refl

-- Soundness of a list: one that ends is the encoding of a well-formed tree.
pub list_sound : (left n p q : ℕ) (bs : List ℕ) → length bs ≤ n → Octets bs → length bs ≤ longest → list_of (element_of left) n p bs ≡ End q
    → ListSound left p q bs
list_sound left n p q bs enough octets short = sound_list left (element_sound left) n p bs enough octets short q

-- an element has an octet or more
some_octets : (id : ℕ) (c : List ℕ) → 0 < length (header id c ++ c)
unfolding header
some_octets id c = omega arith

-- along a well-formed tree's encoding the walk over a list goes on after it, with a count that is enough
abbrev Over : ℕ → Tree → List ℕ → Type 0
Over left t more =
    (n p : ℕ) → WellFormed left p t → length (encode t ++ more) ≤ longest → length (encode t ++ more) ≤ n
    → list_of (element_of left) n p (encode t ++ more) ≡ list_of (element_of left) n (p + length (encode t)) more

-- so a list of just that ends with it
over_end : (left n p : ℕ) (t : Tree) → Over left t [] → WellFormed left p t → length (encode t) ≤ longest → length (encode t) ≤ n
    → list_of (element_of left) n p (encode t) ≡ End (p + length (encode t))
over_end left n p t over formed short enough =
    (rw append-nil at over) n p formed short enough ∙ list_empty (element_of left) n (p + length (encode t))

-- a well-formed element ends where its encoding does, if the walk goes along the elements inside it
complete_element : (left p id first whole : ℕ) (c more : List ℕ) (inside : Tree)
    → Formed p id first whole c inside (WellFormed left (p + length (header id c)) inside) → length c ≤ longest → Over left inside []
    → element_of (suc left) p ((header id c ++ c) ++ more) ≡ End (p + length (header id c ++ c))
complete_element left p id first whole c more inside formed short inner = go (constructed id) refl
  where
    h : ℕ
    h = length (header id c)

    bs : List ℕ
    bs = (header id c ++ c) ++ more

    stands : head_of bs ≡ Stands id h (length c)
    stands = head_encoded id c more formed.identified short

    place : p + h + length c ≡ p + length (header id c ++ c)
    place = omega (arith, length-append (header id c) c)

    go : (b : Bool) → constructed id ≡ b → element_of (suc left) p bs ≡ End (p + length (header id c ++ c))
    go true made =
        let filled = formed.filled made in
        let size = ap length filled.0 in
        let listed = over_end left (length c) (p + h) inside inner filled.1 (omega arith) (omega arith) in
        let kept = (closes_encoded id left (p + h) inside filled.1 (omega arith)).1 formed.closing in
        let content = take_middle (header id c) c more ∙ filled.0 in
        inside_ends left p bs stands made (rw content listed)
        ∙ ap (λ l. by_rule (closes id l) p (p + h + length (encode inside)) id) content
        ∙ rule_kept p (p + h + length (encode inside)) id kept
        ∙ ap End (omega (arith, place))
    go false plain =
        let kept = passed (holds id c) ((content_exact id c).1 (formed.valued plain).1) in
        element_value left p bs stands plain
        ∙ ap (λ l. by_rule (holds id l) p (p + h + length c) id) (take_middle (header id c) c more)
        ∙ rule_kept p (p + h + length c) id kept
        ∙ ap End place

-- the walk over a list goes on after the encoding of a well-formed tree
pub list_over : (left : ℕ) (t : Tree) (more : List ℕ) → Over left t more
unfolding encode WellFormed
list_over left none more n p formed short enough = rw add-zero
list_over zero (element id first whole c inside rest) more n p formed short enough = absurd formed
list_over (suc left) (element id first whole c inside rest) more n p formed short enough =
    let a = header id c ++ c in
    let after = encode rest ++ more in
    let apart = append_assoc a (encode rest) more in
    let total = ap length apart ∙ length-append a after in
    let size = length-append a after in
    let sized = length-append (header id c) c in
    let place : p + length (a ++ encode rest) ≡ p + length a + length (encode rest) = omega (arith, length-append a (encode rest)) in
    let past : drop (p + length a - p) (a ++ after) ≡ after = drop_at a after (p + length a - p) (omega arith) in
    let ends = complete_element left p id first whole c after inside formed.0 (omega arith) (list_over left inside []) in
    rw (apart, place)
    (elements_next (suc left) n p (a ++ after) (omega arith) (p + length a) (omega (arith, some_octets id c)) ends
    ∙ rw past (list_over (suc left) rest more n (p + length a) (rw formed.0.sized at formed.1) (omega arith) (omega arith)))

-- Completeness: the encoding of a well-formed tree of a single element, with any octets after it, is an element that ends with the encoding.
pub element_complete : (left p : ℕ) (t : Tree) (more : List ℕ) → WellFormed left p t → Single t → length (encode t ++ more) ≤ longest
    → element_of left p (encode t ++ more) ≡ End (p + length (encode t))
unfolding encode WellFormed Single
element_complete left p none more formed single short = absurd single
element_complete zero p (element id first whole c inside rest) more formed single short = absurd formed
element_complete (suc left) p (element id first whole c inside rest) more formed single short =
    let a = header id c ++ c in
    let size = length-append (a ++ encode rest) more in
    let sizes = length-append a (encode rest) in
    let sized = length-append (header id c) c in
    rw (single, append-nil) (complete_element left p id first whole c more inside formed.0 (omega arith) (list_over left inside []))

-- Completeness of a list: the encoding of a well-formed tree ends with its octets.
pub list_complete : (left n p : ℕ) (t : Tree) → WellFormed left p t → length (encode t) ≤ longest → length (encode t) ≤ n
    → list_of (element_of left) n p (encode t) ≡ End (p + length (encode t))
list_complete left n p t = over_end left n p t (list_over left t [])

-- the octets up to e are the encoding of a well-formed tree of a single element
abbrev pub Encoded : List ℕ → ℕ → Type 0
Encoded s e = (e ≤ length s) × ((t : Tree) × WellFormed depth 0 t × Single t × (encode t ≡ take e s))

-- Exactness: a whole input's first element ends at a place if and only if the octets up to that place are the encoding of a well-formed tree
-- of a single element.
pub exact : (s : List ℕ) (e : ℕ) → Octets s → length s ≤ longest → walk_at s 0 (length s) ≡ End e ↔ Encoded s e
exact s e octets short = (accepted, encoded)
  where
    accepted : walk_at s 0 (length s) ≡ End e → Encoded s e
    accepted ends =
        let ended = sym (walk_whole s short) ∙ ends in
        let r = element_sound depth 0 e s octets short ended in
        let size : length (encode r.tree) ≡ e = omega (arith, r.ends) in (
          omega (arith, element_progress depth 0 e s ended),
          (r.tree, r.formed, r.single, sym (ap (take e) r.split ∙ take_at (encode r.tree) r.more e size)),
        )

    encoded : Encoded s e → walk_at s 0 (length s) ≡ End e
    encoded (within, (t, formed, single, same)) =
        let size : length (encode t) ≡ e = ap length same ∙ length-take-le e s within in
        let whole : encode t ++ drop e s ≡ s = cc (take-append-drop e s, same) in
        let ends = element_complete depth 0 t (drop e s) formed single (omega (arith, ap length whole)) in
        walk_whole s short ∙ cc (ends, whole, zero-add (length (encode t)), size)

-- What an accepted input gives the layer above: the tree that is read from the octets up to the end is well-formed, a single element, and
-- has just those octets for its encoding.
pub record Checked (s : List ℕ) (e : ℕ) : Type 0 where
  pub within : e ≤ length s
  pub formed : WellFormed depth 0 (tree 0 (take e s))
  pub single : Single (tree 0 (take e s))
  pub encoded : encode (tree 0 (take e s)) ≡ take e s

-- Exactness, of the tree that is read: `take e s` is an encoding, and an encoding is read back.
pub walk_tree : (s : List ℕ) (e : ℕ) → Octets s → length s ≤ longest → walk_at s 0 (length s) ≡ End e ↔ Checked s e
walk_tree s e octets short = (
  λ ends.
      let (within, (t, formed, single, same)) = (exact s e octets short).0 ends in
      let size = ap length same ∙ length-take-le e s within in
      let back : tree 0 (take e s) ≡ t = rw same at (tree_encode depth 0 t formed (omega arith)) in
      record { within = within; formed = rw back formed; single = rw back single; encoded = rw back same },
  λ c. (exact s e octets short).1 (c.within, (tree 0 (take e s), c.formed, c.single, c.encoded)),
)

-- equal octets start with equal elements, with equal octets after them
unique_octets : (id id' : ℕ) (c c' x x' : List ℕ) → T (allowed id) → T (allowed id') → length c ≤ longest → length c' ≤ longest
    → (header id c ++ c) ++ x ≡ (header id' c' ++ c') ++ x' → (id ≡ id') × (c ≡ c') × (x ≡ x')
unique_octets id id' c c' x x' ok ok' short short' same =
    let heads = sym (head_encoded id c x ok short) ∙ ap head_of same ∙ head_encoded id' c' x' ok' short' in
    let before : length (header id c) ≡ length (header id' c') = cc in
    let within : length c ≡ length c' = cc in
    let split = append_parts (header id c ++ c) (header id' c' ++ c') x x' (simp length-append (cc)) same in
    (cc, (append_parts (header id c) (header id' c') c c' before split.0).1, split.1)

-- equal elements have equal elements inside them, if equal encodings of those are of equal trees
unique_inside : (left p id first whole first' whole' : ℕ) (c : List ℕ) (inside inside' : Tree)
    → Formed p id first whole c inside (WellFormed left (p + length (header id c)) inside)
    → Formed p id first' whole' c inside' (WellFormed left (p + length (header id c)) inside')
    → ((q : ℕ) → WellFormed left q inside → WellFormed left q inside' → c ≡ encode inside → encode inside ≡ encode inside' → inside ≡ inside')
    → inside ≡ inside'
unique_inside left p id first whole first' whole' c inside inside' f f' inner = go (constructed id) refl
  where
    go : (b : Bool) → constructed id ≡ b → inside ≡ inside'
    go true made =
        let i = f.filled made in
        let i' = f'.filled made in
        inner (p + length (header id c)) i.1 i'.1 i.0 (sym i.0 ∙ i'.0)
    go false plain = (f.valued plain).0 ∙ sym (f'.valued plain).0

-- elements with equal parts are equal
same_element : {id id' first first' whole whole' : ℕ} {c c' : List ℕ} {inside inside' rest rest' : Tree}
    → id ≡ id' → first ≡ first' → whole ≡ whole' → c ≡ c' → inside ≡ inside' → rest ≡ rest'
    → element id first whole c inside rest ≡ element id' first' whole' c' inside' rest'
same_element tags places wholes contents insides rests = cc

-- equal encodings are of equal elements, if equal encodings of what is inside and after them are of equal trees
unique_element : (left p id first whole id' first' whole' : ℕ) (c c' : List ℕ) (inside rest inside' rest' : Tree)
    → WellFormed (suc left) p (element id first whole c inside rest)
    → WellFormed (suc left) p (element id' first' whole' c' inside' rest')
    → length (encode (element id first whole c inside rest)) ≤ longest
    → encode (element id first whole c inside rest) ≡ encode (element id' first' whole' c' inside' rest')
    → ((q : ℕ) → WellFormed left q inside → WellFormed left q inside' → length (encode inside) ≤ longest → encode inside ≡ encode inside' → inside ≡ inside')
    → ((q : ℕ) → WellFormed (suc left) q rest → WellFormed (suc left) q rest' → length (encode rest) ≤ longest → encode rest ≡ encode rest' → rest ≡ rest')
    → element id first whole c inside rest ≡ element id' first' whole' c' inside' rest'
unfolding encode WellFormed
unique_element left p id first whole id' first' whole' c c' inside rest inside' rest' ft fu short same inner after =
    let size = length-append (header id c ++ c) (encode rest) in
    let sized = length-append (header id c) c in
    let size' = length-append (header id' c' ++ c') (encode rest') in
    let sized' = length-append (header id' c') c' in
    let s = unique_octets id id' c c' (encode rest) (encode rest') ft.0.identified fu.0.identified (omega arith)
    (omega (arith, ap length same)) same in
    let places : first ≡ first' = ft.0.placed ∙ sym fu.0.placed in
    let wholes : whole ≡ whole' = cc (ft.0.sized, fu.0.sized, s.0, s.1) in
    let f' : Formed p id first' whole' c inside' (WellFormed left (p + length (header id c)) inside') = rw (s.0, s.1) fu.0 in
    let insides = unique_inside left p id first whole first' whole' c inside inside' ft.0 f' (λ q f g filled e. inner q f g (omega (arith, ap length filled)) e) in
    same_element s.0 places wholes s.1 insides (after (p + whole) ft.1 (rw wholes fu.1) (omega arith) s.2)

-- Uniqueness: two well-formed trees with one encoding are equal.
pub unique : (left p : ℕ) (t u : Tree) → WellFormed left p t → WellFormed left p u → length (encode t) ≤ longest → encode t ≡ encode u → t ≡ u
unfolding encode WellFormed
unique left p none none ft fu short same = refl
unique left p none (element id first whole c inside rest) ft fu short same =
    absurd (omega (arith, ap length same, encode_length id first whole c inside rest, some_octets id c))
unique left p (element id first whole c inside rest) none ft fu short same =
    absurd (omega (arith, ap length same, encode_length id first whole c inside rest, some_octets id c))
unique zero p (element id first whole c inside rest) (element id' first' whole' c' inside' rest') ft fu short same = absurd ft
unique (suc left) p (element id first whole c inside rest) (element id' first' whole' c' inside' rest') ft fu short same =
    unique_element left p id first whole id' first' whole' c c' inside rest inside' rest' ft fu short same
    (λ q f g fit e. unique left q inside inside' f g fit e) (λ q f g fit e. unique (suc left) q rest rest' f g fit e)
