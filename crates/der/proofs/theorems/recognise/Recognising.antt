-- The laws of the recogniser: a list of elements by its first and those after it, an element by its content, and the walk over
-- a whole input that is one element. Assumes nothing.
use Prim.Native.Nat.{ℕ, zero, suc, ◌+◌, ◌-◌, ◌≤◌, ◌<◌}
use mathlib.Core.Path.{◌≡◌, refl, sym, ap, ◌∙◌, subst}
use mathlib.Core.Bool.{Bool, true, false, ◌&&◌, ◌||◌, false≢true, and-eq-true_iff}
use mathlib.Core.List.{List, [], ◌∷◌}
use native.Mathlib.Nat.{add-zero, add_assoc}
use native.Mathlib.Omega.{arith}
use lib.Dec.{leb, eqb}
use lib.ListN.{length, take, drop, get_or, length-drop}
use lib.Seq.{slice, drop-length}
use borrow.Author.Tests.{le-leb, leb-true, leb-false}
use Rattle.der.specs.steps.Head.{Head, Stands, Broken}
use Rattle.der.specs.steps.Nest.{Nest, End, Fault}
use Rattle.der.specs.meaning.Identifier.{allowed, constructed}
use Rattle.der.specs.steps.Header.{head_of}
use Rattle.der.specs.meaning.Content.{integer, bit_string, object_identifier}
use Rattle.der.specs.steps.ContentTest.{holds}
use Rattle.der.specs.steps.Utf8Classes.{utf8}
use Rattle.der.specs.steps.Span.{span_of}
use Rattle.der.specs.steps.Recognise.{faultless, is_list, is_element}
use Rattle.der.specs.meaning.Tree.{none, Single}
use Rattle.der.specs.steps.Reading.{tree}
use Rattle.der.specs.meaning.Bounds.{depth, longest}
use Rattle.der.specs.steps.Order.{closes}
use Rattle.der.specs.steps.Explain.{list_of, by_rule, after_inside, element_of, walk_at}
use Rattle.der.proofs.theorems.element.Spans.{head_refused}
use Rattle.der.proofs.theorems.lists.Parts.{take_drop, length_part}
use Rattle.der.proofs.theorems.explain.Progress.{element_end, element_progress, elements_next, list_enough}
use Rattle.der.proofs.theorems.reading.Readings.{tree_end, tree_step}
use Rattle.der.proofs.theorems.element.Spans.{span_fits, span_stands, span_broken, span_tree}
use Rattle.der.proofs.theorems.explain.Steps.{element_broken, element_inside, element_value, list_stop, end_fault, walk_whole, walk_long}
use Rattle.der.proofs.theorems.reading.Trees.{single_none, single_element}

-- an answer d bytes further on
abbrev shifted : ℕ → Nest → Nest
shifted d (End q) = End (d + q)
shifted d (Fault m q k) = Fault m (d + q) k

-- it has a fault if the answer has
shifted_faultless : (d : ℕ) (r : Nest) → faultless (shifted d r) ≡ faultless r
unfolding faultless
shifted_faultless d (End q) = refl
shifted_faultless d (Fault m q k) = refl

-- a list further on has the same answer, further on, if each element has
list_shifted : (judge : ℕ → List ℕ → Nest) → ((d p : ℕ) (bs : List ℕ) → judge (d + p) bs ≡ shifted d (judge p bs))
    → (n d p : ℕ) (bs : List ℕ) → list_of judge n (d + p) bs ≡ shifted d (list_of judge n p bs)
unfolding list_of
list_shifted judge moves zero d p bs = refl
list_shifted judge moves (suc n) d p [] = refl
list_shifted judge moves (suc n) d p (b ∷ bs) =
    ap (λ (r : Nest). elim r as (λ _. Nest) [ End q ↦ list_of judge n q (drop (q - (d + p)) (b ∷ bs)) | Fault m q k ↦ Fault m q k ]) (moves d p (b ∷ bs))
    ∙ go (list_shifted judge moves n d) (judge p (b ∷ bs))
  where
    go : ((q : ℕ) (cs : List ℕ) → list_of judge n (d + q) cs ≡ shifted d (list_of judge n q cs))
        → (r : Nest) → elim (shifted d r) as (λ _. Nest) [ End q ↦ list_of judge n q (drop (q - (d + p)) (b ∷ bs)) | Fault m q k ↦ Fault m q k ]
        ≡ shifted d (elim r as (λ _. Nest) [ End q ↦ list_of judge n q (drop (q - p) (b ∷ bs)) | Fault m q k ↦ Fault m q k ])
    go rest (End q) =
        let same : d + q - (d + p) ≡ q - p = omega arith in
        ap (λ (k : ℕ). list_of judge n (d + q) (drop k (b ∷ bs))) same ∙ rest q (drop (q - p) (b ∷ bs))
    go rest (Fault m q k) = refl

-- an element further on, by its rule
rule_shifted : (d p q id : ℕ) (kept : Bool) → by_rule kept (d + p) (d + q) id ≡ shifted d (by_rule kept p q id)
unfolding by_rule
rule_shifted d p q id true = refl
rule_shifted d p q id false = refl

-- a constructed element further on, by the answer for its inside
after_shifted : (d p id : ℕ) (c : List ℕ) (r : Nest) → after_inside (d + p) id c (shifted d r) ≡ shifted d (after_inside p id c r)
unfolding after_inside
after_shifted d p id c (End q) = rule_shifted d p q id (closes id c)
after_shifted d p id c (Fault m q k) = refl

-- an element further on has the same answer, further on
element_shifted : (left d p : ℕ) (bs : List ℕ) → element_of left (d + p) bs ≡ shifted d (element_of left p bs)
unfolding element_of
element_shifted zero d p bs = refl
element_shifted (suc left) d p bs = by_head (head_of bs) refl (element_shifted left)
  where
    content : (id h n : ℕ) → head_of bs ≡ Stands id h n → ((d p : ℕ) (cs : List ℕ) → element_of left (d + p) cs ≡ shifted d (element_of left p cs))
        → (t : Bool) → constructed id ≡ t → element_of (suc left) (d + p) bs ≡ shifted d (element_of (suc left) p bs)
    content id h n e inside true f =
        let c = take n (drop h bs) in
        element_inside left (d + p) bs e f
        ∙ ap (after_inside (d + p) id c)
        (ap (λ (x : ℕ). list_of (element_of left) n x c) (add_assoc d p h) ∙ list_shifted (element_of left) inside n d (p + h) c)
        ∙ after_shifted d p id c (list_of (element_of left) n (p + h) c)
        ∙ ap (shifted d) (sym (element_inside left p bs e f))
    content id h n e inside false f =
        let c = take n (drop h bs) in
        let end : d + p + h + n ≡ d + (p + h + n) = omega arith in
        element_value left (d + p) bs e f
        ∙ ap (λ (x : ℕ). by_rule (holds id c) (d + p) x id) end
        ∙ rule_shifted d p (p + h + n) id (holds id c)
        ∙ ap (shifted d) (sym (element_value left p bs e f))

    by_head : (x : Head) → head_of bs ≡ x → ((d p : ℕ) (cs : List ℕ) → element_of left (d + p) cs ≡ shifted d (element_of left p cs))
        → element_of (suc left) (d + p) bs ≡ shifted d (element_of (suc left) p bs)
    by_head (Broken c) e inside = element_broken left (d + p) bs e ∙ ap (shifted d) (sym (element_broken left p bs e))
    by_head (Stands id h n) e inside = content id h n e inside (constructed id) refl

-- octets that are not too many are a list exactly if the list of elements has no fault, at any place and with any count that is enough
pub is_list_listed : (left n p : ℕ) (bs : List ℕ) → length bs ≤ longest → length bs ≤ n → is_list left bs ≡ faultless (list_of (element_of left) n p bs)
unfolding is_list
is_list_listed left n p bs short enough =
    rw (is_list, le-leb (length bs) longest short)
    (sym (ap (λ (x : ℕ). faultless (list_of (element_of left) n x bs)) (sym (add-zero p))
    ∙ ap faultless (list_shifted (element_of left) (element_shifted left) n p 0 bs)
    ∙ shifted_faultless p (list_of (element_of left) n 0 bs)
    ∙ ap faultless (list_enough (element_of left) (element_progress left) n 0 bs enough (length bs) (omega arith))))

-- no octets are a list
pub is_list_none : (left : ℕ) → is_list left [] ≡ true
unfolding is_list list_of faultless
is_list_none left = refl

-- a list is not too long
pub is_list_short : (left : ℕ) (bs : List ℕ) → is_list left bs ≡ true → length bs ≤ longest
unfolding is_list
is_list_short left bs sound = leb-true (length bs) longest ((and-eq-true_iff (leb (length bs) longest) (faultless (list_of (element_of left) (length bs) 0 bs))).0 sound).0

-- to show that octets are no list, it is enough to show it for octets that are not too many
bounded : (left : ℕ) (bs : List ℕ) → (length bs ≤ longest → is_list left bs ≡ false) → is_list left bs ≡ false
unfolding is_list
bounded left bs lost = go (leb (length bs) longest) refl
  where
    go : (t : Bool) → leb (length bs) longest ≡ t → is_list left bs ≡ false
    go true e = lost (leb-true (length bs) longest e)
    go false e = rw (is_list, e)

-- octets that are too many are no list
pub is_list_long : (left : ℕ) (bs : List ℕ) → longest < length bs → is_list left bs ≡ false
is_list_long left bs long = bounded left bs (λ short. absurd (omega arith))

-- octets whose first element has a fault are no list
is_list_fault : (left : ℕ) (bs : List ℕ) {m q k : ℕ} → 0 < length bs → length bs ≤ longest → element_of left 0 bs ≡ Fault m q k → is_list left bs ≡ false
unfolding faultless
is_list_fault left bs some short faulty =
    is_list_listed left (length bs) 0 bs short (omega arith) ∙ ap faultless (list_stop (element_of left) (length bs) 0 bs some (omega arith) faulty)

-- without a level of depth left no octets are a list
pub is_list_deep : (bs : List ℕ) → 0 < length bs → is_list 0 bs ≡ false
unfolding element_of
is_list_deep bs some = bounded 0 bs (λ short. is_list_fault 0 bs {m = 6} {q = 0} {k = 0} some short refl)

-- octets that begin with no span are no list
pub is_list_lost : (left : ℕ) (bs : List ℕ) → 0 < length bs → (span_of bs).octets ≡ 0 → is_list left bs ≡ false
is_list_lost zero bs some lost = is_list_deep bs some
is_list_lost (suc left) bs some lost =
    bounded (suc left) bs
    (λ short. (let x = span_broken bs short lost in is_list_fault (suc left) bs some short (element_broken left 0 bs x)))

-- octets are a list if the first element has no fault and the octets after it are a list
is_list_first : (left e : ℕ) (bs : List ℕ) → 0 < length bs → length bs ≤ longest → ((q : ℕ) → element_of left 0 bs ≡ End q → q ≡ e)
    → is_list left bs ≡ (faultless (element_of left 0 bs) && is_list left (drop e bs))
unfolding faultless
is_list_first left e bs some short ends = go (element_of left 0 bs) refl
  where
    go : (r : Nest) → element_of left 0 bs ≡ r → is_list left bs ≡ (faultless r && is_list left (drop e bs))
    go (Fault m q k) f = is_list_fault left bs some short f
    go (End q) f =
        let size = length-drop e bs in
        let same : q - 0 ≡ e = omega (arith, ends q f) in
        is_list_listed left (length bs) 0 bs short (omega arith)
        ∙ ap faultless (elements_next left (length bs) 0 bs (omega arith) q some f)
        ∙ ap (λ (k : ℕ). faultless (list_of (element_of left) (length bs) q (drop k bs))) same
        ∙ sym (is_list_listed left (length bs) q (drop e bs) (omega arith) (omega arith))

-- an element with an identifier that is not allowed has a fault
pub is_element_refused : (id left : ℕ) (c : List ℕ) → allowed id ≡ false → is_element id left c ≡ false
unfolding is_element
is_element_refused id left c wrong = rw (is_element, wrong)

-- a constructed element has none if the list inside it has none and the rule at its end is kept
pub is_element_inside : (id left : ℕ) (c : List ℕ) → allowed id ≡ true → constructed id ≡ true → is_element id left c ≡ (is_list left c && closes id c)
unfolding is_element
is_element_inside id left c known made = rw (is_element, known) (rw made)

-- a primitive element has none if its content keeps its rule
pub is_element_value : (id left : ℕ) (c : List ℕ) → allowed id ≡ true → constructed id ≡ false → is_element id left c ≡ holds id c
unfolding is_element
is_element_value id left c known plain = rw (is_element, known) (rw plain)

-- an element has no fault if it keeps its rule
rule_faultless : (p q id : ℕ) (kept : Bool) → faultless (by_rule kept p q id) ≡ kept
unfolding faultless by_rule
rule_faultless p q id true = refl
rule_faultless p q id false = refl

-- a constructed one has none if there is none inside and it keeps the rule at its end
after_faultless : (p id : ℕ) (c : List ℕ) (r : Nest) → faultless (after_inside p id c r) ≡ (faultless r && closes id c)
unfolding faultless after_inside
after_faultless p id c (End q) = rule_faultless p q id (closes id c)
after_faultless p id c (Fault m q k) = refl

-- The element that a span gives, in octets that are not too many.
module _ (left : ℕ) (bs : List ℕ) (short : length bs ≤ longest) (some : (span_of bs).octets ≡ 0 → ⊥) where
  abbrev identifier : ℕ
  identifier = get_or bs 0 0

  abbrev front : ℕ
  front = (span_of bs).octets

  abbrev size : ℕ
  size = (span_of bs).length

  -- with an identifier that is not allowed it has a fault
  stopped : allowed identifier ≡ false → element_of (suc left) 0 bs ≡ Fault 3 0 0
  stopped wrong = element_broken left 0 bs (head_refused bs (omega (arith, span_fits bs some)) wrong)

  -- it ends where the span says
  ends : (q : ℕ) → element_of (suc left) 0 bs ≡ End q → q ≡ front + size
  ends q e = by_id (allowed identifier) refl
    where
      by_id : (t : Bool) → allowed identifier ≡ t → q ≡ front + size
      by_id false wrong = end_fault e (stopped wrong)
      by_id true known =
          let d = element_end left 0 q bs e in
          let same : Stands d.identifier d.before d.size ≡ Stands identifier front size = sym d.stands ∙ span_stands bs some known in
          let before : d.before ≡ front = cc in
          let long : d.size ≡ size = cc in
          omega (arith, d.ends)

  -- constructed or primitive, it has no fault if its content has none
  element_content : allowed identifier ≡ true → (t : Bool) → constructed identifier ≡ t
      → faultless (element_of (suc left) 0 bs) ≡ is_element identifier left (take size (drop front bs))
  element_content known true made =
      let c = take size (drop front bs) in
      let long = length_part bs front size (span_fits bs some).1 in
      ap faultless (element_inside left 0 bs (span_stands bs some known) made)
      ∙ after_faultless 0 identifier c (list_of (element_of left) size (0 + front) c)
      ∙ ap (λ (b : Bool). b && closes identifier c) (sym (is_list_listed left size (0 + front) c (omega (arith, span_fits bs some)) (omega arith)))
      ∙ sym (is_element_inside identifier left c known made)
  element_content known false plain =
      let c = take size (drop front bs) in
      ap faultless (element_value left 0 bs (span_stands bs some known) plain)
      ∙ rule_faultless 0 (0 + front + size) identifier (holds identifier c)
      ∙ sym (is_element_value identifier left c known plain)

  -- it has no fault if its identifier and its content have none
  element_whole : (t : Bool) → allowed identifier ≡ t → faultless (element_of (suc left) 0 bs) ≡ is_element identifier left (slice front (front + size) bs)
  unfolding faultless
  element_whole true known = element_content known (constructed identifier) refl ∙ ap (is_element identifier left) (take_drop size front bs)
  element_whole false wrong = ap faultless (stopped wrong) ∙ sym (is_element_refused identifier left (slice front (front + size) bs) wrong)

  -- the octets are a list if it has no fault and the octets after it are a list
  pub is_list_step : is_list (suc left) bs ≡ (is_element (get_or bs 0 0) left (slice (span_of bs).octets ((span_of bs).octets + (span_of bs).length) bs)
      && is_list (suc left) (drop ((span_of bs).octets + (span_of bs).length) bs))
  is_list_step =
      is_list_first (suc left) (front + size) bs (omega (arith, span_fits bs some)) short ends
      ∙ ap (λ (b : Bool). b && is_list (suc left) (drop (front + size) bs)) (element_whole (allowed identifier) refl)

-- an INTEGER's rule
pub holds_integer : (c : List ℕ) → holds 0x02 c ≡ integer c
unfolding holds
holds_integer c = refl

-- a BIT STRING's rule
pub holds_bit_string : (c : List ℕ) → holds 0x03 c ≡ bit_string c
unfolding holds
holds_bit_string c = refl

-- an OBJECT IDENTIFIER's rule
pub holds_object_identifier : (c : List ℕ) → holds 0x06 c ≡ object_identifier c
unfolding holds
holds_object_identifier c = refl

-- a UTF8String's rule
pub holds_utf8 : (c : List ℕ) → holds 0x0C c ≡ utf8 c
unfolding holds
holds_utf8 c = refl

-- whether an identifier asks a rule of its content
abbrev pub ruled : ℕ → Bool
ruled id = eqb id 0x01 || (eqb id 0x02 || (eqb id 0x03 || (eqb id 0x05 || (eqb id 0x06 || (eqb id 0x0A || eqb id 0x0C)))))

-- a test of several that all fail goes on with those after the first
otherwise : (a b x y : Bool) → (a || b) ≡ false → (b ≡ false → y ≡ true) → elim a [ true ↦ x | false ↦ y ] ≡ true
otherwise true b x y free on = absurd (false≢true (sym free))
otherwise false b x y free on = on free

-- one that asks none leaves the content free
pub holds_free : (id : ℕ) (c : List ℕ) → ruled id ≡ false → holds id c ≡ true
unfolding holds
holds_free id c free =
    otherwise (eqb id 0x01) _ _ _ free
    (λ f1. otherwise (eqb id 0x02) _ _ _ f1
    (λ f2. otherwise (eqb id 0x03) _ _ _ f2
    (λ f3. otherwise (eqb id 0x05) _ _ _ f3
    (λ f4. otherwise (eqb id 0x06) _ _ _ f4
    (λ f5. otherwise (eqb id 0x0A) _ _ _ f5
    (λ f6. rw f6))))))

-- if no element is read, there is no octet
tree_empty : (p : ℕ) (bs : List ℕ) → tree p bs ≡ none → length bs ≡ 0
tree_empty p [] e = refl
tree_empty p (b ∷ bs) e = let f = sym (tree_step p b bs) ∙ e in (let z : ◌≡◌ {A = ℕ} 0 1 = cc in absurd (omega arith))

-- a list that is not empty begins with a span
is_list_span : (left : ℕ) (bs : List ℕ) → 0 < length bs → is_list left bs ≡ true → (span_of bs).octets ≡ 0 → ⊥
is_list_span left bs some sound lost = false≢true (sym (is_list_lost left bs some lost) ∙ sound)

module _ (left : ℕ) (bs : List ℕ) (some : 0 < length bs) (sound : is_list (suc left) bs ≡ true) where
  -- the first element of a list has no fault
  first_whole : is_element (get_or bs 0 0) left (slice (span_of bs).octets ((span_of bs).octets + (span_of bs).length) bs) ≡ true
  first_whole =
      ((and-eq-true_iff (is_element (get_or bs 0 0) left (slice (span_of bs).octets ((span_of bs).octets + (span_of bs).length) bs)) _).0
      (sym (is_list_step left bs (is_list_short (suc left) bs sound) (is_list_span (suc left) bs some sound)) ∙ sound)).0

  -- its identifier is allowed
  first_allowed : (t : Bool) → allowed (get_or bs 0 0) ≡ t → allowed (get_or bs 0 0) ≡ true
  first_allowed true e = e
  first_allowed false e = absurd (false≢true (sym (is_element_refused (get_or bs 0 0) left _ e) ∙ first_whole))

  -- if it is the only one, the span and its content are all of them
  first_all : Single (tree 0 bs) → length bs ≡ (span_of bs).octets + (span_of bs).length
  first_all single =
      let short = is_list_short (suc left) bs sound in
      let there = is_list_span (suc left) bs some sound in
      let e = span_tree 0 bs short there (first_allowed (allowed (get_or bs 0 0)) refl) in
      let alone = tree_empty _ _ ((single_element _ _ _ _ _ _).0 (subst Single e single)) in
      omega (arith, span_fits bs there, length-drop ((span_of bs).octets + (span_of bs).length) bs, alone)

  -- then the walk over it ends with them
  first_ends : Single (tree 0 bs) → (r : Nest) → element_of (suc left) 0 bs ≡ r → r ≡ End (length bs)
  unfolding faultless
  first_ends single (End q) e =
      ap End (ends left bs (is_list_short (suc left) bs sound) (is_list_span (suc left) bs some sound) q e ∙ sym (first_all single))
  first_ends single (Fault m q k) e =
      absurd (false≢true (ap faultless (sym e)
      ∙ element_whole left bs (is_list_short (suc left) bs sound) (is_list_span (suc left) bs some sound) (allowed (get_or bs 0 0)) refl
      ∙ first_whole))

-- The walk over an input that is a list of one element ends where the input does.
pub is_list_single : (s : List ℕ) → is_list depth s ≡ true → Single (tree 0 s) → walk_at s 0 (length s) ≡ End (length s)
is_list_single [] sound single = absurd (single_none (subst Single (tree_end 0) single))
is_list_single (b ∷ bs) sound single =
    walk_whole (b ∷ bs) (is_list_short depth (b ∷ bs) sound)
    ∙ first_ends 19 (b ∷ bs) (omega arith) sound single (element_of depth 0 (b ∷ bs)) refl

-- The walk over an input ends where the input does: the input is a list.
pub single_is_list : (s : List ℕ) → walk_at s 0 (length s) ≡ End (length s) → is_list depth s ≡ true
unfolding faultless
single_is_list s is = go (leb (length s) longest) refl
  where
    go : (t : Bool) → leb (length s) longest ≡ t → is_list depth s ≡ true
    go false e = end_fault is (walk_long s 0 (length s) (leb-false (length s) longest e))
    go true e =
        let short = leb-true (length s) longest e in
        let whole = sym (walk_whole s short) ∙ is in
        is_list_first depth (length s) s (omega (arith, element_progress depth 0 (length s) s whole)) short (λ q ends. cc)
        ∙ rw (whole, drop-length s, is_list_none depth)
