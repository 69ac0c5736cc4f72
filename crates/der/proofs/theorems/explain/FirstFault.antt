-- The walk answers a fault exactly if it is true and the first in the order of judging: by induction on the levels of depth, and along a
-- list by its elements, each of which is sound or stops the walk. Assumes nothing.
use Prim.Native.Nat.{ℕ, zero, suc, ◌+◌, ◌-◌, ◌≤◌, ◌<◌, max}
use mathlib.Core.Path.{◌≡◌, refl, sym, ap, ◌∙◌}
use mathlib.Core.Bool.{Bool, true, false}
use mathlib.Core.Logic.{◌↔◌}
use mathlib.Core.List.{List, [], ◌∷◌, ◌++◌, append_assoc}
use native.Mathlib.Nat.{add-zero, sub_self}
use native.Mathlib.Omega.{arith}
use lib.Dec.{leb}
use lib.ListN.{length, take, drop, get_or, length-append, length-take, length-drop}
use lib.Seq.{drop_at, get_or-append-add, get_or-take, get_or-drop}
use borrow.Author.Tests.{leb-true, leb-false}
use Rattle.der.specs.declared.cause.Cause.{Cause}
use Rattle.der.specs.steps.Head.{Head, Stands, Broken}
use Rattle.der.specs.steps.Nest.{Nest, End, Fault}
use Rattle.der.specs.meaning.Octets.{Octets}
use Rattle.der.specs.meaning.Identifier.{tag_number, constructed}
use Rattle.der.specs.steps.Header.{sized_by, head_of}
use Rattle.der.specs.meaning.Content.{Content}
use Rattle.der.specs.steps.ContentTest.{holds}
use Rattle.der.specs.meaning.Tree.{none, encode, WellFormed}
use Rattle.der.specs.meaning.Bounds.{depth, longest}
use Rattle.der.specs.steps.Order.{closes}
use Rattle.der.specs.steps.Explain.{number_of, place_of, fault_at, list_of, by_rule, after_inside, element_of, walk_at}
use Rattle.der.specs.meaning.Fault.{Headed, Breaks, Faults, FaultOf, FirstIn, First, Named}
use Rattle.der.proofs.theorems.content.ContentRules.{content_exact}
use Rattle.der.proofs.theorems.explain.Exact.{joined, joined_encode, joined_formed, Sound, element_sound, list_sound, list_over, list_complete, Encoded, exact}
use Rattle.der.proofs.theorems.closing.MembersRead.{members_encoded}
use Rattle.der.proofs.theorems.closing.Closing.{closes_not}
use Rattle.der.proofs.theorems.element.Headers.{head_parts, headed_stands, head_breaks, head_fits}
use Rattle.der.proofs.theorems.lists.Parts.{octets_drop, octets_part_lem, part_short, filled}
use Rattle.der.proofs.theorems.explain.Progress.{list_along, element_progress}
use Rattle.der.proofs.theorems.explain.Steps.{head_wrong, head_sized, head_past, element_broken, element_inside, inside_fault, inside_ends, element_value, rule_broken}
use Rattle.der.proofs.theorems.explain.Steps.{list_stop, walk_whole, walk_long}

-- a header that stands has the first octet for its identifier
head_first : (bs : List ℕ) (id h n : ℕ) → Headed bs id h n → id ≡ get_or bs 0 0
head_first bs id h n x = sym (ap (λ l. get_or l 0 0) x.split)

-- A content that fails the test breaks its rule, and the other way round.
pub unkept : (id : ℕ) (c : List ℕ) → holds id c ≡ false ↔ (Content id c → ⊥)
unkept id c = (λ e k. rw e at ((content_exact id c).1 k), go (holds id c) refl)
  where
    go : (b : Bool) → holds id c ≡ b → (Content id c → ⊥) → b ≡ false
    go true e f = absurd (f ((content_exact id c).0 (rw e tt)))
    go false e f = refl

-- A rule that an element breaks itself is answered.
pub own_found : (left p : ℕ) {bs : List ℕ} {number detail : ℕ} → Breaks bs number detail → element_of (suc left) p bs ≡ Fault number p detail
unfolding head_of sized_by
own_found left p Breaks.no_identifier = element_broken left p [] refl
own_found left p (Breaks.identifier {id} {bs} u) = element_broken left p (id ∷ bs) (head_wrong id bs u)
own_found left p (Breaks.no_length {id} {bs} u v) = element_broken left p (id ∷ bs) (head_sized id bs u v)
own_found left p (Breaks.length {id} {bs} u v) = element_broken left p (id ∷ bs) (head_sized id bs u v)
own_found left p (Breaks.past_end {id} {bs} k n u v w) = element_broken left p (id ∷ bs) (head_past id bs u v w)
own_found left p (Breaks.content {bs} id h n e u v) =
    let c = take n (drop h bs) in
    element_value left p bs (headed_stands e) u ∙ rule_broken p (p + h + n) id ((unkept id c).1 v)

-- What is claimed of the fault that an answer has; an end has none.
abbrev pub Claim : (ℕ → ℕ → ℕ → Type 0) → Nest → Type 0
Claim F (End q) = Unit {0}
Claim F (Fault number at detail) = F number at detail

-- what follows from a claim may be claimed
pub claim : (F G : ℕ → ℕ → ℕ → Type 0) → ((number at detail : ℕ) → F number at detail → G number at detail) → (r : Nest) → Claim F r → Claim G r
claim F G so (End q) f = tt
claim F G so (Fault number at detail) f = so number at detail f

-- What holds of the answers for a broken header, for a primitive element's rule, and for a constructed element by that for its inside, holds of
-- an element's answer.
pub element_ways : (left p : ℕ) (bs : List ℕ) (P : Nest → Type 0)
    → ((c : Cause) → head_of bs ≡ Broken c → P (fault_at c p))
    → ((id h n : ℕ) → head_of bs ≡ Stands id h n → constructed id ≡ false → P (by_rule (holds id (take n (drop h bs))) p (p + h + n) id))
    → ((id h n : ℕ) → head_of bs ≡ Stands id h n → constructed id ≡ true → let c = take n (drop h bs) in
    P (after_inside p id c (list_of (element_of left) n (p + h) c)))
    → P (element_of (suc left) p bs)
element_ways left p bs P broken value inside = by_head (head_of bs) refl
  where
    by_kind : (id h n : ℕ) → head_of bs ≡ Stands id h n → (made : Bool) → constructed id ≡ made → P (element_of (suc left) p bs)
    by_kind id h n f true g = rw (element_inside left p bs f g) (inside id h n f g)
    by_kind id h n f false g = rw (element_value left p bs f g) (value id h n f g)

    by_head : (r : Head) → head_of bs ≡ r → P (element_of (suc left) p bs)
    by_head (Broken c) f = rw (element_broken left p bs f) (broken c f)
    by_head (Stands id h n) f = by_kind id h n f (constructed id) refl

-- a list whose first element has a fault
stops : (left : ℕ) (F : Faults) (p : ℕ) (bs : List ℕ) (number at detail : ℕ) → 0 < length bs → F p bs number at detail
    → FirstIn left F p bs number at detail
unfolding encode WellFormed
stops left F p bs number at detail some f =
    record { before = none; after = bs; split = refl; holds = tt; one = λ e. omega (arith, ap length e); faulty = rw add-zero f }

-- a list whose first element is sound, and whose others have a first fault
goes_on : (left p q : ℕ) (F : Faults) (bs : List ℕ) → Sound left p q bs → (number at detail : ℕ) → FirstIn left F q (drop (q - p) bs) number at detail
    → FirstIn left F p bs number at detail
goes_on left p q F bs k number at detail f =
    let t = k.tree in
    let u = f.before in
    let past = drop_at (encode t) k.more (q - p) (omega (arith, k.ends)) in
    let both = joined_encode t u in
    let more : k.more ≡ encode u ++ f.after = sym past ∙ ap (drop (q - p)) (sym k.split) ∙ f.split in
    let place : q + length (encode u) ≡ p + length (encode (joined t u)) = omega (arith, k.ends, ap length both, length-append (encode t) (encode u)) in
    record {
      before = joined t u;
      after = f.after;
      split = k.split ∙ ap (λ l. encode t ++ l) more ∙ rw (both, append_assoc);
      holds = joined_formed left p t u k.formed (rw k.ends at f.holds);
      one = f.one;
      faulty = rw place at f.faulty;
    }

-- a list's fault is the first, if those of its elements are
list_true : (left : ℕ) → ((p : ℕ) (bs : List ℕ) → Octets bs → length bs ≤ longest → Claim (First left p bs) (element_of left p bs))
    → (n p : ℕ) (bs : List ℕ) → length bs ≤ n → Octets bs → length bs ≤ longest
    → Claim (FirstIn left (First left) p bs) (list_of (element_of left) n p bs)
list_true left known =
    list_along (element_of left) (element_progress left)
    (λ p bs r. Octets bs → length bs ≤ longest → Claim (FirstIn left (First left) p bs) r)
    (λ p o l. tt)
    (λ p bs m q k some f o l. stops left (First left) p bs m q k some (rw f at (known p bs o l)))
    (λ p bs q r some f further o l.
    claim (FirstIn left (First left) q (drop (q - p) bs)) (FirstIn left (First left) p bs)
    (goes_on left p q (First left) bs (element_sound left p q bs o l f)) r (further (octets_drop (q - p) bs o) (simp length-drop (omega arith))))

-- an element's fault is the first, if those of the elements inside it are
module _ (left p : ℕ) (bs : List ℕ) (o : Octets bs) (l : length bs ≤ longest) where
  -- the fault of an element whose header stands
  abbrev Of : Nest → Type 0
  Of = Claim (FaultOf left (FirstIn left (First left)) p bs)

  -- a primitive one's
  value_true : (id h n : ℕ) → head_of bs ≡ Stands id h n → constructed id ≡ false → (kept : Bool) → holds id (take n (drop h bs)) ≡ kept
      → Of (by_rule kept p (p + h + n) id)
  unfolding by_rule
  value_true id h n f g true k = tt
  value_true id h n f g false k = FaultOf.own (Breaks.content id h n (head_parts bs f) g ((unkept id (take n (drop h bs))).0 k))

  -- a constructed one's, by the answer for its inside
  inside_true : (id h n : ℕ) → head_of bs ≡ Stands id h n → constructed id ≡ true → let c = take n (drop h bs) in
      (r : Nest) → list_of (element_of left) n (p + h) c ≡ r → Claim (FirstIn left (First left) (p + h) c) r → (kept : Bool) → closes id c ≡ kept
      → Of (after_inside p id c r)
  unfolding after_inside by_rule
  inside_true id h n f g (Fault m q k) faulty known kept is = FaultOf.inside id h n (head_parts bs f) g known
  inside_true id h n f g (End q) ends known true is = rw is tt
  inside_true id h n f g (End q) ends known false is =
      let part = part_short bs h n in
      let c = take n (drop h bs) in
      let k = list_sound left n (p + h) q c (omega arith) (octets_part_lem h n bs o) (omega arith) ends in
      let size = ap length k.whole in
      let listed = members_encoded left (p + h) k.tree k.formed (omega arith) in
      rw is
      (FaultOf.closing id h n (head_parts bs f) g k.tree k.formed k.whole
      ((closes_not id listed (omega arith)).0 (sym (ap (closes id) k.whole) ∙ is)))

-- an element's fault is the first
element_true : (left p : ℕ) (bs : List ℕ) → Octets bs → length bs ≤ longest → Claim (First left p bs) (element_of left p bs)
unfolding element_of
element_true zero p bs o l = (refl, refl, refl)
element_true (suc left) p bs o l =
    element_ways left p bs (Of left p bs o l)
    (λ c broken. FaultOf.own (head_breaks bs broken))
    (λ id h n f g. value_true left p bs o l id h n f g _ refl)
    (λ id h n f g.
    let part = part_short bs h n in
    inside_true left p bs o l id h n f g _ refl
    (list_true left (element_true left) n (p + h) (take n (drop h bs)) (omega arith) (octets_part_lem h n bs o) (omega arith)) _ refl)

-- A fault that the walk answers is true and the first in the order of judging.
pub fault_true : (left p : ℕ) (bs : List ℕ) (number at detail : ℕ) → Octets bs → length bs ≤ longest → element_of left p bs ≡ Fault number at detail
    → First left p bs number at detail
fault_true left p bs number at detail o l e = rw e at (element_true left p bs o l)

-- the first fault of a list is answered, if those of its elements are: the walk goes along the elements before it
list_found : (left : ℕ)
    → ((p : ℕ) (bs : List ℕ) (number at detail : ℕ) → length bs ≤ longest → First left p bs number at detail
    → element_of left p bs ≡ Fault number at detail)
    → (n p : ℕ) (bs : List ℕ) (number at detail : ℕ) → length bs ≤ n → length bs ≤ longest → FirstIn left (First left) p bs number at detail
    → list_of (element_of left) n p bs ≡ Fault number at detail
list_found left known n p bs number at detail enough short f =
    let x = encode f.before in
    let size = ap length f.split ∙ length-append x f.after in
    let total = length-append x f.after in
    let answer = known (p + length x) f.after number at detail (omega arith) f.faulty in
    rw f.split
    (list_over left f.before f.after n p f.holds (omega arith) (omega arith)
    ∙ list_stop (element_of left) n (p + length x) f.after (filled f.after f.one) (omega arith) answer)

-- A fault that is true and the first in the order of judging is answered.
pub fault_found : (left p : ℕ) (bs : List ℕ) (number at detail : ℕ) → length bs ≤ longest → First left p bs number at detail
    → element_of left p bs ≡ Fault number at detail
unfolding element_of
fault_found zero p bs number at detail l f =
    let a : number ≡ 6 = f.0 in
    let b : at ≡ p = f.1 in
    let c : detail ≡ 0 = f.2 in
    cc
fault_found (suc left) p bs number at detail l (FaultOf.own b) = own_found left p b
fault_found (suc left) p bs number at detail l (FaultOf.inside id h n e made f) =
    let part = part_short bs h n in
    inside_fault left p bs (headed_stands e) made
    (list_found left (fault_found left) n (p + h) (take n (drop h bs)) number at detail (omega arith) (omega arith) f)
fault_found (suc left) p bs number at detail l (FaultOf.closing id h n e made t formed whole unasked) =
    let part = part_short bs h n in
    let size = ap length whole in
    let ends = list_complete left n (p + h) t formed (omega arith) (omega arith) in
    let lost = (closes_not id (members_encoded left (p + h) t formed (omega arith)) (omega arith)).1 unasked in
    inside_ends left p bs (headed_stands e) made (rw whole ends) ∙ rule_broken p (p + h + length (encode t)) id (ap (closes id) whole ∙ lost)

-- The walk over an element answers a fault exactly if it is true and the first in the order of judging.
pub first_fault : (left p : ℕ) (bs : List ℕ) (number at detail : ℕ) → Octets bs → length bs ≤ longest
    → element_of left p bs ≡ Fault number at detail ↔ First left p bs number at detail
first_fault left p bs number at detail o l = (fault_true left p bs number at detail o l, fault_found left p bs number at detail l)

-- The same for a whole input.
pub walk_fault : (s : List ℕ) → Octets s → length s ≤ longest → (number at detail : ℕ)
    → walk_at s 0 (length s) ≡ Fault number at detail ↔ First depth 0 s number at detail
walk_fault s o l number at detail = rw (walk_whole s l) (first_fault depth 0 s number at detail o l)

-- A rule that an element breaks has its number and detail.
breaks_named : {bs : List ℕ} {number detail : ℕ} → Breaks bs number detail → Named (get_or bs 0 0) number detail
breaks_named Breaks.no_identifier = Named.no_identifier
breaks_named (Breaks.identifier u) = Named.identifier
breaks_named (Breaks.no_length u v) = Named.no_length
breaks_named (Breaks.length u v) = Named.length
breaks_named (Breaks.past_end k n u v w) = Named.past_end
breaks_named (Breaks.content {bs} id h n e u v) = rw (head_first bs id h n e) Named.content

-- The place of an element's first fault, and what its number and detail are.
pub record Placed (p : ℕ) (bs : List ℕ) (number at detail : ℕ) : Type 0 where
  pub from : p ≤ at
  pub upto : at < p + max 1 (length bs)
  pub within : (id h n : ℕ) → Headed bs id h n → at < p + (h + n)
  pub named : Named (get_or bs (at - p) 0) number detail

-- a fault of the element itself is at its first byte
placed_here : (p : ℕ) (bs : List ℕ) (number detail : ℕ) → Named (get_or bs 0 0) number detail → Placed p bs number p detail
placed_here p bs number detail k =
    record {
      from = omega arith;
      upto = omega arith;
      within = λ id h n e. omega (arith, head_fits bs id h n (headed_stands e));
      named = rw sub_self k;
    }

-- The same of a list of elements, which is not empty.
abbrev Inner : Faults
Inner p bs number at detail = (p ≤ at) × (at < p + length bs) × Named (get_or bs (at - p) 0) number detail

-- a fault of the element after x is in the list
placed_after : (p : ℕ) (x bs : List ℕ) (number at detail : ℕ) → (bs ≡ [] → ⊥) → Placed (p + length x) bs number at detail
    → Inner p (x ++ bs) number at detail
placed_after p x bs number at detail o k =
    let full = filled bs o in
    let from = k.from in
    let upto = k.upto in
    let place : at - p ≡ length x + (at - (p + length x)) = omega arith in
    (omega arith, rw length-append (omega arith), rw (place, get_or-append-add) k.named)

-- a fault of the list inside an element is in the element
placed_inside : (p : ℕ) (bs : List ℕ) (number at detail id h n : ℕ) → Headed bs id h n
    → Inner (p + h) (take n (drop h bs)) number at detail → Placed p bs number at detail
placed_inside p bs number at detail id h n e k =
    let i = at - (p + h) in
    let from = k.0 in
    let stands = headed_stands e in
    let fits = head_fits bs id h n stands in
    let before : at < p + (h + n) = omega (arith, simp (length-take, length-drop) at k.1) in
    let place : at - p ≡ h + i = omega arith in
    let octet : get_or (take n (drop h bs)) i 0 ≡ get_or bs (at - p) 0 = get_or-take n (drop h bs) i 0 (omega arith) ∙ get_or-drop h bs i 0 ∙ rw place in
    record {
      from = omega arith;
      upto = omega arith;
      within = λ id' h' n' e'. (let other = headed_stands e' in let a : h' ≡ h = cc in let b : n' ≡ n = cc in omega arith);
      named = rw octet at k.2;
    }

-- so it is with one more level of depth
placed_of : (left p : ℕ) (bs : List ℕ) {number at detail : ℕ}
    → ((p : ℕ) (bs : List ℕ) (number at detail : ℕ) → First left p bs number at detail → Placed p bs number at detail)
    → First (suc left) p bs number at detail → Placed p bs number at detail
placed_of left p bs known (FaultOf.own {number} {detail} b) = placed_here p bs number detail (breaks_named b)
placed_of left p bs known (FaultOf.closing id h n e made t formed whole unasked) = placed_here p bs 5 (tag_number id) (rw (head_first bs id h n e) Named.content)
placed_of left p bs known (FaultOf.inside {number} {at} {detail} id h n e u f) =
    let x = encode f.before in
    let k = placed_after (p + h) x f.after number at detail f.one (known (p + h + length x) f.after number at detail f.faulty) in
    placed_inside p bs number at detail id h n e (rw f.split k)

-- so it is with every number of levels
pub placed : (left p : ℕ) (bs : List ℕ) (number at detail : ℕ) → First left p bs number at detail → Placed p bs number at detail
placed zero p bs number at detail f = rw (f.0, f.1, f.2) (placed_here p bs 6 0 Named.depth)
placed (suc left) p bs number at detail f = placed_of left p bs (placed left) f

-- The first fault is at the element's first byte or after it, and before the end unless there is no octet.
pub fault_within : (left p : ℕ) (bs : List ℕ) (number at detail : ℕ) → First left p bs number at detail
    → (p ≤ at) × (at ≤ p + length bs) × (0 < length bs → at < p + length bs)
fault_within left p bs number at detail f = omega (arith, placed left p bs number at detail f)

-- The first fault's number is one of 2 to 6 with its detail; 5 has the tag number of the element at the fault's place.
pub fault_named : (left p : ℕ) (bs : List ℕ) (number at detail : ℕ) → First left p bs number at detail → Named (get_or bs (at - p) 0) number detail
fault_named left p bs number at detail f = (placed left p bs number at detail f).named

-- so it is from 2 to 6
pub fault_some : (left p : ℕ) (bs : List ℕ) (number at detail : ℕ) → First left p bs number at detail → (2 ≤ number) × (number ≤ 6)
fault_some left p bs number at detail f = go (fault_named left p bs number at detail f)
  where
    go : {id n d : ℕ} → Named id n d → (2 ≤ n) × (n ≤ 6)
    go Named.no_identifier = (omega arith, omega arith)
    go Named.no_length = (omega arith, omega arith)
    go Named.past_end = (omega arith, omega arith)
    go Named.identifier = (omega arith, omega arith)
    go Named.length = (omega arith, omega arith)
    go Named.content = (omega arith, omega arith)
    go Named.depth = (omega arith, omega arith)

-- Document 01's number is 0 exactly if the input is not too long and starts with the encoding of a well-formed tree of a single element.
pub number_zero : (s : List ℕ) → Octets s → number_of (walk_at s 0 (length s)) ≡ 0 ↔ (length s ≤ longest) × ((e : ℕ) × Encoded s e)
unfolding number_of
number_zero s o = (short (leb (length s) longest) refl, λ (l, (e, k)). rw ((exact s e o l).1 k))
  where
    found : length s ≤ longest → (r : Nest) → walk_at s 0 (length s) ≡ r → number_of r ≡ 0 → (e : ℕ) × Encoded s e
    found l (End e) ends z = (e, (exact s e o l).0 ends)
    found l (Fault n q k) faulty z = absurd (omega (arith, fault_some depth 0 s n q k ((walk_fault s o l n q k).0 faulty)))

    short : (b : Bool) → leb (length s) longest ≡ b → number_of (walk_at s 0 (length s)) ≡ 0 → (length s ≤ longest) × ((e : ℕ) × Encoded s e)
    short true t z = let l = leb-true (length s) longest t in (l, found l (walk_at s 0 (length s)) refl z)
    short false t z = absurd (omega (arith, rw (walk_long s 0 (length s) (leb-false (length s) longest t)) at z))

-- A fault of an input that is not too long has a number from 2 to 6.
pub fault_number : (s : List ℕ) → Octets s → length s ≤ longest → (n q k : ℕ) → walk_at s 0 (length s) ≡ Fault n q k → (2 ≤ n) × (n ≤ 6)
fault_number s o l n q k faulty = fault_some depth 0 s n q k ((walk_fault s o l n q k).0 faulty)

-- If document 01's number of an input that is not too long is not 0, number and place are those of the first fault.
pub number_place : (s : List ℕ) → Octets s → length s ≤ longest → (n q : ℕ)
    → (number_of (walk_at s 0 (length s)) ≡ n) × (place_of (walk_at s 0 (length s)) ≡ q) × (0 < n) ↔ ((detail : ℕ) × First depth 0 s n q detail)
unfolding number_of place_of
number_place s o l n q = (
  λ (m, p, some). found (walk_at s 0 (length s)) refl m p some,
  λ (k, f).
      let faulty = (walk_fault s o l n q k).1 f in
      (rw faulty, rw faulty, omega (arith, fault_some depth 0 s n q k f)),
)
  where
    found : (r : Nest) → walk_at s 0 (length s) ≡ r → number_of r ≡ n → place_of r ≡ q → 0 < n → (detail : ℕ) × First depth 0 s n q detail
    found (End e) ends m p some = absurd (omega arith)
    found (Fault x y k) faulty m p some = (k, (walk_fault s o l n q k).0 (cc))
