-- The fault that the walk answers is decided first of all, and every other later: headers alone lead to every fault, and the walk decides each
-- element's at its first byte, or at its last. Assumes nothing.
use Prim.Native.Nat.{ℕ, zero, suc, ◌+◌, ◌-◌, ◌≤◌, ◌<◌}
use mathlib.Core.Path.{◌≡◌, refl, sym, ap, subst, ◌∙◌}
use mathlib.Core.Logic.{◌↔◌, ◌⊎◌, inl, inr}
use mathlib.Core.Bool.{Bool, true, false, false≢true}
use mathlib.Core.List.{List}
use native.Mathlib.Omega.{arith}
use lib.Dec.{leb}
use lib.ListN.{length, take, drop, length-drop}
use borrow.Author.Tests.{leb-true, leb-false}
use Rattle.der.specs.declared.cause.Cause.{Cause}
use Rattle.der.specs.steps.Head.{Stands, Broken}
use Rattle.der.specs.steps.Nest.{Nest, End, Fault}
use Rattle.der.specs.meaning.Octets.{Octets}
use Rattle.der.specs.meaning.Identifier.{tag_number, constructed}
use Rattle.der.specs.meaning.Bounds.{depth, longest}
use Rattle.der.specs.meaning.Order.{Closing}
use Rattle.der.specs.meaning.Tree.{members}
use Rattle.der.specs.meaning.Fault.{Headed, Breaks, Members, DecidedFaults, AnyOf, AnyIn, Any, Sooner, Soonest}
use Rattle.der.specs.steps.Cause.{cause_number, cause_detail}
use Rattle.der.specs.steps.Header.{head_of}
use Rattle.der.specs.steps.ContentTest.{holds}
use Rattle.der.specs.steps.Order.{closes}
use Rattle.der.specs.steps.Explain.{fault_at, list_of, by_rule, after_inside, element_of, walk_at}
use Rattle.der.proofs.theorems.closing.MembersRead.{members_encoded}
use Rattle.der.proofs.theorems.closing.Closing.{closes_not}
use Rattle.der.proofs.theorems.explain.Exact.{list_sound}
use Rattle.der.proofs.theorems.explain.FirstFault.{unkept, own_found, element_ways}
use Rattle.der.proofs.theorems.element.Headers.{head_parts, headed_stands, head_breaks, head_fits}
use Rattle.der.proofs.theorems.lists.Parts.{octets_drop, octets_part_lem, part_short, length_part, filled}
use Rattle.der.proofs.theorems.explain.Progress.{list_along, element_progress, element_head}
use Rattle.der.proofs.theorems.explain.Steps.{end_fault, stands_broken, walk_whole}

-- a list with a fault has an octet
in_filled : {F : DecidedFaults} {p : ℕ} {bs : List ℕ} {n a d e : ℕ} → AnyIn F p bs n a d e → 0 < length bs
in_filled (AnyIn.here {bs} o f) = filled bs o
in_filled (AnyIn.later {bs} id h n e f) = omega (arith, head_fits bs id h n (headed_stands e))

-- an element's header leads after it
later_any : (F : DecidedFaults) (p q : ℕ) (bs : List ℕ) (id h n : ℕ) → head_of bs ≡ Stands id h n → q ≡ p + (h + n) → (m a d e : ℕ)
    → AnyIn F q (drop (q - p) bs) m a d e → AnyIn F p bs m a d e
later_any F p q bs id h n stands ends m a d e f =
    let gap : q - p ≡ h + n = omega arith in
    AnyIn.later id h n (head_parts bs stands) (rw (gap, ends) at f)

-- Where a fault of the element at p is, and where it is decided: not before p, and before the element's end.
record Within (p : ℕ) (bs : List ℕ) (at decided : ℕ) : Type 0 where
  from : p ≤ at
  on : at ≤ decided
  upto : 0 < length bs → decided < p + length bs
  ends : (id h n : ℕ) → Headed bs id h n → decided < p + (h + n)

-- The same of a list of elements, which is not empty.
abbrev WithinList : ℕ → List ℕ → ℕ → ℕ → Type 0
WithinList p bs at decided = (p ≤ at) × (at ≤ decided) × (decided < p + length bs)

-- at the element's first byte
within_here : (p : ℕ) (bs : List ℕ) → Within p bs p p
within_here p bs =
    record {
      from = omega arith;
      on = omega arith;
      upto = λ some. omega arith;
      ends = λ id h n e. omega (arith, head_fits bs id h n (headed_stands e));
    }

-- from its content to its last byte
within_headed : (p : ℕ) (bs : List ℕ) (id h n at decided : ℕ) → Headed bs id h n → p ≤ at → at ≤ decided → decided < p + (h + n) → Within p bs at decided
within_headed p bs id h n at decided e from on upto =
    let stands = headed_stands e in
    let fits = head_fits bs id h n stands in
    record {
      from = from;
      on = on;
      upto = λ some. omega arith;
      ends = λ id' h' n' e'. (let other = headed_stands e' in let a : h' ≡ h = cc in let b : n' ≡ n = cc in omega arith);
    }

module _ (left : ℕ) (known : (p : ℕ) (bs : List ℕ) (n a d e : ℕ) → Any left p bs n a d e → Within p bs a e) where
  -- a list's faults are within it, if those of its elements are
  in_within : (p : ℕ) (bs : List ℕ) (n a d e : ℕ) → AnyIn (Any left) p bs n a d e → WithinList p bs a e
  in_within p bs n a d e (AnyIn.here o f) =
      let k = known p bs n a d e f in
      (k.from, k.on, k.upto (filled bs o))
  in_within p bs n a d e (AnyIn.later id h x head f) =
      let k = in_within (p + (h + x)) (drop (h + x) bs) n a d e f in
      let fits = head_fits bs id h x (headed_stands head) in
      let size = length-drop (h + x) bs in
      (omega arith, k.1, omega arith)

  -- and so are those of an element with one more level
  of_within : (p : ℕ) (bs : List ℕ) {n a d e : ℕ} → Any (suc left) p bs n a d e → Within p bs a e
  of_within p bs (AnyOf.own b) = within_here p bs
  of_within p bs (AnyOf.inside {number} {at} {detail} {decided} id h n e made f) =
      let k = in_within (p + h) (take n (drop h bs)) number at detail decided f in
      let part = part_short bs h n in
      within_headed p bs id h n at decided e (omega arith) k.1 (omega arith)
  of_within p bs (AnyOf.closing id h n e made ms listed unasked) =
      let fits = head_fits bs id h n (headed_stands e) in
      within_headed p bs id h n p (p + (h + n) - 1) e (omega arith) (omega arith) (omega arith)

-- an element's faults are within it
within : (left p : ℕ) (bs : List ℕ) (n a d e : ℕ) → Any left p bs n a d e → Within p bs a e
within zero p bs n a d e ((number, place, detail), decided) = rw (place, decided) (within_here p bs)
within (suc left) p bs n a d e f = of_within left (within left) p bs f

-- and a list's
within_list : (left p : ℕ) (bs : List ℕ) (n a d e : ℕ) → AnyIn (Any left) p bs n a d e → WithinList p bs a e
within_list left = in_within left (within left)

-- The rule at an element's end, decided at its last byte, comes after every fault inside it and before every fault of the elements after it.
module _ (left p : ℕ) (bs : List ℕ) (id h n : ℕ) (e : Headed bs id h n) where
  abbrev last : ℕ
  last = p + (h + n) - 1

  pub inside_sooner : (m a d x : ℕ) → AnyIn (Any left) (p + h) (take n (drop h bs)) m a d x → Sooner a x p last
  inside_sooner m a d x f = go (leb (suc x) last) refl
    where
      go : (b : Bool) → leb (suc x) last ≡ b → Sooner a x p last
      go true before = inl (omega (arith, leb-true (suc x) last before))
      go false past =
          let near = within_list left (p + h) (take n (drop h bs)) m a d x f in
          inr (omega (arith, part_short bs h n, leb-false (suc x) last past), omega (arith, head_fits bs id h n (headed_stands e)))

  pub behind_later : (m a d x : ℕ) → AnyIn (Any left) (p + (h + n)) (drop (h + n) bs) m a d x → Sooner p last a x
  behind_later m a d x f =
      let far = within_list left (p + (h + n)) (drop (h + n) bs) m a d x f in
      inl (omega (arith, head_fits bs id h n (headed_stands e)))

-- What an answer says of the faults: an end that there is none, a fault that it is the one that is decided first.
abbrev Settled : (ℕ → ℕ → ℕ → ℕ → Type 0) → Nest → Type 0
Settled F (End q) = (n a d e : ℕ) → F n a d e → ⊥
Settled F (Fault number at detail) = Soonest F number at detail

-- it says so of equal faults
settled_same : (F G : ℕ → ℕ → ℕ → ℕ → Type 0) → ((n a d e : ℕ) → F n a d e → G n a d e) → ((n a d e : ℕ) → G n a d e → F n a d e)
    → (r : Nest) → Settled F r → Settled G r
settled_same F G to from (End q) k = λ n a d e g. k n a d e (from n a d e g)
settled_same F G to from (Fault number at detail) k =
    record { decided = k.decided; any = to number at detail k.decided k.any; others = λ n a d e g. k.others n a d e (from n a d e g) }

-- If the answers for elements say so, with the levels of depth that are left, so does that for a list of them.
module _ (left : ℕ) (known : (p : ℕ) (bs : List ℕ) → Octets bs → length bs ≤ longest → Settled (Any left p bs) (element_of left p bs)) where
  -- a list whose first element has a fault: those after it come later
  list_stops : (p : ℕ) (bs : List ℕ) (m q k : ℕ) → 0 < length bs → element_of left p bs ≡ Fault m q k → Octets bs → length bs ≤ longest
      → Settled (AnyIn (Any left) p bs) (Fault m q k)
  list_stops p bs m q k some e o l =
      let s : Soonest (Any left p bs) m q k = rw e at (known p bs o l) in
      record {
        decided = s.decided;
        any = AnyIn.here {bs = bs} (λ z. omega (arith, ap length z)) s.any;
        others = λ n a d x f. others s n a d x f;
      }
    where
      others : (s : Soonest (Any left p bs) m q k) (n a d x : ℕ) → AnyIn (Any left) p bs n a d x
          → ((m ≡ n) × (q ≡ a) × (k ≡ d)) ⊎ Sooner q s.decided a x
      others s n a d x (AnyIn.here z f) = s.others n a d x f
      others s n a d x (AnyIn.later id h y head f) =
          let near = (within left p bs m q k s.decided s.any).ends id h y head in
          let far = within_list left (p + (h + y)) (drop (h + y) bs) n a d x f in
          inr (inl (omega arith))

  -- a list whose first element ends: there is no fault in that, and its header leads after it
  list_goes_on : (p : ℕ) (bs : List ℕ) (q : ℕ) (r : Nest) → 0 < length bs → element_of left p bs ≡ End q
      → (Octets (drop (q - p) bs) → length (drop (q - p) bs) ≤ longest → Settled (AnyIn (Any left) q (drop (q - p) bs)) r)
      → Octets bs → length bs ≤ longest → Settled (AnyIn (Any left) p bs) r
  list_goes_on p bs q r some e further o l =
      let (id, h, x, stands, ends) = element_head left p q bs e in
      settled_same (AnyIn (Any left) q (drop (q - p) bs)) (AnyIn (Any left) p bs)
      (λ n a d y f. later_any (Any left) p q bs id h x stands ends n a d y f)
      (λ n a d y f. back id h x stands ends n a d y f)
      r (further (octets_drop (q - p) bs o) (simp length-drop (omega arith)))
    where
      back : (id h x : ℕ) → head_of bs ≡ Stands id h x → q ≡ p + (h + x) → (n a d y : ℕ) → AnyIn (Any left) p bs n a d y
          → AnyIn (Any left) q (drop (q - p) bs) n a d y
      back id h x stands ends n a d y (AnyIn.here z f) = absurd ((rw e at (known p bs o l)) n a d y f)
      back id h x stands ends n a d y (AnyIn.later id' h' x' head f) =
          let same : Stands id h x ≡ Stands id' h' x' = sym stands ∙ headed_stands head in
          let front : h ≡ h' = cc in
          let size : x ≡ x' = cc in
          let place : q ≡ p + (h' + x') = omega arith in
          let gap : q - p ≡ h' + x' = omega arith in
          rw (gap, place) f

  -- a list
  list_settled : (i p : ℕ) (bs : List ℕ) → length bs ≤ i → Octets bs → length bs ≤ longest → Settled (AnyIn (Any left) p bs) (list_of (element_of left) i p bs)
  list_settled =
      list_along (element_of left) (element_progress left)
      (λ p bs r. Octets bs → length bs ≤ longest → Settled (AnyIn (Any left) p bs) r)
      (λ p o l n a d e f. absurd (omega (arith, in_filled f)))
      list_stops
      list_goes_on

-- An element with one more level of depth, by its answer.
module _ (left p : ℕ) (bs : List ℕ) (o : Octets bs) (l : length bs ≤ longest) where
  abbrev Faulty : ℕ → ℕ → ℕ → ℕ → Type 0
  Faulty = AnyOf (AnyIn (Any left)) p bs

  -- a rule that it breaks itself is the answer
  own_same : {m q k n d : ℕ} → element_of (suc left) p bs ≡ Fault m q k → Breaks bs n d → (m ≡ n) × (q ≡ p) × (k ≡ d)
  own_same answer b = let found = own_found left p b in let same = sym answer ∙ found in (cc, cc, cc)

  -- a broken header: no fault is inside or at the end
  broken_settled : (c : Cause) → head_of bs ≡ Broken c → element_of (suc left) p bs ≡ fault_at c p → Settled Faulty (fault_at c p)
  broken_settled c broken answer =
      record { decided = p; any = AnyOf.own (head_breaks bs broken); others = λ n a d e f. inl (others f) }
    where
      others : {n a d e : ℕ} → Faulty n a d e → (cause_number c ≡ n) × (p ≡ a) × (cause_detail c ≡ d)
      others (AnyOf.own b) = own_same answer b
      others (AnyOf.inside id h n e made f) = stands_broken (headed_stands e) broken
      others (AnyOf.closing id h n e made ms listed unasked) = stands_broken (headed_stands e) broken

  -- A header that stands.
  module _ (id h n : ℕ) (stands : head_of bs ≡ Stands id h n) where
    abbrev content : List ℕ
    content = take n (drop h bs)

    -- it is the only one
    one_header : {id' h' n' : ℕ} → Headed bs id' h' n' → (id ≡ id') × (h ≡ h') × (n ≡ n')
    one_header e = let same = sym stands ∙ headed_stands e in (cc, cc, cc)

    -- so an element is primitive or constructed
    made_plain : {A : Type 0} {id' h' n' : ℕ} → constructed id ≡ false → Headed bs id' h' n' → constructed id' ≡ true → A
    made_plain plain e made = absurd (false≢true (sym plain ∙ ap constructed (one_header e).0 ∙ made))

    -- a primitive element
    value_settled : constructed id ≡ false → (kept : Bool) → holds id content ≡ kept → element_of (suc left) p bs ≡ by_rule kept p (p + h + n) id
        → Settled Faulty (by_rule kept p (p + h + n) id)
    unfolding by_rule
    value_settled plain true is answer = λ m a d x f. none f
      where
        none : {m a d x : ℕ} → Faulty m a d x → ⊥
        none (AnyOf.own b) = end_fault answer (own_found left p b)
        none (AnyOf.inside id' h' n' e made f) = made_plain plain e made
        none (AnyOf.closing id' h' n' e made ms listed unasked) = made_plain plain e made
    value_settled plain false is answer =
        record {
          decided = p;
          any = AnyOf.own (Breaks.content id h n (head_parts bs stands) plain ((unkept id content).0 is));
          others = λ m a d x f. inl (others f);
        }
      where
        others : {m a d x : ℕ} → Faulty m a d x → (5 ≡ m) × (p ≡ a) × (tag_number id ≡ d)
        others (AnyOf.own b) = own_same answer b
        others (AnyOf.inside id' h' n' e made f) = made_plain plain e made
        others (AnyOf.closing id' h' n' e made ms listed unasked) = made_plain plain e made

    -- a constructed element
    module _ (made : constructed id ≡ true) where
      abbrev Inside : ℕ → ℕ → ℕ → ℕ → Type 0
      Inside = AnyIn (Any left) (p + h) content

      -- its content's octets are not too many
      content_size : length content ≡ n
      content_size = length_part bs h n (head_fits bs id h n stands).1

      -- a fault inside is one of the list inside
      inner : {id' h' n' m a d x : ℕ} → Headed bs id' h' n' → AnyIn (Any left) (p + h') (take n' (drop h' bs)) m a d x → Inside m a d x
      inner e f = let (same, front, size) = one_header e in rw (front, size) f

      -- members that aren't what the identifier asks for are those of its content
      disordered : {id' h' n' : ℕ} {ms : List (List ℕ)} → Headed bs id' h' n' → Members (take n' (drop h' bs)) ms → (Closing id' ms → ⊥)
          → closes id content ≡ false
      disordered {ms = ms} e listed unasked =
          let (same, front, size) = one_header e in
          let fits = head_fits bs id h n stands in
          (closes_not id {bs = content} {ms = ms} (rw (front, size) listed) (omega (arith, content_size))).1 (subst (λ i. Closing i ms → ⊥) (sym same) unasked)

      -- with a fault inside: that at the end comes later
      fault_settled : (m q k : ℕ) → element_of (suc left) p bs ≡ Fault m q k → Soonest Inside m q k → Settled Faulty (Fault m q k)
      fault_settled m q k answer s =
          record {
            decided = s.decided;
            any = AnyOf.inside id h n (head_parts bs stands) made s.any;
            others = λ m a d x f. others f;
          }
        where
          others : {i a d x : ℕ} → Faulty i a d x → ((m ≡ i) × (q ≡ a) × (k ≡ d)) ⊎ Sooner q s.decided a x
          others (AnyOf.own b) = inl (own_same answer b)
          others (AnyOf.inside id' h' n' e made' f) = s.others _ _ _ _ (inner e f)
          others (AnyOf.closing id' h' n' e made' ms listed unasked) =
              let (same, front, size) = one_header e in
              rw (sym front, sym size) (inr (inside_sooner left p bs id h n (head_parts bs stands) m q k s.decided s.any))

      -- without one
      end_settled : (q : ℕ) → list_of (element_of left) n (p + h) content ≡ End q → ((m a d x : ℕ) → Inside m a d x → ⊥) → (kept : Bool)
          → closes id content ≡ kept → element_of (suc left) p bs ≡ by_rule kept p q id → Settled Faulty (by_rule kept p q id)
      unfolding by_rule
      end_settled q ends clean true is answer = λ m a d x f. none f
        where
          none : {m a d x : ℕ} → Faulty m a d x → ⊥
          none (AnyOf.own b) = end_fault answer (own_found left p b)
          none (AnyOf.inside id' h' n' e made' f) = clean _ _ _ _ (inner e f)
          none (AnyOf.closing id' h' n' e made' ms listed unasked) = false≢true (sym (disordered e listed unasked) ∙ is)
      end_settled q ends clean false is answer =
          let fits = head_fits bs id h n stands in
          let k = list_sound left n (p + h) q content (omega (arith, content_size)) (octets_part_lem h n bs o) (omega (arith, content_size)) ends in
          let size = ap length k.whole in
          let listed = members_encoded left (p + h) k.tree k.formed (omega (arith, content_size)) in
          record {
            decided = p + (h + n) - 1;
            any =
                AnyOf.closing id h n (head_parts bs stands) made (members k.tree) (subst (λ (l : List ℕ). Members l (members k.tree)) (sym k.whole) listed)
                ((closes_not id listed (omega (arith, content_size))).0 (sym (ap (closes id) k.whole) ∙ is));
            others = λ m a d x f. inl (others f);
          }
        where
          others : {m a d x : ℕ} → Faulty m a d x → (5 ≡ m) × (p ≡ a) × (tag_number id ≡ d)
          others (AnyOf.own b) = own_same answer b
          others (AnyOf.inside id' h' n' e made' f) = absurd (clean _ _ _ _ (inner e f))
          others (AnyOf.closing id' h' n' e made' ms listed unasked) = (refl, refl, ap tag_number (one_header e).0)

      -- by the answer for its inside
      inside_settled : (r : Nest) → list_of (element_of left) n (p + h) content ≡ r → Settled Inside r → element_of (suc left) p bs ≡ after_inside p id content r
          → Settled Faulty (after_inside p id content r)
      unfolding after_inside
      inside_settled (Fault m q k) is s answer = fault_settled m q k answer s
      inside_settled (End q) is clean answer = end_settled q is clean (closes id content) refl answer

-- Every answer says of an element's faults which is decided first.
settled : (left p : ℕ) (bs : List ℕ) → Octets bs → length bs ≤ longest → Settled (Any left p bs) (element_of left p bs)
unfolding element_of
settled zero p bs o l =
    record {
      decided = p;
      any = ((refl, refl, refl), refl);
      others = λ n a d e f. inl (sym f.0.0, sym f.0.1, sym f.0.2);
    }
settled (suc left) p bs o l =
    element_ways left p bs (λ r. element_of (suc left) p bs ≡ r → Settled (Any (suc left) p bs) r)
    (broken_settled left p bs o l)
    (λ id h n stands plain. value_settled left p bs o l id h n stands plain (holds id (take n (drop h bs))) refl)
    (λ id h n stands made.
    let part = part_short bs h n in
    inside_settled left p bs o l id h n stands made _ refl
    (list_settled left (settled left) n (p + h) (take n (drop h bs)) (omega arith) (octets_part_lem h n bs o) (omega arith))) refl

-- of two faults only one comes first
one_first : (a d b e : ℕ) → Sooner a d b e → Sooner b e a d → ⊥
one_first a d b e (inl x) (inl y) = omega arith
one_first a d b e (inl x) (inr y) = omega arith
one_first a d b e (inr x) (inl y) = omega arith
one_first a d b e (inr x) (inr y) = omega arith

-- The walk over an element answers a fault exactly if of all the faults of the element and of those inside it this is decided first.
pub soonest_fault : (left p : ℕ) (bs : List ℕ) (number at detail : ℕ) → Octets bs → length bs ≤ longest
    → element_of left p bs ≡ Fault number at detail ↔ Soonest (Any left p bs) number at detail
soonest_fault left p bs number at detail o l = (λ e. rw e at (settled left p bs o l), λ k. from k (element_of left p bs) refl (settled left p bs o l))
  where
    same : (n a d : ℕ) (k : Soonest (Any left p bs) number at detail) (s : Soonest (Any left p bs) n a d)
        → ((number ≡ n) × (at ≡ a) × (detail ≡ d)) ⊎ Sooner at k.decided a s.decided
        → ((n ≡ number) × (a ≡ at) × (d ≡ detail)) ⊎ Sooner a s.decided at k.decided → Fault n a d ≡ Fault number at detail
    same n a d k s (inl (x, y, z)) other = cc
    same n a d k s (inr x) (inl (u, v, w)) = cc
    same n a d k s (inr x) (inr y) = absurd (one_first at k.decided a s.decided x y)

    from : Soonest (Any left p bs) number at detail → (r : Nest) → element_of left p bs ≡ r → Settled (Any left p bs) (element_of left p bs)
        → element_of left p bs ≡ Fault number at detail
    from k (End q) e s = absurd ((rw e at s) number at detail k.decided k.any)
    from k (Fault n a d) e s =
        let t : Soonest (Any left p bs) n a d = rw e at s in
        e ∙ same n a d k t (k.others n a d t.decided t.any) (t.others number at detail k.decided k.any)

-- An element with any fault, of its own or inside it, doesn't end. So a SET whose members descend breaks DER wherever headers lead to it.
pub faulty_never_ends : (left p : ℕ) (bs : List ℕ) (number at detail decided q : ℕ) → Octets bs → length bs ≤ longest
    → Any left p bs number at detail decided → element_of left p bs ≡ End q → ⊥
faulty_never_ends left p bs number at detail decided q o l f ends = (rw ends at (settled left p bs o l)) number at detail decided f

-- The same for a whole input.
pub walk_soonest : (s : List ℕ) → Octets s → length s ≤ longest → (number at detail : ℕ)
    → walk_at s 0 (length s) ≡ Fault number at detail ↔ Soonest (Any depth 0 s) number at detail
walk_soonest s o l number at detail = rw (walk_whole s l) (soonest_fault depth 0 s number at detail o l)
