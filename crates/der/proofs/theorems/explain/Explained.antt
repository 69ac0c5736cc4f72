-- An answer is the walk's exactly if `Explains` relates its number, place, detail and end to the octets. Assumes nothing.
use Prim.Native.Nat.{ℕ, ◌≤◌, ◌<◌}
use native.Mathlib.Omega.{arith}
use mathlib.Core.Path.{◌≡◌, refl, sym, subst, ◌∙◌}
use mathlib.Core.Bool.{Bool, true, false}
use mathlib.Core.List.{List}
use lib.Dec.{leb}
use lib.ListN.{length, length-append}
use lib.Seq.{slice}
use borrow.Author.Tests.{leb-true, leb-false}
use Rattle.der.specs.steps.Nest.{Nest, End, Fault}
use Rattle.der.specs.meaning.Bounds.{depth, longest}
use Rattle.der.specs.meaning.Octets.{Octets}
use Rattle.der.specs.meaning.Tree.{Tree, none, element, header, Single, encode}
use Rattle.der.specs.meaning.Explains.{Explains, long, fault, ends}
use Rattle.der.specs.steps.Explain.{number_of, place_of, detail_of, end_of, walk_at}
use Rattle.der.proofs.theorems.reading.Trees.{header_some, encode_length, single_none}
use Rattle.der.proofs.theorems.explain.FirstFault.{fault_some}
use Rattle.der.proofs.theorems.explain.Steps.{walk_long}
use Rattle.der.proofs.theorems.explain.AnyPlace.{walk_end_at, walk_fault_at}

-- a single element has octets
single_octets : (t : Tree) → Single t → 0 < length (encode t)
single_octets none one = absurd (single_none one)
single_octets (element id first whole c inside rest) one = omega (arith, encode_length id first whole c inside rest, length-append (header id c) c, header_some id c)

module _ (s : List ℕ) (octets : Octets s) (at end : ℕ) where
  -- What the walk answers is related.
  pub walk_explained : (r : Nest) → r ≡ walk_at s at end → Explains s at end (number_of r) (place_of r) (detail_of r) (end_of r)
  unfolding number_of place_of detail_of end_of
  walk_explained r is = by_length (leb (length s) longest) refl
    where
      by_answer : length s ≤ longest → (w : Nest) → walk_at s at end ≡ w → Explains s at end (number_of w) (place_of w) (detail_of w) (end_of w)
      by_answer short (Fault n p d) faulty = fault short ((walk_fault_at s octets short at end n p d).0 faulty)
      by_answer short (End q) ended =
          let k = (walk_end_at s octets short at end q).0 ended in
          subst (Explains s at end 0 0 0) (sym k.ends) (ends short k.tree k.more k.formed k.single k.split)

      by_length : (b : Bool) → leb (length s) longest ≡ b → Explains s at end (number_of r) (place_of r) (detail_of r) (end_of r)
      by_length true short = rw is (by_answer (leb-true _ _ short) (walk_at s at end) refl)
      by_length false over = rw (is ∙ walk_long s at end (leb-false _ _ over)) (long (leb-false _ _ over))

  -- an answer without a number is an end
  ended_walk : {n p d q : ℕ} → Explains s at end n p d q → n ≡ 0 → walk_at s at end ≡ End q
  ended_walk (long over) zero = absurd (omega arith)
  ended_walk (fault {number = n} {place = p} {detail = d} short first) zero = absurd (omega (arith, fault_some depth at (slice at end s) n p d first))
  ended_walk (ends short t more formed single split) zero =
      (walk_end_at s octets short at end _).1 (record { tree = t; formed = formed; single = single; more = more; split = split; ends = refl })

  -- an answer without an end is a fault
  faulty_walk : {n p d q : ℕ} → Explains s at end n p d q → q ≡ 0 → walk_at s at end ≡ Fault n p d
  faulty_walk (long over) zero = walk_long s at end over
  faulty_walk (fault {number = n} {place = p} {detail = d} short first) zero = (walk_fault_at s octets short at end n p d).1 first
  faulty_walk (ends short t more formed single split) zero = absurd (omega (arith, single_octets t single))

  -- Whatever is related is the walk's answer.
  pub explained_walk : (r : Nest) → Explains s at end (number_of r) (place_of r) (detail_of r) (end_of r) → r ≡ walk_at s at end
  unfolding number_of place_of detail_of end_of
  explained_walk (End q) related = sym (ended_walk related refl)
  explained_walk (Fault n p d) related = sym (faulty_walk related refl)
