-- The elements that octets consist of, by their headers: there is one list of them, and those of an encoding are the tree's. Assumes nothing.
use Prim.Native.Nat.{ℕ, zero, suc, ◌+◌, ◌≤◌}
use mathlib.Core.Path.{◌≡◌, refl, sym, ap, ap₂, ◌∙◌}
use mathlib.Core.List.{List, ◌∷◌, ◌++◌}
use native.Mathlib.Omega.{arith}
use lib.ListN.{length, take, drop, length-append}
use lib.Seq.{take_at, drop_at}
use Rattle.der.specs.steps.Head.{Stands}
use Rattle.der.specs.meaning.Bounds.{longest}
use Rattle.der.specs.meaning.Fault.{Headed, Members}
use Rattle.der.specs.meaning.Tree.{Tree, none, element, header, encode, members, WellFormed}
use Rattle.der.specs.steps.Header.{head_of}
use Rattle.der.proofs.theorems.element.Headers.{head_parts, headed_stands, head_fits, head_encoded}

-- Octets consist of the elements that they are the encoding of.
pub members_encoded : (left p : ℕ) (t : Tree) → WellFormed left p t → length (encode t) ≤ longest → Members (encode t) (members t)
unfolding encode members WellFormed
members_encoded left p none formed short = Members.none
members_encoded zero p (element id first whole c inside rest) formed short = absurd formed
members_encoded (suc left) p (element id first whole c inside rest) formed short =
    let a = header id c ++ c in
    let h = length (header id c) in
    let size : h + length c ≡ length a = sym (length-append (header id c) c) in
    let total = length-append a (encode rest) in
    let headed : Headed (a ++ encode rest) id h (length c) = head_parts _ (head_encoded id c (encode rest) formed.0.identified (omega arith)) in
    let own : take (h + length c) (a ++ encode rest) ≡ a = take_at a (encode rest) (h + length c) (sym size) in
    let after : drop (h + length c) (a ++ encode rest) ≡ encode rest = drop_at a (encode rest) (h + length c) (sym size) in
    let others = members_encoded (suc left) (p + whole) rest formed.1 (omega arith) in
    rw own at (Members.member {ms = members rest} id h (length c) headed (rw after others))

-- They consist of them alone: equal octets have equal members.
one_list : (bs cs : List ℕ) {ms ns : List (List ℕ)} → bs ≡ cs → Members bs ms → Members cs ns → ms ≡ ns
one_list bs cs same Members.none Members.none = refl
one_list bs cs same Members.none (Members.member id h n e rest) = absurd (omega (arith, ap length same, head_fits cs id h n (headed_stands e)))
one_list bs cs same (Members.member id h n e rest) Members.none = absurd (omega (arith, ap length same, head_fits bs id h n (headed_stands e)))
one_list bs cs same (Members.member id h n e rest) (Members.member id' h' n' e' rest') =
    let heads : Stands id h n ≡ Stands id' h' n' = sym (headed_stands e) ∙ ap head_of same ∙ headed_stands e' in
    let before : h ≡ h' = cc in
    let within : n ≡ n' = cc in
    let size : h + n ≡ h' + n' = ap₂ ◌+◌ before within in
    ap₂ (λ m ms. m ∷ ms) (ap₂ take size same) (one_list (drop (h + n) bs) (drop (h' + n') cs) (ap₂ drop size same) rest rest')

-- The same for the same octets.
pub members_single : (bs : List ℕ) {ms ns : List (List ℕ)} → Members bs ms → Members bs ns → ms ≡ ns
members_single bs = one_list bs bs refl
