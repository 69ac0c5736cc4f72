-- The laws of an element's header: it fits, the header of an encoding is read back, and octets that are read are an encoding. Assumes nothing.
use Prim.Native.Nat.{ℕ, suc, ◌+◌, ◌≤◌}
use mathlib.Core.Path.{◌≡◌, refl, sym, ap, ap₂}
use mathlib.Core.Bool.{Bool, true, false}
use mathlib.Core.Logic.{◌↔◌}
use mathlib.Core.List.{List, [], ◌∷◌, ◌++◌, append_assoc}
use native.Mathlib.Omega.{arith}
use lib.Dec.{T, leb}
use lib.ListN.{length, take, drop, length-append, take-append-drop}
use lib.Seq.{drop-drop}
use borrow.Author.Tests.{leb-true, leb-false}
use Rattle.der.specs.declared.cause.Cause.{Cause}
use Rattle.der.specs.steps.Head.{Head, Stands, Broken}
use Rattle.der.specs.meaning.Octets.{Octets}
use Rattle.der.specs.meaning.Bounds.{longest}
use Rattle.der.specs.steps.Cause.{cause_number, cause_detail}
use Rattle.der.specs.meaning.Identifier.{allowed}
use Rattle.der.specs.meaning.Length.{Length, missing, wrong, octets, length_of, length_octets}
use Rattle.der.specs.steps.Header.{sized_by, head_of}
use Rattle.der.specs.meaning.Tree.{header}
use Rattle.der.specs.meaning.Fault.{Headed, Breaks}
use Rattle.der.proofs.theorems.element.Length.{Shortest, length_encoded, length_octets_lem, length_counted}
use Rattle.der.proofs.theorems.lists.Parts.{octets_rest, length_part}
use Rattle.der.proofs.theorems.explain.Steps.{head_wrong, head_sized, head_stands, head_past}

-- a test that holds is true
pub passed : (t : Bool) → T t → t ≡ true
passed true h = refl
passed false h = absurd h

-- What the answer on a header says: its parts if there is one, and the rule that the element breaks if there is none.
abbrev Told : List ℕ → Head → Type 0
Told bs (Stands id h n) = Headed bs id h n
Told bs (Broken c) = Breaks bs (cause_number c) (cause_detail c)

-- every answer says so
told : (bs : List ℕ) → Told bs (head_of bs)
unfolding head_of sized_by
told [] = Breaks.no_identifier
told (id ∷ bs) = go (allowed id) refl (length_of bs) refl
  where
    room : (k n : ℕ) → allowed id ≡ true → length_of bs ≡ octets k n → (t : Bool) → leb (k + n) (length bs) ≡ t → Told (id ∷ bs) (head_of (id ∷ bs))
    room k n u v true w =
        let fits = leb-true (k + n) (length bs) w in
        rw (head_stands id bs u v fits) (record { count = k; after = bs; split = refl; known = u; measured = v; sized = refl; fits = fits })
    room k n u v false w = let far = leb-false (k + n) (length bs) w in rw (head_past id bs u v far) (Breaks.past_end k n u v far)

    go : (a : Bool) → allowed id ≡ a → (l : Length) → length_of bs ≡ l → Told (id ∷ bs) (head_of (id ∷ bs))
    go false u l v = rw (head_wrong id bs u) (Breaks.identifier u)
    go true u missing v = rw (head_sized id bs u v) (Breaks.no_length u v)
    go true u wrong v = rw (head_sized id bs u v) (Breaks.length u v)
    go true u (octets k n) v = room k n u v (leb (k + n) (length bs)) refl

-- a header that stands has these parts
pub head_parts : (bs : List ℕ) {id h n : ℕ} → head_of bs ≡ Stands id h n → Headed bs id h n
head_parts bs e = rw e at (told bs)

-- octets with these parts have a header that stands
pub headed_stands : {bs : List ℕ} {id h n : ℕ} → Headed bs id h n → head_of bs ≡ Stands id h n
headed_stands {bs} {id} {h} {n} x = rw (x.split, x.sized) (head_stands id x.after x.known x.measured x.fits)

-- The code finds a header exactly if the octets begin with one.
pub head_exact : (bs : List ℕ) (id h n : ℕ) → head_of bs ≡ Stands id h n ↔ Headed bs id h n
head_exact bs id h n = (head_parts bs, headed_stands)

-- an element with a broken header breaks that rule
pub head_breaks : (bs : List ℕ) {c : Cause} → head_of bs ≡ Broken c → Breaks bs (cause_number c) (cause_detail c)
head_breaks bs e = rw e at (told bs)

-- a header has at least two octets, and it and the content that it gives fit
pub head_fits : (bs : List ℕ) (id h n : ℕ) → head_of bs ≡ Stands id h n → (2 ≤ h) × (h + n ≤ length bs)
head_fits bs id h n e =
    let x = head_parts bs e in
    omega (arith, length_counted x.after x.count n x.measured, x.sized, x.fits, ap length x.split)

-- the header of an encoding is read back, whatever comes after the element
pub head_encoded : (id : ℕ) (c more : List ℕ) → T (allowed id) → length c ≤ longest → head_of ((header id c ++ c) ++ more) ≡ Stands id (length (header id c)) (length c)
unfolding header
head_encoded id c more known high =
    let ls : List ℕ = length_octets (length c) in
    head_stands id ((ls ++ c) ++ more) (passed (allowed id) known) (rw append_assoc (length_encoded (length c) (c ++ more) high))
    (simp length-append (omega arith))

-- what is read as a header and its content is their encoding, and the octets after it follow
pub head_octets : (bs : List ℕ) (id h n : ℕ) → Octets bs → length bs ≤ longest → head_of bs ≡ Stands id h n
    → T (allowed id) × (h ≡ length (header id (take n (drop h bs)))) × (bs ≡ (header id (take n (drop h bs)) ++ take n (drop h bs)) ++ drop (h + n) bs)
unfolding header
head_octets [] id h n o high e = absurd (omega (arith, head_fits [] id h n e))
head_octets (b ∷ bs) id h n o high e =
    let x = head_parts (b ∷ bs) e in
    let k : ℕ = x.count in
    let first : id ≡ b = cc x.split in
    let rest : x.after ≡ bs = cc x.split in
    let f : k + n ≤ length bs = rw rest at x.fits in
    let s : Shortest bs k n = length_octets_lem bs k n (octets_rest b bs o) (omega arith) (rw rest at x.measured) in
    let c : List ℕ = take n (drop k bs) in
    let long : length c ≡ n = length_part bs k n f in
    let more : List ℕ = drop (suc k + n) (b ∷ bs) in
    let after : more ≡ drop n (drop k bs) = sym (drop-drop n (suc k) (b ∷ bs)) in
    let whole : (take k bs ++ c) ++ more ≡ bs = rw (append_assoc (take k bs) c more, after, take-append-drop n (drop k bs)) (take-append-drop k bs) in
    let own : length_octets (length c) ≡ take k bs = rw long (sym s.taken) in
    rw x.sized (rw x.known tt, rw (long, s.counted), rw own (ap₂ (λ i l. i ∷ l) (sym first) (sym whole)))
