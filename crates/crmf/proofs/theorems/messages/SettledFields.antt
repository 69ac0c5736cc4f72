-- Fields that are settled: the same fields, placed one after the other from a place on. Well-formed fields are well-formed wherever they are
-- settled, and where they stand one after the other already, settling them is moving them. Assumes nothing.
use Prim.Native.Nat.{ℕ, zero, suc, ◌+◌}
use native.Mathlib.Nat.{add_assoc}
use native.Mathlib.Omega.{arith}
use mathlib.Core.Path.{◌≡◌, refl, sym, ap, ap₂, ◌∙◌, subst}
use mathlib.Core.Bool.{Bool}
use mathlib.Core.List.Memᴰ
use mathlib.Core.List.{List, [], ◌∷◌, ◌++◌, map, flat_map, Memᴰ}
use lib.ListN.{length, length-append}
use Rattle.der.specs.meaning.Tree.{Tree, header}
use Rattle.der.proofs.Laws.{placed, alike_placed, formed_placed, well_formed_placed, placed_further, inside_there, placed_there}
use Rattle.crmf.specs.meaning.Notation.{Name}
use Rattle.crmf.specs.meaning.Fields.{Field, octets, content_start, Runs, moved_field}
use Rattle.crmf.proofs.theorems.grammar.AlikeMatches.{matches_alike}
use Rattle.crmf.proofs.theorems.messages.FieldLaws.{FormedField}
use Rattle.crmf.proofs.theorems.messages.FieldsMatch.{Holding}

-- the same field at a place
unfoldable pub placed_field : ℕ → Field → Field
placed_field p f =
    record { identifier = f.identifier; place = p; whole = f.whole; content = f.content; inside = placed (p + length (header f.identifier f.content)) f.inside }

-- a field at another place has the same octets
pub octets_placed : (p : ℕ) (f : Field) → octets (placed_field p f) ≡ octets f
unfolding placed_field octets
octets_placed p f = refl

-- a well-formed field is well-formed at any place
pub field_formed : (left p : ℕ) (f : Field) → FormedField left f → FormedField left (placed_field p f)
unfolding placed_field
field_formed zero p f formed = absurd formed
field_formed (suc left) p f formed =
    formed_placed p (well_formed_placed left (content_start f) (p + length (header f.identifier f.content)) f.inside) formed

-- a field holds what a container holds, wherever it stands
pub field_holding : {R : ℕ → Bool} (id : ℕ) (name : Name) (p : ℕ) (f : Field) → Holding R id name f → Holding R id name (placed_field p f)
unfolding placed_field
field_holding id name p f h = (h.0, matches_alike h.1 (alike_placed (p + length (header f.identifier f.content)) f.inside))

-- a field that is placed, further on, is placed further on
pub field_further : (d p : ℕ) (f : Field) → moved_field d (placed_field p f) ≡ placed_field (d + p) f
unfolding placed_field moved_field
field_further d p f =
    let h = length (header f.identifier f.content) in
    ap (λ (t : Tree). record { identifier = f.identifier; place = d + p; whole = f.whole; content = f.content; inside = t })
    (placed_further d (p + h) f.inside ∙ ap (λ (q : ℕ). placed q f.inside) (sym (add_assoc d p h)))

-- a well-formed field that is placed where it stands stays as it is
pub field_there : (left : ℕ) (f : Field) → FormedField left f → placed_field f.place f ≡ f
unfolding placed_field
field_there zero f formed = absurd formed
field_there (suc left) f formed =
    ap (λ (t : Tree). record { identifier = f.identifier; place = f.place; whole = f.whole; content = f.content; inside = t })
    (inside_there (content_start f) formed (placed_there left (content_start f) f.inside))

-- so a well-formed field that is placed further on is moved
pub field_moved : (d left : ℕ) (f : Field) → FormedField left f → placed_field (d + f.place) f ≡ moved_field d f
field_moved d left f formed = sym (field_further d f.place f) ∙ ap (moved_field d) (field_there left f formed)

-- The same fields, one after the other from a place on.
unfoldable pub settled : ℕ → List Field → List Field
settled p [] = []
settled p (f ∷ fs) = placed_field p f ∷ settled (p + f.whole) fs

-- There are as many.
pub settled_length : (p : ℕ) (fs : List Field) → length (settled p fs) ≡ length fs
unfolding settled
settled_length p [] = refl
settled_length p (f ∷ fs) = ap suc (settled_length (p + f.whole) fs)

-- They have the same octets.
pub settled_octets : (p : ℕ) (fs : List Field) → map octets (settled p fs) ≡ map octets fs
unfolding settled
settled_octets p [] = refl
settled_octets p (f ∷ fs) = ap₂ (λ (x : List ℕ) (xs : List (List ℕ)). x ∷ xs) (octets_placed p f) (settled_octets (p + f.whole) fs)

-- What holds of a field at any place, if it holds of the field, holds of each of them, if it holds of each field.
pub settled_each : {P : Field → Type 0} → ((p : ℕ) (f : Field) → P f → P (placed_field p f)) → (p : ℕ) (fs : List Field)
    → ((f : Field) → Memᴰ f fs → P f) → (f : Field) → Memᴰ f (settled p fs) → P f
unfolding settled
settled_each kept p [] all f n = absurd (Memᴰ.not-nil n)
settled_each kept p (g ∷ fs) all f (Memᴰ.head e) = rw e (kept p g (all g (Memᴰ.head refl)))
settled_each kept p (g ∷ fs) all f (Memᴰ.tail n) = settled_each kept (p + g.whole) fs (λ x m. all x (Memᴰ.tail m)) f n

-- a well-formed field is as long as its octets
formed_sized : (left : ℕ) (f : Field) → FormedField left f → f.whole ≡ length (octets f)
unfolding octets
formed_sized zero f formed = absurd formed
formed_sized (suc left) f formed = formed.sized

-- where fields end that come after a well-formed one
formed_end : (left p : ℕ) (f : Field) (fs : List Field) → FormedField left f
    → p + f.whole + length (flat_map octets fs) ≡ p + length (flat_map octets (f ∷ fs))
unfolding flat_map
formed_end left p f fs formed = omega (arith, formed_sized left f formed, length-append (octets f) (flat_map octets fs))

-- Well-formed fields that are settled stand one after the other.
pub settled_run : (left p : ℕ) (fs : List Field) → ((f : Field) → Memᴰ f fs → FormedField left f)
    → Runs p (p + length (flat_map octets fs)) (settled p fs)
unfolding settled placed_field octets flat_map
settled_run left p [] formed = omega arith
settled_run left p (f ∷ fs) formed =
    let own = formed f (Memᴰ.head refl) in
    let next = p + f.whole in
    let run = settled_run left next fs (λ g n. formed g (Memᴰ.tail n)) in
    (refl, formed_sized left f own, subst (λ (e : ℕ). Runs next e (settled next fs)) (formed_end left p f fs own) run)

-- Well-formed fields before others are settled before them.
pub settled_append : (left p : ℕ) (fs gs : List Field) → ((f : Field) → Memᴰ f fs → FormedField left f)
    → settled p (fs ++ gs) ≡ settled p fs ++ settled (p + length (flat_map octets fs)) gs
unfolding settled flat_map
settled_append left p [] gs formed = ap (λ (q : ℕ). settled q gs) (omega arith)
settled_append left p (f ∷ fs) gs formed =
    let own = formed f (Memᴰ.head refl) in
    let next = p + f.whole in
    ap (λ (hs : List Field). placed_field p f ∷ hs)
    (settled_append left next fs gs (λ g n. formed g (Memᴰ.tail n)) ∙ ap (λ (q : ℕ). settled next fs ++ settled q gs) (formed_end left p f fs own))

-- Fields that stand one after the other, settled further on, are moved.
pub settled_moved : (d left from to : ℕ) (fs : List Field) → Runs from to fs → ((f : Field) → Memᴰ f fs → FormedField left f)
    → settled (d + from) fs ≡ map (moved_field d) fs
unfolding settled
settled_moved d left from to [] run formed = refl
settled_moved d left from to (f ∷ fs) run formed =
    ap₂ (λ (g : Field) (gs : List Field). g ∷ gs)
    (ap (λ (p : ℕ). placed_field (d + p) f) (sym run.0) ∙ field_moved d left f (formed f (Memᴰ.head refl)))
    (ap (λ (p : ℕ). settled p fs) (add_assoc d from f.whole) ∙ settled_moved d left (from + f.whole) to fs run.2 (λ g n. formed g (Memᴰ.tail n)))
