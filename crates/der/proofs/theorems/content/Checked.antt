-- The state of the check by classes after the octets before a place: whatever follows them, it answers from there as from the first octet.
-- With nothing after them this says that a character may begin at the place exactly if no tail is wanted. Assumes nothing.
use Prim.Native.Nat.{ℕ, ◌+◌, ◌≤◌, ◌<◌}
use mathlib.Core.Bool.{Bool}
use mathlib.Core.List.{List, [], ◌∷◌, ◌++◌, append-nil, append_assoc}
use mathlib.Core.Logic.{◌↔◌}
use mathlib.Core.Path.{◌≡◌, sym, ap, ◌∙◌}
use native.Mathlib.Numerals.{add-one}
use borrow.Author.Tests.{eqb-true}
use lib.Dec.{eqb}
use lib.ListN.{length, get_or, take, drop, take-append-drop}
use lib.Ieee.Bits.{is_true}
use lib.Seq.{take-suc, take_all}
use Rattle.std.specs.Prelude.{Option}
use Rattle.der.specs.declared.content.utf8.Tails.{Tails}
use Rattle.der.specs.meaning.Eights.{MayBegin}
use Rattle.der.specs.steps.Utf8Classes.{class_of, utf8_from, utf8, Classes, after_step}
use Rattle.der.proofs.theorems.content.Productions.{over_characters, utf8_exact}
use Rattle.der.proofs.theorems.content.Utf8Steps.{any_range}

-- the check stands at the place and still wants `left` tails, the next of a class from low to high
pub record Checked (text : List ℕ) (place left low high : ℕ) : Type 0 where
  pub within : place ≤ length text
  pub same : (rest : List ℕ) → utf8_from left low high rest ≡ utf8 (take place text ++ rest)

module _ {text : List ℕ} {place : ℕ} where
  -- where a character may begin, no tail is wanted
  pub checked_begin : {low high : ℕ} → place ≤ length text → MayBegin text place → Checked text place 0 low high
  unfolding utf8
  checked_begin {low} {high} h u = record { within = h; same = λ rest. any_range low high rest ∙ sym (over_characters rest u) }

  module _ {left low high : ℕ} (k : Checked text place left low high) where
    -- at the end of what is read, the check answers whether no tail is wanted
    ends : eqb left 0 ≡ utf8 (take place text)
    unfolding utf8_from
    ends = k.same [] ∙ ap utf8 (append-nil (take place text))

    -- a character may begin exactly if no tail is wanted
    pub begins_exactly : (left ≡ 0) ↔ MayBegin text place
    begins_exactly = (
      λ e. (utf8_exact (take place text)).0 (rw (sym ends, e) tt),
      λ u. eqb-true left 0 (ends ∙ is_true (utf8 (take place text)) ((utf8_exact (take place text)).1 u)),
    )

    -- the whole text is read
    pub checked_end : length text ≤ place → eqb left 0 ≡ utf8 text
    checked_end h = ends ∙ ap utf8 (take_all place text h)

    -- the octet at the place, its class looked up in a table, and the step that it makes
    pub turned : (table : List ℕ) (r : Option Tails) → Classes table → place < length text → get_or text place 0 < 256
        → ((b : ℕ) (bs : List ℕ) → class_of b ≡ get_or table (get_or text place 0) 0 → after_step r bs ≡ utf8_from left low high (b ∷ bs))
        → (rest : List ℕ) → after_step r rest ≡ utf8 (take (place + 1) text ++ rest)
    turned table r t h o f rest =
        let b = get_or text place 0 in
        let on : take (place + 1) text ++ rest ≡ take place text ++ b ∷ rest =
        rw (add-one place, take-suc text place 0 h) (append_assoc (take place text) (b ∷ []) rest) in
        f b rest (sym (t.entry b o)) ∙ k.same (b ∷ rest) ∙ sym (ap utf8 on)

-- an answer for what follows a place is one for the whole text
pub whole : (text : List ℕ) (place : ℕ) {t : Bool} → ((rest : List ℕ) → t ≡ utf8 (take place text ++ rest)) → t ≡ utf8 text
whole text place f = f (drop place text) ∙ ap utf8 (take-append-drop place text)
