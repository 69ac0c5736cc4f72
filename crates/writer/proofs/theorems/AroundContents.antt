-- A batch around octets that come in two runs: how long it is, which octets come before them, and what is answered of it. Assumes nothing.
use Prim.Native.Nat.{ℕ, suc, ◌+◌, ◌≤◌, ◌<◌}
use native.Mathlib.Nat.{zero-add}
use native.Mathlib.Omega.{arith}
use mathlib.Core.Path.{◌≡◌, sym, ap, ◌∙◌}
use mathlib.Core.List.{List, [], ◌∷◌, ◌++◌, append-nil}
use lib.ListN.{length, length-append}
use borrow.Author.Tests.{le-leb, lt-leb}
use Rattle.der.specs.meaning.Bounds.{longest}
use Rattle.der.specs.meaning.Length.{length_octets}
use Rattle.der.specs.meaning.Refusal.{too_long_number, no_room_number}
use Rattle.der.specs.meaning.Tree.{header}
use Rattle.der.proofs.Laws.{header_octets}
use Rattle.crmf.specs.meaning.Kinds as kinds
use Rattle.crmf.specs.meaning.Lists.{over}
use Rattle.crmf.specs.steps.rows.Assembly.{identifier_of, implied}
use Rattle.crmf.proofs.Laws.{identifier_of_lem, implied_none}
use Rattle.editions.specs.steps.Reading.{refusal, accepted}
use Rattle.writer.specs.steps.Around.{around, around_answer, around_output}
use Rattle.writer.specs.steps.Writing.{delivered_answer, delivered_output}

-- a batch implies no type
nothing_implied : implied kinds.batch ≡ []
nothing_implied = implied_none kinds.batch (λ e. omega arith)

-- how long a batch around n octets is, as a container with that inside
abbrev pub whole_batch : ℕ → ℕ
whole_batch n = suc (length (length_octets (length (implied kinds.batch) + n)) + (length (implied kinds.batch) + n))

-- the octets before them
abbrev pub before_batch : ℕ → List ℕ
before_batch n = identifier_of kinds.batch ∷ (length_octets (length (implied kinds.batch) + n) ++ implied kinds.batch)

module _ (left right : List ℕ) where
  -- they are the header
  pub before_header : before_batch (length left + length right) ≡ header 0x30 (left ++ right)
  before_header =
      rw (nothing_implied, identifier_of_lem kinds.batch, zero-add (length left + length right), sym (length-append left right), header_octets 0x30 (left ++ right))
      (ap (λ (l : List ℕ). 0x30 ∷ l) (append-nil (length_octets (length (left ++ right)))))

  pub whole_around : whole_batch (length left + length right) ≡ length (around left right)
  whole_around =
      let bare : length (implied kinds.batch) + (length left + length right) ≡ length (left ++ right) =
      ap (λ (l : List ℕ). length l + (length left + length right)) nothing_implied ∙ zero-add (length left + length right) ∙ sym (length-append left right) in
      ap (λ (n : ℕ). suc (length (length_octets n) + n)) bare
      ∙ omega (arith, ap length (header_octets 0x30 (left ++ right)), length-append (header 0x30 (left ++ right)) (left ++ right))

  -- what is answered of a batch that is too long, and the output
  pub around_long : (old : List ℕ) → longest < length (around left right) → (refusal too_long_number 0 ≡ around_answer left right old) × (old ≡ around_output left right old)
  unfolding around_answer around_output
  around_long old long = let past = lt-leb _ _ long in (sym (rw (around_answer, past)), sym (rw (around_output, past)))

  module _ (old : List ℕ) (fits : length (around left right) ≤ longest) where
    -- of one for which there is no room
    pub around_roomless : length old < length (around left right)
        → (refusal no_room_number 0 ≡ around_answer left right old) × (old ≡ around_output left right old)
    unfolding around_answer around_output
    around_roomless short =
        let within = le-leb _ _ fits in
        let past = lt-leb _ _ short in
        (sym (rw (around_answer, within, delivered_answer, past)), sym (rw (around_output, within, delivered_output, past)))

    -- and of one that is written
    pub around_written : length (around left right) ≤ length old
        → (accepted (length (around left right)) ≡ around_answer left right old) × (over old 0 (around left right) ≡ around_output left right old)
    unfolding around_answer around_output
    around_written room =
        let within = le-leb _ _ fits in
        let here = le-leb _ _ room in
        (sym (rw (around_answer, within, delivered_answer, here)), sym (rw (around_output, within, delivered_output, here)))
