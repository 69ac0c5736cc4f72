-- The messages of two short batches, computed on the definitions: document 01's smallest one, and one of two messages, the second with a
-- proof and a regInfo. Assumes nothing.
use Prim.Native.Nat.{ℕ}
use mathlib.Core.Path.{◌≡◌, refl}
use mathlib.Core.List.{List, [], ◌∷◌, ◌++◌, map}
use Rattle.der.specs.meaning.Identifier.{tag_number, constructed, allowed}
use Rattle.der.specs.meaning.Length.{value_from, shortest, long_form, length_of}
use Rattle.der.specs.steps.Header.{sized_by, head_of}
use Rattle.der.specs.steps.Reading.{given, read, tree_of, tree}
use Rattle.crmf.specs.meaning.Notation.{among}
use Rattle.crmf.specs.meaning.Fields.{Field, fields, nth, first_with, listed}
use Rattle.crmf.specs.meaning.Messages.{Message, message_of, batch, messages}

-- a message's fields, each by its identifier, first byte and whole length
abbrev figures : Message → List (List ℕ)
figures m =
    map (λ (f : Field). f.identifier ∷ f.place ∷ f.whole ∷ [])
    (m.own ∷ m.cert_req ∷ m.cert_req_id ∷ m.template ∷ (listed m.controls ++ (listed m.proof ++ listed m.reg_info)))

-- the smallest batch
smallest : map figures (messages (tree 0 (0x30 ∷ 0x09 ∷ 0x30 ∷ 0x07 ∷ 0x30 ∷ 0x05 ∷ 0x02 ∷ 0x01 ∷ 0x00 ∷ 0x30 ∷ 0x00 ∷ [])))
    ≡ ((0x30 ∷ 2 ∷ 9 ∷ []) ∷ (0x30 ∷ 4 ∷ 7 ∷ []) ∷ (0x02 ∷ 6 ∷ 3 ∷ []) ∷ (0x30 ∷ 9 ∷ 2 ∷ []) ∷ []) ∷ []
unfolding tag_number constructed allowed tree tree_of read given head_of sized_by length_of long_form shortest value_from among fields nth first_with message_of batch messages listed
smallest = refl

-- two messages, the second with a proof and a regInfo
two : map figures (messages (tree 0 (
    0x30 ∷ 0x1D ∷ 0x30 ∷ 0x07 ∷ 0x30 ∷ 0x05 ∷ 0x02 ∷ 0x01 ∷ 0x00 ∷ 0x30 ∷ 0x00
    ∷ 0x30 ∷ 0x12 ∷ 0x30 ∷ 0x05 ∷ 0x02 ∷ 0x01 ∷ 0x05 ∷ 0x30 ∷ 0x00 ∷ 0x80 ∷ 0x00
    ∷ 0x30 ∷ 0x07 ∷ 0x30 ∷ 0x05 ∷ 0x06 ∷ 0x01 ∷ 0x2A ∷ 0x05 ∷ 0x00 ∷ [])))
    ≡ ((0x30 ∷ 2 ∷ 9 ∷ []) ∷ (0x30 ∷ 4 ∷ 7 ∷ []) ∷ (0x02 ∷ 6 ∷ 3 ∷ []) ∷ (0x30 ∷ 9 ∷ 2 ∷ []) ∷ [])
    ∷ ((0x30 ∷ 11 ∷ 20 ∷ []) ∷ (0x30 ∷ 13 ∷ 7 ∷ []) ∷ (0x02 ∷ 15 ∷ 3 ∷ []) ∷ (0x30 ∷ 18 ∷ 2 ∷ []) ∷ (0x80 ∷ 20 ∷ 2 ∷ []) ∷ (0x30 ∷ 22 ∷ 9 ∷ []) ∷ [])
    ∷ []
unfolding tag_number constructed allowed tree tree_of read given head_of sized_by length_of long_form shortest value_from among fields nth first_with message_of batch messages listed
two = refl
