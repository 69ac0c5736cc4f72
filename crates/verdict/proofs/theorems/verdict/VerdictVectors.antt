-- A worked message for each verdict, with its signed part: one statement over the list of them, computed on the definitions. Assumes nothing.
use Prim.Native.Nat.{ℕ, ◌+◌}
use mathlib.Core.Path.{◌≡◌, refl}
use mathlib.Core.List.{List, [], ◌∷◌, ◌++◌}
use lib.ListN.{length}
use Rattle.der.specs.examples.Each.{Each, ◌&◌}
use Rattle.der.specs.meaning.Identifier.{tag_number, constructed, allowed}
use Rattle.der.specs.meaning.Length.{value_from, shortest, long_form, length_of}
use Rattle.der.specs.steps.Header.{sized_by, head_of}
use Rattle.der.specs.meaning.Content.{integer, last_of, unpadded, object_identifier, bit_string}
use Rattle.der.specs.steps.ContentTest.{holds}
use Rattle.der.specs.steps.Order.{closes}
use Rattle.der.specs.steps.Explain.{list_of, by_rule, after_inside, element_of, walk_at}
use Rattle.der.specs.steps.Reading.{given, read, tree_of, tree, nothing_at}
use Rattle.crmf.specs.meaning.Value.{is_up_to, is_empty, keeps, type_number, selected}
use Rattle.crmf.specs.meaning.Lists.{same}
use Rattle.crmf.specs.meaning.Notation.{among, named, order}
use Rattle.crmf.specs.meaning.Grammar.{content}
use Rattle.crmf.specs.steps.grammar.Lines.{part_size, size, starts_from, start, inside_line, pass_of, form_lines, next_line, way_line, part_lines, container_lines, lines_from, lines}
use Rattle.crmf.specs.steps.explain.Walk.{line, find_line_in, find_line, closed_in, closed, judged, with_form, with_long_id, with_element, walk, empty_tally}
use Rattle.crmf.specs.steps.explain.LongIds.{first_long}
use Rattle.crmf.specs.steps.rows.Fill.{goes, rows_from, rows_of_input}
use Rattle.crmf.specs.meaning.Fields.{fields, missing, nth, child}
use Rattle.crmf.specs.meaning.Fields
use Rattle.crmf.specs.meaning.Messages.{message_of, batch, messages}
use Rattle.editions.specs.steps.Reading.{batch_answer, answer}
use Rattle.verdict.specs.meaning.Verdict.{verdict_of, signed_of}
use Rattle.verdict.specs.steps.JudgeAnswer.{verdict_answer}

-- A message's certReq and proof, and what is answered of it: the verdict, and the place and length of the signed part.
pub record Case : Type 0 where
  pub request : List ℕ
  pub proof : List ℕ
  pub verdict : ℕ
  pub from : ℕ
  pub length : ℕ

-- the batch of that one message: its certReq from byte 4 on
abbrev pub batch_of : Case → List ℕ
batch_of x = let inside = x.request ++ x.proof in 0x30 ∷ (2 + length inside) ∷ 0x30 ∷ length inside ∷ inside

-- certReqs with an empty template, a subject, a publicKey, and both
abbrev pub empty : List ℕ
empty = 0x30 ∷ 0x05 ∷ 0x02 ∷ 0x01 ∷ 0x00 ∷ 0x30 ∷ 0x00 ∷ []

abbrev pub subject : List ℕ
subject = 0x30 ∷ 0x09 ∷ 0x02 ∷ 0x01 ∷ 0x00 ∷ 0x30 ∷ 0x04 ∷ 0xA5 ∷ 0x02 ∷ 0x30 ∷ 0x00 ∷ []

abbrev pub key : List ℕ
key =
    0x30 ∷ 0x0F ∷ 0x02 ∷ 0x01 ∷ 0x00 ∷ 0x30 ∷ 0x0A
    ∷ 0xA6 ∷ 0x08 ∷ 0x30 ∷ 0x03 ∷ 0x06 ∷ 0x01 ∷ 0x2A ∷ 0x03 ∷ 0x01 ∷ 0x00 ∷ []

abbrev pub both : List ℕ
both =
    0x30 ∷ 0x13 ∷ 0x02 ∷ 0x01 ∷ 0x00 ∷ 0x30 ∷ 0x0E ∷ 0xA5 ∷ 0x02 ∷ 0x30 ∷ 0x00
    ∷ 0xA6 ∷ 0x08 ∷ 0x30 ∷ 0x03 ∷ 0x06 ∷ 0x01 ∷ 0x2A ∷ 0x03 ∷ 0x01 ∷ 0x00 ∷ []

-- signatures without a poposkInput and with one
abbrev pub signature : List ℕ
signature = 0xA1 ∷ 0x08 ∷ 0x30 ∷ 0x03 ∷ 0x06 ∷ 0x01 ∷ 0x2A ∷ 0x03 ∷ 0x01 ∷ 0x00 ∷ []

abbrev pub input_signature : List ℕ
input_signature =
    0xA1 ∷ 0x18 ∷ 0xA0 ∷ 0x0E ∷ 0xA0 ∷ 0x02 ∷ 0x82 ∷ 0x00 ∷ 0x30 ∷ 0x08 ∷ 0x30 ∷ 0x03 ∷ 0x06 ∷ 0x01 ∷ 0x2A ∷ 0x03 ∷ 0x01 ∷ 0x00
    ∷ 0x30 ∷ 0x03 ∷ 0x06 ∷ 0x01 ∷ 0x2A ∷ 0x03 ∷ 0x01 ∷ 0x00 ∷ []

-- keyEncipherment and keyAgreement with the choice 81 or 82
abbrev pub chosen : ℕ → ℕ → List ℕ
chosen id choice = id ∷ 0x03 ∷ choice ∷ 0x01 ∷ 0x00 ∷ []

abbrev pub case : List ℕ → List ℕ → ℕ → ℕ → ℕ → Case
case r p v f n = record { request = r; proof = p; verdict = v; from = f; length = n }

-- the messages
abbrev pub cases : List Case
cases =
    -- "0 no proof. 1 raVerified."
    case both [] 0 0 0
    ∷ case empty (0x80 ∷ 0x00 ∷ []) 1 0 0
    -- "2 signature over the certReq: no poposkInput, subject and publicKey both in the template"
    ∷ case both signature 2 4 21
    -- "3 signature over poposkInput: present, subject or publicKey missing"
    ∷ case empty input_signature 3 13 16
    ∷ case subject input_signature 3 17 16
    ∷ case key input_signature 3 23 16
    -- "4 signature otherwise"
    ∷ case both input_signature 4 0 0
    ∷ case empty signature 4 0 0
    ∷ case subject signature 4 0 0
    ∷ case key signature 4 0 0
    -- "7 choice 82 under keyEncipherment, or without both subject and publicKey. 5 other keyEncipherment, 6 other keyAgreement."
    ∷ case both (chosen 0xA2 0x82) 7 0 0
    ∷ case both (chosen 0xA2 0x81) 5 0 0
    ∷ case both (chosen 0xA3 0x82) 6 0 0
    ∷ case subject (chosen 0xA3 0x82) 7 0 0
    ∷ case key (chosen 0xA3 0x82) 7 0 0
    ∷ case empty (chosen 0xA3 0x81) 6 0 0
    ∷ []

-- what is answered at positions 0 and 1
abbrev pub Judges : Case → Type 0
Judges x =
    (verdict_answer 1 (batch_of x) 0 ≡ record { number = 0; place = 0; verdict = x.verdict; from = x.from; length = x.length })
    × (verdict_answer 1 (batch_of x) 1 ≡ record { number = 14; place = 0; verdict = 0; from = 0; length = 0 })

-- Every message of the list is judged as document 01 says, and there is none after it.
pub each_verdict : Each Judges cases
unfolding tag_number constructed allowed value_from shortest long_form length_of sized_by head_of
    integer last_of unpadded object_identifier bit_string holds list_of by_rule closes after_inside element_of walk_at nothing_at given read tree_of tree same is_empty is_up_to keeps type_number selected
    among named order content part_size size starts_from start inside_line pass_of form_lines next_line way_line part_lines container_lines lines_from lines
    line find_line_in find_line closed_in closed judged with_form with_long_id with_element walk empty_tally first_long goes rows_from rows_of_input fields missing nth Fields.first_with child message_of batch messages
    batch_answer answer verdict_of signed_of verdict_answer
each_verdict =
    (refl, refl) & (refl, refl) & (refl, refl) & (refl, refl)
    & (refl, refl) & (refl, refl) & (refl, refl) & (refl, refl)
    & (refl, refl) & (refl, refl) & (refl, refl) & (refl, refl)
    & (refl, refl) & (refl, refl) & (refl, refl) & (refl, refl)
    & tt
