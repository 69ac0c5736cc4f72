-- `der::content::utf8::is_text` meets its contract: octets below 80 are characters, and the table has every octet's class, which is computed.
-- Assumes nothing.
use mathlib.Core.Path.{refl}
use native.Mathlib.Omega.{arith}
use Rattle.der.specs.steps.Utf8Classes.{class_of}
use Rattle.der.proofs.theorems.content.Checked.{checked_begin, checked_end}
use Rattle.der.proofs.theorems.content.Eights.{ascii_begins}
use Rattle.der.proofs.theorems.content.Utf8Steps.{classes_right}
use Rattle.der.proofs.content.utf8.is_text.Goals as goal

pub returns-then-plain-content : goal.returns-then-plain-content
returns-then-plain-content c =
    let first = c.ascii-plain.ensures in
    checked_end (checked_begin {low = 1} {high = 3} first.within (ascii_begins _ first.within first.ascii)) (omega arith)

pub text-requires : goal.text-requires
unfolding class_of
text-requires c =
    let first = c.ascii-plain.ensures in
    (classes_right _ refl, first.within, ascii_begins _ first.within first.ascii)

pub returns : goal.returns
returns c = c.text.ensures
