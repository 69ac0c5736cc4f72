-- The line that an element fits. It is found by the element's identifier alone. Assumes nothing.
use Rattle.std.specs.Prelude.{ℕ, ◌≡◌, get_or, Option, Some, None}
use Rattle.der.specs.declared.element.reading.Element.{Element}
use Rattle.crmf.specs.declared.grammar.element.Fit.{Fit}
use Rattle.crmf.specs.steps.grammar.Packed.{packed}
use Rattle.crmf.specs.steps.explain.Walk.{find_line}

-- An element with its first byte at p fits a line: the search from line k on finds that line's number.
pub record FitsAt (x : Element) (p k : ℕ) (f : Fit) : Type 0 where
  pub number : ℕ
  pub found : find_line k x.identifier ≡ Some number
  pub word : f.word ≡ get_or packed number 0
  pub first : f.first ≡ p
  pub content : f.content ≡ x.content
  pub end : f.end ≡ x.end

-- An element fits a line, or none.
abbrev pub Fitted : Element → ℕ → ℕ → Option Fit → Type 0
Fitted x p k None = find_line k x.identifier ≡ None
Fitted x p k (Some f) = FitsAt x p k f
