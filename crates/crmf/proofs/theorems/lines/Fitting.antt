-- An element that fits a line is the one that is read at its place, its places lie in order, and its content comes after its header. Assumes nothing.
use Prim.Native.Nat.{ℕ, ◌+◌, ◌-◌, ◌≤◌, ◌<◌}
use native.Mathlib.Omega.{arith}
use mathlib.Core.Path.{◌≡◌, ap₂}
use mathlib.Core.List.{List}
use lib.ListN.{length}
use lib.Seq.{slice, length-slice}
use Rattle.der.specs.declared.element.reading.Element.{Element}
use Rattle.der.specs.meaning.Bounds.{longest}
use Rattle.der.specs.steps.Reading.{reading_at}
use Rattle.der.proofs.Laws.{InOrder, read_at_in_order}
use Rattle.crmf.specs.declared.grammar.element.Fit.{Fit}
use Rattle.crmf.specs.meaning.Rows.{header_length}
use Rattle.crmf.specs.steps.grammar.Fitting.{FitsAt}

-- the element by the identifier that is read and the places of the fit
abbrev pub fitted : List ℕ → ℕ → ℕ → Fit → Element
fitted s p e f = record { identifier = (reading_at s p e).identifier; content = f.content; end = f.end }

module _ (s : List ℕ) (p e k : ℕ) (f : Fit) (h : FitsAt (reading_at s p e) p k f) where
  pub fit_read : fitted s p e f ≡ reading_at s p e
  fit_read = ap₂ (λ (c d : ℕ). fitted s p e (record { word = 0; first = 0; content = c; end = d })) h.content h.end

  pub fit_order : p < e → e ≤ length s → length s ≤ longest → InOrder p e (fitted s p e f)
  fit_order some fits high = rw fit_read (read_at_in_order s p e some fits high)

  pub fit_content : p < e → e ≤ length s → length s ≤ longest → f.content ≡ p + header_length (f.end - p) (slice f.content f.end s)
  fit_content some fits high =
      let order = fit_order some fits high in
      omega (arith, order.headed, order.ordered, length-slice f.content f.end s (omega (arith, order.within)))
