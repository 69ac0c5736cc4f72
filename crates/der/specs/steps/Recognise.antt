-- What the recogniser decides, by the walk over the nest: whether octets are a list of elements, and an identifier and a content one element,
-- without a fault. Assumes nothing.
use Rattle.std.specs.Prelude.{ℕ, Bool, true, false, ◌&&◌, List, leb, length}
use Rattle.der.specs.steps.Nest.{Nest, End, Fault}
use Rattle.der.specs.meaning.Identifier.{allowed, constructed}
use Rattle.der.specs.steps.ContentTest.{holds}
use Rattle.der.specs.steps.Order.{closes}
use Rattle.der.specs.meaning.Bounds.{longest}
use Rattle.der.specs.steps.Explain.{list_of, element_of}

-- whether an answer is without a fault
unfoldable pub faultless : Nest → Bool
faultless (End q) = true
faultless (Fault n q k) = false

-- whether octets that are not too many are "a list of elements", with the levels of depth that are left
unfoldable pub is_list : ℕ → List ℕ → Bool
is_list left bs = leb (length bs) longest && faultless (list_of (element_of left) (length bs) 0 bs)

-- whether an element with the identifier and the content has no fault, with the levels of depth that are left inside it
unfoldable pub is_element : ℕ → ℕ → List ℕ → Bool
is_element id left c = allowed id && (elim (constructed id) [ true ↦ is_list left c && closes id c | false ↦ holds id c ])
