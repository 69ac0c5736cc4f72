-- What it means that bytes are in an edition's grammar, and where a difference occurs in them: SPECIFICATION 3.7 and 3.8. It speaks of trees
-- alone and names no walk. Assumes nothing.
use Rattle.std.specs.Prelude.{ℕ, ◌≤◌, ◌≡◌, eqb, length}
use mathlib.Core.List.{List, Memᴰ}
use Rattle.der.specs.meaning.Tree.{Tree, WellFormed, Single, encode}
use Rattle.der.specs.meaning.Bounds.{depth, longest}
use Rattle.crmf.specs.meaning.Notation.{Top}
use Rattle.crmf.specs.meaning.Grammar.{content}
use Rattle.crmf.specs.meaning.Language.{Matches, Occurrence, occurrences}

-- "Bytes are in an edition's grammar exactly when none of 1 to 7 refuses them and their nest is a batch by the lines above, as the differences
-- settle them for that edition" (SPECIFICATION 3.8): they are the encoding of a well-formed element that the lines describe with that edition's
-- own forms.
pub record InGrammar (e : ℕ) (s : List ℕ) : Type 0 where
  pub short : length s ≤ longest
  pub nest : Tree
  pub formed : WellFormed depth 0 nest
  pub single : Single nest
  pub encoded : encode nest ≡ s
  pub batch : Matches (λ x. eqb x e) (content Top) nest

-- "In such bytes a difference occurs at each element that stands there in a listed form which that edition alone allows": at this place
-- (SPECIFICATION 3.7).
pub record Difference (e : ℕ) (s : List ℕ) (place : ℕ) : Type 0 where
  pub within : InGrammar e s
  pub form : Occurrence
  pub occurs : Memᴰ form (occurrences within.batch)
  pub stands : form.place ≡ place

-- "The first in byte order is the one with the least place."
pub record FirstDifference (e : ℕ) (s : List ℕ) (place : ℕ) : Type 0 where
  pub here : Difference e s place
  pub least : (other : ℕ) → Difference e s other → place ≤ other
