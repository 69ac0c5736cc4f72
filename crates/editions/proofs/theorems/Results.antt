-- The code's results and editions, in document 01's numbers. Assumes nothing.
use mathlib.Core.Path.{◌≡◌, refl}
use mathlib.Core.Bool.{false, not, ◌&&◌}
use lib.Dec.{eqb}
use Rattle.crmf.specs.meaning.Edition as grammar
use Rattle.editions.specs.declared.edition.Edition.{Edition}
use Rattle.editions.specs.declared.edition.Edition.TheVariants.{Rfc2511, Rfc4211}
use Rattle.editions.specs.steps.Results.{edition_number}

-- the number of an edition is one
pub is_edition : (k : Edition) → grammar.Edition (edition_number k)
is_edition Rfc2511 = grammar.first_edition
is_edition Rfc4211 = grammar.second_edition

-- so it passes the test
pub known_number : (k : Edition) → (not (eqb (edition_number k) 1) && not (eqb (edition_number k) 2)) ≡ false
known_number Rfc2511 = refl
known_number Rfc4211 = refl
