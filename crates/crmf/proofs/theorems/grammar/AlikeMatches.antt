-- What the grammar says of elements doesn't depend on their places. Assumes nothing.
use Prim.Native.Nat.{ℕ}
use mathlib.Core.Bool.{Bool}
use Rattle.der.specs.meaning.Tree.{Tree, moved}
use Rattle.der.proofs.Laws.{Alike, alike_none, alike_element, alike_moved}
use Rattle.crmf.specs.meaning.Notation.{Inside, Parts}
use Rattle.crmf.specs.meaning.Language.{Matches, end, pass, take, choose, Within, unseen, parts}

mutual
  -- Some parts describe elements if they describe alike ones.
  pub matches_alike : {R : ℕ → Bool} {ps : Parts} {t u : Tree} → Matches R ps t → Alike t u → Matches R ps u
  matches_alike end alike_none = end
  matches_alike (pass ok m) like = pass ok (matches_alike m like)
  matches_alike (take f among fits read kept within m) (alike_element inside rest) =
      take f among fits read kept (within_alike within inside) (matches_alike m rest)
  matches_alike (choose name way m) (alike_element inside rest) = choose name way (matches_alike m rest)

  -- so it is with the elements inside an element
  within_alike : {R : ℕ → Bool} {i : Inside} {t u : Tree} → Within R i t → Alike t u → Within R i u
  within_alike unseen like = unseen
  within_alike (parts m) like = parts (matches_alike m like)

-- So they describe elements that are moved by some bytes, if they describe the elements.
pub matches_moved : {R : ℕ → Bool} {ps : Parts} {t : Tree} (m : Matches R ps t) (d : ℕ) → Matches R ps (moved d t)
matches_moved {t = t} m d = matches_alike m (alike_moved d t)
