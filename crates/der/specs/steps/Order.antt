-- The rule that is judged at a constructed element's end, as a test over its content. Assumes nothing.
use Rattle.std.specs.Prelude.{ℕ, zero, suc, ◌+◌, Bool, true, false, not, ◌&&◌, ◌||◌, List, [], ◌∷◌, eqb, ltb, length, take, drop}
use Rattle.der.specs.steps.Span.{span_of}

-- whether the second of two octet strings has the smaller octet at the first place where they differ, if both have an octet there
unfoldable pub descends : List ℕ → List ℕ → Bool
descends [] bs = false
descends (a ∷ rest) [] = false
descends (a ∷ rest) (b ∷ bs) = elim (eqb a b) [ true ↦ descends rest bs | false ↦ ltb b a ]

-- whether octets are elements, by their lengths, that don't descend after the one before them; the count bounds how many they are
unfoldable pub ascends_from : ℕ → List ℕ → List ℕ → Bool
ascends_from zero before bs = true
ascends_from (suc n) before [] = true
ascends_from (suc n) before (b ∷ bs) =
    let x = span_of (b ∷ bs) in
    let end = x.octets + x.length in
    elim (eqb x.octets 0) [
      | true ↦ false
      | false ↦ not (descends before (take end (b ∷ bs))) && ascends_from n (take end (b ∷ bs)) (drop end (b ∷ bs))
    ]

-- whether they ascend from the first on
unfoldable pub ascends : List ℕ → Bool
ascends bs = ascends_from (length bs) [] bs

-- whether the elements inside are what the identifier asks for: those of a SET ascend
unfoldable pub closes : ℕ → List ℕ → Bool
closes id content = not (eqb id 0x31) || ascends content
