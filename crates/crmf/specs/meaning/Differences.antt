-- The list of the differences between the editions: document 01's section "The grammar" and document 02's A4, SPECIFICATION 3.7. Assumes nothing.
use Rattle.std.specs.Prelude.{List, [], ◌∷◌}
use Rattle.crmf.specs.meaning.Details.{fits_no_part, value_broken, list_or_location}
use Rattle.crmf.specs.meaning.Notation.{Mark, alone}

-- Each as the mark of a form: the edition that alone allows it, the difference's number, and request A9's detail in the other edition.
unfoldable pub differences : List Mark
differences =
    -- "(D1) choices A3 and A4 are edition 2 only"
    alone 2 1 fits_no_part
    -- "(D2) pairs are 04 in edition 1, 0C in edition 2"
    ∷ alone 1 2 fits_no_part
    ∷ alone 2 2 fits_no_part
    -- "(D3) a location beside method 0 is edition 1 only"
    ∷ alone 1 3 list_or_location
    -- A4: "In edition 2 those four now fit no part, and any version but 2 breaks its rule. They join the list as D4, edition 1 only"
    ∷ alone 1 4 fits_no_part
    ∷ alone 1 4 value_broken
    ∷ []
