-- The content rule that an identifier asks, as a test. Assumes nothing.
use Rattle.std.specs.Prelude.{ℕ, Bool, true, false, List, eqb}
use Rattle.der.specs.steps.Utf8Classes.{utf8}
use Rattle.der.specs.meaning.Content.{boolean, integer, null, object_identifier, bit_string}

-- whether a content keeps the rule of its identifier
unfoldable pub holds : ℕ → List ℕ → Bool
holds id content =
    elim (eqb id 0x01) [
      | true ↦ boolean content
      | false ↦
          elim (eqb id 0x02) [
            | true ↦ integer content
            | false ↦
                elim (eqb id 0x03) [
                  | true ↦ bit_string content
                  | false ↦
                      elim (eqb id 0x05) [
                        | true ↦ null content
                        | false ↦
                            elim (eqb id 0x06) [
                              | true ↦ object_identifier content
                              | false ↦
                                  elim (eqb id 0x0A) [
                                    | true ↦ integer content
                                    | false ↦
                                        elim (eqb id 0x0C) [ true ↦ utf8 content | false ↦ true ]
                                  ]
                            ]
                      ]
                ]
          ]
    ]
