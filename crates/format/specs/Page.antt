-- A page that the caller lends, and what it holds after a text is written at a place of it. Assumes nothing.
use Rattle.std.specs.Prelude.{ℕ, ◌+◌, ◌-◌, List, ◌++◌, length, take, drop}

-- a page's octets and the place for the next character
pub record Page : Type 0 where
  pub octets : List ℕ
  pub at : ℕ

abbrev pub page : List ℕ → ℕ → Page
page octets at = record { octets = octets; at = at }

-- the part of a text that has room from the page's place on
unfoldable pub fitting : Page → List ℕ → List ℕ
fitting p text = take (length p.octets - p.at) text

-- the part that fits stands at the place, all else is as before, and the next place is after it
unfoldable pub put : Page → List ℕ → Page
put p text =
    page (take p.at p.octets ++ (fitting p text ++ drop (p.at + length (fitting p text)) p.octets))
    (p.at + length (fitting p text))
