-- The room that the duplicate search has at a try, and what comes of the try. Assumes nothing.
use Rattle.std.specs.Prelude.{ℕ, ◌<◌, ◌≡◌, List, Option, Some, None, option_map, length}
use Rattle.verdict.specs.declared.duplicates.Pair.{Pair}
use Rattle.verdict.specs.steps.SearchAnswer.{ids, pair_of, pair_at}

-- the most messages that a batch can have, and the most that there is room for: each message has at least 9 of the batch's 65,535 octets
abbrev pub most_messages : ℕ
most_messages = 7281

-- What a try with room for so many messages says: the first pair, or that there is none; or that there are more messages.
abbrev pub Tried : (room : ℕ) → List ℕ → Option (Option Pair) → Type 0
Tried room s (Some found) = found ≡ option_map pair_at (pair_of (ids s))
Tried room s None = room < length (ids s)
