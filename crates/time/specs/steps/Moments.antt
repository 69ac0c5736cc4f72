-- A number that may be missing, as the code tells it. Assumes nothing.
use Rattle.std.specs.Prelude.{ℕ, Option, Some, None}
use Rattle.std.proofs.Math.Option as math

unfoldable pub as_option : math.Option ℕ → Option ℕ
as_option (math.some n) = Some n
as_option math.none = None
