-- A refusal's number isn't that of an acceptance. Assumes nothing.
use mathlib.Core.Path.{◌≡◌}
use native.Mathlib.Omega.{arith}
use Rattle.der.specs.declared.refusal.Refusal.{Refusal}
use Rattle.der.specs.declared.refusal.Refusal.TheVariants.{TooLong, Truncated, BadIdentifier, BadLength, BadContent, TooDeep, TrailingBytes, NotInGrammar, OtherEdition, LongCertReqId, NoRoom, NoSuchBatch, UnknownEdition, NoSuchMessage}
use Rattle.der.specs.meaning.Refusal.{accepted}
use Rattle.der.specs.steps.Refusal.{refusal_number}

pub some_refusal : (r : Refusal) → refusal_number r ≡ accepted → ⊥
some_refusal TooLong is = omega (arith, is)
some_refusal Truncated is = omega (arith, is)
some_refusal BadIdentifier is = omega (arith, is)
some_refusal BadLength is = omega (arith, is)
some_refusal BadContent is = omega (arith, is)
some_refusal TooDeep is = omega (arith, is)
some_refusal TrailingBytes is = omega (arith, is)
some_refusal NotInGrammar is = omega (arith, is)
some_refusal OtherEdition is = omega (arith, is)
some_refusal LongCertReqId is = omega (arith, is)
some_refusal NoRoom is = omega (arith, is)
some_refusal NoSuchBatch is = omega (arith, is)
some_refusal UnknownEdition is = omega (arith, is)
some_refusal NoSuchMessage is = omega (arith, is)
