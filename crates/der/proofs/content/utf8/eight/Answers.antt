-- `der::content::utf8::eight` meets its contract: the highest bits of eight octets are 0 exactly if each is below 80. Assumes nothing.
use Prim.Native.Nat.{ℕ}
use mathlib.Core.Path.{◌≡◌, sym, ap, ◌∙◌}
use native.Mathlib.Omega.{arith}
use borrow.Author.Tests.{eqb-true}
use lib.Bits.{bit_and}
use lib.Dec.{eqb}
use lib.ListN.{get_or}
use Rattle.der.specs.steps.Utf8Classes.{little_endian}
use Rattle.der.proofs.theorems.content.HighBits.{high_bits, clear_exactly}
use Rattle.der.proofs.content.utf8.eight.Goals as goal

pub returns : goal.returns
unfolding little_endian
returns c =
    let at : ℕ → ℕ = λ k. get_or c.args.bytes.now k 0 in
    let all : c.from_le_bytes-all.result ≡ little_endian 8 at = omega (arith, c.from_le_bytes-all.ensures) in
    let clear = clear_exactly 8 at (λ k. omega (arith, c.type_inv.bytes k)) in (
      λ e. clear.0 (sym (ap (λ (n : ℕ). bit_and n (high_bits 8)) all) ∙ eqb-true _ 0 e),
      λ a. ap (λ (m : ℕ). eqb m 0) (ap (λ (n : ℕ). bit_and n (high_bits 8)) all ∙ clear.1 a),
    )
