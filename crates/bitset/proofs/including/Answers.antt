-- `including` meets its contract: `1 << k` is 2 ^ k where k is below 64.
use Rattle.std.proofs.Common.{arith, one-mul, sym, ap, ◌∙◌, bit_or, shl_exact}
use Rattle.bitset.specs.Bits.{word_bits, including}
use Rattle.bitset.specs.BitsLaws.{included, not-included}
use Rattle.bitset.proofs.including.Goals as goal

pub returns-then-k-lt-WORD_BITS : goal.returns-then-k-lt-WORD_BITS
unfolding including
returns-then-k-lt-WORD_BITS c = ap (bit_or c.args.w) (shl_exact 1 _ 64 (omega arith) (omega arith) ∙ one-mul _) ∙ sym (included word_bits _ _ (omega arith))

pub returns-else-k-lt-WORD_BITS : goal.returns-else-k-lt-WORD_BITS
returns-else-k-lt-WORD_BITS c = sym (not-included word_bits _ _ (omega arith))
