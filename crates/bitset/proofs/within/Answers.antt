-- `within` meets its contract: a word is within its 64 places.
use Rattle.std.proofs.Common.{arith, rules, sym, ◌∙◌}
use Rattle.bitset.specs.Bits.{word_bits, within}
use Rattle.bitset.specs.BitsLaws.{within_more, lt→within}
use Rattle.bitset.proofs.within.Goals as goal

pub returns-then-n-ge-WORD_BITS : goal.returns-then-n-ge-WORD_BITS
returns-then-n-ge-WORD_BITS c = search rules ∙ sym (within_more _ word_bits _ (omega arith) (lt→within word_bits (omega arith)))

pub returns-else-n-ge-WORD_BITS : goal.returns-else-n-ge-WORD_BITS
unfolding within
returns-else-n-ge-WORD_BITS c = search rules
