-- `has` meets its contract: the lowest digit of the shifted word is its place k, and a word has no place past its last.
use Rattle.std.proofs.Common.{ℕ, ◌/◌, ◌^◌, arith, le-ltb, sym, ap, ◌∙◌, eqb}
use Rattle.std.proofs.lemmas.Nat.{and_mask}
use Rattle.bitset.specs.Bits.{word_bits, has}
use Rattle.bitset.specs.BitsLaws.{has-beyond}
use Rattle.bitset.proofs.has.Goals as goal

pub returns-then-k-lt-WORD_BITS : goal.returns-then-k-lt-WORD_BITS
unfolding has
returns-then-k-lt-WORD_BITS c = ap (λ (m : ℕ). eqb m 1) (and_mask (c.args.w / 2 ^ c.args.k) 1)

pub returns-else-k-lt-WORD_BITS : goal.returns-else-k-lt-WORD_BITS
returns-else-k-lt-WORD_BITS c = le-ltb c.args.k word_bits (omega arith) ∙ sym (has-beyond {n = word_bits} (omega arith) (omega arith))
