-- `unpack` meets its contract. The loop's invariant: the bytes of id below i are those of the words.
use Rattle.std.proofs.Common.{ℕ, ◌<◌, ◌≡◌, get_or}
use Rattle.bytes_words.specs.Words.{bytes_of}
use Rattle.bytes_words.proofs.unpack.Given as goal

abbrev pub invariant-loop-i : goal.invariant-loop-i
invariant-loop-i l = (k : ℕ) → k < l.i → get_or l.byte-items k 0 ≡ get_or (bytes_of l.w) k 0
