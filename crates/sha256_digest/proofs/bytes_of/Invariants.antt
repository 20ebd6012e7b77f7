-- `bytes_of` meets its contract: `i` words are written.
use Rattle.std.proofs.Common.{◌≡◌, ◌*◌, length, take}
use Rattle.sha256_digest.proofs.Bytes.{words_bytes}
use Rattle.sha256_digest.proofs.bytes_of.Given as goal

abbrev pub invariant-loop-i : goal.invariant-loop-i
invariant-loop-i l = (length l.d ≡ 32) × (take (4 * l.i) l.d ≡ words_bytes l.x-items l.i)
