-- `blocks` meets its contract: the blocks that are left give the hash value from `x` on.
use Rattle.std.proofs.Common.{◌≡◌, ◌/◌, length}
use Rattle.std.specs.Slice.Iter.{chunks_exact_rest, chunks_exact_size}
use Rattle.sha256_compression.specs.Code.{working}
use Rattle.sha256_digest.specs.Tail.{hash_from}
use Rattle.sha256_digest.proofs.blocks.Given as goal

abbrev pub invariant-loop-block : goal.invariant-loop-block
invariant-loop-block l =
    (chunks_exact_size l.block-iterator ≡ 64)
    × (hash_from (working l.x) (length (chunks_exact_rest l.block-iterator) / 64) (chunks_exact_rest l.block-iterator)
    ≡ hash_from (working l.initial.x) (length l.s / 64) l.s)
