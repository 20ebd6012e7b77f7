-- What the contracts say besides the standard's definitions: of blocks from any hash value on, and of the last blocks.
use Rattle.std.specs.Prelude.{ℕ, zero, suc, ◌+◌, ◌*◌, ◌/◌, ◌%◌, List, length, drop}
use Rattle.sha256_fips180.specs.Fips180.{Working, zero_bytes, pad, block, compress}

-- the hash value after the first n blocks of m, from H on: from H⁽⁰⁾ on it is `hash`
unfoldable pub hash_from : Working → ℕ → List ℕ → Working
hash_from H zero m = H
hash_from H (suc n) m = compress (hash_from H n m) (block n m)

-- the padded message from the message's last whole block on: one or two blocks
unfoldable pub tail : List ℕ → List ℕ
tail m = drop (64 * (length m / 64)) (pad m)

-- its size in bytes, for a message of n bytes
unfoldable pub last_size : ℕ → ℕ
last_size n = n % 64 + 9 + zero_bytes n
