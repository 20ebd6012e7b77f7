-- The digest as FIPS 180-4 defines it where the standard defines one: padding (5.1.1) in its own words, of bits, and the digest of a
-- message that can be padded so. `pad` and `SHA-256` (Fips180) compute on bytes, and at every length.
use Rattle.std.specs.Prelude.{ℕ, zero, suc, ◌+◌, ◌*◌, ◌/◌, ◌%◌, ◌^◌, ◌≤◌, ◌<◌, ◌≡◌, List, [], ◌∷◌, ◌++◌, length, replicate}
use Rattle.sha256_fips180.specs.Fips180.{hash, bytes_of}

-- Document 02, E2: "lent bytes of every length below 2^61"
abbrev pub message_limit : ℕ
message_limit = 2 ^ 61

-- every number of the list is below n. Bits are numbers below 2, bytes numbers below 256.
abbrev pub AllBelow : ℕ → List ℕ → Type 0
AllBelow n [] = Unit
AllBelow n (x ∷ xs) = (x < n) × AllBelow n xs

-- 3.1: the k low bits of n, the most significant first
unfoldable pub binary : ℕ → ℕ → List ℕ
binary zero n = []
binary (suc k) n = binary k (n / 2) ++ (n % 2 ∷ [])

-- the bits of bytes, one byte after the other
unfoldable pub bits : List ℕ → List ℕ
bits [] = []
bits (x ∷ m) = binary 8 x ++ bits m

-- the number that bits are the binary representation of
unfoldable pub number : List ℕ → ℕ
number [] = 0
number (x ∷ p) = x * 2 ^ length p + number p

-- 5.1.1: the bits p are the padded message of the bits M. "Suppose that the length of the message, M, is ℓ bits.
pub record Padded (M p : List ℕ) : Type 0 where
  pub k : ℕ
  pub block : List ℕ
  -- Append the bit "1" to the end of the message, followed by k zero bits, ..
  pub appended : p ≡ M ++ (1 ∷ (replicate k 0 ++ block))
  -- .. where k is the smallest, non-negative solution to the equation ℓ + 1 + k ≡ 448 mod 512.
  pub solution : (length M + 1 + k) % 512 ≡ 448
  pub smallest : (j : ℕ) → (length M + 1 + j) % 512 ≡ 448 → k ≤ j
  -- Then append the 64-bit block that is equal to the number ℓ expressed using a binary representation."
  pub block_size : length block ≡ 64
  pub block_bits : AllBelow 2 block
  pub block_number : number block ≡ length M

-- 6.2: d is the digest of the message of the bytes m: the last hash value of the padded message's blocks, where that is m with bytes
-- appended. (That m is of bytes is not asked: those of a slice are by its type, and no law needs it.)
pub record Digest (m d : List ℕ) : Type 0 where
  pub ending : List ℕ
  pub ending_bytes : AllBelow 256 ending
  pub padded : Padded (bits m) (bits (m ++ ending))
  pub hashed : d ≡ bytes_of (hash (length (m ++ ending) / 64) (m ++ ending))
