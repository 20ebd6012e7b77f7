-- SHA-256 as FIPS 180-4 (August 2015) defines it, in the standard's names and order; the numbers in front of the comments
-- are the standard's sections. A byte is a number below 2 ^ 8, a word one below 2 ^ 32, a message a list of bytes.
--
-- The standard defines the digest of messages of fewer than 2 ^ 64 bits, which is fewer than 2 ^ 61 bytes. `SHA-256` below is total: of
-- a longer message the padding's 64-bit field keeps the bit length modulo 2 ^ 64. `Standard` has the padding in the standard's own words,
-- and `StandardLaws` shows that `SHA-256` is the standard's digest of every message that has one, and which those are.
use Rattle.std.specs.Prelude.{ℕ, zero, suc, ◌+◌, ◌-◌, ◌*◌, ◌/◌, ◌%◌, ◌^◌, List, [], ◌∷◌, ◌++◌, length, get_or, take, drop, replicate}
use Rattle.std.specs.Int.Bits.{bit_and, bit_or, bit_xor}

infixl 65 ◌⊞◌
infixl 60 ◌⊕◌
-- 2.2.2: operations on words. The standard's + is addition modulo 2 ^ 32; ⊕ is exclusive or, ¬ is the complement.
abbrev pub ◌⊞◌ : ℕ → ℕ → ℕ
x ⊞ y = (x + y) % 2 ^ 32

abbrev pub ◌⊕◌ : ℕ → ℕ → ℕ
x ⊕ y = bit_xor x y

abbrev pub complement : ℕ → ℕ
complement x = 2 ^ 32 - 1 - x

-- 3.2, 4: SHR, the right shift by n, and 3.2, 5: ROTR, the right rotation by n, 0 < n < 32
abbrev pub SHR : ℕ → ℕ → ℕ
SHR n x = x / 2 ^ n

abbrev pub ROTR : ℕ → ℕ → ℕ
ROTR n x = bit_or (x / 2 ^ n) ((x * 2 ^ (32 - n)) % 2 ^ 32)

-- 4.1.2: the six functions
abbrev pub Ch : ℕ → ℕ → ℕ → ℕ
Ch x y z = bit_and x y ⊕ bit_and (complement x) z

abbrev pub Maj : ℕ → ℕ → ℕ → ℕ
Maj x y z = bit_and x y ⊕ bit_and x z ⊕ bit_and y z

unfoldable pub Σ₀ : ℕ → ℕ
Σ₀ x = ROTR 2 x ⊕ ROTR 13 x ⊕ ROTR 22 x

unfoldable pub Σ₁ : ℕ → ℕ
Σ₁ x = ROTR 6 x ⊕ ROTR 11 x ⊕ ROTR 25 x

unfoldable pub σ₀ : ℕ → ℕ
σ₀ x = ROTR 7 x ⊕ ROTR 18 x ⊕ SHR 3 x

unfoldable pub σ₁ : ℕ → ℕ
σ₁ x = ROTR 17 x ⊕ ROTR 19 x ⊕ SHR 10 x

-- 4.2.2: the constants K₀ .. K₆₃
unfoldable pub K : List ℕ
K =
    0x428a2f98 ∷ 0x71374491 ∷ 0xb5c0fbcf ∷ 0xe9b5dba5 ∷ 0x3956c25b ∷ 0x59f111f1 ∷ 0x923f82a4 ∷ 0xab1c5ed5
    ∷ 0xd807aa98 ∷ 0x12835b01 ∷ 0x243185be ∷ 0x550c7dc3 ∷ 0x72be5d74 ∷ 0x80deb1fe ∷ 0x9bdc06a7 ∷ 0xc19bf174
    ∷ 0xe49b69c1 ∷ 0xefbe4786 ∷ 0x0fc19dc6 ∷ 0x240ca1cc ∷ 0x2de92c6f ∷ 0x4a7484aa ∷ 0x5cb0a9dc ∷ 0x76f988da
    ∷ 0x983e5152 ∷ 0xa831c66d ∷ 0xb00327c8 ∷ 0xbf597fc7 ∷ 0xc6e00bf3 ∷ 0xd5a79147 ∷ 0x06ca6351 ∷ 0x14292967
    ∷ 0x27b70a85 ∷ 0x2e1b2138 ∷ 0x4d2c6dfc ∷ 0x53380d13 ∷ 0x650a7354 ∷ 0x766a0abb ∷ 0x81c2c92e ∷ 0x92722c85
    ∷ 0xa2bfe8a1 ∷ 0xa81a664b ∷ 0xc24b8b70 ∷ 0xc76c51a3 ∷ 0xd192e819 ∷ 0xd6990624 ∷ 0xf40e3585 ∷ 0x106aa070
    ∷ 0x19a4c116 ∷ 0x1e376c08 ∷ 0x2748774c ∷ 0x34b0bcb5 ∷ 0x391c0cb3 ∷ 0x4ed8aa4a ∷ 0x5b9cca4f ∷ 0x682e6ff3
    ∷ 0x748f82ee ∷ 0x78a5636f ∷ 0x84c87814 ∷ 0x8cc70208 ∷ 0x90befffa ∷ 0xa4506ceb ∷ 0xbef9a3f7 ∷ 0xc67178f2 ∷ []

-- 3.1: the k low bytes of n, the most significant first
unfoldable pub big_endian : ℕ → ℕ → List ℕ
big_endian zero n = []
big_endian (suc k) n = big_endian k (n / 256) ++ (n % 256 ∷ [])

-- 5.1.1: padding. The message, a byte whose first bit is 1, the fewest zero bytes that bring the length to 56 modulo 64, and the bit
-- length in 64 bits.
unfoldable pub zero_bytes : ℕ → ℕ
zero_bytes n = (119 - n % 64) % 64

-- the bit length of n bytes, in the padding's 64-bit field
unfoldable pub length_field : ℕ → List ℕ
length_field n = big_endian 8 (8 * n % 2 ^ 64)

-- what is appended to a message of n bytes
unfoldable pub padding : ℕ → List ℕ
padding n = 0x80 ∷ (replicate (zero_bytes n) 0 ++ length_field n)

unfoldable pub pad : List ℕ → List ℕ
pad m = m ++ padding (length m)

-- 5.2.1: parsing. M⁽ⁱ⁾ is the i-th block of 64 bytes, counted from 0 here, as 16 words of four bytes, the most significant first.
abbrev pub word_at : List ℕ → ℕ → ℕ
word_at m i = get_or m i 0 * 2 ^ 24 + get_or m (i + 1) 0 * 2 ^ 16 + get_or m (i + 2) 0 * 2 ^ 8 + get_or m (i + 3) 0

-- the first n words of m
unfoldable pub words : ℕ → List ℕ → List ℕ
words zero m = []
words (suc n) m = words n m ++ (word_at m (4 * n) ∷ [])

unfoldable pub block : ℕ → List ℕ → List ℕ
block i m = take 64 (drop (64 * i) m)

-- the eight working variables, and the eight words of a hash value
pub record Working : Type 0 where
  pub a : ℕ
  pub b : ℕ
  pub c : ℕ
  pub d : ℕ
  pub e : ℕ
  pub f : ℕ
  pub g : ℕ
  pub h : ℕ

-- 5.3.3: the initial hash value H⁽⁰⁾
unfoldable pub H⁰ : Working
H⁰ =
    record {
      a = 0x6a09e667;
      b = 0xbb67ae85;
      c = 0x3c6ef372;
      d = 0xa54ff53a;
      e = 0x510e527f;
      f = 0x9b05688c;
      g = 0x1f83d9ab;
      h = 0x5be0cd19;
    }

-- 6.2.2, 1: the message schedule. `schedule M n` is W₀ .. W₁₅₊ₙ: the block's 16 words M, then each Wₜ from the words before it.
unfoldable pub next_word : List ℕ → ℕ → ℕ
next_word W t = σ₁ (get_or W (t - 2) 0) ⊞ get_or W (t - 7) 0 ⊞ σ₀ (get_or W (t - 15) 0) ⊞ get_or W (t - 16) 0

unfoldable pub extend : List ℕ → ℕ → List ℕ
extend W t = W ++ (next_word W t ∷ [])

unfoldable pub schedule : List ℕ → ℕ → List ℕ
schedule M zero = M
schedule M (suc n) = extend (schedule M n) (16 + n)

-- 6.2.2, 3: one step of the compression, with Kₜ and Wₜ
unfoldable pub T₁ : Working → ℕ → ℕ → ℕ
T₁ s k w = s.h ⊞ Σ₁ s.e ⊞ Ch s.e s.f s.g ⊞ k ⊞ w

unfoldable pub T₂ : Working → ℕ
T₂ s = Σ₀ s.a ⊞ Maj s.a s.b s.c

unfoldable pub step : Working → ℕ → ℕ → Working
step s k w =
    record {
      a = T₁ s k w ⊞ T₂ s;
      b = s.a;
      c = s.b;
      d = s.c;
      e = s.d ⊞ T₁ s k w;
      f = s.e;
      g = s.f;
      h = s.g;
    }

-- the working variables after the first t steps
unfoldable pub steps : ℕ → List ℕ → Working → Working
steps zero W s = s
steps (suc t) W s = step (steps t W s) (get_or K t 0) (get_or W t 0)

-- 6.2.2, 4: the intermediate hash value after a block
unfoldable pub added : Working → Working → Working
added s H =
    record {
      a = s.a ⊞ H.a;
      b = s.b ⊞ H.b;
      c = s.c ⊞ H.c;
      d = s.d ⊞ H.d;
      e = s.e ⊞ H.e;
      f = s.f ⊞ H.f;
      g = s.g ⊞ H.g;
      h = s.h ⊞ H.h;
    }

unfoldable pub compress : Working → List ℕ → Working
compress H b = added (steps 64 (schedule (words 16 b) 48) H) H

-- H⁽ⁿ⁾, after the first n blocks of the padded message
unfoldable pub hash : ℕ → List ℕ → Working
hash zero m = H⁰
hash (suc n) m = compress (hash n m) (block n m)

-- the digest: the eight words of the last hash value, in bytes
unfoldable pub bytes_of : Working → List ℕ
bytes_of H =
    big_endian 4 H.a ++ (big_endian 4 H.b ++ (big_endian 4 H.c ++ (big_endian 4 H.d
    ++ (big_endian 4 H.e ++ (big_endian 4 H.f ++ (big_endian 4 H.g ++ big_endian 4 H.h))))))

unfoldable pub SHA-256 : List ℕ → List ℕ
SHA-256 m = bytes_of (hash (length (pad m) / 64) (pad m))
