-- Bytes as 64-bit words, the highest byte first (big-endian). A byte is a number below 2 ^ 8, a word one below 2 ^ 64.
use Rattle.std.specs.Prelude.{ℕ, zero, suc, ◌+◌, ◌*◌, ◌/◌, ◌%◌, ◌^◌, ◌<◌, ◌≡◌, List, [], ◌∷◌, length, get_or, take, drop}
use Rattle.bytes_order.specs.Member.{concat_map}

-- each is a byte; each is a word
abbrev pub Bytes : List ℕ → Type 0
Bytes b = (i : ℕ) → get_or b i 0 < 2 ^ 8

abbrev pub Words : List ℕ → Type 0
Words ws = (i : ℕ) → get_or ws i 0 < 2 ^ 64

-- the n low bytes of w, the highest first
unfoldable pub bytes_in : ℕ → ℕ → List ℕ
bytes_in zero w = []
bytes_in (suc n) w = w / 2 ^ (8 * n) % 2 ^ 8 ∷ bytes_in n w

-- the number whose bytes, the highest first, are b
unfoldable pub big_of : List ℕ → ℕ
big_of [] = 0
big_of (x ∷ b) = x * 2 ^ (8 * length b) + big_of b

-- the bytes of words, one word after the other
abbrev pub bytes_of : List ℕ → List ℕ
bytes_of ws = concat_map (bytes_in 8) ws

-- the eight bytes from `at` on, as a word
abbrev pub word_from : List ℕ → ℕ → ℕ
word_from b at = big_of (take 8 (drop at b))

-- the first 8 * n bytes, as n words; an id is 4
unfoldable pub packed : ℕ → List ℕ → List ℕ
packed zero b = []
packed (suc n) b = big_of (take 8 b) ∷ packed n (drop 8 b)

-- ws are the n words of b, with nothing lost
pub record Packed (n : ℕ) (b ws : List ℕ) : Type 0 where
  pub words : ws ≡ packed n b
  pub bytes : bytes_of ws ≡ b
