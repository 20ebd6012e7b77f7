-- Numbers of two bytes, the higher first (big-endian).
use Rattle.std.specs.Prelude.{ℕ, List, take, drop}
use Rattle.bytes_words.specs.Words.{big_of}

-- the number that the two bytes at `at` say
abbrev pub pair_at : List ℕ → ℕ → ℕ
pair_at b at = big_of (take 2 (drop at b))
