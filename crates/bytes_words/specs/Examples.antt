-- Worked examples that pin the order of the bytes, computed from the definitions.
use Rattle.std.specs.Prelude.{ℕ, ◌*◌, ◌^◌, ◌≡◌, refl, List, [], ◌∷◌, ◌++◌, reverse, replicate}
use Rattle.bytes_order.specs.Order.{before, same}
use Rattle.bytes_order.specs.Member.{concat_map}
use Rattle.bytes_order.specs.Compare.{order_of}
use Rattle.std.specs.declared.cmp.Ordering.TheVariants.{Less, Greater}
use Rattle.bytes_words.specs.Words.{bytes_in, big_of, bytes_of, word_from, packed}

-- of eight bytes the first is the highest and the last the lowest
pub first-highest : word_from (1 ∷ 0 ∷ 0 ∷ 0 ∷ 0 ∷ 0 ∷ 0 ∷ 0 ∷ []) 0 ≡ 2 ^ 56
unfolding big_of
first-highest = refl

pub last-lowest : word_from (0 ∷ 0 ∷ 0 ∷ 0 ∷ 0 ∷ 0 ∷ 0 ∷ 1 ∷ []) 0 ≡ 1
unfolding big_of
last-lowest = refl

-- each byte is two digits of the word in base 16
pub by_digits : word_from (0xff ∷ 0x01 ∷ 0x23 ∷ 0x45 ∷ 0x67 ∷ 0x89 ∷ 0xab ∷ 0xcd ∷ 0xef ∷ []) 1 ≡ 0x0123456789abcdef
unfolding big_of
by_digits = refl

pub digits-back : bytes_in 8 0x0123456789abcdef ≡ 0x01 ∷ 0x23 ∷ 0x45 ∷ 0x67 ∷ 0x89 ∷ 0xab ∷ 0xcd ∷ 0xef ∷ []
unfolding bytes_in
digits-back = refl

-- an id's words, the first from its first bytes; and its bytes, from the words
abbrev id : List ℕ
id = (1 ∷ replicate 7 0) ++ ((2 ∷ replicate 7 0) ++ ((3 ∷ replicate 7 0) ++ (replicate 7 0 ++ (4 ∷ []))))

pub id-packed : packed 4 id ≡ 2 ^ 56 ∷ 2 ^ 57 ∷ 3 * 2 ^ 56 ∷ 4 ∷ []
unfolding packed big_of
id-packed = refl

pub id-unpacked : bytes_of (2 ^ 56 ∷ 2 ^ 57 ∷ 3 * 2 ^ 56 ∷ 4 ∷ []) ≡ id
unfolding bytes_in concat_map
id-unpacked = refl

-- 1, 0 .. comes after 0, 2 ..: the first byte tells. Little-endian words, those of the bytes in reverse, would stand the other way
abbrev earlier : List ℕ
earlier = 0 ∷ 2 ∷ replicate 6 0

abbrev later : List ℕ
later = 1 ∷ replicate 7 0

pub first-byte-tells : order_of later earlier ≡ Greater
unfolding order_of before same
first-byte-tells = refl

pub as-big-endian : order_of (packed 1 later) (packed 1 earlier) ≡ Greater
unfolding packed big_of order_of before same
as-big-endian = refl

pub as-little-endian : order_of (packed 1 (reverse later)) (packed 1 (reverse earlier)) ≡ Less
unfolding packed big_of order_of before same
as-little-endian = refl
