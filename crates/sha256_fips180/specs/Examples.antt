-- NIST's worked examples of SHA-256, computed from the definition: the empty message, "abc", and the messages of 448 and 896 bits; and
-- the standard's example of padding.
use Rattle.std.specs.Prelude.{◌≡◌, refl, ℕ, List, [], ◌∷◌, map, length}
use Rattle.std.proofs.Common.{arith}
use Rattle.sha256_fips180.specs.Fips180.{SHA-256, Σ₀, Σ₁, σ₀, σ₁, K, big_endian, zero_bytes, length_field, padding, pad, words, block, H⁰, next_word, extend, schedule, T₁, T₂, step, steps, added, compress, hash, bytes_of}
use Rattle.sha256_fips180.specs.Standard.{binary, bits, Padded}

pub record Example : Type 0 where
  pub message : List ℕ
  pub digest : List ℕ

-- "abc"
abbrev abc : List ℕ
abc = 97 ∷ 98 ∷ 99 ∷ []

unfoldable pub examples : List Example
examples =
    -- the empty message
    record { message = []; digest = 227 ∷ 176 ∷ 196 ∷ 66 ∷ 152 ∷ 252 ∷ 28 ∷ 20 ∷ 154 ∷ 251 ∷ 244 ∷ 200 ∷ 153 ∷ 111 ∷ 185 ∷ 36 ∷ 39 ∷ 174 ∷ 65 ∷ 228 ∷ 100 ∷ 155 ∷ 147 ∷ 76 ∷ 164 ∷ 149 ∷ 153 ∷ 27 ∷ 120 ∷ 82 ∷ 184 ∷ 85 ∷ [] }
    -- "abc", one block
    ∷ record { message = abc; digest = 186 ∷ 120 ∷ 22 ∷ 191 ∷ 143 ∷ 1 ∷ 207 ∷ 234 ∷ 65 ∷ 65 ∷ 64 ∷ 222 ∷ 93 ∷ 174 ∷ 34 ∷ 35 ∷ 176 ∷ 3 ∷ 97 ∷ 163 ∷ 150 ∷ 23 ∷ 122 ∷ 156 ∷ 180 ∷ 16 ∷ 255 ∷ 97 ∷ 242 ∷ 0 ∷ 21 ∷ 173 ∷ [] }
    -- 448 bits, two blocks
    ∷ record { message = 97 ∷ 98 ∷ 99 ∷ 100 ∷ 98 ∷ 99 ∷ 100 ∷ 101 ∷ 99 ∷ 100 ∷ 101 ∷ 102 ∷ 100 ∷ 101 ∷ 102 ∷ 103 ∷ 101 ∷ 102 ∷ 103 ∷ 104 ∷ 102 ∷ 103 ∷ 104 ∷ 105 ∷ 103 ∷ 104 ∷ 105 ∷ 106 ∷ 104 ∷ 105 ∷ 106 ∷ 107 ∷ 105 ∷ 106 ∷ 107 ∷ 108 ∷ 106 ∷ 107 ∷ 108 ∷ 109 ∷ 107 ∷ 108 ∷ 109 ∷ 110 ∷ 108 ∷ 109 ∷ 110 ∷ 111 ∷ 109 ∷ 110 ∷ 111 ∷ 112 ∷ 110 ∷ 111 ∷ 112 ∷ 113 ∷ []; digest = 36 ∷ 141 ∷ 106 ∷ 97 ∷ 210 ∷ 6 ∷ 56 ∷ 184 ∷ 229 ∷ 192 ∷ 38 ∷ 147 ∷ 12 ∷ 62 ∷ 96 ∷ 57 ∷ 163 ∷ 60 ∷ 228 ∷ 89 ∷ 100 ∷ 255 ∷ 33 ∷ 103 ∷ 246 ∷ 236 ∷ 237 ∷ 212 ∷ 25 ∷ 219 ∷ 6 ∷ 193 ∷ [] }
    -- 896 bits
    ∷ record { message = 97 ∷ 98 ∷ 99 ∷ 100 ∷ 101 ∷ 102 ∷ 103 ∷ 104 ∷ 98 ∷ 99 ∷ 100 ∷ 101 ∷ 102 ∷ 103 ∷ 104 ∷ 105 ∷ 99 ∷ 100 ∷ 101 ∷ 102 ∷ 103 ∷ 104 ∷ 105 ∷ 106 ∷ 100 ∷ 101 ∷ 102 ∷ 103 ∷ 104 ∷ 105 ∷ 106 ∷ 107 ∷ 101 ∷ 102 ∷ 103 ∷ 104 ∷ 105 ∷ 106 ∷ 107 ∷ 108 ∷ 102 ∷ 103 ∷ 104 ∷ 105 ∷ 106 ∷ 107 ∷ 108 ∷ 109 ∷ 103 ∷ 104 ∷ 105 ∷ 106 ∷ 107 ∷ 108 ∷ 109 ∷ 110 ∷ 104 ∷ 105 ∷ 106 ∷ 107 ∷ 108 ∷ 109 ∷ 110 ∷ 111 ∷ 105 ∷ 106 ∷ 107 ∷ 108 ∷ 109 ∷ 110 ∷ 111 ∷ 112 ∷ 106 ∷ 107 ∷ 108 ∷ 109 ∷ 110 ∷ 111 ∷ 112 ∷ 113 ∷ 107 ∷ 108 ∷ 109 ∷ 110 ∷ 111 ∷ 112 ∷ 113 ∷ 114 ∷ 108 ∷ 109 ∷ 110 ∷ 111 ∷ 112 ∷ 113 ∷ 114 ∷ 115 ∷ 109 ∷ 110 ∷ 111 ∷ 112 ∷ 113 ∷ 114 ∷ 115 ∷ 116 ∷ 110 ∷ 111 ∷ 112 ∷ 113 ∷ 114 ∷ 115 ∷ 116 ∷ 117 ∷ []; digest = 207 ∷ 91 ∷ 22 ∷ 167 ∷ 120 ∷ 175 ∷ 131 ∷ 128 ∷ 3 ∷ 108 ∷ 229 ∷ 158 ∷ 123 ∷ 4 ∷ 146 ∷ 55 ∷ 11 ∷ 36 ∷ 155 ∷ 17 ∷ 232 ∷ 240 ∷ 122 ∷ 81 ∷ 175 ∷ 172 ∷ 69 ∷ 3 ∷ 122 ∷ 254 ∷ 233 ∷ 209 ∷ [] }
    ∷ []

pub worked : map (λ (x : Example). SHA-256 x.message) examples ≡ map (λ (x : Example). x.digest) examples
unfolding examples SHA-256 Σ₀ Σ₁ σ₀ σ₁ K big_endian zero_bytes length_field padding pad words block H⁰ next_word extend schedule T₁ T₂ step steps added compress hash bytes_of
worked = refl

-- 5.1.1: "the (8-bit ASCII) message "abc" has length 8 × 3 = 24, so the message is padded with a one bit, then 448 − (24 + 1) = 423 zero
-- bits, and then the message length"
pub abc-zeros : {p : List ℕ} (x : Padded (bits abc) p) → x.k ≡ 423
unfolding bits binary
abc-zeros x = let l : length (bits abc) ≡ 24 = refl in omega (arith, l, x.solution, x.smallest 423 refl)
