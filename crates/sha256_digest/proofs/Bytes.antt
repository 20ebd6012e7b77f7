-- Big-endian bytes: those of std's methods are the standard's, and words written one after another.
use Rattle.std.specs.Prelude.{ℕ, zero, suc, ◌+◌, ◌*◌, ◌/◌, ◌%◌, ◌^◌, ◌≤◌, ◌<◌, ◌≡◌, refl, List, [], ◌∷◌, ◌++◌, length, get_or, take}
use Rattle.std.specs.Int.{w32, byte_at, bytes_high_first, to_be_bytes}
use Rattle.std.proofs.Common.{ap, ap₂, ◌∙◌, append_assoc, add-one, arith}
use Rattle.std.proofs.Math.Nat.{pow-succ', div-div-eq-div-mul}
use Rattle.std.proofs.lemmas.Slice.{take-put_mid}
use borrow.Rule.Slice.PartMut.{put_mid}
use Rattle.sha256_fips180.specs.Fips180.{big_endian, bytes_of, Working}
use Rattle.sha256_fips180.specs.Lengths.{length-big_endian}

byte-above : (k n : ℕ) → byte_at (suc k) n ≡ byte_at k (n / 256)
byte-above zero n = refl
byte-above (suc k) n =
    let d : n / 256 / 256 ^ suc k ≡ n / (256 * 256 ^ suc k) = div-div-eq-div-mul n 256 (256 ^ suc k) in
    rw (pow-succ' 256 (suc k), ← d)

lowest-last : (k n : ℕ) → bytes_high_first (suc k) n ≡ bytes_high_first k (n / 256) ++ (n % 256 ∷ [])
lowest-last zero n = refl
lowest-last (suc k) n = ap₂ (λ (b : ℕ) (r : List ℕ). b ∷ r) (byte-above k n) (lowest-last k n)

pub big-endian : (k n : ℕ) → bytes_high_first k n ≡ big_endian k n
unfolding big_endian
big-endian zero n = refl
big-endian (suc k) n = lowest-last k n ∙ ap (λ (r : List ℕ). r ++ (n % 256 ∷ [])) (big-endian k (n / 256))

-- the first n of the words xs in bytes
unfoldable pub words_bytes : List ℕ → ℕ → List ℕ
words_bytes xs zero = []
words_bytes xs (suc n) = words_bytes xs n ++ big_endian 4 (get_or xs n 0)

-- one more word written, as the code writes it
pub word-written
    : (xs d b : List ℕ) (i k : ℕ)
    → take (4 * i) d ≡ words_bytes xs i
    → 4 * i ≤ length d
    → b ≡ to_be_bytes w32 (get_or xs i 0)
    → take (4 * (i + 1)) (put_mid (4 * i) k d b) ≡ words_bytes xs (i + 1)
unfolding words_bytes
word-written xs d b i k e h f =
    let g : b ≡ big_endian 4 (get_or xs i 0) = f ∙ big-endian 4 (get_or xs i 0) in
    let l : 4 * (i + 1) ≡ 4 * i + length b = omega (arith, ap length g, length-big_endian 4 (get_or xs i 0)) in
    take-put_mid (4 * i) k d b (4 * (i + 1)) l h ∙ ap₂ ◌++◌ e g ∙ rw add-one

-- all eight words of a digest
pub eight-written
    : (s : Working) → words_bytes (s.a ∷ s.b ∷ s.c ∷ s.d ∷ s.e ∷ s.f ∷ s.g ∷ s.h ∷ []) 8 ≡ bytes_of s
unfolding words_bytes bytes_of
eight-written s = simp append_assoc
