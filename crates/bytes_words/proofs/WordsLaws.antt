-- Bytes as words: nothing is lost, either way.
use Rattle.std.specs.Prelude.{ℕ, zero, suc, ◌+◌, ◌-◌, ◌*◌, ◌/◌, ◌%◌, ◌^◌, ◌≤◌, ◌<◌, ◌≡◌, refl, List, [], ◌∷◌, ◌++◌, length, get_or, take, drop}
use Rattle.std.proofs.Common.{arith, mod-lt, mod-eq_of_lt, lt_of_lt_of_le, sym, ◌∙◌, ap, ap₂, length-append, length-take, length-drop, take-append-drop, get_or-drop, length-take-le, take_at, drop_at, get_or-append-add, pow_pos, pow-add, pow_mono}
use Rattle.std.proofs.Math.Nat.{mod-one, div-add-mod}
use Rattle.std.proofs.Math.ListN.{get_or-append}
use Rattle.std.proofs.Math.Arith.{digits_lt}
use Rattle.std.proofs.Math.Pow.{high, low, field, mod-mod-pow}
use Rattle.std.proofs.lemmas.Nat.{mod-pow-add}
use Rattle.bytes_order.specs.Member.{concat_map}
use Rattle.bytes_words.specs.Words.{Bytes, Words, bytes_in, big_of, bytes_of, packed}

-- lengths
pub length-bytes_in : (n w : ℕ) → length (bytes_in n w) ≡ n
unfolding bytes_in
length-bytes_in zero w = refl
length-bytes_in (suc n) w = ap suc (length-bytes_in n w)

pub length-bytes_of : (ws : List ℕ) → length (bytes_of ws) ≡ 8 * length ws
unfolding concat_map
length-bytes_of [] = refl
length-bytes_of (w ∷ ws) = let n = length-bytes_of ws in omega (arith, length-append (bytes_in 8 w) (bytes_of ws), length-bytes_in 8 w, n)

pub length-packed : (n : ℕ) (b : List ℕ) → length (packed n b) ≡ n
unfolding packed
length-packed zero b = refl
length-packed (suc n) b = ap suc (length-packed n (drop 8 b))

-- bytes are bytes in a part of them, and in a number
pub bytes_take : (n : ℕ) (b : List ℕ) → Bytes b → Bytes (take n b)
bytes_take zero b h i = pow_pos 8
bytes_take (suc n) [] h i = pow_pos 8
bytes_take (suc n) (x ∷ b) h zero = h 0
bytes_take (suc n) (x ∷ b) h (suc i) = bytes_take n b (λ j. h (suc j)) i

pub bytes_drop : (n : ℕ) (b : List ℕ) → Bytes b → Bytes (drop n b)
bytes_drop n b h i = rw (get_or-drop n b i 0) (h (n + i))

pub bytes-bytes_in : (n w : ℕ) → Bytes (bytes_in n w)
unfolding bytes_in
bytes-bytes_in zero w i = pow_pos 8
bytes-bytes_in (suc n) w zero = mod-lt (w / 2 ^ (8 * n)) (pow_pos 8)
bytes-bytes_in (suc n) w (suc i) = bytes-bytes_in n w i

-- the number of n bytes is below 2 ^ (8 * n)
more : (n : ℕ) → 8 * suc n ≡ 8 + 8 * n
more n = omega arith

pub big_of-lt : (b : List ℕ) → Bytes b → big_of b < 2 ^ (8 * length b)
unfolding big_of
big_of-lt [] h = pow_pos 0
big_of-lt (x ∷ b) h = rw (more (length b), pow-add 2 8 (8 * length b)) (digits_lt (h 0) (big_of-lt b (λ i. h (suc i))))

pub big_of-fits : (n : ℕ) (b : List ℕ) → Bytes b → length b ≤ n → big_of b < 2 ^ (8 * n)
big_of-fits n b h l = lt_of_lt_of_le (big_of-lt b h) (pow_mono (omega arith))

-- the number of the bytes of a number
big-bytes : (n w : ℕ) → big_of (bytes_in n w) ≡ w % 2 ^ (8 * n)
unfolding bytes_in big_of
big-bytes zero w = sym (mod-one w)
big-bytes (suc n) w = rw (length-bytes_in n w, big-bytes n w, more n) (sym (mod-pow-add w 8 (8 * n)))

pub big-bytes_in : (n : ℕ) {w : ℕ} → w < 2 ^ (8 * n) → big_of (bytes_in n w) ≡ w
big-bytes_in n {w} h = big-bytes n w ∙ mod-eq_of_lt h

-- the n low bytes of the m low bytes of w
low-bytes : (m w n : ℕ) → n ≤ m → bytes_in n (w % 2 ^ (8 * m)) ≡ bytes_in n w
unfolding bytes_in
low-bytes m w zero h = refl
low-bytes m w (suc n) h =
    let d = 8 * m - 8 * suc n in
    let e : 8 * m ≡ d + 8 + 8 * n = omega arith in
    ap₂ (λ (x : ℕ) (b : List ℕ). x ∷ b)
    (ap (λ (k : ℕ). w % 2 ^ k / 2 ^ (8 * n) % 2 ^ 8) e ∙ ap (λ (k : ℕ). k % 2 ^ 8) (field w (d + 8) (8 * n)) ∙ mod-mod-pow (w / 2 ^ (8 * n)) d 8)
    (low-bytes m w n (omega arith))

-- the bytes of the number of bytes
pub bytes_in-big : (b : List ℕ) → Bytes b → bytes_in (length b) (big_of b) ≡ b
unfolding bytes_in big_of
bytes_in-big [] h = refl
bytes_in-big (x ∷ b) h =
    let n = length b in
    let l = big_of-lt b (λ i. h (suc i)) in
    let w = x * 2 ^ (8 * n) + big_of b in
    ap₂ (λ (y : ℕ) (c : List ℕ). y ∷ c)
    (ap (λ (k : ℕ). k % 2 ^ 8) (high x (8 * n) l) ∙ mod-eq_of_lt (h 0))
    (sym (low-bytes n w n (omega arith)) ∙ ap (bytes_in n) (low x (8 * n) l) ∙ bytes_in-big b (λ i. h (suc i)))

pub bytes_in-word : (b : List ℕ) → Bytes b → 8 ≤ length b → bytes_in 8 (big_of (take 8 b)) ≡ take 8 b
bytes_in-word b h l =
    ap (λ (n : ℕ). bytes_in n (big_of (take 8 b))) (sym (length-take-le 8 b l)) ∙ bytes_in-big (take 8 b) (bytes_take 8 b h)

-- the words of bytes are words
pub words-packed : (n : ℕ) (b : List ℕ) → Bytes b → Words (packed n b)
unfolding packed
words-packed zero b h i = pow_pos 64
words-packed (suc n) b h zero = big_of-fits 8 (take 8 b) (bytes_take 8 b h) (omega (arith, length-take 8 b))
words-packed (suc n) b h (suc i) = words-packed n (drop 8 b) (bytes_drop 8 b h) i

-- bytes packed into words, and taken out again
pub bytes_of-packed : (n : ℕ) (b : List ℕ) → Bytes b → length b ≡ 8 * n → bytes_of (packed n b) ≡ b
unfolding packed concat_map
bytes_of-packed zero [] h e = refl
bytes_of-packed zero (x ∷ b) h e = absurd (omega arith)
bytes_of-packed (suc n) b h e =
    ap₂ ◌++◌ (bytes_in-word b h (omega arith)) (bytes_of-packed n (drop 8 b) (bytes_drop 8 b h) (omega (arith, length-drop 8 b)))
    ∙ take-append-drop 8 b

-- words laid out as bytes, and packed again
pub packed-bytes_of : (ws : List ℕ) → Words ws → packed (length ws) (bytes_of ws) ≡ ws
unfolding packed concat_map
packed-bytes_of [] h = refl
packed-bytes_of (w ∷ ws) h =
    let l = length-bytes_in 8 w in
    rw (take_at (bytes_in 8 w) (bytes_of ws) 8 l, drop_at (bytes_in 8 w) (bytes_of ws) 8 l)
    (ap₂ (λ (x : ℕ) (r : List ℕ). x ∷ r) (big-bytes_in 8 (h 0)) (packed-bytes_of ws (λ i. h (suc i))))

-- the same bytes are those of the same words
pub bytes_of-injective : (us vs : List ℕ) → Words us → Words vs → bytes_of us ≡ bytes_of vs → us ≡ vs
bytes_of-injective us vs h g e =
    let n : length us ≡ length vs = omega (arith, length-bytes_of us, length-bytes_of vs, ap length e) in
    sym (packed-bytes_of us h) ∙ ap₂ packed n e ∙ packed-bytes_of vs g

-- byte j of n
pub byte-in : (n w j : ℕ) → j < n → get_or (bytes_in n w) j 0 ≡ w / 2 ^ (8 * (n - 1 - j)) % 2 ^ 8
unfolding bytes_in
byte-in zero w j h = absurd (omega arith)
byte-in (suc n) w zero h = let e : suc n - 1 - 0 ≡ n = omega arith in rw e refl
byte-in (suc n) w (suc j) h = let e : suc n - 1 - suc j ≡ n - 1 - j = omega arith in rw e (byte-in n w j (omega arith))

-- byte j of word k
byte_of : (ws : List ℕ) (k j : ℕ) → k < length ws → j < 8 → get_or (bytes_of ws) (8 * k + j) 0 ≡ get_or (bytes_in 8 (get_or ws k 0)) j 0
unfolding concat_map
byte_of [] k j h l = absurd (omega arith)
byte_of (w ∷ ws) zero j h l =
    let e : 8 * 0 + j ≡ j = omega arith in
    rw e (get_or-append (bytes_in 8 w) (bytes_of ws) 0 j (omega (arith, length-bytes_in 8 w)))
byte_of (w ∷ ws) (suc k) j h l =
    let e : 8 * suc k + j ≡ length (bytes_in 8 w) + (8 * k + j) = omega (arith, length-bytes_in 8 w) in
    rw (e, get_or-append-add (bytes_in 8 w) (bytes_of ws) (8 * k + j) 0) (byte_of ws k j (omega arith) l)

-- byte i of the bytes of words
pub byte-of-word : (ws : List ℕ) (i : ℕ) → i < 8 * length ws → get_or (bytes_of ws) i 0 ≡ get_or (bytes_in 8 (get_or ws (i / 8) 0)) (i % 8) 0
byte-of-word ws i h = ap (λ (k : ℕ). get_or (bytes_of ws) k 0) (sym (div-add-mod i 8)) ∙ byte_of ws (i / 8) (i % 8) (omega arith) (omega arith)

pub byte-at : (ws : List ℕ) (i : ℕ) → i < 8 * length ws → get_or (bytes_of ws) i 0 ≡ get_or ws (i / 8) 0 / 2 ^ (8 * (7 - i % 8)) % 2 ^ 8
byte-at ws i h = byte-of-word ws i h ∙ byte-in 8 (get_or ws (i / 8) 0) (i % 8) (omega arith)
