-- The padded message: its whole blocks are the message's, and its end is one or two blocks.
use mathlib.Core.Path.{◌≡◌, refl, ap, ap₂, subst, sym, ◌∙◌}
use mathlib.Core.List.{List, ◌∷◌, ◌++◌, append_assoc}
use Prim.Native.Nat.{ℕ, zero, suc, ◌+◌, ◌-◌, ◌*◌, ◌/◌, ◌%◌, ◌^◌, ◌≤◌, ◌<◌}
use native.Mathlib.Nat.{le_refl, add-zero, add-suc}
use native.Mathlib.Numerals.{one-add}
use native.Mathlib.Omega.{arith}
use lib.ListN.{length, take, drop, set, replicate, length-append, length-drop, length-replicate, replicate-append-replicate}
use lib.Seq.{take_all, take-append-le, drop-append-le, drop-drop, set_at, take_at, drop_at}
use Rattle.std.specs.Int.{w64, to_be_bytes}
use Rattle.std.proofs.lemmas.Slice.{take-put_mid}
use borrow.Rule.Slice.PartMut.{put_mid}
use Rattle.sha256_fips180.specs.Fips180.{big_endian, zero_bytes, length_field, padding, pad, block, Working, H⁰, compress, hash}
use Rattle.sha256_fips180.specs.Lengths.{length-length_field, length-padding}
use Rattle.sha256_fips180.specs.Standard.{message_limit}
use Rattle.sha256_digest.specs.Tail.{last_size, tail, hash_from}
use Rattle.sha256_digest.proofs.Bytes.{big-endian}

pub one_block : (n : ℕ) → n % 64 < 56 → last_size n ≡ 64
unfolding last_size zero_bytes
one_block n h = omega arith

pub two_blocks : (n : ℕ) → 56 ≤ n % 64 → last_size n ≡ 128
unfolding last_size zero_bytes
two_blocks n h = omega arith

-- the message's bytes after its last whole block
rest : List ℕ → List ℕ
rest m = drop (64 * (length m / 64)) m

length_rest : (m : List ℕ) → length (rest m) ≡ length m % 64
unfolding rest
length_rest m = rw length-drop (omega arith)

tail-parts : (m : List ℕ) → tail m ≡ rest m ++ padding (length m)
unfolding pad tail rest
tail-parts m = drop-append-le (64 * (length m / 64)) m (padding (length m)) (omega arith)

-- N zero bytes from r on
zeros
    : (N r z q : ℕ) → r + (1 + (z + q)) ≡ N → drop {A = ℕ} r (replicate N 0) ≡ 0 ∷ (replicate z 0 ++ replicate q 0)
zeros N r z q e =
    rw (← e, ← replicate-append-replicate {A = ℕ} r (1 + (z + q)) 0)
    (drop_at (replicate r 0) (replicate (1 + (z + q)) 0) r (length-replicate {A = ℕ} r 0)
    ∙ rw (one-add, replicate-append-replicate {A = ℕ} z q 0))

-- r bytes, the byte 0x80 and z zero bytes, as they are built in N zero bytes
built
    : (xs : List ℕ) (N r z q : ℕ)
    → length xs ≡ r
    → r + (1 + (z + q)) ≡ N
    → set (xs ++ drop r (replicate N 0)) r 0x80 ≡ (xs ++ (0x80 ∷ replicate z 0)) ++ replicate q 0
built xs N r z q l e =
    rw (
      zeros N r z q e,
      set_at xs 0 (replicate z 0 ++ replicate q 0) 0x80 r l,
      append_assoc xs (0x80 ∷ replicate z 0) (replicate q 0),
    )

-- xs in the place of the last 8 of e bytes
ended
    : (p q xs : List ℕ) (e k : ℕ) → length p + 8 ≡ e → length xs ≡ 8 → take e (put_mid (e - 8) k (p ++ q) xs) ≡ p ++ xs
ended p q xs e k h l =
    take-put_mid (e - 8) k (p ++ q) xs e (omega arith) (simp length-append (omega arith)) ∙ rw (take_at p q (e - 8) (omega arith))

-- the last blocks as they are built in N zero bytes
filled
    : (m : List ℕ) (N e k : ℕ)
    → e ≡ last_size (length m)
    → e ≤ N
    → take e (put_mid (e - 8) k (set (rest m ++ drop (length m % 64) (replicate N 0)) (length m % 64) 0x80) (length_field (length m)))
    ≡ tail m
unfolding padding last_size
filled m N e k size small =
    let z : ℕ = zero_bytes (length m) in
    let q : ℕ = N - (length m % 64 + (1 + z)) in
    let xs : List ℕ = length_field (length m) in
    let p : List ℕ = rest m ++ (0x80 ∷ replicate z 0) in
    let l : length p ≡ length m % 64 + suc z =
    rw (length-append (rest m) (0x80 ∷ replicate z 0), length_rest m, length-replicate {A = ℕ} z 0)
    in
    rw (tail-parts m, built (rest m) N (length m % 64) z q (length_rest m) (omega arith))
    (ended p (replicate q 0) xs e k (omega arith) (length-length_field (length m))
    ∙ append_assoc (rest m) (0x80 ∷ replicate z 0) xs)

-- the rest as the code takes it
abbrev pub after : List ℕ → List ℕ
after m = take (length m - (length m - length m % 64)) (drop (length m - length m % 64) m)

after-rest : (m : List ℕ) → after m ≡ rest m
unfolding rest
after-rest m =
    let i : length m - length m % 64 ≡ 64 * (length m / 64) = omega arith in
    rw i (take_all (length m - 64 * (length m / 64)) (drop (64 * (length m / 64)) m) (rw length-drop (le_refl _)))

-- the last blocks by the steps of the code: the rest x, then the byte 0x80, and the length, in the bytes w at e - 8
pub last-filled
    : (m x w : List ℕ) (e k : ℕ)
    → e ≡ last_size (length m)
    → e ≤ 128
    → x ≡ after m
    → w ≡ to_be_bytes w64 (length m % message_limit * 8)
    → take (last_size (length m))
    (put_mid (e - 8) k (set (x ++ drop (length m % 64) (replicate 128 0)) (length m % 64) 0x80) w)
    ≡ tail m
unfolding length_field
last-filled m x w e k size small f g =
    let i : length m % message_limit * 8 ≡ 8 * length m % 2 ^ 64 = omega arith in
    let l : w ≡ big_endian 8 (8 * length m % 2 ^ 64) = g ∙ rw i (big-endian 8 (8 * length m % 2 ^ 64)) in
    rw (← size, l, f, after-rest m) (filled m 128 e k size small)

-- ---- blocks from a hash value on

-- the blocks after the first q are those of what comes after these
pub hash-split
    : (H : Working) (q k : ℕ) (m : List ℕ) → hash_from H (q + k) m ≡ hash_from (hash_from H q m) k (drop (64 * q) m)
unfolding hash_from block
hash-split H q zero m = rw add-zero
hash-split H q (suc k) m =
    let i : 64 * (q + k) ≡ 64 * q + 64 * k = omega arith in
    let b : take 64 (drop (64 * (q + k)) m) ≡ take 64 (drop (64 * k) (drop (64 * q) m)) = rw (i, drop-drop (64 * k) (64 * q) m) in
    ap (λ (n : ℕ). hash_from H n m) (add-suc q k) ∙ ap₂ compress (hash-split H q k m) b

-- one block, and then those of the rest
pub hash-then
    : (H : Working) (b r : List ℕ)
    → length b ≡ 64
    → hash_from H (length (b ++ r) / 64) (b ++ r) ≡ hash_from (compress H b) (length r / 64) r
unfolding hash_from block
hash-then H b r h =
    let i : length (b ++ r) / 64 ≡ 1 + length r / 64 = omega (arith, length-append b r) in
    rw (i, hash-split H 1 (length r / 64) (b ++ r), take_at b r 64 h, drop_at b r 64 h)

pub hash-none : (H : Working) (r : List ℕ) → length r < 64 → hash_from H (length r / 64) r ≡ H
unfolding hash_from
hash-none H r h = let i : length r / 64 ≡ 0 = omega arith in rw i

block-front : (n : ℕ) (m x : List ℕ) → 64 * suc n ≤ length m → block n (m ++ x) ≡ block n m
unfolding block
block-front n m x h =
    let l : 64 ≤ length (drop (64 * n) m) = simp length-drop (omega arith) in
    rw (drop-append-le (64 * n) m x (omega arith), take-append-le 64 (drop (64 * n) m) x l)

hash-front : (H : Working) (n : ℕ) (m x : List ℕ) → 64 * n ≤ length m → hash_from H n (m ++ x) ≡ hash_from H n m
unfolding hash_from
hash-front H zero m x h = refl
hash-front H (suc n) m x h = ap₂ compress (hash-front H n m x (omega arith)) (block-front n m x h)

pub hash-first : (n : ℕ) (m : List ℕ) → hash_from H⁰ n m ≡ hash n m
unfolding hash_from hash
hash-first zero m = refl
hash-first (suc n) m = ap (λ (h : Working). compress h (block n m)) (hash-first n m)

-- the last hash value: the whole blocks of the message, and then the last ones
pub hash-whole
    : (m b : List ℕ)
    → b ≡ tail m
    → hash_from (hash_from H⁰ (length m / 64) m) (length b / 64) b ≡ hash (length (pad m) / 64) (pad m)
unfolding pad tail
hash-whole m b e =
    let q : ℕ = length m / 64 in
    let d : b ≡ drop (64 * q) (m ++ padding (length m)) = e in
    let front : hash_from H⁰ q (m ++ padding (length m)) ≡ hash_from H⁰ q m = hash-front H⁰ q m (padding (length m)) (omega arith) in
    let n : q + length b / 64 ≡ length (m ++ padding (length m)) / 64 =
    omega (arith, ap length d, length-drop (64 * q) (m ++ padding (length m)), length-append m (padding (length m)))
    in
    rw (← front)
    (ap (hash_from (hash_from H⁰ q (m ++ padding (length m))) (length b / 64)) d
    ∙ sym (hash-split H⁰ q (length b / 64) (m ++ padding (length m)))
    ∙ hash-first (q + length b / 64) (m ++ padding (length m))
    ∙ rw n)
