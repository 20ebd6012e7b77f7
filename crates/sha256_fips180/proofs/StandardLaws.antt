-- `SHA-256` is the standard's digest of every message of fewer than 2 ^ 61 bytes, and the standard has no digest of any other.
use Rattle.std.specs.Prelude.{ℕ, ◌+◌, ◌*◌, ◌%◌, ◌^◌, ◌≤◌, ◌<◌, ◌≡◌, refl, List, ◌∷◌, ◌++◌, length, drop, replicate}
use Rattle.std.proofs.Common.{sym, ap, ap₂, subst, ◌∙◌, arith, drop_at}
use Rattle.std.proofs.lemmas.List.{replicate-append-replicate}
use Rattle.sha256_fips180.specs.Fips180.{zero_bytes, length_field, padding, pad, SHA-256}
use Rattle.sha256_fips180.specs.Standard.{message_limit, AllBelow, binary, bits, number, Padded, Digest}
use Rattle.sha256_fips180.proofs.BinaryLaws.{below-append, below-replicate, below-big_endian, below-binary, length-binary}
use Rattle.sha256_fips180.proofs.BinaryLaws.{number-binary, number-below, number-unique, bits-append, length-bits, bits-zeros, bits-big_endian, bits-unique}

padding-bytes : (n : ℕ) → AllBelow 256 (padding n)
unfolding padding length_field
padding-bytes n =
    (omega arith, below-append 256 (replicate (zero_bytes n) 0) _ (below-replicate 256 (zero_bytes n) 0 (omega arith)) (below-big_endian 8 _))

-- the bit 1 and the zero bits of the padding, with the bytes xs after its zero bytes
padding-bits : (z : ℕ) (xs : List ℕ) → bits (0x80 ∷ (replicate z 0 ++ xs)) ≡ 1 ∷ (replicate (7 + 8 * z) 0 ++ bits xs)
unfolding bits binary
padding-bits z xs =
    ap (λ (r : List ℕ). binary 8 0x80 ++ r) (bits-append (replicate z 0) xs ∙ ap (λ (r : List ℕ). r ++ bits xs) (bits-zeros z))
    ∙ ap (λ (r : List ℕ). 1 ∷ (r ++ bits xs)) (replicate-append-replicate 7 (8 * z) 0)

-- as many zero bits as the zero bytes have, and the seven of the byte 0x80: the smallest solution of the standard's equation
zeros-solve : (n : ℕ) → (8 * n + 1 + (7 + 8 * zero_bytes n)) % 512 ≡ 448
unfolding zero_bytes
zeros-solve n = omega arith

zeros-smallest : (n j : ℕ) → (8 * n + 1 + j) % 512 ≡ 448 → 7 + 8 * zero_bytes n ≤ j
unfolding zero_bytes
zeros-smallest n j e = omega arith

-- the padding's field is 64 bits, and below 2 ^ 61 bytes it is the bit length itself
field-size : (n : ℕ) → length (bits (length_field n)) ≡ 64
unfolding length_field
field-size n = ap length (bits-big_endian 8 _) ∙ length-binary 64 _

field-bits : (n : ℕ) → AllBelow 2 (bits (length_field n))
unfolding length_field
field-bits n = subst (AllBelow 2) (sym (bits-big_endian 8 _)) (below-binary 64 _)

pub field-right : (n : ℕ) → n < message_limit → number (bits (length_field n)) ≡ 8 * n
unfolding length_field
field-right n h = ap number (bits-big_endian 8 _) ∙ number-binary 64 _ (omega arith) ∙ omega arith

-- `pad` pads as the standard says, below 2 ^ 61 bytes
pub pad-right : (m : List ℕ) → length m < message_limit → Padded (bits m) (bits (pad m))
unfolding pad padding
pad-right m h =
    let n : ℕ = length m in
    record {
      k = 7 + 8 * zero_bytes n;
      block = bits (length_field n);
      appended = bits-append m (padding n) ∙ ap (λ (r : List ℕ). bits m ++ r) (padding-bits (zero_bytes n) (length_field n));
      solution = rw length-bits (zeros-solve n);
      smallest = λ j e. omega (arith, zeros-smallest n j (rw length-bits at e));
      block_size = field-size n;
      block_bits = field-bits n;
      block_number = field-right n h ∙ sym (length-bits m);
    }

-- there is one padded message at most, and none of a message of 2 ^ 64 bits and more
padded-unique : {M p q : List ℕ} → Padded M p → Padded M q → p ≡ q
padded-unique {M} x y =
    let zeros : x.k ≡ y.k = omega (arith, x.smallest y.k y.solution, y.smallest x.k x.solution) in
    let same : x.block ≡ y.block =
    number-unique x.block y.block x.block_bits y.block_bits (x.block_size ∙ sym y.block_size) (x.block_number ∙ sym y.block_number)
    in
    x.appended ∙ ap₂ (λ (j : ℕ) (r : List ℕ). M ++ (1 ∷ (replicate j 0 ++ r))) zeros same ∙ sym y.appended

padded-limit : {M p : List ℕ} → Padded M p → length M < 2 ^ 64
padded-limit x =
    let b : number x.block < 2 ^ 64 = subst (λ (k : ℕ). number x.block < 2 ^ k) x.block_size (number-below x.block x.block_bits) in
    rw (← x.block_number) b

-- Document 02, E2: "It then .. gives FIPS 180-4's digest of them". Of every message below the limit `SHA-256` is the standard's digest, ..
pub sha256-right : (m : List ℕ) → length m < message_limit → Digest m (SHA-256 m)
unfolding SHA-256 pad
sha256-right m h =
    record { ending = padding (length m); ending_bytes = padding-bytes (length m); padded = pad-right m h; hashed = refl }

-- .. the standard defines none of any other message, ..
pub digest-limit : {m d : List ℕ} → Digest m d → length m < message_limit
digest-limit {m} x = omega (arith, padded-limit x.padded, length-bits m)

-- .. and no second one.
pub digest-unique : {m d : List ℕ} → Digest m d → d ≡ SHA-256 m
unfolding SHA-256 pad
digest-unique {m} {d} x =
    let e : bits m ++ bits x.ending ≡ bits m ++ bits (padding (length m)) =
    sym (bits-append m x.ending) ∙ padded-unique x.padded (pad-right m (digest-limit x)) ∙ bits-append m (padding (length m))
    in
    let f : bits x.ending ≡ bits (padding (length m)) =
    sym (drop_at (bits m) _ _ refl) ∙ ap (drop (length (bits m))) e ∙ drop_at (bits m) _ _ refl
    in
    let g : x.ending ≡ padding (length m) = bits-unique x.ending (padding (length m)) x.ending_bytes (padding-bytes (length m)) f in
    x.hashed ∙ rw g
