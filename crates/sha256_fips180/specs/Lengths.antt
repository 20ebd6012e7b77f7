-- The lengths of a number's bytes, of the padding and of a digest.
use Rattle.std.specs.Prelude.{◌≡◌, refl, List, ℕ, zero, suc, ◌+◌, ◌/◌, length, replicate}
use Rattle.std.proofs.Common.{add-one, arith, length-append}
use Rattle.std.proofs.lemmas.List.{length-replicate}
use Rattle.sha256_fips180.specs.Fips180.{big_endian, zero_bytes, length_field, padding, bytes_of, SHA-256}

pub length-big_endian : (k n : ℕ) → length (big_endian k n) ≡ k
unfolding big_endian
length-big_endian zero n = refl
length-big_endian (suc k) n = rw (length-append, length-big_endian k (n / 256), add-one)

pub length-length_field : (n : ℕ) → length (length_field n) ≡ 8
unfolding length_field
length-length_field n = length-big_endian 8 _

pub length-padding : (n : ℕ) → length (padding n) ≡ 9 + zero_bytes n
unfolding padding
length-padding n =
    omega (
      arith,
      length-append (replicate (zero_bytes n) 0) (length_field n),
      length-replicate {A = ℕ} (zero_bytes n) 0,
      length-length_field n,
    )

pub length-digest : (m : List ℕ) → length (SHA-256 m) ≡ 32
unfolding SHA-256 bytes_of
length-digest m = simp (length-append, length-big_endian)
