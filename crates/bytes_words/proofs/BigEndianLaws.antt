-- The words and the bytes of std's `to_be_bytes` and `from_be_bytes`, at 2 and 8 bytes.
use Rattle.std.proofs.Common.{ℕ, ◌*◌, ◌/◌, ◌%◌, ◌^◌, ◌<◌, ◌≡◌, List, [], ◌∷◌, length, get_or, w16, w64, sym, ap, ◌∙◌}
use Rattle.std.proofs.Math.Nat.{div-one}
use Rattle.std.proofs.lemmas.Nat.{be_bytes_2, be_bytes_8}
use Rattle.std.specs.Int.{to_be_bytes, from_be_bytes}
use Rattle.bytes_words.specs.Words.{Bytes, bytes_in, big_of}
use Rattle.bytes_words.proofs.WordsLaws.{big-bytes_in}

pub to_be-word : (w : ℕ) → to_be_bytes w64 w ≡ bytes_in 8 w
unfolding bytes_in
to_be-word w = simp div-one

pub to_be-pair : (w : ℕ) → to_be_bytes w16 w ≡ bytes_in 2 w
unfolding bytes_in
to_be-pair w = simp div-one

pub from_be-word : (b : List ℕ) {n : ℕ} → length b ≡ 8 → Bytes b → n < 2 ^ 64 → n ≡ from_be_bytes w64 b → n ≡ big_of b
from_be-word b {n} l h f e = sym (big-bytes_in 8 f) ∙ ap big_of (sym (to_be-word n) ∙ be_bytes_8 b n l h e)

pub from_be-pair : (b : List ℕ) {n : ℕ} → length b ≡ 2 → Bytes b → n < 2 ^ 16 → n ≡ from_be_bytes w16 b → n ≡ big_of b
from_be-pair b {n} l h f e = sym (big-bytes_in 2 f) ∙ ap big_of (sym (to_be-pair n) ∙ be_bytes_2 b n l h e)
