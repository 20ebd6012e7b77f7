-- Eight bytes, one by one; the words of an id.
use Rattle.std.proofs.Common.{ℕ, suc, ◌+◌, ◌≤◌, ◌<◌, ◌≡◌, List, [], ◌∷◌, length, get_or, take, drop, arith, ap, drop-cons, drop-drop}
use Rattle.bytes_words.specs.Words.{word_from, packed}

-- one byte, and those after it
one_more : (b : List ℕ) (n : ℕ) {i j : ℕ} → i < length b → j ≡ suc i → take (suc n) (drop i b) ≡ get_or b i 0 ∷ take n (drop j b)
one_more b n {i} {j} h e = rw e (ap (take (suc n)) (drop-cons b i 0 h))

pub eight_bytes
    : (b : List ℕ) (at : ℕ) → at + 8 ≤ length b
    → get_or b at 0 ∷ get_or b (at + 1) 0 ∷ get_or b (at + 2) 0 ∷ get_or b (at + 3) 0 ∷ get_or b (at + 4) 0 ∷ get_or b (at + 5) 0 ∷ get_or b (at + 6) 0 ∷ get_or b (at + 7) 0 ∷ []
    ≡ take 8 (drop at b)
eight_bytes b at h =
    cc (
      one_more b 7 {i = at} {j = at + 1} (omega arith) (omega arith),
      one_more b 6 {i = at + 1} {j = at + 2} (omega arith) (omega arith),
      one_more b 5 {i = at + 2} {j = at + 3} (omega arith) (omega arith),
      one_more b 4 {i = at + 3} {j = at + 4} (omega arith) (omega arith),
      one_more b 3 {i = at + 4} {j = at + 5} (omega arith) (omega arith),
      one_more b 2 {i = at + 5} {j = at + 6} (omega arith) (omega arith),
      one_more b 1 {i = at + 6} {j = at + 7} (omega arith) (omega arith),
      one_more b 0 {i = at + 7} {j = at + 8} (omega arith) (omega arith),
    )

-- the four words of an id, each by where it begins
pub packed-four : (b : List ℕ) → packed 4 b ≡ word_from b 0 ∷ word_from b 8 ∷ word_from b 16 ∷ word_from b 24 ∷ []
unfolding packed
packed-four b = simp drop-drop
