-- The schedule in an array: its first words are those of the definition so far.
use Rattle.std.proofs.Common.{◌≡◌, ℕ, zero, suc, ◌+◌, ◌-◌, ◌*◌, ◌<◌, ◌≤◌, List, [], ◌∷◌, length, get_or, take, set, sym, refl, ap, ◌∙◌, add-zero, add-one, arith, length-append, length-set, length-take-le, take_all, get_or-take, take-suc-set}
use native.Mathlib.Decide.{le_ind}
use lib.ListN.{get_or-append}
use Rattle.sha256_fips180.specs.Fips180.{◌⊞◌, σ₀, σ₁, word_at, words, next_word, extend, schedule}
use Rattle.sha256_compression.specs.Code.{Scheduled}

-- one more word of the block
pub loaded : (w s : List ℕ) (t : ℕ) → t < length w → take t w ≡ words t s → take (t + 1) (set w t (word_at s (4 * t))) ≡ words (t + 1) s
unfolding words
loaded w s t h e = rw (add-one, take-suc-set w t (word_at s (4 * t)), e)

-- word 16 + n, of which the words before it are in w
unfoldable pub word_from : List ℕ → ℕ → ℕ
word_from w n = σ₁ (get_or w (n + 14) 0) ⊞ get_or w (n + 9) 0 ⊞ σ₀ (get_or w (n + 1) 0) ⊞ get_or w n 0

at : (w : List ℕ) (n i j : ℕ) → i ≡ j → j < 16 + n → get_or (take (16 + n) w) i 0 ≡ get_or w j 0
at w n i j e h = rw e (get_or-take (16 + n) w j 0 h)

next : (w : List ℕ) (n : ℕ) → next_word (take (16 + n) w) (16 + n) ≡ word_from w n
unfolding next_word word_from
next w n =
    cc (
      at w n (16 + n - 2) (n + 14) (omega arith) (omega arith),
      at w n (16 + n - 7) (n + 9) (omega arith) (omega arith),
      at w n (16 + n - 15) (n + 1) (omega arith) (omega arith),
      at w n (16 + n - 16) n (omega arith) (omega arith),
    )

pub extended
    : {w M : List ℕ} {n v : ℕ} → Scheduled M n w → n < 48 → v ≡ word_from w n → Scheduled M (n + 1) (set w (n + 16) v)
unfolding schedule extend
extended {w} {M} {n} {v} s h e =
    let i : n + 16 ≡ 16 + n = omega arith in
    let j : 16 + (n + 1) ≡ suc (16 + n) = omega arith in
    let l : 16 + n < length w = omega arith in
    record {
      size = rw length-set s.size;
      front = rw (i, j, add-one, take-suc-set w (16 + n) v l, ← s.front, next w n, e);
    }

pub complete : {w M : List ℕ} → Scheduled M 48 w → w ≡ schedule M 48
complete {w} s = sym (take_all 64 w (omega arith)) ∙ s.front

length-schedule : (M : List ℕ) (n : ℕ) → length (schedule M n) ≡ length M + n
unfolding schedule extend
length-schedule M zero = sym (add-zero (length M))
length-schedule M (suc n) = rw (length-append, length-schedule M n) (omega arith)

-- a word of the schedule is the same in each longer schedule
lasting : (M : List ℕ) {n : ℕ} (i : ℕ) → i < length M + n → (m : ℕ) → n ≤ m → get_or (schedule M m) i 0 ≡ get_or (schedule M n) i 0
unfolding schedule extend
lasting M {n} i h =
    le_ind (λ (m : ℕ). get_or (schedule M m) i 0 ≡ get_or (schedule M n) i 0) refl (λ m (l : n ≤ m) e.
    get_or-append (schedule M m) (next_word (schedule M m) (16 + m) ∷ []) 0 i (rw length-schedule (omega arith)) ∙ e)

-- the words that the array has so far are those of the whole schedule
pub made : {w M : List ℕ} {n : ℕ} → Scheduled M n w → n ≤ 48 → (i : ℕ) → i < 16 + n → get_or w i 0 ≡ get_or (schedule M 48) i 0
made {w} {M} {n} s h i l =
    let e : length M + n ≡ 16 + n = sym (length-schedule M n) ∙ ap length (sym s.front) ∙ length-take-le (16 + n) w (omega arith) in
    let k : i < length M + n = omega arith in
    sym (get_or-take (16 + n) w i 0 l) ∙ ap (λ (v : List ℕ). get_or v i 0) s.front ∙ sym (lasting M i k 48 h)
