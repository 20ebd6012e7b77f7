-- The laws of sets of places as runs of words, for every count of words. In order: a place by its word; how large a number a run is, and runs with the same number; the lowest words of a
-- run, and how many serve n places; a place added; two runs joined; counting and the test `within`, by the first word; a proper subset has a smaller count;
-- what joining one run of a slice leaves as it was.
use Rattle.std.specs.Prelude.{ℕ, zero, suc, ◌+◌, ◌-◌, ◌*◌, ◌/◌, ◌%◌, ◌^◌, ◌≤◌, ◌<◌, ◌≡◌, refl, ◌⊎◌, List, [], ◌∷◌, Bool, true, false, ◌&&◌, ◌||◌, length, get_or, set, take, drop, ltb}
use Rattle.std.proofs.Common.{arith, zero-lt-suc, lt_of_lt_of_le, zero-add, add-zero, zero-mul, mul-suc, add_comm, mod-eq_of_lt, mod-lt, div-add-mod', add-one, sym, ◌∙◌, ap₂, subst, ⊎_elim, length-take, pow_pos, pow_mono, pow-add, shr-shr, ltb-true, ltb-false}
use Rattle.std.proofs.Math.Nat.{zero-mod, mod-one, div-eq_of_lt, add-div_left, add-mod_left, min-le_left}
use Rattle.std.proofs.Math.Path.{ap}
use Rattle.std.proofs.Math.Dec.{eqb}
use Rattle.std.proofs.Math.Arith.{digits_lt}
use Rattle.std.proofs.Math.Pow.{pow-lt, high, low}
use Rattle.std.proofs.lemmas.Nat.{mod-pow-add, or_block, ones_cat}
use Rattle.std.specs.Int.Bits.{bit_or, or_zero_r}
use Rattle.bytes_order.specs.BoolLaws.{bool_cases, true-false, test-ext, and-true, and-true→}
use Rattle.bytes_copy.specs.OverwrittenLaws.{overwritten-before, overwritten-after}
use Rattle.bitset.specs.Bits.{word_bits, has, including, including_below, join, within, count}
use Rattle.bitset.specs.BitsLaws.{has-none, has-below, has-beyond, has_join, has-including, included, within_more, lt→within, within→lt, count-lt}
use Rattle.bitset_words.specs.Run.{number, Words, room, words_for, run_of, include_word, join_words, JoinsRows}

-- a place is in the first word, or j places past it
by_word : (P : ℕ → Type 0) → ((k : ℕ) → k < word_bits → P k) → ((j : ℕ) → P (word_bits + j)) → (k : ℕ) → P k
by_word P f g k =
    ⊎_elim
    (λ (e : ltb k word_bits ≡ true). f k (ltb-true k word_bits e))
    (λ (e : ltb k word_bits ≡ false).
    let l : word_bits ≤ k = ltb-false k word_bits e in
    let q : word_bits + (k - word_bits) ≡ k = omega arith in
    subst P q (g (k - word_bits)))
    (bool_cases (ltb k word_bits))

-- the word of such a place, and its bit there
module _ {A : Type 0} (f : ℕ → ℕ → A) where
  first_word : (k : ℕ) → k < word_bits → f (k / word_bits) (k % word_bits) ≡ f 0 k
  first_word k l = ap₂ f (div-eq_of_lt l) (mod-eq_of_lt l)

  later-word : (j : ℕ) → f ((word_bits + j) / word_bits) ((word_bits + j) % word_bits) ≡ f (suc (j / word_bits)) (j % word_bits)
  later-word j = ap₂ f (add-div_left j (zero-lt-suc (word_bits - 1)) ∙ add-one (j / word_bits)) (add-mod_left word_bits j)

-- the places of a word with a number above it
module _ (n : ℕ) {w : ℕ} (h : w < 2 ^ word_bits) where
  has-low : (k : ℕ) → k < word_bits → has (n * 2 ^ word_bits + w) k ≡ has w k
  has-low k l = sym (has-below (n * 2 ^ word_bits + w) word_bits k l) ∙ ap (λ (m : ℕ). has m k) (low n word_bits h)

  has-high : (k : ℕ) → has (n * 2 ^ word_bits + w) (word_bits + k) ≡ has n k
  unfolding has
  has-high k =
      ap (λ (m : ℕ). eqb (m % 2) 1)
      (sym (shr-shr (n * 2 ^ word_bits + w) word_bits k) ∙ ap (λ (m : ℕ). m / 2 ^ k) (high n word_bits h))

-- place k is bit k % 64 of word k / 64
pub has-number : (ws : List ℕ) → Words ws → (k : ℕ) → has (number ws) k ≡ has (get_or ws (k / word_bits) 0) (k % word_bits)
unfolding number
has-number [] h k = has-none k ∙ sym (has-none (k % word_bits))
has-number (w ∷ ws) h k =
    by_word (λ (k : ℕ). has (number (w ∷ ws)) k ≡ has (get_or (w ∷ ws) (k / word_bits) 0) (k % word_bits))
    (λ k l. has-low (number ws) (h 0) k l ∙ sym (first_word in-word k l))
    (λ j. has-high (number ws) (h 0) j ∙ has-number ws (λ i. h (suc i)) j ∙ sym (later-word in-word j))
    k
  where
    in-word : ℕ → ℕ → Bool
    in-word i k = has (get_or (w ∷ ws) i 0) k

-- a run of one word is that word's set
pub number-one : (w : ℕ) → number (w ∷ []) ≡ w
unfolding number
number-one w = omega arith

-- no place at or above its room is in a run
pub number_lt : (ws : List ℕ) → Words ws → number ws < 2 ^ room ws
unfolding number
number_lt [] h = pow_pos 0
number_lt (w ∷ ws) h =
    subst (λ (m : ℕ). number (w ∷ ws) < m) (sym (ap (λ (m : ℕ). 2 ^ m) (mul-suc word_bits (length ws)) ∙ pow-add 2 (room ws) word_bits))
    (digits_lt (number_lt ws (λ i. h (suc i))) (h 0))

-- runs of as many words with the same number are the same words
pub number-injective : (vs ws : List ℕ) → Words vs → Words ws → length vs ≡ length ws → number vs ≡ number ws → vs ≡ ws
unfolding number
number-injective [] [] g h l e = refl
number-injective [] (w ∷ ws) g h l e = absurd (omega arith)
number-injective (v ∷ vs) [] g h l e = absurd (omega arith)
number-injective (v ∷ vs) (w ∷ ws) g h l e =
    ap₂ (λ (x : ℕ) (r : List ℕ). x ∷ r)
    (sym (low (number vs) word_bits (g 0)) ∙ ap (λ (m : ℕ). m % 2 ^ word_bits) e ∙ low (number ws) word_bits (h 0))
    (number-injective vs ws (λ i. g (suc i)) (λ i. h (suc i)) (omega arith)
    (sym (high (number vs) word_bits (g 0)) ∙ ap (λ (m : ℕ). m / 2 ^ word_bits) e ∙ high (number ws) word_bits (h 0)))

-- the lowest m words of a run are its places below 64 * m
pub number-take : (m : ℕ) (ws : List ℕ) → Words ws → number (take m ws) ≡ number ws % 2 ^ (word_bits * m)
unfolding number
number-take zero ws h = sym (mod-one (number ws))
number-take (suc m) [] h = sym (zero-mod (2 ^ (word_bits * suc m)))
number-take (suc m) (w ∷ ws) h =
    ap (λ (n : ℕ). n * 2 ^ word_bits + w) (number-take m ws (λ i. h (suc i)))
    ∙ sym (ap (λ (n : ℕ). number (w ∷ ws) % 2 ^ n) (mul-suc word_bits m)
    ∙ mod-pow-add (number (w ∷ ws)) (word_bits * m) word_bits
    ∙ ap₂ (λ (x y : ℕ). x % 2 ^ (word_bits * m) * 2 ^ word_bits + y) (high (number ws) word_bits (h 0)) (low (number ws) word_bits (h 0)))

words_for-room : (n : ℕ) → n ≤ word_bits * words_for n
words_for-room n = omega (arith, div-add-mod' (n + (word_bits - 1)) word_bits, mod-lt (n + (word_bits - 1)) (zero-lt-suc (word_bits - 1)))

lt-room : {w : ℕ} (n : ℕ) → within w n ≡ true → w < 2 ^ (word_bits * words_for n)
lt-room {w} n e = lt_of_lt_of_le (within→lt w n e) (pow_mono (words_for-room n))

-- a set within n places, read from as many words as n places need, loses nothing
pub words_for-enough : (n : ℕ) (ws : List ℕ) → Words ws → within (number ws) n ≡ true → number (take (words_for n) ws) ≡ number ws
words_for-enough n ws h e = number-take (words_for n) ws h ∙ mod-eq_of_lt (lt-room n e)

-- and each set within n places is a run of as many words
pub run_of-length : (n w : ℕ) → length (run_of n w) ≡ n
unfolding run_of
run_of-length zero w = refl
run_of-length (suc n) w = ap suc (run_of-length n (w / 2 ^ word_bits))

pub run_of-words : (n w : ℕ) → Words (run_of n w)
unfolding run_of
run_of-words zero w i = pow_pos word_bits
run_of-words (suc n) w zero = mod-lt w (pow_pos word_bits)
run_of-words (suc n) w (suc i) = run_of-words n (w / 2 ^ word_bits) i

number-run_of : (n w : ℕ) → number (run_of n w) ≡ w % 2 ^ (word_bits * n)
unfolding number run_of
number-run_of zero w = sym (mod-one w)
number-run_of (suc n) w =
    ap (λ (m : ℕ). m * 2 ^ word_bits + w % 2 ^ word_bits) (number-run_of n (w / 2 ^ word_bits))
    ∙ sym (ap (λ (m : ℕ). w % 2 ^ m) (mul-suc word_bits n) ∙ mod-pow-add w (word_bits * n) word_bits)

pub run_of-set : (n w : ℕ) → within w n ≡ true → number (run_of (words_for n) w) ≡ w
run_of-set n w e = number-run_of (words_for n) w ∙ mod-eq_of_lt (lt-room n e)

-- a place added in its word is added to the set
pub number-include : (ws : List ℕ) → Words ws → (k : ℕ) → k < room ws → number (include_word ws k) ≡ including (number ws) k
unfolding number include_word including
number-include [] h k l = absurd (omega arith)
number-include (w ∷ ws) h k l =
    by_word (λ (k : ℕ). k < room (w ∷ ws) → number (include_word (w ∷ ws) k) ≡ including (number (w ∷ ws)) k)
    (λ k l r.
    first_word with-bit k l
    ∙ sym (ap (bit_or (number (w ∷ ws))) (sym (ap (λ (m : ℕ). m + 2 ^ k) (zero-mul (2 ^ word_bits)) ∙ zero-add (2 ^ k)))
    ∙ or_block word_bits (number ws) 0 w (2 ^ k) (h 0) (pow-lt l)
    ∙ ap (λ (m : ℕ). m * 2 ^ word_bits + bit_or w (2 ^ k)) (or_zero_r (number ws))))
    (λ j r.
    later-word with-bit j
    ∙ ap (λ (m : ℕ). m * 2 ^ word_bits + w) (number-include ws (λ i. h (suc i)) j (omega (arith, mul-suc word_bits (length ws))))
    ∙ sym (ap (bit_or (number (w ∷ ws))) (ap (λ (m : ℕ). 2 ^ m) (add_comm word_bits j) ∙ pow-add 2 j word_bits ∙ sym (add-zero (2 ^ j * 2 ^ word_bits)))
    ∙ or_block word_bits (number ws) (2 ^ j) w 0 (h 0) (pow_pos word_bits)
    ∙ ap (λ (m : ℕ). bit_or (number ws) (2 ^ j) * 2 ^ word_bits + m) (or_zero_r w)))
    k l
  where
    with-bit : ℕ → ℕ → ℕ
    with-bit i k = number (set (w ∷ ws) i (including (get_or (w ∷ ws) i 0) k))

-- what is in a run after a place was added: what was in it, and that place
pub has-include : (ws ws' : List ℕ) (k : ℕ) → k < room ws → number ws' ≡ including_below (room ws) (number ws) k
    → (j : ℕ) → has (number ws') j ≡ (has (number ws) j || eqb j k)
has-include ws ws' k l e j = ap (λ (m : ℕ). has m j) (e ∙ included (room ws) (number ws) k l) ∙ has-including (number ws) k j

-- two runs joined word by word
pub length-join_words : (ws vs : List ℕ) → length (join_words ws vs) ≡ length ws
unfolding join_words
length-join_words [] vs = refl
length-join_words (w ∷ ws) [] = refl
length-join_words (w ∷ ws) (v ∷ vs) = ap suc (length-join_words ws vs)

pub get_or-join_words : (ws vs : List ℕ) (i : ℕ) → i < length ws → i < length vs → get_or (join_words ws vs) i 0 ≡ join (get_or ws i 0) (get_or vs i 0)
unfolding join_words
get_or-join_words [] vs i h g = absurd (omega arith)
get_or-join_words (w ∷ ws) [] i h g = absurd (omega arith)
get_or-join_words (w ∷ ws) (v ∷ vs) zero h g = refl
get_or-join_words (w ∷ ws) (v ∷ vs) (suc i) h g = get_or-join_words ws vs i (omega arith) (omega arith)

pub number-join : (ws vs : List ℕ) → Words ws → Words vs → length vs ≤ length ws → number (join_words ws vs) ≡ join (number ws) (number vs)
unfolding number join_words join
number-join [] [] h g l = refl
number-join [] (v ∷ vs) h g l = absurd (omega arith)
number-join (w ∷ ws) [] h g l = sym (or_zero_r (number (w ∷ ws)))
number-join (w ∷ ws) (v ∷ vs) h g l =
    ap (λ (m : ℕ). m * 2 ^ word_bits + bit_or w v) (number-join ws vs (λ i. h (suc i)) (λ i. g (suc i)) (omega arith))
    ∙ sym (or_block word_bits (number ws) (number vs) w v (h 0) (g 0))

-- what is in a run after another was joined to it: what was in either
pub has-joined : (ws vs ws' : List ℕ) → number ws' ≡ join (number ws) (number vs) → (j : ℕ) → has (number ws') j ≡ (has (number ws) j || has (number vs) j)
has-joined ws vs ws' e j = ap (λ (m : ℕ). has m j) e ∙ has_join (number ws) (number vs) j

-- how many places: those of the first word and those of the others
pub count_word : (w : ℕ) (ws : List ℕ) → w < 2 ^ word_bits → count (number (w ∷ ws)) ≡ count (number ws) + count w
unfolding number count
count_word w ws h = ones_cat word_bits (number ws) w h

-- within n: the first word is, and the others are within what is left of n
pub within_word : (w : ℕ) (ws : List ℕ) (n : ℕ) → w < 2 ^ word_bits → within (number (w ∷ ws)) n ≡ (within w n && within (number ws) (n - word_bits))
unfolding number within
within_word w ws n h =
    by_word (λ (n : ℕ). within (number (w ∷ ws)) n ≡ (within w n && within (number ws) (n - word_bits))) small large n
  where
    -- a word without room for n places: no other may have any
    small : (n : ℕ) → n < word_bits → within (number (w ∷ ws)) n ≡ (within w n && within (number ws) (n - word_bits))
    small n l =
        let p : 2 ^ n < 2 ^ word_bits = pow-lt l in
        let z : n - word_bits ≡ 0 = omega arith in
        test-ext (within (number (w ∷ ws)) n) (within w n && within (number ws) (n - word_bits))
        (λ e.
        let b : number (w ∷ ws) < 2 ^ n = within→lt (number (w ∷ ws)) n e in
        and-true (within w n) (within (number ws) (n - word_bits))
        (lt→within {w = w} n (omega (arith, b, p)))
        (ap (within (number ws)) z ∙ lt→within {w = number ws} 0 (omega (arith, b, p))))
        (λ e.
        let both = and-true→ (within w n) (within (number ws) (n - word_bits)) e in
        let none : number ws < 1 = within→lt (number ws) 0 (ap (within (number ws)) (sym z) ∙ both.1) in
        lt→within {w = number (w ∷ ws)} n (omega (arith, none, within→lt w n both.0)))

    large : (m : ℕ) → within (number (w ∷ ws)) (word_bits + m) ≡ (within w (word_bits + m) && within (number ws) (word_bits + m - word_bits))
    large m =
        let z : word_bits + m - word_bits ≡ m = omega arith in
        ap (λ (x : ℕ). eqb x 0) (sym (shr-shr (number (w ∷ ws)) word_bits m) ∙ ap (λ (x : ℕ). x / 2 ^ m) (high (number ws) word_bits h))
        ∙ ap₂ (λ (b : Bool) (x : ℕ). b && within (number ws) x) (sym (within_more w word_bits (word_bits + m) (omega arith) (lt→within word_bits h))) (sym z)

-- a proper subset has a smaller count, whatever the counts of words
pub count-proper : (vs ws : List ℕ) → Words vs → Words ws
    → ((k : ℕ) → k < room vs → has (number vs) k ≡ true → has (number ws) k ≡ true)
    → (k : ℕ) → has (number vs) k ≡ false → has (number ws) k ≡ true → count (number vs) < count (number ws)
count-proper vs ws g h f =
    count-lt (room vs + room ws)
    (lt_of_lt_of_le (number_lt vs g) (pow_mono (omega arith)))
    (lt_of_lt_of_le (number_lt ws h) (pow_mono (omega arith)))
    (λ k l e.
    ⊎_elim
    (λ (t : ltb k (room vs) ≡ true). f k (ltb-true k (room vs) t) e)
    (λ (t : ltb k (room vs) ≡ false). absurd (true-false e (has-beyond (number_lt vs g) (ltb-false k (room vs) t))))
    (bool_cases (ltb k (room vs))))

-- where one run of a slice was joined by another, any run before or after the first is as it was
pub rows-elsewhere : {s s' : List ℕ} {to from n : ℕ} → to + n ≤ length s → JoinsRows s to from n s'
    → (at m : ℕ) → (at + m ≤ to) ⊎ (to + n ≤ at) → take m (drop at s') ≡ take m (drop at s)
rows-elsewhere {s} {s'} {to} {from} {n} h j at m where-at =
    let b = take n (drop to s') in
    let short : length b ≤ n = rw length-take (min-le_left n (length (drop to s'))) in
    let fits : to + length b ≤ length s = omega arith in
    ap (λ (r : List ℕ). take m (drop at r)) j.others
    ∙ ⊎_elim
    (λ (l : at + m ≤ to). overwritten-before s to b fits at m l)
    (λ (l : to + n ≤ at). ap (take m) (overwritten-after s to b fits at (omega arith)))
    where-at
