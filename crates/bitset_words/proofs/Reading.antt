-- What reads a run word by word: what is left of it from word i on, by its next word and where no word is left; the places of its words, summed; words
-- that are 0.
use Prim.Native.Nat.{ℕ, zero, suc, ◌+◌, ◌-◌, ◌*◌, ◌^◌, ◌≤◌, ◌<◌}
use native.Mathlib.Omega.{arith}
use native.Mathlib.Numerals.{add-one}
use mathlib.Core.Path.{◌≡◌, refl, sym, ◌∙◌, ap}
use mathlib.Core.Bool.{Bool, ◌&&◌}
use mathlib.Core.List.{List, [], ◌∷◌}
use lib.ListN.{length, get_or, drop, replicate, drop_of_length-le}
use lib.Seq.{drop-cons}
use lib.Count.{ones, ones_in, ones-le}
use Rattle.std.specs.List.{sum_by}
use Rattle.std.proofs.lemmas.List.Sums.{sum_by-cons}
use Rattle.bitset.specs.Bits.{word_bits, within, count}
use Rattle.bitset_words.specs.Run.{number, Words, max_words}
use Rattle.bitset_words.proofs.RunLaws.{count_word, within_word, number_lt}

module _ (ws : List ℕ) (h : Words ws) (i : ℕ) (l : i < length ws) where
  next_word : drop i ws ≡ get_or ws i 0 ∷ drop (i + 1) ws
  next_word = rw (add-one, drop-cons ws i 0 l)

  -- by what the test of the next word says
  pub within-next : (n : ℕ) {b : Bool} → b ≡ within (get_or ws i 0) n → within (number (drop i ws)) n ≡ (b && within (number (drop (i + 1) ws)) (n - word_bits))
  within-next n e =
      ap (λ (r : List ℕ). within (number r) n) next_word ∙ within_word (get_or ws i 0) (drop (i + 1) ws) n (h i)
      ∙ ap (λ (b : Bool). b && within (number (drop (i + 1) ws)) (n - word_bits)) (sym e)

pub number-end : (ws : List ℕ) (i : ℕ) → length ws ≤ i → number (drop i ws) ≡ 0
unfolding number
number-end ws i l = ap number (drop_of_length-le ws l)

-- the places of a run are those of its words
pub count-words : (ws : List ℕ) → Words ws → sum_by count ws ≡ count (number ws)
unfolding number count ones ones_in
count-words [] h = refl
count-words (w ∷ ws) h = omega (arith, sum_by-cons count w ws, count-words ws (λ i. h (suc i)), count_word w ws (h 0))

-- and fit 64 bits
pub count_fits : (ws : List ℕ) → Words ws → length ws ≤ max_words → sum_by count ws < 2 ^ 64
unfolding count
count_fits ws h l = omega (arith, count-words ws h, ones-le (word_bits * length ws) (number ws) (number_lt ws h))

-- words that are all 0
pub number-zeros : (n : ℕ) → number (replicate n 0) ≡ 0
unfolding number
number-zeros zero = refl
number-zeros (suc n) = omega (arith, number-zeros n)
