-- Runs of words worked out by hand and computed from the definitions.
use Rattle.std.specs.Prelude.{ℕ, ◌+◌, ◌≡◌, refl, [], ◌∷◌, map, true, false}
use Rattle.std.proofs.Common.{arith, ◌∙◌, ap}
use Rattle.std.specs.Int.Count.{ones, ones_in}
use Rattle.bitset.specs.Bits.{has, including, join, within, count}
use Rattle.bitset_words.specs.Run.{number, words_for, run_of, include_word, join_words}
use Rattle.bitset_words.proofs.RunLaws.{number-one, count_word}

-- the words 5 and 1 are the places 0, 2 and 64: 1 + 4 + 2 ^ 64
pub five-one : number (5 ∷ 1 ∷ []) ≡ 18446744073709551621
unfolding number
five-one = refl

pub five-one-has : map (has (number (5 ∷ 1 ∷ []))) (0 ∷ 1 ∷ 2 ∷ 3 ∷ 63 ∷ 64 ∷ 65 ∷ 66 ∷ 128 ∷ []) ≡ true ∷ false ∷ true ∷ false ∷ false ∷ true ∷ false ∷ false ∷ false ∷ []
unfolding number has
five-one-has = refl

pub five-one-count : count (number (5 ∷ 1 ∷ [])) ≡ 3
unfolding count ones ones_in
five-one-count = count_word 5 (1 ∷ []) (omega arith) ∙ ap (λ (w : ℕ). count w + count 5) (number-one 1)

-- its last place is 64
pub five-one-within : map (within (number (5 ∷ 1 ∷ []))) (3 ∷ 64 ∷ 65 ∷ 128 ∷ []) ≡ false ∷ false ∷ true ∷ true ∷ []
unfolding number within
five-one-within = refl

-- the words 0, 0 and 2 are place 129
pub third-word : map (has (number (0 ∷ 0 ∷ 2 ∷ []))) (1 ∷ 65 ∷ 128 ∷ 129 ∷ 130 ∷ []) ≡ false ∷ false ∷ false ∷ true ∷ false ∷ []
unfolding number has
third-word = refl

-- place 63 is the last of the first word, and place 64 the first of the second
pub include-63 : include_word (0 ∷ 4 ∷ []) 63 ≡ 9223372036854775808 ∷ 4 ∷ []
unfolding include_word including
include-63 = refl

pub include-64 : include_word (0 ∷ 4 ∷ []) 64 ≡ 0 ∷ 5 ∷ []
unfolding include_word including
include-64 = refl

-- joined word by word; a shorter run has nothing in the words that it lacks
pub join-two : join_words (5 ∷ 1 ∷ []) (2 ∷ 3 ∷ []) ≡ 7 ∷ 3 ∷ []
unfolding join_words join
join-two = refl

pub join-shorter : join_words (5 ∷ 1 ∷ []) (2 ∷ []) ≡ 7 ∷ 1 ∷ []
unfolding join_words join
join-shorter = refl

-- 64 places need one word, 65 two, and 1,024 sixteen
pub words-needed : map words_for (0 ∷ 1 ∷ 64 ∷ 65 ∷ 128 ∷ 1024 ∷ []) ≡ 0 ∷ 1 ∷ 1 ∷ 2 ∷ 2 ∷ 16 ∷ []
words-needed = refl

pub two-words : run_of 2 18446744073709551621 ≡ 5 ∷ 1 ∷ []
unfolding run_of
two-words = refl
