-- A set of places as a run of words, the lowest places first: place k is bit k % 64 of word k / 64. As one long number a run is a set of `bitset`, whose definitions and laws speak of it.
use Rattle.std.specs.Prelude.{ℕ, zero, suc, ◌+◌, ◌-◌, ◌*◌, ◌/◌, ◌%◌, ◌^◌, ◌≤◌, ◌≡◌, ◌⊎◌, List, [], ◌∷◌, length, get_or, set, take, drop}
use Rattle.bitset.specs.Bits.{word_bits, including, join}
use Rattle.bytes_copy.specs.Overwritten.{overwritten}
-- each is a word
pub use Rattle.bytes_words.specs.Words.{Words}

-- the set that the words are: bit k for place k
unfoldable pub number : List ℕ → ℕ
number [] = 0
number (w ∷ ws) = number ws * 2 ^ word_bits + w

-- how many places a run has room for
abbrev pub room : List ℕ → ℕ
room ws = word_bits * length ws

-- the most words whose places can be counted: with one more the count of a full run would not fit 64 bits
abbrev pub max_words : ℕ
max_words = 2 ^ 64 / word_bits - 1

-- how many words n places need
abbrev pub words_for : ℕ → ℕ
words_for n = (n + (word_bits - 1)) / word_bits

-- the lowest n words of a set
unfoldable pub run_of : ℕ → ℕ → List ℕ
run_of zero w = []
run_of (suc n) w = w % 2 ^ word_bits ∷ run_of n (w / 2 ^ word_bits)

-- the run with place k, in its word
unfoldable pub include_word : List ℕ → ℕ → List ℕ
include_word ws k = set ws (k / word_bits) (including (get_or ws (k / word_bits) 0) (k % word_bits))

-- what is in either, word by word; as long as the first
unfoldable pub join_words : List ℕ → List ℕ → List ℕ
join_words [] vs = []
join_words (w ∷ ws) [] = w ∷ ws
join_words (w ∷ ws) (v ∷ vs) = join w v ∷ join_words ws vs

-- two runs of n words of one slice, the first to be joined by the second: word after word, none is written before it is read
pub record Rows (s : List ℕ) (to from n : ℕ) : Type 0 where
  pub target : to + n ≤ length s
  pub source : from + n ≤ length s
  pub unwritten : (from + n ≤ to) ⊎ (to ≤ from)

-- the run of n words at word `to` has what it had and what the run at word `from` had; no other word is changed
pub record JoinsRows (s : List ℕ) (to from n : ℕ) (s' : List ℕ) : Type 0 where
  pub joined : number (take n (drop to s')) ≡ join (number (take n (drop to s))) (number (take n (drop from s)))
  pub others : s' ≡ overwritten s to (take n (drop to s'))
