-- Loops that write joined words over a run, one after the other: the first i are written, the others are as they were.
use Prim.Native.Nat.{ℕ, zero, suc, ◌+◌, ◌-◌, ◌^◌, ◌≤◌, ◌<◌}
use native.Mathlib.Omega.{arith}
use native.Mathlib.Nat.{zero-add}
use native.Mathlib.Numerals.{add-one}
use mathlib.Core.Path.{◌≡◌, refl, sym, ◌∙◌, ap, ap₂, subst}
use mathlib.Core.Logic.{◌⊎◌, inl, inr, ⊎_elim}
use mathlib.Core.List.{List, [], ◌∷◌, ◌++◌, append_assoc}
use lib.ListN.{length, get_or, set, take, drop, length-drop, get_or-append}
use lib.Pow.{pow_pos}
use lib.Seq.{paste, paste-suc, length_paste_head, take_all, length-take-le, get_or-take, get_or-drop, get_or-append-add}
use Rattle.bytes_copy.specs.Overwritten.{overwritten}
use Rattle.bytes_copy.specs.OverwrittenLaws.{overwritten-back}
use Rattle.bitset.specs.Bits.{word_bits, join}
use Rattle.bitset_words.specs.Run.{number, Words, join_words, Rows, JoinsRows}
use Rattle.bitset_words.proofs.RunLaws.{length-join_words, get_or-join_words, number-join}

-- the words b written over s from word at on, the first i of them
module _ (s : List ℕ) (at : ℕ) (b : List ℕ) (fits : at + length b ≤ length s) where
  write-next : (i : ℕ) → i < length b → set (paste s at b i) (at + i) (get_or b i 0) ≡ paste s at b (i + 1)
  write-next i l = paste-suc s at b i 0 (omega arith) l ∙ ap (paste s at b) (sym (add-one i))

  write-all : paste s at b (length b) ≡ overwritten s at b
  write-all =
      append_assoc (take at s) (take (length b) b) (drop (at + length b) s)
      ∙ ap (λ (r : List ℕ). take at s ++ (r ++ drop (at + length b) s)) (take_all (length b) b (omega arith))

  -- a word before them, or from the next one on, is as it was
  unchanged : (i : ℕ) → i ≤ length b → (j : ℕ) → (j < at) ⊎ (at + i ≤ j) → get_or (paste s at b i) j 0 ≡ get_or s j 0
  unchanged i l j = ⊎_elim before after
    where
      written : length (take at s ++ take i b) ≡ at + i
      written = length_paste_head s at b i (omega arith) l

      before : j < at → get_or (paste s at b i) j 0 ≡ get_or s j 0
      before g =
          ap (λ (r : List ℕ). get_or r j 0) (append_assoc (take at s) (take i b) (drop (at + i) s))
          ∙ get_or-append (take at s) (take i b ++ drop (at + i) s) 0 j (omega (arith, length-take-le at s (omega arith)))
          ∙ get_or-take at s j 0 g

      after : at + i ≤ j → get_or (paste s at b i) j 0 ≡ get_or s j 0
      after g =
          let d = j - (at + i) in
          let e : j ≡ length (take at s ++ take i b) + d = omega (arith, written) in
          let q : at + i + d ≡ j = omega arith in
          ap (λ (m : ℕ). get_or (paste s at b i) m 0) e
          ∙ get_or-append-add (take at s ++ take i b) (drop (at + i) s) d 0
          ∙ get_or-drop (at + i) s d 0
          ∙ ap (λ (m : ℕ). get_or s m 0) q

-- s with its first i words joined by those of t
abbrev pub joined_to : List ℕ → List ℕ → ℕ → List ℕ
joined_to s t i = paste s 0 (join_words s t) i

module _ (s t : List ℕ) (fits : length t ≤ length s) where
  pub join-next : (i : ℕ) → i < length t → {s' : List ℕ} → s' ≡ joined_to s t i
      → {w : ℕ} → w ≡ join (get_or s' i 0) (get_or t i 0) → set s' i w ≡ joined_to s t (i + 1)
  join-next i l {s'} q {w} e =
      let long : length (join_words s t) ≡ length s = length-join_words s t in
      let room : 0 + length (join_words s t) ≤ length s = omega arith in
      let word : w ≡ get_or (join_words s t) i 0 =
      e ∙ ap (λ (r : List ℕ). join (get_or r i 0) (get_or t i 0)) q
      ∙ ap (λ (x : ℕ). join x (get_or t i 0)) (unchanged s 0 (join_words s t) room i (omega arith) i (inr (omega arith)))
      ∙ sym (get_or-join_words s t i (omega arith) l) in
      ap₂ (λ (r : List ℕ) (x : ℕ). set r i x) q word
      ∙ ap (λ (k : ℕ). set (joined_to s t i) k (get_or (join_words s t) i 0)) (sym (zero-add i))
      ∙ write-next s 0 (join_words s t) room i (omega arith)

-- with each word of t, that is the two joined
pub join-all : (s t : List ℕ) → length t ≤ length s → joined_to s t (length t) ≡ join_words s t
unfolding join_words
join-all s t h = ap (λ (n : ℕ). take (length t) (join_words s t) ++ drop n s) (zero-add (length t)) ∙ go s t h
  where
    go : (ws vs : List ℕ) → length vs ≤ length ws → take (length vs) (join_words ws vs) ++ drop (length vs) ws ≡ join_words ws vs
    go [] [] h = refl
    go [] (v ∷ vs) h = absurd (omega arith)
    go (w ∷ ws) [] h = refl
    go (w ∷ ws) (v ∷ vs) h = ap (λ (r : List ℕ). join w v ∷ r) (go ws vs (omega arith))

-- the words of two runs of s joined
abbrev pub rows_joined : List ℕ → ℕ → ℕ → ℕ → List ℕ
rows_joined s to from n = join_words (take n (drop to s)) (take n (drop from s))

-- a part of words is words
words_take : (n : ℕ) (ws : List ℕ) → Words ws → Words (take n ws)
words_take zero ws h i = pow_pos word_bits
words_take (suc n) [] h i = pow_pos word_bits
words_take (suc n) (w ∷ ws) h zero = h 0
words_take (suc n) (w ∷ ws) h (suc i) = words_take n ws (λ j. h (suc j)) i

words-part : (s : List ℕ) (at n : ℕ) → Words s → Words (take n (drop at s))
words-part s at n h = words_take n (drop at s) (λ i. subst (λ (w : ℕ). w < 2 ^ word_bits) (sym (get_or-drop at s i 0)) (h (at + i)))

module _ (s : List ℕ) (to from n : ℕ) (rows : Rows s to from n) where
  target-length : length (take n (drop to s)) ≡ n
  target-length = length-take-le n (drop to s) (omega (arith, length-drop to s, rows.target))

  source-length : length (take n (drop from s)) ≡ n
  source-length = length-take-le n (drop from s) (omega (arith, length-drop from s, rows.source))

  joined_length : length (rows_joined s to from n) ≡ n
  joined_length = length-join_words (take n (drop to s)) (take n (drop from s)) ∙ target-length

  fits : to + length (rows_joined s to from n) ≤ length s
  fits = omega (arith, joined_length, rows.target)

  -- of word i
  joined_word : (i : ℕ) → i < n → get_or (rows_joined s to from n) i 0 ≡ join (get_or s (to + i) 0) (get_or s (from + i) 0)
  joined_word i l =
      get_or-join_words (take n (drop to s)) (take n (drop from s)) i (omega (arith, target-length)) (omega (arith, source-length))
      ∙ ap₂ join (get_or-take n (drop to s) i 0 l ∙ get_or-drop to s i 0) (get_or-take n (drop from s) i 0 l ∙ get_or-drop from s i 0)

  -- the word that is read is not written yet
  unread : (i : ℕ) → i < n → (from + i < to) ⊎ (to + i ≤ from + i)
  unread i l = elim rows.unwritten [ inl h ↦ inl (omega arith) | inr h ↦ inr (omega arith) ]

  pub rows_next : (i : ℕ) → i < n → {s' : List ℕ} → s' ≡ paste s to (rows_joined s to from n) i
      → {w : ℕ} → w ≡ join (get_or s' (to + i) 0) (get_or s' (from + i) 0) → set s' (to + i) w ≡ paste s to (rows_joined s to from n) (i + 1)
  rows_next i l {s'} q {w} e =
      let as_it_was = unchanged s to (rows_joined s to from n) fits i (omega (arith, joined_length)) in
      let word : w ≡ get_or (rows_joined s to from n) i 0 =
      e ∙ ap (λ (r : List ℕ). join (get_or r (to + i) 0) (get_or r (from + i) 0)) q
      ∙ ap₂ join (as_it_was (to + i) (inr (omega arith)))
      (as_it_was (from + i) (unread i l))
      ∙ sym (joined_word i l) in
      ap₂ (λ (r : List ℕ) (x : ℕ). set r (to + i) x) q word
      ∙ write-next s to (rows_joined s to from n) fits i (omega (arith, joined_length))

  -- with n words
  pub rows_all : Words s → {s' : List ℕ} → s' ≡ paste s to (rows_joined s to from n) n → JoinsRows s to from n s'
  rows_all h {s'} q =
      let b = rows_joined s to from n in
      let whole : s' ≡ overwritten s to b = q ∙ ap (paste s to b) (sym joined_length) ∙ write-all s to b fits in
      let back : take n (drop to s') ≡ b =
      ap (λ (m : ℕ). take m (drop to s')) (sym joined_length) ∙ ap (λ (r : List ℕ). take (length b) (drop to r)) whole ∙ overwritten-back s to b fits in
      record {
        joined =
            ap number back
            ∙ number-join (take n (drop to s)) (take n (drop from s)) (words-part s to n h) (words-part s from n h) (omega (arith, target-length, source-length));
        others = whole ∙ ap (overwritten s to) (sym back);
      }
