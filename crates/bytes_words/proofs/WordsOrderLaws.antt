-- Words stand to each other as their bytes do.
use Rattle.std.specs.Prelude.{ℕ, suc, ◌+◌, ◌*◌, ◌^◌, ◌<◌, ◌≡◌, refl, List, [], ◌∷◌, Bool, true, false, cond, ◌&&◌, length, get_or, eqb, ltb, nat_eq}
use Rattle.std.specs.Cmp.Lexicographic.{slice_cmp, pointwise}
use Rattle.std.specs.Ordering.{nat_cmp}
use Rattle.std.proofs.Common.{Fits, w64, arith, sym, ◌∙◌, ap, ap₂, ⊎_elim, ltb-true, eqb-true}
use Rattle.std.proofs.lemmas.Bool.{false≢true}
use Rattle.std.proofs.Math.Arith.{digits_lt}
use Rattle.bytes_order.specs.BoolLaws.{or-true→, and-true→, test-ext}
use Rattle.bytes_order.specs.Order.{before, same}
use Rattle.bytes_order.specs.OrderLaws.{same_refl, same→eq, eq→same, ne→same-false, before-less, before-irrefl, before-asym, before→ne, trichotomy}
use Rattle.bytes_order.specs.Compare.{order_of, then_by}
use Rattle.bytes_order.specs.CompareLaws.{order-append, cmp_is_order, eq_is_same}
use Rattle.bytes_order.specs.Member.{concat_map}
use Rattle.std.specs.declared.cmp.Ordering.{Ordering}
use Rattle.std.specs.declared.cmp.Ordering.TheVariants.{Less, Equal, Greater}
use Rattle.bytes_words.specs.Words.{Bytes, Words, bytes_in, big_of, bytes_of, packed}
use Rattle.bytes_words.proofs.WordsLaws.{length-bytes_in, bytes-bytes_in, big_of-lt, big-bytes_in, bytes_of-injective, words-packed, bytes_of-packed}

-- what each answer says
pub before→Less : (a b : List ℕ) → before a b ≡ true → order_of a b ≡ Less
unfolding order_of
before→Less a b h = rw h

pub eq→Equal : (a b : List ℕ) → a ≡ b → order_of a b ≡ Equal
unfolding order_of
eq→Equal a b e = rw (e, before-irrefl b, same_refl b)

pub after→Greater : (a b : List ℕ) → before b a ≡ true → order_of a b ≡ Greater
unfolding order_of
after→Greater a b h = rw (before-asym b a h, ne→same-false a b (λ e. before→ne b a h (sym e)))

pub Equal→eq : (a b : List ℕ) → order_of a b ≡ Equal → a ≡ b
Equal→eq a b h =
    ⊎_elim
    (λ (l : before a b ≡ true). absurd (let z : ◌≡◌ {A = ℕ} 0 1 = cc (before→Less a b l) in omega arith))
    (⊎_elim (λ (e : a ≡ b). e) (λ (l : before b a ≡ true). absurd (let z : ◌≡◌ {A = ℕ} 0 1 = cc (after→Greater a b l) in omega arith)))
    (trichotomy a b)

-- of two byte strings of one length the one that comes before is the smaller number
pub big-less : (a b : List ℕ) → Bytes a → length a ≡ length b → before a b ≡ true → big_of a < big_of b
unfolding before big_of
big-less [] [] h n e = absurd (false≢true e)
big-less [] (y ∷ b) h n e = absurd (omega arith)
big-less (x ∷ a) [] h n e = absurd (false≢true e)
big-less (x ∷ a) (y ∷ b) h n e =
    let m : length a ≡ length b = omega arith in
    rw (← m)
    (⊎_elim
    (λ (l : ltb x y ≡ true).
    let d : x * 2 ^ (8 * length a) + big_of a < y * 2 ^ (8 * length a) = digits_lt (ltb-true x y l) (big_of-lt a (λ i. h (suc i))) in
    omega arith)
    (λ (l : (eqb x y && before a b) ≡ true).
    let k = and-true→ (eqb x y) (before a b) l in
    let r : big_of a < big_of b = big-less a b (λ i. h (suc i)) m k.1 in
    rw (eqb-true x y k.0) (omega arith))
    (or-true→ (ltb x y) (eqb x y && before a b) e))

-- so they stand to each other as their numbers do
pub order-big : (a b : List ℕ) → Bytes a → Bytes b → length a ≡ length b → order_of a b ≡ order_of (big_of a ∷ []) (big_of b ∷ [])
order-big a b h g n =
    ⊎_elim
    (λ (l : before a b ≡ true). before→Less a b l ∙ sym (before→Less (big_of a ∷ []) (big_of b ∷ []) (before-less [] [] (big-less a b h n l))))
    (⊎_elim
    (λ (e : a ≡ b). eq→Equal a b e ∙ sym (eq→Equal (big_of a ∷ []) (big_of b ∷ []) (ap (λ (c : List ℕ). big_of c ∷ []) e)))
    (λ (l : before b a ≡ true). after→Greater a b l ∙ sym (after→Greater (big_of a ∷ []) (big_of b ∷ []) (before-less [] [] (big-less b a g (sym n) l)))))
    (trichotomy a b)

order-word : {u v : ℕ} → u < 2 ^ 64 → v < 2 ^ 64 → order_of (bytes_in 8 u) (bytes_in 8 v) ≡ order_of (u ∷ []) (v ∷ [])
order-word {u} {v} h g =
    order-big (bytes_in 8 u) (bytes_in 8 v) (bytes-bytes_in 8 u) (bytes-bytes_in 8 v) (length-bytes_in 8 u ∙ sym (length-bytes_in 8 v))
    ∙ ap₂ (λ (m n : ℕ). order_of (m ∷ []) (n ∷ [])) (big-bytes_in 8 h) (big-bytes_in 8 g)

-- the bytes of words stand to each other as the words do, from the first
pub order-words : (us vs : List ℕ) → Words us → Words vs → order_of (bytes_of us) (bytes_of vs) ≡ order_of us vs
unfolding concat_map bytes_in order_of before same
order-words [] [] h g = refl
order-words [] (v ∷ vs) h g = refl
order-words (u ∷ us) [] h g = refl
order-words (u ∷ us) (v ∷ vs) h g =
    order-append (bytes_in 8 u) (bytes_in 8 v) (bytes_of us) (bytes_of vs) (length-bytes_in 8 u ∙ sym (length-bytes_in 8 v))
    ∙ ap₂ then_by (order-word (h 0) (g 0)) (order-words us vs (λ i. h (suc i)) (λ i. g (suc i)))
    ∙ sym (order-append (u ∷ []) (v ∷ []) us vs refl)

pub same-words : (us vs : List ℕ) → Words us → Words vs → same (bytes_of us) (bytes_of vs) ≡ same us vs
same-words us vs h g =
    test-ext (same (bytes_of us) (bytes_of vs)) (same us vs)
    (λ t. eq→same us vs (bytes_of-injective us vs h g (same→eq (bytes_of us) (bytes_of vs) t)))
    (λ t. eq→same (bytes_of us) (bytes_of vs) (ap bytes_of (same→eq us vs t)))

is_less : Ordering → Bool
is_less Less = true
is_less Equal = false
is_less Greater = false

less-before : (a b : List ℕ) → is_less (order_of a b) ≡ before a b
unfolding order_of is_less
less-before a b = step (before a b) (same a b)
  where
    step : (p q : Bool) → is_less (cond p Less (cond q Equal Greater)) ≡ p
    step true q = refl
    step false true = refl
    step false false = refl

pub before-words : (us vs : List ℕ) → Words us → Words vs → before (bytes_of us) (bytes_of vs) ≡ before us vs
before-words us vs h g = sym (less-before (bytes_of us) (bytes_of vs)) ∙ ap is_less (order-words us vs h g) ∙ less-before us vs

-- byte strings of n words' length stand to each other as their words do
module _ (n : ℕ) (a b : List ℕ) (h : Bytes a) (g : Bytes b) (l : length a ≡ 8 * n) (m : length b ≡ 8 * n) where
  pub order-packed : order_of (packed n a) (packed n b) ≡ order_of a b
  order-packed =
      sym (order-words (packed n a) (packed n b) (words-packed n a h) (words-packed n b g))
      ∙ ap₂ order_of (bytes_of-packed n a h l) (bytes_of-packed n b g m)

  pub same-packed : same (packed n a) (packed n b) ≡ same a b
  same-packed =
      sym (same-words (packed n a) (packed n b) (words-packed n a h) (words-packed n b g))
      ∙ ap₂ same (bytes_of-packed n a h l) (bytes_of-packed n b g m)

-- what `cmp` and `==` of words are, of their bytes
module _ (us vs : List ℕ) (h : (k : ℕ) → Fits w64 (get_or us k 0)) (g : (k : ℕ) → Fits w64 (get_or vs k 0)) where
  pub cmp_is_order_of_bytes : slice_cmp nat_cmp us vs ≡ order_of (bytes_of us) (bytes_of vs)
  cmp_is_order_of_bytes = cmp_is_order us vs ∙ sym (order-words us vs (λ k. (h k).fits) (λ k. (g k).fits))

  pub eq_is_same_bytes : pointwise nat_eq us vs ≡ same (bytes_of us) (bytes_of vs)
  eq_is_same_bytes = eq_is_same us vs ∙ sym (same-words us vs (λ k. (h k).fits) (λ k. (g k).fits))
