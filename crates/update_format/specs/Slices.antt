-- Parts of a byte string, and the ids laid out in one.
use Rattle.std.specs.Prelude.{ℕ, zero, suc, ◌+◌, ◌*◌, ◌≤◌, ◌<◌, ◌≡◌, refl, List, [], ◌∷◌, ◌++◌, length, get_or, take, drop}
use Rattle.std.proofs.Common.{sym, ap, ap₂, subst, ◌∙◌, append_assoc, ⊎_elim, add-one, arith, length-append, take-append-drop, length-drop, length-take-le, take_all, drop-cons, drop-drop, take-add, take_at}
use mathlib.Core.List.Memᴰ
use Rattle.std.proofs.Math.Seq.{drop-append-add}
use Rattle.bytes_order.specs.Member.{◌∈◌, concat_map}
use Rattle.update_format.specs.Update.{id_length, Id}
use Rattle.update_format.specs.Decode.{slice, ids_at}

-- the ids one after the other
abbrev pub joined : List Id → List ℕ
joined is = concat_map (λ (i : Id). i) is

-- every id has 32 bytes
abbrev pub SizedIds : List Id → Type 0
SizedIds is = (i : Id) → i ∈ is → length i ≡ id_length

module _ (b : List ℕ) (at : ℕ) where
  pub slice-length : (k : ℕ) → at + k ≤ length b → length (slice b at k) ≡ k
  slice-length k h = length-take-le k (drop at b) (omega (arith, length-drop at b))

  -- two parts, one after the other
  pub slice-slice : (k m : ℕ) → slice b at k ++ slice b (at + k) m ≡ slice b at (k + m)
  slice-slice k m = sym (take-add k m (drop at b) ∙ ap (λ (r : List ℕ). slice b at k ++ take m r) (drop-drop k at b))

  -- a part and what follows it
  pub slice-rest : (k : ℕ) → slice b at k ++ drop (at + k) b ≡ drop at b
  slice-rest k = rw (← drop-drop k at b) (take-append-drop k (drop at b))

  -- a part that ends with the string
  pub slice_all : (k : ℕ) → length b ≡ at + k → slice b at k ≡ drop at b
  slice_all k h = take_all k (drop at b) (omega (arith, length-drop at b))

  -- a byte and what follows it
  pub byte-rest : at < length b → get_or b at 0 ∷ drop (at + 1) b ≡ drop at b
  byte-rest h = rw add-one (sym (drop-cons b at 0 h))

-- a part of what follows p
pub slice-shift : (p q : List ℕ) (at k : ℕ) → slice (p ++ q) (length p + at) k ≡ slice q at k
slice-shift p q at k = ap (λ (r : List ℕ). take k r) (drop-append-add p q at)

pub ids-length : (b : List ℕ) (at n : ℕ) → length (ids_at b at n) ≡ n
unfolding ids_at
ids-length b at zero = refl
ids-length b at (suc n) = ap suc (ids-length b (at + id_length) n)

-- the ids of a layout one after the other are the bytes that they were read from
pub ids-joined : (b : List ℕ) (at n : ℕ) → joined (ids_at b at n) ≡ slice b at (id_length * n)
unfolding ids_at concat_map
ids-joined b at zero = refl
ids-joined b at (suc n) =
    let e : id_length * suc n ≡ id_length + id_length * n = omega arith in
    rw e (ap (λ (r : List ℕ). slice b at id_length ++ r) (ids-joined b (at + id_length) n) ∙ slice-slice b at id_length (id_length * n))

pub ids_sized : (b : List ℕ) (at n : ℕ) → at + id_length * n ≤ length b → SizedIds (ids_at b at n)
unfolding ids_at
ids_sized b at zero h = λ i m. absurd (Memᴰ.not-nil m)
ids_sized b at (suc n) h = λ i m. ⊎_elim (λ e. ap length e ∙ slice-length b at id_length (omega arith)) (λ r. ids_sized b (at + id_length) n (omega arith) i r) (Memᴰ.cases_cons m)

-- the k-th id
pub ids-get : (b : List ℕ) (at n k : ℕ) → k < n → get_or (ids_at b at n) k [] ≡ slice b (at + id_length * k) id_length
unfolding ids_at
ids-get b at zero k h = absurd (omega arith)
ids-get b at (suc n) zero h =
    let e : at + id_length * 0 ≡ at = omega arith in
    rw e
ids-get b at (suc n) (suc k) h =
    let e : at + id_length * suc k ≡ at + id_length + id_length * k = omega arith in
    rw e (ids-get b (at + id_length) n k (omega arith))

-- the ids in what follows p
pub ids-shift : (p q : List ℕ) (at n : ℕ) → ids_at (p ++ q) (length p + at) n ≡ ids_at q at n
unfolding ids_at
ids-shift p q at zero = refl
ids-shift p q at (suc n) =
    let e : length p + at + id_length ≡ length p + (at + id_length) = omega arith in
    rw (slice-shift p q at id_length, e) (ap (λ (r : List Id). slice q at id_length ∷ r) (ids-shift p q (at + id_length) n))

pub joined_length : (is : List Id) → SizedIds is → length (joined is) ≡ id_length * length is
unfolding concat_map
joined_length [] h = refl
joined_length (x ∷ xs) h =
    let ih : length (joined xs) ≡ id_length * length xs = joined_length xs (λ i m. h i (Memᴰ.tail m)) in
    let e : length x ≡ id_length = h x (Memᴰ.head refl) in
    omega (arith, length-append x (joined xs))

-- what was laid out is read back
pub ids-back : (is : List Id) (q : List ℕ) → SizedIds is → ids_at (joined is ++ q) 0 (length is) ≡ is
unfolding ids_at concat_map
ids-back [] q h = refl
ids-back (x ∷ xs) q h =
    let e : length x ≡ id_length = h x (Memᴰ.head refl) in
    let k : id_length ≡ length x + 0 = omega arith in
    subst (λ (t : List ℕ). ids_at t 0 (suc (length xs)) ≡ x ∷ xs) (sym (append_assoc x (joined xs) q))
    (ap₂ (λ (i : Id) (r : List Id). i ∷ r)
    (take_at x (joined xs ++ q) id_length e)
    (ap (λ (n : ℕ). ids_at (x ++ (joined xs ++ q)) n (length xs)) k
    ∙ ids-shift x (joined xs ++ q) 0 (length xs)
    ∙ ids-back xs q (λ i m. h i (Memᴰ.tail m))))
