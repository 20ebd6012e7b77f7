-- Bytes put over others: how long the whole is, what is read from it, bytes put one after another, and a part with other bytes at its start put back.
use Rattle.std.specs.Prelude.{ℕ, ◌+◌, ◌-◌, ◌≤◌, ◌≡◌, List, ◌++◌, length, take, drop}
use Rattle.std.proofs.Common.{arith, sym, ap, ap₂, ◌∙◌, append_assoc, append-nil, length-append, length-drop, take-append-drop, drop_of_length-le, length-take-le, take_all, take_at, drop_at, drop-drop}
use Rattle.std.proofs.lemmas.List.{take-append-le, drop-append-le}
use Rattle.std.proofs.Math.Seq.{take-append_seam}
use Rattle.bytes_copy.specs.Overwritten.{overwritten}

-- a part that ends before the seam
pub slice-append : {A : Type 0} (p q : List A) (at n : ℕ) → at + n ≤ length p → take n (drop at (p ++ q)) ≡ take n (drop at p)
slice-append p q at n h =
    ap (take n) (drop-append-le at p q (omega arith)) ∙ take-append-le n (drop at p) q (omega (arith, length-drop at p))

module _ (s : List ℕ) (at : ℕ) (b : List ℕ) (fits : at + length b ≤ length s) where
  front : length (take at s) ≡ at
  front = length-take-le at s (omega arith)

  pub overwritten-length : length (overwritten s at b) ≡ length s
  overwritten-length =
      let rest = drop (at + length b) s in
      omega (arith, length-append (take at s) (b ++ rest), length-append b rest, length-drop (at + length b) s, front)

  -- they are read back, and what ends before them or begins after them is as it was
  pub overwritten-back : take (length b) (drop at (overwritten s at b)) ≡ b
  overwritten-back =
      let rest = drop (at + length b) s in ap (take (length b)) (drop_at (take at s) (b ++ rest) at front) ∙ take-append_seam b rest

  pub overwritten-before : (j n : ℕ) → j + n ≤ at → take n (drop j (overwritten s at b)) ≡ take n (drop j s)
  overwritten-before j n h =
      slice-append (take at s) (b ++ drop (at + length b) s) j n (omega (arith, front))
      ∙ sym (slice-append (take at s) (drop at s) j n (omega (arith, front)))
      ∙ ap (λ (r : List ℕ). take n (drop j r)) (take-append-drop at s)

  pub overwritten-after : (j : ℕ) → at + length b ≤ j → drop j (overwritten s at b) ≡ drop j s
  overwritten-after j l =
      let n = at + length b in
      let e : length (take at s ++ b) ≡ n = omega (arith, length-append (take at s) b, front) in
      let d = j - n in
      let q : j ≡ n + d = omega arith in
      let rest : drop n (overwritten s at b) ≡ drop n s =
      ap (drop n) (sym (append_assoc (take at s) b (drop n s))) ∙ drop_at (take at s ++ b) (drop n s) n e in
      ap (λ (k : ℕ). drop k (overwritten s at b)) q
      ∙ sym (drop-drop d n (overwritten s at b))
      ∙ ap (drop d) rest
      ∙ drop-drop d n s
      ∙ ap (λ (k : ℕ). drop k s) (sym q)

-- bytes put inside, and bytes put after them
pub overwritten-both : (p : List ℕ) (at : ℕ) (t t' : List ℕ) → at + length t ≤ length p → overwritten (overwritten p at t) (at + length t) t' ≡ overwritten p at (t ++ t')
overwritten-both p at t t' h =
    let n = at + length t in
    let w = take at p ++ t in
    let e : length w ≡ n = omega (arith, length-append (take at p) t, length-take-le at p (omega arith)) in
    let q : overwritten p at t ≡ w ++ drop n p = sym (append_assoc (take at p) t (drop n p)) in
    let k : n + length t' ≡ at + length (t ++ t') = omega (arith, length-append t t') in
    ap₂ (λ (a b : List ℕ). a ++ (t' ++ b))
    (ap (take n) q ∙ take_at w (drop n p) n e)
    (sym (drop-drop (length t') n (overwritten p at t)) ∙ ap (drop (length t')) (ap (drop n) q ∙ drop_at w (drop n p) n e) ∙ drop-drop (length t') n p)
    ∙ append_assoc (take at p) t (t' ++ drop (n + length t') p)
    ∙ ap (λ (r : List ℕ). take at p ++ r) (sym (append_assoc t t' (drop (n + length t') p)) ∙ ap (λ (m : ℕ). (t ++ t') ++ drop m p) k)

-- u put over the start of what is from byte at on, which is k bytes or fewer, and that put back
pub put_back :
    (s : List ℕ) (at k : ℕ) (u : List ℕ) {y : List ℕ} → length s - at ≤ k → y ≡ u ++ drop (length u) (take k (drop at s))
    → take at s ++ (y ++ drop k (drop at s)) ≡ overwritten s at u
put_back s at k u h e =
    let n : length (drop at s) ≤ k = omega (arith, length-drop at s) in
    ap (λ (x : List ℕ). take at s ++ x)
    (ap₂ (λ (x z : List ℕ). x ++ z) e (drop_of_length-le (drop at s) n)
    ∙ append-nil _
    ∙ ap (λ (x : List ℕ). u ++ drop (length u) x) (take_all k (drop at s) n)
    ∙ ap (λ (x : List ℕ). u ++ x) (drop-drop (length u) at s))
