-- The ascent of a run of ids, one pair after the other.
use Rattle.std.specs.Prelude.{ℕ, zero, suc, ◌+◌, ◌-◌, ◌*◌, ◌<◌, ◌≡◌, refl, List, Bool, true, false, cond, ◌&&◌, length, get_or}
use Rattle.std.specs.Bool.{MatchBool}
use Rattle.std.specs.List.{range_with_len, AllWithin, HoldsAt}
use Rattle.std.specs.Ordering.{is_lt}
use Rattle.std.proofs.Common.{Less, Equal, Greater, sym, ap, ap₂, ◌∙◌, arith}
use Rattle.std.proofs.lemmas.List.FromFn.{length-range_with_len, get_or-range_with_len}
use Rattle.bytes_order.specs.Order.{before, same, ascending}
use Rattle.bytes_order.specs.Compare.{order_of}
use Rattle.update_format.specs.Update.{id_length}
use Rattle.update_format.specs.Decode.{slice, ids_at}

-- Less is the answer where a comes before b, and nowhere else
pub lt_is_before : (a b : List ℕ) → is_lt (order_of a b) ≡ before a b
unfolding order_of
lt_is_before a b = go (before a b) (same a b)
  where
    go : (p q : Bool) → is_lt (cond p Less (cond q Equal Greater)) ≡ p
    go true q = refl
    go false true = refl
    go false false = refl

module _ (b : List ℕ) where
  -- the id at place k of the run that begins at byte n, and whether that at k comes before the next
  abbrev id : ℕ → ℕ → List ℕ
  id n k = slice b (n + id_length * k) id_length

  abbrev rises : ℕ → ℕ → Bool
  rises n k = before (id n k) (id n (k + 1))

  more : (n m : ℕ) → ascending (ids_at b n (suc (suc m))) ≡ rises n 0 && ascending (ids_at b (n + id_length) (suc m))
  unfolding ascending ids_at
  more n m =
      let e : n + id_length * 0 ≡ n = omega arith in
      rw e refl

  later : (n k : ℕ) → rises (n + id_length) k ≡ rises n (suc k)
  later n k =
      let e : n + id_length + id_length * k ≡ n + id_length * suc k = omega arith in
      let f : n + id_length + id_length * (k + 1) ≡ n + id_length * (suc k + 1) = omega arith in
      ap₂ (λ (i j : ℕ). before (slice b i id_length) (slice b j id_length)) e f

  none : (n : ℕ) → ascending (ids_at b n 0) ≡ true
  unfolding ascending ids_at
  none n = refl

  one : (n : ℕ) → ascending (ids_at b n 1) ≡ true
  unfolding ascending ids_at
  one n = refl

  -- where each pair rises the run ascends
  all_rise : (n m : ℕ) → ((k : ℕ) → k + 1 < m → rises n k ≡ true) → ascending (ids_at b n m) ≡ true
  all_rise n zero h = none n
  all_rise n (suc zero) h = one n
  all_rise n (suc (suc m)) h =
      more n m
      ∙ ap₂ ◌&&◌ (h 0 (omega arith)) (all_rise (n + id_length) (suc m) (λ k l. later n k ∙ h (suc k) (omega arith)))

  -- a pair that does not rise decides
  one_falls : (n m k : ℕ) → k + 1 < m → rises n k ≡ false → ascending (ids_at b n m) ≡ false
  one_falls n zero k l h = absurd (omega arith)
  one_falls n (suc zero) k l h = absurd (omega arith)
  one_falls n (suc (suc m)) zero l h = more n m ∙ ap (λ (t : Bool). t && ascending (ids_at b (n + id_length) (suc m))) h
  one_falls n (suc (suc m)) (suc k) l h =
      more n m ∙ ap (λ (t : Bool). rises n 0 && t) (one_falls (n + id_length) (suc m) k (omega arith) (later n k ∙ h)) ∙ no (rises n 0)
    where
      no : (t : Bool) → t && false ≡ false
      no true = refl
      no false = refl

  -- the answer of a walk over the places 1 to n, each asked whether its id comes after the one before it
  module _ (at n : ℕ) where
    abbrev pub above : ℕ → Bool
    above k = before (id at (k - 1)) (id at k)

    abbrev places : List ℕ
    places = range_with_len 1 (n - 1)

    at-place : (k : ℕ) → k + 1 < n → above (get_or places k 0) ≡ rises at k
    at-place k l =
        let e : get_or places k 0 ≡ 1 + k = get_or-range_with_len 1 (n - 1) k 0 (omega arith) in
        let f : 1 + k - 1 ≡ k = omega arith in
        let g : 1 + k ≡ k + 1 = omega arith in
        rw e (rw f (rw g refl))

    pub walked : (r : Bool) → MatchBool r (AllWithin (λ k. above k ≡ true) places 0 (length places)) ((k : ℕ) × (k < length places) × HoldsAt (λ k. above k ≡ false) places k) → r ≡ ascending (ids_at b at n)
    walked true h = sym (all_rise at n (λ k l. sym (at-place k l) ∙ h k 0 (omega arith) (omega (arith, length-range_with_len 1 (n - 1)))))
    walked false h =
        let l : h.0 + 1 < n = omega (arith, h.1, length-range_with_len 1 (n - 1)) in
        sym (one_falls at n h.0 l (sym (at-place h.0 l) ∙ h.2 0))
