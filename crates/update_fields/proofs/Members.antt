-- Whether an id is among the ids of a run, one after the other.
use Rattle.std.specs.Prelude.{ℕ, zero, suc, ◌+◌, ◌-◌, ◌*◌, ◌<◌, ◌≡◌, refl, List, Bool, true, false, ◌||◌, length, get_or}
use Rattle.std.specs.Bool.{MatchBool}
use Rattle.std.specs.List.{range_with_len, AllWithin, HoldsAt}
use Rattle.std.proofs.Common.{sym, ap, ap₂, ◌∙◌, arith}
use Rattle.std.proofs.lemmas.List.FromFn.{length-range_with_len, get_or-range_with_len}
use Rattle.bytes_order.specs.Order.{same}
use Rattle.bytes_order.specs.Member.{member}
use Rattle.update_format.specs.Update.{Id, id_length}
use Rattle.update_format.specs.Decode.{slice, ids_at}

module _ (b : List ℕ) (x : Id) where
  -- whether x is the id at place k of the run that begins at byte n
  abbrev pub is_id : ℕ → ℕ → Bool
  is_id n k = same x (slice b (n + id_length * k) id_length)

  none : (n : ℕ) → member x (ids_at b n 0) ≡ false
  unfolding member ids_at
  none n = refl

  more : (n m : ℕ) → member x (ids_at b n (suc m)) ≡ is_id n 0 || member x (ids_at b (n + id_length) m)
  unfolding member ids_at
  more n m =
      let e : n + id_length * 0 ≡ n = omega arith in
      rw e refl

  later : (n k : ℕ) → is_id (n + id_length) k ≡ is_id n (suc k)
  later n k =
      let e : n + id_length + id_length * k ≡ n + id_length * suc k = omega arith in
      rw e refl

  -- it is none of the ids, or one of them
  no_id : (n m : ℕ) → ((k : ℕ) → k < m → is_id n k ≡ false) → member x (ids_at b n m) ≡ false
  no_id n zero h = none n
  no_id n (suc m) h =
      more n m ∙ ap₂ ◌||◌ (h 0 (omega arith)) (no_id (n + id_length) m (λ k l. later n k ∙ h (suc k) (omega arith)))

  one_id : (n m k : ℕ) → k < m → is_id n k ≡ true → member x (ids_at b n m) ≡ true
  one_id n zero k l h = absurd (omega arith)
  one_id n (suc m) zero l h = more n m ∙ ap (λ (t : Bool). t || member x (ids_at b (n + id_length) m)) h
  one_id n (suc m) (suc k) l h =
      more n m ∙ ap (λ (t : Bool). is_id n 0 || t) (one_id (n + id_length) m k (omega arith) (later n k ∙ h)) ∙ or (is_id n 0)
    where
      or : (t : Bool) → t || true ≡ true
      or true = refl
      or false = refl

  -- the answer of a walk over the places of the run, each asked whether its id is x
  module _ (at n : ℕ) where
    abbrev places : List ℕ
    places = range_with_len 0 n

    at-place : (k : ℕ) → k < n → is_id at (get_or places k 0) ≡ is_id at k
    at-place k l = ap (is_id at) (get_or-range_with_len 0 n k 0 l ∙ omega arith)

    pub walked : (r : Bool) → MatchBool r ((k : ℕ) × (k < length places) × HoldsAt (λ k. is_id at k ≡ true) places k) (AllWithin (λ k. is_id at k ≡ false) places 0 (length places)) → r ≡ member x (ids_at b at n)
    walked true h =
        let l : h.0 < n = omega (arith, h.1, length-range_with_len 0 n) in
        sym (one_id at n h.0 l (sym (at-place h.0 l) ∙ h.2 0))
    walked false h = sym (no_id at n (λ k l. sym (at-place k l) ∙ h k 0 (omega arith) (omega (arith, length-range_with_len 0 n))))
