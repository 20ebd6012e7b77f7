-- A run of ids, met one after the other: what is left of it from the k-th on.
use Rattle.std.proofs.Common.{◌≡◌, refl, ℕ, zero, suc, ◌+◌, ◌*◌, ◌≤◌, ◌<◌, List, [], ◌∷◌, Bool, ◌&&◌, drop, drop-cons, sym, ap, ap₂, ◌∙◌, add-one, arith}
use Rattle.std.specs.List.{list_all, range_with_len}
use lib.ListN.{drop_of_length-le}
use Rattle.bytes_order.specs.Member.{all}
use Rattle.update_format.specs.Update.{Id, id_length}
use Rattle.update_format.specs.Decode.{slice, ids_at}
use Rattle.update_format.specs.Slices.{ids-length, ids-get}
use Rattle.ledger_judging.specs.declared.Gathered.{Gathered}
use Rattle.ledger_state.specs.State.{Book, find_in}
use Rattle.ledger_judging.specs.Judge.{gather_at, gather}

module _ (b : List ℕ) (at n k : ℕ) where
  abbrev left : List Id
  left = drop k (ids_at b at n)

  next : k < n → left ≡ slice b (at + id_length * k) id_length ∷ drop (k + 1) (ids_at b at n)
  next h =
      drop-cons (ids_at b at n) k [] (rw (ids-length b at n) h)
      ∙ ap₂ ◌∷◌ (ids-get b at n k h) (ap (λ (m : ℕ). drop m (ids_at b at n)) (sym (add-one k)))

  ended : n ≤ k → left ≡ []
  ended h = drop_of_length-le (ids_at b at n) {i = k} (rw (ids-length b at n) h)

  -- gathering from the k-th predecessor on
  module _ (l : Book) (g : Gathered) where
    pub gather_next : k < n
        → gather l g (drop k (ids_at b at n)) ≡ gather l (gather_at l g (find_in l (slice b (at + id_length * k) id_length))) (drop (k + 1) (ids_at b at n))
    unfolding gather
    gather_next h = ap (gather l g) (next h)

    pub gather_ended : n ≤ k → gather l g (drop k (ids_at b at n)) ≡ g
    unfolding gather
    gather_ended h = ap (gather l g) (ended h)

-- a test of each id of a run, by its index
module _ (b : List ℕ) (at : ℕ) (p : Id → Bool) where
  abbrev pub test_at : ℕ → Bool
  test_at k = p (slice b (at + id_length * k) id_length)

  from : (k n : ℕ) → list_all test_at (range_with_len k n) ≡ all p (ids_at b (at + id_length * k) n)
  unfolding all ids_at
  from k zero = refl
  from k (suc n) = ap (λ (t : Bool). test_at k && t) (from (k + 1) n ∙ ap (λ (a : ℕ). all p (ids_at b a n)) (omega arith))

  pub all_ids : (n : ℕ) → list_all test_at (range_with_len 0 n) ≡ all p (ids_at b at n)
  all_ids n = from 0 n ∙ ap (λ (a : ℕ). all p (ids_at b a n)) (omega arith)
