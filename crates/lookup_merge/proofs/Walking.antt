-- What holds at each turn of the walk's loop, and what each step keeps.
use Prim.Native.Nat.{ℕ, suc, ◌+◌, ◌≤◌, ◌<◌}
use mathlib.Core.Path.{◌≡◌, sym, ap, ◌∙◌}
use mathlib.Core.List.{List, [], ◌∷◌, ◌++◌, map}
use native.Mathlib.Omega.{arith}
use native.Mathlib.Numerals.{add-one}
use lib.ListN.{length, get_or, take, drop, set, length-set}
use lib.Seq.{take-suc-set, drop-set-lt, drop-drop}
use Rattle.bytes_order.specs.Compare.{order_of}
use Rattle.std.specs.declared.cmp.Ordering.TheVariants.{Less, Equal, Greater}
use Rattle.update_format.specs.Decode.{id_count, ids_in}
use Rattle.standing_bytes.specs.StandingByte.{unknown_byte}
use Rattle.lookup_merge.specs.Merge.{merge}
use Rattle.lookup_merge.specs.Layout.{stored_in}
use Rattle.lookup_merge.specs.Merging.{Walks}
use Rattle.lookup_merge.proofs.StepLaws.{after, left, stored_at, asked_at, stored-passed, both-passed, asked-passed, stored-ended, asked-ended}

-- i stored ids and j asked ones are passed, by n comparisons, and the buffer o, now o', has the answers so far
pub record Walking (ids bs a o : List ℕ) (i j n : ℕ) (o' : List ℕ) : Type 0 where
  pub stored_within : i ≤ length bs
  pub asked_within : j ≤ id_count a
  pub size_kept : length o' ≡ length o
  pub rest_kept : drop j o' ≡ drop j o
  pub few : n ≤ i + j
  pub walked : merge (stored_in ids bs) (ids_in a) ≡ after (take j o') n (left ids bs a i j)

-- the bytes after one more
drop_more : (o o' : List ℕ) (j : ℕ) → drop j o' ≡ drop j o → drop (suc j) o' ≡ drop (suc j) o
drop_more o o' j e =
    let f : (l : List ℕ) → drop (suc j) l ≡ drop 1 (drop j l) = λ l. ap (λ (n : ℕ). drop n l) (sym (add-one j)) ∙ sym (drop-drop 1 j l) in
    f o' ∙ ap (drop 1) e ∙ sym (f o)

module _ (ids bs a o : List ℕ) where
  module _ {i j n : ℕ} {o' : List ℕ} (w : Walking ids bs a o i j n o') where
    pub walking-stored : i < length bs → j < id_count a → order_of (stored_at ids bs a i) (asked_at ids bs a j) ≡ Less → Walking ids bs a o (i + 1) j (n + 1) o'
    walking-stored h k e =
        record {
          stored_within = omega arith;
          asked_within = w.asked_within;
          size_kept = w.size_kept;
          rest_kept = w.rest_kept;
          few = omega (arith, w.few);
          walked = w.walked ∙ stored-passed ids bs a i j h k (take j o') n e;
        }

    -- the asked id at index j is passed too, and answered by the byte b
    passed : (i' b : ℕ) → i' ≤ length bs → i ≤ i' → j < id_count a → id_count a ≤ length o
        → after (take j o') n (left ids bs a i j) ≡ after (take j o' ++ (b ∷ [])) (n + 1) (left ids bs a i' (j + 1))
        → Walking ids bs a o i' (j + 1) (n + 1) (set o' j b)
    passed i' b h g k room e =
        let t : take j o' ++ (b ∷ []) ≡ take (j + 1) (set o' j b) =
        sym (take-suc-set o' j b (omega (arith, w.size_kept))) ∙ ap (λ (m : ℕ). take m (set o' j b)) (sym (add-one j)) in
        let d : drop (j + 1) (set o' j b) ≡ drop (j + 1) o =
        drop-set-lt (j + 1) o' j b (omega arith) ∙ ap (λ (m : ℕ). drop m o') (add-one j) ∙ drop_more o o' j w.rest_kept ∙ ap (λ (m : ℕ). drop m o) (sym (add-one j)) in
        record {
          stored_within = h;
          asked_within = omega arith;
          size_kept = length-set o' j b ∙ w.size_kept;
          rest_kept = d;
          few = omega (arith, w.few);
          walked = w.walked ∙ e ∙ ap (λ (done : List ℕ). after done (n + 1) (left ids bs a i' (j + 1))) t;
        }

    pub walking-both : i < length bs → j < id_count a → id_count a ≤ length o → order_of (stored_at ids bs a i) (asked_at ids bs a j) ≡ Equal
        → Walking ids bs a o (i + 1) (j + 1) (n + 1) (set o' j (get_or bs i 0))
    walking-both h k room e = passed (i + 1) (get_or bs i 0) (omega arith) (omega arith) k room (both-passed ids bs a i j h k (take j o') n e)

    pub walking-asked : i < length bs → j < id_count a → id_count a ≤ length o → order_of (stored_at ids bs a i) (asked_at ids bs a j) ≡ Greater
        → Walking ids bs a o i (j + 1) (n + 1) (set o' j unknown_byte)
    walking-asked h k room e = passed i unknown_byte w.stored_within (omega arith) k room (asked-passed ids bs a i j h k (take j o') n e)

    walks : merge (stored_in ids bs) (ids_in a) ≡ record { answers = take j o' ++ map (λ i. unknown_byte) (drop j (ids_in a)); comparisons = n }
        → Walks (stored_in ids bs) a o j n o'
    walks e = record { passed_within = w.asked_within; size_kept = w.size_kept; rest_kept = w.rest_kept; walked = e }

    pub walks-stored : length bs ≤ i → Walks (stored_in ids bs) a o j n o'
    walks-stored h = walks (w.walked ∙ stored-ended ids bs a i j n (take j o') h)

    pub walks-asked : id_count a ≤ j → Walks (stored_in ids bs) a o j n o'
    walks-asked h = walks (w.walked ∙ asked-ended ids bs a i j n (take j o') h)
