-- The walk, and the asked ids that are left filled in: what the merge yields.
use Prim.Native.Nat.{ℕ, ◌+◌, ◌-◌}
use mathlib.Core.Path.{◌≡◌, refl, sym, ap, ap₂, ◌∙◌}
use mathlib.Core.List.{List, [], ◌∷◌, ◌++◌, map, append_assoc}
use native.Mathlib.Omega.{arith}
use lib.ListN.{length, take, drop, replicate, length-replicate, length-drop}
use lib.Seq.{drop-drop}
use Rattle.bytes_copy.specs.Overwritten.{overwritten}
use Rattle.update_format.specs.Update.{Id}
use Rattle.update_format.specs.Decode.{id_count, ids_in}
use Rattle.update_format.specs.Slices.{ids-length}
use Rattle.standing_bytes.specs.StandingByte.{unknown_byte}
use Rattle.lookup_merge.specs.Merge.{Stored, Merged, merge}
use Rattle.lookup_merge.specs.Merging.{Walks, Merges}
use Rattle.lookup_merge.proofs.LookupLaws.{answers-length}

map-constant : (b : ℕ) (is : List Id) → map (λ (i : Id). b) is ≡ replicate (length is) b
map-constant b [] = refl
map-constant b (i ∷ is) = ap (λ (bs : List ℕ). b ∷ bs) (map-constant b is)

module _ (xs : List Stored) (a o : List ℕ) {j n : ℕ} {o' : List ℕ} (w : Walks xs a o j n o') where
  -- how many are left
  rest-count : length (drop j (ids_in a)) ≡ id_count a - j
  rest-count = length-drop j (ids_in a) ∙ ap (λ (m : ℕ). m - j) (ids-length a 0 (id_count a))

  -- the bytes after the answers
  kept : drop (j + (id_count a - j)) o' ≡ drop (id_count a) o
  kept =
      let e : j + (id_count a - j) ≡ id_count a = omega (arith, w.passed_within) in
      sym (drop-drop (id_count a - j) j o') ∙ ap (drop (id_count a - j)) w.rest_kept ∙ drop-drop (id_count a - j) j o ∙ ap (λ (m : ℕ). drop m o) e

  pub merges : {o'' : List ℕ} → o'' ≡ overwritten o' j (replicate (id_count a - j) unknown_byte) → Merges (merge xs (ids_in a)) o n o''
  merges {o''} f =
      let m : Merged = merge xs (ids_in a) in
      let answers : m.answers ≡ take j o' ++ replicate (id_count a - j) unknown_byte =
      ap (λ (v : Merged). v.answers) w.walked
      ∙ ap (λ (r : List ℕ). take j o' ++ r) (map-constant unknown_byte (drop j (ids_in a)) ∙ ap (λ (k : ℕ). replicate k unknown_byte) rest-count) in
      let size : length m.answers ≡ id_count a = answers-length xs (ids_in a) ∙ ids-length a 0 (id_count a) in
      let after : drop (j + length (replicate (id_count a - j) unknown_byte)) o' ≡ drop (length m.answers) o =
      ap (λ (k : ℕ). drop (j + k) o') (length-replicate (id_count a - j) unknown_byte) ∙ kept ∙ ap (λ (k : ℕ). drop k o) (sym size) in
      record {
        counted = sym (ap (λ (v : Merged). v.comparisons) w.walked);
        written =
            f ∙ sym (append_assoc (take j o') (replicate (id_count a - j) unknown_byte) (drop (j + length (replicate (id_count a - j) unknown_byte)) o'))
            ∙ ap₂ (λ (p q : List ℕ). p ++ q) (sym answers) after;
      }
