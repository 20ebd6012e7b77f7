-- The row of ids that are answered, from what the calls within answered.
use Prim.Native.Nat.{ℕ, ◌≤◌}
use mathlib.Core.Path.{◌≡◌, sym, ap, subst₂, ◌∙◌}
use mathlib.Core.List.{List, ◌++◌, map}
use mathlib.Core.Bool.{true}
use native.Mathlib.Omega.{arith}
use lib.ListN.{length, drop}
use Rattle.bytes_order.specs.Order.{ascending}
use Rattle.update_format.specs.Decode.{whole_ids, id_count, ids_in}
use Rattle.update_format.specs.Slices.{ids-length}
use Rattle.lookup_merge.specs.Merge.{Merged}
use Rattle.lookup_merge.proofs.LookupLaws.{answers-length}
use Rattle.ledger_state.specs.State.{Book}
use Rattle.ledger_state.specs.Row1.{sound}
use Rattle.lookup_standings.specs.Lookup.{compared_ids, stored_id, look_up, LookupRow, answered}
use Rattle.lookup_standings.specs.Gathering.{Answers}

pub answered-row : (l : Book) (s a o : List ℕ) {n : ℕ} {o' : List ℕ} → sound l s ≡ true → whole_ids a ≡ true → ascending (ids_in a) ≡ true → id_count a ≤ length o
    → Answers l a o n o' → LookupRow l s a o (compared_ids n) o'
answered-row l s a o {n} {o'} h w u f r =
    let m : Merged = look_up l r.order a in
    let size : length m.answers ≡ length (ids_in a) = answers-length (map (stored_id l) r.order) (ids_in a) in
    let written : m.answers ++ drop (length (ids_in a)) o ≡ o' = ap (λ (k : ℕ). m.answers ++ drop k o) (sym size) ∙ sym r.merges.written in
    subst₂ (λ (c : ℕ) (b : List ℕ). LookupRow l s a o (compared_ids c) b) (sym r.merges.counted) written
    (answered r.order h w u (omega (arith, ids-length a 0 (id_count a))) r.in_order)
