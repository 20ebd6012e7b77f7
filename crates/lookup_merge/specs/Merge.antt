-- Document 02, E3: the walk through the stored ids and the asked ones, both strictly ascending. "It goes through the ledger's ids in ascending order beside the list and
-- returns how many comparisons of two ids that walk made: the smaller id is passed, equal ids are passed together, and the walk ends when either list does."
use Rattle.std.specs.Prelude.{ℕ, suc, List, [], ◌∷◌, map}
use Rattle.bytes_order.specs.Compare.{order_of}
use Rattle.std.specs.declared.cmp.Ordering.{Ordering}
use Rattle.std.specs.declared.cmp.Ordering.TheVariants.{Less, Equal, Greater}
use Rattle.update_format.specs.Update.{Id}
use Rattle.standing_bytes.specs.StandingByte.{unknown_byte}

-- a stored id, and the byte of its standing
pub record Stored : Type 0 where
  pub id : Id
  pub byte : ℕ

abbrev pub id_of : Stored → Id
id_of x = x.id

-- what a walk yields: "one byte for each" asked id, in their order, and "how many comparisons of two ids that walk made"
pub record Merged : Type 0 where
  pub answers : List ℕ
  pub comparisons : ℕ

-- the asked id that is passed is answered, before those of m
abbrev pub answered : ℕ → Merged → Merged
answered byte m = record { answers = byte ∷ m.answers; comparisons = m.comparisons }

-- one comparison more: it tells how the stored id stands to the asked one, and so which of three walks goes on
abbrev pub compared : Ordering → Merged → Merged → Merged → Merged
compared Less less equal greater = record { answers = less.answers; comparisons = suc less.comparisons }
compared Equal less equal greater = record { answers = equal.answers; comparisons = suc equal.comparisons }
compared Greater less equal greater = record { answers = greater.answers; comparisons = suc greater.comparisons }

-- The walk from the stored id x on, where `rest` is the walk of the stored ids after it. The smaller id is passed, a stored one or an asked one, which is unknown; equal
-- ids are passed together.
unfoldable pub merge_from : Stored → (List Id → Merged) → List Id → Merged
merge_from x rest [] = record { answers = []; comparisons = 0 }
merge_from x rest (i ∷ is) =
    compared (order_of x.id i)
    (rest (i ∷ is))
    (answered x.byte (rest is))
    (answered unknown_byte (merge_from x rest is))

-- "the walk ends when either list does": the asked ids that are left are unknown, without a comparison
unfoldable pub merge : List Stored → List Id → Merged
merge [] is = record { answers = map (λ (i : Id). unknown_byte) is; comparisons = 0 }
merge (x ∷ xs) is = merge_from x (merge xs) is
