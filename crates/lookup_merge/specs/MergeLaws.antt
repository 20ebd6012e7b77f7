-- The walk, step by step, as the request's sentence has it.
use Rattle.std.specs.Prelude.{suc, ◌≡◌, refl, List, [], ◌∷◌, map}
use Rattle.bytes_order.specs.Compare.{order_of}
use Rattle.std.specs.declared.cmp.Ordering.{Ordering}
use Rattle.std.specs.declared.cmp.Ordering.TheVariants.{Less, Equal, Greater}
use Rattle.update_format.specs.Update.{Id}
use Rattle.standing_bytes.specs.StandingByte.{unknown_byte}
use Rattle.lookup_merge.specs.Merge.{Stored, answered, compared, merge_from, merge}

-- no asked id is left: the walk has ended
pub merge-asked-end : (xs : List Stored) → merge xs [] ≡ record { answers = []; comparisons = 0 }
unfolding merge merge_from
merge-asked-end [] = refl
merge-asked-end (x ∷ xs) = refl

-- no stored id is left
pub merge-stored-end : (is : List Id) → merge [] is ≡ record { answers = map (λ (i : Id). unknown_byte) is; comparisons = 0 }
unfolding merge
merge-stored-end is = refl

module _ (x : Stored) (xs : List Stored) (i : Id) (is : List Id) where
  by_order : (o : Ordering) → order_of x.id i ≡ o
      → merge (x ∷ xs) (i ∷ is) ≡ compared o (merge xs (i ∷ is)) (answered x.byte (merge xs is)) (answered unknown_byte (merge (x ∷ xs) is))
  unfolding merge merge_from
  by_order o e = rw e

  -- "the smaller id is passed", a stored one
  pub merge_less : order_of x.id i ≡ Less → merge (x ∷ xs) (i ∷ is) ≡ record { answers = (merge xs (i ∷ is)).answers; comparisons = suc (merge xs (i ∷ is)).comparisons }
  merge_less e = by_order Less e

  -- "equal ids are passed together"
  pub merge_equal : order_of x.id i ≡ Equal → merge (x ∷ xs) (i ∷ is) ≡ record { answers = x.byte ∷ (merge xs is).answers; comparisons = suc (merge xs is).comparisons }
  merge_equal e = by_order Equal e

  -- "the smaller id is passed", an asked one, which is unknown
  pub merge_greater : order_of x.id i ≡ Greater
      → merge (x ∷ xs) (i ∷ is) ≡ record { answers = unknown_byte ∷ (merge (x ∷ xs) is).answers; comparisons = suc (merge (x ∷ xs) is).comparisons }
  merge_greater e = by_order Greater e
