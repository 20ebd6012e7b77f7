-- How one byte string stands to another, as std's `cmp` answers.
use Rattle.std.specs.Prelude.{ℕ, List, cond}
use Rattle.std.specs.declared.cmp.Ordering.{Ordering}
use Rattle.std.specs.declared.cmp.Ordering.TheVariants.{Less, Equal, Greater}
use Rattle.std.specs.Ordering.{ordering_then}
use Rattle.bytes_order.specs.Order.{before, same}

-- Less where a comes before b, Equal where they are the same bytes, Greater otherwise
unfoldable pub order_of : List ℕ → List ℕ → Ordering
order_of a b = cond (before a b) Less (cond (same a b) Equal Greater)

-- the first order where it tells two apart, else the second
abbrev pub then_by : Ordering → Ordering → Ordering
then_by = ordering_then
