use mathlib.Core.List.{List}
use mathlib.Core.Path.{◌≡◌, subst}
use native.Mathlib.Omega.{arith}
use Prim.Native.Nat.{ℕ, ◌≤◌}
use lib.ListN.{length}
use Rattle.bytes_order.specs.Sort.{insert}
use Rattle.ledger_state.specs.View.{book, store_of}
use Rattle.ledger_sorting.specs.PlaceLists.{ins, key_of}
use Rattle.ledger_sorting.proofs.Inserting.{inserted, renamed}
use Rattle.ledger_sorting.proofs.sorted.insert.Goals as goal

pub returns-in-Some : goal.returns-in-Some
returns-in-Some c =
    let key = key_of (book c.args.replica.now) (store_of c.args.replica.now) c.args.key in
    let i = c.in-Some.i in
    let within = subst (λ (xs : List ℕ). i ≤ length xs) c.as_slice.ensures.value c.in-Some.ensures.within in
    let new = subst (λ (xs : List ℕ). ins i c.args.j xs ≡ insert key c.args.j xs) c.as_slice.ensures.value c.in-Some.ensures.new in
    (renamed new (inserted i c.args.j c.requires.room_for within c.insert.ensures.items), omega (arith, c.insert.ensures.len))
