use Prim.Native.Nat.{ℕ, ◌%◌}
use mathlib.Core.List.{List}
use mathlib.Core.Path.{◌≡◌, sym, ◌∙◌}
use mathlib.Core.Bool.{true}
use native.Mathlib.Omega.{arith}
use borrow.Author.Tests.{eq-eqb, ne_eqb}
use lib.ListN.{length}
use Rattle.update_format.specs.Update.{id_length}
use Rattle.update_format.specs.Decode.{whole_ids, id_count}
use Rattle.update_format.specs.Slices.{ids-length}
use Rattle.ledger_state.specs.View.{book, store_of}
use Rattle.lookup_standings.specs.Lookup.{uneven, unordered, short}
use Rattle.lookup_standings.proofs.Rows.{answered-row}
use Rattle.lookup_standings.proofs.look_up.Goals as goal

-- row 8 does not apply
whole : (a : List ℕ) → length a % id_length ≡ 0 → whole_ids a ≡ true
whole a e = eq-eqb (length a % id_length) 0 e

pub returns-then-asked-ne0 : goal.returns-then-asked-ne0
returns-then-asked-ne0 c =
    uneven c.requires (ne_eqb (length c.args.asked.now % id_length) 0 c.if-asked-ne0.true)

pub returns-then-not-ascends : goal.returns-then-not-ascends
returns-then-not-ascends c =
    unordered c.requires (whole c.args.asked.now c.if-asked-ne0.false) (sym c.ascends.ensures ∙ c.if-not-ascends.true)

pub returns-then-out-count : goal.returns-then-out-count
returns-then-out-count c =
    short c.requires (whole c.args.asked.now c.if-asked-ne0.false) (sym c.ascends.ensures ∙ c.if-not-ascends.false)
    (omega (arith, ids-length c.args.asked.now 0 (id_count c.args.asked.now), c.if-out-count.true))

pub returns : goal.returns
returns c =
    answered-row (book c.args.replica.now) (store_of c.args.replica.now) c.args.asked.now c.args.out.now c.requires
    (whole c.args.asked.now c.if-asked-ne0.false) (sym c.ascends.ensures ∙ c.if-not-ascends.false) (omega (arith, c.if-out-count.false))
    c.answer.ensures
