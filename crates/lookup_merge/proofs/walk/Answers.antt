use mathlib.Core.List.{List}
use Prim.Native.Nat.{ℕ}
use mathlib.Core.Path.{◌≡◌, sym, ap₂, ◌∙◌}
use Rattle.bytes_order.specs.Compare.{order_of}
use Rattle.std.specs.declared.cmp.Ordering.{Ordering}
use Rattle.lookup_merge.proofs.Walking.{walking-stored, walking-both, walking-asked, walks-stored, walks-asked}
use Rattle.lookup_merge.proofs.walk.Goals as goal

-- what the comparison tells of the ids at both indices
told : {x y p q : List ℕ} {r o : Ordering} → x ≡ p → y ≡ q → r ≡ order_of x y → r ≡ o → order_of p q ≡ o
told e f g h = ap₂ order_of (sym e) (sym f) ∙ sym g ∙ h

pub loop-i-preserved-in-Less : goal.loop-i-preserved-in-Less
loop-i-preserved-in-Less c =
    walking-stored c.args.ids.now c.args.standings.now c.args.asked.now c.args.out.now c.loop-i.invariant
    c.loop-i-test.true c.if-j-count.true (told c.named.ensures c.named-in-loop-i.ensures c.compare.ensures c.in-Less.is)

pub loop-i-preserved-in-Equal : goal.loop-i-preserved-in-Equal
loop-i-preserved-in-Equal c =
    walking-both c.args.ids.now c.args.standings.now c.args.asked.now c.args.out.now c.loop-i.invariant
    c.loop-i-test.true c.if-j-count.true c.requires (told c.named.ensures c.named-in-loop-i.ensures c.compare.ensures c.in-Equal.is)

pub loop-i-preserved : goal.loop-i-preserved
loop-i-preserved c =
    walking-asked c.args.ids.now c.args.standings.now c.args.asked.now c.args.out.now c.loop-i.invariant
    c.loop-i-test.true c.if-j-count.true c.requires (told c.named.ensures c.named-in-loop-i.ensures c.compare.ensures c.in-Greater.is)

pub returns-else-j-count : goal.returns-else-j-count
returns-else-j-count c =
    walks-asked c.args.ids.now c.args.standings.now c.args.asked.now c.args.out.now c.loop-i.invariant c.if-j-count.false

pub returns-after-loop-i : goal.returns-after-loop-i
returns-after-loop-i c =
    walks-stored c.args.ids.now c.args.standings.now c.args.asked.now c.args.out.now c.loop-i.invariant c.loop-i-test.false
