-- `unhex` meets its contract. The loop's invariant: the first i bytes are those that the first 2 i digits spell.
use Rattle.std.proofs.Common.{◌≡◌, ◌*◌, take, drop, Some}
use Rattle.command_syntax.specs.Syntax.{unhex}
use Rattle.command_syntax.proofs.unhex.Given as goal

abbrev pub invariant-loop-i : goal.invariant-loop-i
invariant-loop-i l = unhex (take (2 * l.i) (drop 7 l.line)) ≡ Some (take l.i l.update)
