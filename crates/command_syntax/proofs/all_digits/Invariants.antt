-- `all_digits` meets its contract. The loop's invariant: it is known whether the bytes so far are digits.
use Rattle.std.proofs.Common.{◌≡◌, take}
use Rattle.bytes_order.specs.Member.{all}
use Rattle.command_syntax.specs.Line.{is_digit}
use Rattle.command_syntax.proofs.all_digits.Given as goal

abbrev pub invariant-loop-b : goal.invariant-loop-b
invariant-loop-b l = l.digits ≡ all is_digit (take l.b-index l.s)
