-- Standings compared by a number for each.
use Rattle.std.specs.Prelude.{ℕ, Bool, eqb}
use Rattle.rules.specs.declared.Standing.{Standing}
use Rattle.rules.specs.declared.Standing.TheVariants.{Held, Waiting, Void}

abbrev pub standing_number : Standing → ℕ
standing_number Held = 0
standing_number Waiting = 1
standing_number Void = 2

unfoldable pub has_standing : Standing → Standing → Bool
has_standing s v = eqb (standing_number v) (standing_number s)
