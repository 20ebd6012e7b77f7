-- The comparison of standings by their numbers is the derived `==`, and the test of each.
use Rattle.std.specs.Prelude.{◌≡◌, refl}
use denote.Enum.Bare.{sameb}
use Rattle.rules.specs.contracts.Standing.{the_type}
use Rattle.rules.specs.declared.Standing.{Standing}
use Rattle.rules.specs.declared.Standing.TheVariants.{Held, Waiting, Void}
use Rattle.ledger_state.specs.State.{is_held, is_waiting, is_void}
use Rattle.ledger_state.specs.Number.{has_standing}

-- what `v == s` yields
pub eq_standing : (s v : Standing) → sameb the_type v s ≡ has_standing s v
unfolding has_standing
eq_standing Held Held = refl
eq_standing Held Waiting = refl
eq_standing Held Void = refl
eq_standing Waiting Held = refl
eq_standing Waiting Waiting = refl
eq_standing Waiting Void = refl
eq_standing Void Held = refl
eq_standing Void Waiting = refl
eq_standing Void Void = refl

pub is-held : (v : Standing) → has_standing Held v ≡ is_held v
unfolding has_standing is_held
is-held Held = refl
is-held Waiting = refl
is-held Void = refl

pub is-waiting : (v : Standing) → has_standing Waiting v ≡ is_waiting v
unfolding has_standing is_waiting
is-waiting Held = refl
is-waiting Waiting = refl
is-waiting Void = refl

pub is-void : (v : Standing) → has_standing Void v ≡ is_void v
unfolding has_standing is_void
is-void Held = refl
is-void Waiting = refl
is-void Void = refl

-- the test of a standing, by a method or by `==`
pub ruleset standing_tests = (eq_standing, is-held, is-waiting, is-void)
