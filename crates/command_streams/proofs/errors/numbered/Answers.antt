-- `numbered` meets its contract: a number above zero is kept, and every other counts as EIO.
use Rattle.std.proofs.Common.{◌≡◌, refl, ap, ◌∙◌, zero, suc, true, false, ℤ, pos, negsuc, arith}
use lib.IntN.{nat_abs}
use lib.Signed.{lt_z}
use borrow.Author.Tests.{ltb-false}
use mir.Facts.{to_z-of_z}
use Rattle.command_streams.specs.Numbers.{errno_of}
use Rattle.command_streams.proofs.errors.numbered.Goals as goal

positive : (z : ℤ) → lt_z (pos 0) z ≡ true → nat_abs z ≡ errno_of z
unfolding errno_of
positive (pos zero) e = cc
positive (pos (suc n)) e = refl
positive (negsuc n) e = cc

none : (z : ℤ) → lt_z (pos 0) z ≡ false → 5 ≡ errno_of z
unfolding errno_of
none (pos zero) e = refl
none (pos (suc n)) e = absurd (omega (arith, ltb-false 0 (suc n) e))
none (negsuc n) e = refl

pub returns-then-errno-gt0 : goal.returns-then-errno-gt0
returns-then-errno-gt0 c = c.unsigned_abs.ensures.value ∙ positive _ c.if-errno-gt0.true ∙ ap errno_of (to_z-of_z c.ranges.errno)

pub returns : goal.returns
returns c = none _ c.if-errno-gt0.false ∙ ap errno_of (to_z-of_z c.ranges.errno)
