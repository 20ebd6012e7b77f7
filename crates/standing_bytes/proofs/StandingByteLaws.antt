-- A byte tells one standing, and the byte of an id that is not stored tells none.
use Rattle.std.specs.Prelude.{ℕ, ◌≡◌, refl, cond, eqb}
use Rattle.std.proofs.Common.{sym, ap, ◌∙◌, arith}
use Rattle.rules.specs.declared.Standing.{Standing}
use Rattle.rules.specs.declared.Standing.TheVariants.{Held, Waiting, Void}
use Rattle.standing_bytes.specs.StandingByte.{standing_byte, unknown_byte}

-- reading a standing back from its byte
unfoldable pub standing_of : ℕ → Standing
standing_of n = cond (eqb n 0) Held (cond (eqb n 1) Waiting Void)

pub standing-back : (v : Standing) → standing_of (standing_byte v) ≡ v
unfolding standing_of
standing-back Held = refl
standing-back Waiting = refl
standing-back Void = refl

pub standing-byte-one : (v w : Standing) → standing_byte v ≡ standing_byte w → v ≡ w
standing-byte-one v w e = sym (standing-back v) ∙ ap standing_of e ∙ standing-back w

pub known-byte : (v : Standing) → standing_byte v ≡ unknown_byte → ⊥
known-byte Held e = omega arith
known-byte Waiting e = omega arith
known-byte Void e = omega arith
