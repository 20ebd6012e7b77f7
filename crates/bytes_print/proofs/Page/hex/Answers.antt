use Rattle.std.proofs.Common.{◌≡◌, arith, refl}
use Rattle.std.proofs.lemmas.Grind.{common_steps}
use Rattle.bytes_ascii.specs.Ascii.{hex}
use Rattle.bytes_ascii.specs.AsciiLaws.{hex-length}
use Rattle.bytes_print.proofs.DigitsLaws.{lower-hex}
use Rattle.bytes_print.proofs.Page.hex.Goals as goal
use Rattle.bytes_print.proofs.Page.hex.Goals.{then-end-self, else-end-self}

pub returns-clause-prints : goal.returns-clause-prints
returns-clause-prints c =
    let l = hex-length c.args.bytes.now in
    elim c.if-end-self.branch [
      | then-end-self w ↦
          let e : w.encode_to_slice.new.output ≡ hex c.args.bytes.now = grind (arith, common_steps, lower-hex c.args.bytes.now (λ i. (c.type_inv.bytes i).fits)) in
          record { prints = record { past = omega arith; fits = λ h. grind (arith, common_steps) }; same_page = rw w.self-is refl }
      | else-end-self w ↦
          record { prints = record { past = omega arith; fits = λ h. absurd (omega arith) }; same_page = rw w.self-is refl }
    ]
