-- A number has one refusal: a promise that speaks of numbers leaves nothing open.
use Rattle.std.specs.Prelude.{◌≡◌, refl, ℕ, cond, eqb}
use Rattle.std.proofs.Common.{sym, ap, ◌∙◌}
use Rattle.update_format.specs.ParseResult.{malformed_number}
use Rattle.update_format.specs.declared.Malformed.{Malformed}
use Rattle.update_format.specs.declared.Malformed.TheVariants.{Length, Version, Author, Predecessors, Truncated, Kind, Layout, Unordered}
use Rattle.ledger_refusals.specs.declared.Refusal.{Refusal}
use Rattle.ledger_refusals.specs.declared.Refusal.TheVariants.{Unfit, Malformed as Bad, Full, Short, Invalid, Bundle}
use Rattle.ledger_refusals.specs.Numbers.{row1_number, row2_number, row3_number, row4_number, row5_number, row6_number, row7_number, row8_number, row10_number, row11_number, row12_number, row13_number, refusal_number}

-- the refusal of a number; Unordered stands for row 9 and for every number that is no row's
malformed_of : ℕ → Malformed
malformed_of n =
    cond (eqb n row2_number) Length
    (cond (eqb n row3_number) Version
    (cond (eqb n row4_number) Author
    (cond (eqb n row5_number) Predecessors
    (cond (eqb n row6_number) Truncated
    (cond (eqb n row7_number) Kind
    (cond (eqb n row8_number) Layout Unordered))))))

refusal_of : ℕ → Refusal
refusal_of n =
    cond (eqb n row1_number) Unfit
    (cond (eqb n row10_number) Full
    (cond (eqb n row11_number) Short
    (cond (eqb n row12_number) Invalid
    (cond (eqb n row13_number) Bundle (Bad (malformed_of n))))))

malformed-back : (m : Malformed) → refusal_of (malformed_number m) ≡ Bad m
unfolding refusal_of malformed_of
malformed-back Length = refl
malformed-back Version = refl
malformed-back Author = refl
malformed-back Predecessors = refl
malformed-back Truncated = refl
malformed-back Kind = refl
malformed-back Layout = refl
malformed-back Unordered = refl

refusal-back : (r : Refusal) → refusal_of (refusal_number r) ≡ r
unfolding refusal_of
refusal-back Unfit = refl
refusal-back (Bad m) = malformed-back m
refusal-back Full = refl
refusal-back Short = refl
refusal-back Invalid = refl
refusal-back Bundle = refl

pub refusal-one : {a b : Refusal} → refusal_number a ≡ refusal_number b → a ≡ b
refusal-one {a} {b} e = sym (refusal-back a) ∙ ap refusal_of e ∙ refusal-back b
