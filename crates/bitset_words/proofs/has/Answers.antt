-- `has` meets its contract: a place is a bit of its word, and past the last word there is none.
use Rattle.std.proofs.Common.{ℕ, ◌≡◌, ◌≤◌, ◌/◌, ◌%◌, length, get_or, arith, rules, sym, ap, ◌∙◌}
use Rattle.std.proofs.Math.ListN.{get_or-eq_default}
use Rattle.bitset.specs.Bits.{word_bits, has}
use Rattle.bitset.specs.BitsLaws.{has-none}
use Rattle.bitset_words.proofs.RunLaws.{has-number}
use Rattle.bitset_words.proofs.has.Goals as goal

pub returns-in-Some : goal.returns-in-Some
returns-in-Some c =
    let e : c.in-Some.w.now ≡ get_or c.args.s.now (c.args.k / word_bits) 0 = search rules in
    c.has.ensures ∙ ap (λ (w : ℕ). has w (c.args.k % word_bits)) e ∙ sym (has-number c.args.s.now (λ i. (c.type_inv.s i).fits) c.args.k)

pub returns-in-None : goal.returns-in-None
returns-in-None c =
    let past : length c.args.s.now ≤ c.args.k / word_bits = search rules in
    sym (has-number c.args.s.now (λ i. (c.type_inv.s i).fits) c.args.k
    ∙ ap (λ (w : ℕ). has w (c.args.k % word_bits)) (get_or-eq_default c.args.s.now 0 past)
    ∙ has-none (c.args.k % word_bits))
