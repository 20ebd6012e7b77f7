-- `include` meets its contract: the place is added in its word, and past the last word there is no room for it.
use Rattle.std.proofs.Common.{ℕ, ◌-◌, ◌/◌, ◌%◌, ◌<◌, get_or, set, arith, rules, zero-lt-suc, mod-lt, div-add-mod', sym, ap, ◌∙◌}
use Rattle.bitset.specs.Bits.{word_bits}
use Rattle.bitset.specs.BitsLaws.{included, not-included}
use Rattle.bitset_words.specs.Run.{number, room, include_word}
use Rattle.bitset_words.proofs.RunLaws.{number-include}
use Rattle.bitset_words.proofs.include.Goals as goal

pub returns-then-at-s : goal.returns-then-at-s
unfolding include_word
returns-then-at-s c =
    let k = c.args.k in
    let s = c.args.s.now in
    let bit : k % word_bits < word_bits = mod-lt k (zero-lt-suc (word_bits - 1)) in
    let inside : k < room s = omega (arith, div-add-mod' k word_bits, bit) in
    ap (λ (w : ℕ). number (set s (k / word_bits) w)) (c.including.ensures ∙ included word_bits (get_or s (k / word_bits) 0) (k % word_bits) bit)
    ∙ number-include s (search rules) k inside
    ∙ sym (included (room s) (number s) k inside)

pub returns-else-at-s : goal.returns-else-at-s
returns-else-at-s c = sym (not-included (room c.args.s.now) (number c.args.s.now) c.args.k (omega (arith, div-add-mod' c.args.k word_bits)))
