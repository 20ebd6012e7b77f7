use Rattle.std.proofs.Common.{ℕ, get_or, arith, rules, sym, refl, ◌∙◌}
use Rattle.std.proofs.lemmas.List.FromFn.{fill_by_all}
use Rattle.bytes_words.specs.Words.{bytes_of}
use Rattle.bytes_words.proofs.WordsLaws.{length-bytes_of}
use Rattle.bytes_words.proofs.unpack.Goals as goal

pub returns : goal.returns
returns c =
    let f : ℕ → ℕ = λ k. get_or (bytes_of c.args.w.now) k 0 in
    fill_by_all f c.loop-i.byte-items 32 0 (search rules) (λ k h. c.loop-i.invariant k (omega arith))
    ∙ sym (fill_by_all f (bytes_of c.args.w.now) 32 0 (omega (arith, length-bytes_of c.args.w.now)) (λ k h. refl))
