-- `pack` meets its contract: the four words of an id are those from bytes 0, 8, 16 and 24 on.
use Rattle.std.proofs.Common.{◌≡◌, [], ◌∷◌, ap, ◌∙◌}
use Rattle.bytes_words.specs.Words.{packed, bytes_of}
use Rattle.bytes_words.proofs.WordsLaws.{bytes_of-packed}
use Rattle.bytes_packing.proofs.Together.{packed-four}
use Rattle.bytes_packing.proofs.pack.Goals as goal

pub returns : goal.returns
returns c =
    let words : c.word.result ∷ c.word-2.result ∷ c.word-3.result ∷ c.word-4.result ∷ [] ≡ packed 4 c.args.id.now = cc (packed-four c.args.id.now) in
    record {
      words = words;
      bytes = ap bytes_of words ∙ bytes_of-packed 4 c.args.id.now (λ k. (c.type_inv.id k).fits) c.requires;
    }
