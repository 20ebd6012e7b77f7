-- `word` meets its contract: the number of eight bytes, the first the highest.
use Rattle.std.proofs.Common.{◌≡◌, length, take, drop, arith, length-drop, length-take-le}
use Rattle.bytes_words.proofs.WordsLaws.{bytes_take, bytes_drop}
use Rattle.bytes_words.proofs.BigEndianLaws.{from_be-word}
use Rattle.bytes_packing.proofs.Together.{eight_bytes}
use Rattle.bytes_packing.proofs.word.Goals as goal

pub returns : goal.returns
returns c =
    let b = c.args.b.now in
    let at = c.args.at in
    let n : length (take 8 (drop at b)) ≡ 8 = length-take-le 8 (drop at b) (omega (arith, length-drop at b)) in
    from_be-word (take 8 (drop at b)) n (bytes_take 8 (drop at b) (bytes_drop at b (λ k. (c.type_inv.b k).fits))) c.from_be_bytes.type_inv (rw (← eight_bytes b at c.requires) c.from_be_bytes.ensures)
