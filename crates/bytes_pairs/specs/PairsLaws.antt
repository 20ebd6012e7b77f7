-- Numbers of two bytes, from the bytes and back.
use Rattle.std.specs.Prelude.{ℕ, suc, ◌+◌, ◌*◌, ◌≤◌, ◌≡◌, length, get_or, take, drop}
use native.Mathlib.Omega.{arith}
use Rattle.std.proofs.Common.{sym, ap₂, ◌∙◌, length-drop, take-append-drop, drop-cons, drop-drop, length-take-le}
use Rattle.std.proofs.Math.Path.{ap}
use mathlib.Core.List.{List, ◌∷◌, ◌++◌}
use Rattle.bytes_words.specs.Words.{Bytes, bytes_in, big_of}
use Rattle.bytes_words.proofs.WordsLaws.{bytes_take, bytes_drop, bytes_in-big}
use Rattle.bytes_pairs.specs.Pairs.{pair_at}

module _ (b : List ℕ) (at : ℕ) (within : at + 2 ≤ length b) where
  -- the bytes from `at` on
  pub pair-drop : drop at b ≡ get_or b at 0 ∷ get_or b (at + 1) 0 ∷ drop (at + 2) b
  pair-drop =
      let x = get_or b at 0 in
      let k : at + 1 ≡ suc at = omega arith in
      let j : at + 2 ≡ suc (suc at) = omega arith in
      rw (k, j) (drop-cons b at 0 (omega arith) ∙ ap (λ (r : List ℕ). x ∷ r) (drop-cons b (suc at) 0 (omega arith)))

  pub pair-bytes : pair_at b at ≡ 256 * get_or b at 0 + get_or b (at + 1) 0
  unfolding big_of
  pair-bytes = ap (λ (r : List ℕ). big_of (take 2 r)) pair-drop ∙ omega arith

-- bytes with a number of two bytes at `at`, laid out again
pub pair-laid : (b : List ℕ) (at : ℕ) → Bytes b → at + 2 ≤ length b → drop at b ≡ bytes_in 2 (pair_at b at) ++ drop (at + 2) b
pair-laid b at bytes within =
    let two : length (take 2 (drop at b)) ≡ 2 = length-take-le 2 (drop at b) (omega (arith, length-drop at b)) in
    let e : bytes_in 2 (pair_at b at) ≡ take 2 (drop at b) =
    ap (λ (n : ℕ). bytes_in n (pair_at b at)) (sym two) ∙ bytes_in-big (take 2 (drop at b)) (bytes_take 2 (drop at b) (bytes_drop at b bytes)) in
    sym (ap₂ ◌++◌ e (sym (drop-drop 2 at b)) ∙ take-append-drop 2 (drop at b))
