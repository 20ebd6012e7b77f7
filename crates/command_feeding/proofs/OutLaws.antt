-- The output buffer, of which the part from byte w on is lent and given back: a text at the start of that part comes after the first w bytes.
use mathlib.Core.Path.{◌≡◌, refl, sym, ap, ap₂, ◌∙◌}
use Prim.Native.Nat.{ℕ, ◌+◌, ◌-◌, ◌≤◌}
use native.Mathlib.Nat.{zero-add}
use native.Mathlib.Omega.{arith}
use mathlib.Core.List.{List, [], ◌++◌, append_assoc, append-nil}
use lib.ListN.{length, take, drop, length-append, length-drop, drop_of_length-le}
use lib.Seq.{length-take-le, take_all, take_at, drop_at, drop-drop}
use Rattle.bytes_print.specs.Page.{Prints}
use Rattle.bytes_copy.specs.Overwritten.{overwritten}

-- the text t comes after the first w bytes, the bytes after it keep their values, and w' is its end
pub record Extends (out : List ℕ) (w : ℕ) (t out' : List ℕ) (w' : ℕ) : Type 0 where
  pub past : w' ≡ w + length t
  pub within : w' ≤ length out
  pub kept : length out' ≡ length out
  pub text : take w' out' ≡ take w out ++ t
  pub rest : drop w' out' ≡ drop w' out

-- no text
pub extends-none : (out : List ℕ) (w : ℕ) → w ≤ length out → Extends out w [] out w
extends-none out w h = record { past = omega arith; within = h; kept = refl; text = sym (append-nil (take w out)); rest = refl }

-- a text that is written there
extends-written : (out : List ℕ) (w : ℕ) (t : List ℕ) {out' : List ℕ} {w' : ℕ} → w + length t ≤ length out → w' ≡ w + length t → out' ≡ overwritten out w t
    → Extends out w t out' w'
extends-written out w t {out'} {w'} fits past e =
    let rest = drop (w + length t) out in
    let front : length (take w out ++ t) ≡ w' = omega (arith, length-append (take w out) t, length-take-le w out (omega arith)) in
    let whole : out' ≡ (take w out ++ t) ++ rest = e ∙ sym (append_assoc (take w out) t rest) in
    record {
      past = past;
      within = omega arith;
      kept = ap length whole ∙ omega (arith, length-append (take w out ++ t) rest, length-drop (w + length t) out);
      text = ap (take w') whole ∙ take_at (take w out ++ t) rest w' front;
      rest = ap (drop w') whole ∙ drop_at (take w out ++ t) rest w' front ∙ ap (λ (n : ℕ). drop n out) (sym past);
    }

-- what is lent, and the buffer with o in its place
abbrev pub part_from : List ℕ → ℕ → List ℕ
part_from out w = take (length out - w) (drop w out)

abbrev pub with_part : List ℕ → ℕ → List ℕ → List ℕ
with_part out w o = take w out ++ (o ++ drop (length out - w) (drop w out))

module _ (out : List ℕ) (w : ℕ) (inside : w ≤ length out) where
  pub part-is : part_from out w ≡ drop w out
  part-is = take_all (length out - w) (drop w out) (omega (arith, length-drop w out))

  pub part_length : length (part_from out w) ≡ length out - w
  part_length = ap length part-is ∙ length-drop w out

  -- nothing comes after the part
  pub with-is : (o : List ℕ) → with_part out w o ≡ take w out ++ o
  with-is o =
      ap (λ (x : List ℕ). take w out ++ (o ++ x)) (drop_of_length-le (drop w out) {i = length out - w} (omega (arith, length-drop w out)))
      ∙ ap (λ (x : List ℕ). take w out ++ x) (append-nil o)

  -- a text that is printed at the start of the part
  pub extends-printed : {t o : List ℕ} {n : ℕ} → Prints (part_from out w) 0 t o n → w + n ≤ length out → Extends out w t (with_part out w o) (w + n)
  extends-printed {t} {o} {n} p fits =
      let text : o ≡ t ++ drop (length t) (drop w out) =
      p.fits (omega (arith, part_length)) ∙ ap₂ (λ (k : ℕ) (x : List ℕ). t ++ drop k x) (zero-add (length t)) part-is in
      extends-written out w t (omega (arith, p.past)) (omega (arith, p.past))
      (with-is o ∙ ap (λ (x : List ℕ). take w out ++ x) (text ∙ ap (λ (x : List ℕ). t ++ x) (drop-drop (length t) w out)))
