-- Laws of lines answered one after the other: rows of them put together; the offers among them are calls of `offer`; and the lines of a text.
use Rattle.std.specs.Prelude.{◌≡◌, refl, ℕ, List, [], ◌∷◌, ◌++◌, Bool, true, false, cond, eqb}
use Rattle.std.proofs.Common.{sym, ap, subst, ◌∙◌, append_assoc, append-nil}
use Rattle.std.specs.Prelude.{Option, None, Some}
use Rattle.bytes_order.specs.BoolLaws.{or-false→}
use Rattle.bytes_order.specs.Member.{any}
use Rattle.ledger_state.specs.declared.Ledger.{Ledger}
use Rattle.ledger_offering.specs.Calls.{Offers, call}
use Rattle.ledger_offering.specs.Calls as calls
use Rattle.command_syntax.specs.Syntax.{read_line}
use Rattle.command_lines.specs.Lines.{broken}
use Rattle.command_feeding.specs.Answering.{AnswersLine, unread, offered, AnswersLines, done, next, lines_of, line_after}

pub answers_one : {l l' : Ledger} {s s' t : List ℕ} {o : Option (List ℕ)} → AnswersLine l s o l' s' t → AnswersLines l s (o ∷ []) l' s' t
answers_one {l} {l'} {s} {s'} {t} {o} a = subst (AnswersLines l s (o ∷ []) l' s') (append-nil t) (next a done)

-- one row of lines after another
pub answers-then : {l l₁ l' : Ledger} {s s₁ s' ts ts' : List ℕ} {os os' : List (Option (List ℕ))}
    → AnswersLines l s os l₁ s₁ ts → AnswersLines l₁ s₁ os' l' s' ts' → AnswersLines l s (os ++ os') l' s' (ts ++ ts')
answers-then done b = b
answers-then {l = l} {l' = l'} {s = s} {s' = s'} {ts' = ts'} {os' = os'} (next {t = t} {ts = ts} {o = o} {os = os} a c) b =
    subst (AnswersLines l s (o ∷ (os ++ os')) l' s') (sym (append_assoc t ts ts')) (next a (answers-then c b))

-- the byte strings that are offered
abbrev pub offers_of : List (Option (List ℕ)) → List (List ℕ)
offers_of [] = []
offers_of (None ∷ os) = offers_of os
offers_of (Some b ∷ os) = b ∷ offers_of os

-- what the ledger and the store come to is what the calls of `offer` come to
pub answers-calls : {l l' : Ledger} {s s' ts : List ℕ} {os : List (Option (List ℕ))} → AnswersLines l s os l' s' ts → Offers l s (offers_of os) l' s'
answers-calls done = ([], calls.done)
answers-calls (next unread c) = answers-calls c
answers-calls (next (offered o) c) = let d = answers-calls c in (_, call o d.1)

-- the lines of one text after another
pub lines-append : (line xs ys : List ℕ)
    → (lines_of line (xs ++ ys) ≡ lines_of line xs ++ lines_of (line_after line xs) ys) × (line_after line (xs ++ ys) ≡ line_after (line_after line xs) ys)
unfolding lines_of line_after
lines-append line [] ys = (refl, refl)
lines-append line (x ∷ xs) ys = go (eqb x 10) (lines-append [] xs ys) (lines-append (line ++ (x ∷ [])) xs ys)
  where
    Law : List ℕ → Type 0
    Law y = (lines_of y (xs ++ ys) ≡ lines_of y xs ++ lines_of (line_after y xs) ys) × (line_after y (xs ++ ys) ≡ line_after (line_after y xs) ys)

    go : (b : Bool) → Law [] → Law (line ++ (x ∷ []))
        → let after = cond b (line_after [] xs) (line_after (line ++ (x ∷ [])) xs) in
        (cond b (read_line line ∷ lines_of [] (xs ++ ys)) (lines_of (line ++ (x ∷ [])) (xs ++ ys))
        ≡ cond b (read_line line ∷ lines_of [] xs) (lines_of (line ++ (x ∷ [])) xs) ++ lines_of after ys)
        × (cond b (line_after [] (xs ++ ys)) (line_after (line ++ (x ∷ [])) (xs ++ ys)) ≡ line_after after ys)
    go true i j = (ap (λ (os : List (Option (List ℕ))). read_line line ∷ os) i.0, i.1)
    go false i j = j

-- a text without a newline ends no line
pub lines-text : (line t : List ℕ) → broken t ≡ false → (lines_of line t ≡ []) × (line_after line t ≡ line ++ t)
unfolding lines_of line_after broken any
lines-text line [] h = (refl, sym (append-nil line))
lines-text line (b ∷ bs) h =
    let p = or-false→ (eqb b 10) (any (λ (k : ℕ). eqb k 10) bs) h in
    let r = lines-text (line ++ (b ∷ [])) bs p.1 in (
      ap (λ (t : Bool). cond t (read_line line ∷ lines_of [] bs) (lines_of (line ++ (b ∷ [])) bs)) p.0 ∙ r.0,
      ap (λ (t : Bool). cond t (line_after [] bs) (line_after (line ++ (b ∷ [])) bs)) p.0 ∙ r.1 ∙ append_assoc line (b ∷ []) bs,
    )

-- .. and a newline after it ends one
pub lines-ended : (line t : List ℕ) → broken t ≡ false
    → (lines_of line (t ++ (10 ∷ [])) ≡ read_line (line ++ t) ∷ []) × (line_after line (t ++ (10 ∷ [])) ≡ [])
unfolding lines_of line_after
lines-ended line t h =
    let a = lines-append line t (10 ∷ []) in
    let r = lines-text line t h in (
      a.0 ∙ ap (λ (os : List (Option (List ℕ))). os ++ (read_line (line_after line t) ∷ [])) r.0 ∙ ap (λ (y : List ℕ). read_line y ∷ []) r.1,
      a.1,
    )
