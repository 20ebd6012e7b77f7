-- Where a ledger, its store and a line buffer are where a machine is: what answering lines, and a call, or a row of calls, of `feed` does to them.
use Rattle.std.specs.Prelude.{◌≡◌, refl, ℕ, List, [], ◌∷◌, ◌++◌, Bool, true, false, cond, eqb}
use Rattle.std.proofs.Common.{sym, ap, subst, ◌∙◌, append_assoc, append-nil}
use Rattle.std.specs.Prelude.{Option, None, Some}
use Rattle.ledger_state.specs.declared.Ledger.{Ledger}
use Rattle.ledger_state.specs.View.{book_of}
use Rattle.ledger_state.specs.Stands.{Stands}
use Rattle.ledger_offering.specs.Values.{OfferValues}
use Rattle.ledger_offering.specs.Words.{values_text}
use Rattle.ledger.specs.Calls.{offer-stands}
use Rattle.ledger.specs.Answers.{answer-right}
use Rattle.command_syntax.specs.Syntax.{read_line}
use Rattle.command_lines.specs.Lines.{Keeps}
use Rattle.command_feeding.specs.Answering.{AnswersLine, unread, offered, AnswersLines, done, next, lines_of, line_after}
use Rattle.command_feeding.specs.Feeding.{Moves}
use Rattle.command_session.specs.Session.{Machine, answer_line, end_line, feed_byte, feed, last_line}
use Rattle.command_session.specs.Finishing.{last_of}

-- from the machine m to n: the ledger stands for what n has stored, and n has put out t more
abbrev pub Reaches : Ledger → List ℕ → Machine → Machine → List ℕ → Type 0
Reaches l s m n t = Stands (book_of l) s n.stored × (n.out ≡ m.out ++ t)

-- a line that is answered
pub answers-machine : {l l' : Ledger} {s s' t : List ℕ} {o : Option (List ℕ)} (m : Machine) → Stands (book_of l) s m.stored → AnswersLine l s o l' s' t
    → Reaches l' s' m (answer_line m o) t
unfolding answer_line
answers-machine m h unread = (h, refl)
answers-machine {l} {s = s} m h (offered {b = b} o) =
    (offer-stands l s m.stored h b o, ap (λ (x : OfferValues). m.out ++ values_text x) (sym (answer-right l s m.stored h b o)))

-- no line is begun then
answer-begins : (m : Machine) (o : Option (List ℕ)) → (answer_line m o).line ≡ []
unfolding answer_line
answer-begins m None = refl
answer-begins m (Some b) = refl

-- the line goes on with a byte
abbrev begins_with : Machine → ℕ → Machine
begins_with m x = record { stored = m.stored; line = m.line ++ (x ∷ []); out = m.out }

-- the line that a text leaves begun
pub feed-begins : (m : Machine) (xs : List ℕ) → (feed m xs).line ≡ line_after m.line xs
unfolding feed feed_byte end_line line_after
feed-begins m [] = refl
feed-begins m (x ∷ xs) =
    go (eqb x 10) (feed-begins (end_line m) xs ∙ ap (λ (y : List ℕ). line_after y xs) (answer-begins m (read_line m.line))) (feed-begins (begins_with m x) xs)
  where
    go : (b : Bool) → (feed (end_line m) xs).line ≡ line_after [] xs → (feed (begins_with m x) xs).line ≡ line_after (m.line ++ (x ∷ [])) xs
        → (feed (cond b (end_line m) (begins_with m x)) xs).line ≡ cond b (line_after [] xs) (line_after (m.line ++ (x ∷ [])) xs)
    go true i j = i
    go false i j = j

-- the lines of a text
none-answered : {l l' : Ledger} {s s' t : List ℕ} (m : Machine) → Stands (book_of l) s m.stored → AnswersLines l s [] l' s' t → Reaches l' s' m m t
none-answered m h done = (h, sym (append-nil m.out))

some-answered : {l l' : Ledger} {s s' t : List ℕ} {o : Option (List ℕ)} {os : List (Option (List ℕ))} (m n : Machine) → Stands (book_of l) s m.stored
    → ((k : Ledger) (r u : List ℕ) → Stands (book_of k) r (answer_line m o).stored → AnswersLines k r os l' s' u → Reaches l' s' (answer_line m o) n u)
    → AnswersLines l s (o ∷ os) l' s' t → Reaches l' s' m n t
some-answered m n h f (next {t = t} {ts = ts} a c) =
    let r = answers-machine m h a in
    let w = f _ _ ts r.0 c in
    (w.0, w.1 ∙ ap (λ (x : List ℕ). x ++ ts) r.1 ∙ append_assoc m.out t ts)

pub feed-answers : {l l' : Ledger} {s s' t : List ℕ} (m : Machine) (xs : List ℕ) → Stands (book_of l) s m.stored
    → AnswersLines l s (lines_of m.line xs) l' s' t → Reaches l' s' m (feed m xs) t
unfolding feed feed_byte end_line lines_of
feed-answers m [] h a = none-answered m h a
feed-answers {l} {l'} {s} {s'} {t} m (x ∷ xs) h a =
    go (eqb x 10)
    (λ k r u g d.
    feed-answers (end_line m) xs g
    (subst (λ (y : List ℕ). AnswersLines k r (lines_of y xs) l' s' u) (sym (answer-begins m (read_line m.line))) d))
    (λ c. feed-answers (begins_with m x) xs h c)
    a
  where
    go : (b : Bool)
        → ((k : Ledger) (r u : List ℕ) → Stands (book_of k) r (end_line m).stored → AnswersLines k r (lines_of [] xs) l' s' u
        → Reaches l' s' (end_line m) (feed (end_line m) xs) u)
        → (AnswersLines l s (lines_of (m.line ++ (x ∷ [])) xs) l' s' t → Reaches l' s' m (feed (begins_with m x) xs) t)
        → AnswersLines l s (cond b (read_line m.line ∷ lines_of [] xs) (lines_of (m.line ++ (x ∷ [])) xs)) l' s' t
        → Reaches l' s' m (feed (cond b (end_line m) (begins_with m x)) xs) t
    go true i j c = some-answered m (feed (end_line m) xs) h i c
    go false i j c = j c

-- the last line
pub last-answers : {l l' : Ledger} {s s' t : List ℕ} (m : Machine) (y : List ℕ) → m.line ≡ y → Stands (book_of l) s m.stored
    → AnswersLines l s (last_of y) l' s' t → Reaches l' s' m (last_line m y) t
unfolding last_line last_of end_line
last-answers m [] e h a = none-answered m h a
last-answers {l} {l'} {s} {s'} {t} m (c ∷ cs) e h a =
    some-answered m (end_line m) h (λ k r u g d. none-answered (end_line m) g d)
    (subst (λ (y : List ℕ). AnswersLines l s (read_line y ∷ []) l' s' t) (sym e) a)

-- the ledger, its store and the line so far are where the machine is
pub record Follows (l : Ledger) (s buffer : List ℕ) (fill : ℕ) (m : Machine) : Type 0 where
  pub stands : Stands (book_of l) s m.stored
  pub keeps : Keeps buffer fill m.line

-- they stay where it is, and the machine puts out the same
module _ {l l' : Ledger} {s s' buffer buffer' xs ys : List ℕ} {fill fill' : ℕ} (m : Machine) (f : Follows l s buffer fill m)
    (v : Moves l s buffer fill xs ys l' s' buffer' fill') where
  pub moves-follows : Follows l' s' buffer' fill' (feed m xs)
  moves-follows =
      record {
        stands = (feed-answers m xs f.stands (v.answers m.line f.keeps)).0;
        keeps = subst (Keeps buffer' fill') (sym (feed-begins m xs)) (v.keeps m.line f.keeps);
      }

  pub moves_out : (feed m xs).out ≡ m.out ++ ys
  moves_out = (feed-answers m xs f.stands (v.answers m.line f.keeps)).1
