-- The answers of a bundle, from the rules alone; and what a bundle does to the answer buffer.
use Rattle.std.specs.Prelude.{◌≡◌, refl, ℕ, List, [], ◌∷◌, length, take, drop}
use Rattle.std.proofs.Common.{sym, ap, ◌∙◌, arith, length-append, length-drop, take_at}
use Rattle.std.specs.Prelude.{Some}
use Rattle.update_format.specs.Update.{Update}
use Rattle.update_format.specs.Decode.{decode}
use Rattle.rules.specs.Terms.{Terms}
use Rattle.bundle_format.specs.Bundle.{items_of}
use Rattle.ledger_state.specs.declared.Ledger.{Ledger}
use Rattle.ledger_state.specs.View.{book_of}
use Rattle.ledger_state.specs.Stands.{Stands}
use Rattle.ledger_refusals.specs.Numbers.{Output, put_bytes, refused_by}
use Rattle.ledger_offering.specs.Values.{OfferValues}
use Rattle.ledger_offering.specs.Calls.{Calls, done, call}
use Rattle.ledger_offering.specs.CallsLaws.{offer-terms}
use Rattle.bundle_answers.specs.AnswerBytes.{answers_bytes}
use Rattle.bundle_answers.proofs.AnswerLaws.{calls-answers-length}
use Rattle.bundle_offering.specs.Bundle.{answers_length, BundleRow, unfit, no_bundle, short, answered}
use Rattle.ledger.specs.Calls.{accept_decoded, offer-stands}
use Rattle.ledger.specs.Answers.{answer_for, answer-right}

-- the values of the answers to offers one after the other, to a ledger of these terms, with the updates stored before them: each by what is stored at its own moment
unfoldable pub answers_for : Terms → List Update → List (List ℕ) → List OfferValues
answers_for t us [] = []
answers_for t us (b ∷ bs) = answer_for t us (decode t.bounds b) ∷ answers_for t (accept_decoded t us (decode t.bounds b)) bs

pub calls-answered : {l l' : Ledger} {s s' : List ℕ} {bs : List (List ℕ)} {vs : List OfferValues} (us : List Update) → Stands (book_of l) s us → Calls l s bs vs l' s'
    → vs ≡ answers_for (book_of l).terms us bs
unfolding answers_for
calls-answered us h done = refl
calls-answered us h (call {l = l} {s = s} {b = b} {bs = bs} {vs = vs} o c) =
    let d = decode (book_of l).terms.bounds b in
    let next : List Update = accept_decoded (book_of l).terms us d in
    let e = calls-answered next (offer-stands l s us h b o) c in
    ap (λ (v : OfferValues). v ∷ vs) (answer-right l s us h b o)
    ∙ ap (λ (ws : List OfferValues). answer_for (book_of l).terms us d ∷ ws) (e ∙ ap (λ (t : Terms). answers_for t next bs) (offer-terms o))

-- a bundle that is answered has items, and the bytes written are their answers, six for each
pub record AnsweredAs (us : List Update) (t : Terms) (b o' : List ℕ) (n : ℕ) : Type 0 where
  pub items : List (List ℕ)
  pub read : items_of b ≡ Some items
  pub written : n ≡ answers_length items
  pub answers : take n o' ≡ answers_bytes (answers_for t us items)

-- For a ledger that stands, the answers are the rules'.
pub bundle-right : {l r : Ledger} {s s' b o o' : List ℕ} {v : Output} (us : List Update) → Stands (book_of l) s us → BundleRow l s b o v r s' o'
    → (n : ℕ) → v ≡ put_bytes n → AnsweredAs us (book_of l).terms b o' n
bundle-right us h (unfit e) n q = let z : ◌≡◌ {A = ℕ} 0 1 = cc in absurd (omega arith)
bundle-right us h (no_bundle e r) n q = let z : ◌≡◌ {A = ℕ} 0 1 = cc in absurd (omega arith)
bundle-right us h (short xs e r k) n q = let z : ◌≡◌ {A = ℕ} 0 1 = cc in absurd (omega arith)
bundle-right {o = o} us h (answered xs vs r s' e i k c) n q =
    let p : answers_length xs ≡ n = cc in
    record {
      items = xs;
      read = i;
      written = sym p;
      answers = take_at (answers_bytes vs) (drop (answers_length xs) o) n (calls-answers-length c ∙ p) ∙ ap answers_bytes (calls-answered us h c);
    }

-- the buffer keeps its length, and a refusal leaves ledger, store and buffer as they were
pub bundle-buffer : {l r : Ledger} {s s' b o o' : List ℕ} {v : Output} → BundleRow l s b o v r s' o' → length o' ≡ length o
bundle-buffer (unfit e) = refl
bundle-buffer (no_bundle e r) = refl
bundle-buffer (short xs e r k) = refl
bundle-buffer {o = o} (answered xs vs r s' e i k c) =
    omega (arith, calls-answers-length c, length-append (answers_bytes vs) (drop (answers_length xs) o), length-drop (answers_length xs) o)

pub record Unchanged (l : Ledger) (s o : List ℕ) (r : Ledger) (s' o' : List ℕ) : Type 0 where
  pub ledger : r ≡ l
  pub store : s' ≡ s
  pub buffer : o' ≡ o

pub bundle-refused : {l r : Ledger} {s s' b o o' : List ℕ} {v : Output} → BundleRow l s b o v r s' o' → (n : ℕ) → v ≡ refused_by n → Unchanged l s o r s' o'
bundle-refused (unfit e) n q = record { ledger = refl; store = refl; buffer = refl }
bundle-refused (no_bundle e r) n q = record { ledger = refl; store = refl; buffer = refl }
bundle-refused (short xs e r k) n q = record { ledger = refl; store = refl; buffer = refl }
bundle-refused (answered xs vs r s' e i k c) n q = let z : ◌≡◌ {A = ℕ} 0 1 = cc in absurd (omega arith)
