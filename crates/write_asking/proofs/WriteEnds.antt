-- What the writer has shown at each of its ends.
use mathlib.Core.Path.{◌≡◌, refl, sym, ap, subst, ◌∙◌}
use Prim.Native.Nat.{ℕ, ◌+◌, ◌≤◌, ◌<◌}
use Rattle.std.proofs.Common.{⊎_elim}
use Rattle.std.specs.Prelude.{◌⊎◌}
use native.Mathlib.Nat.{zero-add}
use mathlib.Core.List.{List, ◌++◌}
use mathlib.Core.Bool.{Bool, true, false}
use lib.ListN.{length, take, drop}
use lib.Seq.{take_at}
use Rattle.update_format.specs.Update.{id_length, tag_length, Operation, Update, encode, Bounded}
use Rattle.update_format.specs.Slices.{SizedIds}
use Rattle.update_format.specs.Decode.{decode, update}
use Rattle.update_format.specs.Laws.{encode-within, decode-complete}
use Rattle.rules.specs.Writing.{writable_of}
use Rattle.ledger_judging.specs.declared.Judgement.{Judgement}
use Rattle.ledger_judging.specs.declared.Judgement.TheVariants.{Holds, Fails, Waits}
use Rattle.ledger_judging.specs.Judge.{judge_decoded}
use Rattle.rules.proofs.TermsLaws.{some-predecessors}
use Rattle.ledger_state.specs.State.{Book}
use Rattle.ledger_state.proofs.Row1Laws.{sound→}
use Rattle.ledger_state.specs.Stands.{rules, Stands}
use Rattle.bytes_print.specs.Page.{Prints}
use Rattle.write_operations.specs.declared.draft.Draft.{Draft}
use Rattle.write_operations.specs.Drafted.{drafted}
use Rattle.ledger_refusals.specs.Numbers.{row11_number, row12_number, put_bytes, refused_by, Output}
use Rattle.write_layout.specs.Written.{written_at}
use Rattle.write_layout.specs.WrittenLaws.{laid_by}
use Rattle.write_layout.specs.ChooseRight.{chosen-right, writable-holds, unwritable-fails}
use Rattle.write_asking.specs.Write.{WrittenUpdate, Writing, invalid, short, written, WellAsked}
use Rattle.write_asking.specs.BoundLaws.{operation-bounded}

holds-fails : {h : ℕ} → Holds h ≡ Fails → ⊥
holds-fails e = cc

holds-waits : {h : ℕ} → Holds h ≡ Waits → ⊥
holds-waits e = cc

-- the first n bytes of a page on which an update is printed
pub cut-is : (u : Update) {page page₁ : List ℕ} {n : ℕ} → Prints page 0 (encode u) page₁ n → n ≤ length page → take n page₁ ≡ encode u
cut-is u {page} {page₁} {n} prints room =
    ap (take n) (prints.fits room) ∙ take_at (encode u) (drop (0 + length (encode u)) page) n (sym (prints.past ∙ zero-add (length (encode u))))

module _ (l : Book) (s : List ℕ) (a : ℕ) (d : Draft) where
  abbrev op : Operation
  op = drafted d

  abbrev new : Update
  new = written_at l s a (drafted d)

  -- what is promised of an output buffer o and its answer
  abbrev Ends : List ℕ → Output → List ℕ → Type 0
  Ends o v o' = Writing l s a d.kind d.tag d.id d.named.now o v o'

  -- the lengths of the tag, of the id, and of the ids that are named as predecessors
  pub record Sized : Type 0 where
    pub tag_sized : length d.tag ≡ tag_length
    pub id_sized : length d.id ≡ id_length
    pub preds_sized : SizedIds new.preds

  bounded : WellAsked l s a d.named.now → Sized → Bounded l.terms.bounds new
  bounded asked sized =
      laid_by l s (some-predecessors l.terms (sound→ l s asked.fits).terms_allowed) a op asked.author_small
      (operation-bounded d.kind d.tag d.id d.named.now sized.tag_sized sized.id_sized d.named_good asked.named_ordered) sized.preds_sized

  -- what the writer knows once it has judged: n is the update's length, and j the judgement of it
  pub record Judged (n : ℕ) (j : Judgement) : Type 0 where
    pub asked : WellAsked l s a d.named.now
    pub sized : Sized
    pub long : n ≡ length (encode new)
    pub judged : j ≡ judge_decoded l s (update new)

  pub judged-by : WellAsked l s a d.named.now → Sized → {page page₁ : List ℕ} {n : ℕ} {j : Judgement} → Prints page 0 (encode new) page₁ n → n ≤ length page
      → j ≡ judge_decoded l s (decode l.terms.bounds (take n page₁)) → Judged n j
  judged-by asked sized prints room e = record {
    asked = asked;
    sized = sized;
    long = prints.past ∙ zero-add (length (encode new));
    judged = e ∙ ap (λ (c : List ℕ). judge_decoded l s (decode l.terms.bounds c)) (cut-is new prints room) ∙ ap (judge_decoded l s) (decode-complete new (bounded asked sized));
  }

  module _ {n : ℕ} {j : Judgement} (w : Judged n j) (o : List ℕ) where
    may : (h : ℕ) → j ≡ Holds h → (us : List Update) → Stands l s us → writable_of rules l.terms.bounds.predecessors us a op ≡ true
    may h e us stands = go (writable_of rules l.terms.bounds.predecessors us a op) refl
      where
        go : (c : Bool) → writable_of rules l.terms.bounds.predecessors us a op ≡ c → c ≡ true
        go true f = refl
        go false f = absurd (holds-fails (sym e ∙ w.judged ∙ unwritable-fails l s us stands a op f))

    may-not : ((h : ℕ) → j ≡ Holds h → ⊥) → (us : List Update) → Stands l s us → writable_of rules l.terms.bounds.predecessors us a op ≡ false
    may-not never us stands = go (writable_of rules l.terms.bounds.predecessors us a op) refl
      where
        go : (c : Bool) → writable_of rules l.terms.bounds.predecessors us a op ≡ c → c ≡ false
        go true f = let h = writable-holds l s us stands a op f in absurd (never h.0 (w.judged ∙ h.1))
        go false f = refl

    refused : ((h : ℕ) → j ≡ Holds h → ⊥) → Ends o (refused_by row12_number) o
    refused never = invalid w.asked.fits w.asked.author_small d.named_good w.asked.named_ordered (may-not never)

    pub ended-refused : (j ≡ Fails) ⊎ (j ≡ Waits) → Ends o (refused_by row12_number) o
    ended-refused e = refused (λ h f. ⊎_elim (λ (i : j ≡ Fails). holds-fails (sym f ∙ i)) (λ (i : j ≡ Waits). holds-waits (sym f ∙ i)) e)

    is-written : WrittenUpdate l s a op new
    unfolding written_at
    is-written = record {
      by-author = refl;
      with_operation = refl;
      laid_out = bounded w.asked w.sized;
      at_most = (encode-within new (bounded w.asked w.sized)).1;
      of_rules = λ us stands. chosen-right l s us stands a op;
    }

    pub ended-short : (h : ℕ) → j ≡ Holds h → length o < n → Ends o (refused_by row11_number) o
    ended-short h e g =
        short new w.asked.fits w.asked.author_small d.named_good w.asked.named_ordered (may h e) is-written
        (subst (λ (m : ℕ). length o < m) w.long g)

    pub ended-written : (h : ℕ) → j ≡ Holds h → n ≤ length o → {b : List ℕ} → b ≡ encode new → Ends o (put_bytes n) (b ++ drop n o)
    ended-written h e g is =
        rw (is, w.long)
        (written new w.asked.fits w.asked.author_small d.named_good w.asked.named_ordered (may h e) is-written
        (subst (λ (r : ℕ). r ≤ length o) w.long g))
