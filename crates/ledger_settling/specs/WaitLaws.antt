-- In a ledger that stands, each place that waits is judged to go on waiting; and so it is once the next place is taken, by an update that waits.
use Rattle.std.specs.Prelude.{◌≡◌, ℕ, ◌+◌, ◌≤◌, ◌<◌, Bool, length}
use Rattle.std.proofs.Math.Path.{refl, ap}
use Rattle.std.proofs.Common.{sym, ◌∙◌, arith, eq-or-lt_of_le}
use Rattle.std.proofs.Math.Logic.{⊎_elim}
use mathlib.Core.List.{List, [], ◌∷◌}
use Rattle.std.specs.Prelude.{Option, None, Some}
use Rattle.std.proofs.Math.Bool.{true, false, cond}
use Rattle.std.proofs.lemmas.Bool.{false≢true}
use Rattle.bytes_order.specs.BoolLaws.{true-false}
use Rattle.bytes_order.specs.Order.{same}
use Rattle.update_format.specs.Update.{max_length, Id, Operation, Update}
use Rattle.update_format.specs.Decode.{Decoded, refused, update, decode, slice}
use Rattle.bitset.specs.Bits.{including, join}
use Rattle.bitset.specs.BelowLaws.{first_below-some→, first_below-some←, first_below-none→}
use Rattle.rules.specs.declared.Standing.{Standing}
use Rattle.rules.specs.declared.Standing.TheVariants.{Held, Waiting, Void}
use Rattle.ledger_judging.specs.declared.Gathered.{Gathered}
use Rattle.ledger_judging.specs.declared.Judgement.{Judgement}
use Rattle.ledger_judging.specs.declared.Judgement.TheVariants.{Holds as Judged-holds, Fails, Waits}
use Rattle.bytes_copy.specs.Overwritten.{overwritten}
use Rattle.bytes_copy.specs.OverwrittenLaws.{overwritten-before}
use Rattle.ledger_state.specs.State.{Place, Book, place_at, stored_at, decoded_at, with_taken, find_in, start_of}
use Rattle.ledger_judging.specs.Antichain.{antichain_at}
use Rattle.ledger_judging.specs.Judge.{nothing_gathered, gather_by, gather_at, gather, valid, judge_ready, judge_gathered, judge_decoded, judge_at}
use Rattle.ledger_settling.specs.Settle.{is_waits, OthersWait}
use Rattle.ledger_state.specs.Stands.{Stands}
use Rattle.ledger_state.proofs.Row1Laws.{start-next, start-inside, holds-sound}
use Rattle.ledger_state.specs.FindLaws.{find-taken}
use Rattle.ledger_judging.specs.JudgeLaws.{judged-held, judged-void}
use Rattle.ledger_state.proofs.TakeLaws.{taken-new, taken-old}

waits-judged : (l : Book) (s : List ℕ) (us : List Update) → Stands l s us
    → (k : ℕ) → k < length us → (place_at l k).standing ≡ Waiting → judge_at l s k ≡ Waits
waits-judged l s us stands k h q = by (judge_at l s k) refl
  where
    by : (j : Judgement) → judge_at l s k ≡ j → j ≡ Waits
    by (Judged-holds w) e =
        absurd ((stands.settled.waiting_right k h q).not-held (judged-held l s us stands.holds stands.truthful k w h e))
    by Fails e = absurd ((stands.settled.waiting_right k h q).not-void (judged-void l s us stands.holds stands.truthful k h e))
    by Waits e = refl

-- whether a place goes on waiting is said by what is gathered alone
module _ (l m : Book) (s t : List ℕ) where
  ready-decides : (o : Operation) (d a : ℕ) → is_waits (judge_ready l s o d a) ≡ false
  unfolding judge_ready is_waits
  ready-decides o d a = by (antichain_at l d) (valid l s (join d a) o)
    where
      by : (x y : Bool) → is_waits (cond x (cond y (Judged-holds (join d a)) Fails) Fails) ≡ false
      by true true = refl
      by true false = refl
      by false y = refl

  gathered-waits : (o : Operation) (g : Gathered) → judge_gathered l s o g ≡ Waits → judge_gathered m t o g ≡ Waits
  unfolding judge_gathered is_waits
  gathered-waits o g = by g.void g.ready
    where
      by : (v r : Bool) → cond v Fails (cond r (judge_ready l s o g.direct g.above) Waits) ≡ Waits
          → cond v Fails (cond r (judge_ready m t o g.direct g.above) Waits) ≡ Waits
      by true r e = absurd (false≢true (ap is_waits e))
      by false true e = absurd (true-false (ap is_waits e) (ready-decides o g.direct g.above))
      by false false e = refl

  pub decoded-waits : (d : Decoded) → ((u : Update) → d ≡ update u → gather m nothing_gathered u.preds ≡ gather l nothing_gathered u.preds)
      → judge_decoded l s d ≡ Waits → judge_decoded m t d ≡ Waits
  unfolding judge_decoded
  decoded-waits (refused n) f e = refl
  decoded-waits (update u) f e = ap (judge_gathered m t u.op) (f u refl) ∙ gathered-waits u.op (gather l nothing_gathered u.preds) e

-- a place that is the same says the same
pub gather-same : (l m : Book) (g : Gathered) (j : ℕ) → place_at m j ≡ place_at l j → gather_at m g (Some j) ≡ gather_at l g (Some j)
gather-same l m g j at = ap (gather_by m g j) (ap (λ (p : Place). p.standing) at) ∙ by (place_at l j).standing
  where
    by : (v : Standing) → gather_by m g j v ≡ gather_by l g j v
    by Held = ap (λ (p : Place). record { ready = g.ready; void = g.void; direct = including g.direct j; above = join g.above p.ancestors }) at
    by Waiting = refl
    by Void = refl

-- the next place is taken, under the id i
module _ (l : Book) (i : Id) (n : ℕ) where
  abbrev taken : Book
  taken = with_taken l i n

  at_old : (k : ℕ) → k < l.used → place_at taken k ≡ place_at l k
  at_old k h = taken-old l i n k (λ (e : k ≡ l.used). omega arith)

  -- an id is found where it was; where it was not, at most at the new place, which says what a missing one says
  module _ (x : Id) where
    is_at : Book → ℕ → Bool
    is_at m k = same (place_at m k).id x

    same_test : (k : ℕ) → k < l.used → is_at taken k ≡ is_at l k
    unfolding is_at
    same_test k h = ap (λ (p : Place). same p.id x) (at_old k h)

    found-old : (j : ℕ) → find_in l x ≡ Some j → find_in taken x ≡ Some j
    unfolding find_in is_at
    found-old j e =
        let r = first_below-some→ l.used (is_at l) e in
        first_below-some← (l.used + 1) (is_at taken) j (omega (arith, r.0)) (same_test j r.0 ∙ r.1)
        (λ k h. same_test k (omega (arith, r.0)) ∙ r.2 k h)

    found-new : find_in l x ≡ None → (j : ℕ) → find_in taken x ≡ Some j → (place_at taken j).standing ≡ Waiting
    unfolding find_in is_at
    found-new e j f =
        let r = first_below-some→ (l.used + 1) (is_at taken) f in
        ⊎_elim
        (λ (q : j ≡ l.used). ap (λ (k : ℕ). (place_at taken k).standing) q ∙ ap (λ (p : Place). p.standing) (taken-new l i n))
        (λ (h : j < l.used). absurd (true-false r.1 (same_test j h ∙ first_below-none→ l.used (is_at l) e j h)))
        (eq-or-lt_of_le (omega (arith, r.0)))

    gather-one : (g : Gathered) → gather_at taken g (find_in taken x) ≡ gather_at l g (find_in l x)
    gather-one g = by (find_in l x) refl
      where
        missing : (o : Option ℕ) → ((j : ℕ) → o ≡ Some j → (place_at taken j).standing ≡ Waiting) → gather_at taken g o ≡ gather_at l g None
        missing None f = refl
        missing (Some j) f = ap (gather_by taken g j) (f j refl)

        by : (o : Option ℕ) → find_in l x ≡ o → gather_at taken g (find_in taken x) ≡ gather_at l g o
        by None e = missing (find_in taken x) (found-new e)
        by (Some j) e = ap (gather_at taken g) (found-old j e) ∙ gather-same l taken g j (at_old j (find-taken l x j e))

  gather-taken : (g : Gathered) (is : List Id) → gather taken g is ≡ gather l g is
  unfolding gather
  gather-taken g [] = refl
  gather-taken g (x ∷ xs) = ap (λ (h : Gathered). gather taken h xs) (gather-one x g) ∙ gather-taken (gather_at l g (find_in l x)) xs

-- where the ledger stood, the others wait once the next place is taken and its bytes are written
pub taken-others : (l : Book) (s : List ℕ) (us : List Update) → Stands l s us → (i : Id) (b : List ℕ) → l.used < l.terms.places → length b ≤ max_length l.terms.bounds
    → OthersWait (with_taken l i (length b)) (overwritten s (start_of l.terms l.used) b)
unfolding judge_at
taken-others l s us stands i b free short k h q =
    let r = with_taken l i (length b) in
    let s' = overwritten s (start_of l.terms l.used) b in
    let holds = stands.holds in
    let inside : k < l.used = omega arith in
    let old : place_at r k ≡ place_at l k = at_old l i (length b) k inside in
    let stored : stored_at r s' k ≡ stored_at l s k =
    ap (λ (p : Place). slice s' (start_of l.terms k) p.length) old
    ∙ overwritten-before s (start_of l.terms l.used) b (omega (arith, holds.store_whole, start-inside l.terms l.used free, short)) (start_of l.terms k) (place_at l k).length
    (omega (arith, ((holds-sound l s us holds).each k inside).short, start-next l.terms k l.used inside)) in
    ap (λ (x : List ℕ). judge_decoded r s' (decode l.terms.bounds x)) stored
    ∙ decoded-waits l r s s' (decoded_at l s k) (λ u _. gather-taken l i (length b) nothing_gathered u.preds)
    (waits-judged l s us stands k (omega (arith, holds.number)) (ap (λ (p : Place). p.standing) (sym old) ∙ q))
