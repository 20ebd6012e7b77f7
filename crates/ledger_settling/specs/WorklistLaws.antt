-- The steps of the worklist: the first place judged; for each place of the worklist, its successors looked for among all places, and judged; the end.
use Rattle.std.specs.Prelude.{◌≡◌, ℕ, ◌+◌, ◌≤◌, ◌<◌, ◌⊎◌, List, [], ◌∷◌, ◌++◌, true, false, ◌&&◌, length, get_or, drop}
use Rattle.std.proofs.Math.Path.{refl}
use Rattle.std.proofs.Common.{sym, ◌∙◌, ap, subst, zero-le, arith, eq-or-lt_of_le, add-one, inr, ⊎_elim, length-append, drop_of_length-le, drop-cons}
use Rattle.std.proofs.Math.Logic.{inl}
use mathlib.Core.List.Memᴰ
use Rattle.std.proofs.lemmas.List.{drop-append-le}
use Rattle.bytes_order.specs.BoolLaws.{true-false}
use Rattle.bytes_order.specs.Member.{◌∈◌}
use Rattle.bytes_order.specs.MemberLaws.{∈-append-left, ∈-append-right, ∈-cases}
use Rattle.update_format.specs.Update.{Id}
use Rattle.rules.specs.declared.Standing.{Standing}
use Rattle.rules.specs.declared.Standing.TheVariants.{Held as IsHeld, Waiting as IsWaiting, Void as IsVoid}
use Rattle.ledger_judging.specs.declared.Judgement.TheVariants.{Waits}
use Rattle.ledger_state.specs.State.{Book, place_at, with_standing, is_waiting}
use Rattle.ledger_judging.specs.Judge.{judge_at}
use Rattle.ledger_settling.specs.Settle.{start, held, void, OthersWait, SettledFrom, follows_at}
use Rattle.ledger_settling.specs.Worklist.{Due, Successor, Progress, unsettled, Judged, waits, holds, fails, WorklistAt, SuccessorsAt}
use Rattle.ledger_settling.specs.DueLaws.{follows-kept, successor-kept, due-settled, due-more}

-- the worklist with one place more
module _ (ws : List ℕ) (k : ℕ) where
  abbrev pushed : List ℕ
  pushed = ws ++ (k ∷ [])

  rest-pushed : (i : ℕ) → i < length ws → drop (i + 1) pushed ≡ drop (i + 1) ws ++ (k ∷ [])
  rest-pushed i h = drop-append-le (i + 1) ws (k ∷ []) (omega arith)

  pushed-longer : (i : ℕ) → i < length ws → i < length pushed
  pushed-longer i h = omega (arith, length-append ws (k ∷ []))

-- successors of fewer places are successors of more
successor-more : {l : Book} {s ps qs : List ℕ} {k : ℕ} → ((j : ℕ) → j ∈ ps → j ∈ qs) → Successor l s ps k → Successor l s qs k
successor-more f x = record { predecessor = x.predecessor; among = f x.predecessor x.among; named = x.named }

module _ (l : Book) (s : List ℕ) where
  -- at first only the newest place, n, is due
  newest-due : (n : ℕ) → n + 1 ≡ l.used → OthersWait l s → Due l s (λ (k : ℕ). k ≡ n)
  newest-due n last others k h q =
      ⊎_elim (λ (g : k ≡ n). inr g) (λ (g : k < n). inl (others k (omega arith) q)) (eq-or-lt_of_le {n = k} {m = n} (omega arith))

  module _ {n : ℕ} (last : n + 1 ≡ l.used) where
    first-settled : (v : Standing) (w : ℕ) → is_waiting v ≡ false → OthersWait l s → Due (with_standing l n v w) s (Successor (with_standing l n v w) s (n ∷ []))
    first-settled v w settled others =
        due-more (with_standing l n v w) s (λ (k : ℕ). ((k ≡ n → ⊥) × (k ≡ n)) ⊎ (follows_at l s (place_at l n).id k ≡ true))
        (Successor (with_standing l n v w) s (n ∷ []))
        (λ k h q x.
        ⊎_elim (λ (y : (k ≡ n → ⊥) × (k ≡ n)). absurd (y.0 y.1))
        (λ (y : follows_at l s (place_at l n).id k ≡ true).
        inr (successor-kept l n v w (record { predecessor = n; among = Memᴰ.head refl; named = y })))
        x)
        (due-settled l n v w s (λ (k : ℕ). k ≡ n) settled (newest-due n last others))

    -- the newest place was judged
    pub first-judged : {p : Progress} → (place_at l n).standing ≡ IsWaiting → Judged s n (unsettled l) p → WorklistAt l s 0 p
    unfolding is_waiting
    first-judged waiting (waits e) =
        record {
          reached = start;
          due = λ others.
              due-more l s (λ (k : ℕ). k ≡ n) (Successor l s []) (λ k h q g. inl (ap (judge_at l s) g ∙ e)) (newest-due n last others);
        }
    first-judged waiting (holds {w = w} e) =
        record { reached = held {k = n} start (omega arith) waiting e; due = first-settled IsHeld w refl }
    first-judged waiting (fails e) =
        record { reached = void {k = n} start (omega arith) waiting e; due = first-settled IsVoid 0 refl }

  -- the successors of the place at index i come next
  module _ {i : ℕ} {p : Progress} (listed : i < length p.worklist) (u : WorklistAt l s i p) where
    abbrev n : ℕ
    n = get_or p.worklist i 0

    next-first : drop i p.worklist ≡ n ∷ drop (i + 1) p.worklist
    next-first = drop-cons p.worklist i 0 listed ∙ ap (λ (m : ℕ). n ∷ drop m p.worklist) (sym (add-one i))

    pub successors-begin : SuccessorsAt l s i (place_at p.book (get_or p.worklist i 0)).id 0 p
    successors-begin =
        record {
          reached = u.reached;
          listed = listed;
          due = λ others.
              due-more p.book s (Successor p.book s (drop i p.worklist))
              (λ (k : ℕ). Successor p.book s (drop (i + 1) p.worklist) k ⊎ ((0 ≤ k) × (follows_at p.book s (place_at p.book n).id k ≡ true)))
              (λ k h q x. inr (by k x (∈-cases (subst (λ (ws : List ℕ). x.predecessor ∈ ws) next-first x.among))))
              (u.due others);
        }
      where
        by : (k : ℕ) (x : Successor p.book s (drop i p.worklist) k) → (x.predecessor ≡ n) ⊎ (x.predecessor ∈ drop (i + 1) p.worklist)
            → Successor p.book s (drop (i + 1) p.worklist) k ⊎ ((0 ≤ k) × (follows_at p.book s (place_at p.book n).id k ≡ true))
        by k x (inl y) = inr (zero-le, subst (λ (j : ℕ). follows_at p.book s (place_at p.book j).id k ≡ true) y x.named)
        by k x (inr y) = inl (record { predecessor = x.predecessor; among = y; named = x.named })

  -- the place k is looked at
  module _ {i k : ℕ} {x : Id} {p : Progress} (u : SuccessorsAt l s i x k p) where
    abbrev Left : Book → List ℕ → ℕ → ℕ → Type 0
    Left m ws least j = Successor m s (drop (i + 1) ws) j ⊎ ((least ≤ j) × (follows_at m s x j ≡ true))

    -- it goes on waiting, or is not one that waits for x
    not-settled : ((place_at p.book k).standing ≡ IsWaiting → follows_at p.book s x k ≡ true → judge_at p.book s k ≡ Waits) → SuccessorsAt l s i x (k + 1) p
    not-settled here =
        record {
          reached = u.reached;
          listed = u.listed;
          due = λ others.
              due-more p.book s (Left p.book p.worklist k) (Left p.book p.worklist (k + 1)) (λ j h q z. by j q z) (u.due others);
        }
      where
        by : (j : ℕ) → (place_at p.book j).standing ≡ IsWaiting → Left p.book p.worklist k j
            → (judge_at p.book s j ≡ Waits) ⊎ Left p.book p.worklist (k + 1) j
        by j q (inl y) = inr (inl y)
        by j q (inr y) =
            ⊎_elim
            (λ (g : k ≡ j).
            inl
            (subst (λ (m : ℕ). (place_at p.book m).standing ≡ IsWaiting → follows_at p.book s x m ≡ true → judge_at p.book s m ≡ Waits) g here q y.1))
            (λ (g : k < j). inr (inr (omega arith, y.1)))
            (eq-or-lt_of_le y.0)

    pub place-passed : (is_waiting (place_at p.book k).standing && follows_at p.book s x k) ≡ false → SuccessorsAt l s i x (k + 1) p
    unfolding is_waiting
    place-passed e =
        not-settled (λ q f. absurd (true-false (ap (λ (v : Standing). is_waiting v && follows_at p.book s x k) q ∙ f) e))

    -- it is settled, and goes on the worklist
    due-pushed : (v : Standing) (w : ℕ) → is_waiting v ≡ false → OthersWait l s
        → Due (with_standing p.book k v w) s (Left (with_standing p.book k v w) (pushed p.worklist k) (k + 1))
    due-pushed v w settled others =
        due-more m s (λ (j : ℕ). ((j ≡ k → ⊥) × Left p.book p.worklist k j) ⊎ (follows_at p.book s (place_at p.book k).id j ≡ true))
        (Left m (pushed p.worklist k) (k + 1)) (λ j h q z. inr (by j z))
        (due-settled p.book k v w s (Left p.book p.worklist k) settled (u.due others))
      where
        m : Book
        m = with_standing p.book k v w

        on-rest : {j : ℕ} → j ∈ drop (i + 1) p.worklist ++ (k ∷ []) → j ∈ drop (i + 1) (pushed p.worklist k)
        on-rest {j} = subst (λ (ws : List ℕ). j ∈ ws) (sym (rest-pushed p.worklist k i u.listed))

        old : (j : ℕ) → (j ≡ k → ⊥) → Left p.book p.worklist k j → Left (with_standing p.book k v w) (pushed p.worklist k) (k + 1) j
        old j ne (inl y) = inl (successor-more (λ a n. on-rest (∈-append-left (k ∷ []) n)) (successor-kept p.book k v w y))
        old j ne (inr y) = inr (omega (arith, y.0, ne), follows-kept p.book k v w s x j ∙ y.1)

        by : (j : ℕ) → ((j ≡ k → ⊥) × Left p.book p.worklist k j) ⊎ (follows_at p.book s (place_at p.book k).id j ≡ true)
            → Left (with_standing p.book k v w) (pushed p.worklist k) (k + 1) j
        by j (inl y) = old j y.0 y.1
        by j (inr y) =
            inl
            (successor-kept p.book k v w
            (record { predecessor = k; among = on-rest (∈-append-right (drop (i + 1) p.worklist) (Memᴰ.head refl)); named = y }))

    pub place-judged : {q : Progress} → k < p.book.used → (place_at p.book k).standing ≡ IsWaiting → Judged s k p q → SuccessorsAt l s i x (k + 1) q
    unfolding is_waiting
    place-judged inside waiting (waits e) = not-settled (λ _ _. e)
    place-judged inside waiting (holds {w = w} e) =
        record {
          reached = held u.reached inside waiting e;
          listed = pushed-longer p.worklist k i u.listed;
          due = due-pushed IsHeld w refl;
        }
    place-judged inside waiting (fails e) =
        record {
          reached = void u.reached inside waiting e;
          listed = pushed-longer p.worklist k i u.listed;
          due = due-pushed IsVoid 0 refl;
        }

    -- all places were looked at
    pub successors-end : p.book.used ≤ k → WorklistAt l s (i + 1) p
    successors-end all =
        record {
          reached = u.reached;
          due = λ others.
              due-more p.book s (Left p.book p.worklist k) (Successor p.book s (drop (i + 1) p.worklist))
              (λ j h q z.
              inr
              (⊎_elim (λ (y : Successor p.book s (drop (i + 1) p.worklist) j). y)
              (λ (y : (k ≤ j) × (follows_at p.book s x j ≡ true)). absurd (omega (arith, y.0)))
              z))
              (u.due others);
        }

  -- the worklist is at its end
  pub worklist-end : {i : ℕ} {p : Progress} → length p.worklist ≤ i → WorklistAt l s i p → SettledFrom l s p.held p.void p.book
  worklist-end {i} {p} all u =
      record {
        reached = u.reached;
        done = λ others k h q.
            ⊎_elim (λ (x : judge_at p.book s k ≡ Waits). x)
            (λ (x : Successor p.book s (drop i p.worklist) k).
            absurd (Memᴰ.not-nil (subst (λ (ws : List ℕ). x.predecessor ∈ ws) (drop_of_length-le p.worklist all) x.among)))
            (u.due others k h q);
      }
