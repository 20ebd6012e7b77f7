-- Document 02, E4, "How two updates stand to each other": the causal order of two updates, by Ancestor alone; the pair turned round; and the answer as it is
-- computed from three tests. `rules` and `S` are those of `Standing`.
use Rattle.std.specs.Prelude.{◌≡◌, List, ℕ, Bool, true, false}
use Rattle.bytes_order.specs.Member.{◌∈◌}
use Rattle.update_format.specs.Update.{Update}
use Rattle.rules.specs.declared.CausalOrder.{CausalOrder}
use Rattle.rules.specs.declared.CausalOrder.TheVariants.{Same, Before, After, Apart}
use Rattle.rules.specs.Standing.{Rules, Ancestor, Held}

module _ (rules : Rules) (S : List Update) where
  -- "apart otherwise" (the field's word is concurrent)
  pub record Concurrent (u v : Update) : Type 0 where
    pub not_same : u ≡ v → ⊥
    pub not-before : Ancestor rules S u v → ⊥
    pub not_after : Ancestor rules S v u → ⊥

  -- "same exactly for one and the same update, before exactly when the first is an ancestor of the second, after the other way round, apart otherwise": u stands so
  -- to v
  abbrev pub Causal : CausalOrder → Update → Update → Type 0
  Causal Same u v = u ≡ v
  Causal Before u v = Ancestor rules S u v
  Causal After u v = Ancestor rules S v u
  Causal Apart u v = Concurrent u v

  -- The answer is that of u and v: "exactly", so each of the four is so where it is the answer and is the answer where it is so; and no two of them are so.
  pub record OrderExactly (u v : Update) (answer : CausalOrder) : Type 0 where
    pub right : (o : CausalOrder) → answer ≡ o → Causal o u v
    pub all : (o : CausalOrder) → Causal o u v → answer ≡ o
    pub one : (o p : CausalOrder) → Causal o u v → Causal p u v → o ≡ p

  -- document 01's heads, forks and antichain rule by this order; the laws say that they are the same

  -- a head: no held update is after it
  pub record HeadByOrder (u : Update) : Type 0 where
    pub is-held : Held rules S u
    pub none_after : (v : Update) → Held rules S v → Causal After v u → ⊥

  -- a fork: two held updates of the author are apart
  pub record ForkedByOrder (author : ℕ) : Type 0 where
    pub one : Update
    pub other : Update
    pub one-held : Held rules S one
    pub other-held : Held rules S other
    pub one-by : one.author ≡ author
    pub other-by : other.author ≡ author
    pub are-apart : Causal Apart one other

  -- the antichain rule: of two predecessors none is before or after the other
  pub record AntichainByOrder (u : Update) : Type 0 where
    pub none_before : (x y : Update) → x ∈ S → y ∈ S → rules.ident x ∈ u.preds → rules.ident y ∈ u.preds → (x ≡ y → ⊥) → Causal Before x y → ⊥
    pub none_after : (x y : Update) → x ∈ S → y ∈ S → rules.ident x ∈ u.preds → rules.ident y ∈ u.preds → (x ≡ y → ⊥) → Causal After x y → ⊥

-- "For the same pair turned round, before and after change places and the other two stay."
unfoldable pub turned : CausalOrder → CausalOrder
turned Same = Same
turned Before = After
turned After = Before
turned Apart = Apart

-- The answer, from three tests: the two are one; the first is among the second's ancestors; the second is among the first's. That one is its own ancestor, or that each
-- is the other's, no held updates say. There the answer is Same for the one, and Apart for the two: of the four only these stay for the pair turned round, and Same is
-- for one alone.
unfoldable pub order_by : Bool → Bool → Bool → CausalOrder
order_by true first second = Same
order_by false true false = Before
order_by false false true = After
order_by false false false = Apart
order_by false true true = Apart

-- tests of an answer

unfoldable pub is_before : CausalOrder → Bool
is_before Same = false
is_before Before = true
is_before After = false
is_before Apart = false

unfoldable pub is_apart : CausalOrder → Bool
is_apart Same = false
is_apart Before = false
is_apart After = false
is_apart Apart = true

unfoldable pub before_or_after : CausalOrder → Bool
before_or_after Same = false
before_or_after Before = true
before_or_after After = true
before_or_after Apart = false

unfoldable pub same_or_before : CausalOrder → Bool
same_or_before Same = true
same_or_before Before = true
same_or_before After = false
same_or_before Apart = false
