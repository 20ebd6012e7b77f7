-- Document 01, "What is read from the held updates", by Held and Ancestor alone; the set as document 02, E5, has it. And document 02, E7: the faults, by Void too, and
-- the marks.
use Rattle.std.specs.Prelude.{◌≡◌, List, [], ◌∷◌, ◌++◌, ℕ, true, length}
use Rattle.bytes_order.specs.Order.{before}
use Rattle.bytes_order.specs.Member.{◌∈◌}
use Rattle.bytes_order.specs.Distinct.{Distinct}
use Rattle.update_format.specs.Update.{Id, Add, Remove, Insert, Delete, Update}
use Rattle.rules.specs.declared.MarkKind.{MarkKind}
use Rattle.rules.specs.declared.MarkKind.TheVariants.{Fork as IsFork, Fault as IsFault, Both as IsBoth}
use Rattle.rules.specs.Standing.{Rules, beginning, Ancestor, Known, Held, PredsHeld, Void}

module _ (rules : Rules) (S : List Update) where
  -- "Heads: held updates that are no held update's ancestor."
  pub record Head (u : Update) : Type 0 where
    pub is-held : Held rules S u
    pub on-top : (v : Update) → Held rules S v → Ancestor rules S u v → ⊥

  -- "Forks are found as before": "an author with two held updates, neither an ancestor of the other." (An equivocation.)
  pub record Forked (author : ℕ) : Type 0 where
    pub one : Update
    pub other : Update
    pub one-held : Held rules S one
    pub other-held : Held rules S other
    pub one-by : one.author ≡ author
    pub other-by : other.author ≡ author
    pub two : rules.ident one ≡ rules.ident other → ⊥
    pub one_apart : Ancestor rules S one other → ⊥
    pub other-apart : Ancestor rules S other one → ⊥

  -- "void while all its predecessors are held"
  pub record Fault (u : Update) : Type 0 where
    pub is-void : Void rules S u
    pub preds-known : Known rules S u
    pub preds-held : PredsHeld rules S u

  -- "An author is marked for a fault if an update of theirs is void while all its predecessors are held."
  pub record Faulty (author : ℕ) : Type 0 where
    pub update : Update
    pub is-fault : Fault update
    pub fault-by : update.author ≡ author

  -- "Mark lines become `(author fork)`, `(author fault)` or `(author both)`.": the author is marked, and for this
  abbrev pub MarkedFor : MarkKind → ℕ → Type 0
  MarkedFor IsFork author = Forked author × (Faulty author → ⊥)
  MarkedFor IsFault author = Faulty author × (Forked author → ⊥)
  MarkedFor IsBoth author = Forked author × Faulty author

  -- a held Remove names the id
  pub record Removed (i : Id) : Type 0 where
    pub by : Update
    pub by-held : Held rules S by
    pub tag : List ℕ
    pub named : List Id
    pub is-remove : by.op ≡ Remove tag named
    pub names : i ∈ named

  -- "Set: the tags with a held Add that no held Remove names.", and "Count a set entry as the same only if tag and adding author both agree.": a held Add of the
  -- tag by the author that no held Remove names
  pub record Present (tag : List ℕ) (author : ℕ) : Type 0 where
    pub add : Update
    pub add-held : Held rules S add
    pub is-add : add.op ≡ Add tag
    pub added-by : add.author ≡ author
    pub kept : Removed (rules.ident add) → ⊥

  -- a held Delete of the id
  pub record Deleted (i : Id) : Type 0 where
    pub by : Update
    pub by-held : Held rules S by
    pub is-delete : by.op ≡ Delete i

  -- "For an update, its rank is the number of its ancestors": n, counted by a list that has each ancestor's id once.
  pub record Rank (u : Update) (n : ℕ) : Type 0 where
    pub ids : List Id
    pub once : Distinct (λ (i : Id). i) ids
    pub counts : (x : Update) → Ancestor rules S x u → rules.ident x ∈ ids
    pub only : (i : Id) → i ∈ ids → (x : Update) × Ancestor rules S x u × (rules.ident x ≡ i)
    pub number : length ids ≡ n

  -- u is a held Insert with this anchor
  pub record InsertAt (anchor : Id) (u : Update) : Type 0 where
    pub is-held : Held rules S u
    pub value : List ℕ
    pub is-insert : u.op ≡ Insert anchor value

  -- "Among siblings higher rank comes first, then the larger id." u comes before v.
  pub record Sooner (u v : Update) : Type 0 where
    pub rank-u : ℕ
    pub rank-v : ℕ
    pub is-rank-u : Rank u rank-u
    pub is-rank-v : Rank v rank-v
    pub larger : before (rank-v ∷ rules.ident v) (rank-u ∷ rules.ident u) ≡ true

  pub data Ordered : List Update → Type 0 where
    none : Ordered []
    first : {u : Update} {us : List Update} → ((v : Update) → v ∈ us → Sooner u v) → Ordered us → Ordered (u ∷ us)

  -- the siblings at an anchor: the held Inserts there, in their order
  pub record Siblings (At : Update → Type 0) (us : List Update) : Type 0 where
    pub ordered : Ordered us
    pub all_in : (u : Update) → At u → u ∈ us
    pub only : (u : Update) → u ∈ us → At u

  -- what stands at the list's beginning, and what hangs under e. The zero anchor is the beginning, whatever ids there are, so nothing hangs
  -- under an Insert whose own id is zero.
  abbrev pub AtBeginning : Update → Type 0
  AtBeginning u = InsertAt beginning u

  abbrev pub Under : Update → Update → Type 0
  Under e u = InsertAt (rules.ident e) u × (rules.ident e ≡ beginning → ⊥)

  -- "List: a tree, each Insert under its anchor, walked parent first, all that hangs under an entry before its next sibling." The walk of
  -- siblings is the second list.
  pub data Walk : List Update → List Update → Type 0 where
    none : Walk [] []
    entry : {e : Update} {es under below next : List Update} → Siblings (Under e) under → Walk under below → Walk es next
        → Walk (e ∷ es) (e ∷ (below ++ next))

  -- "Deleted entries are left out of the list, their children stay." The values of a walk's entries that no held Delete names.
  pub data Shown : List Update → List (List ℕ) → Type 0 where
    none : Shown [] []
    left_out : {e : Update} {es : List Update} {vs : List (List ℕ)} → Deleted (rules.ident e) → Shown es vs → Shown (e ∷ es) vs
    shown : {e : Update} {es : List Update} {a : Id} {v : List ℕ} {vs : List (List ℕ)} → (Deleted (rules.ident e) → ⊥) → e.op ≡ Insert a v
        → Shown es vs → Shown (e ∷ es) (v ∷ vs)

  -- the list: the values shown by the walk of what stands at the beginning
  pub record Listed (vs : List (List ℕ)) : Type 0 where
    pub first : List Update
    pub walk : List Update
    pub siblings : Siblings AtBeginning first
    pub walked : Walk first walk
    pub shows : Shown walk vs
