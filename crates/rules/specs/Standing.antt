-- Document 01, "Held, waiting, void". `rules` is what the rules take, `S` a set of updates: a list of which only the members count, with distinct
-- ids (`Distinct` of keys). Nothing here assumes that the graph has no cycle.
use Rattle.std.specs.Prelude.{◌≡◌, ◌⊎◌, List, ℕ, replicate}
use Rattle.bytes_order.specs.Member.{◌∈◌}
use Rattle.update_format.specs.Update.{Id, id_length, Operation, Add, Remove, Insert, Delete, Update}

-- "An anchor of 32 zero bytes means the list's beginning; elsewhere a zero id is an ordinary id."
abbrev pub beginning : Id
beginning = replicate id_length 0

-- what the rules take: the id function
pub record Rules : Type 0 where
  pub ident : Update → Id

module _ (rules : Rules) (S : List Update) where
  -- "Ancestors are what predecessors reach, the update itself not counted." x is an ancestor of y.
  pub data Ancestor : Update → Update → Type 0 where
    direct : {x y : Update} → x ∈ S → rules.ident x ∈ y.preds → Ancestor x y
    further : {x y z : Update} → y ∈ S → rules.ident y ∈ z.preds → Ancestor x y → Ancestor x z

  -- the id i is that of an ancestor of u, an Add of the tag t
  pub record AddAncestor (u : Update) (t : List ℕ) (i : Id) : Type 0 where
    pub found : Update
    pub above : Ancestor found u
    pub has-id : rules.ident found ≡ i
    pub is-add : found.op ≡ Add t

  -- the id i is that of an ancestor of u, an Insert
  pub record InsertAncestor (u : Update) (i : Id) : Type 0 where
    pub found : Update
    pub above : Ancestor found u
    pub has-id : rules.ident found ≡ i
    pub anchor : Id
    pub value : List ℕ
    pub is-insert : found.op ≡ Insert anchor value

  -- "Validity looks at ancestors only. Add: always valid. Remove: each named id is an ancestor, an Add, of the same tag; m = 0 is valid and
  -- removes nothing. Insert: anchor zero, or an ancestor Insert. Delete: an ancestor Insert; deleting twice is valid."
  abbrev pub Valid : Update → Operation → Type 0
  Valid u (Add t) = Unit {0}
  Valid u (Remove t named) = (i : Id) → i ∈ named → AddAncestor u t i
  Valid u (Insert a v) = (a ≡ beginning) ⊎ InsertAncestor u a
  Valid u (Delete i) = InsertAncestor u i

  -- every predecessor of u is in the set
  pub record Known (u : Update) : Type 0 where
    pub found : (i : Id) → i ∈ u.preds → (v : Update) × (v ∈ S) × (rules.ident v ≡ i)

  -- the antichain rule: "no predecessor is an ancestor of another"
  abbrev pub Antichain : Update → Type 0
  Antichain u = (x y : Update) → x ∈ S → y ∈ S → rules.ident x ∈ u.preds → rules.ident y ∈ u.preds → Ancestor x y → ⊥

  -- "no predecessor is an ancestor of another, and the operation is valid"
  pub record Fine (u : Update) : Type 0 where
    pub antichain : Antichain u
    pub valid : Valid u u.op

  -- "Held: all predecessors are held, no predecessor is an ancestor of another, and the operation is valid."
  pub data Held : Update → Type 0 where
    held : {u : Update} → u ∈ S → Known u → ((v : Update) → v ∈ S → rules.ident v ∈ u.preds → Held v) → Fine u → Held u

  -- every predecessor of u that is in the set is held
  abbrev pub PredsHeld : Update → Type 0
  PredsHeld u = (v : Update) → v ∈ S → rules.ident v ∈ u.preds → Held v

  -- "Void: some predecessor is void (others may be missing); or all are held and the antichain rule or the operation fails."
  pub data Void : Update → Type 0 where
    after : {u v : Update} → u ∈ S → v ∈ S → rules.ident v ∈ u.preds → Void v → Void u
    broken : {u : Update} → u ∈ S → Known u → PredsHeld u → (Fine u → ⊥) → Void u

  -- "Waiting: every other update of the set."
  pub record Waiting (u : Update) : Type 0 where
    pub stored : u ∈ S
    pub not-held : Held u → ⊥
    pub not-void : Void u → ⊥
