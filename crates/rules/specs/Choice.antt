-- Document 01, "Writing": the predecessors that a new update names, by Held, Head, Rank and Ancestor alone. The theorems of `ChosenLaws` say that those computed
-- (`Writing`) are these, and that there is one choice.
use Rattle.std.specs.Prelude.{ℕ, ◌≤◌, ◌<◌, ◌≡◌, ◌⊎◌, List, true, false, length}
use Rattle.bytes_order.specs.Order.{before}
use Rattle.bytes_order.specs.Member.{◌∈◌}
use Rattle.bytes_order.specs.Ascending.{Ascending}
use Rattle.update_format.specs.Update.{Id, Update}
use Rattle.rules.specs.Standing.{Rules, Ancestor, Held}
use Rattle.rules.specs.ReadOff.{Head, Rank}
use Rattle.rules.specs.Parts.{Exactly}

module _ (rules : Rules) (S : List Update) where
  -- u is of higher rank than v, or ("on a tie, larger id") of the same rank and of larger id
  pub data Higher (u v : Update) : Type 0 where
    by_rank : {m n : ℕ} → Rank rules S u m → Rank rules S v n → n < m → Higher u v
    by-id : {n : ℕ} → Rank rules S u n → Rank rules S v n → before (rules.ident v) (rules.ident u) ≡ true → Higher u v

  -- "that author's held update of highest rank (on a tie, larger id)"
  pub record Highest (author : ℕ) (u : Update) : Type 0 where
    pub is-held : Held rules S u
    pub held_by : u.author ≡ author
    pub highest : (v : Update) → Held rules S v → v.author ≡ author → (v ≡ u) ⊎ Higher u v

  -- h is "at or above" u: it is u, or has u as an ancestor
  abbrev pub AtOrAbove : Update → Update → Type 0
  AtOrAbove u h = (h ≡ u) ⊎ Ancestor rules S u h

  -- "the lowest head at or above that author's held update of highest rank"
  pub record OwnHead (author : ℕ) (h : Update) : Type 0 where
    pub update : Update
    pub is-highest : Highest author update
    pub is-head : Head rules S h
    pub is_above : AtOrAbove update h
    pub lowest : (g : Update) → Head rules S g → AtOrAbove update g → before (rules.ident g) (rules.ident h) ≡ false

module _ (rules : Rules) (most : ℕ) (S : List Update) where
  -- "it names eight: first, if its author has held updates, the lowest head at or above ..": the author's own head; "then the lowest others": a head that is left
  -- out has a larger id than each that is named, other than the own head
  pub record OwnThenLowest (author : ℕ) (ids : List Id) : Type 0 where
    pub number : length ids ≡ most
    pub own : (u : Update) → Held rules S u → u.author ≡ author → (h : Update) × OwnHead rules S author h × (rules.ident h ∈ ids)
    pub lowest : (h g : Update) → Head rules S h → Head rules S g → rules.ident h ∈ ids → (OwnHead rules S author h → ⊥) → (rules.ident g ∈ ids → ⊥)
        → before (rules.ident h) (rules.ident g) ≡ true

  -- "The new update names the heads. Above eight heads it names eight": ids are what the author's new update names, in their order. Eight is `most`: "Where the writer
  -- counts eight heads, the chosen number of predecessors takes its place." (document 02, E6)
  pub record Chosen (author : ℕ) (ids : List Id) : Type 0 where
    pub heads : List Update
    pub heads-exactly : Exactly rules.ident (Head rules S) heads
    pub ascending : Ascending (λ (i : Id). i) ids
    pub only-heads : (i : Id) → i ∈ ids → (h : Update) × Head rules S h × (rules.ident h ≡ i)
    pub all-heads : length heads ≤ most → (h : Update) → Head rules S h → rules.ident h ∈ ids
    pub above_most : most < length heads → OwnThenLowest author ids
