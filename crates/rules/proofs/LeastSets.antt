-- Consequences of the least sets: the ancestors of a held update are held, no held update is its own ancestor, held and void exclude each
-- other; and what a settling has to show, whatever its strategy.
use Rattle.std.specs.Prelude.{◌≡◌, refl, ◌⊎◌, List}
use Rattle.std.proofs.Common.{sym, ◌∙◌, ap, inl, inr, ⊎_elim, true≢false}
use Rattle.bytes_order.specs.Member.{◌∈◌}
use Rattle.update_format.specs.Update.{Update}
use Rattle.rules.specs.Standing.{Rules, Ancestor, Known, Held, Void, Waiting}
use Rattle.rules.specs.Settle.{Standing, held, waiting, void, is_waiting}

-- the verdicts differ
held≢waiting : held ≡ waiting → ⊥
unfolding is_waiting
held≢waiting e = true≢false (sym (ap is_waiting e))

void≢waiting : void ≡ waiting → ⊥
unfolding is_waiting
void≢waiting e = true≢false (sym (ap is_waiting e))

module _ (rules : Rules) (S : List Update) where
  pub ancestor-stored : {x y : Update} → Ancestor rules S x y → x ∈ S
  ancestor-stored (Ancestor.direct m p) = m
  ancestor-stored (Ancestor.further m p a) = ancestor-stored a

  pub ancestor-trans : {x y z : Update} → Ancestor rules S x y → Ancestor rules S y z → Ancestor rules S x z
  ancestor-trans a (Ancestor.direct m p) = Ancestor.further m p a
  ancestor-trans a (Ancestor.further m p b) = Ancestor.further m p (ancestor-trans a b)

  -- an ancestor is a predecessor or an ancestor of one
  pub ancestor-cases : {x z : Update} → Ancestor rules S x z
      → ((x ∈ S) × (rules.ident x ∈ z.preds)) ⊎ ((y : Update) × (y ∈ S) × (rules.ident y ∈ z.preds) × Ancestor rules S x y)
  ancestor-cases (Ancestor.direct m p) = inl (m, p)
  ancestor-cases (Ancestor.further {y = y} m p a) = inr (y, m, p, a)

  pub held-stored : {u : Update} → Held rules S u → u ∈ S
  held-stored (Held.held m k hs f) = m

  pub void-stored : {u : Update} → Void rules S u → u ∈ S
  void-stored (Void.after m n p v) = m
  void-stored (Void.broken m k hs f) = m

  -- the ancestors of a held update are held
  pub held-ancestors : {x u : Update} → Held rules S u → Ancestor rules S x u → Held rules S x
  held-ancestors {x} (Held.held m k hs f) (Ancestor.direct n p) = hs x n p
  held-ancestors (Held.held m k hs f) (Ancestor.further {y = y} n p a) = held-ancestors (hs y n p) a

  -- a held update is not its own ancestor
  pub held-acyclic : {u : Update} → Held rules S u → Ancestor rules S u u → ⊥
  held-acyclic {u} (Held.held m k hs f) a =
      ⊎_elim
      (λ (d : (u ∈ S) × (rules.ident u ∈ u.preds)). held-acyclic (hs u d.0 d.1) a)
      (λ (d : (y : Update) × (y ∈ S) × (rules.ident y ∈ u.preds) × Ancestor rules S u y).
      held-acyclic (hs d.0 d.1 d.2) (ancestor-trans (Ancestor.direct d.1 d.2) d.3))
      (ancestor-cases a)

  -- held and void exclude each other
  pub held-not-void : {u : Update} → Held rules S u → Void rules S u → ⊥
  held-not-void (Held.held m k hs f) (Void.after {v = v} _ n p w) = held-not-void (hs v n p) w
  held-not-void (Held.held m k hs f) (Void.broken _ _ _ bad) = bad f

  -- what a verdict says of an update, and that an update has only one
  abbrev pub VerdictSays : Standing → Update → Type 0
  VerdictSays held u = Held rules S u
  VerdictSays waiting u = Waiting rules S u
  VerdictSays void u = Void rules S u

  pub says-stored : (v : Standing) (u : Update) → VerdictSays v u → u ∈ S
  says-stored held u h = held-stored h
  says-stored waiting u h = h.stored
  says-stored void u h = void-stored h

  pub one-verdict : (v w : Standing) (u : Update) → VerdictSays v u → VerdictSays w u → v ≡ w
  one-verdict held held u h k = refl
  one-verdict held waiting u h k = absurd (k.not-held h)
  one-verdict held void u h k = absurd (held-not-void h k)
  one-verdict waiting held u h k = absurd (h.not-held k)
  one-verdict waiting waiting u h k = refl
  one-verdict waiting void u h k = absurd (h.not-void k)
  one-verdict void held u h k = absurd (held-not-void k h)
  one-verdict void waiting u h k = absurd (k.not-void h)
  one-verdict void void u h k = refl

  -- Any assignment of verdicts to the updates of S that is sound, and that leaves waiting only what the rules do not yet decide from the
  -- verdicts of its predecessors, is right. It says nothing of the order in which verdicts were found.
  pub record SoundVerdicts (verdict : Update → Standing) : Type 0 where
    pub held-sound : (u : Update) → u ∈ S → verdict u ≡ held → Held rules S u
    pub void-sound : (u : Update) → u ∈ S → verdict u ≡ void → Void rules S u

  pub record Stable (verdict : Update → Standing) : Type 0 where
    pub no-void : (u v : Update) → u ∈ S → v ∈ S → verdict u ≡ waiting → rules.ident v ∈ u.preds → verdict v ≡ void → ⊥
    pub not-ready : (u : Update) → u ∈ S → verdict u ≡ waiting → Known rules S u
        → ((v : Update) → v ∈ S → rules.ident v ∈ u.preds → verdict v ≡ held) → ⊥

  pub settled-held : (verdict : Update → Standing) → SoundVerdicts verdict → Stable verdict → {u : Update} → Held rules S u → verdict u ≡ held
  settled-held verdict sound stable {u} (Held.held m k hs f) =
      step (verdict u) refl (λ v n p. settled-held verdict sound stable (hs v n p))
    where
      step : (x : Standing) → verdict u ≡ x → ((v : Update) → v ∈ S → rules.ident v ∈ u.preds → verdict v ≡ held) → verdict u ≡ held
      step held e below = e
      step waiting e below = absurd (stable.not-ready u m e k below)
      step void e below = absurd (held-not-void (Held.held m k hs f) (sound.void-sound u m e))

  pub settled-void : (verdict : Update → Standing) → SoundVerdicts verdict → Stable verdict → {u : Update} → Void rules S u → verdict u ≡ void
  settled-void verdict sound stable (Void.after {u = u} {v = v} m n p w) = step (verdict u) refl (settled-void verdict sound stable w)
    where
      step : (x : Standing) → verdict u ≡ x → verdict v ≡ void → verdict u ≡ void
      step held e below = absurd (held-not-void (sound.held-sound u m e) (Void.after m n p w))
      step waiting e below = absurd (stable.no-void u v m n e p below)
      step void e below = e
  settled-void verdict sound stable (Void.broken {u = u} m k hs bad) = step (verdict u) refl
    where
      step : (x : Standing) → verdict u ≡ x → verdict u ≡ void
      step held e = absurd (held-not-void (sound.held-sound u m e) (Void.broken m k hs bad))
      step waiting e = absurd (stable.not-ready u m e k (λ v n p. settled-held verdict sound stable (hs v n p)))
      step void e = e

  pub settled-waiting : (verdict : Update → Standing) → SoundVerdicts verdict → Stable verdict → (u : Update) → u ∈ S → verdict u ≡ waiting → Waiting rules S u
  settled-waiting verdict sound stable u m e =
      record {
        stored = m;
        not-held = λ h. held≢waiting (sym (settled-held verdict sound stable h) ∙ e);
        not-void = λ v. void≢waiting (sym (settled-void verdict sound stable v) ∙ e);
      }
