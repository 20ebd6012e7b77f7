-- Room: none is needed for no updates; those stored and a new one that there is room for have room together; and of updates that have room together there is room for each, whichever
-- of the others are stored.
use Rattle.std.specs.Prelude.{◌+◌, ◌<◌, ◌≡◌, List, [], ◌∷◌, ◌++◌, map, true, length}
use Rattle.std.proofs.Common.{zero-le, arith, sym, length-append, lt-ltb, ltb-true}
use Rattle.std.proofs.lemmas.List.{length-map}
use Rattle.bytes_order.specs.Member.{◌∈◌}
use Rattle.bytes_order.specs.MemberLaws.{∈-cast, ∈-map}
use Rattle.bytes_order.specs.Distinct.{Distinct}
use Rattle.bytes_order.specs.DistinctLaws.{distinct-length-lt}
use Rattle.update_format.specs.Update.{Id, Update}
use Rattle.rules.specs.Terms.{Terms}
use Rattle.rules.specs.Room.{has_room, RoomForAll}

pub none-fit : (t : Terms) → RoomForAll t []
none-fit t = record { few = zero-le }

-- a stored update more
pub one-more-fits : (t : Terms) (us : List Update) (u : Update) → has_room t us u ≡ true → RoomForAll t (us ++ (u ∷ []))
unfolding has_room
one-more-fits t us u e = record { few = omega (arith, ltb-true (length us) t.places e, length-append us (u ∷ [])) }

-- us are some of the updates S, which have room together, and u is another one of them
pub each_fits : (t : Terms) (ident : Update → Id) (S us : List Update) → RoomForAll t S → Distinct ident us → ((v : Update) → v ∈ us → v ∈ S)
    → (u : Update) → u ∈ S → (ident u ∈ map ident us → ⊥) → has_room t us u ≡ true
unfolding has_room
each_fits t ident S us fit distinct inside u m new =
    let h : length us < length (map ident S) =
    distinct-length-lt distinct (map ident S) (λ v k. ∈-map ident (inside v k)) (∈-map ident m) (λ v k e. new (∈-cast (sym e) (∈-map ident k))) in
    let e : length (map ident S) ≡ length S = length-map S ident in
    lt-ltb (length us) t.places (omega (arith, fit.few))
