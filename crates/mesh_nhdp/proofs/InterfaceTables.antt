-- The tables of one interface of a router.
use Rattle.mesh_nhdp.proofs.Common.{common_steps, ◌≡◌, ◌<◌, ℕ, sym, ◌∙◌, ap, length, get_or, arith, List, [], get_or_default, slice_get-get_or, Addr4, LinkKey, Link, Lost, Neighbour, Base, SoundNeighbourhood, State, NhdpState}
use Rattle.mesh_atoms.specs.declared.tuples.Relays.{Relays}
use Rattle.mesh_hello.specs.Saying.Said.{AreDisjoint, IsSeen}
use Rattle.mesh_hello.proofs.SayingLemmas.Message.{apart_by}

-- a place within a list is of an element, whatever stands for none
stands_at : {A : Type 0} (xs : List A) (i : ℕ) (x d : A) → x ≡ get_or xs i x → i < length xs → get_or xs i d ≡ x
stands_at xs i x d is lt = get_or_default xs i d x lt ∙ sym is

-- where the neighbourhood is sound, no two tuples of a kind have an address in common
pub apart_held : (held inside : NhdpState) (now i : ℕ) (links l : Base LinkKey Link) (neighbours : Base Addr4 Neighbour) (losts : Base Addr4 Lost) → inside ≡ held →
    SoundNeighbourhood held.settings now held.near → i < length held.settings.interfaces → links ≡ l → l ≡ get_or inside.near.links i l → neighbours ≡ inside.near.neighbours → losts ≡ inside.near.losts →
    AreDisjoint links neighbours losts
apart_held held inside now i links l neighbours losts is sound lt e f g h =
    let lt' : i < length held.near.links = omega (arith, lt, sound.interfaces) in
    let there : l ≡ get_or held.near.links i l = f ∙ ap (λ (x : NhdpState). get_or x.near.links i l) is in
    rw (e, ← stands_at held.near.links i l [] there lt', g, h, is) (apart_by held.settings now held.near i sound)

-- they are what each state with these settings, this neighbourhood and these relays has
pub seen_held : (held inside : NhdpState) (now i : ℕ) (links l : Base LinkKey Link) (neighbours : Base Addr4 Neighbour) (losts : Base Addr4 Lost) → inside ≡ held →
    SoundNeighbourhood held.settings now held.near → i < length held.settings.interfaces → links ≡ l → l ≡ get_or inside.near.links i l → neighbours ≡ inside.near.neighbours → losts ≡ inside.near.losts →
    (relays : Relays) (s : State) → s.settings ≡ held.settings → s.bases.neighbourhood ≡ held.near → s.relays ≡ relays → IsSeen s inside.settings links neighbours losts relays i
seen_held held inside now i links l neighbours losts is sound lt e f g h relays s own near chosen = grind (arith, common_steps, slice_get-get_or)
