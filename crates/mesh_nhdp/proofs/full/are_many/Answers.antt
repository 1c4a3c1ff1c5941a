use Rattle.mesh_nhdp.proofs.Common.{◌≡◌, ℕ, ◌↔◌, ◌⊎◌, sym, subst, Contains, IsTrue, nat_lt, Addr4, Neighbour, Base, Neighbourhood, IsHeld, AreMoreThan, Each, IsWantedAddress, iff_on, are_more}
use Rattle.mesh_nhdp.proofs.HeldAddresses.{held_addresses}
use Rattle.mesh_nhdp.proofs.full.are_many.Goals as goal

pub returns : goal.returns
returns g c =
    let telling = c.args.telling.now in
    let near : Neighbourhood = record { links = c.sets.inside.links.items; two_hops = c.sets.inside.two_hops.items; neighbours = c.sets.inside.neighbours; losts = c.sets.inside.losts } in
    let P : Addr4 → Type 0 = λ a. IsHeld near a ⊎ (Contains telling.listed a ⊎ (a ≡ telling.originator)) in
    rw (← c.sets.view_is) (subst (λ (n : ℕ). IsTrue (nat_lt 1024 n) ↔ AreMoreThan 1024 P) (sym c.len-count.ensures)
    (are_more 1024 P c.ascending-held.result c.ascending-held.ensures.order (λ a. iff_on (c.ascending-held.ensures.same a)
    (rw (c.in_ok-put_known.ensures, c.as_slice-listed.ensures) (held_addresses near telling.listed telling.originator c.in_ok-addrs.addrs.items
    (subst (λ (b : Base Addr4 Neighbour). (x : Addr4) → Contains c.in_ok-addrs.addrs.items x ↔ IsWantedAddress b Each x) c.table.ensures.content c.in_ok-addrs.ensures) a)))))
