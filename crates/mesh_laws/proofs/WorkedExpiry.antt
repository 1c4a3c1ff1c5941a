-- Between the worked HELLOs nothing is expired.
use Rattle.mesh_laws.proofs.Common.{arith, common_steps, ◌≡◌, ℕ, zero, suc, ◌+◌, inl, inr, refl, sym, ap, subst, [], Option, Some, None, Bool, true, false, cond, ◌&&◌, Addr4, LinkKey, TwoHopKey, Link, RouterSettings, addr_eq, if_live, IsSymmetricAddress, SettlesLost, Back, Stays, is_symmetric_at, LiveNeighbourhood, Restores, trim, is_symmetric_entry, link_at, two_hop_at, neighbour_at, peer, third, link, neighbour, after, IsReceiver, admit_on, same_address, contains_head as here}
use Rattle.mesh_laws.proofs.WorkedNeighbourhood.{beyond, after_tables, neighbour_found, by_links}
use Rattle.mesh_laws.proofs.WorkedQuality.{link_admitted}

pub was_symmetric_address : (a : Addr4) → IsSymmetricAddress after a → a ≡ peer
was_symmetric_address a is = grind (arith, common_steps, neighbour_found, peer)

pub peer_symmetric : IsSymmetricAddress after peer
peer_symmetric = (peer, neighbour, 98504, refl, refl, here peer [])

pub live : (settings : RouterSettings) → IsReceiver settings → LiveNeighbourhood settings 300 after after
live settings r = record {
  tables = after_tables;
  interfaces = refl;
  two_hop_interfaces = refl;
  links = live_links;
  two_hops = live_two_hops;
  neighbours = live_neighbours;
  losts = live_losts;
}
  where
    live_links : (i : ℕ) (key : LinkKey) → link_at after i key ≡ trim 300 (if_live 300 (admit_on settings i 300 (link_at after i key)))
    live_links zero key = by_case (addr_eq key.addr peer)
      where
        by_case : (b : Bool) → cond b (Some (link, 98504)) None ≡ trim 300 (if_live 300 (admit_on settings 0 300 (cond b (Some (link, 98504)) None)))
        by_case true = ap (λ (o : Option (Link × ℕ)). trim 300 (if_live 300 o)) (sym (link_admitted settings r))
        by_case false = refl
    live_links (suc i) key = refl

    live_two_hops : (i : ℕ) (key : TwoHopKey) → two_hop_at after i key ≡ cond (is_symmetric_at after 300 i key.link) (if_live 300 (two_hop_at after i key)) None
    live_two_hops zero key = by_case (addr_eq key.link.addr peer) (addr_eq key.addr third)
      where
        by_case : (b c : Bool) → cond (b && c) (Some (beyond, 49352)) None
            ≡ cond (is_symmetric_entry 300 (cond b (Some (link, 98504)) None)) (if_live 300 (cond (b && c) (Some (beyond, 49352)) None)) None
        by_case true true = refl
        by_case true false = refl
        by_case false c = refl
    live_two_hops (suc i) key = refl

    live_neighbours : (o : Addr4) → Restores after 300 (neighbour_at after o) (neighbour_at after o)
    live_neighbours o = by_case (addr_eq o peer)
      where
        by_case : (b : Bool) → Restores after 300 (cond b (Some (neighbour, 98504)) None) (cond b (Some (neighbour, 98504)) None)
        by_case true = record { addrs = refl; willing = refl; selector = refl; by_links = by_links 300 refl }
        by_case false = refl

    live_losts : (a : Addr4) → SettlesLost (IsSymmetricAddress after a) (IsSymmetricAddress after a) (300 + settings.times.neighbour_hold) None None
    live_losts a = elim (same_address a peer) [
      | inl e ↦ Back (let P : Addr4 → Type 0 = λ b. IsSymmetricAddress after b in subst P (sym e) peer_symmetric) refl
      | inr other ↦ Stays (λ was. other (was_symmetric_address a was)) (λ is. other (was_symmetric_address a is)) refl
    ]
