-- Where expiry makes nothing of links, or of the whole neighbourhood.
use Rattle.std.specs.Prelude.{◌≡◌, ℕ, ◌<◌, ◌⊎◌, List, length, Bool, true, false}
use Rattle.mesh_atoms.specs.declared.tuples.LinkKey.{LinkKey}
use Rattle.mesh_atoms.specs.declared.tuples.Link.{Link}
use Rattle.mesh_atoms.specs.declared.settings.RouterSettings.{RouterSettings}
use Rattle.mesh_atoms.specs.Base.{Base, HasDistinctKeys, Expires, IsFresh, base_of, addr_eq, two_hop_eq}
use Rattle.mesh_atoms.specs.Quality.{rule_of}
use Rattle.mesh_atoms.specs.State.{Neighbourhood}
use Rattle.mesh_links.specs.Links.{AllStay}

-- nothing becomes of the links of any interface
abbrev pub LinksStay : RouterSettings → ℕ → ℕ → List (Base LinkKey Link) → Type 0
LinksStay settings last now links = (i : ℕ) → AllStay (rule_of settings i) settings.times.link_hold last now (base_of links i)

-- nothing becomes of any link, and no 2-hop tuple and no lost address is expired
pub record AllIsAsItWas (settings : RouterSettings) (last now : ℕ) (near : Neighbourhood) : Type 0 where
  pub links : LinksStay settings last now near.links
  pub two_hops : (i : ℕ) → IsFresh two_hop_eq now (base_of near.two_hops i)
  pub losts : IsFresh addr_eq now near.losts

-- 2-hop tuples and lost addresses that are expired go, and all else stays; `same` says that none went
pub record ExpiresBeside (now : ℕ) (same : Bool) (old new : Neighbourhood) : Type 0 where
  pub links : new.links ≡ old.links
  pub neighbours : new.neighbours ≡ old.neighbours
  pub interfaces : length new.two_hops ≡ length old.two_hops
  pub distinct_two_hops : (i : ℕ) → HasDistinctKeys two_hop_eq (base_of new.two_hops i)
  pub distinct_losts : HasDistinctKeys addr_eq new.losts
  pub two_hops : (i : ℕ) → Expires two_hop_eq now (base_of old.two_hops i) (base_of new.two_hops i)
  pub losts : Expires addr_eq now old.losts new.losts
  pub unchanged : same ≡ true → new ≡ old
  pub changed : same ≡ false → ((i : ℕ) × (length (base_of new.two_hops i) < length (base_of old.two_hops i))) ⊎ (length new.losts < length old.losts)
