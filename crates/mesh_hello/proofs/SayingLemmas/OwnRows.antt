-- Rows of a router's own addresses say nothing else of them.
use Rattle.mesh_hello.proofs.Common.{◌≡◌, ℕ, inl, inr, refl, ◌∙◌, ap, Contains, Bool, false, arith, Option, None, IsTrue, IsSome, common_steps, Addr4, Hello, HelloRow, LinkStatus, LocalIf, Metric, RouterSettings, Relays, Part, Says, IsHelloNow, local_part, link_part, other_part, Link_in, Link_out, Near_in, Near_out, Flooding, Routing, IsValue, SoundNeighbourhood, State, Neighbourhood, HasAddress, IsHeld}
use Rattle.mesh_atoms.specs.declared.hello.Metrics.{Metrics}
use Rattle.mesh_atoms.specs.declared.hello.Mpr.{Mpr}
use Rattle.mesh_atoms.specs.declared.hello.OtherStatus.{OtherStatus}
use Rattle.mesh_atoms.specs.Writable.{IsAlone}
use Rattle.mesh_hello.proofs.SayingLemmas.RowCounts.{tuple_held, sample}
use Rattle.mesh_hello.proofs.SayingLemmas.Whose.{IsLocal, whose}

held_not_mine : (settings : RouterSettings) (m : ℕ) (near : Neighbourhood) → SoundNeighbourhood settings m near → (a : Addr4) → IsHeld near a → HasAddress settings a → ⊥
held_not_mine settings m near sound a (inl (e, at)) mine = (sound.neighbour a e.0 e.1 at).not_mine mine
held_not_mine settings m near sound a (inr (inl (o, n, until, at, in'))) mine = (sound.neighbour o n until at).none_mine a in' mine
held_not_mine settings m near sound a (inr (inr (e, at))) mine = sound.lost_not_mine a e at mine

own_only : (s : State) (i now m : ℕ) → SoundNeighbourhood s.settings m s.bases.neighbourhood → (a : Addr4) → HasAddress s.settings a → (part : Part) → Says s i now a part → IsLocal part
own_only s i now m sound a mine part says = elim (whose s i now a part says) [
  | inl (local, own) ↦ local
  | inr tuple ↦ absurd (held_not_mine s.settings m s.bases.neighbourhood sound a (tuple_held s i now m sound a tuple) mine)
]

-- Values

none_value : {A : Type 0} (P : A → Type 0) (o : Option A) → ((a : A) → P a → ⊥) → IsValue P o → o ≡ None
none_value P o never is = grind (arith, common_steps)

not_set : (b : Bool) → (IsTrue b → ⊥) → b ≡ false
not_set b never = grind (arith, common_steps)

link_not_local : (v : LinkStatus) → IsLocal (link_part v) → ⊥
link_not_local v h = grind (arith, common_steps)

other_not_local : (v : OtherStatus) → IsLocal (other_part v) → ⊥
other_not_local v h = grind (arith, common_steps)

local_mine : (s : State) (i now : ℕ) (a : Addr4) (o : Option LocalIf) → IsSome o → IsValue (λ v. Says s i now a (local_part v)) o → HasAddress s.settings a
local_mine s i now a o some h = grind (arith, common_steps)

abbrev shown : Option Metric → Option Metric → Option Metric → Option Metric → Metrics
shown link_in link_out near_in near_out = record { link_in = link_in; link_out = link_out; near_in = near_in; near_out = near_out }

no_metrics : (m : Metrics) → m.link_in ≡ None → m.link_out ≡ None → m.near_in ≡ None → m.near_out ≡ None → m ≡ shown None None None None
no_metrics m a b c d = grind (arith, common_steps)

abbrev chosen : Bool → Bool → Mpr
chosen flooding routing = record { flooding = flooding; routing = routing }

no_mpr : (m : Mpr) → m.flooding ≡ false → m.routing ≡ false → m ≡ chosen false false
no_mpr m a b = ap (λ x. chosen x m.routing) a ∙ ap (λ x. chosen false x) b

own_row : (s : State) (i now m : ℕ) (hello : Hello) → SoundNeighbourhood s.settings m s.bases.neighbourhood → IsHelloNow s i now hello → (row : HelloRow) → Contains hello.rows row → IsSome row.local → IsAlone row
own_row s i now m hello sound is row has local =
    let (a, r) = is.rows row has in
    let mine : HasAddress s.settings a = local_mine s i now a row.local local r.local in
    let only = own_only s i now m sound a mine in
    record {
      link = none_value (λ (v : LinkStatus). Says s i now a (link_part v)) row.link (λ v h. link_not_local v (only (link_part v) h)) r.link;
      other = none_value (λ (v : OtherStatus). Says s i now a (other_part v)) row.other (λ v h. other_not_local v (only (other_part v) h)) r.other;
      metrics = no_metrics row.metrics
          (none_value (λ (c : Metric). Says s i now a (Link_in c)) row.metrics.link_in (λ c h. only (Link_in c) h) r.link_in)
          (none_value (λ (c : Metric). Says s i now a (Link_out c)) row.metrics.link_out (λ c h. only (Link_out c) h) r.link_out)
          (none_value (λ (c : Metric). Says s i now a (Near_in c)) row.metrics.near_in (λ c h. only (Near_in c) h) r.near_in)
          (none_value (λ (c : Metric). Says s i now a (Near_out c)) row.metrics.near_out (λ c h. only (Near_out c) h) r.near_out);
      mpr = no_mpr row.mpr (not_set row.mpr.flooding (λ set. only Flooding (r.flooding.0 set))) (not_set row.mpr.routing (λ set. only Routing (r.routing.0 set)));
    }

pub own_rows : (settings : RouterSettings) (near : Neighbourhood) (relays : Relays) (i now : ℕ) (hello : Hello) → SoundNeighbourhood settings now near →
    ((s : State) → s.settings ≡ settings → s.bases.neighbourhood ≡ near → s.relays ≡ relays → IsHelloNow s i now hello) → (row : HelloRow) → Contains hello.rows row → IsSome row.local → IsAlone row
own_rows settings near relays i now hello sound is = own_row (sample settings near relays) i now now hello sound (is (sample settings near relays) refl refl refl)
