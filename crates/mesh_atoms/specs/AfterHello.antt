-- The neighbourhood after a HELLO that interface i hears, from the neighbourhood that expiry has left.
use Rattle.std.specs.Prelude.{◌≡◌, ℕ, ◌+◌, ◌⊎◌, ◌≢◌, max, List, Contains, Option, Some, None, length, Bool, true, false, cond, nat_lt}
use Rattle.mesh_atoms.specs.declared.addr.Addr4.{Addr4}
use Rattle.mesh_atoms.specs.declared.hello.LinkStatus.{LinkStatus}
use Rattle.mesh_atoms.specs.declared.hello.LinkStatus.TheVariants.{Lost as Down}
use Rattle.mesh_atoms.specs.declared.hello.HelloRow.{HelloRow}
use Rattle.mesh_atoms.specs.declared.hello.Hello.{Hello}
use Rattle.mesh_atoms.specs.declared.hello.Shown.{Shown}
use Rattle.mesh_atoms.specs.declared.hello.Willing.{Willing}
use Rattle.mesh_atoms.specs.declared.tuples.LinkKey.{LinkKey}
use Rattle.mesh_atoms.specs.declared.tuples.TwoHopKey.{TwoHopKey}
use Rattle.mesh_atoms.specs.declared.tuples.Link.{Link}
use Rattle.mesh_atoms.specs.declared.tuples.TwoHop.{TwoHop}
use Rattle.mesh_atoms.specs.declared.tuples.Neighbour.{Neighbour}
use Rattle.mesh_atoms.specs.declared.settings.RouterSettings.{RouterSettings}
use Rattle.mesh_atoms.specs.declared.admit.Admit.{Admit}
use Rattle.mesh_atoms.specs.State.{Neighbourhood, is_symmetric, is_heard, link_at, two_hop_at, neighbour_at, lost_at}
use Rattle.mesh_atoms.specs.Live.{trimmed, Restores, IsSymmetricAddress, SettlesLost, is_symmetric_at, HasTables}
use Rattle.mesh_atoms.specs.Quality.{quality_at, rule_of}
use Rattle.mesh_atoms.specs.HelloTold.{Told, LooksAt, tells_symmetric, two_hop_of}
use Rattle.mesh_atoms.specs.Words.{Meets, IsBeyond, IsKept}

-- The link of interface i with the sending list (RFC 6130, section 12.5)

-- the link that is made where none has the sending list: PENDING where its quality isn't accepted (RFC 6130, section 14)
abbrev pub made : Admit → Shown → ℕ → Link × ℕ
made rule shown now = (
  record {
    addrs = shown.sending;
    heard = 0;
    sym = 0;
    quality = quality_at rule shown.sending now;
    pending = nat_lt (quality_at rule shown.sending now) rule.accept;
    lost = false;
    link_in = shown.link_in;
    link_out = None;
    selector = false;
  },
  now + shown.validity,
)

-- the link that the HELLO renews: the one with the sending list, else a made one
pub data LinkKeptOrMade (rule : Admit) (shown : Shown) (now : ℕ) (old : Option (Link × ℕ)) : Link × ℕ → Type 0 where
  Stood : (e : Link × ℕ) → old ≡ Some e → e.0.addrs ≡ shown.sending → LinkKeptOrMade rule shown now old e
  Made : ((e : Link × ℕ) → old ≡ Some e → e.0.addrs ≢ shown.sending) → LinkKeptOrMade rule shown now old (made rule shown now)

-- what the HELLO says of the link: HEARD or SYMMETRIC makes it symmetric, LOST ends that, and it may say nothing of it
abbrev pub by_status : Shown → ℕ → ℕ → Option LinkStatus → Link × ℕ → Link × ℕ
by_status shown hold now None e = e
by_status shown hold now (Some Down) e = (record e.0 { sym = 0 }, cond (is_heard (record e.0 { sym = 0 }) now) (now + hold) e.1)
by_status shown hold now (Some status) e = (record e.0 { sym = now + shown.validity; link_out = shown.link_out; selector = shown.selector }, e.1)

-- the moment of a link that was heard: a HEARD or SYMMETRIC one stays for the hold time after it is heard no more, so that
-- it is shown as LOST
abbrev pub heard_until : ℕ → ℕ → Link → ℕ → ℕ
heard_until hold now link until =
    cond link.pending (max until link.heard)
    (cond (is_symmetric link now) (max until (link.heard + hold))
    (cond (is_heard link now) (max until (link.heard + hold)) until))

-- it is heard up to the HELLO's validity at least
abbrev pub by_hearing : Shown → ℕ → ℕ → Link × ℕ → Link × ℕ
by_hearing shown hold now e =
    let link : Link = record e.0 { heard = max (now + shown.validity) e.0.sym } in
    (link, heard_until hold now link e.1)

-- the link after the HELLO
abbrev pub renewed : Shown → ℕ → ℕ → Link × ℕ → Link × ℕ
renewed shown hold now e = by_hearing shown hold now (trimmed now (by_status shown hold now shown.status e))

-- The other links

-- a neighbour that the HELLO speaks of: by its originator or one of its addresses (RFC 6130, section 12.3)
abbrev pub Matches : Addr4 → List Addr4 → Addr4 → Neighbour → Type 0
Matches originator listed o n = (o ≡ originator) ⊎ Meets n.addrs listed

-- an address of a matching neighbour
abbrev pub IsTheirs : Neighbourhood → Told → Addr4 → Type 0
IsTheirs near told a =
    (o : Addr4) × (n : Neighbour) × (until : ℕ) × (neighbour_at near o ≡ Some (n, until)) × Matches told.originator told.listed o n
    × Contains n.addrs a

-- the link is the sending link, or has no address of the sending list
abbrev pub IsApart : List Addr4 → Link → Type 0
IsApart sending link = (link.addrs ≡ sending) ⊎ (Meets link.addrs sending → ⊥)

-- a link of interface j goes on where its neighbour doesn't match or all its addresses are listed, and on i where it is
-- apart from the sending list
pub record GoesOn (near : Neighbourhood) (told : Told) (i j : ℕ) (link : Link) : Type 0 where
  pub listed : ((a : Addr4) × Contains link.addrs a × IsTheirs near told a) → IsBeyond link.addrs told.listed → ⊥
  pub apart : j ≡ i → IsApart told.shown.sending link

-- Neighbours (RFC 6130, section 12.3, and RFC 7181, section 15.3)

-- the neighbour that the HELLO tells of, before its links are looked at
abbrev pub announced : List Addr4 → Willing → Bool → Neighbour
announced listed willing routing =
    record { addrs = listed; symmetric = false; metric_in = None; metric_out = None; willing = willing; selector = routing }

-- a neighbour with another originator: it becomes one with the HELLO's where it matches, else it is as its links have it
pub data BecomesOther (near : Neighbourhood) (now : ℕ) (told : Told) (o : Addr4) (old new : Option (Neighbour × ℕ)) : Type 0 where
  Joins : (e : Neighbour × ℕ) → old ≡ Some e → Matches told.originator told.listed o e.0 → new ≡ None → BecomesOther near now told o old new
  Remains : ((e : Neighbour × ℕ) → old ≡ Some e → Matches told.originator told.listed o e.0 → ⊥) → Restores near now old new →
      BecomesOther near now told o old new

-- 2-hop tuples of the link with the sending list (RFC 6130, section 12.6, and RFC 7181, section 15.3)

-- what a row makes of the tuple of its address
abbrev pub row_makes : ℕ → HelloRow → Option (TwoHop × ℕ)
row_makes until row = cond (tells_symmetric row.link row.other) (Some (two_hop_of row, until)) None

-- the tuple of an address before the HELLO; there is none where the link is a made one
pub data StoodOn (near : Neighbourhood) (i : ℕ) (told : Told) (a : Addr4) : Option (TwoHop × ℕ) → Type 0 where
  Same_link : (e : Link × ℕ) → link_at near i told.least ≡ Some e → e.0.addrs ≡ told.shown.sending →
      StoodOn near i told a (two_hop_at near i (record { link = told.least; addr = a }))
  New_link : ((e : Link × ℕ) → link_at near i told.least ≡ Some e → e.0.addrs ≢ told.shown.sending) → StoodOn near i told a None

-- the tuple of an address after the HELLO, where the link is SYMMETRIC: as a row that tells of it makes it, else as it stood
pub data TellsTwoHop (settings : RouterSettings) (told : Told) (hello : Hello) (until : ℕ) (a : Addr4)
    (stood new : Option (TwoHop × ℕ)) : Type 0 where
  By_row : (row : HelloRow) → LooksAt settings told hello a row → new ≡ row_makes until row → TellsTwoHop settings told hello until a stood new
  By_none : ((row : HelloRow) → LooksAt settings told hello a row → ⊥) → new ≡ stood → TellsTwoHop settings told hello until a stood new

-- The whole

-- the neighbourhood after a HELLO (RFC 6130, section 12, and RFC 7181, section 15.3)
pub record AfterHello (settings : RouterSettings) (now i : ℕ) (told : Told) (hello : Hello) (old new : Neighbourhood) : Type 0 where
  pub tables : HasTables new
  pub interfaces : length new.links ≡ length old.links
  pub two_hop_interfaces : length new.two_hops ≡ length old.two_hops
  pub link : (start : Link × ℕ) × LinkKeptOrMade (rule_of settings i) told.shown now (link_at old i told.least) start
      × (link_at new i told.least ≡ Some (renewed told.shown settings.times.link_hold now start))
  pub other_links : (j : ℕ) (key : LinkKey) → ((j ≢ i) ⊎ (key ≢ told.least)) →
      IsKept (λ e. GoesOn old told i j e.0) (link_at old j key) (link_at new j key)
  pub neighbour : Restores new now (Some (announced told.listed told.willing told.routing, 0)) (neighbour_at new told.originator)
  pub other_neighbours : (o : Addr4) → o ≢ told.originator → BecomesOther new now told o (neighbour_at old o) (neighbour_at new o)
  pub two_hops : is_symmetric_at new now i told.least ≡ true → (a : Addr4) → (stood : Option (TwoHop × ℕ)) × StoodOn old i told a stood
      × TellsTwoHop settings told hello (now + told.shown.validity) a stood (two_hop_at new i (record { link = told.least; addr = a }))
  pub no_two_hops : is_symmetric_at new now i told.least ≡ false → (a : Addr4) → two_hop_at new i (record { link = told.least; addr = a }) ≡ None
  pub other_two_hops : (j : ℕ) (key : TwoHopKey) → ((j ≢ i) ⊎ (key.link ≢ told.least)) →
      two_hop_at new j key ≡ cond (is_symmetric_at new now j key.link) (two_hop_at old j key) None
  pub losts : (a : Addr4) →
      SettlesLost (IsSymmetricAddress old a) (IsSymmetricAddress new a) (now + settings.times.neighbour_hold) (lost_at old a) (lost_at new a)
