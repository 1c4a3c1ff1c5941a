-- What rows tell as the sender's, and which HELLOs are refused for it.
use Rattle.mesh_hello.proofs.Common.{◌≡◌, ◌≢◌, ℕ, Bool, true, false, not, inl, inr, refl, sym, ap, ◌∙◌, arith, IsTrue, ◌↔◌, List, Contains, Any, Some, None, Option, is_some, unwrap_or, common_steps, eq-eqb, Addr4, NetAddr, LocalIf, This, Other, HelloRow, Hello, RouterSettings, host, addr_eq, IsValue, HasAddress, TellsLocal, IsListed, IsOwn, Local, Originator, Sender, IsNameless, IsFault, IsFaultAt, same_addr, same_net, IsLocalRow, IsLocalWith, IsBareSender, NamesAsSender, some_of, same_address}

pub host_of : (net : NetAddr) → net.prefix ≡ 32 → net ≡ host net.addr
host_of net e = same_net net (host net.addr) refl e

-- a host is of one address
pub one_host : (net : NetAddr) (a b : Addr4) → net ≡ host a → net ≡ host b → a ≡ b
one_host net a b e f = ap (λ (n : NetAddr). n.addr) (sym e ∙ f)

pub local_row : (row : HelloRow) → is_some row.local ≡ true → row.addr.prefix ≡ 32 → (local : LocalIf) × IsLocalRow row row.addr.addr local
local_row row some prefix = let (local, is) = some_of row.local some in (local, record { addr = host_of row.addr prefix; told = is })

-- the one address that the row shows decides what holds of those that it shows
pub local_with : (P : Addr4 → Type 0) (row : HelloRow) (a : Addr4) (b : Bool) → ((local : LocalIf) × IsLocalRow row a local) → (IsTrue b ↔ P a) → IsTrue b ↔ IsLocalWith P row
local_with P row a b shown tells = grind (arith, common_steps, one_host)

pub local_without : (P : Addr4 → Type 0) (row : HelloRow) → ((a : Addr4) (local : LocalIf) → IsLocalRow row a local → ⊥) → IsTrue false ↔ IsLocalWith P row
local_without P row none = (λ h. absurd cc, λ w. absurd (none w.addr w.local w.told))

-- a row that shows an address with the property as the sender's, by what the HELLO shows
pub any_shown : (P : Addr4 → Type 0) (hello : Hello) (a : Addr4) (local : LocalIf) → TellsLocal hello a local → P a → Any (IsLocalWith P) hello.rows
any_shown P hello a local (row, (there, is), shown) h =
    (there.0, row, there.1, there.2, record { addr = a; local = local; told = record { addr = is; told = shown }; has = h })

pub shown_by : (P : Addr4 → Type 0) (hello : Hello) → Any (IsLocalWith P) hello.rows → (a : Addr4) × (local : LocalIf) × TellsLocal hello a local × P a
shown_by P hello (k, row, lt, at, with') = (with'.addr, with'.local, (row, ((k, lt, at), with'.told.addr), with'.told.told), with'.has)

-- Named as the sender's

module _ (sender : Addr4) (hello : Hello) (own : List Addr4) where
  pub own_by : NamesAsSender own sender hello → IsOwn (Contains own) sender hello
  own_by (inl any) = let (a, local, shows, has) = shown_by (Contains own) hello any in Local a local has shows
  own_by (inr (inl o)) = Originator o.addr o.has o.is
  own_by (inr (inr bare)) = Sender bare.has bare.none

  pub by_own : IsOwn (Contains own) sender hello → NamesAsSender own sender hello
  by_own (Local a local has shows) = inl (any_shown (Contains own) hello a local shows has)
  by_own (Originator a has is) = inr (inl (record { addr = a; is = is; has = has }))
  by_own (Sender has none) = inr (inr (record { has = has; none = none }))

  pub fault_own : NamesAsSender own sender hello → IsFaultAt (Contains own) sender hello (Some 30)
  fault_own named = inl (refl, own_by named)

  pub fault_nameless : (NamesAsSender own sender hello → ⊥) → IsNameless sender hello → IsFaultAt (Contains own) sender hello (Some 31)
  fault_nameless not_named nameless = inr (refl, (λ h. not_named (by_own h)), nameless)

  pub fault_none : (NamesAsSender own sender hello → ⊥) → (IsNameless sender hello → ⊥) → IsFaultAt (Contains own) sender hello None
  fault_none not_named named = ((λ h. not_named (by_own h)), named)

-- of a router's addresses, the fault is that at the router

module _ (settings : RouterSettings) (own : List Addr4) (sender : Addr4) (hello : Hello) (mine : (a : Addr4) → Contains own a ↔ HasAddress settings a) where
  own_to : IsOwn (Contains own) sender hello → IsOwn (HasAddress settings) sender hello
  own_to (Local a local has told) = Local a local ((mine a).0 has) told
  own_to (Originator a has is) = Originator a ((mine a).0 has) is
  own_to (Sender has none) = Sender ((mine sender).0 has) none

  own_from : IsOwn (HasAddress settings) sender hello → IsOwn (Contains own) sender hello
  own_from (Local a local has told) = Local a local ((mine a).1 has) told
  own_from (Originator a has is) = Originator a ((mine a).1 has) is
  own_from (Sender has none) = Sender ((mine sender).1 has) none

  pub fault_at : (number : Option ℕ) → IsFaultAt (Contains own) sender hello number → IsFault settings sender hello number
  fault_at None h = ((λ o. h.0 (own_from o)), h.1)
  fault_at (Some number) (inl h) = inl (h.0, own_to h.1)
  fault_at (Some number) (inr h) = inr (h.0, (λ o. h.1 (own_from o)), h.2)

-- Without a name

-- the address that stands for the sending list is listed
first_listed : (sender : Addr4) (hello : Hello) (o : Option Addr4) → IsValue (λ a. TellsLocal hello a This) o → IsListed hello sender (unwrap_or o sender)
first_listed sender hello None none = inl (inr (refl, none))
first_listed sender hello (Some a) shows = inl (inl shows)

shown_listed : (sender : Addr4) (hello : Hello) (a : Addr4) (local : LocalIf) → TellsLocal hello a local → IsListed hello sender a
shown_listed sender hello a This shows = inl (inl shows)
shown_listed sender hello a Other shows = inr shows

-- another listed address is shown by a row
listed_beyond : (sender : Addr4) (hello : Hello) (o : Option Addr4) → IsValue (λ a. TellsLocal hello a This) o →
    (a : Addr4) → IsListed hello sender a → a ≢ unwrap_or o sender → Any (IsLocalWith (λ x. x ≢ unwrap_or o sender)) hello.rows
listed_beyond sender hello o value a (inl (inl shows)) ne = any_shown (λ x. x ≢ unwrap_or o sender) hello a This shows ne
listed_beyond sender hello o value a (inr shows) ne = any_shown (λ x. x ≢ unwrap_or o sender) hello a Other shows ne
listed_beyond sender hello None value a (inl (inr bare)) ne = absurd (ne bare.0)
listed_beyond sender hello (Some b) value a (inl (inr bare)) ne = absurd (bare.1 b value)

pub nameless_by : (sender : Addr4) (hello : Hello) (o : Option Addr4) → IsValue (λ a. TellsLocal hello a This) o → hello.originator ≡ None →
    (b : Bool) → (IsTrue b ↔ Any (IsLocalWith (λ a. a ≢ unwrap_or o sender)) hello.rows) → IsTrue b ↔ IsNameless sender hello
nameless_by sender hello o value none b tells = (
  λ h.
      let (a, local, shows, ne) = shown_by (λ x. x ≢ unwrap_or o sender) hello (tells.0 h) in
      (none, (a, unwrap_or o sender, shown_listed sender hello a local shows, first_listed sender hello o value, ne)),
  λ nameless.
      let (a, b', listed, listed', ne) = nameless.1 in
      tells.1 (elim (same_address a (unwrap_or o sender)) [
        | inl e ↦ listed_beyond sender hello o value b' listed' (λ f. ne (e ∙ sym f))
        | inr n ↦ listed_beyond sender hello o value a listed n
      ]),
)

pub beyond : (a first : Addr4) (b : Bool) → b ≡ not (addr_eq a first) → IsTrue b ↔ (a ≢ first)
beyond a first b e = grind (arith, common_steps, eq-eqb, same_addr)

negated : (b : Bool) → false ≡ not b → b ≡ true
negated b e = grind (arith, common_steps)

pub no_value : {A : Type 0} (o : Option A) (b : Bool) → is_some o ≡ not b → b ≡ true → o ≡ None
no_value o b e h = grind (arith, common_steps)

pub bare : (own : List Addr4) (sender : Addr4) (hello : Hello) (o : Option Addr4) (b : Bool) → Contains own sender → IsValue (λ a. TellsLocal hello a This) o →
    is_some o ≡ not b → IsTrue b ↔ IsBareSender own sender hello
bare own sender hello None b has none is = ((λ h. record { has = has; none = none }), λ w. negated b is)
bare own sender hello (Some a) b has shows is = ((λ h. absurd cc), λ w. absurd (w.none a shows))
