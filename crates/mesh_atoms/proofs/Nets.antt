-- When two networks are the same.
use Rattle.mesh_atoms.proofs.Common.{◌≡◌, ℕ, ◌-◌, ◌≤◌, ◌^◌, ◌%◌, ap, subst, ◌∙◌, le_prop, Coded-set, coded_ℕ, Addr4, NetAddr}

-- the network of an address and a prefix
abbrev Clear : Addr4 → ℕ → Type 0
Clear addr prefix = addr.0 % 2 ^ (32 - prefix) ≡ 0

abbrev made : (addr : Addr4) (prefix : ℕ) → prefix ≤ 32 → Clear addr prefix → NetAddr
made addr prefix within clear = record { addr = addr; prefix = prefix; within = within; clear = clear }

made_same : (addr : Addr4) (prefix : ℕ) (w w' : prefix ≤ 32) (c c' : Clear addr prefix) → made addr prefix w c ≡ made addr prefix w' c'
made_same addr prefix w w' c c' = ap (λ (x : prefix ≤ 32). made addr prefix x c) (le_prop w w') ∙ ap (λ (x : Clear addr prefix). made addr prefix w' x) (Coded-set coded_ℕ _ _ c c')

-- networks of one address and one prefix are the same
pub same_net : (a b : NetAddr) → a.addr ≡ b.addr → a.prefix ≡ b.prefix → a ≡ b
same_net a b e f =
    let by_prefix : (w : b.prefix ≤ 32) (c : Clear a.addr b.prefix) → a ≡ made a.addr b.prefix w c =
    subst (λ (p : ℕ). (w : p ≤ 32) (c : Clear a.addr p) → a ≡ made a.addr p w c) f (λ w c. made_same a.addr a.prefix a.within w a.clear c) in
    subst (λ (x : Addr4). (w : b.prefix ≤ 32) (c : Clear x b.prefix) → a ≡ made x b.prefix w c) e by_prefix b.within b.clear
