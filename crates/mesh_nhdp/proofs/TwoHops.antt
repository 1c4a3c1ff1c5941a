-- 2-hop tuples through the ends of links.
use Rattle.mesh_nhdp.proofs.Common.{arith, common_steps, ◌≡◌, ℕ, ◌∙◌, subst, List, Contains, Some, None, Bool, true, false, cond, LinkKey, TwoHopKey, Link, TwoHop, Base, find, link_eq, two_hop_eq, IsKept, link_equiv, DropsLink, TellsKeys, is_symmetric_in, DropsEnded, cond_true as on_true}

pub link_eq_same : (a b : LinkKey) → a ≡ b → link_eq a b ≡ true
link_eq_same a b e = subst (λ (c : LinkKey). link_eq a c ≡ true) e (link_equiv.refl a)

pub link_eq_other : (a b : LinkKey) → (a ≡ b → ⊥) → link_eq a b ≡ false
link_eq_other a b other = grind (arith, common_steps)

pub on_false : {A : Type 0} (b : Bool) (x y : A) → b ≡ false → cond b x y ≡ y
on_false b x y e = grind (arith, common_steps)

-- a dropped link has no tuples
pub dropped_here : (link : LinkKey) (old new : Base TwoHopKey TwoHop) (key : TwoHopKey) → DropsLink link old new → key.link ≡ link → find two_hop_eq new key ≡ None
dropped_here link old new key d same = d key ∙ on_true (link_eq key.link link) None (find two_hop_eq old key) (link_eq_same key.link link same)

-- and all other links have theirs
pub dropped_elsewhere : (link : LinkKey) (old new : Base TwoHopKey TwoHop) (key : TwoHopKey) → DropsLink link old new → (key.link ≡ link → ⊥) → find two_hop_eq new key ≡ find two_hop_eq old key
dropped_elsewhere link old new key d other = d key ∙ on_false (link_eq key.link link) None (find two_hop_eq old key) (link_eq_other key.link link other)

-- after the drops, a tuple is left where its link is SYMMETRIC, and all other links that had tuples are looked at
pub left_by_keys : (links : Base LinkKey Link) (now : ℕ) (keys : List LinkKey) (old new : Base TwoHopKey TwoHop) (key : TwoHopKey) → ((t : TwoHop × ℕ) → find two_hop_eq old key ≡ Some t → is_symmetric_in links now key.link ≡ false → Contains keys key.link) →
    IsKept (λ t. (Contains keys key.link × (is_symmetric_in links now key.link ≡ false)) → ⊥) (find two_hop_eq old key) (find two_hop_eq new key) → find two_hop_eq new key ≡ cond (is_symmetric_in links now key.link) (find two_hop_eq old key) None
left_by_keys links now keys old new key looked_at d = grind (arith, common_steps)

-- the same where all links are looked at
pub left_by_ends : (before links : Base LinkKey Link) (now : ℕ) (keys : List LinkKey) (old new : Base TwoHopKey TwoHop) → TellsKeys before keys →
    ((key : TwoHopKey) (t : TwoHop × ℕ) → find two_hop_eq old key ≡ Some t → (e : Link × ℕ) × (find link_eq before key.link ≡ Some e)) → DropsEnded keys links now old new →
    (key : TwoHopKey) → find two_hop_eq new key ≡ cond (is_symmetric_in links now key.link) (find two_hop_eq old key) None
left_by_ends before links now keys old new K linked d key = left_by_keys links now keys old new key (λ t at not. (let (e, there) = linked key t at in K.all key.link e there)) (d key)
