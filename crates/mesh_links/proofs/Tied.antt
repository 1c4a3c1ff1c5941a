-- The map from addresses to links after each change.
use Rattle.mesh_links.proofs.Common.{arith, common_steps, ◌≡◌, ◌≢◌, ◌⊎◌, ℕ, inl, inr, refl, sym, ap, subst, ◌∙◌, Bool, true, false, cond, List, Option, Some, None, Contains, slice_get, nat_lt, option_map, IsSome, Decides, ◌+◌, ◌<◌, length, get_or, All-contains, AllWithin-more, Contains-get_or, Addr4, Admit, Link, LinkKey, Base, find, if_live, link_eq, addr_eq, SetsOnly, trim, trimmed, IsApart, LinkKeptOrMade, Stood, Made, renewed, IsKept, Meets, Shown, ExpiresLinks, HearsOn, owner_of, HasLinkOwners, OwnsAll, OwnsMore, IsFewer, IsKeptOrGone, changed_at, find_same, find-changed_at, list_any, AllWithin, HoldsAt, get_or_default, link_equiv, same_addr, addr_equiv, same_some, none_not}
use Rattle.mesh_atoms.proofs.Deciding.{Decides-some, Decides-addr}
use Rattle.mesh_links.proofs.Renewed.{addrs-trimmed}

-- fewer links
pub owned_fewer : (owners : List (Addr4 × LinkKey)) (old new : Base LinkKey Link) → HasLinkOwners owners old → IsFewer old new → HasLinkOwners owners new
owned_fewer owners old new owned fewer = record {
  owner = λ key e a found has. (let (f, at, same) = fewer key e found in owned.owner key f a at (rw same has));
  first = λ key e found. (let (f, at, same) = fewer key e found in rw (← same) (owned.first key f at));
}

-- what expiry leaves
pub fewer_expired : (now : ℕ) (old new : Base LinkKey Link) → ExpiresLinks now old new → IsFewer old new
fewer_expired now old new expired key e found = by_old (find link_eq old key) refl (sym (expired key) ∙ found) where
  by_live : (f : Link × ℕ) (b : Bool) → find link_eq old key ≡ Some f → trim now (cond b (Some f) None) ≡ Some e → (g : Link × ℕ) × (find link_eq old key ≡ Some g) × (g.0.addrs ≡ e.0.addrs)
  by_live f true is at = let same : trimmed now f ≡ e = cc in (f, is, sym (addrs-trimmed now f) ∙ ap (λ (x : Link × ℕ). x.0.addrs) same)
  by_live f false is at = absurd cc

  by_old : (o : Option (Link × ℕ)) → find link_eq old key ≡ o → trim now (if_live now o) ≡ Some e → (g : Link × ℕ) × (find link_eq old key ≡ Some g) × (g.0.addrs ≡ e.0.addrs)
  by_old None is at = absurd cc
  by_old (Some f) is at = by_live f (nat_lt now f.1) is at

-- one link is set, whose addresses have its key
pub owned_set : (owners : List (Addr4 × LinkKey)) (old new : Base LinkKey Link) (key : LinkKey) (entry : Link × ℕ) → HasLinkOwners owners old → SetsOnly link_eq old new key (Some entry)
    → OwnsAll owners entry.0.addrs key → slice_get entry.0.addrs 0 ≡ Some key.addr → HasLinkOwners owners new
owned_set owners old new key entry owned sets mine first = grind (arith, common_steps, All-contains)

-- more addresses have a key, of which no other link has one
pub owned_more : (old new : List (Addr4 × LinkKey)) (links : Base LinkKey Link) (addrs : List Addr4) (key : LinkKey) → HasLinkOwners old links → slice_get addrs 0 ≡ Some key.addr
    → ((q : LinkKey) (e : Link × ℕ) → find link_eq links q ≡ Some e → IsApart addrs e.0) → OwnsMore old new addrs key → HasLinkOwners new links
owned_more old new links addrs key owned first apart more = grind (arith, common_steps)

-- what a kept entry was
pub kept_from : {A : Type 0} (P : A → Type 0) (old new : Option A) (e : A) → IsKept P old new → new ≡ Some e → P e × (old ≡ Some e)
kept_from P old new e k is = grind (arith, common_steps, none_not, same_some)

-- the links from which a HELLO begins
pub begins_before : (rule : Admit) (shown : Shown) (now : ℕ) (o mid : Option (Link × ℕ)) (start : Link × ℕ) → IsKept (λ e. IsApart shown.sending e.0) o mid → LinkKeptOrMade rule shown now mid start → LinkKeptOrMade rule shown now o start
begins_before rule shown now o mid start kept (Stood e at same) = Stood e (kept_from (λ x. IsApart shown.sending x.0) o mid e kept at).1 same
begins_before rule shown now o mid start kept (Made none) = Made (λ e at same. by_kept o kept e at same) where
  by_kept : (p : Option (Link × ℕ)) → IsKept (λ x. IsApart shown.sending x.0) p mid → (e : Link × ℕ) → p ≡ Some e → e.0.addrs ≡ shown.sending → ⊥
  by_kept None k e at same = absurd cc
  by_kept (Some f) k e at same = let is : f ≡ e = cc in elim k [
    | inl stays ↦ none f stays.1 (rw is same)
    | inr ends ↦ ends.0 (inl (rw is same))
  ]

other_link : (least key : LinkKey) → key ≢ least → link_eq least key ≡ false
other_link least key other = grind (arith, common_steps)

-- the others end, and then the one is renewed or made
pub hears_after : (rule : Admit) (shown : Shown) (least : LinkKey) (hold now : ℕ) (old mid new : Base LinkKey Link) (start : Link × ℕ)
    → ((key : LinkKey) → IsKept (λ e. IsApart shown.sending e.0) (find link_eq old key) (find link_eq mid key))
    → LinkKeptOrMade rule shown now (find link_eq mid least) start → SetsOnly link_eq mid new least (Some (renewed shown hold now start))
    → HearsOn rule shown least hold now old new
hears_after rule shown least hold now old mid new start kept begins sets = record {
  one = (start, begins_before rule shown now (find link_eq old least) (find link_eq mid least) start (kept least) begins, sets least ∙ rw (link_equiv.refl least) refl);
  others = λ key other. (let at : find link_eq new key ≡ find link_eq mid key = sets key ∙ rw (other_link least key other) refl in rw at (kept key));
}

-- the link that has an address is the noted one
pub sole : (owners : List (Addr4 × LinkKey)) (links : Base LinkKey Link) (key : LinkKey) (e : Link × ℕ) (a : Addr4) (k : LinkKey) → HasLinkOwners owners links → find link_eq links key ≡ Some e → Contains e.0.addrs a
    → owner_of owners a ≡ Some k → (key ≡ k) × (find link_eq links k ≡ Some e)
sole owners links key e a k owned found has noted = grind (arith, common_steps)

-- of two links that are found at one key there is one
pub one_at : (links : Base LinkKey Link) (k l : LinkKey) (x y : Link × ℕ) → find link_eq links k ≡ Some x → find link_eq links l ≡ Some y → l ≡ k → x ≡ y
one_at links k l x y at there same = let both : Some x ≡ Some y = sym at ∙ (ap (λ q. find link_eq links q) (sym same) ∙ there) in cc

-- no link has an address that isn't noted
pub unowned : (owners : List (Addr4 × LinkKey)) (links : Base LinkKey Link) (key : LinkKey) (e : Link × ℕ) (a : Addr4) → HasLinkOwners owners links → find link_eq links key ≡ Some e → Contains e.0.addrs a → None ≡ owner_of owners a → ⊥
unowned owners links key e a owned found has none = let both : None ≡ Some key = none ∙ owned.owner key e a found has in absurd cc

-- nor has one an address that is noted for a key with no link
pub unlinked : (owners : List (Addr4 × LinkKey)) (links : Base LinkKey Link) (key : LinkKey) (e : Link × ℕ) (a : Addr4) (k : LinkKey) → HasLinkOwners owners links → find link_eq links key ≡ Some e → Contains e.0.addrs a
    → owner_of owners a ≡ Some k → None ≡ find link_eq links k → ⊥
unlinked owners links key e a k owned found has noted none = let both : None ≡ Some e = none ∙ (sole owners links key e a k owned found has noted).1 in absurd cc

-- the link of a noted address is gone
pub sole_gone : (Stays : Link × ℕ → Type 0) (owners : List (Addr4 × LinkKey)) (old new : Base LinkKey Link) (a : Addr4) (k : LinkKey) → HasLinkOwners owners old → owner_of owners a ≡ Some k → SetsOnly link_eq old new k None
    → (key : LinkKey) (e : Link × ℕ) → find link_eq new key ≡ Some e → Contains e.0.addrs a → Stays e
sole_gone Stays owners old new a k owned noted sets key e found has = grind (arith, common_steps, link_equiv)

pub back_left : (Goes : Link × ℕ → Type 0) (o new : Option (Link × ℕ)) (e : Link × ℕ) → IsKeptOrGone Goes o new → new ≡ Some e → o ≡ Some e
back_left Goes o new e h4 found = grind (arith, common_steps)

-- two lists meet or don't
pub by_meeting : (xs ys : List Addr4) (Stays : Type 0) → ((a : Addr4) → Contains ys a → Contains xs a → Stays) → ((Meets xs ys → ⊥) → Stays) → Stays
by_meeting xs ys Stays met apart = by_test (list_any (λ a. list_any (addr_eq a) ys) xs) refl where
  decides : Decides (list_any (λ a. list_any (addr_eq a) ys) xs) ((a : Addr4) × Contains xs a × ((x : Addr4) × Contains ys x × (a ≡ x)))
  decides = Decides-some (λ a. list_any (addr_eq a) ys) (λ a. (x : Addr4) × Contains ys x × (a ≡ x)) (λ a. Decides-some (addr_eq a) (λ x. a ≡ x) (λ x. Decides-addr a x) ys) xs

  by_test : (b : Bool) → list_any (λ a. list_any (addr_eq a) ys) xs ≡ b → Stays
  by_test true is = let (a, within, there) = decides.0 is in met a (subst (Contains ys) (sym there.2) there.1) within
  by_test false is = apart (λ m. (let yes = decides.1 (m.0, m.1, (m.0, m.2, refl)) in let both : true ≡ false = sym yes ∙ is in absurd cc))

-- a change in place that leaves the addresses
pub fewer_changed : (old new : Base LinkKey Link) (key : LinkKey) (change : Link × ℕ → Link × ℕ) → ((f : Link × ℕ) → find link_eq old key ≡ Some f → f.0.addrs ≡ (change f).0.addrs) → new ≡ changed_at link_eq old key change → IsFewer old new
fewer_changed old new key change same is q e found =
    by_key (link_eq key q) refl (find link_eq old q) refl (sym (ap (λ (l : Base LinkKey Link). find link_eq l q) is ∙ find-changed_at link_equiv key change q old) ∙ found) where
      by_key : (b : Bool) → link_eq key q ≡ b → (o : Option (Link × ℕ)) → find link_eq old q ≡ o → cond (link_eq key q) (option_map change (find link_eq old q)) (find link_eq old q) ≡ Some e
          → (f : Link × ℕ) × (find link_eq old q ≡ Some f) × (f.0.addrs ≡ e.0.addrs)
      by_key false is' o at h = (e, rw is' at h, refl)
      by_key true is' None at h = let both : None ≡ Some e = rw (is', at) at h in absurd cc
      by_key true is' (Some f) at h =
          let both : Some (change f) ≡ Some e = rw (is', at) at h in
          let one : change f ≡ e = cc in
          (f, at, same f (sym (find_same link_equiv key q is' old) ∙ at) ∙ ap (λ (x : Link × ℕ). x.0.addrs) one)

pub fewer_twice : (old mid new : Base LinkKey Link) → IsFewer old mid → IsFewer mid new → IsFewer old new
fewer_twice old mid new one two key e found =
    let (f, at, same) = two key e found in
    let (g, at', same') = one key f at in
    (g, at', same' ∙ same)

pub fewer_same : (old new : Base LinkKey Link) → new ≡ old → IsFewer old new
fewer_same old new is key e found = (e, ap (λ (l : Base LinkKey Link). find link_eq l key) (sym is) ∙ found, refl)

-- addresses whose link is gone are noted no more
pub owned_purged : (old new : List (Addr4 × LinkKey)) (links : Base LinkKey Link) → HasLinkOwners old links → ((a : Addr4) (key : LinkKey) → IsSome (find link_eq links key) → owner_of old a ≡ Some key → owner_of new a ≡ Some key) → HasLinkOwners new links
owned_purged old new links owned kept = record { owner = λ key e a found has. kept a key (rw found refl) (owned.owner key e a found has); first = owned.first }

-- what holds at a place, read with any default
pub at_any : {X : Type 0} (P : X → Type 0) (xs : List X) (i : ℕ) (d : X) → i < length xs → P (get_or xs i d) → HoldsAt P xs i
at_any P xs i d within holds e = subst P (get_or_default xs i d e within) holds

-- one more address has the key
pub owns_one_more : (first old new : List (Addr4 × LinkKey)) (addrs : List Addr4) (i : ℕ) (d : Addr4) (key : LinkKey) → i < length addrs → ((q : Addr4) → owner_of new q ≡ cond (addr_eq (get_or addrs i d) q) (Some key) (owner_of old q))
    → AllWithin (λ a. owner_of old a ≡ Some key) addrs 0 i → OwnsMore first old addrs key → AllWithin (λ a. owner_of new a ≡ Some key) addrs 0 (i + 1) × OwnsMore first new addrs key
owns_one_more first old new addrs i d key within sets done more = (
  AllWithin-more (λ a. owner_of new a ≡ Some key) addrs 0 i (λ k e low high. keeps (get_or addrs k e) (done k e low high)) (at_any (λ a. owner_of new a ≡ Some key) addrs i d within (sets (get_or addrs i d) ∙ rw (addr_equiv.refl (get_or addrs i d)) refl)),
  λ a. by_addr a (addr_eq (get_or addrs i d) a) refl,
) where
  by_test : (q : Addr4) (b : Bool) → owner_of new q ≡ cond b (Some key) (owner_of old q) → owner_of old q ≡ Some key → owner_of new q ≡ Some key
  by_test q true h k = h
  by_test q false h k = h ∙ k

  keeps : (q : Addr4) → owner_of old q ≡ Some key → owner_of new q ≡ Some key
  keeps q = by_test q (addr_eq (get_or addrs i d) q) (sets q)

  by_addr : (a : Addr4) (b : Bool) → addr_eq (get_or addrs i d) a ≡ b → (owner_of new a ≡ owner_of first a) ⊎ (Contains addrs a × (owner_of new a ≡ Some key))
  by_addr a true is = inr (subst (Contains addrs) (same_addr (get_or addrs i d) a is) (Contains-get_or addrs i d within), sets a ∙ rw is refl)
  by_addr a false is = let same : owner_of new a ≡ owner_of old a = sets a ∙ rw is refl in elim (more a) [
    | inl old' ↦ inl (same ∙ old')
    | inr noted ↦ inr (noted.0, same ∙ noted.1)
  ]

-- of two names of one tuple the link is the same
pub same_of : (o : Option (Link × ℕ)) (x y : Link × ℕ) → Some x ≡ o → o ≡ Some y → x ≡ y
same_of o x y left right = let both : Some x ≡ Some y = left ∙ right in cc
