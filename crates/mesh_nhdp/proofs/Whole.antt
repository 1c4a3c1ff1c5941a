-- Expiry and the taking of a HELLO as runs of the sets' calls.
use Rattle.mesh_nhdp.proofs.Common.{arith, common_steps, ◌≡◌, ℕ, ◌+◌, ◌≢◌, ◌⊎◌, ◌↔◌, inl, inr, refl, sym, ◌∙◌, ap, subst, List, length, Contains, Option, Some, None, true, false, cond, option_map, false≢true, cases_eq, Addr4, LinkKey, TwoHopKey, Link, TwoHop, Neighbour, Lost, Hello, RouterSettings, Base, find, base_of, if_live, Expires, Same, addr_eq, two_hop_eq, Neighbourhood, link_at, two_hop_at, neighbour_at, lost_at, LiveNeighbourhood, IsSymmetricAddress, SettlesLost, is_symmetric_at, is_symmetric_entry, trim, HasTables, admitted, admit_on, rule_of, Told, AfterHello, GoesOn, IsTheirs, Matches, LinkKeptOrMade, renewed, StoodOn, Same_link, New_link, IsKept, SoundNeighbourhood, AdmitsLinks, ExpiresLinks, EndsOutside, HearsOn, Replaces, DropsLink, key_at, TellsKeys, DropsEnded, TellsTwoHops, FollowsLinks, FollowsLinksOf, live_from, same_some, cond_true as on_true, contains_or_not}
use Rattle.mesh_nhdp.proofs.Composes.{restores_by, restores_of, settles_by, goes_on_elsewhere, goes_on_here, hears_link, replaced_one, replaced_other}
use Rattle.mesh_nhdp.proofs.Touched.{IsTheirSymmetric, rests, untouched, settles}
use Rattle.mesh_nhdp.proofs.TwoHops.{dropped_here, dropped_elsewhere, left_by_ends, left_by_keys, on_false}

entry_there : (now : ℕ) (o : Option (Link × ℕ)) → is_symmetric_entry now o ≡ true → (e : Link × ℕ) × (o ≡ Some e)
entry_there now None h = absurd (false≢true h)
entry_there now (Some e) h = (e, refl)

-- Expiry

-- the parts of expiry
pub record RunsExpiry (settings : RouterSettings) (now : ℕ) (old new : Neighbourhood) : Type 0 where
  pub tables : HasTables new
  pub interfaces : length new.links ≡ length old.links
  pub two_hop_interfaces : length new.two_hops ≡ length old.two_hops
  pub links : (i : ℕ) → (mid : Base LinkKey Link) × AdmitsLinks (rule_of settings i) settings.times.link_hold now (base_of old.links i) mid × ExpiresLinks now mid (base_of new.links i)
  pub two_hops : (i : ℕ) → (mid : Base TwoHopKey TwoHop) × (keys : List LinkKey) × Expires two_hop_eq now (base_of old.two_hops i) mid
      × TellsKeys (base_of old.links i) keys × DropsEnded keys (base_of new.links i) now mid (base_of new.two_hops i)
  pub before : List Addr4
  pub before_is : (a : Addr4) → Contains before a ↔ IsSymmetricAddress old a
  pub live_losts : Base Addr4 Lost
  pub expires_losts : Expires addr_eq now old.losts live_losts
  pub follows : FollowsLinks now before (now + settings.times.neighbour_hold) (record new { neighbours = old.neighbours; losts = live_losts }) new

admit_is : (settings : RouterSettings) (i now : ℕ) (o : Option (Link × ℕ)) → option_map (admitted (rule_of settings i) settings.times.link_hold now) o ≡ admit_on settings i now o
admit_is settings i now o = grind (arith, common_steps)

-- they are expiry
pub live_by_calls : (settings : RouterSettings) (before now : ℕ) (old new : Neighbourhood) → SoundNeighbourhood settings before old → RunsExpiry settings now old new → LiveNeighbourhood settings now old new
live_by_calls settings before now old new S R = record {
  tables = R.tables;
  interfaces = R.interfaces;
  two_hop_interfaces = R.two_hop_interfaces;
  links = λ i key. let (mid, admits, expires) = R.links i in expires key ∙ ap (λ (o : Option (Link × ℕ)). trim now (if_live now o)) (admits key ∙ admit_is settings i now (link_at old i key));
  two_hops = two_hops;
  neighbours = λ o. restores_by new now R.follows.notes R.follows.notes_are (neighbour_at old o) (neighbour_at new o) (R.follows.neighbours o);
  losts = λ a. subst (λ (x : Option (Lost × ℕ)). SettlesLost (IsSymmetricAddress old a) (IsSymmetricAddress new a) (now + settings.times.neighbour_hold) x (lost_at new a)) (R.expires_losts a)
      (settles_by (IsSymmetricAddress old a) (IsSymmetricAddress new a) (R.before_is a).0 (R.before_is a).1 (R.follows.after_is a).0 (R.follows.after_is a).1 (R.follows.losts a));
}
  where
    two_hops : (i : ℕ) (key : TwoHopKey) → two_hop_at new i key ≡ cond (is_symmetric_at new now i key.link) (if_live now (two_hop_at old i key)) None
    two_hops i key =
        let (mid, keys, expires, all, drops) = R.two_hops i in
        left_by_ends (base_of old.links i) (base_of new.links i) now keys mid (base_of new.two_hops i) all
        (λ k t at. entry_there before (link_at old i k.link) (S.two_hop i k t (live_from now (two_hop_at old i k) t (sym (expires k) ∙ at)).0)) drops key
        ∙ ap (λ (o : Option (TwoHop × ℕ)). cond (is_symmetric_at new now i key.link) o None) (expires key)

-- The taking of a HELLO

-- the tuples of the sending link's key: they stay where the link stood, and go where it is a made one
pub data Starts (old : Neighbourhood) (i : ℕ) (told : Told) (mid started : Base TwoHopKey TwoHop) : Type 0 where
  Goes_on : (e : Link × ℕ) → link_at old i told.least ≡ Some e → e.0.addrs ≡ told.shown.sending → Same two_hop_eq mid started → Starts old i told mid started
  Anew : ((e : Link × ℕ) → link_at old i told.least ≡ Some e → e.0.addrs ≢ told.shown.sending) → DropsLink told.least mid started → Starts old i told mid started

-- the parts of the taking of a HELLO
pub record RunsHello (settings : RouterSettings) (now i : ℕ) (told : Told) (hello : Hello) (old new : Neighbourhood) : Type 0 where
  pub tables : HasTables new
  pub interfaces : length new.links ≡ length old.links
  pub two_hop_interfaces : length new.two_hops ≡ length old.two_hops
  pub theirs : List Addr4
  pub theirs_are : (a : Addr4) → Contains theirs a ↔ IsTheirs old told a
  pub ends : (j : ℕ) → j ≢ i → EndsOutside theirs told.listed (base_of old.links j) (base_of new.links j)
  pub hears : (mid : Base LinkKey Link) × EndsOutside theirs told.listed (base_of old.links i) mid × HearsOn (rule_of settings i) told.shown told.least settings.times.link_hold now mid (base_of new.links i)
  pub mids : ℕ → Base TwoHopKey TwoHop
  pub keys : List LinkKey
  pub keys_are : (a : Addr4) → Contains theirs a ⊎ Contains told.listed a → Contains keys (key_at a)
  pub drops : (j : ℕ) → DropsEnded keys (base_of new.links j) now (base_of old.two_hops j) (mids j)
  pub elsewhere : (j : ℕ) → j ≢ i → Same two_hop_eq (mids j) (base_of new.two_hops j)
  pub started : Base TwoHopKey TwoHop
  pub starts : Starts old i told (mids i) started
  pub rows : is_symmetric_at new now i told.least ≡ true → TellsTwoHops settings told hello told.least (now + told.shown.validity) started (base_of new.two_hops i)
  pub no_rows : is_symmetric_at new now i told.least ≡ false → Same two_hop_eq started (base_of new.two_hops i)
  pub until : ℕ
  pub replaced : Base Addr4 Neighbour
  pub replaces : Replaces told.originator told.listed told.willing told.routing until old.neighbours replaced
  pub before : List Addr4
  pub before_is : (a : Addr4) → Contains before a ↔ IsTheirSymmetric old told a
  pub follows : FollowsLinksOf now told.originator told.listed before (now + settings.times.neighbour_hold) (record new { neighbours = replaced; losts = old.losts }) new

module _ (settings : RouterSettings) (now i : ℕ) (told : Told) (hello : Hello) (old new : Neighbourhood)
    (within : (a : Addr4) → Contains told.shown.sending a → Contains told.listed a) (least : Contains told.listed told.least.addr) (S : SoundNeighbourhood settings now old)
    (R : RunsHello settings now i told hello old new) where
  other_links : (j : ℕ) (key : LinkKey) → ((j ≢ i) ⊎ (key ≢ told.least)) → IsKept (λ e. GoesOn old told i j e.0) (link_at old j key) (link_at new j key)
  other_links j key other = elim (cases_eq j i) [
    | inl same ↦ elim other [
      | inl apart ↦ absurd (apart same)
      | inr apart ↦
          let (mid, ends, hears) = R.hears in
          subst (λ (n : ℕ). IsKept (λ e. GoesOn old told i n e.0) (link_at old n key) (link_at new n key)) (sym same)
          (goes_on_here old told R.theirs R.theirs_are within (rule_of settings i) settings.times.link_hold now i (base_of old.links i) mid (base_of new.links i) key apart ends hears)
    ]
    | inr apart ↦ goes_on_elsewhere old told R.theirs R.theirs_are within i j (base_of old.links j) (base_of new.links j) key apart (R.ends j apart)
  ]

  the_link : (start : Link × ℕ) × LinkKeptOrMade (rule_of settings i) told.shown now (link_at old i told.least) start × (link_at new i told.least ≡ Some (renewed told.shown settings.times.link_hold now start))
  the_link =
      let (mid, ends, hears) = R.hears in
      hears_link old told R.theirs R.theirs_are within (rule_of settings i) settings.times.link_hold now (base_of old.links i) mid (base_of new.links i) ends hears

  -- a link that was SYMMETRIC and isn't is looked at
  looked_at : (j : ℕ) (key : LinkKey) → is_symmetric_at old now j key ≡ true → is_symmetric_at new now j key ≡ false → Contains R.keys key
  looked_at j key was not = let (f, there) = entry_there now (link_at old j key) was in elim (contains_or_not R.theirs key.addr) [
    | inl theirs ↦ R.keys_are key.addr (inl theirs)
    | inr others ↦
        let same = untouched settings now i told old new within least S other_links j key f there (λ theirs. others ((R.theirs_are key.addr).1 theirs)) in
        absurd (false≢true (sym not ∙ (ap (λ (o : Option (Link × ℕ)). is_symmetric_entry now o) same ∙ was)))
  ]

  -- after the drops, the tuples of SYMMETRIC links are left
  left : (j : ℕ) (key : TwoHopKey) → find two_hop_eq (R.mids j) key ≡ cond (is_symmetric_at new now j key.link) (two_hop_at old j key) None
  left j key = left_by_keys (base_of new.links j) now R.keys (base_of old.two_hops j) (R.mids j) key (λ t at not. looked_at j key.link (S.two_hop j key t at) not) (R.drops j key)

  started_elsewhere : (key : TwoHopKey) → key.link ≢ told.least → find two_hop_eq R.started key ≡ find two_hop_eq (R.mids i) key
  started_elsewhere key other = grind (arith, common_steps, dropped_elsewhere)

  other_two_hops : (j : ℕ) (key : TwoHopKey) → ((j ≢ i) ⊎ (key.link ≢ told.least)) → two_hop_at new j key ≡ cond (is_symmetric_at new now j key.link) (two_hop_at old j key) None
  other_two_hops j key other = elim (cases_eq j i) [
    | inl same ↦ elim other [
      | inl apart ↦ absurd (apart same)
      | inr apart ↦ subst (λ (n : ℕ). two_hop_at new n key ≡ cond (is_symmetric_at new now n key.link) (two_hop_at old n key) None) (sym same)
          (here apart (is_symmetric_at new now i told.least) refl ∙ started_elsewhere key apart ∙ left i key)
    ]
    | inr apart ↦ R.elsewhere j apart key ∙ left j key
  ]
    where
      here : key.link ≢ told.least → (b : _) → is_symmetric_at new now i told.least ≡ b → two_hop_at new i key ≡ find two_hop_eq R.started key
      here apart true is = (R.rows is).others key apart
      here apart false is = R.no_rows is key

  no_two_hops : is_symmetric_at new now i told.least ≡ false → (a : Addr4) → two_hop_at new i (record { link = told.least; addr = a }) ≡ None
  no_two_hops not a = R.no_rows not (record { link = told.least; addr = a }) ∙ by_case R.starts
    where
      by_case : Starts old i told (R.mids i) R.started → find two_hop_eq R.started (record { link = told.least; addr = a }) ≡ None
      by_case (Goes_on e at same is) = is (record { link = told.least; addr = a }) ∙ left i (record { link = told.least; addr = a })
          ∙ on_false (is_symmetric_at new now i told.least) (two_hop_at old i (record { link = told.least; addr = a })) None not
      by_case (Anew none d) = dropped_here told.least (R.mids i) R.started (record { link = told.least; addr = a }) d refl

  -- what stood of an address
  stood_of : (a : Addr4) → is_symmetric_at new now i told.least ≡ true → StoodOn old i told a (find two_hop_eq R.started (record { link = told.least; addr = a }))
  stood_of a symmetric = by_case R.starts
    where
      by_case : Starts old i told (R.mids i) R.started → StoodOn old i told a (find two_hop_eq R.started (record { link = told.least; addr = a }))
      by_case (Goes_on e at same is) = subst (λ (o : Option (TwoHop × ℕ)). StoodOn old i told a o)
          (sym (is (record { link = told.least; addr = a }) ∙ left i (record { link = told.least; addr = a })
          ∙ on_true (is_symmetric_at new now i told.least) (two_hop_at old i (record { link = told.least; addr = a })) None symmetric))
          (Same_link e at same)
      by_case (Anew none d) = subst (λ (o : Option (TwoHop × ℕ)). StoodOn old i told a o)
          (sym (dropped_here told.least (R.mids i) R.started (record { link = told.least; addr = a }) d refl)) (New_link none)

  -- a neighbour with another originator is kept where the HELLO doesn't speak of it
  kept : (o : Addr4) → o ≢ told.originator → IsKept (λ e. Matches told.originator told.listed o e.0 → ⊥) (neighbour_at old o) (neighbour_at new o)
  kept o other = subst (λ (x : Option (Neighbour × ℕ)). IsKept (λ e. Matches told.originator told.listed o e.0 → ⊥) (neighbour_at old o) x) (sym (R.follows.others o other)) (R.replaces.others o other)

  announced_addrs : (e : Neighbour × ℕ) → find addr_eq R.replaced told.originator ≡ Some e → e.0.addrs ≡ told.listed
  announced_addrs e at = ap (λ (x : Neighbour × ℕ). x.0.addrs) (same_some at R.replaces.one)

  -- they are the neighbourhood after the HELLO
  pub hello_by_calls : AfterHello settings now i told hello old new
  hello_by_calls = record {
    tables = R.tables;
    interfaces = R.interfaces;
    two_hop_interfaces = R.two_hop_interfaces;
    link = the_link;
    other_links = other_links;
    neighbour = replaced_one new now R.until told old.neighbours R.replaced (neighbour_at new told.originator) R.replaces
        (restores_of new now told.listed R.follows.notes R.follows.notes_are (find addr_eq R.replaced told.originator) (neighbour_at new told.originator) announced_addrs R.follows.neighbour);
    other_neighbours = λ o other. replaced_other new now told o (neighbour_at old o) (neighbour_at new o) (neighbour_at new o) other (kept o other)
        (rests settings now i told old new within least S other_links o (neighbour_at new o) (kept o other));
    two_hops = λ symmetric a. (find two_hop_eq R.started (record { link = told.least; addr = a }), stood_of a symmetric, (R.rows symmetric).one a);
    no_two_hops = no_two_hops;
    other_two_hops = other_two_hops;
    losts = λ a. settles settings now i told old new within least S other_links kept R.before (now + settings.times.neighbour_hold) a R.tables.neighbours (R.before_is a) (R.follows.losts a);
  }
