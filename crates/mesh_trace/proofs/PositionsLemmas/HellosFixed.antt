-- What is made of a HELLO is fixed but for the order of tuples.
use Rattle.mesh_trace.proofs.Common.{common_steps, ◌≡◌, ◌≢◌, ◌⊎◌, ℕ, ◌+◌, ◌<◌, ◌≤◌, inl, inr, refl, sym, ◌∙◌, ap, subst, arith, List, [], ◌∷◌, length, map, Option, Some, None, Contains, slice_get, Bool, true, false, cond, AllPairs, list_any, and_parts, cases_lt, or_left, or_right, get_or_past, Addr4, Metric, Hello, HelloRow, LinkStatus, Interface, RouterSettings, LinkKey, Link, Neighbour, TwoHop, TwoHopKey, by_status, renewed, LinkKeptOrMade, Stood, Made, IsTheirs, GoesOn, announced, BecomesOther, Joins, Remains, row_makes, StoodOn, Same_link, New_link, TellsTwoHop, By_row, By_none, AfterHello, Base, base_of, find, addr_eq, link_eq, IsSending, IsListed, IsMyStatus, IsHandedIn, Told, Tells, LooksAt, IsSymmetricAddress, SettlesLost, is_symmetric_at, is_symmetric_entry, IsBefore, SoundNeighbourhood, Neighbourhood, link_at, two_hop_at, neighbour_at, lost_at, IsNameless, IsFault, IsHeld, IsFullOfAddresses, AreTwoHopRows, IsFullOfTwoHops, FitsTwoHops, HelloAnswer, TakesHello, Breaks, Overfull, Overfull_two_hops, Takes, Lists, IsKept, addr_equiv, same_addr, two_hop_equiv, one_row, AlikeNear, addr_itself as itself, item_at as stands, contains_cases, contains_none as none_in, least_only}
use Rattle.mesh_atoms.specs.declared.admit.Admit.{Admit}
use Rattle.mesh_atoms.specs.declared.hello.LinkStatus.TheVariants.{Lost as Down, Symmetric, Heard}
use Rattle.mesh_atoms.specs.declared.hello.Shown.{Shown}
use Rattle.mesh_atoms.specs.declared.hello.Willing.{Willing}
use Rattle.mesh_atoms.specs.declared.settings.SenderMetric.{SenderMetric}
use Rattle.mesh_atoms.specs.declared.tuples.Lost.{Lost}
use Rattle.mesh_atoms.specs.Settings.{are_distinct}
use Rattle.mesh_texts.proofs.machine.hello.Fits.{distinct_fits}
use Rattle.mesh_trace.proofs.PositionsLemmas.AlikeBases.{SameLinks, SameNeighbours, near_back, flag_only, restores_only, settles_only, symmetric_address}
use Rattle.mesh_trace.proofs.PositionsLemmas.AlikeStates.{ordered_once}
use Rattle.mesh_trace.proofs.PositionsLemmas.TcsFixed.{same_size, same_or_other}
use Rattle.mesh_atoms.proofs.Options.{not_both}
use Rattle.mesh_atoms.proofs.Values.{same_addr as addr_from}

-- ---- what a HELLO tells

-- the same, but for the status
abbrev with_status : Told → Option LinkStatus → Told
with_status told status = record told { shown = record told.shown { status = status } }

lists_once : (P : Addr4 → Type 0) (xs ys : List Addr4) → Lists xs P → Lists ys P → xs ≡ ys
lists_once P xs ys (up, are) (up', are') =
    ordered_once (λ (a b : Addr4). a.0 < b.0) (λ a b p q. omega (arith, p, q)) xs ys up up' (λ a has. (are' a).1 ((are a).0 has)) (λ a has. (are a).1 ((are' a).0 has))

any_sender : (a : Addr4) (xs : List SenderMetric) (u : SenderMetric) → Contains xs u → addr_eq a u.sender ≡ true → list_any (addr_eq a) (map (λ s. s.sender) xs) ≡ true
any_sender a [] u has e = absurd (none_in u has)
any_sender a (x ∷ xs) u has e = elim (contains_cases x xs u has) [
  | inl same ↦ or_left (addr_eq a x.sender) (list_any (addr_eq a) (map (λ (s : SenderMetric). s.sender) xs)) (subst (λ (z : SenderMetric). addr_eq a z.sender ≡ true) (sym same) e)
  | inr more ↦ or_right (addr_eq a x.sender) (list_any (addr_eq a) (map (λ (s : SenderMetric). s.sender) xs)) (any_sender a xs u more e)
]

-- an interface has one entry of a sender
entry_once : (xs : List SenderMetric) (t u : SenderMetric) → are_distinct addr_eq (map (λ s. s.sender) xs) ≡ true → Contains xs t → Contains xs u → t.sender ≡ u.sender → t ≡ u
entry_once [] t u h has has' e = absurd (none_in t has)
entry_once (x ∷ xs) t u h has has' e =
    let (new, rest) = and_parts _ (are_distinct addr_eq (map (λ (s : SenderMetric). s.sender) xs)) h in
    elim (contains_cases x xs t has) [
      | inl is ↦ elim (contains_cases x xs u has') [
        | inl is' ↦ sym is ∙ is'
        | inr more' ↦ absurd (not_both _ (any_sender x.sender xs u more' (itself x.sender u.sender (ap (λ (s : SenderMetric). s.sender) is ∙ e))) new)
      ]
      | inr more ↦ elim (contains_cases x xs u has') [
        | inl is' ↦ absurd (not_both _ (any_sender x.sender xs t more (itself x.sender t.sender (ap (λ (s : SenderMetric). s.sender) is' ∙ sym e))) new)
        | inr more' ↦ entry_once xs t u rest more more' e
      ]
    ]

handed_in_once : (face : Interface) (sender : Addr4) (m n : Metric) → IsHandedIn face sender m → IsHandedIn face sender n → n ≡ m
handed_in_once face sender m n (inl (x, has, at, is)) (inl (y, has', at', is')) =
    sym is' ∙ (ap (λ (z : SenderMetric). z.metric) (entry_once face.senders y x face.distinct_senders has' has (at' ∙ sym at)) ∙ is)
handed_in_once face sender m n (inl (x, has, at, is)) (inr (none, is')) = absurd (none x has at)
handed_in_once face sender m n (inr (none, is)) (inl (x, has, at, is')) = absurd (none x has at)
handed_in_once face sender m n (inr (none, is)) (inr (none', is')) = is' ∙ sym is

originator_once : (sender : Addr4) (hello : Hello) (listed : List Addr4) (a b : Addr4) → Lists listed (IsListed hello sender) → (IsNameless sender hello → ⊥) →
    ((hello.originator ≡ Some a) ⊎ ((hello.originator ≡ None) × Contains listed a)) → ((hello.originator ≡ Some b) ⊎ ((hello.originator ≡ None) × Contains listed b)) → b ≡ a
originator_once sender hello listed a b lists named (inl is) (inl is') = let both : Some b ≡ Some a = sym is' ∙ is in cc
originator_once sender hello listed a b lists named (inl is) (inr (none, has)) = absurd (let no : None ≡ Some a = sym none ∙ is in cc)
originator_once sender hello listed a b lists named (inr (none, has)) (inl is) = absurd (let no : None ≡ Some b = sym none ∙ is in cc)
originator_once sender hello listed a b lists named (inr (none, has)) (inr (none', has')) = elim (same_or_other a.0 b.0) [
  | inl same ↦ addr_from b a same
  | inr other ↦ absurd (named (none, (a, b, (lists.1 a).0 has, (lists.1 b).0 has', λ e. other (ap (λ (c : Addr4). c.0) (sym e)))))
]

-- of several statuses that may be told HEARD and SYMMETRIC do the same
status_once : (settings : RouterSettings) (i : ℕ) (hello : Hello) (x y : Option LinkStatus) → IsMyStatus settings i hello x → IsMyStatus settings i hello y → (shown : Shown) (hold now : ℕ) (e : Link × ℕ) →
    by_status shown hold now y e ≡ by_status shown hold now x e
status_once settings i hello None None h k shown hold now e = refl
status_once settings i hello None (Some Down) h k shown hold now e = absurd (h Down k.0)
status_once settings i hello None (Some Symmetric) h k shown hold now e = absurd (h Symmetric k)
status_once settings i hello None (Some Heard) h k shown hold now e = absurd (h Heard k)
status_once settings i hello (Some Down) None h k shown hold now e = absurd (k Down h.0)
status_once settings i hello (Some Down) (Some Down) h k shown hold now e = refl
status_once settings i hello (Some Down) (Some Symmetric) h k shown hold now e = absurd (h.2 k)
status_once settings i hello (Some Down) (Some Heard) h k shown hold now e = absurd (h.1 k)
status_once settings i hello (Some Symmetric) None h k shown hold now e = absurd (k Symmetric h)
status_once settings i hello (Some Symmetric) (Some Down) h k shown hold now e = absurd (k.2 h)
status_once settings i hello (Some Symmetric) (Some Symmetric) h k shown hold now e = refl
status_once settings i hello (Some Symmetric) (Some Heard) h k shown hold now e = refl
status_once settings i hello (Some Heard) None h k shown hold now e = absurd (k Heard h)
status_once settings i hello (Some Heard) (Some Down) h k shown hold now e = absurd (k.1 h)
status_once settings i hello (Some Heard) (Some Symmetric) h k shown hold now e = refl
status_once settings i hello (Some Heard) (Some Heard) h k shown hold now e = refl

abbrev shown_of : List Addr4 → Option LinkStatus → Metric → Option Metric → Bool → ℕ → Shown
shown_of sending status link_in link_out selector validity =
    record { sending = sending; status = status; link_in = link_in; link_out = link_out; selector = selector; validity = validity }

abbrev told_of : Shown → LinkKey → List Addr4 → Addr4 → Willing → Bool → Told
told_of shown least listed originator willing routing = record { shown = shown; least = least; listed = listed; originator = originator; willing = willing; routing = routing }

told_once : (settings : RouterSettings) (i : ℕ) (sender : Addr4) (hello : Hello) (face : Interface) → slice_get settings.interfaces i ≡ Some face → (IsNameless sender hello → ⊥) → (one other : Told) →
    Tells settings i sender hello one → Tells settings i sender hello other → other ≡ with_status one other.shown.status
told_once settings i sender hello face at named one other h k =
    let status = other.shown.status in
    let sending : other.shown.sending ≡ one.shown.sending = lists_once (IsSending hello sender) other.shown.sending one.shown.sending k.sending h.sending in
    let both : Some other.least.addr ≡ Some one.least.addr = sym k.least ∙ (ap (λ (l : List Addr4). slice_get l 0) sending ∙ h.least) in
    let least_addr : other.least.addr ≡ one.least.addr = cc in
    let least : other.least ≡ one.least = ap (λ (a : Addr4). let key : LinkKey = record { addr = a } in key) least_addr in
    let listed : other.listed ≡ one.listed = lists_once (IsListed hello sender) other.listed one.listed k.listed h.listed in
    let originator : other.originator ≡ one.originator =
    originator_once sender hello one.listed one.originator other.originator h.listed named h.originator
    (subst (λ (l : List Addr4). (hello.originator ≡ Some other.originator) ⊎ ((hello.originator ≡ None) × Contains l other.originator)) listed k.originator) in
    let link_in : other.shown.link_in ≡ one.shown.link_in = handed_in_once face sender one.shown.link_in other.shown.link_in (h.link_in face at) (k.link_in face at) in
    let link_out : other.shown.link_out ≡ one.shown.link_out = least_only _ _ other.shown.link_out one.shown.link_out (λ m p. p) (λ m p. p) k.link_out h.link_out in
    let selector : other.shown.selector ≡ one.shown.selector = flag_only other.shown.selector one.shown.selector _ _ k.flooding h.flooding (λ p. p) (λ p. p) in
    let routing : other.routing ≡ one.routing = flag_only other.routing one.routing _ _ k.routing h.routing (λ p. p) (λ p. p) in
    let validity : other.shown.validity ≡ one.shown.validity = k.validity ∙ sym h.validity in
    let willing : other.willing ≡ one.willing = k.willing ∙ sym h.willing in
    let shown : other.shown ≡ record one.shown { status = status } =
    ap (λ (x : List Addr4). shown_of x status other.shown.link_in other.shown.link_out other.shown.selector other.shown.validity) sending
    ∙ (ap (λ (x : Metric). shown_of one.shown.sending status x other.shown.link_out other.shown.selector other.shown.validity) link_in
    ∙ (ap (λ (x : Option Metric). shown_of one.shown.sending status one.shown.link_in x other.shown.selector other.shown.validity) link_out
    ∙ (ap (λ (x : Bool). shown_of one.shown.sending status one.shown.link_in one.shown.link_out x other.shown.validity) selector
    ∙ ap (λ (x : ℕ). shown_of one.shown.sending status one.shown.link_in one.shown.link_out one.shown.selector x) validity))) in
    let there : Shown = record one.shown { status = status } in
    ap (λ (x : Shown). told_of x other.least other.listed other.originator other.willing other.routing) shown
    ∙ (ap (λ (x : LinkKey). told_of there x other.listed other.originator other.willing other.routing) least
    ∙ (ap (λ (x : List Addr4). told_of there one.least x other.originator other.willing other.routing) listed
    ∙ (ap (λ (x : Addr4). told_of there one.least one.listed x other.willing other.routing) originator
    ∙ (ap (λ (x : Willing). told_of there one.least one.listed one.originator x other.routing) willing
    ∙ ap (λ (x : Bool). told_of there one.least one.listed one.originator one.willing x) routing))))

looks_to : (settings : RouterSettings) (told : Told) (status : Option LinkStatus) (hello : Hello) (x : Addr4) (r : HelloRow) → LooksAt settings told hello x r → LooksAt settings (with_status told status) hello x r
looks_to settings told status hello x r looks = record { stands = looks.stands; not_mine = looks.not_mine; not_theirs = looks.not_theirs; shown = looks.shown }

looks_back : (settings : RouterSettings) (told : Told) (status : Option LinkStatus) (hello : Hello) (x : Addr4) (r : HelloRow) → LooksAt settings (with_status told status) hello x r → LooksAt settings told hello x r
looks_back settings told status hello x r looks = record { stands = looks.stands; not_mine = looks.not_mine; not_theirs = looks.not_theirs; shown = looks.shown }

-- ---- the neighbourhood after it

kept_once : {A : Type 0} (P Q : A → Type 0) (old old' new new' : Option A) → old' ≡ old → ((e : A) → P e → Q e) → ((e : A) → Q e → P e) → IsKept P old new → IsKept Q old' new' → new' ≡ new
kept_once {A} P Q old old' new new' same to back h k = grind (arith, common_steps)

key_cases : (i j : ℕ) (least key : LinkKey) → ((j ≡ i) × (key ≡ least)) ⊎ ((j ≢ i) ⊎ (key ≢ least))
key_cases i j least key = grind (arith, common_steps, same_or_other)

module _ (settings : RouterSettings) (now i : ℕ) (told : Told) (status : Option LinkStatus) (hello : Hello) (a b a' b' : Neighbourhood) (alike : AlikeNear a b)
    (ordered : AllPairs (λ (r : HelloRow) (t : HelloRow). IsBefore r.addr t.addr) hello.rows)
    (says : (hold : ℕ) (e : Link × ℕ) → by_status told.shown hold now status e ≡ by_status told.shown hold now told.shown.status e)
    (h : AfterHello settings now i told hello a a') (k : AfterHello settings now i (with_status told status) hello b b') where
  begins_once : (rule : Admit) (x y : Link × ℕ) → LinkKeptOrMade rule told.shown now (link_at a i told.least) x → LinkKeptOrMade rule (record told.shown { status = status }) now (link_at b i told.least) y → y ≡ x
  begins_once rule x y (Stood e is same) (Stood f is' same') = let both : Some y ≡ Some x = sym is' ∙ (alike.links i told.least ∙ is) in cc
  begins_once rule x y (Stood e is same) (Made other) = absurd (other x (alike.links i told.least ∙ is) same)
  begins_once rule x y (Made other) (Stood e is same) = absurd (other y (sym (alike.links i told.least) ∙ is) same)
  begins_once rule x y (Made other) (Made other') = refl

  least_once : link_at b' i told.least ≡ link_at a' i told.least
  least_once = grind (arith, common_steps, begins_once)

  theirs_by : (m n : Neighbourhood) → SameNeighbours m n → (x : Addr4) → IsTheirs m told x → IsTheirs n told x
  theirs_by m n same x (o, e, until, at, matches, among) = (o, e, until, same o ∙ at, matches, among)

  goes_by : (m n : Neighbourhood) → SameNeighbours n m → (j : ℕ) (link : Link) → GoesOn m told i j link → GoesOn n told i j link
  goes_by m n same j link goes = record { listed = λ theirs beyond. goes.listed (theirs.0, theirs.1, theirs_by n m same theirs.0 theirs.2) beyond; apart = goes.apart }

  status_goes : (j : ℕ) (link : Link) → GoesOn b told i j link → GoesOn b (with_status told status) i j link
  status_goes j link goes = record { listed = goes.listed; apart = goes.apart }

  goes_status : (j : ℕ) (link : Link) → GoesOn b (with_status told status) i j link → GoesOn b told i j link
  goes_status j link goes = record { listed = goes.listed; apart = goes.apart }

  links_once : SameLinks a' b'
  links_once j key = elim (key_cases i j told.least key) [
    | inl (here, is) ↦ subst (λ (n : ℕ). link_at b' n key ≡ link_at a' n key) (sym here) (subst (λ (q : LinkKey). link_at b' i q ≡ link_at a' i q) (sym is) least_once)
    | inr other ↦ kept_once (λ (e : Link × ℕ). GoesOn a told i j e.0) (λ (e : Link × ℕ). GoesOn b (with_status told status) i j e.0) (link_at a j key) (link_at b j key) (link_at a' j key) (link_at b' j key) (alike.links j key)
        (λ e g. status_goes j e.0 (goes_by a b (λ o. sym (alike.neighbours o)) j e.0 g)) (λ e g. goes_by b a alike.neighbours j e.0 (goes_status j e.0 g)) (h.other_links j key other) (k.other_links j key other)
  ]

  other_once : (o : Addr4) (old old' new new' : Option (Neighbour × ℕ)) → old' ≡ old → BecomesOther a' now told o old new → BecomesOther b' now (with_status told status) o old' new' → new' ≡ new
  other_once o old old' new new' same (Joins e is matches none) (Joins f is' matches' none') = none' ∙ sym none
  other_once o old old' new new' same (Joins e is matches none) (Remains apart restores) = absurd (apart e (same ∙ is) matches)
  other_once o old old' new new' same (Remains apart restores) (Joins e is matches none) = absurd (apart e (sym same ∙ is) matches)
  other_once o old old' new new' same (Remains apart restores) (Remains apart' restores') = grind (arith, common_steps, restores_only, links_once)

  neighbours_once : SameNeighbours a' b'
  neighbours_once o = elim (same_or_other told.originator.0 o.0) [
    | inl is ↦
        let same : o ≡ told.originator = addr_from o told.originator is in
        subst (λ (x : Addr4). neighbour_at b' x ≡ neighbour_at a' x) (sym same)
        (sym (restores_only a' b' links_once now (Some (announced told.listed told.willing told.routing, 0)) (neighbour_at a' told.originator) (neighbour_at b' told.originator) h.neighbour k.neighbour))
    | inr other ↦
        let apart : o ≢ told.originator = λ e. other (ap (λ (x : Addr4). x.0) e) in
        other_once o (neighbour_at a o) (neighbour_at b o) (neighbour_at a' o) (neighbour_at b' o) (alike.neighbours o) (h.other_neighbours o apart) (k.other_neighbours o apart)
  ]

  stood_once : (x : Addr4) (one other : Option (TwoHop × ℕ)) → StoodOn a i told x one → StoodOn b i (with_status told status) x other → other ≡ one
  stood_once x one other (Same_link e is same) (Same_link f is' same') = alike.two_hops i (record { link = told.least; addr = x })
  stood_once x one other (Same_link e is same) (New_link apart) = absurd (apart e (alike.links i told.least ∙ is) same)
  stood_once x one other (New_link apart) (Same_link e is same) = absurd (apart e (sym (alike.links i told.least) ∙ is) same)
  stood_once x one other (New_link apart) (New_link apart') = refl

  row_once : (x : Addr4) (r t : HelloRow) → LooksAt settings told hello x r → LooksAt settings (with_status told status) hello x t → t ≡ r
  row_once x r t looks looks' = one_row (λ (z : HelloRow). z.addr) hello.rows ordered t r looks'.stands.0 looks.stands.0 (looks'.stands.1 ∙ sym looks.stands.1)

  tells_once : (until : ℕ) (x : Addr4) (stood stood' new new' : Option (TwoHop × ℕ)) → stood' ≡ stood → TellsTwoHop settings told hello until x stood new →
      TellsTwoHop settings (with_status told status) hello until x stood' new' → new' ≡ new
  tells_once until x stood stood' new new' same (By_row r looks is) (By_row t looks' is') = is' ∙ (ap (λ (z : HelloRow). row_makes until z) (row_once x r t looks looks') ∙ sym is)
  tells_once until x stood stood' new new' same (By_row r looks is) (By_none none is') = absurd (none r (looks_to settings told status hello x r looks))
  tells_once until x stood stood' new new' same (By_none none is) (By_row t looks is') = absurd (none t (looks_back settings told status hello x t looks))
  tells_once until x stood stood' new new' same (By_none none is) (By_none none' is') = is' ∙ (same ∙ sym is)

  -- 2-hop tuples of the link, by whether it is SYMMETRIC
  at_link : (x : Addr4) (symmetric : Bool) → is_symmetric_at a' now i told.least ≡ symmetric → is_symmetric_at b' now i told.least ≡ symmetric →
      two_hop_at b' i (record { link = told.least; addr = x }) ≡ two_hop_at a' i (record { link = told.least; addr = x })
  at_link x true is is' =
      let (stood, on, tells) = h.two_hops is x in
      let (stood', on', tells') = k.two_hops is' x in
      tells_once (now + told.shown.validity) x stood stood' _ _ (stood_once x stood stood' on on') tells tells'
  at_link x false is is' = k.no_two_hops is' x ∙ sym (h.no_two_hops is x)

  two_hops_once : (j : ℕ) (key : TwoHopKey) → two_hop_at b' j key ≡ two_hop_at a' j key
  two_hops_once j key = elim (key_cases i j told.least key.link) [
    | inl (here, is) ↦
        let symmetric : is_symmetric_at b' now i told.least ≡ is_symmetric_at a' now i told.least = ap (λ (e : Option (Link × ℕ)). is_symmetric_entry now e) least_once in
        let at : two_hop_at b' i (record { link = told.least; addr = key.addr }) ≡ two_hop_at a' i (record { link = told.least; addr = key.addr }) =
        at_link key.addr (is_symmetric_at a' now i told.least) refl symmetric in
        subst (λ (n : ℕ). two_hop_at b' n key ≡ two_hop_at a' n key) (sym here)
        (subst (λ (l : LinkKey). two_hop_at b' i (record { link = l; addr = key.addr }) ≡ two_hop_at a' i (record { link = l; addr = key.addr })) (sym is) at)
    | inr other ↦
        k.other_two_hops j key other ∙ (ap (λ (e : Option (Link × ℕ)). cond (is_symmetric_entry now e) (two_hop_at b j key) None) (links_once j key.link)
        ∙ (ap (λ (e : Option (TwoHop × ℕ)). cond (is_symmetric_at a' now j key.link) e None) (alike.two_hops j key) ∙ sym (h.other_two_hops j key other)))
  ]

  losts_once : (x : Addr4) → lost_at b' x ≡ lost_at a' x
  losts_once x =
      sym (settles_only (IsSymmetricAddress a x) (IsSymmetricAddress a' x) (IsSymmetricAddress b x) (IsSymmetricAddress b' x) (now + settings.times.neighbour_hold) (lost_at a x) (lost_at a' x) (lost_at b' x)
      (symmetric_address a b alike.neighbours x) (symmetric_address b a (λ o. sym (alike.neighbours o)) x) (symmetric_address a' b' neighbours_once x) (symmetric_address b' a' (λ o. sym (neighbours_once o)) x) (h.losts x)
      (subst (λ (e : Option (Lost × ℕ)). SettlesLost (IsSymmetricAddress b x) (IsSymmetricAddress b' x) (now + settings.times.neighbour_hold) e (lost_at b' x)) (alike.losts x) (k.losts x)))

  after_once : AlikeNear a' b'
  after_once = grind (arith, common_steps, links_once, two_hops_once, neighbours_once, losts_once)

-- ---- the taking of it

fault_apart : (settings : RouterSettings) (sender : Addr4) (hello : Hello) (number : ℕ) → IsFault settings sender hello (Some number) → IsFault settings sender hello None → ⊥
fault_apart settings sender hello number (inl (is, own)) (not_own, named) = not_own own
fault_apart settings sender hello number (inr (is, no_own, nameless)) (not_own, named) = named nameless

held_by : (a b : Neighbourhood) → AlikeNear a b → (x : Addr4) → IsHeld a x → IsHeld b x
held_by a b alike x (inl (n, at)) = inl (n, alike.neighbours x ∙ at)
held_by a b alike x (inr (inl (o, n, until, at, among))) = inr (inl (o, n, until, alike.neighbours o ∙ at, among))
held_by a b alike x (inr (inr (e, at))) = inr (inr (e, alike.losts x ∙ at))

full_by : (a b : Neighbourhood) → AlikeNear a b → (told : Told) → IsFullOfAddresses a told → IsFullOfAddresses b told
full_by a b alike told (some, distinct, all, many) = (some, distinct, (λ x has. one x (all x has)), many)
  where
    one : (x : Addr4) → IsHeld a x ⊎ (Contains told.listed x ⊎ (x ≡ told.originator)) → IsHeld b x ⊎ (Contains told.listed x ⊎ (x ≡ told.originator))
    one x (inl held) = inl (held_by a b alike x held)
    one x (inr other) = inr other

count_once : (settings : RouterSettings) (told : Told) (hello : Hello) (m n : ℕ) → AreTwoHopRows settings told hello m → AreTwoHopRows settings told hello n → m ≡ n
count_once settings told hello m n (xs, distinct, is, are) (ys, distinct', is', are') =
    let up = distinct_fits addr_equiv same_addr xs ys distinct (λ x has. (are' x).1 ((are x).0 has)) in
    let down = distinct_fits addr_equiv same_addr ys xs distinct' (λ x has. (are x).1 ((are' x).0 has)) in
    omega (arith, up, down, is, is')

over_apart : (settings : RouterSettings) (at i : ℕ) (a b : Neighbourhood) → SoundNeighbourhood settings at a → SoundNeighbourhood settings at b → AlikeNear a b → (told : Told) (hello : Hello) → IsFullOfTwoHops settings i a told hello →
    FitsTwoHops settings i b told hello → ⊥
over_apart settings at i a b sound sound' alike told hello (m, rows, more) (n, rows', few) =
    let size = same_size two_hop_equiv (base_of a.two_hops i) (base_of b.two_hops i) (sound.two_hops i).distinct (sound'.two_hops i).distinct (alike.two_hops i) in
    let counts = count_once settings told hello m n rows rows' in
    omega (arith, size, counts, more, few)

rows_status : (settings : RouterSettings) (told : Told) (status : Option LinkStatus) (hello : Hello) (n : ℕ) → AreTwoHopRows settings (with_status told status) hello n → AreTwoHopRows settings told hello n
rows_status settings told status hello n (some, distinct, is, are) = (
  some,
  distinct,
  is,
  λ x. (
    λ has. (let (row, looks, tells) = (are x).0 has in (row, looks_back settings told status hello x row looks, tells)),
    λ (row, looks, tells). (are x).1 (row, looks_to settings told status hello x row looks, tells),
  ),
)

-- a HELLO that is taken came on an interface of the router
face_of : (settings : RouterSettings) (at now i : ℕ) (told : Told) (hello : Hello) (old new : Neighbourhood) → SoundNeighbourhood settings at old → AfterHello settings now i told hello old new →
    (face : Interface) × (slice_get settings.interfaces i ≡ Some face)
face_of settings at now i told hello old new sound h = elim (cases_lt i (length settings.interfaces)) [
  | inl below ↦ stands settings.interfaces i below
  | inr past ↦
      let (x, begins, is) = h.link in
      let one = h.interfaces in
      let two = sound.interfaces in
      let beyond : length new.links ≤ i = omega (arith, past, one, two) in
      let none : base_of new.links i ≡ [] = get_or_past new.links i [] beyond in
      absurd (let no : None ≡ Some (renewed told.shown settings.times.link_hold now x) = sym (ap (λ (base : Base LinkKey Link). find link_eq base told.least) none) ∙ is in cc)
]

module _ (settings : RouterSettings) (now i : ℕ) (sender : Addr4) (hello : Hello) (a b : Neighbourhood) (sound : SoundNeighbourhood settings now a) (sound' : SoundNeighbourhood settings now b) (alike : AlikeNear a b)
    (ordered : AllPairs (λ (r : HelloRow) (t : HelloRow). IsBefore r.addr t.addr) hello.rows) where
  back : AlikeNear b a
  back = near_back a b alike

  -- a HELLO that is too much for the one is so for the other
  not_addresses : (m n new : Neighbourhood) → AlikeNear m n → SoundNeighbourhood settings now n → (one other : Told) → IsFault settings sender hello None → Tells settings i sender hello one → Tells settings i sender hello other →
      IsFullOfAddresses m one → (IsFullOfAddresses n other → ⊥) → AfterHello settings now i other hello n new → ⊥
  not_addresses m n new same is_sound one other fault tells tells' full few after =
      let (face, at) = face_of settings now now i other hello n new is_sound after in
      let told = told_once settings i sender hello face at fault.1 one other tells tells' in
      few (subst (λ (t : Told). IsFullOfAddresses n t) (sym told) (full_by m n same one full))

  not_two_hops : (m n new : Neighbourhood) → AlikeNear m n → SoundNeighbourhood settings now m → SoundNeighbourhood settings now n → (one other : Told) → IsFault settings sender hello None → Tells settings i sender hello one →
      Tells settings i sender hello other → IsFullOfTwoHops settings i m one hello → FitsTwoHops settings i n other hello → AfterHello settings now i other hello n new → ⊥
  not_two_hops m n new same one_sound is_sound one other fault tells tells' full fits after =
      let (face, at) = face_of settings now now i other hello n new is_sound after in
      let told = told_once settings i sender hello face at fault.1 one other tells tells' in
      let (count, rows, few) = subst (λ (t : Told). FitsTwoHops settings i n t hello) told fits in
      over_apart settings now i m n one_sound is_sound same one hello full (count, rows_status settings one other.shown.status hello count rows, few)

  pub takes_hello_once : (a' b' : Neighbourhood) (one other : HelloAnswer) → TakesHello settings now i sender hello a a' one → TakesHello settings now i sender hello b b' other → AlikeNear a' b'
  takes_hello_once a' b' one other (Breaks n fault) (Breaks m fault') = alike
  takes_hello_once a' b' one other (Breaks n fault) (Overfull told none tells full) = alike
  takes_hello_once a' b' one other (Breaks n fault) (Overfull_two_hops told none tells few full) = alike
  takes_hello_once a' b' one other (Breaks n fault) (Takes told none tells few fits after) = absurd (fault_apart settings sender hello n fault none)
  takes_hello_once a' b' one other (Overfull told none tells full) (Breaks m fault') = alike
  takes_hello_once a' b' one other (Overfull told none tells full) (Overfull told' none' tells' full') = alike
  takes_hello_once a' b' one other (Overfull told none tells full) (Overfull_two_hops told' none' tells' few' full') = alike
  takes_hello_once a' b' one other (Overfull told none tells full) (Takes told' none' tells' few' fits' after') = absurd (not_addresses a b b' alike sound' told told' none tells tells' full few' after')
  takes_hello_once a' b' one other (Overfull_two_hops told none tells few full) (Breaks m fault') = alike
  takes_hello_once a' b' one other (Overfull_two_hops told none tells few full) (Overfull told' none' tells' full') = alike
  takes_hello_once a' b' one other (Overfull_two_hops told none tells few full) (Overfull_two_hops told' none' tells' few' full') = alike
  takes_hello_once a' b' one other (Overfull_two_hops told none tells few full) (Takes told' none' tells' few' fits' after') =
      absurd (not_two_hops a b b' alike sound sound' told told' none tells tells' full fits' after')
  takes_hello_once a' b' one other (Takes told none tells few fits after) (Breaks m fault') = absurd (fault_apart settings sender hello m fault' none)
  takes_hello_once a' b' one other (Takes told none tells few fits after) (Overfull told' none' tells' full') = absurd (not_addresses b a a' back sound told' told none tells' tells full' few after)
  takes_hello_once a' b' one other (Takes told none tells few fits after) (Overfull_two_hops told' none' tells' few' full') =
      absurd (not_two_hops b a a' back sound' sound told' told none tells' tells full' fits after)
  takes_hello_once a' b' one other (Takes told none tells few fits after) (Takes told' none' tells' few' fits' after') =
      let (face, at) = face_of settings now now i told hello a a' sound after in
      let same = told_once settings i sender hello face at none.1 told told' tells tells' in
      after_once settings now i told told'.shown.status hello a b a' b' alike ordered
      (λ hold e. status_once settings i hello told.shown.status told'.shown.status tells.status tells'.status told.shown hold now e) after
      (subst (λ (t : Told). AfterHello settings now i t hello b b') same after')
