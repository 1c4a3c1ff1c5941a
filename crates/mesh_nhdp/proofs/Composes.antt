-- The calls of the sets, one after the other, are expiry and the taking of a HELLO.
use Rattle.mesh_nhdp.proofs.Common.{common_steps, ◌≡◌, ℕ, zero, suc, ◌<◌, ◌≢◌, ◌⊎◌, ◌↔◌, inl, inr, refl, sym, ◌∙◌, ap, subst, arith, List, [], ◌∷◌, length, Contains, slice_index_or, Option, Some, None, true, Addr4, Admit, LinkKey, LinkNote, Link, Neighbour, Lost, Base, base_of, find, link_eq, addr_eq, Neighbourhood, is_symmetric, HasLinkOf, HasSymmetricOf, IsByLinks, Restores, SettlesLost, IsKept, IsBeyond, Meets, Told, GoesOn, IsApart, IsTheirs, LinkKeptOrMade, Stood, Made, renewed, Matches, announced, BecomesOther, Joins, Remains, EndsOutside, HearsOn, HasNote, HasSymmetricNote, IsByNotes, RestoresBy, Replaces, note_of, TellsLinks, TellsLinksOf, same_some, none_not, contains_or_not, kept_from, least_same}

-- Neighbours: by the notes of all links is by the links

module _ (near : Neighbourhood) (now : ℕ) (notes : List LinkNote) (Of : List Addr4 → Type 0)
    (told : (note : LinkNote) → Contains notes note → (i : ℕ) × (e : Link × ℕ) × (find link_eq (base_of near.links i) note.key ≡ Some e) × (note ≡ note_of now note.key e))
    (all : (addrs : List Addr4) → Of addrs → (i : ℕ) (key : LinkKey) (e : Link × ℕ) → HasLinkOf near addrs i key e → Contains notes (note_of now key e)) where
  -- a note's link, and a link's note
  link_of : (addrs : List Addr4) (note : LinkNote) → HasNote notes addrs note → (i : ℕ) × (e : Link × ℕ) × HasLinkOf near addrs i note.key e × (note ≡ note_of now note.key e)
  link_of addrs note has = let (i, e, at, is) = told note has.0 in (i, e, (has.1, at), is)

  note_is : (addrs : List Addr4) → Of addrs → (i : ℕ) (key : LinkKey) (e : Link × ℕ) → HasLinkOf near addrs i key e → HasNote notes addrs (note_of now key e)
  note_is addrs of i key e has = (all addrs of i key e has, has.0)

  symmetric_link : (addrs : List Addr4) (note : LinkNote) → HasSymmetricNote notes addrs note → (link : Link) × HasSymmetricOf near now addrs link × (note.link_in ≡ link.link_in) × (note.link_out ≡ link.link_out)
  symmetric_link addrs note has =
      let (i, e, of, is) = link_of addrs note has.0 in
      let symmetric : is_symmetric e.0 now ≡ true = ap (λ (n : LinkNote). n.symmetric) (sym is) ∙ has.1 in
      (e.0, (i, note.key, e.1, of, symmetric), ap (λ (n : LinkNote). n.link_in) is, ap (λ (n : LinkNote). n.link_out) is)

  symmetric_note : (addrs : List Addr4) → Of addrs → (link : Link) → HasSymmetricOf near now addrs link → (note : LinkNote) × HasSymmetricNote notes addrs note × (note.link_in ≡ link.link_in) × (note.link_out ≡ link.link_out)
  symmetric_note addrs its link has =
      let (i, key, until, of, symmetric) = has in
      (note_of now key (link, until), (note_is addrs its i key (link, until) of, symmetric), refl, refl)

  by_links : (n : Neighbour) → Of n.addrs → (until : ℕ) → IsByNotes notes n until → IsByLinks near now n until
  by_links n its until b = record {
    latest =
        let (note, has, at) = b.latest in
        let (i, e, of, is) = link_of n.addrs note has in
        let when : e.1 ≡ until = ap (λ (x : LinkNote). x.until) (sym is) ∙ at in
        (i, note.key, e.0, subst (λ (u : ℕ). HasLinkOf near n.addrs i note.key (e.0, u)) when of);
    no_later = λ i key link u has. b.no_later (note_of now key (link, u)) (note_is n.addrs its i key (link, u) has);
    symmetric = (
      λ h. let (note, has) = b.symmetric.0 h in let (link, of, _, _) = symmetric_link n.addrs note has in (link, of),
      λ h. let (note, has, _, _) = symmetric_note n.addrs its h.0 h.1 in b.symmetric.1 (note, has),
    );
    metric_in = least_same n.metric_in
        (λ m h. let (note, has, is) = h in let (link, of, same, _) = symmetric_link n.addrs note has in (link, of, sym same ∙ is))
        (λ m h. let (link, of, is) = h in let (note, has, same, _) = symmetric_note n.addrs its link of in (note, has, same ∙ is)) b.metric_in;
    metric_out = least_same n.metric_out
        (λ m h. let (note, has, is) = h in let (link, of, _, same) = symmetric_link n.addrs note has in (link, of, sym same ∙ is))
        (λ m h. let (link, of, is) = h in let (note, has, _, same) = symmetric_note n.addrs its link of in (note, has, same ∙ is)) b.metric_out;
  }

  restores_so : (old new : Option (Neighbour × ℕ)) → ((e : Neighbour × ℕ) → old ≡ Some e → Of e.0.addrs) → RestoresBy notes old new → Restores near now old new
  restores_so None new its r = r
  restores_so (Some e) None its r = λ i key f has. r (note_of now key f) (note_is e.0.addrs (its e refl) i key f has)
  restores_so (Some e) (Some f) its r = record { addrs = r.addrs; willing = r.willing; selector = r.selector; by_links = by_links f.0 (subst Of (sym r.addrs) (its e refl)) f.1 r.by_notes }

-- by the notes of all links
pub restores_by : (near : Neighbourhood) (now : ℕ) (notes : List LinkNote) → TellsLinks near.links now notes → (old new : Option (Neighbour × ℕ)) → RestoresBy notes old new → Restores near now old new
restores_by near now notes T old new = restores_so near now notes (λ addrs. Unit {0}) T.told (λ addrs its i key e has. T.all i key e has.1) old new (λ e is. tt)

-- by those of its own
pub restores_of : (near : Neighbourhood) (now : ℕ) (addrs : List Addr4) (notes : List LinkNote) → TellsLinksOf near.links addrs now notes → (old new : Option (Neighbour × ℕ)) →
    ((e : Neighbour × ℕ) → old ≡ Some e → e.0.addrs ≡ addrs) → RestoresBy notes old new → Restores near now old new
restores_of near now addrs notes T old new = restores_so near now notes (λ xs. xs ≡ addrs) T.told (λ xs its i key e has. T.all i key e (subst (λ (ys : List Addr4). Contains ys key.addr) its has.0) has.1) old new

-- Lost addresses: by lists of the symmetric neighbours' addresses

pub settles_by : {was is : Type 0} {until : ℕ} {stood new : Option (Lost × ℕ)} (P Q : Type 0) → (was → P) → (P → was) → (is → Q) → (Q → is) →
    SettlesLost was is until stood new → SettlesLost P Q until stood new
settles_by P Q to from on off h6 = grind (arith, common_steps)

-- What is kept twice

pub kept_iff : {A : Type 0} (P Q : A → Type 0) → ((e : A) → P e → Q e) → ((e : A) → Q e → P e) → (old new : Option A) → IsKept P old new → IsKept Q old new
kept_iff P Q to from old new k = grind (arith, common_steps)

pub kept_twice : {A : Type 0} (P Q : A → Type 0) (old mid new : Option A) → IsKept P old mid → IsKept Q mid new → IsKept (λ e. P e × Q e) old new
kept_twice P Q old mid new k l = grind (arith, common_steps, none_not, same_some)

-- Links: `end_outside` on every interface, and `hear` on the one

module _ (near : Neighbourhood) (told : Told) (theirs : List Addr4) (is_theirs : (a : Addr4) → Contains theirs a ↔ IsTheirs near told a)
    (within : (a : Addr4) → Contains told.shown.sending a → Contains told.listed a) where
  meets_theirs : (link : Link) → Meets link.addrs theirs → (a : Addr4) × Contains link.addrs a × IsTheirs near told a
  meets_theirs link m = let (a, has, there) = m in (a, has, (is_theirs a).0 there)

  theirs_meet : (link : Link) → ((a : Addr4) × Contains link.addrs a × IsTheirs near told a) → Meets link.addrs theirs
  theirs_meet link m = let (a, has, there) = m in (a, has, (is_theirs a).1 there)

  -- on another interface
  pub goes_on_elsewhere : (i j : ℕ) (old new : Base LinkKey Link) (key : LinkKey) → j ≢ i → EndsOutside theirs told.listed old new →
      IsKept (λ e. GoesOn near told i j e.0) (find link_eq old key) (find link_eq new key)
  goes_on_elsewhere i j old new key other ends = kept_iff (λ e. (Meets e.0.addrs theirs × IsBeyond e.0.addrs told.listed) → ⊥) (λ e. GoesOn near told i j e.0)
      (λ e p. record { listed = λ has beyond. p (theirs_meet e.0 has, beyond); apart = λ same. absurd (other same) })
      (λ e g both. g.listed (meets_theirs e.0 both.0) both.1)
      (find link_eq old key) (find link_eq new key) (ends key)

  -- on the interface that hears it
  pub goes_on_here : (rule : Admit) (hold now i : ℕ) (old mid new : Base LinkKey Link) (key : LinkKey) → key ≢ told.least → EndsOutside theirs told.listed old mid →
      HearsOn rule told.shown told.least hold now mid new → IsKept (λ e. GoesOn near told i i e.0) (find link_eq old key) (find link_eq new key)
  goes_on_here rule hold now i old mid new key other ends hears = kept_iff (λ e. ((Meets e.0.addrs theirs × IsBeyond e.0.addrs told.listed) → ⊥) × IsApart told.shown.sending e.0) (λ e. GoesOn near told i i e.0)
      (λ e p. record { listed = λ has beyond. p.0 (theirs_meet e.0 has, beyond); apart = λ same. p.1 })
      (λ e g. (λ both. g.listed (meets_theirs e.0 both.0) both.1, g.apart refl))
      (find link_eq old key) (find link_eq new key)
      (kept_twice (λ e. (Meets e.0.addrs theirs × IsBeyond e.0.addrs told.listed) → ⊥) (λ e. IsApart told.shown.sending e.0) (find link_eq old key) (find link_eq mid key) (find link_eq new key) (ends key) (hears.others key other))

  -- the link that is renewed stood before where it stands after `end_outside`
  begins_before : (rule : Admit) (now : ℕ) (old mid : Option (Link × ℕ)) (start : Link × ℕ) →
      IsKept (λ e. (Meets e.0.addrs theirs × IsBeyond e.0.addrs told.listed) → ⊥) old mid → LinkKeptOrMade rule told.shown now mid start → LinkKeptOrMade rule told.shown now old start
  begins_before rule now old mid start k (Stood e at same) = Stood e (kept_from (λ e. (Meets e.0.addrs theirs × IsBeyond e.0.addrs told.listed) → ⊥) old mid e k at).1 same
  begins_before rule now old mid start k (Made none) = Made (λ e at same. still old k e at same)
    where
      not_beyond : (e : Link × ℕ) → e.0.addrs ≡ told.shown.sending → IsBeyond e.0.addrs told.listed → ⊥
      not_beyond e same beyond = let (a, has, not_in) = beyond in not_in (within a (subst (λ (xs : List Addr4). Contains xs a) same has))

      still : (old : Option (Link × ℕ)) → IsKept (λ e. (Meets e.0.addrs theirs × IsBeyond e.0.addrs told.listed) → ⊥) old mid → (e : Link × ℕ) → old ≡ Some e → e.0.addrs ≡ told.shown.sending → ⊥
      still None k e at same = none_not refl at
      still (Some f) (inl k) e at same = none f k.1 (ap (λ (x : Link × ℕ). x.0.addrs) (same_some refl at) ∙ same)
      still (Some f) (inr k) e at same = k.0 (λ both. not_beyond f (ap (λ (x : Link × ℕ). x.0.addrs) (same_some refl at) ∙ same) both.1)

  pub hears_link : (rule : Admit) (hold now : ℕ) (old mid new : Base LinkKey Link) → EndsOutside theirs told.listed old mid → HearsOn rule told.shown told.least hold now mid new →
      (start : Link × ℕ) × LinkKeptOrMade rule told.shown now (find link_eq old told.least) start × (find link_eq new told.least ≡ Some (renewed told.shown hold now start))
  hears_link rule hold now old mid new ends hears =
      let (start, begins, stands) = hears.one in
      (start, begins_before rule now (find link_eq old told.least) (find link_eq mid told.least) start (ends told.least) begins, stands)

-- Neighbours: `replace`, and then `expire` by the notes of the new links

pub restores_at : (near : Neighbourhood) (now : ℕ) (n : Neighbour) (u v : ℕ) (new : Option (Neighbour × ℕ)) → Restores near now (Some (n, u)) new → Restores near now (Some (n, v)) new
restores_at near now n u v new r = grind (arith, common_steps)

meets_or_not : (xs ys : List Addr4) → Meets xs ys ⊎ (Meets xs ys → ⊥)
meets_or_not [] ys = inr (λ m. absurd (omega (arith, m.1.1)))
meets_or_not (x ∷ xs) ys = elim (contains_or_not ys x) [
  | inl c ↦ inl (x, (0, omega arith, refl), c)
  | inr not_x ↦ elim (meets_or_not xs ys) [
    | inl m ↦ inl (m.0, (suc m.1.0, omega (arith, m.1.1), m.1.2), m.2)
    | inr none ↦ inr (λ m. rest x xs ys not_x none m.0 m.1.0 m.1.1 m.1.2 m.2)
  ]
]
  where
    rest : (x : Addr4) (xs ys : List Addr4) → (Contains ys x → ⊥) → (Meets xs ys → ⊥) → (a : Addr4) (k : ℕ) → k < length (x ∷ xs) → slice_index_or (x ∷ xs) k a ≡ a → Contains ys a → ⊥
    rest x xs ys not_x none a zero l e c = not_x (subst (λ (b : Addr4). Contains ys b) (sym e) c)
    rest x xs ys not_x none a (suc k) l e c = none (a, (k, omega (arith, l), e), c)

pub replaced_other : (near : Neighbourhood) (now : ℕ) (told : Told) (o : Addr4) (old mid new : Option (Neighbour × ℕ)) → o ≢ told.originator →
    IsKept (λ e. Matches told.originator told.listed o e.0 → ⊥) old mid → Restores near now mid new → BecomesOther near now told o old new
replaced_other near now told o None mid new other k r = Remains (λ e at m. none_not refl at) (subst (λ (x : Option (Neighbour × ℕ)). Restores near now x new) k r)
replaced_other near now told o (Some e) mid new other (inl k) r = grind (arith, common_steps, same_some)
replaced_other near now told o (Some e) mid new other (inr k) r = elim (meets_or_not e.0.addrs told.listed) [
  | inl meets ↦ Joins e refl (inr meets) (gone mid k.1 r)
  | inr none ↦ absurd (k.0 (λ m. elim m [ inl same ↦ other same | inr meets ↦ none meets ]))
]
  where
    gone : (mid : Option (Neighbour × ℕ)) → mid ≡ None → Restores near now mid new → new ≡ None
    gone None at r = r
    gone (Some f) at r = none_not at refl

pub replaced_one : (near : Neighbourhood) (now until : ℕ) (told : Told) (old mid : Base Addr4 Neighbour) (new : Option (Neighbour × ℕ)) → Replaces told.originator told.listed told.willing told.routing until old mid →
    Restores near now (find addr_eq mid told.originator) new → Restores near now (Some (announced told.listed told.willing told.routing, 0)) new
replaced_one near now until told old mid new r restores = grind (arith, common_steps, restores_at)
