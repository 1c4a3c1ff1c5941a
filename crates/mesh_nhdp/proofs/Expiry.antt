-- The parts of expiry, interface by interface.
use Rattle.mesh_nhdp.proofs.Common.{common_steps, ◌≡◌, ℕ, ◌+◌, ◌<◌, ◌↔◌, inl, inr, refl, sym, ap, subst, arith, List, [], ◌++◌, length, take, drop, get_or, Contains, Some, slice_get, slice_get_cases, IsDistinct, get_or_past, nil_from_length, take_all, Addr4, LinkKey, Link, TwoHopKey, TwoHop, Neighbour, Lost, Admit, RouterSettings, Base, Expires, base_of, addr_eq, Neighbourhood, rule_in, rule_of, LiveNeighbourhood, SoundNeighbourhood, FollowsLinks, ChangesEach, ExpiresOn, IsWantedAddress, item_at, none_not, Symmetric}
use Rattle.mesh_atoms.specs.declared.settings.Interface.{Interface}
use Rattle.mesh_nhdp.proofs.Bases.{base_cases}
use Rattle.mesh_nhdp.proofs.Whole.{live_by_calls}
use Rattle.mesh_nhdp.proofs.LiveSound.{live_sound}

-- the rule of the interface at a place
pub face_rule : (settings : RouterSettings) (i : ℕ) (faces : List Interface) (face : Interface) → faces ≡ settings.interfaces → i < length settings.interfaces → face ≡ get_or faces i face → face.admit ≡ rule_of settings i
face_rule settings i faces face faces_are lt is = grind (arith, common_steps, item_at)

-- a slice of the whole of a vector is written back whole
pub written_back : {A : Type 0} (len : ℕ) (new items : List A) → length new ≡ length items → len ≡ length items → take len (new ++ drop (length new) items) ≡ new
written_back len new items same all = grind (arith, common_steps, nil_from_length, take_all)

-- where there is no interface
expires_on_none : (rule : Admit) (hold now : ℕ) → ExpiresOn rule hold now [] [] [] []
unfolding IsDistinct
expires_on_none rule hold now = record {
  distinct_links = tt;
  distinct_two_hops = tt;
  links = ([], (λ key. refl), (λ key. refl));
  two_hops = ([], [], (λ key. refl), record { told = λ key c. absurd (omega (arith, c.1)); all = λ key e is. none_not refl is }, (λ key. refl));
}

module _ (settings : RouterSettings) (moment now : ℕ) (old : Neighbourhood) (S : SoundNeighbourhood settings moment old)
    (links : List (Base LinkKey Link)) (two_hops : List (Base TwoHopKey TwoHop)) (neighbours : Base Addr4 Neighbour) (losts live_losts : Base Addr4 Lost) (before : List Addr4)
    (before_is : (a : Addr4) → Contains before a ↔ IsWantedAddress old.neighbours Symmetric a) (same : length links ≡ length old.links) (same_two_hops : length two_hops ≡ length old.two_hops)
    (each : (i : ℕ) → i < length old.links → (face : Interface) → slice_get settings.interfaces i ≡ Some face → ExpiresOn face.admit settings.times.link_hold now (base_of old.links i) (base_of links i) (base_of old.two_hops i) (base_of two_hops i)) (expires : Expires addr_eq now old.losts live_losts)
    (F : FollowsLinks now before (now + settings.times.neighbour_hold) (record { links = links; two_hops = two_hops; neighbours = old.neighbours; losts = live_losts }) (record { links = links; two_hops = two_hops; neighbours = neighbours; losts = losts })) where
  on : (i : ℕ) → ExpiresOn (rule_of settings i) settings.times.link_hold now (base_of old.links i) (base_of links i) (base_of old.two_hops i) (base_of two_hops i)
  on i = elim (base_cases old.links i) [
    | inl there ↦ by_face there.0
    | inr past ↦
        let counts = S.interfaces in
        let counts_too = S.two_hop_interfaces in
        subst (λ b. ExpiresOn (rule_of settings i) settings.times.link_hold now b (base_of links i) (base_of old.two_hops i) (base_of two_hops i)) (sym past.1)
        (subst (λ b. ExpiresOn (rule_of settings i) settings.times.link_hold now [] b (base_of old.two_hops i) (base_of two_hops i)) (sym (get_or_past links i [] (omega (arith, past.0, same))))
        (subst (λ b. ExpiresOn (rule_of settings i) settings.times.link_hold now [] [] b (base_of two_hops i)) (sym (get_or_past old.two_hops i [] (omega (arith, past.0, counts, counts_too))))
        (subst (λ b. ExpiresOn (rule_of settings i) settings.times.link_hold now [] [] [] b) (sym (get_or_past two_hops i [] (omega (arith, past.0, same_two_hops, counts, counts_too)))) (expires_on_none (rule_of settings i) settings.times.link_hold now))))
  ]
    where
      by_face : i < length old.links → ExpiresOn (rule_of settings i) settings.times.link_hold now (base_of old.links i) (base_of links i) (base_of old.two_hops i) (base_of two_hops i)
      by_face within = elim ((slice_get_cases settings.interfaces i).1) [
        | inl there ↦ subst (λ (rule : Admit). ExpiresOn rule settings.times.link_hold now (base_of old.links i) (base_of links i) (base_of old.two_hops i) (base_of two_hops i)) (sym (ap rule_in there.2)) (each i within there.0 there.2)
        | inr past ↦ let counts = S.interfaces in absurd (omega (arith, within, counts, past.0))
      ]

  pub expiry_is : LiveNeighbourhood settings now old (record { links = links; two_hops = two_hops; neighbours = neighbours; losts = losts })
  expiry_is = live_by_calls settings moment now old (record { links = links; two_hops = two_hops; neighbours = neighbours; losts = losts }) S (record {
    tables = record { links = λ i. (on i).distinct_links; two_hops = λ i. (on i).distinct_two_hops; neighbours = F.distinct; losts = F.distinct_losts };
    interfaces = same;
    two_hop_interfaces = same_two_hops;
    links = λ i. (on i).links;
    two_hops = λ i. (on i).two_hops;
    before = before;
    before_is = before_is;
    live_losts = live_losts;
    expires_losts = expires;
    follows = F;
  })

  pub expiry_sound : SoundNeighbourhood settings now (record { links = links; two_hops = two_hops; neighbours = neighbours; losts = losts })
  expiry_sound = live_sound settings moment now old (record { links = links; two_hops = two_hops; neighbours = neighbours; losts = losts }) S expiry_is
      (let least = settings.times.sound.neighbour_hold_range.least in omega (arith, least))

-- expiry, as the calls leave it
pub expiry_runs : (settings : RouterSettings) (faces : List Interface) (moment now : ℕ) (old mid new : Neighbourhood) (live_losts : Base Addr4 Lost) (seen_neighbours : Base Addr4 Neighbour) (before seen_before : List Addr4) →
    faces ≡ settings.interfaces → SoundNeighbourhood settings moment old → seen_neighbours ≡ old.neighbours → ((a : Addr4) → Contains before a ↔ IsWantedAddress seen_neighbours Symmetric a) →
    ChangesEach (λ i was is before after. (face : Interface) → slice_get faces i ≡ Some face → ExpiresOn face.admit settings.times.link_hold now was is before after) old mid → Expires addr_eq now mid.losts live_losts →
    seen_before ≡ before → FollowsLinks now seen_before (now + settings.times.neighbour_hold) (record mid { losts = live_losts }) new → LiveNeighbourhood settings now old new × SoundNeighbourhood settings now new
expiry_runs settings faces moment now old mid new live_losts seen_neighbours before seen_before faces_are S sees before_is C expires seen_is F =
    let until = now + settings.times.neighbour_hold in
    let after : Neighbourhood = record mid { neighbours = new.neighbours; losts = new.losts } in
    let follows = subst (λ (b : List Addr4). FollowsLinks now b until (record mid { neighbours = old.neighbours; losts = live_losts }) after) seen_is
    (subst (λ (b : Base Addr4 Neighbour). FollowsLinks now seen_before until (record mid { neighbours = b; losts = live_losts }) after) (ap (λ (n : Neighbourhood). n.neighbours) C.rest)
    (subst (FollowsLinks now seen_before until (record mid { losts = live_losts })) F.rest F)) in
    let wanted = subst (λ (b : Base Addr4 Neighbour). (a : Addr4) → Contains before a ↔ IsWantedAddress b Symmetric a) sees before_is in
    let each_by = subst (λ (fs : List Interface). (i : ℕ) → i < length old.links → (face : Interface) → slice_get fs i ≡ Some face → ExpiresOn face.admit settings.times.link_hold now (base_of old.links i) (base_of mid.links i) (base_of old.two_hops i) (base_of mid.two_hops i))
    faces_are C.each in
    let expired = subst (λ (b : Base Addr4 Lost). Expires addr_eq now b live_losts) (ap (λ (n : Neighbourhood). n.losts) C.rest) expires in
    subst (λ (n : Neighbourhood). LiveNeighbourhood settings now old n × SoundNeighbourhood settings now n) (sym F.rest) (
      expiry_is settings moment now old S mid.links mid.two_hops new.neighbours new.losts live_losts before wanted C.links C.two_hops each_by expired follows,
      expiry_sound settings moment now old S mid.links mid.two_hops new.neighbours new.losts live_losts before wanted C.links C.two_hops each_by expired follows,
    )
