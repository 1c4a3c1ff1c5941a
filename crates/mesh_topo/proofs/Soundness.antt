-- What expiry and TCs keep of a topology.
use Rattle.mesh_topo.proofs.Common.{◌≡◌, ℕ, ◌+◌, ◌<◌, ◌⊎◌, inl, inr, Bool, true, false, cond, [], Option, Some, None, Result, Ok, Err, refl, sym, ap, subst, ◌∙◌, arith, nat_lt, IfOk, OnOk, common_steps, lt-ltb, Addr4, Tc, if_not_dropped, Becomes, BecomesSet, AfterTc, TcAnswer, TakesTc, Base, find, if_live, Expires, IsFresh, SetsOnly, addr_eq, router_eq, address_eq, network_eq, LiveTopology, distinct_none, TopologyBase, IsOriginator, AreFew, AreFresh, same_addr}
use Rattle.std.specs.declared.alloc.AllocError.{AllocError}
use Rattle.mesh_atoms.specs.declared.settings.RouterSettings.{RouterSettings}
use Rattle.mesh_atoms.specs.declared.tuples.Advertiser.{Advertiser}
use Rattle.mesh_atoms.specs.Sound.{IsWithin, SoundTopology}
use Rattle.mesh_topo.specs.declared.topology.TcTaken.{TcTaken}
use Rattle.mesh_topo.specs.Answers.{answer_of}

-- ---- expiry

-- what is left was there, and isn't expired
live_from : {V : Type 0} (now : ℕ) (o : Option (V × ℕ)) (value : V) (until : ℕ) → if_live now o ≡ Some (value, until) → nat_lt now until ≡ true
live_from now o value until e = grind (arith, common_steps)

pub expired_fresh : {K V : Type 0} (eq : K → K → Bool) (now : ℕ) (old new : Base K V) → Expires eq now old new → IsFresh eq now new
expired_fresh eq now old new expires q value until e = live_from now (find eq old q) value until (sym (expires q) ∙ e)

none_left : {K V : Type 0} (eq : K → K → Bool) (now : ℕ) (old new : Base K V) (q : K) → Expires eq now old new → find eq old q ≡ None → find eq new q ≡ None
none_left eq now old new q expires none = expires q ∙ ap (if_live now) none

pub live_fresh : (now : ℕ) (old new : TopologyBase) → LiveTopology now old new → AreFresh now new
live_fresh now old new live = grind (arith, common_steps, expired_fresh)

few_of : (settings : RouterSettings) (now : ℕ) (topology : TopologyBase) → SoundTopology settings now topology → AreFew topology
few_of settings now topology sound = record { advertisers = sound.advertisers.limit; routers = sound.routers.limit; addresses = sound.addresses.limit; networks = sound.networks.limit }

pub live_sound : (now : ℕ) (old new : TopologyBase) → LiveTopology now old new → (AreFew old → AreFew new) → (settings : RouterSettings) (before : ℕ) → SoundTopology settings before old → SoundTopology settings now new
live_sound now old new live within settings before sound = grind (arith, common_steps, few_of, live_fresh, none_left)

-- ---- no tuples

none_within : {K V : Type 0} (eq : K → K → Bool) (now : ℕ) (base : Base K V) → base ≡ [] → IsWithin eq now 16384 base
none_within eq now base none = rw none (record { distinct = distinct_none eq; limit = omega arith; fresh = λ q value until e. absurd cc })

none_at : {K V : Type 0} (eq : K → K → Bool) (base : Base K V) (q : K) → base ≡ [] → find eq base q ≡ None
none_at eq base q none = rw none refl

pub none_sound : (topology : TopologyBase) → topology.advertisers ≡ [] → topology.routers ≡ [] → topology.addresses ≡ [] → topology.networks ≡ [] →
    (settings : RouterSettings) (now : ℕ) → SoundTopology settings now topology
none_sound topology a r d n settings now = record {
  advertisers = none_within addr_eq now topology.advertisers a;
  routers = none_within router_eq now topology.routers r;
  addresses = none_within address_eq now topology.addresses d;
  networks = none_within network_eq now topology.networks n;
  not_my_advertiser = λ o mine. none_at addr_eq topology.advertisers o a;
  not_my_router = λ key mine. none_at router_eq topology.routers key r;
  not_my_address = λ key mine. none_at address_eq topology.addresses key d;
  not_my_network = λ key mine. none_at network_eq topology.networks key n;
}

-- ---- a TC

kept_was : {V : Type 0} (tc : Tc) (from : Addr4) (number : V → ℕ) (o : Option (V × ℕ)) (e : V × ℕ) → if_not_dropped tc from number o ≡ Some e → o ≡ Some e
kept_was tc from number o e h = grind (arith, common_steps)

above : (n v : ℕ) → 0 < v → n < n + v
above n v lasts = omega arith

-- a moment that a TC sets is later than now
later : {V : Type 0} (tc : Tc) (now : ℕ) (given value : V) (until : ℕ) (new : Option (V × ℕ)) → 0 < tc.validity → new ≡ Some (given, now + tc.validity) → new ≡ Some (value, until) → nat_lt now until ≡ true
later {V} tc now given value until new lasts is e = grind (arith, common_steps, above, lt-ltb)

becomes_fresh : {K V : Type 0} (tc : Tc) (now : ℕ) (from : K → Addr4) (number : V → ℕ) (G : K → V → Type 0) (key : K) (old new : Option (V × ℕ)) (value : V) (until : ℕ) → 0 < tc.validity →
    Becomes tc (now + tc.validity) from number G key old new → (old ≡ Some (value, until) → nat_lt now until ≡ true) → new ≡ Some (value, until) → nat_lt now until ≡ true
becomes_fresh tc now from number G key old new value until lasts h11 fresh e = grind (arith, common_steps, kept_was)

becomes_none : {K V : Type 0} (tc : Tc) (until : ℕ) (from : K → Addr4) (number : V → ℕ) (G : K → V → Type 0) (key : K) (old new : Option (V × ℕ)) →
    ((value : V) → G key value → ⊥) → Becomes tc until from number G key old new → old ≡ None → new ≡ None
becomes_none tc until from number G key old new never h9 none = grind (arith, common_steps)

set_fresh : {K V : Type 0} (eq : K → K → Bool) (tc : Tc) (now : ℕ) (from : K → Addr4) (number : V → ℕ) (G : K → V → Type 0) (old new : Base K V) → 0 < tc.validity →
    BecomesSet eq tc (now + tc.validity) from number G old new → IsFresh eq now old → IsFresh eq now new
set_fresh eq tc now from number G old new lasts set fresh q value until e = becomes_fresh tc now from number G q (find eq old q) (find eq new q) value until lasts (set.at q) (fresh q value until) e

advertisers_fresh : (tc : Tc) (now : ℕ) (old new : Base Addr4 Advertiser) → 0 < tc.validity → SetsOnly addr_eq old new tc.originator (Some (record { ansn = tc.ansn }, now + tc.validity)) → IsFresh addr_eq now old → IsFresh addr_eq now new
advertisers_fresh tc now old new lasts sets fresh q value until e = grind (arith, common_steps, later)

after_fresh : (now : ℕ) (tc : Tc) (old new : TopologyBase) → 0 < tc.validity → AfterTc now tc old new → AreFresh now old → AreFresh now new
after_fresh now tc old new lasts after fresh = grind (arith, common_steps, advertisers_fresh, set_fresh)

after_sound : (settings : RouterSettings) (now : ℕ) (tc : Tc) (old new : TopologyBase) → 0 < tc.validity → (IsOriginator settings tc.originator → ⊥) → AreFew new → AfterTc now tc old new → SoundTopology settings now old → SoundTopology settings now new
after_sound settings now tc old new lasts other few after sound =
    let fresh : AreFresh now new = after_fresh now tc old new lasts after (record { advertisers = sound.advertisers.fresh; routers = sound.routers.fresh; addresses = sound.addresses.fresh; networks = sound.networks.fresh }) in
    record {
      advertisers = record { distinct = after.distinct; limit = few.advertisers; fresh = fresh.advertisers };
      routers = record { distinct = after.routers.distinct; limit = few.routers; fresh = fresh.routers };
      addresses = record { distinct = after.addresses.distinct; limit = few.addresses; fresh = fresh.addresses };
      networks = record { distinct = after.networks.distinct; limit = few.networks; fresh = fresh.networks };
      not_my_advertiser = λ o mine. not_mine o mine (addr_eq tc.originator o) refl;
      not_my_router = λ key mine. becomes_none tc (now + tc.validity) _ _ _ key (find router_eq old.routers key) (find router_eq new.routers key)
          (λ t gives. other (subst (λ (a : Addr4). IsOriginator settings a) gives.0.0 mine)) (after.routers.at key) (sound.not_my_router key mine);
      not_my_address = λ key mine. becomes_none tc (now + tc.validity) _ _ _ key (find address_eq old.addresses key) (find address_eq new.addresses key)
          (λ t gives. other (subst (λ (a : Addr4). IsOriginator settings a) gives.0.0 mine)) (after.addresses.at key) (sound.not_my_address key mine);
      not_my_network = λ key mine. becomes_none tc (now + tc.validity) _ _ _ key (find network_eq old.networks key) (find network_eq new.networks key)
          (λ t gives. other (subst (λ (a : Addr4). IsOriginator settings a) gives.0.0 mine)) (after.networks.at key) (sound.not_my_network key mine);
    }
  where
    not_mine : (o : Addr4) → IsOriginator settings o → (b : Bool) → addr_eq tc.originator o ≡ b → find addr_eq new.advertisers o ≡ None
    not_mine o mine true is = absurd (other (subst (λ (a : Addr4). IsOriginator settings a) (sym (same_addr tc.originator o is)) mine))
    not_mine o mine false is = after.advertisers o ∙ (ap (λ (b : Bool). cond b (Some (record { ansn = tc.ansn }, now + tc.validity)) (find addr_eq old.advertisers o)) is ∙ sound.not_my_advertiser o mine)

-- a TC that isn't taken changes nothing
taken_cases : (now : ℕ) (tc : Tc) (old new : TopologyBase) (answer : TcAnswer) → TakesTc now tc old new answer → (new ≡ old) ⊎ AfterTc now tc old new
taken_cases now tc old new answer h5 = grind (arith, common_steps)

pub tc_fresh : (now : ℕ) (tc : Tc) (old new : TopologyBase) (r : Result (TcTaken × Bool) AllocError) → IfOk r (λ told. TakesTc now tc old new (answer_of told.0)) → OnOk r (0 < tc.validity → AreFresh now old → AreFresh now new)
tc_fresh now tc old new (Ok told) takes = grind (arith, common_steps, taken_cases, after_fresh)
tc_fresh now tc old new (Err e) takes = tt

pub tc_sound : (now : ℕ) (tc : Tc) (old new : TopologyBase) (r : Result (TcTaken × Bool) AllocError) → IfOk r (λ told. TakesTc now tc old new (answer_of told.0)) → OnOk r (AreFew old → AreFew new) →
    OnOk r ((settings : RouterSettings) → 0 < tc.validity → (IsOriginator settings tc.originator → ⊥) → SoundTopology settings now old → SoundTopology settings now new)
tc_sound now tc old new (Ok told) takes within = λ settings lasts other sound. elim (taken_cases now tc old new (answer_of told.0) takes) [
  | inl same ↦ subst (SoundTopology settings now) (sym same) sound
  | inr after ↦ after_sound settings now tc old new lasts other (within (few_of settings now old sound)) after sound
]
tc_sound now tc old new (Err e) takes within = tt
