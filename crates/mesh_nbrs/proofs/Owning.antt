-- The map from addresses to originators after each change.
use Rattle.mesh_nbrs.proofs.Common.{arith, common_steps, ◌≡◌, ◌≢◌, ℕ, refl, sym, ap, subst, ◌∙◌, Bool, true, false, cond, List, take, Contains, Option, Some, None, is_some, ◌↔◌, option_map, IsSome, IfNone, OnOk, OnErr, Result, is_err, list_any, keys_of, option_filter, Addr4, Neighbour, Base, SetsOnly, find, addr_eq, IsKept, Meets, addr_equiv, same_addr, changed_at, find-changed_at, owner_of, addrs_at, HasAt, Owned, KeepsAddrs, LeavesNotesOf, SetsOwner}
use Rattle.std.proofs.lemmas.Map.Views.{Contains-keys_from_lookup, IsSome-lookup_from_Contains}
use Rattle.mesh_nbrs.proofs.Listed.{contains_of, unlisted_of, any_take}
use Rattle.mesh_nbrs.proofs.Sets.{set_there, set_elsewhere}

abbrev pub Owners : Type 0
Owners = List (Addr4 × Addr4)

abbrev pub Nbrs : Type 0
Nbrs = Base Addr4 Neighbour

-- ---- what the map tells

-- a neighbour that stands has its addresses
pub has_at : (base : Nbrs) (o a : Addr4) (e : Neighbour × ℕ) → find addr_eq base o ≡ Some e → Contains e.0.addrs a → HasAt base o a
has_at base o a e found has = (e.0.addrs, ap (option_map (λ (x : Neighbour × ℕ). x.0.addrs)) found, has)

pub from_at : (base : Nbrs) (o a : Addr4) → HasAt base o a → (e : Neighbour × ℕ) × (find addr_eq base o ≡ Some e) × Contains e.0.addrs a
from_at base o a h = by_found (find addr_eq base o) refl h.1 where
  by_found : (p : Option (Neighbour × ℕ)) → find addr_eq base o ≡ p → option_map (λ (x : Neighbour × ℕ). x.0.addrs) p ≡ Some h.0 → (e : Neighbour × ℕ) × (find addr_eq base o ≡ Some e) × Contains e.0.addrs a
  by_found None is at = absurd cc
  by_found (Some e) is at = let same : h.0 ≡ e.0.addrs = cc in (e, is, subst (λ (l : List Addr4). Contains l a) same h.2)

module _ (owners : Owners) (base : Nbrs) (owned : Owned owners base) where
  -- the neighbour that has an address is the noted one
  pub noted_of : (a o : Addr4) (e : Neighbour × ℕ) → find addr_eq base o ≡ Some e → Contains e.0.addrs a → owner_of owners a ≡ Some o
  noted_of a o e found has = (owned a o).1 (has_at base o a e found has)

  pub sole : (a o p : Addr4) (e : Neighbour × ℕ) → owner_of owners a ≡ Some p → find addr_eq base o ≡ Some e → Contains e.0.addrs a → o ≡ p
  sole a o p e noted found has = let both : Some o ≡ Some p = sym (noted_of a o e found has) ∙ noted in cc

  pub none_with : (a o : Addr4) (e : Neighbour × ℕ) → owner_of owners a ≡ None → find addr_eq base o ≡ Some e → Contains e.0.addrs a → ⊥
  none_with a o e none found has = let both : None ≡ Some o = sym none ∙ noted_of a o e found has in absurd cc

  -- a noted originator is a neighbour's
  pub noted_stands : (a o : Addr4) → owner_of owners a ≡ Some o → find addr_eq base o ≡ None → ⊥
  noted_stands a o noted none =
      let (e, found, has) = from_at base o a ((owned a o).0 noted) in
      let both : None ≡ Some e = sym none ∙ found in
      absurd cc

  pub noted_at : (a o : Addr4) (e : Neighbour × ℕ) → owner_of owners a ≡ Some o → find addr_eq base o ≡ Some e → Contains e.0.addrs a
  noted_at a o e noted found =
      let (f, there, has) = from_at base o a ((owned a o).0 noted) in
      let both : Some f ≡ Some e = sym there ∙ found in
      let one : f ≡ e = cc in
      subst (λ (x : Neighbour × ℕ). Contains x.0.addrs a) one has

  -- the addresses of the neighbours are those of the map
  pub held_by : (a : Addr4) → Contains (keys_of owners) a ↔ ((o : Addr4) × (e : Neighbour × ℕ) × (find addr_eq base o ≡ Some e) × Contains e.0.addrs a)
  held_by a = (
    (λ has. by_owner (owner_of owners a) refl (IsSome-lookup_from_Contains addr_equiv a owners has)),
    (λ h. Contains-keys_from_lookup same_addr a owners (ap is_some (noted_of a h.0 h.1 h.2 h.3))),
  ) where
    by_owner : (p : Option Addr4) → owner_of owners a ≡ p → IsSome p → (o : Addr4) × (e : Neighbour × ℕ) × (find addr_eq base o ≡ Some e) × Contains e.0.addrs a
    by_owner None is some = absurd cc
    by_owner (Some o) is some = let (e, found, has) = from_at base o a ((owned a o).0 is) in (o, e, found, has)

-- ---- what keeps the tie

pub owned_kept : (owners : Owners) (old new : Nbrs) → Owned owners old → KeepsAddrs old new → Owned owners new
owned_kept owners old new owned keeps a o = (
  (λ noted. let h = (owned a o).0 noted in (h.0, keeps o ∙ h.1, h.2)),
  (λ has. (owned a o).1 (has.0, sym (keeps o) ∙ has.1, has.2)),
)

pub owned_same : (first second : Owners) (base : Nbrs) → Owned first base → ((a : Addr4) → owner_of second a ≡ owner_of first a) → Owned second base
owned_same first second base owned same a o = ((λ noted. (owned a o).0 (sym (same a) ∙ noted)), (λ has. same a ∙ (owned a o).1 has))

-- some neighbours stay, and their notes
pub owned_left : (Stays : Addr4 → Type 0) (first second : Owners) (old new : Nbrs) → Owned first old → LeavesNotesOf Stays first second → ((o : Addr4) → Stays o → addrs_at new o ≡ addrs_at old o)
    → ((o : Addr4) (addrs : List Addr4) → addrs_at new o ≡ Some addrs → Stays o) → Owned second new
owned_left Stays first second old new owned leaves same there a o = (
  (λ noted. let before = (leaves a o).0 noted in let h = (owned a o).0 before.0 in (h.0, same o before.1 ∙ h.1, h.2)),
  (λ has. let stays = there o has.0 has.1 in (leaves a o).1 ((owned a o).1 (has.0, sym (same o stays) ∙ has.1, has.2), stays)),
)

pub owned_removed : (first second : Owners) (old new : Nbrs) (originator : Addr4) → Owned first old → LeavesNotesOf (λ o. o ≢ originator) first second → SetsOnly addr_eq old new originator None → Owned second new
owned_removed first second old new originator owned leaves sets = owned_left (λ o. o ≢ originator) first second old new owned leaves
    (λ o apart. ap (option_map (λ (e : Neighbour × ℕ). e.0.addrs)) (set_elsewhere old new originator None sets same_addr o apart))
    (λ o addrs at mine.
    let gone : find addr_eq new o ≡ None = ap (find addr_eq new) mine ∙ set_there old new originator None sets addr_equiv in
    let both : None ≡ Some addrs = sym (ap (option_map (λ (e : Neighbour × ℕ). e.0.addrs)) gone) ∙ at in
    absurd cc)

kept_there : {A : Type 0} (Stays : A → Type 0) (old new : Option A) → IsKept Stays old new → IsSome new → new ≡ old
kept_there Stays old new kept some = grind (arith, common_steps)

some_of : (p : Option (Neighbour × ℕ)) (addrs : List Addr4) → option_map (λ (e : Neighbour × ℕ). e.0.addrs) p ≡ Some addrs → IsSome p
some_of p addrs at = grind (arith, common_steps)

pub owned_purged : (Stays : Addr4 → Neighbour × ℕ → Type 0) (first second : Owners) (old new : Nbrs) → Owned first old → ((o : Addr4) → IsKept (Stays o) (find addr_eq old o) (find addr_eq new o))
    → LeavesNotesOf (λ o. IsSome (find addr_eq new o)) first second → Owned second new
owned_purged Stays first second old new owned kept leaves = owned_left (λ o. IsSome (find addr_eq new o)) first second old new owned leaves
    (λ o some. ap (option_map (λ (e : Neighbour × ℕ). e.0.addrs)) (kept_there (Stays o) (find addr_eq old o) (find addr_eq new o) (kept o) some))
    (λ o addrs at. some_of (find addr_eq new o) addrs at)

-- what a test of the originators leaves
pub leaves_tested : (test : Addr4 → Bool) (before after : Option Addr4) (o : Addr4) → after ≡ option_filter test before → (after ≡ Some o) ↔ ((before ≡ Some o) × (test o ≡ true))
leaves_tested test before after o is = grind (arith, common_steps)

-- ---- one neighbour's notes go

module _ (old new : Owners) (base : Nbrs) (originator : Addr4) (owned : Owned old base) where
  pub disowned : (addrs : List Addr4) → addrs_at base originator ≡ Some addrs → SetsOwner addrs None old new → LeavesNotesOf (λ o. o ≢ originator) old new
  disowned addrs at sets a o = by_listed (list_any (λ x. addr_eq x a) addrs) refl where
    not_listed : list_any (λ x. addr_eq x a) addrs ≡ false → owner_of old a ≡ Some o → o ≡ originator → ⊥
    not_listed is noted mine =
        let has = (owned a o).0 noted in
        let both : Some has.0 ≡ Some addrs = sym has.1 ∙ ap (addrs_at base) mine ∙ at in
        let one : has.0 ≡ addrs = cc in
        unlisted_of addr_equiv addrs a is (subst (λ (l : List Addr4). Contains l a) one has.2)

    by_listed : (b : Bool) → list_any (λ x. addr_eq x a) addrs ≡ b → (owner_of new a ≡ Some o) ↔ ((owner_of old a ≡ Some o) × (o ≢ originator))
    by_listed true is =
        let gone : owner_of new a ≡ None = sets a ∙ rw is refl in
        let mine : owner_of old a ≡ Some originator = (owned a originator).1 (addrs, at, contains_of same_addr addrs a is) in (
          (λ noted. let both : None ≡ Some o = sym gone ∙ noted in absurd cc),
          (λ was. absurd (was.1 (let both : Some o ≡ Some originator = sym was.0 ∙ mine in cc))),
        )
    by_listed false is =
        let same : owner_of new a ≡ owner_of old a = sets a ∙ rw is refl in
        ((λ noted. (sym same ∙ noted, not_listed is (sym same ∙ noted))), (λ was. same ∙ was.0))

  pub not_there : find addr_eq base originator ≡ None → LeavesNotesOf (λ o. o ≢ originator) old old
  not_there none a o = ((λ noted. (noted, (λ mine. noted_stands old base owned a o noted (ap (find addr_eq base) mine ∙ none)))), (λ was. was.0))

-- ---- a neighbour is put in

module _ (first second : Owners) (old : Nbrs) (originator : Addr4) (addrs : List Addr4) (owned : Owned first old)
    (apart : (o : Addr4) (f : Neighbour × ℕ) → find addr_eq old o ≡ Some f → Meets f.0.addrs addrs → ⊥) where
  unnoted : (a : Addr4) → Contains addrs a → owner_of first a ≡ None
  unnoted a has = by_owner (owner_of first a) refl where
    by_owner : (p : Option Addr4) → owner_of first a ≡ p → p ≡ None
    by_owner None is = refl
    by_owner (Some o) is = let (f, found, theirs) = from_at old o a ((owned a o).0 is) in absurd (apart o f found (a, theirs, has))

  -- the notes of its addresses go again
  pub owned_back : (mid : Owners) → ((a : Addr4) → (Contains addrs a → ⊥) → owner_of mid a ≡ owner_of first a) → SetsOwner addrs None mid second → Owned second old
  owned_back mid others sets = owned_same first second old owned (λ a. by_listed a (list_any (λ x. addr_eq x a) addrs) refl) where
    by_listed : (a : Addr4) (b : Bool) → list_any (λ x. addr_eq x a) addrs ≡ b → owner_of second a ≡ owner_of first a
    by_listed a true is = sets a ∙ rw is (sym (unnoted a (contains_of same_addr addrs a is)))
    by_listed a false is = sets a ∙ rw is (others a (unlisted_of addr_equiv addrs a is))

  pub owned_put : (new : Nbrs) (e : Neighbour × ℕ) → find addr_eq old originator ≡ None → e.0.addrs ≡ addrs → SetsOwner addrs (Some originator) first second → SetsOnly addr_eq old new originator (Some e) → Owned second new
  owned_put new e absent same sets put a o = by_listed (list_any (λ x. addr_eq x a) addrs) refl where
    at_one : addrs_at new originator ≡ Some addrs
    at_one = ap (option_map (λ (x : Neighbour × ℕ). x.0.addrs)) (set_there old new originator (Some e) put addr_equiv) ∙ ap Some same

    elsewhere : o ≢ originator → addrs_at new o ≡ addrs_at old o
    elsewhere other = ap (option_map (λ (x : Neighbour × ℕ). x.0.addrs)) (set_elsewhere old new originator (Some e) put same_addr o other)

    other_key : addr_eq originator o ≡ false → o ≢ originator
    other_key is mine = let yes : addr_eq originator o ≡ true = ap (addr_eq originator) mine ∙ addr_equiv.refl originator in let clash : true ≡ false = sym yes ∙ is in absurd cc

    was_at : o ≢ originator → HasAt new o a → owner_of first a ≡ Some o
    was_at other has = (owned a o).1 (has.0, sym (elsewhere other) ∙ has.1, has.2)

    listed_back : owner_of second a ≡ Some originator → Contains addrs a → (b : Bool) → addr_eq originator o ≡ b → HasAt new o a → owner_of second a ≡ Some o
    listed_back noted within true is has = noted ∙ ap Some (same_addr originator o is)
    listed_back noted within false is has = let both : None ≡ Some o = sym (unnoted a within) ∙ was_at (other_key is) has in absurd cc

    unlisted_back : list_any (λ x. addr_eq x a) addrs ≡ false → owner_of second a ≡ owner_of first a → (b : Bool) → addr_eq originator o ≡ b → HasAt new o a → owner_of second a ≡ Some o
    unlisted_back none kept true is has =
        let both : Some has.0 ≡ Some addrs = sym has.1 ∙ ap (addrs_at new) (sym (same_addr originator o is)) ∙ at_one in
        let one : has.0 ≡ addrs = cc in
        absurd (unlisted_of addr_equiv addrs a none (subst (λ (l : List Addr4). Contains l a) one has.2))
    unlisted_back none kept false is has = kept ∙ was_at (other_key is) has

    not_this : owner_of first a ≡ Some o → o ≢ originator
    not_this noted mine = noted_stands first old owned a o noted (ap (find addr_eq old) mine ∙ absent)

    by_listed : (b : Bool) → list_any (λ x. addr_eq x a) addrs ≡ b → (owner_of second a ≡ Some o) ↔ HasAt new o a
    by_listed true is =
        let within : Contains addrs a = contains_of same_addr addrs a is in
        let noted : owner_of second a ≡ Some originator = sets a ∙ rw is refl in (
          (λ h. let both : Some originator ≡ Some o = sym noted ∙ h in let mine : o ≡ originator = cc in (addrs, ap (addrs_at new) mine ∙ at_one, within)),
          listed_back noted within (addr_eq originator o) refl,
        )
    by_listed false is =
        let kept : owner_of second a ≡ owner_of first a = sets a ∙ rw is refl in (
          (λ h. let noted = sym kept ∙ h in let was = (owned a o).0 noted in (was.0, elsewhere (not_this noted) ∙ was.1, was.2)),
          unlisted_back is kept (addr_eq originator o) refl,
        )

-- all but the listed addresses keep their notes, also where only some of the listed ones are noted
pub others_keep : (old new : Owners) (addrs : List Addr4) (i : ℕ) (owner : Option Addr4) → SetsOwner (take i addrs) owner old new → (a : Addr4) → (Contains addrs a → ⊥) → owner_of new a ≡ owner_of old a
others_keep old new addrs i owner sets a unlisted = by_listed (list_any (λ x. addr_eq x a) (take i addrs)) refl where
  by_listed : (b : Bool) → list_any (λ x. addr_eq x a) (take i addrs) ≡ b → owner_of new a ≡ owner_of old a
  by_listed true is = absurd (unlisted (contains_of same_addr addrs a (any_take (λ x. addr_eq x a) i addrs is)))
  by_listed false is = sets a ∙ rw is refl

-- ---- neighbours that keep their addresses

pub keeps_put : (old new : Nbrs) (originator : Addr4) (addrs : List Addr4) (e : Neighbour × ℕ) → addrs_at old originator ≡ Some addrs → e.0.addrs ≡ addrs → SetsOnly addr_eq old new originator (Some e) → KeepsAddrs old new
keeps_put old new originator addrs e at same put o = grind (arith, common_steps, same_addr)

pub keeps_same : (old new : Nbrs) → new ≡ old → KeepsAddrs old new
keeps_same old new is o = ap (λ (l : Nbrs). addrs_at l o) is

pub keeps_twice : (old mid new : Nbrs) → KeepsAddrs old mid → KeepsAddrs mid new → KeepsAddrs old new
keeps_twice old mid new one two o = two o ∙ one o

pub keeps_changed : (old new : Nbrs) (key : Addr4) (change : Neighbour × ℕ → Neighbour × ℕ) → ((e : Neighbour × ℕ) → (change e).0.addrs ≡ e.0.addrs) → new ≡ changed_at addr_eq old key change → KeepsAddrs old new
keeps_changed old new key change same is o =
    ap (λ (l : Nbrs). addrs_at l o) is ∙ ap (option_map (λ (x : Neighbour × ℕ). x.0.addrs)) (find-changed_at addr_equiv key change o old) ∙ by_key (addr_eq key o) (find addr_eq old o)
  where
    by_key : (b : Bool) (p : Option (Neighbour × ℕ)) → option_map (λ (x : Neighbour × ℕ). x.0.addrs) (cond b (option_map change p) p) ≡ option_map (λ (x : Neighbour × ℕ). x.0.addrs) p
    by_key true None = refl
    by_key true (Some e) = ap Some (same e)
    by_key false p = refl

pub on_err_so : {A B Q : Type 0} (r : Result A B) → is_err r ≡ true → OnErr r Q → Q
on_err_so r is q = grind (arith, common_steps)

pub on_ok_so : {A B P : Type 0} (r : Result A B) → is_err r ≡ false → OnOk r P → P
on_ok_so r is p = grind (arith, common_steps)

-- what holds, where nothing is given too
pub if_none_holds : {A P : Type 0} (o : Option A) → P → IfNone o P
if_none_holds o h = grind (arith, common_steps)
