-- The notes of all links.
use Rattle.mesh_nhdp.proofs.Common.{◌≡◌, ℕ, ◌↔◌, sym, ◌∙◌, ap, subst, List, [], length, Contains, refl, Some, slice_get_within, get_or_from_slice_get, Addr4, LinkKey, Link, Base, base_of, find, link_eq, LinkNote, note_of, IsNoteIn, IsNoteAmong, TellsLinks, TellsLinksOf, SomeBelow}
use Rattle.mesh_nhdp.proofs.Bases.{within_bases}

module _ (sets : List (Base LinkKey Link)) (now : ℕ) (notes : List LinkNote) (Is : Base LinkKey Link → LinkNote → Type 0)
    (gathered : (note : LinkNote) → Contains notes note ↔ SomeBelow sets (length sets) (λ base. Is base note)) where
  link_told : ((base : Base LinkKey Link) (note : LinkNote) → Is base note → IsNoteIn base now note) → (note : LinkNote) → Contains notes note →
      (i : ℕ) × (e : Link × ℕ) × (find link_eq (base_of sets i) note.key ≡ Some e) × (note ≡ note_of now note.key e)
  link_told so note c =
      let (k, base, lt, at, there) = (gathered note).0 c in
      let (key, e, is, same) = so base note there in
      let key_is : key ≡ note.key = sym (ap (λ (n : LinkNote). n.key) same) in (
        k,
        e,
        ap (λ (b : Base LinkKey Link). find link_eq b note.key) (get_or_from_slice_get sets k base [] at) ∙ subst (λ (x : LinkKey). find link_eq base x ≡ Some e) key_is is,
        subst (λ (x : LinkKey). note ≡ note_of now x e) key_is same,
      )

  link_noted : (i : ℕ) (key : LinkKey) (e : Link × ℕ) → find link_eq (base_of sets i) key ≡ Some e → Is (base_of sets i) (note_of now key e) → Contains notes (note_of now key e)
  link_noted i key e is so =
      let at = within_bases link_eq sets i key e is in
      (gathered (note_of now key e)).1 (i, base_of sets i, slice_get_within sets i (base_of sets i) at, at, so)

pub tells_links : (sets : List (Base LinkKey Link)) (now : ℕ) (notes : List LinkNote) →
    ((note : LinkNote) → Contains notes note ↔ SomeBelow sets (length sets) (λ base. IsNoteIn base now note)) → TellsLinks sets now notes
tells_links sets now notes gathered = record {
  told = link_told sets now notes (λ base note. IsNoteIn base now note) gathered (λ base note is. is);
  all = λ i key e is. link_noted sets now notes (λ base note. IsNoteIn base now note) gathered i key e is (key, e, is, refl);
}

pub tells_links_of : (sets : List (Base LinkKey Link)) (now : ℕ) (notes : List LinkNote) (addrs : List Addr4) →
    ((note : LinkNote) → Contains notes note ↔ SomeBelow sets (length sets) (λ base. IsNoteAmong base addrs now note)) → TellsLinksOf sets addrs now notes
tells_links_of sets now notes addrs gathered = record {
  told = link_told sets now notes (λ base note. IsNoteAmong base addrs now note) gathered (λ base note is. (let (key, e, has, at, same) = is in (key, e, at, same)));
  all = λ i key e has is. link_noted sets now notes (λ base note. IsNoteAmong base addrs now note) gathered i key e is (key, e, has, is, refl);
}
