-- Messages one after the other, as the loop over them reads them, with where each stands.
use Rattle.mesh_packet.proofs.Common.{common_steps, ◌≡◌, ℕ, ◌+◌, ◌-◌, ◌<◌, ◌≤◌, eqb, true, List, [], ◌∷◌, ◌++◌, length, map, Ok, refl, arith, zip, map_push, Fails, items_at, Span, MessageFields, message_at, sized_at, spans_from, messages_at, fails_on}
use Rattle.mesh_atoms.specs.declared.refusal.DecodeFault.{DecodeFault}
use Rattle.mesh_tlv.proofs.Loop.{with_front, goes_on, fails, is_done, is_at_end}
use Rattle.mesh_packet.proofs.Sizes.{zip_push, zip_firsts, zip_seconds, spans_push, total, total_push}

abbrev pub sizes : List Span → List ℕ
sizes spans = map (λ (s : Span). s.len) spans

long : (ss : List Span) → length ss ≡ length (sizes ss)
long [] = refl
long (s ∷ ss) = omega (arith, long ss)

-- what the loop has read after so many turns: these messages, which stand there, up to the place
pub record SoFar (frame : List ℕ) (at end turns : ℕ) (messages : List MessageFields) (spans : List Span) (place : ℕ) : Type 0 where
  pub reads : with_front (zip messages (sizes spans)) (items_at (sized_at frame) ((end - at) - turns) place end) ≡ items_at (sized_at frame) (end - at) at end
  pub as_many : length messages ≡ length spans
  pub in_row : spans ≡ spans_from at (sizes spans)
  pub reached : place ≡ at + total (sizes spans)

module _ (frame : List ℕ) (at end turns : ℕ) (messages : List MessageFields) (spans : List Span) (place : ℕ) (h : SoFar frame at end turns messages spans place) where
  pub one_more : turns < end - at → (place ≡ end → ⊥) → (message : MessageFields) (after : ℕ) → message_at frame place end ≡ Ok (message, after) → place ≤ after → SoFar frame at end (turns + 1) (messages ++ message ∷ []) (spans ++ record { start = place; len = after - place } ∷ []) after
  unfolding sized_at
  one_more lt apart message after read le = grind (arith, common_steps, map_push, long, zip_push, goes_on, spans_push, total_push)

  both : items_at (sized_at frame) (end - at) at end ≡ Ok (zip messages (sizes spans), place) → messages_at frame at end ≡ Ok ((messages, spans), place)
  unfolding messages_at
  both e = grind (arith, common_steps, long, zip_firsts, zip_seconds)

  pub all_turns : end - at ≤ turns → messages_at frame at end ≡ Ok ((messages, spans), place)
  all_turns le = both (is_done (sized_at frame) (zip messages (sizes spans)) (end - at) turns place end _ h.reads le)

  pub at_the_end : turns < end - at → eqb place end ≡ true → messages_at frame at end ≡ Ok ((messages, spans), place)
  at_the_end lt e = both (is_at_end (sized_at frame) (zip messages (sizes spans)) (end - at) turns place end _ h.reads lt e)

  pub one_fails : turns < end - at → (place ≡ end → ⊥) → (fault : DecodeFault) → Fails fault (message_at frame place end) → Fails fault (messages_at frame at end)
  unfolding sized_at messages_at
  one_fails lt apart fault f = grind (arith, common_steps, fails_on, items_at, fails)
