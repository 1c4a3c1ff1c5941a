-- What expiry and the messages of a packet leave.
use Rattle.mesh_bases.proofs.Common.{◌≡◌, sym, subst, ℕ, List, Addr4, RouterSettings, Live, IsOriginator, Arrival, Fate, Frame, SoundBases, TakesMessages, live_bases_sound, messages_sound, Span, MessageFields}
use Rattle.mesh_bases.specs.Held.Held.{Held}

-- sound bases after expiry
pub live_held : (old new : Held) (last now : ℕ) → SoundBases old.settings last old.bases → Live old.settings now old.bases new.bases → new.settings ≡ old.settings → SoundBases new.settings now new.bases
live_held old new last now sound live same =
    subst (λ (r : RouterSettings). SoundBases r now new.bases) (sym same) (live_bases_sound old.settings last now old.bases new.bases sound live)

-- and after the messages of a packet
pub taken_held : (old live new : Held) (last : ℕ) (own : Addr4) (arrival : Arrival) (bytes : List ℕ) (messages : List MessageFields) (spans : List Span) (sent : List Frame) (fates : List Fate) →
    SoundBases old.settings last old.bases → Live old.settings arrival.now old.bases live.bases → live.settings ≡ old.settings → IsOriginator old.settings own → new.settings ≡ live.settings →
    TakesMessages live.settings own arrival bytes live.bases messages spans new.bases sent fates → SoundBases new.settings arrival.now new.bases
taken_held old live new last own arrival bytes messages spans sent fates sound is_live same is_own same_then takes =
    subst (λ (r : RouterSettings). SoundBases r arrival.now new.bases) (sym same_then)
    (messages_sound live.settings own arrival bytes live.bases messages spans new.bases sent fates (subst (λ (r : RouterSettings). IsOriginator r own) (sym same) is_own)
    (live_held old live last arrival.now sound is_live same) takes)
