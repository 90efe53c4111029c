-- A session whose desk is deserted and whose store was read again is sound.
use Rattle.session.proofs.Common.{Activity, ◌≡◌, refl, arith, ◌-◌, ◌≤◌, Bool, false, StoreView, activity, IsSessionSound, SessionState, fixed_of, session_told, vec_len, vec_capacity, IsDeserted}
use Rattle.activations.specs.Follows as running

pub deserted-sound : (s : SessionState) → IsSessionSound s → (store : StoreView) → store.header ≡ s.store.header → (left : Activity) → running.AlwaysHolds left → IsDeserted (activity s) left → s.closed ≡ false → (closed : Bool) → (closed ≡ false → store.bank.spoiled ≡ false) → IsSessionSound (record s { store = store; activations = left; closed = closed })
deserted-sound s sound store header left kept gone was_open closed usable = grind (arith, sound, sound.room, sound.room.places was_open, kept, gone)

-- A session is sound whose activity, begins and turns are those of one that is, over the same header, and whose order has its places.
pub sound-same : (s n : SessionState) → IsSessionSound s → n.store.header ≡ s.store.header → activity n ≡ activity s → n.begins ≡ s.begins → n.turns ≡ s.turns → vec_capacity s.order ≤ vec_capacity n.order → vec_len n.order ≤ s.begins
    → (n.closed ≡ false → (vec_len n.order ≡ vec_len s.order) × (s.closed ≡ false) × (n.store.bank.spoiled ≡ false)) → IsSessionSound n
sound-same s n sound header same begins turns room few still_open = grind (arith, sound, sound.room, still_open)

-- and so is one over another store with the same header, where what runs is as before
pub stored-sound : (s : SessionState) → IsSessionSound s → (store : StoreView) → store.header ≡ s.store.header → (left : Activity) → left ≡ activity s → s.closed ≡ false → (closed : Bool) → (closed ≡ false → store.bank.spoiled ≡ false) → IsSessionSound (record s { store = store; activations = left; closed = closed })
stored-sound s sound store header left same was_open closed usable = sound-same s _ sound header same refl refl (omega arith) sound.room.commits (λ still. (refl, was_open, usable still))

-- what a session tells over another store with the same header, where what runs has the same programs and the same next number and it closes so
pub told-stored : (s : SessionState) (store : StoreView) (left : Activity) (closed shut : Bool) → store.header ≡ s.store.header → left.programs ≡ (activity s).programs → left.next ≡ (activity s).next → closed ≡ shut
    → session_told (record s { store = store; activations = left; closed = closed }) ≡ record (session_told s) { closed = shut }
told-stored s store left closed shut header programs next closes = λ i. record (session_told s) { closed = closes i; fixed = record (fixed_of s) { programs = programs i; header = header i }; given = next i - 1 }
