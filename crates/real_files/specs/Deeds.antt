-- What is asked of a file that may change it, and what that makes of its bytes and of what a crash may leave.
pub use Rattle.outside.specs.Deeds.{Deed, Wrote, Tore, Synced, Unsynced}
use mathlib.Core.Path.{refl}
use Rattle.std.specs.Prelude.{◌≡◌, ℕ, zero, suc, ◌-◌, List, [], ◌∷◌, length, take, count_by, Bool, true, false, slice_index}
use Rattle.std.specs.Coded.{Coded, code_by, coded×, coded_ℕ, coded_list}
use Rattle.outside.specs.Bytes.{written}
use Rattle.outside.specs.Record.{WriteMayTear}

-- the bytes of the file after it, where it follows the disk model
abbrev pub file_by : Deed → List ℕ → List ℕ
file_by (Wrote at bytes) held = written held at bytes
file_by (Tore at bytes) held = written held at bytes
file_by Synced held = held
file_by Unsynced held = held

-- what a crash may leave after it, of a file with these bytes and these crash images
abbrev pub file_images_by : Deed → List ℕ → (List ℕ → Type 0) → List ℕ → Type 0
file_images_by (Wrote at bytes) held images = WriteMayTear at (length bytes) (written held at bytes) images
file_images_by (Tore at bytes) held images = WriteMayTear at (length bytes) (written held at bytes) images
file_images_by Synced held images = λ image. image ≡ held
file_images_by Unsynced held images = images

-- the same after these, in order
abbrev pub file_after : List ℕ → List Deed → List ℕ
file_after held [] = held
file_after held (deed ∷ deeds) = file_after (file_by deed held) deeds

abbrev pub file_images_after : List ℕ → (List ℕ → Type 0) → List Deed → List ℕ → Type 0
file_images_after held images [] = images
file_images_after held images (deed ∷ deeds) = file_images_after (file_by deed held) (file_images_by deed held images) deeds

-- what a crash may leave after so many of them, of a file that first held these bytes and nothing else
abbrev pub file_images_at : List ℕ → List Deed → ℕ → List ℕ → Type 0
file_images_at first deeds moment = file_images_after first (λ image. image ≡ first) (take moment deeds)

-- it wrote all its bytes
abbrev pub deed_writes : Deed → Bool
deed_writes (Wrote at bytes) = true
deed_writes (Tore at bytes) = false
deed_writes Synced = false
deed_writes Unsynced = false

-- the call failed
abbrev pub deed_failed : Deed → Bool
deed_failed (Wrote at bytes) = false
deed_failed (Tore at bytes) = true
deed_failed Synced = false
deed_failed Unsynced = true

-- a call that failed was the last: nothing was asked behind it, so one failed at most
abbrev pub StopsAtFailure : List Deed → Type 0
StopsAtFailure deeds = count_by deed_failed (take (length deeds - 1) deeds) ≡ 0

-- how the logic keeps one
abbrev deed_parts : Deed → ℕ × (ℕ × List ℕ)
deed_parts (Wrote at bytes) = (0, (at, bytes))
deed_parts (Tore at bytes) = (1, (at, bytes))
deed_parts Synced = (2, (0, []))
deed_parts Unsynced = (3, (0, []))

abbrev of_parts : ℕ → ℕ → List ℕ → Deed
of_parts zero at bytes = Wrote at bytes
of_parts (suc zero) at bytes = Tore at bytes
of_parts (suc (suc zero)) at bytes = Synced
of_parts (suc (suc (suc kind))) at bytes = Unsynced

abbrev deed_from : ℕ × (ℕ × List ℕ) → Deed
deed_from parts = of_parts parts.0 parts.1.0 parts.1.1

pub back : (deed : Deed) → deed_from (deed_parts deed) ≡ deed
back (Wrote at bytes) = refl
back (Tore at bytes) = refl
back Synced = refl
back Unsynced = refl

abbrev pub coded_deed : Coded Deed
coded_deed = code_by (ℕ × (ℕ × List ℕ)) (coded× coded_ℕ (coded× coded_ℕ (coded_list coded_ℕ))) deed_parts deed_from back

-- of this kind, at this offset, with these bytes
abbrev pub deed_by : ℕ → ℕ → List ℕ → Deed
deed_by zero at bytes = Wrote at bytes
deed_by (suc zero) at bytes = Tore at bytes
deed_by (suc (suc zero)) at bytes = Synced
deed_by (suc (suc (suc kind))) at bytes = Unsynced

abbrev pub deed_of : List ℕ → List ℕ → Deed
deed_of numbers bytes = deed_by (slice_index numbers 0) (slice_index numbers 1) bytes
