-- What making a store left of a file and a screen.
use Rattle.std.specs.Prelude.{◌≡◌, ℕ, ◌<◌, ◌⊎◌, List, [], length}
use Rattle.file_runs.specs.Below.{Deed, FlatStore, Given, IsAll, IsNoStore, printed_of, Stands, stands, Status, Torn}
use Rattle.call_status.specs.declared.status.Status.TheVariants as status
use Rattle.outside.specs.Deeds.{IsCut}
use Rattle.store_calls.specs.New.{image_deeds}
use Rattle.store_calls.specs.Renewed.{IsNoOne, renew_line, renewed_image, standing_as_one, store_widened}
use Rattle.file_runs.specs.FileRun.{Hands, LeavesAlways, LeavesLast, NothingAsked}

-- How writing an image and then a line ended: the file gave no bytes, three writes and three syncs put the image down, and it is left and nothing else; or one
-- of these failed, and nothing was handed to the screen; or nothing was asked, as there are bytes in it or no memory. Other ends don't come.
abbrev pub WritesBy : (image line first : List ℕ) (deeds puts : List Deed) (end : Status) → Type 0
WritesBy image line first deeds puts status.Done = (first ≡ []) × (deeds ≡ image_deeds image) × LeavesLast first deeds (λ left. left ≡ image) × Hands puts line status.Done
WritesBy image line first deeds puts status.PutFault = (first ≡ []) × (deeds ≡ image_deeds image) × LeavesLast first deeds (λ left. left ≡ image) × Hands puts line status.PutFault
WritesBy image line first deeds puts status.DiskFault = (printed_of puts ≡ []) × IsCut (image_deeds image) deeds
WritesBy image line first deeds puts status.Exists = (0 < length first) × NothingAsked deeds puts
WritesBy image line first deeds puts status.NoMemory = NothingAsked deeds puts
WritesBy image line first deeds puts _ = ⊥

-- An image was written into a file that gave these bytes, and told by a line.
pub record WrittenOnFile (image line first : List ℕ) (deeds puts : List Deed) (end : Status) : Type 0 where
  -- where the file gave none, whenever the machine stops no store is left, or the whole one
  pub whole : first ≡ [] → LeavesAlways first deeds (λ left. IsNoStore left ⊎ (left ≡ image))
  -- and in any case what the file gave, but for the range of the new store
  pub torn : LeavesAlways first deeds (λ left. Torn 0 (length image) first left)
  -- a file that gave some keeps them
  pub full : 0 < length first → NothingAsked deeds puts
  pub by_end : WritesBy image line first deeds puts end

-- The source had a store of version 1, whole, and the image of the widened store, which stands for it, was written and told.
pub record WroteWidened (bank : ℕ) (given : Given) (first : List ℕ) (deeds puts : List Deed) (end : Status) : Type 0 where
  pub text : List ℕ
  pub whole : IsAll 4194304 given.left given.left_now text
  pub number : ℕ
  pub store : FlatStore
  pub stood : standing_as_one text ≡ Stands number store
  pub stands : stands (renewed_image bank number store) ≡ Stands number (store_widened store)
  pub written : WrittenOnFile (renewed_image bank number store) (renew_line (length (renewed_image bank number store)) number) first deeds puts end

-- what `renew` did, by its end: where the source had no such store, nothing was asked of the file and the screen
abbrev pub RenewedOnFile : (bank : ℕ) → Given → (first : List ℕ) (deeds puts : List Deed) (end : Status) → Type 0
RenewedOnFile bank given first deeds puts status.SourceFault = NothingAsked deeds puts × IsNoOne given status.SourceFault
RenewedOnFile bank given first deeds puts status.TooBig = NothingAsked deeds puts × IsNoOne given status.TooBig
RenewedOnFile bank given first deeds puts (status.Store offset) = NothingAsked deeds puts × IsNoOne given (status.Store offset)
RenewedOnFile bank given first deeds puts status.NoMemory = NothingAsked deeds puts
RenewedOnFile bank given first deeds puts end = WroteWidened bank given first deeds puts end
