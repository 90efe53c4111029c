-- Why a store isn't opened, or opened again.
use Rattle.std.specs.Prelude.{◌≡◌, IsSome, Result}
use Rattle.store.specs.Below.{SyncsBy, AsksUnless, bank_of, chosen, Damaged, Faulty, Ghosts, Header, held_of, NotAStore, Rose, stands}
use Rattle.store.specs.declared.open_fault.OpenFault.{OpenFault}
use Rattle.store.specs.declared.open_fault.ReopenFault.{ReopenFault}
use Rattle.store.specs.declared.open_fault.OpenFault.TheVariants as opening
use Rattle.store.specs.declared.open_fault.ReopenFault.TheVariants as reopening

-- bytes that are told have this fault, or the disk's count rose; memory is free
abbrev pub IsStoreOpenFault : {W : Type 0} → Ghosts W → W → W → OpenFault → Type 0
IsStoreOpenFault G old new (opening.NotAStore offset) = IsSome (G.held old) → stands (held_of G old) ≡ NotAStore offset
IsStoreOpenFault G old new (opening.Damaged offset) = IsSome (G.held old) → stands (held_of G old) ≡ Damaged offset
IsStoreOpenFault G old new opening.DiskFault = Rose (G.disk_faults old) (G.disk_faults new)
IsStoreOpenFault G old new opening.Memory = Unit {0}

-- the same in front of the bank: no damage and no want of memory
abbrev pub IsStartFault : {W : Type 0} → Ghosts W → W → W → OpenFault → Type 0
IsStartFault G old new (opening.NotAStore offset) = IsSome (G.held old) → stands (held_of G old) ≡ NotAStore offset
IsStartFault G old new (opening.Damaged offset) = ⊥
IsStartFault G old new opening.DiskFault = Rose (G.disk_faults old) (G.disk_faults new)
IsStartFault G old new opening.Memory = ⊥

-- the chosen bank of a store with this header has this fault, or the disk's count rose
abbrev pub IsStoreReopenFault : {W : Type 0} → Ghosts W → W → W → Header → ReopenFault → Type 0
IsStoreReopenFault G old new header (reopening.Damaged offset) = IsSome (G.held old) → bank_of (held_of G old) header (chosen (held_of G old)) ≡ Faulty offset
IsStoreReopenFault G old new header reopening.DiskFault = Rose (G.disk_faults old) (G.disk_faults new)

-- an opening of a store asks one sync and reads, and so does its start
abbrev pub AsksOfStore : {W T : Type 0} → Ghosts W → W → W → Result T OpenFault → Type 0
AsksOfStore G old new result = AsksUnless G (SyncsBy result) opening.DiskFault (IsStoreOpenFault G old new) old new result

abbrev pub AsksAtStart : {W T : Type 0} → Ghosts W → W → W → Result T OpenFault → Type 0
AsksAtStart G old new result = AsksUnless G (SyncsBy result) opening.DiskFault (IsStartFault G old new) old new result

-- and so does one that is read again
abbrev pub AsksStoreAgain : {W T : Type 0} → Ghosts W → Header → W → W → Result T ReopenFault → Type 0
AsksStoreAgain G header old new result = AsksUnless G (SyncsBy result) reopening.DiskFault (IsStoreReopenFault G old new header) old new result
