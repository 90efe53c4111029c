-- What reading a header answers.
use Rattle.std.specs.Prelude.{◌≡◌, ◌≢◌, ℕ, ◌-◌, List, ◌++◌, length, take, replicate, Option, Result, OnOk, IfErr}
use Rattle.outside.specs.declared.world.Outside.{Ghosts}
use Rattle.outside.specs.Causes.{Rose}
use Rattle.outside.specs.Deeds.{Deed, Stays}
use Rattle.outside.specs.Runs.{AsksSo, IfTold}
use Rattle.store_format.specs.declared.header_reading.HeaderFault as code
use Rattle.store_format.specs.declared.header_reading.HeaderFault.TheVariants as fault
use Rattle.store_format.specs.Stands.{stands, NotAStore}

-- the number of the bytes held, and the first 128 of them, with zeros where there are fewer
pub record IsHead (held : List ℕ) (read : ℕ × List ℕ) : Type 0 where
  pub number : read.0 ≡ length held
  pub head : read.1 ≡ take 128 held ++ replicate (128 - length held) 0

-- Calls that leave the disk's bytes, with such deeds, whose answer may name the disk's fault: none is counted where they succeed or answer another fault, and each fault has its cause.
pub record AsksUnless {W T E : Type 0} (G : Ghosts W) (D : (before after : Option (List Deed)) → Type 0) (failed : E) (cause : E → Type 0) (old new : W) (result : Result T E) : Type 0 where
  pub asks : AsksSo G D old new
  pub no_fault : OnOk result (G.disk_faults new ≡ G.disk_faults old)
  pub fault : IfErr result cause
  pub calm : IfErr result (λ fault. fault ≢ failed → G.disk_faults new ≡ G.disk_faults old)

-- a disk's fault is counted; any other is where the bytes that are told are no store
abbrev pub IsHeaderFault : {W : Type 0} → Ghosts W → W → W → code.HeaderFault → Type 0
IsHeaderFault G old new (fault.NotAStore offset) = IfTold G old (λ held. stands held ≡ NotAStore offset)
IsHeaderFault G old new fault.DiskFault = Rose (G.disk_faults old) (G.disk_faults new)

-- a reading of the header only asks the disk
abbrev pub AsksHeader : {W T : Type 0} → Ghosts W → W → W → Result T code.HeaderFault → Type 0
AsksHeader G old new result = AsksUnless G Stays fault.DiskFault (IsHeaderFault G old new) old new result
