-- What a drill did: a job was stopped at its writes in turn, each time on a store of its own.
use Rattle.std.specs.Prelude.{◌≡◌, ℕ, ◌+◌, ◌*◌, ◌<◌, ◌≤◌, min, ◌⊎◌, List, [], ◌∷◌, ◌++◌, codes, decimal, length, get_or, replicate, true, false, MatchOption, Option, Result, Ok, Err}
use Rattle.drills.specs.Below.{Called, FlatStore, Ghosts, Given, given, Job, PrintsBytes, PutsTimes, Status}
use Rattle.outside.specs.declared.failed.Failed.{Failed}
use Rattle.lines.specs.Directory.{byte_count}
use Rattle.store_format.specs.Header.{fresh}
use Rattle.job_text.specs.Grammar.{job_of, content_of}
use Rattle.drills.specs.declared.drill.Found.{Found}
use Rattle.drills.specs.declared.drill.StopPair.{StopPair}
use Rattle.call_status.specs.declared.status.Status.TheVariants as status
use Rattle.drills.specs.Drill.{IsStop, fine_order}
use Rattle.drills.specs.declared.stops.Stop.{Stop}
use Rattle.store_calls.specs.TryStore.{try_layout}
use Rattle.call_status.specs.Faults.{RoomReads}
use Rattle.call_status.specs.Reading.{ReadsBy}
use Rattle.call_status.specs.SourceText.{IsWholeText}
use Rattle.call_status.specs.Statuses.{IsOfLines}
use Rattle.outside.specs.declared.source.Source as source
pub use Rattle.call_status.specs.Printed.{broken, well}

-- the line of a stop at the write with this number, at which so much was left
abbrev pub stop_line : (write : ℕ) → (left : List ℕ) → Found → List ℕ
stop_line write left found =
    codes "stop " ++ decimal write ++ codes " " ++ left ++ codes " seen " ++ decimal found.seen ++ codes " number " ++ decimal found.number ++ codes "\n"

-- the lines of the two stops at a write
abbrev pub pair_lines : (write : ℕ) → StopPair → List ℕ
pair_lines write pair = stop_line write (codes "old") pair.old ++ stop_line write (codes "torn") pair.torn

-- the lines of the stops at writes from this number on
abbrev pub stop_lines : (write : ℕ) → List StopPair → List ℕ
stop_lines write [] = []
stop_lines write (pair ∷ pairs) = pair_lines write pair ++ stop_lines (write + 1) pairs

-- the last line: how many writes there were, and the number after a run that isn't stopped
abbrev pub last_line : (stops number : ℕ) → List ℕ
last_line stops number = codes "drill " ++ decimal stops ++ codes " number " ++ decimal number ++ codes "\n"

-- the store of `try`, with number 0
abbrev pub try_flat : FlatStore
try_flat = record { directory = try_layout.directory; bytes = replicate (byte_count try_layout.directory) 0 }

-- the commits of a job on the store of `try`, where all its events go well
abbrev pub try_order : Job → List (ℕ × ℕ)
try_order job = fine_order job (fresh try_layout) try_flat

-- a stop of the job on the store of `try`, at this write, which left this outcome
abbrev pub IsTried : Job → (write : ℕ) → (outcome : List ℕ) → Stop → Type 0
IsTried job write outcome stop = IsStop job (fresh try_layout) 0 try_flat write outcome stop

-- the write was reached, and these are the commit lines seen at the stop, and the number for which its image stands
abbrev pub IsStopFound : Job → (write : ℕ) → (outcome : List ℕ) → Found → Type 0
IsStopFound job write outcome found = (stop : Stop) × (is : IsTried job write outcome stop) × (stop.reached ≡ true) × (found.seen ≡ stop.seen) × (found.number ≡ is.j)

-- and so at both stops at a write: it left nothing, or one byte
pub record IsPair (job : Job) (write : ℕ) (pair : StopPair) : Type 0 where
  pub old : IsStopFound job write [] pair.old
  pub torn : IsStopFound job write (165 ∷ []) pair.torn

-- a run of the job that was to stop at this write came to its end before it
abbrev pub IsPast : Job → (write : ℕ) → Type 0
IsPast job write = (outcome : List ℕ) × (stop : Stop) × IsTried job write outcome stop × (stop.reached ≡ false)

-- and that is behind two writes for each commit
abbrev pub EndsBefore : Job → (write : ℕ) → Type 0
EndsBefore job write = (2 * length (try_order job) < write) × IsPast job write

-- what at most 256 writes came to, the first and those behind it, by two stops of the job at each
pub record AreStops (job : Job) (pairs : List StopPair) : Type 0 where
  pub few : length pairs ≤ 256
  pub each : (k : ℕ) (d : StopPair) → k < length pairs → IsPair job (k + 1) (get_or pairs k d)

-- lines of such stops, numbered from write 1 on, are put, each by one put, or a prefix of them where a put failed
pub record PutsFirst {W T : Type 0} (G : Ghosts W) (job : Job) (before after : W) (result : Result T Failed) : Type 0 where
  pub pairs : List StopPair
  pub stops : AreStops job pairs
  pub puts : PrintsBytes G (stop_lines 1 pairs) before after result
  pub times : PutsTimes G (2 * length pairs) before after result

-- Lines of such stops and the last line are put, each by one put, or a prefix of them where a put failed. The stops are at all writes, no fewer than
-- two for each commit, or at 256; the last line tells at how many, and how many commits the job has.
pub record PutsWhole {W T : Type 0} (G : Ghosts W) (job : Job) (before after : W) (result : Result T Failed) : Type 0 where
  pub pairs : List StopPair
  pub stops : AreStops job pairs
  pub number : ℕ
  pub number_is : number ≡ length (try_order job)
  pub enough : min 256 (2 * number) ≤ length pairs
  pub all : length pairs < 256 → IsPast job (length pairs + 1)
  pub puts : PrintsBytes G (stop_lines 1 pairs ++ last_line (length pairs) number) before after result
  pub times : PutsTimes G (2 * length pairs + 1) before after result

-- what putting the stops came to: so many writes, or a put that failed, or no memory
abbrev pub PutsStops : {W : Type 0} → Ghosts W → Job → W → W → Result ℕ Status → Type 0
PutsStops G job before after (Ok count) = (put : PutsFirst G job before after well) × (length put.pairs ≡ count) × (min 256 (2 * length (try_order job)) ≤ count) × (count < 256 → IsPast job (count + 1))
PutsStops G job before after (Err status.PutFault) = PutsFirst G job before after broken
PutsStops G job before after (Err status.NoMemory) = PutsFirst G job before after well
PutsStops G job before after (Err _) = ⊥

-- what a drill of a job did, by its status; other statuses don't come
abbrev pub DrilledTo : {W : Type 0} → Ghosts W → Job → W → W → Status → Type 0
DrilledTo G job before after status.Done = PutsWhole G job before after well
DrilledTo G job before after status.PutFault = PutsFirst G job before after broken ⊎ PutsWhole G job before after broken
DrilledTo G job before after status.NoMemory = PutsFirst G job before after well
DrilledTo G job before after _ = ⊥

-- the text was had whole and means a job, which was drilled
pub record DrillsJob {W : Type 0} (G : Ghosts W) (given : Given) (before after : W) (status : Status) : Type 0 where
  pub text : List ℕ
  pub whole : IsWholeText given.left given.left_now text
  pub job : Job
  pub means : job_of text ≡ Ok (content_of job)
  pub did : DrilledTo G job before after status

-- what a drill did, by its status: the lines are put or a put failed, or memory was wanting behind some of them, or nothing outside was called
abbrev pub DrilledBy : {W : Type 0} → Ghosts W → Given → W → W → Status → Type 0
DrilledBy G given before after status.Done = DrillsJob G given before after status.Done
DrilledBy G given before after status.PutFault = DrillsJob G given before after status.PutFault
DrilledBy G given before after status.NoMemory = (after ≡ before) ⊎ DrillsJob G given before after status.NoMemory
DrilledBy G given before after (status.Job line kind) = after ≡ before
DrilledBy G given before after status.SourceFault = after ≡ before
DrilledBy G given before after status.TooBig = after ≡ before
DrilledBy G given before after _ = ⊥

-- what a drill did; it has no order
pub record Drilled {W : Type 0} (G : Ghosts W) (given : Given) (call : Called W) : Type 0 where
  pub no_order : call.order ≡ []
  pub by_status : DrilledBy G given call.before call.after call.status

-- what a drill of a source's job did, and what its text tells of the status
pub record DrillsFrom {S W : Type 0} (F : source.Ghosts S) (G : Ghosts W) (old new : S) (before after : W) (status : Status) : Type 0 where
  pub read : ReadsBy (given F old new) status
  pub ends : RoomReads F G (Drilled G) IsOfLines old new before after status

-- a write at which a run was found, or that it ends before that write
abbrev pub FoundAt : Job → (write : ℕ) → (outcome : List ℕ) → Option Found → Type 0
FoundAt job write outcome found = MatchOption found (EndsBefore job write) (IsStopFound job write outcome)
