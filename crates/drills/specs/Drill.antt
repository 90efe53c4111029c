-- What a job leaves on a disk that stops at one of its writes.
use Rattle.std.specs.Prelude.{◌≢◌, ◌≡◌, ◌⊎◌, ℕ, ◌+◌, ◌*◌, ◌%◌, ◌^◌, ◌≤◌, true, false, List, [], length, map, take, count_by, IfOk, Result, Some}
use Rattle.drills.specs.Asked.{AreSome, OpenedWith}
use Rattle.drills.specs.Below.{Called, call, commits_seen, disk_faults, disk_held, disk_plan, FlatStore, Ghosts, Job, job_desk, names_of, order_told, Rose, Stands, stands, StandsAt, Status}
use Rattle.outside.specs.Deeds.{Deed, SyncsOnce}
use Rattle.outside.specs.declared.memory_screen.MemoryScreen.{MemoryScreen}
use Rattle.outside.specs.MemoryScreen.{screen_printed}
use Rattle.outside.specs.Runs.{held_of}
use Rattle.flat_machine.specs.declared.machine.Program.{Program}
use Rattle.flat_machine.specs.Serial.{serial}
use Rattle.desk.specs.declared.event.Event.{Event}
use Rattle.desk.specs.Commits.{begun, is_commit}
use Rattle.desk.specs.Desk.{Desk}
use Rattle.desk.specs.Instruction.{DiskWord, Fine}
use Rattle.desk.specs.Kept.{WritesMore}
use Rattle.desk.specs.Report.{event_lines}
use Rattle.desk.specs.Run.{Happening, run, IsRunOf}
use Rattle.desk_law.specs.Headline.{IsPrefix}
use Rattle.drills.specs.Stopping.{AreFewer, AreStopped, left_after, stop_number}
use Rattle.drills.specs.StoppingDisk.{deeds_of, memory_of}
use Rattle.drills.specs.declared.stopping_disk.StoppingDisk.{StoppingDisk}
use Rattle.drills.specs.declared.stops.Stop.{Stop}
use Rattle.job_calls.specs.declared.ended.Ended.{Ended}
use Rattle.schedule_replay.specs.RunAsks.{happened, OpenedAsks}

-- events that all go well
abbrev pub all_fine : List Event → List (Event × DiskWord)
all_fine events = map (λ event. (event, Fine)) events

-- the commits of a job, in order, where all its events go well, from the store for which these bytes stand
abbrev pub fine_order : Job → (held : List ℕ) → FlatStore → List (ℕ × ℕ)
fine_order job held store = (run job.programs.items (all_fine job.events.items) (job_desk job held store)).order

-- An order and so many commit lines are those of one run of the desk over the first of these events; at most the last commit has no line. And of what happened
-- at them this is so.
pub record IsStoppedRun (names : List (List ℕ)) (programs : List Program) (events : List Event) (number : ℕ) (start : Desk) (order : List (ℕ × ℕ)) (seen : ℕ) (asks : List Happening → Type 0) : Type 0 where
  pub taken : List (Event × DiskWord)
  pub rest : List Event
  pub is_run : IsRunOf programs events start taken rest
  pub order_is : order ≡ (run programs taken start).order
  pub seen_is : seen ≡ count_by is_commit (event_lines names programs number taken start)
  pub most_seen : length order ≤ seen + 1
  pub asked : asks (happened programs taken start)

-- while these happened one sync was asked of the disk, and then what each asks; or the call didn't end with Done, and one sync was asked at most
abbrev pub HasAsked : {W : Type 0} → Ghosts W → Called W → List Happening → Type 0
HasAsked G call these = OpenedAsks G these call.before call.after ⊎ ((call.status ≢ Status.Done) × SyncsOnce (G.deeds call.before) (G.deeds call.after))

-- What a run of a job left of the number and the store for which the disk stood. What is held now stands for the first commits, run one
-- after another: those that are seen in what was printed or one more, where nothing was before; unless a put failed, those seen are all of
-- one run of the desk. At Done there is one for each commit, two writes were made for each, and all events went well where no fault was counted.
pub record IsRunLeft {W : Type 0} (G : Ghosts W) (job : Job) (number : ℕ) (store : FlatStore) (call : Called W) : Type 0 where
  pub first : (image seen : List ℕ) → G.held call.after ≡ Some image → G.printed call.before ≡ Some [] → G.printed call.after ≡ Some seen → IsPrefix (begun job.programs.items job.events.items) number store call.order [] image seen
  pub ran : (image seen : List ℕ) → G.held call.after ≡ Some image → G.printed call.before ≡ Some [] → G.printed call.after ≡ Some seen → (call.status ≢ Status.PutFault)
      → IsStoppedRun (names_of job) job.programs.items job.events.items number (job_desk job (held_of G call.before) store) call.order (commits_seen seen) (HasAsked G call) × (call.status ≡ Status.Done → commits_seen seen ≡ length call.order)
  pub writes : call.status ≡ Status.Done → WritesMore (G.writes call.before) (G.writes call.after) (2 * length call.order)
  pub fine : call.status ≡ Status.Done → (¬ (Rose (G.disk_faults call.before) (G.disk_faults call.after))) → call.order ≡ fine_order job (held_of G call.before) store

-- what is told of a run that ended so, over a disk that is to stop and a screen
pub record IsTold (ended : Ended) (disk : StoppingDisk) (screen : MemoryScreen) (stop : Stop) : Type 0 where
  pub status : (ended.status ≡ Status.Done) ⊎ (ended.status ≡ Status.DiskFault)
  pub reached : stop.reached ≡ true → ∥ AreStopped (stop_number (disk_plan (memory_of disk)).fuse) (deeds_of disk) ∥₁
  pub unreached : stop.reached ≡ false → (disk_faults (memory_of disk) ≡ 0) × AreFewer (stop_number (disk_plan (memory_of disk)).fuse) (deeds_of disk)
  pub seen : stop.seen ≡ commits_seen (screen_printed screen)
  pub order_is : stop.order.items ≡ ended.order.items
  pub image_is : stop.image.items ≡ disk_held (memory_of disk)

-- A stop's order and the commit lines seen are those of one run of the desk. What was asked of the disk is what happened at that run's events asks, in order, and no
-- more; each write among it has bytes, and it has left the image. Where the write with this number was reached, it is the last that was asked, and it alone failed and
-- left this outcome; where it wasn't, nothing failed, fewer writes were made, all events went well and all commits were seen. The image stands for the first commits
-- of the order, run one after another on the store before, and no fewer than were seen, or for all.
pub record IsStop (job : Job) (held : List ℕ) (number : ℕ) (store : FlatStore) (write : ℕ) (outcome : List ℕ) (stop : Stop) : Type 0 where
  pub deeds : List Deed
  pub stopped : stop.reached ≡ true → ∥ AreStopped write deeds ∥₁
  pub ended : stop.reached ≡ false → AreFewer write deeds
  pub some : AreSome deeds
  pub image_is : stop.image.items ≡ left_after outcome held deeds
  pub ran : IsStoppedRun (names_of job) job.programs.items job.events.items number (job_desk job held store) (order_told stop.order.items) stop.seen (OpenedWith (left_after outcome held) deeds)
  pub j : ℕ
  pub told : stop.seen ≤ j
  pub few : j ≤ length stop.order.items
  pub left : FlatStore
  pub leaves : serial (begun job.programs.items job.events.items) (take j (order_told stop.order.items)) store ≡ Some left
  pub stood : stands stop.image.items ≡ Stands ((number + j) % 2 ^ 64) left
  pub whole : stop.reached ≡ false → order_told stop.order.items ≡ fine_order job held store
  pub all : stop.reached ≡ false → j ≡ length stop.order.items
  pub all_seen : stop.reached ≡ false → stop.seen ≡ length stop.order.items

-- this is so of the number and the store for which an image stands
abbrev pub OfStanding : (image : List ℕ) → (ℕ → FlatStore → Type 0) → Type 0
OfStanding image P = (number : ℕ) (store : FlatStore) → stands image ≡ Stands number store → P number store

-- A copy of a job was run: what it left of a store on which every image stands; where the disk began stays, and it failed only where its count rose.
pub record HasRunCopy {W : Type 0} (G : Ghosts W) (job : Job) (before after : W) (ended : Ended) : Type 0 where
  pub left : (number : ℕ) (store : FlatStore) → StandsAt G before number store → IsRunLeft G job number store (call before after (order_told ended.order.items) ended.status)
  pub origin : (G.moment after).origin ≡ (G.moment before).origin
  pub disk : ended.status ≡ Status.DiskFault → Rose (G.disk_faults before) (G.disk_faults after)

-- a drill of one write stopped so, and reached it where the run has so many writes
pub record DrillsStop {E : Type 0} (job : Job) (image : List ℕ) (write : ℕ) (outcome : List ℕ) (result : Result Stop E) : Type 0 where
  pub stop : OfStanding image (λ number store. IfOk result (IsStop job image number store write outcome))
  pub reached : OfStanding image (λ number store. write ≤ 2 * length (fine_order job image store) → IfOk result (λ stop. stop.reached ≡ true))
