-- From what each word did on an outside to what it did on the file and the screen behind it.
use Rattle.call_status.specs.Statuses.{WentThrough}
use Rattle.call_status.specs.Opening.{IsStanding}
use Rattle.std.specs.Prelude.{Bool, false}
use Rattle.outside.specs.Causes.{Rose}
use Rattle.file_runs.proofs.Common.{◌≡◌, refl, ℕ, List, Ghosts, Given, new_line, Deed, AreBehind, IsBehind, DidOnFile, IsOnFile, DidOnScreen}
use Rattle.desk.specs.Answers.{order_told}
use Rattle.job_calls.specs.declared.ended.Ended.{Ended}
use Rattle.console.specs.Did.{Does}
use Rattle.console.specs.declared.command_words.Command.{Command}
use Rattle.console.specs.declared.command_words.Command.TheVariants as command
use Rattle.store_format.specs.Header.{fresh}
use Rattle.file_runs.proofs.FileLemmas.{run_on_file}
use Rattle.file_runs.proofs.ScreenLemmas.{audit_on_screen, drill_on_screen, list_on_screen, load_on_screen, trace_on_screen, try_on_screen}
use Rattle.file_runs.proofs.StoreLemmas.{follow_on_file, renew_on_file, renew_origin, ship_on_file, show_on_file, write_on_file}

-- the disk of a word on a file is the one that was lent
pub same_origin : {W : Type 0} (G : Ghosts W) (form : Command) (source : Given) (before after : W) (ended : Ended) → IsOnFile form → Does G form source before after ended → (G.moment after).origin ≡ (G.moment before).origin
same_origin G command.Run source before after ended on_file did = did.time.later.origin
same_origin G (command.Show range) source before after ended on_file did = did.only.time.later.origin
same_origin G (command.Ship from) source before after ended on_file did = did.only.time.later.origin
same_origin G (command.New header) source before after ended on_file did = did.time.later.origin
same_origin G (command.Renew bank) source before after ended on_file did = renew_origin G before after bank source (order_told ended.order.items) ended.status did
same_origin G command.Follow source before after ended on_file did = did.time.later.origin
same_origin G _ source before after ended on_file did = absurd on_file

module _ {W : Type 0} (G : Ghosts W) (before after : W) (first : List ℕ) (deeds puts : List Deed) (starved : Bool) (behind : AreBehind G before after first deeds puts starved) (source : Given) (ended : Ended) where
  pub did_on_file : (form : Command) → (form ≡ command.Run → WentThrough ended.status → IsStanding first) → Does G form source before after ended → DidOnFile starved form source first deeds puts ended
  did_on_file command.Run stood did = run_on_file G before after first deeds puts starved behind source (order_told ended.order.items) ended.session ended.status (stood refl) did
  did_on_file (command.Show range) stood did = show_on_file G before after first deeds puts starved behind range (order_told ended.order.items) ended.status did
  did_on_file (command.Ship from) stood did = ship_on_file G before after first deeds puts starved behind from (order_told ended.order.items) ended.status did
  did_on_file (command.New header) stood did = write_on_file G before after first deeds puts starved behind (fresh header) (new_line header) (order_told ended.order.items) ended.status did
  did_on_file (command.Renew bank) stood did = renew_on_file G before after first deeds puts starved behind bank source (order_told ended.order.items) ended.status did
  did_on_file command.Follow stood did = follow_on_file G before after first deeds puts starved behind source (order_told ended.order.items) ended.status did
  did_on_file _ stood did = tt

module _ {W : Type 0} (G : Ghosts W) (before after : W) (first : List ℕ) (puts : List Deed) (behind : IsBehind G before after first puts) (starved : Bool)
    (calm : starved ≡ false → ¬ (Rose (G.disk_faults before) (G.disk_faults after))) (source : Given) (ended : Ended) where
  pub did_on_screen : (form : Command) → Does G form source before after ended → DidOnScreen starved form source first puts ended
  did_on_screen command.Try did = try_on_screen G before after first puts behind starved calm source (order_told ended.order.items) ended.session ended.status did
  did_on_screen (command.Big transfers) did = load_on_screen G before after first puts behind starved calm transfers (order_told ended.order.items) ended.session ended.status did
  did_on_screen command.List did = list_on_screen G before after first puts behind starved calm source (order_told ended.order.items) ended.status did
  did_on_screen command.Drill did = drill_on_screen G before after first puts behind starved calm source (order_told ended.order.items) ended.status did
  did_on_screen command.Audit did = audit_on_screen G before after first puts behind starved calm source (order_told ended.order.items) ended.status did
  did_on_screen (command.Trace activation) did = trace_on_screen G before after first puts behind starved calm source (order_told ended.order.items) activation ended.status did
  did_on_screen _ did = tt
