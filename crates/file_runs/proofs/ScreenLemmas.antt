-- From what the words without a file did on an outside to what they handed to the screen behind it.
use Rattle.file_runs.proofs.Common.{◌≡◌, inl, inr, ⊎_elim, ℕ, ◌≤◌, List, [], length, min, ap, ◌∙◌, subst, IsSome, Option, None, Some, Result, Prints, held_of, ◌*◌, ◌++◌, Ghosts, Failed, Desk, ReportLine, serial_lines, event_lines, IsRunOf, run, SessionState, Given, call, IsFaultAt, Status, Happened, Refused, job_desk, Deed, printed_of, Hands, IsBehind, AuditedOnScreen, AuditsBy, DrilledJob, DrilledOnScreen, DrillsBy, HandsDrill, HandsLoad, HandsStops, ListedOnScreen, LoadedOnScreen, TracedOnScreen, TracesBy, TriedOnScreen, begun, IsSerial}
use Rattle.std.specs.Prelude.{Bool, false}
use Rattle.outside.specs.Causes.{Rose}
use Rattle.desk.specs.declared.event.Event.{Event}
use Rattle.job_text.specs.declared.job.Job.{Job}
use Rattle.call_status.specs.Statuses.{WentThrough}
use Rattle.call_status.specs.declared.status.Status.TheVariants as status
use Rattle.job_calls.specs.Big.{Loaded, RanBig, last_out, line_for}
use Rattle.store_calls.specs.Audited.{Audited, AuditedBy}
use Rattle.store_calls.specs.Bundled.{WithBundle}
use Rattle.store_calls.specs.Traced.{TracedBy, TracedFrom}
use Rattle.drills.specs.Drilled.{Drilled, DrilledTo, DrillsJob, PutsFirst, PutsWhole, broken, last_line, stop_lines, well}
use Rattle.console.specs.Listed.{Listed}
use Rattle.file_runs.proofs.FileLemmas.{handed, held_is, printed_so, ran_in_memory, stands_at, told, unprinted, unput}

-- what was done with the text of a bundle, in other words
with_bundle : (given : Given) (stays stayed : Type 0) (did done : List ℕ → Type 0) → (stays → stayed) → ((text : List ℕ) → did text → done text) → (end : Status) → WithBundle given stays did end → WithBundle given stayed done end
with_bundle given stays stayed did done keep on status.SourceFault was = (keep was.0, was.1)
with_bundle given stays stayed did done keep on status.NoMemory was = keep was
with_bundle given stays stayed did done keep on status.TooBig was = (keep was.0, was.1)
with_bundle given stays stayed did done keep on _ was = (was.0, was.1, on was.0 was.2)

module _ {W : Type 0} (G : Ghosts W) (before after : W) (first : List ℕ) (puts : List Deed) (behind : IsBehind G before after first puts) (starved : Bool)
    (calm : starved ≡ false → ¬ (Rose (G.disk_faults before) (G.disk_faults after))) where
  none : after ≡ before → puts ≡ []
  none is = unput G before after first puts behind (ap (λ (w : W). (G.moment w).puts) is)

  no_store : (offset : ℕ) → (IsSome (G.held before) → IsFaultAt (held_of G before) offset) → IsFaultAt first offset
  no_store offset is = subst (λ (bytes : List ℕ). IsFaultAt bytes offset) (held_is G before after first puts behind) (is (told G before after first puts behind))

  refused : (order : List (ℕ × ℕ)) (end : Status) → Refused G (call before after order end) → puts ≡ []
  refused order end is = unput G before after first puts behind is.untouched.asks.calls.puts

  pub list_on_screen : (given : Given) (order : List (ℕ × ℕ)) (end : Status) → Listed G given (call before after order end) → ListedOnScreen given puts end
  list_on_screen given order status.Done did = record { text = did.by_status.text; whole = did.by_status.whole; content = did.by_status.content; means = did.by_status.means; handed = handed G before after first puts behind _ status.Done did.by_status.puts.printed }
  list_on_screen given order (status.Job line kind) did = none did.by_status
  list_on_screen given order status.SourceFault did = none did.by_status
  list_on_screen given order status.PutFault did = record { text = did.by_status.text; whole = did.by_status.whole; content = did.by_status.content; means = did.by_status.means; handed = handed G before after first puts behind _ status.PutFault did.by_status.puts.printed }
  list_on_screen given order status.NoMemory did = none did.by_status
  list_on_screen given order status.TooBig did = none did.by_status
  list_on_screen given order _ did = did.by_status

  module _ (given : Given) (order : List (ℕ × ℕ)) where
    audits_by : (end : Status) (text : List ℕ) → AuditedBy G text before after end → AuditsBy text puts end
    audits_by status.Done text did = record { commits = did.commits; verdict = did.verdict; checked = did.checked; handed = handed G before after first puts behind _ status.Done did.puts.printed }
    audits_by status.PutFault text did = record { commits = did.commits; verdict = did.verdict; checked = did.checked; handed = handed G before after first puts behind _ status.PutFault did.puts.printed }
    audits_by _ text did = (did.0, none did.1)

    pub audit_on_screen : (end : Status) → Audited G given (call before after order end) → AuditedOnScreen given puts end
    audit_on_screen end did = with_bundle given (after ≡ before) (puts ≡ []) (λ text. AuditedBy G text before after end) (λ text. AuditsBy text puts end) none (audits_by end) end did.by_status

    traces_by : (activation : ℕ) (end : Status) (text : List ℕ) → TracedBy G text activation before after end → TracesBy text activation puts end
    traces_by activation status.Done text did = record { trace = did.trace; traced = did.traced; handed = handed G before after first puts behind _ status.Done did.puts.printed }
    traces_by activation status.PutFault text did = record { trace = did.trace; traced = did.traced; handed = handed G before after first puts behind _ status.PutFault did.puts.printed }
    traces_by activation _ text did = (did.0, none did.1)

    pub trace_on_screen : (activation : ℕ) (end : Status) → TracedFrom G activation given (call before after order end) → TracedOnScreen activation given puts end
    trace_on_screen activation end did =
        with_bundle given (after ≡ before) (puts ≡ []) (λ text. TracedBy G text activation before after end) (λ text. TracesBy text activation puts end) none (traces_by activation end) end did.by_status

    pub try_on_screen : (session : Option SessionState) (end : Status) → Happened G given (call before after order end) session → TriedOnScreen starved given first puts order session end
    try_on_screen session status.Done did = ran_in_memory G before after first puts behind starved calm given order session status.Done did.by_status
    try_on_screen (Some session) (status.Store offset) did = λ number store stood. did.by_status number store (stands_at G before after first puts behind number store stood)
    try_on_screen None (status.Store offset) did = (refused order (status.Store offset) did.by_status.refused, no_store offset did.by_status.fault)
    try_on_screen (Some session) status.DiskFault did = ran_in_memory G before after first puts behind starved calm given order (Some session) status.DiskFault did.by_status
    try_on_screen None status.DiskFault did = unput G before after first puts behind did.by_status.asks.calls.puts
    try_on_screen session status.PutFault did = ran_in_memory G before after first puts behind starved calm given order session status.PutFault did.by_status
    try_on_screen session end did = refused order end did.by_status

  module _ (transfers : ℕ) (order : List (ℕ × ℕ)) (session : Option SessionState) where
    ran_load : (end : Status) → WentThrough end → RanBig G transfers (call before after order end) session → HandsLoad starved transfers first puts order end
    ran_load end past ran =
        let job = ran.job in
        let programs = job.programs.items in (
          job,
          ran.is_load,
          λ number store stood.
              let did = ran.has_run number store (stands_at G before after first puts behind number store stood) in
              let acts = begun programs job.events.items in
              let taken = did.ran.taken in
              let names = did.ran.names in
              let held = held_is G before after first puts behind in
              let desk = λ (bytes : List ℕ). job_desk job bytes store in
              let at = λ (bytes : List ℕ). event_lines names programs number taken (desk bytes) in
              let is_lines : did.ran.lines ≡ at first = did.ran.lines_are ∙ ap at held in
              let with_rest = subst (λ (rest : List Event). IsRunOf programs job.events.items (desk (held_of G before)) taken rest) (did.all past) did.ran.is_run in
              let with_end = subst (λ (end : Desk). IsSerial acts number store order did.ran.lines end.committed end.closed) (did.ran.end_is ∙ ap (λ (bytes : List ℕ). run programs taken (desk bytes)) held) did.ran.serial_run in
              record {
                taken = taken;
                is_run = subst (λ (bytes : List ℕ). IsRunOf programs job.events.items (desk bytes) taken []) held with_rest;
                order_is = did.ran.order_is ∙ ap (λ (end : Desk). end.order) did.ran.end_is ∙ ap (λ (bytes : List ℕ). (run programs taken (desk bytes)).order) held;
                names = names;
                serial_run = subst (λ (lines : List ReportLine). IsSerial acts number store order lines (run programs taken (desk first)).committed (run programs taken (desk first)).closed) is_lines with_end;
                fine = λ fed. did.ran.all_fine (calm fed);
                handed = subst (λ (lines : List ReportLine). Hands puts (line_for transfers lines) end) is_lines (handed G before after first puts behind _ end (did.told past));
                last = subst (λ (lines : List ReportLine). last_out lines ≡ last_out (serial_lines acts number order store)) is_lines (did.last past);
              },
        )

    pub load_on_screen : (end : Status) → Loaded G transfers (call before after order end) session → LoadedOnScreen starved transfers first puts order end
    load_on_screen status.Done did = ran_load status.Done tt did.by_status.0
    load_on_screen (status.Store offset) did = (refused order (status.Store offset) did.by_status.1.refused, no_store offset did.by_status.1.fault)
    load_on_screen status.DiskFault did = unprinted G before after first puts behind did.by_status.1
    load_on_screen status.PutFault did = ran_load status.PutFault tt did.by_status
    load_on_screen status.NoMemory did = refused order status.NoMemory did.by_status
    load_on_screen _ did = did.by_status

  module _ (job : Job) where
    stops : (put : Result (Unit {0}) Failed) → PutsFirst G job before after put → HandsStops job puts put
    stops put did = record { pairs = did.pairs; stops = did.stops; printed = printed_so G before after first puts behind _ put did.puts.printed }

    drill : (put : Result (Unit {0}) Failed) → PutsWhole G job before after put → HandsDrill job puts put
    drill put did =
        let is = did.number_is in
        record {
          pairs = did.pairs;
          stops = did.stops;
          enough = subst (λ (n : ℕ). min 256 (2 * n) ≤ length did.pairs) is did.enough;
          all = did.all;
          printed = subst (λ (n : ℕ). Prints (Some []) (Some (printed_of puts)) (stop_lines 1 did.pairs ++ last_line (length did.pairs) n) put) is (printed_so G before after first puts behind _ put did.puts.printed);
        }

    drills_by : (end : Status) → DrilledTo G job before after end → DrillsBy job puts end
    drills_by status.Done did = drill well did
    drills_by status.PutFault did = ⊎_elim (λ some. inl (stops broken some)) (λ whole. inr (drill broken whole)) did
    drills_by status.NoMemory did = stops well did
    drills_by _ did = did

  drilled : (given : Given) (end : Status) → DrillsJob G given before after end → DrilledJob given puts end
  drilled given end did = record { text = did.text; whole = did.whole; job = did.job; means = did.means; drills = drills_by did.job end did.did }

  pub drill_on_screen : (given : Given) (order : List (ℕ × ℕ)) (end : Status) → Drilled G given (call before after order end) → DrilledOnScreen given puts end
  drill_on_screen given order status.Done did = drilled given status.Done did.by_status
  drill_on_screen given order (status.Job line kind) did = none did.by_status
  drill_on_screen given order status.SourceFault did = none did.by_status
  drill_on_screen given order status.PutFault did = drilled given status.PutFault did.by_status
  drill_on_screen given order status.NoMemory did = ⊎_elim (λ is. inl (none is)) (λ some. inr (drilled given status.NoMemory some)) did.by_status
  drill_on_screen given order status.TooBig did = none did.by_status
  drill_on_screen given order _ did = did.by_status
