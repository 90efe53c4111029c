-- From what the console did on an outside to what it did on the file and the screen behind it.
use Rattle.std.specs.Prelude.{Bool, OnOk, zero}
use Rattle.std.proofs.lemmas.Result.{on_ok_weaker}
use Rattle.schedule_replay.specs.Runs.{report_lines_of}
use Rattle.file_runs.proofs.Common.{◌≡◌, inl, inr, ⊎_elim, ℕ, ◌+◌, ◌≤◌, List, [], ◌∷◌, ◌++◌, append_assoc, Torn, written, length, length-append, take, drop, refl, sym, ◌∙◌, ap, subst, arith, suc, Option, Result, Some, IsSome, unwrap_or, Leaves, OnlyAsks, None, Ghosts, false, IsSure, FlatStore, Stands, stands, begun, IsSerial, Given, call, IsFaultAt, TellsStore, Status, SessionState, report, event_lines, Desk, IsRunOf, run, ReportLine, Failed, held_of, Happened, RanJob, Refused, job_desk, names_of, Deed, Tore, Synced, file_images_at, file_images_by, bytes_put, printed_of, marks_of, AreBehind, Hands, IsBehind, IsSeenAt, KeepsFile, LeavesAlways, LeavesAt, LeavesLast, OnlyAsked, RanOnFile, RanOnScreen, FromAnyStore, RunsOnFile, begun_by}
use Rattle.drills.proofs.AskedLemmas.{opened_asks}
use Rattle.outside.proofs.Runs.{not_after}
use Rattle.outside.specs.Deeds.{IsCut, Since, SyncedOnce}
use Rattle.outside.specs.Moments.{IsNotAfter}
use Rattle.outside.specs.Runs.{OnlyOpens, OpensAndPuts}
use Rattle.real_files.specs.Deeds.{file_after}
use Rattle.schedule_replay.specs.RunAsks.{happened, OpenedAsks}
use Rattle.file_runs.specs.FileRun.{NothingAsked}
use Rattle.file_runs.specs.FileFollowed.{FileRecords, FileStopped}
use Rattle.file_runs.specs.ScreenWords.{RanInMemory}
use Rattle.standby.specs.FollowAsked.{FailedAsks, OpenedFor, RecordAsks, RecordsAsked, RecordsStopped}
use Rattle.std.proofs.lemmas.List.{append_cancel_left, nil_from_length, take_all}
use Rattle.outside.proofs.Torn.{torn_by_written, untouched}
use Rattle.std.proofs.lemmas.Bool.{cases_lt}
use Rattle.std.proofs.lemmas.Bool.Decides.{nat_tests}
use Rattle.outside.specs.Clock.{shown_by, put_start}
use Rattle.outside.specs.Moments.{Moment}
use Rattle.desk_law.specs.Headline.{IsPrefix}
use Rattle.desk_law.proofs.HeadlineLemmas.{start_is_prefix}
use Rattle.call_status.specs.Printed.{PrintsBy}
use Rattle.call_status.specs.declared.status.Status.TheVariants as status
use Rattle.desk.specs.Kept.{KeepsJournal, journal_in}
use Rattle.outside.specs.Causes.{Rose}
use Rattle.schedule_replay.specs.Ran.{PrintsEarlier, run_text}
use Rattle.job_calls.specs.Headline.{job_opening}
use Rattle.job_calls.specs.Below.{line_text, Open}
use Rattle.call_status.specs.Statuses.{WentThrough}
use Rattle.call_status.specs.Opening.{IsStanding}
use Rattle.outside.specs.Bytes.{AreTold, Prints}

-- nothing was printed before the first put
none_before : (puts : List Deed) → put_start (marks_of 0 puts) (length (printed_of puts)) 0 ≡ 0
none_before [] = refl
none_before (put ∷ puts) = refl

-- bytes that are told are the ones
told_is : (those : Option (List ℕ)) (left : List ℕ) → IsSome those → AreTold those left → left ≡ unwrap_or those []
told_is (Some bytes) left has is = is
told_is None left has is = cc

-- a mark for each put
pub marks_counted : (before : ℕ) (puts : List Deed) → length (marks_of before puts) ≡ length puts
marks_counted before [] = refl
marks_counted before (put ∷ puts) = ap suc (marks_counted (before + length (bytes_put put)) puts)

-- a failed write of some bytes may leave two images
no_bytes : (first held : List ℕ) (images : List ℕ → Type 0) (at : ℕ) (bytes : List ℕ) → images held → ((image : List ℕ) → file_images_by (Tore at bytes) held images image → image ≡ first) → bytes ≡ []
no_bytes first held images at [] now kept = refl
no_bytes first held images at (b ∷ bs) now kept =
    let rest = drop (at + length (b ∷ bs)) held in
    let one : written held at (b ∷ bs) ≡ first = kept (written held at (b ∷ bs)) (inl refl) in
    ⊎_elim
    (λ beyond.
    let other : held ≡ first = kept held (inr (held, now, untouched at (length (b ∷ bs)) held)) in
    let longer : length (written held at (b ∷ bs)) ≡ length held = ap (λ (these : List ℕ). length these) (one ∙ sym other) in
    let all : length (take at held) ≡ length held = ap (λ (these : List ℕ). length these) (take_all at held (omega (arith, beyond))) in
    absurd (omega (arith, longer, all, length-append (take at held ++ (b ∷ bs)) rest, length-append (take at held) (b ∷ bs))))
    (λ within.
    let torn : Torn at (length (b ∷ bs)) held (written held at (suc b ∷ bs)) = torn_by_written held at (suc b ∷ bs) within (length (b ∷ bs)) (omega arith) in
    let other : written held at (suc b ∷ bs) ≡ first = kept (written held at (suc b ∷ bs)) (inr (held, now, torn)) in
    let both : take at held ++ (b ∷ (bs ++ rest)) ≡ take at held ++ (suc b ∷ (bs ++ rest)) = sym (append_assoc (take at held) (b ∷ bs) rest) ∙ one ∙ sym other ∙ append_assoc (take at held) (suc b ∷ bs) rest in
    let same : b ∷ (bs ++ rest) ≡ suc b ∷ (bs ++ rest) = append_cancel_left (take at held) (b ∷ (bs ++ rest)) (suc b ∷ (bs ++ rest)) both in
    let heads : b ≡ suc b = cc in
    absurd (omega (arith, heads)))
    (cases_lt (length held) at)

-- no fewer bytes stood before a put than before the first
from_first : (before : ℕ) (puts : List Deed) (count at : ℕ) → before + length (printed_of puts) ≤ count → before ≤ shown_by (marks_of before puts) count at
from_first before [] count at few = omega (arith, few)
from_first before (put ∷ puts) count at few =
    let all = length-append (bytes_put put) (printed_of puts) in
    let rest = from_first (before + length (bytes_put put)) puts count at (omega (arith, few, all)) in
    grind (arith, nat_tests)

-- nor before the first put at one deed more
later_more : (before : ℕ) (puts : List Deed) (count at : ℕ) → before + length (printed_of puts) ≤ count → shown_by (marks_of before puts) count at ≤ shown_by (marks_of before puts) count (at + 1)
later_more before [] count at few = omega arith
later_more before (put ∷ puts) count at few =
    let all = length-append (bytes_put put) (printed_of puts) in
    let enough : before + length (bytes_put put) + length (printed_of puts) ≤ count = omega (arith, few, all) in
    let rest = later_more (before + length (bytes_put put)) puts count at enough in
    let least = from_first (before + length (bytes_put put)) puts count (at + 1) enough in grind (arith, nat_tests)

-- so at each number of deeds something may have been seen
seen_at : (puts : List Deed) (done : ℕ) → (seen : List ℕ) × IsSeenAt puts done seen
seen_at puts done =
    let count = shown_by (marks_of 0 puts) (length (printed_of puts)) done in
    (take count (printed_of puts), record { count = count; is_seen = refl; ended = omega arith; not_begun = later_more 0 puts (length (printed_of puts)) done (omega arith) })

module _ {W : Type 0} (G : Ghosts W) (before after : W) (first : List ℕ) (puts : List Deed) (behind : IsBehind G before after first puts) where
  pub told : IsSome (G.held before)
  told = subst (λ (those : Option (List ℕ)). IsSome those) (sym behind.held) refl

  pub printed_told : IsSome (G.printed before)
  printed_told = subst (λ (those : Option (List ℕ)). IsSome those) (sym behind.none) refl

  pub held_is : held_of G before ≡ first
  held_is = ap (λ (those : Option (List ℕ)). unwrap_or those []) behind.held

  -- the premises on the disk
  pub stands_at : (number : ℕ) (store : FlatStore) → stands first ≡ Stands number store → TellsStore G before number store
  stands_at number store stood = record { honest = behind.honest; told = told; stood = ap stands held_is ∙ stood }

  -- what was printed since is what was handed to the screen
  pub handed : (text : List ℕ) (end : Status) → PrintsBy (G.printed before) (G.printed after) text end → Hands puts text end
  handed text end prints =
      subst (λ (those : Option (List ℕ)). PrintsBy (Some []) those text end) behind.shown (subst (λ (those : Option (List ℕ)). PrintsBy those (G.printed after) text end) behind.none prints)

  pub printed_so : (text : List ℕ) {T : Type 0} (put : Result T Failed) → Prints (G.printed before) (G.printed after) text put → Prints (Some []) (Some (printed_of puts)) text put
  printed_so text put prints =
      subst (λ (those : Option (List ℕ)). Prints (Some []) those text put) behind.shown (subst (λ (those : Option (List ℕ)). Prints those (G.printed after) text put) behind.none prints)

  -- where nothing was printed since, it is nothing, and where no put was recorded there is none
  pub unprinted : G.printed after ≡ G.printed before → printed_of puts ≡ []
  unprinted same = let is : Some (printed_of puts) ≡ Some [] = sym behind.shown ∙ same ∙ behind.none in cc

  pub unput : (G.moment after).puts ≡ (G.moment before).puts → puts ≡ []
  unput same = let none : length puts ≡ 0 = sym behind.count ∙ same ∙ behind.unput in nil_from_length puts none

  pub ran_on_screen : (given : Given) (order : List (ℕ × ℕ)) (status : Status) (session : Option SessionState) → RanJob G given (call before after order status) session
      → (number : ℕ) (store : FlatStore) → stands first ≡ Stands number store → RanOnScreen given number store first puts order status
  ran_on_screen given order status session ran number store stood =
      let did = ran.has_run number store (stands_at number store stood) in
      let acts = begun ran.job.programs.items ran.job.events.items in
      let programs = ran.job.programs.items in
      let taken = did.ran.taken in
      let desk = λ (bytes : List ℕ). job_desk ran.job bytes store in
      record {
        text = ran.text;
        whole = ran.whole;
        job = ran.job;
        means = ran.means;
        taken = taken;
        rest = did.ran.rest;
        is_run = subst (λ (bytes : List ℕ). IsRunOf programs ran.job.events.items (desk bytes) taken did.ran.rest) held_is did.ran.is_run;
        order_is = did.ran.order_is ∙ ap (λ (end : Desk). end.order) did.ran.end_is ∙ ap (λ (bytes : List ℕ). (run programs taken (desk bytes)).order) held_is;
        all = did.all;
        still_open = λ is. sym (ap (λ (end : Desk). end.closed) did.ran.end_is ∙ ap (λ (bytes : List ℕ). (run programs taken (desk bytes)).closed) held_is) ∙ did.still_open is;
        shut = λ is. sym (ap (λ (end : Desk). end.closed) did.ran.end_is ∙ ap (λ (bytes : List ℕ). (run programs taken (desk bytes)).closed) held_is) ∙ did.shut is;
        earlier =
            let text = λ (bytes : List ℕ) (front : List _). line_text (Open number) ++ run_text (job_opening (names_of ran.job) ran.job number bytes store) front in
            subst (λ (bytes : List ℕ). PrintsEarlier (Some []) (Some (printed_of puts)) (text bytes) taken) held_is
            (subst (λ (those : Option (List ℕ)). PrintsEarlier (Some []) those (text (held_of G before)) taken) behind.shown (subst (λ (those : Option (List ℕ)). PrintsEarlier those (G.printed after) (text (held_of G before)) taken) behind.none did.earlier));
        serial_run =
            let with_end = subst (λ (end : Desk). IsSerial acts number store order did.ran.lines end.committed end.closed) did.ran.end_is did.ran.serial_run in
            let with_lines = subst (λ (lines : List ReportLine). IsSerial acts number store order lines (run programs taken (desk (held_of G before))).committed (run programs taken (desk (held_of G before))).closed) did.ran.lines_are with_end in
            let with_names = subst (λ (names : List (List ℕ)). IsSerial acts number store order (event_lines names programs number taken (desk (held_of G before))) (run programs taken (desk (held_of G before))).committed (run programs taken (desk (held_of G before))).closed) did.named with_lines in
            subst (λ (bytes : List ℕ). IsSerial acts number store order (event_lines (names_of ran.job) programs number taken (desk bytes)) (run programs taken (desk bytes)).committed (run programs taken (desk bytes)).closed) held_is with_names;
        put = did.put;
        put_is = did.put_is;
        printed =
            let text = λ (bytes : List ℕ). report (names_of ran.job) programs number taken did.ran.rest (desk bytes) in
            subst (λ (bytes : List ℕ). Prints (Some []) (Some (printed_of puts)) (text bytes) did.put) held_is (printed_so (text (held_of G before)) did.put did.printed);
        times =
            let lines = λ (bytes : List ℕ). report_lines_of (job_opening (names_of ran.job) ran.job number bytes store) taken did.ran.rest in
            subst (λ (bytes : List ℕ). OnOk did.put (length puts ≡ length (lines bytes))) held_is
            (on_ok_weaker did.put (λ counts. let many = counts printed_told in omega (arith, many, behind.count, behind.unput)) did.times);
      }

module _ {W : Type 0} (G : Ghosts W) (before after : W) (first : List ℕ) (puts : List Deed) (behind : IsBehind G before after first puts) (starved : Bool)
    (calm : starved ≡ false → ¬ (Rose (G.disk_faults before) (G.disk_faults after))) where
  pub ran_in_memory : (given : Given) (order : List (ℕ × ℕ)) (session : Option SessionState) (end : Status) → RanJob G given (call before after order end) session
      → FromAnyStore first (λ number store. RanInMemory starved given number store first puts order end)
  unfolding ran_on_screen
  ran_in_memory given order session end ran number store stood = record {
    ran = ran_on_screen G before after first puts behind given order end session ran number store stood;
    fine = λ fed. (ran.has_run number store (stands_at G before after first puts behind number store stood)).ran.all_fine (calm fed);
  }

module _ {W : Type 0} (G : Ghosts W) (before after : W) (first : List ℕ) (deeds puts : List Deed) (starved : Bool) (behind : AreBehind G before after first deeds puts starved) where
  -- the file's images after so many deeds, and what may have been seen then, are a pair that a crash may have left since the start
  since_start : (done : ℕ) (image seen : List ℕ) → done ≤ length deeds → file_images_at first deeds done image → IsSeenAt puts done seen → G.left_since after (G.moment before) image seen
  since_start done image seen within is_image seen_at =
      subst (λ (t : Moment). G.left_since after t image seen) (sym behind.moment) (behind.since (begun_by first) image seen (record {
        at = done;
        count = seen_at.count;
        since = omega arith;
        by_now = within;
        is_image = is_image;
        is_seen = seen_at.is_seen;
        recorded = omega (arith, none_before puts);
        ended = seen_at.ended;
        not_begun = seen_at.not_begun;
      }))

  -- so what each pair since the start has, the deeds leave
  pub leaves_at : (P : List ℕ → List ℕ → Type 0) → Leaves G P before after → LeavesAt first deeds puts P
  leaves_at P leaves done image seen within is_image seen_at = leaves image seen (since_start done image seen within is_image seen_at)

  pub leaves_always : (P : List ℕ → Type 0) → Leaves G (λ image seen. P image) before after → LeavesAlways first deeds P
  leaves_always P leaves done image within is_image =
      let its = seen_at puts done in leaves image its.0 (since_start done image its.0 within is_image its.1)

  -- the deeds of calls that told these
  pub since_none : (P : List Deed → Type 0) → Since (G.deeds before) (G.deeds after) P → P deeds
  since_none P since =
      let told : Since (Some []) (Some deeds) P =
      subst (λ (those : Option (List Deed)). Since (Some []) those P) behind.deeds_are (subst (λ (those : Option (List Deed)). Since those (G.deeds after) P) behind.undone since) in
      let same : told.0 ≡ deeds = let is = told.1 in cc in
      subst P same told.2

  -- where each pair has an image of the start, the file keeps its bytes
  pub keeps : OpensAndPuts G before after → KeepsFile first deeds
  keeps only = record {
    asked = since_none (IsCut (Synced ∷ [])) only.deeds;
    kept = leaves_always (λ image. image ≡ first) (λ image seen was.
        let begun = only.images (told G before after first puts behind.screen) image seen was in
        behind.screen.left image begun.0 begun.1);
  }

  pub only_asked : OnlyOpens G before after → OnlyAsked first deeds puts
  only_asked asks = record {
    unput = unput G before after first puts behind.screen asks.calls.puts;
    keeps = record {
      asked = since_none (IsCut (Synced ∷ [])) asks.deeds;
      kept = leaves_always (λ image. image ≡ first) (λ image seen was.
          behind.screen.left image seen (asks.crash (told G before after first puts behind.screen) image seen was));
    };
  }

  -- where the disk was only read, nothing was asked that may change it
  pub only_read : OnlyAsks G before after → NothingAsked deeds puts
  only_read asks = (let is : Some deeds ≡ Some [] = sym behind.deeds_are ∙ asks.deeds ∙ behind.undone in cc, unput G before after first puts behind.screen asks.calls.puts)

  -- what was held when so much was done
  held_at : (mid : W) (earlier : List Deed) → IsNotAfter (G.moment before) (G.moment mid) → G.deeds mid ≡ Some earlier → held_of G mid ≡ file_after first earlier
  held_at mid earlier since told = ap (λ (those : Option (List ℕ)). unwrap_or those []) (behind.holds mid earlier since.origin told)

  -- records that were committed behind earlier deeds
  records_asked : (count : ℕ) (start now : W) → IsNotAfter (G.moment before) (G.moment start) → G.deeds start ≡ Some (Synced ∷ []) → RecordsAsked G count start now
      → IsNotAfter (G.moment before) (G.moment now) × ((done : List Deed) × (G.deeds now ≡ Some done) × FileRecords first count done)
  records_asked zero start now since told_is (same, held, later) = (not_after (G.moment before) (G.moment start) (G.moment now) since later, (Synced ∷ [], same ∙ told_is, refl))
  records_asked (suc count) start now since told_is (mid, asked, later, next) =
      let (later_than, (earlier, earlier_is, those)) = records_asked count start mid since told_is asked in
      let here : Since (Some earlier) (G.deeds now) (RecordAsks (held_of G mid)) = subst (λ (told : Option (List Deed)). Since told (G.deeds now) (RecordAsks (held_of G mid))) earlier_is next in (
        not_after (G.moment before) (G.moment mid) (G.moment now) later_than later,
        (earlier ++ here.0, here.1, (earlier, here.0, refl, those, subst (λ (bytes : List ℕ). RecordAsks bytes here.0) (held_at mid earlier later_than earlier_is) here.2)),
      )

  -- and behind an opening
  pub followed_asks : (count : ℕ) → OpenedFor G (RecordsAsked G count) before after → FileRecords first count deeds
  followed_asks count (start, since, synced, held, asked) =
      let told : G.deeds start ≡ Some (Synced ∷ []) = subst (λ (those : Option (List Deed)). SyncedOnce those (G.deeds start)) behind.undone synced in
      let (later_than, (done, done_is, those)) = records_asked count start after since told asked in
      let all : Some done ≡ Some deeds = sym done_is ∙ behind.deeds_are in
      let is : done ≡ deeds = cc in
      subst (FileRecords first count) is those

  pub stopped_asks : (count : ℕ) → OpenedFor G (RecordsStopped G count) before after → FileStopped first count deeds
  stopped_asks count (start, since, synced, held, (mid, asked, later, next)) =
      let told : G.deeds start ≡ Some (Synced ∷ []) = subst (λ (those : Option (List Deed)). SyncedOnce those (G.deeds start)) behind.undone synced in
      let (later_than, (earlier, earlier_is, those)) = records_asked count start mid since told asked in
      let here : Since (Some earlier) (G.deeds after) (FailedAsks (held_of G mid)) = subst (λ (told : Option (List Deed)). Since told (G.deeds after) (FailedAsks (held_of G mid))) earlier_is next in
      let all : Some deeds ≡ Some (earlier ++ here.0) = sym behind.deeds_are ∙ here.1 in
      let is : deeds ≡ earlier ++ here.0 = cc in
      inl (earlier, here.0, is, those, subst (λ (bytes : List ℕ). FailedAsks bytes here.0) (held_at mid earlier later_than earlier_is) here.2)

  -- where nothing was called, nothing was asked
  pub nothing : after ≡ before → (deeds ≡ []) × (puts ≡ [])
  nothing is =
      let no_calls : length deeds ≡ 0 = sym behind.calls ∙ ap (λ (w : W). (G.moment w).calls) is ∙ ap (λ (moment : Moment). moment.calls) behind.moment in
      (nil_from_length deeds no_calls, unput G before after first puts behind.screen (ap (λ (w : W). (G.moment w).puts) is))

  -- where the bytes held are sure, all deeds leave them alone
  pub sure_now : IsSure G after → LeavesLast first deeds (λ left. left ≡ held_of G after)
  sure_now sure left is_left =
      let its = behind.now left is_left in told_is (G.held after) left sure.told (sure.durable left its.0 its.1)

  pub sure_last : (image : List ℕ) → G.held after ≡ Some image → IsSure G after → LeavesLast first deeds (λ left. left ≡ image)
  sure_last image held sure left is_left =
      let its = behind.now left is_left in
      subst (λ (those : Option (List ℕ)). AreTold those left) held (sure.durable left its.0 its.1)

  pub ran_on_file : (given : Given) (order : List (ℕ × ℕ)) (status : Status) (session : Option SessionState) → RanJob G given (call before after order status) session
      → FromAnyStore first (λ number store. RanOnFile starved given number store first deeds puts order status)
  unfolding ran_on_screen
  ran_on_file given order status session ran number store stood =
      let did = ran.has_run number store (stands_at G before after first puts behind.screen number store stood) in
      let acts = begun ran.job.programs.items ran.job.events.items in
      let empty : unwrap_or (G.printed before) [] ≡ [] = ap (λ (those : Option (List ℕ)). unwrap_or those []) behind.screen.none in
      let programs = ran.job.programs.items in
      let taken = did.ran.taken in
      let desk = λ (bytes : List ℕ). job_desk ran.job bytes store in
      let held = held_is G before after first puts behind.screen in
      let lines : did.ran.lines ≡ event_lines (names_of ran.job) programs number taken (desk first) =
      did.ran.lines_are ∙ ap (λ (names : List (List ℕ)). event_lines names programs number taken (desk (held_of G before))) did.named ∙ ap (λ (bytes : List ℕ). event_lines (names_of ran.job) programs number taken (desk bytes)) held in
      record {
        ran = ran_on_screen G before after first puts behind.screen given order status session ran number store stood;
        asked = opened_asks G before after (file_after first) deeds behind.deeds_are behind.holds (happened programs taken (desk first)) behind.undone (subst (λ (bytes : List ℕ). OpenedAsks G (happened programs taken (desk bytes)) before after) held did.deeds);
        crash = leaves_at (IsPrefix acts number store order []) (λ image seen was.
            ⊎_elim
            (λ of_start. start_is_prefix acts number store order image seen (ap stands (behind.screen.left image seen of_start.0) ∙ stood) (subst (λ (those : Option (List ℕ)). AreTold those seen) behind.screen.none of_start.1))
            (λ shown. subst (λ (printed : List ℕ). IsPrefix acts number store order printed image seen) empty shown)
            (did.seen (printed_told G before after first puts behind.screen) image seen was));
        fine = λ is_calm.
            did.ran.all_fine (λ rose. absurd (omega (arith, behind.started, behind.calm_disk is_calm, subst (λ (n : ℕ). Rose n (G.disk_faults after)) behind.started rose)));
        doubt = λ shut front event is.
            let its = did.ran.doubt (ap (λ (end : Desk). end.closed) did.ran.end_is ∙ ap (λ (bytes : List ℕ). (run programs taken (desk bytes)).closed) held ∙ shut) front event is in
            (its.0, its.1, its.2, λ image left. let now = behind.now image left in its.3 image now.0 now.1);
        journal = λ still image left.
            let open_end : did.ran.end.closed ≡ false = ap (λ (end : Desk). end.closed) did.ran.end_is ∙ ap (λ (bytes : List ℕ). (run programs taken (desk bytes)).closed) held ∙ still in
            let kept = subst (λ (these : List ReportLine). KeepsJournal these (journal_in (held_of G before)) (journal_in (held_of G after))) lines (did.ran.to.journal open_end) in
            subst (λ (bytes : List ℕ). KeepsJournal (event_lines (names_of ran.job) programs number taken (desk first)) (journal_in first) (journal_in bytes)) (sym (sure_now (did.ran.to.still open_end).0 image left))
            (subst (λ (bytes : List ℕ). KeepsJournal (event_lines (names_of ran.job) programs number taken (desk first)) (journal_in bytes) (journal_in (held_of G after))) held kept);
      }

  module _ (given : Given) (order : List (ℕ × ℕ)) where
    -- where a call was refused, the file was only asked
    refused : (end : Status) → Refused G (call before after order end) → OnlyAsked first deeds puts
    refused end is = only_asked is.untouched.asks

    pub run_on_file : (session : Option SessionState) (end : Status) → (WentThrough end → IsStanding first) → Happened G given (call before after order end) session → RunsOnFile starved given first deeds puts order session end
    run_on_file session status.Done stood did = (stood tt, ran_on_file given order status.Done session did.by_status)
    run_on_file session status.PutFault stood did = (stood tt, ran_on_file given order status.PutFault session did.by_status)
    run_on_file (Some session) status.DiskFault stood did = ran_on_file given order status.DiskFault (Some session) did.by_status
    run_on_file None status.DiskFault stood did = only_asked did.by_status.asks
    run_on_file (Some session) (status.Store offset) stood did = λ number store stood. did.by_status number store (stands_at G before after first puts behind.screen number store stood)
    run_on_file None (status.Store offset) stood did =
        (refused (status.Store offset) did.by_status.refused, subst (λ (bytes : List ℕ). IsFaultAt bytes offset) (held_is G before after first puts behind.screen) (did.by_status.fault (told G before after first puts behind.screen)))
    run_on_file session end stood did = refused end did.by_status
