use Rattle.job_calls.proofs.Common.{rules, ◌≡◌, ◌≤◌, ◌∙◌, ap, sym, subst, arith, length, All, List, ℕ, Some, count_by-le-length, [], Fixed, order_told, Desk, Event, IsSure, held_of, ghosts, is_turn, IsLasting, RunsQuietly, call, Loaded, fixed_of, opening_of, span}
use Rattle.job_calls.proofs.NameLemmas.{ready-to-run}
use Rattle.job_calls.proofs.BigLemmas.{faults_told, lasting, loaded, still-holds}
use Rattle.job_calls.proofs.load_run.open_and_run.Goals as goal

pub returns : goal.returns
returns g c = record {
  loaded =
      let G = g.W.Outside in let job = c.args.job in let desk = c.in-Ok.session in
      let new = c.run_quiet-quiet.new.desk in let before = c.args.outside.now in let start = c.open.new.outside in
      let between = c.run_quiet-quiet.new.outside in let last = c.as_slice.result.now in
      let quiet = c.run_quiet-quiet.result in
      let runs : (first : Desk) → IsSure G start → ghosts.shows desk (held_of G start) first → RunsQuietly ghosts G (opening_of [] (fixed_of desk) first) job.events.items new (span start between) last quiet = λ first sure shows.
      subst (λ (bytes : List ℕ). RunsQuietly ghosts G (opening_of [] (fixed_of desk) first) job.events.items new (span start between) bytes quiet) (sym c.as_slice.ensures.value)
      (subst (λ (events : List Event). RunsQuietly ghosts G (opening_of [] (fixed_of desk) first) events new (span start between) c.run_quiet-quiet.new.last.items quiet) c.deref.ensures.value (c.run_quiet-quiet.ensures.runs first sure shows)) in
      subst (λ (order : List (ℕ × ℕ)). Loaded G c.args.transfers (call before c.tell.new.outside order c.tell.result) (Some new)) (sym (ap order_told c.filled.ensures ∙ c.order.ensures.order))
      (loaded G g.met.W.Outside.fewer_later g.met.W.Outside.printed_now c.args.transfers job c.requires.load before start between desk new c.in-Ok.ensures.made.opened c.in-Ok.ensures.asks c.in-Ok.ensures.made.new.programs_are (ap (λ (fixed : Fixed). fixed.programs) c.run_quiet-quiet.ensures.answered.tells.fixed) (ap (λ (fixed : Fixed). fixed.opened) c.run_quiet-quiet.ensures.answered.tells.fixed) c.in-Ok.ensures.unfailed
      (λ told. (c.in-Ok.ensures.made.told told).1) last c.run_quiet-quiet.ensures.calls c.run_quiet-quiet.ensures.answered.told quiet runs c.tell.new.outside c.tell.result c.tell.ensures);
  ends =
      let ran = c.run_quiet-quiet in
      let few : length c.deref.result.now ≡ length c.args.job.events.items = ap (λ (these : List Event). length these) c.deref.ensures.value in
      record {
        handed = search rules;
        fits = record { bytes = still-holds g.W.Outside c.run_quiet-quiet.new.desk.store.header c.args.transfers c.run_quiet-quiet.result c.as_slice.result.now c.run_quiet-quiet.new.outside c.tell.new.outside c.tell.result c.tell.ensures ran.ensures.answered.bytes; turns = omega (arith, ran.ensures.answered.tells.turns, count_by-le-length is_turn c.deref.result.now, few, c.requires.ready.few, c.in-Ok.ensures.made.new.no_turns) };
        faults = faults_told g.W.Outside c.args.transfers c.as_slice.result.now c.args.outside.now c.open.new.outside ran.new.outside c.tell.new.outside c.in-Ok.session ran.new.desk c.in-Ok.ensures.asks ran.ensures.calls c.in-Ok.ensures.made.new.still_open
            ran.result ran.ensures.goes c.tell.result c.tell.ensures;
        only = search rules;
      };
}

pub run_quiet-quiet-requires-clause-ready : goal.run_quiet-quiet-requires-clause-ready
run_quiet-quiet-requires-clause-ready g c = ready-to-run g.W.Outside c.args.job c.in-Ok.session c.open.new.outside c.args.begins c.deref.result.now c.deref.ensures.value c.requires.begins c.requires.ready c.in-Ok.ensures.made.new c.in-Ok.ensures.made.room

pub run_quiet-quiet-requires-clause-lasting : goal.run_quiet-quiet-requires-clause-lasting
run_quiet-quiet-requires-clause-lasting g c =
    subst (λ (these : List Event). All IsLasting these) (sym (c.deref.ensures.value ∙ c.requires.load.events)) (lasting c.args.transfers)

pub filled-requires-clause-room : goal.filled-requires-clause-room
filled-requires-clause-room g c =
    let ran = c.run_quiet-quiet in
    let few : length c.order.result.now ≤ c.in-Ok.session.begins = subst (λ (fixed : Fixed). length c.order.result.now ≤ fixed.begins) ran.ensures.answered.tells.fixed c.order.ensures.few in
    omega (arith, few, c.in-Ok.ensures.made.new.begins_are, c.requires.room)
