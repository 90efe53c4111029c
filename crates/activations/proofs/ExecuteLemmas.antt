-- An attempt in a seat that is selected, and rows that take effect one after another.
use Rattle.activations.proofs.Common.{◌≡◌, refl, ℕ, ◌<◌, ◌==◌, true, List, [], ◌∷◌, ◌++◌, length, replicate, slice_set, slice_index_or, arith, ap, sym, ◌∙◌, subst, length-append, length-set, length-replicate, set-get_or, get_or_default, has, byte_count, Cpu, IsOfFewBytes, IsClean, Reach, registers_of_program, private_segment, HasWindows, GoesOpen, IsRow, GivesRows, ChangesBytes, StaysClean, LeavesSeats, plain_over, taken-below, Live, Activity, live_in, program_in, nothing_runs, IsActivitySound, executed, HasExecuted, IsSeatSelected, TookEffect, WasAttempted, printed_after, attempted, suc, ◌+◌, find, Option, Some, None, option_map, Outcome, row, Program, Desk, Active, DiskWord, Counts, Going, instruction, turns, told-found, Seat, Seating, sitter, number_in, went_on, seat-of-taken, entry_in, entries, desk_over, Strode, CameTo, plain_in, KeepsDesk, counted, RowGoesOn, Strides, ◌⊎◌, inl, inr, KeepsParts, RunsAt, StrodeTo, with_live, set-set, Turning, Want, Authority, StaysSeated, GoesUncounted, IsServed, AreLowered, pages_lowered, with_entries, nat_tests, Commit, IsState, over_all, store_over, state_in, shown, instruction_in, IsAtCommit}
use Rattle.romp_cpu.specs.declared.cpu.Attempt.{Attempt}
use Rattle.activations.proofs.SittingLemmas.{live-there, sound-reseated, entry-counted, number-counted, counted-more, sitter-there, sitter-other, state-shows, sound-live}
use Rattle.activations.proofs.RowLemmas.{goes-on}
use Rattle.activations.proofs.KeptLemmas.{keeps-itself, keeps-two, keeps-took}
use Rattle.activations.proofs.CommitLemmas.{ends}

module _ (a : Activity) (seat : ℕ) (sound : IsActivitySound a) (taken : has a.seating.taken seat ≡ true) where
  pub within : seat < length a.live
  within = omega (arith, sound.live, taken-below a.seating sound.seating seat taken)

  -- what is read there runs there
  pub runs-there : (live : Live) (at : ℕ) → at ≡ seat → live ≡ slice_index_or a.live at live → live ≡ live_in a seat
  runs-there live at here is = is ∙ ap (λ (n : ℕ). slice_index_or a.live n live) here ∙ get_or_default a.live seat live nothing_runs within

  module _ (selected : IsSeatSelected a seat) where
    -- what the attempt of its processor came to, is the row of its program
    pub row-seen : (attempt : Attempt) (after : Cpu) (new : Reach) → GivesRows attempt (live_in a seat).cpu after a.reach new
        → (committed : List ℕ) → length committed ≡ byte_count a.reach.directory
        → IsRow (program_in a seat) committed (live_in a seat).out attempt (live_in a seat).cpu after a.reach new
    row-seen attempt after new gives committed long =
        let set_up = sound.set_up seat taken in
        gives (program_in a seat) committed (live_in a seat).out windows long set_up.printed set_up.few
      where
        windows : HasWindows a.reach (program_in a seat)
        windows = record {
          selected = let e = selected.runner in omega (arith, e);
          registers = selected.registers ∙ (sound.set_up seat taken).registers
              ∙ ap (λ (n : ℕ). registers_of_program (program_in a seat) a.reach.directory (private_segment n)) (let e = selected.runner in omega (arith, e));
        }

    -- so there is room for a byte that it prints
    pub room-to-print : (byte : ℕ) (after : Cpu) (new : Reach) → GivesRows (Attempt.Print byte) (live_in a seat).cpu after a.reach new → length (live_in a seat).out < 4096
    room-to-print byte after new gives =
        let few = (row-seen (Attempt.Print byte) after new gives (replicate (byte_count a.reach.directory) 0) (length-replicate (byte_count a.reach.directory) 0)).few in
        omega (arith, few, length-append (live_in a seat).out (byte ∷ []))

    -- a row that took effect
    module _ (live : Live) (new : Reach) (changes : ChangesBytes a.reach new) (clean : StaysClean a.reach new) (leaves : LeavesSeats a.reach new)
        (registers : live.registers ≡ (live_in a seat).registers)
        (goes : (committed : List ℕ) → length committed ≡ byte_count a.reach.directory
        → GoesOpen (program_in a seat) a.reach new (plain_over committed (live_in a seat).cpu a.reach (live_in a seat).out) (plain_over committed live.cpu new live.out) live.cpu) where
      abbrev ran : Activity
      ran = record a { live = slice_set a.live seat live; reach = new }

      there : live_in ran seat ≡ live
      there = live-there a.live seat live within

      shape : ran ≡ executed a seat live new.pool.bytes new.pool.marked
      shape i = record a { live = slice_set a.live seat live; reach = changes i }

      pub took-effect : TookEffect a seat ran
      took-effect = record {
        shape = shape ∙ sym (ap (λ (l : Live). executed a seat l new.pool.bytes new.pool.marked) there);
        went = λ committed long is_clean. subst (λ (l : Live). HasExecuted a seat l new.pool.bytes new.pool.marked committed) (sym there) (record {
          goes = subst (λ (r : Reach). GoesOpen (program_in a seat) a.reach r (plain_over committed (live_in a seat).cpu a.reach (live_in a seat).out) (plain_over committed live.cpu r live.out) live.cpu) changes (goes committed long);
          clean = subst (λ (r : Reach). IsClean a.reach.directory r.pool committed) changes (subst (λ (r : Reach). IsClean r.directory new.pool committed) changes (clean committed long is_clean));
          seats = subst (LeavesSeats a.reach) changes leaves;
        });
      }

      pub sound-after : IsActivitySound ran
      sound-after =
          let one = goes (replicate (byte_count a.reach.directory) 0) (length-replicate (byte_count a.reach.directory) 0) in
          subst IsActivitySound (sym shape) (sound-live a seat live new.pool.bytes new.pool.marked sound (λ inside. (registers, one.printed, one.few)))

    -- it changed nothing
    unchanged : (cpu : Cpu) (new : Reach) → cpu ≡ (live_in a seat).cpu → new ≡ a.reach
        → record a { live = slice_set a.live seat (record (live_in a seat) { cpu = cpu }); reach = new } ≡ a
    unchanged cpu new same stays i = record a { live = (ap (λ (c : Cpu). slice_set a.live seat (record (live_in a seat) { cpu = c })) same ∙ set-get_or a.live seat nothing_runs) i; reach = stays i }

    abbrev zeros : List ℕ
    zeros = replicate (byte_count a.reach.directory) 0

    -- what the attempt came to, for the desk
    pub was-attempted : (attempt : Attempt) (cpu : Cpu) (new : Reach) → GivesRows attempt (live_in a seat).cpu cpu a.reach new → ChangesBytes a.reach new → StaysClean a.reach new → LeavesSeats a.reach new → IsOfFewBytes attempt
        → IsActivitySound (attempted a seat attempt cpu new) × WasAttempted attempt a seat (attempted a seat attempt cpu new)
    was-attempted Attempt.Went cpu new gives changes clean leaves few =
        let live : Live = record (live_in a seat) { cpu = cpu } in
        (sound-after live new changes clean leaves refl (row-seen Attempt.Went cpu new gives), took-effect live new changes clean leaves refl (row-seen Attempt.Went cpu new gives))
    was-attempted (Attempt.Print byte) cpu new gives changes clean leaves few =
        let live : Live = record (live_in a seat) { cpu = cpu; out = (live_in a seat).out ++ byte ∷ [] } in
        (sound-after live new changes clean leaves refl (row-seen (Attempt.Print byte) cpu new gives), took-effect live new changes clean leaves refl (row-seen (Attempt.Print byte) cpu new gives))
    was-attempted Attempt.Commit cpu new gives changes clean leaves few =
        let stays = (row-seen Attempt.Commit cpu new gives zeros (length-replicate (byte_count a.reach.directory) 0)).1 in
        let same = unchanged cpu new stays.0 stays.1 in
        (subst IsActivitySound (sym same) sound, (same, (λ committed long. (row-seen Attempt.Commit cpu new gives committed long).0)))
    was-attempted (Attempt.Check code) cpu new gives changes clean leaves few =
        let stays = (row-seen (Attempt.Check code) cpu new gives zeros (length-replicate (byte_count a.reach.directory) 0)).1 in
        let same = unchanged cpu new stays.0 stays.1 in
        (subst IsActivitySound (sym same) sound, (same, (λ committed long. (row-seen (Attempt.Check code) cpu new gives committed long).0)))
    was-attempted (Attempt.Fault fault access) cpu new gives changes clean leaves few =
        let stays = (row-seen (Attempt.Fault fault access) cpu new gives zeros (length-replicate (byte_count a.reach.directory) 0)).1 in
        let same = unchanged cpu new stays.0 stays.1 in
        (subst IsActivitySound (sym same) sound, (same, record { some = few.0; few = few.1; shut = λ committed long. (row-seen (Attempt.Fault fault access) cpu new gives committed long).0 }))

    -- as the calls leave it
    pub attempted-so : (attempt : Attempt) (was : Live) (cpu : Cpu) (new : Reach) (out : List ℕ) (at : ℕ) → was ≡ live_in a seat → printed_after attempt was.out ≡ out → at ≡ seat
        → GivesRows attempt was.cpu cpu a.reach new → ChangesBytes a.reach new → StaysClean a.reach new → LeavesSeats a.reach new → IsOfFewBytes attempt
        → IsActivitySound (record a { live = slice_set a.live at (record { cpu = cpu; registers = was.registers; out = out }); reach = new })
        × WasAttempted attempt a seat (record a { live = slice_set a.live at (record { cpu = cpu; registers = was.registers; out = out }); reach = new })
    attempted-so attempt was cpu new out at is printed here gives changes clean leaves few =
        subst (λ (after : Activity). IsActivitySound after × WasAttempted attempt a seat after) path
        (was-attempted attempt cpu new (subst (λ (l : Live). GivesRows attempt l.cpu cpu a.reach new) is gives) changes clean leaves few)
      where
        outs : printed_after attempt (live_in a seat).out ≡ out
        outs = ap (λ (l : Live). printed_after attempt l.out) (sym is) ∙ printed

        path : attempted a seat attempt cpu new ≡ record a { live = slice_set a.live at (record { cpu = cpu; registers = was.registers; out = out }); reach = new }
        path i = record a { live = slice_set a.live (sym here i) (record { cpu = cpu; registers = (sym is i).registers; out = outs i }); reach = new }

-- nothing is printed by any other
pub not-printed : (attempt : Attempt) (out : List ℕ) → ((byte : ℕ) → attempt ≡ Attempt.Print byte → ⊥) → printed_after attempt out ≡ out
not-printed Attempt.Went out other = refl
not-printed (Attempt.Print byte) out other = absurd (other byte refl)
not-printed Attempt.Commit out other = refl
not-printed (Attempt.Check code) out other = refl
not-printed (Attempt.Fault fault access) out other = refl

-- one row more, over so many that aren't counted yet
pub strides : (a : Activity) (seat rows : ℕ) (live : Live) (bytes : List ℕ) (marked : List (List ℕ)) (committed : List ℕ) → IsActivitySound (counted a seat rows) → has a.seating.taken seat ≡ true → a.reach.runner ≡ seat + 1
    → length a.seating.sitters ≡ 16
    → KeepsDesk (counted a seat rows) committed → HasExecuted a seat live bytes marked committed → Strides a seat rows live bytes marked committed
strides a seat rows live bytes marked committed sound taken runner sixteen follows went = record {
  is_instruction = λ word order counts. goes.is_instruction word order counts ∙ ap (λ (next : Activity). Going (desk_over next committed order) (record counts { ran = counts.ran + 1 })) more;
  follows = subst (λ (next : Activity). KeepsDesk next committed) more goes.follows;
}
  where
    program-same : program_in a seat ≡ program_in (counted a seat rows) seat
    program-same = sym (ap (λ (e : Active). e.runs.program) (entry-counted a seat rows sixteen (taken-below (counted a seat rows).seating sound.seating seat taken)))

    goes : RowGoesOn (counted a seat rows) seat live bytes marked committed
    goes = goes-on (counted a seat rows) seat live bytes marked committed sound taken runner follows (record {
      goes = subst (λ (program : Program). GoesOpen program a.reach (executed a seat live bytes marked).reach (plain_over committed (live_in a seat).cpu a.reach (live_in a seat).out) (plain_over committed live.cpu (executed a seat live bytes marked).reach live.out) live.cpu) program-same went.goes;
      clean = went.clean;
      seats = went.seats;
    })

    more : counted (executed (counted a seat rows) seat live bytes marked) seat 1 ≡ counted (executed a seat live bytes marked) seat (rows + 1)
    more = counted-more (executed a seat live bytes marked) seat rows sixteen (taken-below (counted a seat rows).seating sound.seating seat taken)

module _ (a : Activity) (seat rows : ℕ) (sound : IsActivitySound a) (taken : has a.seating.taken seat ≡ true) where
  below : seat < 16
  below = taken-below a.seating sound.seating seat taken

  abbrev who : Seat
  who = record (sitter a.seating seat) { rows = (sitter a.seating seat).rows + rows; waits = None }

  -- rows that are counted
  pub sound-counted : IsActivitySound (counted a seat rows)
  sound-counted = sound-reseated a seat who sound taken refl refl (λ request none. absurd (cc (none))) (λ request none. absurd (cc (none)))

  -- the entry of who sits there is found by its number
  pub found-counted : find (λ (entry : Active). entry.number == number_in a.seating seat) (entries (counted a seat rows)) ≡ Some (entry_in (counted a seat rows) seat)
  found-counted = told-found a.seating.taken (entry_in (counted a seat rows)) (number_in a.seating seat)
      ∙ ap (λ (n : ℕ). option_map (entry_in (counted a seat rows)) (find (λ at. number_in (went_on a.seating seat rows) at == n) a.seating.taken)) (sym (number-counted a seat rows sound.seating.sixteen below seat))
      ∙ ap (option_map (entry_in (counted a seat rows))) (seat-of-taken (went_on a.seating seat rows) sound-counted.seating seat taken)

-- an instruction of a turn that goes on
turns-on : (word : DiskWord) (number left : ℕ) (desk later : Desk) (counts after : Counts) (entry : Active)
    → find (λ (entry : Active). entry.number == number) desk.active ≡ Some entry → instruction word (Some entry) desk counts ≡ Going later after
    → turns word number (suc left) (Going desk counts) ≡ turns word number left (Going later after)
unfolding turns
turns-on word number left desk later counts after entry found on =
    ap (λ (one : Option Active). turns word number left (instruction word one desk counts)) found ∙ ap (turns word number left) on

-- no row is a stride of none
pub strode-none : (a : Activity) (seat : ℕ) → Strode a seat 0 a
strode-none a seat = record {
  seating = refl;
  follows = λ committed before follows. subst (λ (n : ℕ). KeepsDesk (counted a seat n) committed) (more before) follows;
  turns = λ word committed order before left counts follows i.
      turns word (number_in a.seating seat) (none left i) (Going (desk_over (counted a seat (more before i)) committed order) (record counts { ran = more counts.ran i }));
}
  where
    none : (left : ℕ) → 0 + left ≡ left
    none left = omega arith

    more : (n : ℕ) → n ≡ n + 0
    more n = omega arith

-- a row that took effect is a stride of one
pub one-strode : (a after : Activity) (seat : ℕ) → IsActivitySound a → has a.seating.taken seat ≡ true → IsSeatSelected a seat → TookEffect a seat after → Strode a seat 1 after
one-strode a after seat sound taken selected took = record {
  seating = ap (λ (x : Activity). x.seating) took.shape;
  follows = λ committed before follows. subst (λ (x : Activity). KeepsDesk (counted x seat (before + 1)) committed) (sym took.shape) (step committed before follows).follows;
  turns = λ word committed order before left counts follows.
      ap (λ (n : ℕ). turns word (number_in a.seating seat) n (Going (desk_over (counted a seat before) committed order) counts)) (omega arith)
      ∙ turns-on word (number_in a.seating seat) left _ _ counts _ (entry_in (counted a seat before) seat) (found-counted a seat before sound taken)
      ((step committed before follows).is_instruction word order counts ∙ ap (λ (x : Activity). Going (desk_over (counted x seat (before + 1)) committed order) (record counts { ran = counts.ran + 1 })) (sym took.shape));
}
  where
    step : (committed : List ℕ) (before : ℕ) → KeepsDesk (counted a seat before) committed → Strides a seat before (live_in after seat) after.reach.pool.bytes after.reach.pool.marked committed
    step committed before follows =
        strides a seat before (live_in after seat) after.reach.pool.bytes after.reach.pool.marked committed (sound-counted a seat before sound taken) taken selected.runner sound.seating.sixteen follows
        (took.went committed follows.kept.long follows.kept.clean)

-- and one after the other
pub strode-on : (a middle after : Activity) (seat rows : ℕ) → Strode a seat rows middle → Strode middle seat 1 after → Strode a seat (rows + 1) after
strode-on a middle after seat rows first second = record {
  seating = second.seating ∙ first.seating;
  follows = λ committed before follows. subst (λ (n : ℕ). KeepsDesk (counted after seat n) committed) (sum before) (second.follows committed (before + rows) (first.follows committed before follows));
  turns = λ word committed order before left counts follows.
      ap (λ (n : ℕ). turns word (number_in a.seating seat) n (Going (desk_over (counted a seat before) committed order) counts)) (later left)
      ∙ first.turns word committed order before (1 + left) counts follows
      ∙ ap (λ (n : ℕ). turns word n (1 + left) (Going (desk_over (counted middle seat (before + rows)) committed order) (record counts { ran = counts.ran + rows }))) (sym same)
      ∙ second.turns word committed order (before + rows) left (record counts { ran = counts.ran + rows }) (first.follows committed before follows)
      ∙ (λ i. turns word (same i) left (Going (desk_over (counted after seat (sum before i)) committed order) (record counts { ran = sum counts.ran i })));
}
  where
    same : number_in middle.seating seat ≡ number_in a.seating seat
    same = ap (λ (s : Seating). number_in s seat) first.seating

    sum : (n : ℕ) → n + rows + 1 ≡ n + (rows + 1)
    sum n = omega arith

    later : (left : ℕ) → rows + 1 + left ≡ rows + (1 + left)
    later left = omega arith

-- a stride goes on over a row that took effect
pub strode-more : (first a after : Activity) (seat rows : ℕ) → IsActivitySound a → has a.seating.taken seat ≡ true → IsSeatSelected a seat → Strode first seat rows a → IsActivitySound after → TookEffect a seat after
    → (has after.seating.taken seat ≡ true) × IsSeatSelected after seat × Strode first seat (rows + 1) after
strode-more first a after seat rows sound taken selected strode later took = (
  ap (λ (x : Activity). has x.seating.taken seat) took.shape ∙ taken,
  record {
    runner = ap (λ (x : Activity). x.reach.runner) took.shape ∙ selected.runner;
    registers =
        ap (λ (x : Activity). x.reach.registers) took.shape ∙ selected.registers ∙ (sound.set_up seat taken).registers
        ∙ sym ((later.set_up seat (ap (λ (x : Activity). has x.seating.taken seat) took.shape ∙ taken)).registers
        ∙ ap (λ (x : Activity). registers_of_program (program_in x seat) x.reach.directory (private_segment seat)) took.shape);
  },
  strode-on first a after seat rows strode (one-strode a after seat sound taken selected took),
)

-- a row that came to this and changed nothing comes to this still
pub came-still : (outcome : Outcome) (a after : Activity) (seat : ℕ) → CameTo outcome a seat after → (committed : List ℕ) → length committed ≡ byte_count after.reach.directory
    → row (program_in after seat) after.reach.directory (plain_in after seat committed) ≡ outcome
came-still outcome a after seat came =
    subst (λ (x : Activity). (committed : List ℕ) → length committed ≡ byte_count x.reach.directory → row (program_in x seat) x.reach.directory (plain_in x seat committed) ≡ outcome) (sym came.0) came.1

module _ (a : Activity) (seat : ℕ) (reach : Reach) (live : Live) (at : RunsAt a seat reach live) where
  -- what runs there, in its place
  pub itself : with_live a seat live reach ≡ a
  itself i = record a { live = (ap (slice_set a.live seat) (sym at.runs) ∙ set-get_or a.live seat nothing_runs) i; reach = sym at.reached i }

  pub none-yet : StrodeTo a seat 0 live reach
  none-yet = record {
    runs = subst (λ (x : Activity). RunsAt x seat reach live) (sym itself) at;
    strode = subst (λ (x : Activity). Strode a seat 0 x) (sym itself) (strode-none a seat);
    parts = subst (λ (x : Activity). KeepsParts a x 0) (sym itself) (keeps-itself a);
  }

  pub room : (byte : ℕ) (cpu : Cpu) (new : Reach) → GivesRows (Attempt.Print byte) live.cpu cpu reach new → length live.out < 4096
  room byte cpu new gives = subst (λ (l : Live). length l.out < 4096) at.runs
      (room-to-print a seat at.sound at.taken at.selected byte cpu new
      (subst (λ (l : Live). GivesRows (Attempt.Print byte) l.cpu cpu a.reach new) (sym at.runs) (subst (λ (r : Reach). GivesRows (Attempt.Print byte) live.cpu cpu r new) (sym at.reached) gives)))

  -- what an attempt came to
  pub attempted-at : (attempt : Attempt) (cpu : Cpu) (new : Reach) (out : List ℕ) → printed_after attempt live.out ≡ out
      → GivesRows attempt live.cpu cpu reach new → ChangesBytes reach new → StaysClean reach new → LeavesSeats reach new → IsOfFewBytes attempt
      → IsActivitySound (with_live a seat (record live { cpu = cpu; out = out }) new) × WasAttempted attempt a seat (with_live a seat (record live { cpu = cpu; out = out }) new)
  attempted-at attempt cpu new out printed gives changes clean leaves few =
      let back = sym at.reached in
      attempted-so a seat at.sound at.taken at.selected attempt live cpu new out seat (sym at.runs) printed refl
      (subst (λ (r : Reach). GivesRows attempt live.cpu cpu r new) back gives) (subst (λ (r : Reach). ChangesBytes r new) back changes)
      (subst (λ (r : Reach). StaysClean r new) back clean) (subst (λ (r : Reach). LeavesSeats r new) back leaves) few

-- a row more
module _ (a : Activity) (seat rows : ℕ) (live next : Live) (reach new : Reach) (so : StrodeTo a seat rows live reach) where
  again : with_live (with_live a seat live reach) seat next new ≡ with_live a seat next new
  again i = record a { live = set-set a.live seat live next i; reach = new }

  pub attempted-again : (attempt : Attempt) → WasAttempted attempt (with_live a seat live reach) seat (with_live (with_live a seat live reach) seat next new) → WasAttempted attempt (with_live a seat live reach) seat (with_live a seat next new)
  attempted-again attempt = subst (WasAttempted attempt (with_live a seat live reach) seat) again

  pub strode-one : IsActivitySound (with_live (with_live a seat live reach) seat next new) → TookEffect (with_live a seat live reach) seat (with_live (with_live a seat live reach) seat next new)
      → StrodeTo a seat (rows + 1) next new
  strode-one sound took =
      let before = with_live a seat live reach in let after = with_live a seat next new in
      let later : IsActivitySound after = subst IsActivitySound again sound in
      let effect : TookEffect before seat after = subst (TookEffect before seat) again took in
      let more = strode-more a before after seat rows so.runs.sound so.runs.taken so.runs.selected so.strode later effect in
      record {
        runs = record {
          sound = later;
          taken = more.0;
          selected = more.1;
          reached = refl;
          runs = live-there a.live seat next (subst (λ n. seat < n) (length-set a.live seat live) (within before seat so.runs.sound so.runs.taken));
        };
        strode = more.2;
        parts = keeps-two a before after so.parts (keeps-took before after seat effect);
      }

  -- or a row that changed nothing
  pub strode-same : with_live a seat next new ≡ with_live a seat live reach → StrodeTo a seat rows next new
  strode-same same = record {
    runs = record {
      sound = subst IsActivitySound (sym same) so.runs.sound;
      taken = subst (λ (x : Activity). has x.seating.taken seat ≡ true) (sym same) so.runs.taken;
      selected = subst (λ (x : Activity). IsSeatSelected x seat) (sym same) so.runs.selected;
      reached = refl;
      runs = live-there a.live seat next (subst (λ n. seat < n) (length-set a.live seat live) (within (with_live a seat live reach) seat so.runs.sound so.runs.taken));
    };
    strode = subst (Strode a seat rows) (sym same) so.strode;
    parts = subst (λ (x : Activity). KeepsParts a x 0) (sym same) so.parts;
  }

  -- which is what an attempt came to
  pub strode-halted : (attempt : Attempt) → WasAttempted attempt (with_live a seat live reach) seat (with_live (with_live a seat live reach) seat next new)
      → (WasAttempted attempt (with_live a seat live reach) seat (with_live a seat next new) → with_live a seat next new ≡ with_live a seat live reach) → StrodeTo a seat rows next new
  strode-halted attempt went leads = strode-same (leads (attempted-again attempt went))

-- a commit call and a check change nothing
pub came-either : (attempt : Attempt) (a after : Activity) (seat : ℕ) → (attempt ≡ Attempt.Commit) ⊎ ((code : ℕ) × (attempt ≡ Attempt.Check code)) → WasAttempted attempt a seat after → after ≡ a
came-either attempt a after seat (inl is) went = (subst (λ (one : Attempt). WasAttempted one a seat after) is went).0
came-either attempt a after seat (inr (code, is)) went = (subst (λ (one : Attempt). WasAttempted one a seat after) is went).0

-- what is read in a seat that is selected runs there
pub runs-at : (a : Activity) (seat at : ℕ) (live : Live) → IsActivitySound a → has a.seating.taken seat ≡ true → IsSeatSelected a seat → at ≡ seat → live ≡ slice_index_or a.live at live → RunsAt a seat a.reach live
runs-at a seat at live sound taken selected here is = record { sound = sound; taken = taken; selected = selected; reached = refl; runs = sym (runs-there a seat sound taken live at here is) }

-- and what is written there
pub in-place : (a : Activity) (seat at : ℕ) (live : Live) (reach : Reach) → at ≡ seat → with_live a seat live reach ≡ with_live a at live reach
in-place a seat at live reach here i = with_live a (sym here i) live reach

-- rows that are counted, and nothing else
pub keeps-counted : (a : Activity) (seat rows : ℕ) → IsActivitySound a → has a.seating.taken seat ≡ true → KeepsParts a (counted a seat rows) rows
keeps-counted a seat rows sound taken =
    let below : seat < 16 = taken-below a.seating sound.seating seat taken in
    let who : Seat = record (sitter a.seating seat) { rows = (sitter a.seating seat).rows + rows; waits = None } in
    record {
      programs = refl;
      most_lines = refl;
      next = refl;
      directory = refl;
      fewer = omega arith;
      rows = λ bound within at less.
          let own = within seat below in let here = within at less in
          let there = sitter-there a.seating seat who sound.seating.sixteen below in
          let other = sitter-other a.seating seat who at in grind (arith, nat_tests, there, own, here, other);
    }

-- a row that took effect
module _ (begins : DiskWord → Turning) (a after : Activity) (seat : ℕ) (wants : List Want) (committed : List ℕ) (order : List (ℕ × ℕ)) (counts : Counts)
    (served : IsServed begins a seat wants committed order counts) where
  pub took-served : TookEffect a seat after → (eased : List Authority) → AreLowered after seat (pages_lowered after seat wants) after.reach.entries eased
      → GoesUncounted begins (with_entries after eased) seat committed order counts
  took-served took eased lowers =
      subst (λ (x : Activity). GoesUncounted begins (with_entries x eased) seat committed order counts) (sym took.shape)
      (served.goes (live_in after seat) after.reach.pool.bytes after.reach.pool.marked eased (took.went committed served.long served.clean)
      (subst (λ (x : Activity). AreLowered x seat (pages_lowered x seat wants) x.reach.entries eased) took.shape lowers))

-- who sits there stays, and is selected still
pub took-stays : (a ran : Activity) (seat : ℕ) (owned : List Authority) → IsActivitySound a → IsActivitySound ran → has a.seating.taken seat ≡ true → TookEffect a seat ran → StaysSeated a (with_entries ran owned) seat
took-stays a ran seat owned sound later taken took =
    let taken_there : has ran.seating.taken seat ≡ true = ap (λ (x : Activity). has x.seating.taken seat) took.shape ∙ taken in
    record {
      taken = taken_there;
      number = ap (λ (x : Activity). (sitter x.seating seat).number) took.shape;
      selected = λ is. record {
        runner = ap (λ (x : Activity). x.reach.runner) took.shape ∙ is.runner;
        registers = ap (λ (x : Activity). x.reach.registers) took.shape ∙ is.registers ∙ (sound.set_up seat taken).registers
            ∙ sym ((later.set_up seat taken_there).registers ∙ ap (λ (x : Activity). registers_of_program (program_in x seat) x.reach.directory (private_segment seat)) took.shape);
      };
    }

-- whether it printed or not
pub took-either : (attempt : Attempt) (a after : Activity) (seat : ℕ) → (attempt ≡ Attempt.Went) ⊎ ((byte : ℕ) × (attempt ≡ Attempt.Print byte)) → WasAttempted attempt a seat after → TookEffect a seat after
took-either attempt a after seat (inl is) went = subst (λ (one : Attempt). WasAttempted one a seat after) is went
took-either attempt a after seat (inr (byte, is)) went = subst (λ (one : Attempt). WasAttempted one a seat after) is went

module _ (a : Activity) (seat : ℕ) (committed : List ℕ) (order : List (ℕ × ℕ)) (counts : Counts)
    (sound : IsActivitySound a) (taken : has a.seating.taken seat ≡ true) (selected : IsSeatSelected a seat) (follows : KeepsDesk a committed) where
  -- a row that takes effect
  pub row-goes : (after : Activity) → TookEffect a seat after → GoesUncounted (instruction_in a seat committed order counts) after seat committed order counts
  row-goes after took =
      subst (λ (x : Activity). GoesUncounted (instruction_in a seat committed order counts) x seat committed order counts) (sym took.shape)
      (record { comes = λ word reads. goes.is_instruction word order counts; follows = goes.follows })
    where
      goes : RowGoesOn a seat (live_in after seat) after.reach.pool.bytes after.reach.pool.marked committed
      goes = goes-on a seat (live_in after seat) after.reach.pool.bytes after.reach.pool.marked committed sound taken selected.runner follows (took.went committed follows.kept.long follows.kept.clean)

  abbrev state : IsState (store_over a committed) (entry_in a seat) (state_in a seat)
  state = follows.kept.stand seat taken

  -- the commit call
  pub at-commit : (after : Activity) → CameTo Commit a seat after → IsAtCommit (instruction_in a seat committed order counts) after seat committed order counts
  at-commit after came =
      subst (λ (x : Activity). IsAtCommit (instruction_in a seat committed order counts) x seat committed order counts) (sym came.0)
      (record {
        now = over_all (state_in a seat) state.bytes;
        at = state.at;
        goes = call;
        comes = λ word reads. (ends a seat a.reach.pool [] committed (over_all (state_in a seat) state.bytes) sound taken follows state.at call order counts).comes word;
        follows = follows;
      })
    where
      call : row (program_in a seat) a.reach.directory (over_all (over_all (state_in a seat) state.bytes) (shown a committed)) ≡ Commit
      call = ap (row (program_in a seat) a.reach.directory) (state-shows a seat committed state.bytes selected.runner) ∙ came.1 committed follows.kept.long
