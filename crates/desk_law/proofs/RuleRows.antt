-- For each rule of locks a run that breaks once it is taken away. The store has one page. The programs that run get an address in register 2 and a
-- value in register 3, and what one reads is in its register 4.
use Rattle.desk_law.proofs.Common.{◌≡◌, refl, ℕ, ◌≤◌, ◌==◌, true, false, List, [], ◌∷◌, length, replicate, slice_index, Option, Some, None, option_map_or, sym, ◌∙◌, ap, inl, inr, both_ways, eq-eqb, FlatStore, IsWholeStore, Program, Plain, after, conflicts, Begin, Turn, Event, Desk, Active, opened, requested, due_to, conflicts_of, DiskWord, Fine, IsAmong, Machine, opening_memory, lit<, lit≤, Asking, RunState, run_by, RunsAreIsolatedBy}
unfoldable use Rattle.desk.proofs.Common.{row_numbered}
use Rattle.lines.specs.declared.line_geometry.PageSize.TheVariants.{Four, Two}
unfoldable use Rattle.desk_law.specs.Asking.{asked_instruction, turns_by}
use Rattle.desk_law.specs.Rules.{conflicting, without_whole_pages, without_bits_off, without_read_meets_write, without_write_meets_read, without_kept_reads, IsolationRestsOnRules}

-- a program with one window under register 1
abbrev program : (image : List ℕ) → length image ≤ 16384 → Program
program image fits =
    record {
      image = image;
      entry = 0;
      windows = Some (record { segment = 1; write = true }) ∷ replicate 14 None;
      image_fits = fits;
      entry_fits = lit< tt;
      entry_is_even = refl;
    }

-- stores its value at its address, and commits
abbrev writes : Program
writes = program (221 ∷ 50 ∷ 0 ∷ 0 ∷ 192 ∷ 0 ∷ 0 ∷ 0 ∷ []) (lit≤ tt)

-- loads what is at its address, and commits
abbrev reads : Program
reads = program (205 ∷ 66 ∷ 0 ∷ 0 ∷ 192 ∷ 0 ∷ 0 ∷ 0 ∷ []) (lit≤ tt)

-- stores its value 256 bytes on, on another line, and loads what is at its address
abbrev writes_beside : Program
writes_beside = program (221 ∷ 50 ∷ 1 ∷ 0 ∷ 205 ∷ 66 ∷ 0 ∷ 0 ∷ 192 ∷ 0 ∷ 0 ∷ 0 ∷ []) (lit≤ tt)

-- stores its value 256 bytes on, and then at its address
abbrev writes_both : Program
writes_both = program (221 ∷ 50 ∷ 1 ∷ 0 ∷ 221 ∷ 50 ∷ 0 ∷ 0 ∷ 192 ∷ 0 ∷ 0 ∷ 0 ∷ []) (lit≤ tt)

abbrev programs : List Program
programs = writes ∷ reads ∷ writes_beside ∷ writes_both ∷ []

-- a begin of a program at the first byte of segment 1, with a value
abbrev begins : (program value : ℕ) → Event × DiskWord
begins program value = (Begin program (268435456 ∷ value ∷ 0 ∷ 0 ∷ []), Fine)

-- an active entry of a program with its value, after so many rows
abbrev active : (number : ℕ) → Program → (value rows : ℕ) → Active
active number code value rows = record { number = number; runs = record { program = code; args = 268435456 ∷ value ∷ 0 ∷ 0 ∷ [] }; rows = rows; waiting = false }

-- a plain page of 2,048 bytes, and a fine one of 4,096
abbrev plain : FlatStore
plain = record { directory = record { page = Two; segments = (1, 1) ∷ []; fine = 0 }; bytes = replicate 2048 0 }

abbrev fine : FlatStore
fine = record { directory = record { page = Four; segments = (1, 1) ∷ []; fine = 1 }; bytes = replicate 4096 0 }

-- register 4 of a machine, and of an entry alone
abbrev beside : Option Machine → ℕ
beside machine = option_map_or (λ (machine : Machine). slice_index machine.state.regs 4) machine 0

abbrev alone : Option Plain → ℕ
alone state = option_map_or (λ (state : Plain). slice_index state.regs 4) state 0

-- a run from an opening with two frames and room for two
abbrev runs : Asking → FlatStore → List (Event × DiskWord) → RunState
runs asking store events = run_by asking [] programs 0 events (opened 2 2 8 store) (opening_memory store)

-- The machine of an active entry has one number in register 4, and the entry alone another: isolation is false.
broken : (asking : Asking) (store : FlatStore) (events : List (Event × DiskWord)) (entry : Active) (one other : ℕ) → RunsAreIsolatedBy asking → IsWholeStore store → IsAmong (runs asking store events).desk.active entry
    → beside ((runs asking store events).memory.machines entry.number) ≡ one
    → alone (after entry.runs.program entry.runs.args (runs asking store events).desk.committed entry.rows) ≡ other → (one == other) ≡ false → ⊥
broken asking store events entry one other law whole here machine_has entry_has differ =
    let own = (law [] programs 0 2 2 8 store events whole (lit≤ tt)).0.alone entry here in
    both_ways (one == other) differ (eq-eqb one other (sym machine_has ∙ ap beside own.is ∙ sym (ap alone own.at) ∙ entry_has))

-- one stored 9 and hasn't committed, and another has stored beside it and then loads there
abbrev stores_beside : List (Event × DiskWord)
stores_beside = begins 0 9 ∷ begins 2 5 ∷ (Turn 1 1, Fine) ∷ (Turn 2 2, Fine) ∷ []

-- The rules as they stand are the desk's.
as-they-stand : (desk : Desk) (entry : Active) → conflicting (λ (at : Desk). requested at.committed) (λ (at : Desk). due_to at.committed) conflicts desk entry ≡ conflicts_of desk entry
as-they-stand desk entry = refl

-- Without the whole page, as without the write bit that goes off, a write bit opens to the second a line that the first has stored: it loads the 9,
-- and alone 0. It does so too where no read meets a write. Where no write meets a read, or a read lock goes with its page, the first has loaded 0, and
-- once the second has committed its 9 alone it loads that. And where the entry of a page stays, the page has an owner who isn't active.
pub rules_needed : IsolationRestsOnRules
unfolding turns_by asked_instruction row_numbered
rules_needed = record {
  whole_pages = λ law. broken without_whole_pages plain stores_beside (active 2 writes_beside 5 2) 9 0 law refl (inr (inl refl)) refl refl refl;
  bits_off = λ law. broken without_bits_off fine stores_beside (active 2 writes_beside 5 2) 9 0 law refl (inr (inl refl)) refl refl refl;
  read_meets_write = λ law. broken without_read_meets_write plain (begins 0 9 ∷ begins 1 0 ∷ (Turn 1 1, Fine) ∷ (Turn 2 1, Fine) ∷ []) (active 2 reads 0 1) 9 0 law refl (inr (inl refl)) refl refl refl;
  write_meets_read = λ law. broken without_write_meets_read plain (begins 1 0 ∷ begins 0 9 ∷ (Turn 1 1, Fine) ∷ (Turn 2 2, Fine) ∷ []) (active 1 reads 0 1) 0 9 law refl (inl refl) refl refl refl;
  kept_reads = λ law. broken without_kept_reads plain (begins 1 0 ∷ begins 3 9 ∷ (Turn 1 1, Fine) ∷ (Turn 2 3, Fine) ∷ []) (active 1 reads 0 1) 0 9 law refl (inl refl) refl refl refl;
  ended_entries = λ law. elim ((law [] programs 0 2 2 8 plain (begins 0 9 ∷ (Turn 1 2, Fine) ∷ []) refl (lit≤ tt)).held.owned 0) [ inl nobodys ↦ absurd (cc) | inr owner ↦ owner.1 ];
}
