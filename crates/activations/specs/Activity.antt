-- What runs side by side, as `Activations` are seen, and the desk that it is over committed bytes.
use Rattle.std.specs.Prelude.{[], refl, ℕ, zero, suc, false, List, length, map, replicate, slice_index_or, None, is_some}
use Rattle.std.proofs.Common.{lit<, lit≤}
use Rattle.activations.specs.Below.{Access, Authority, bytes_over, clear, Desk, Active, first_registers, flat_lines, flat_map, Grant, grant_of, Lines, lines_of_access, lines_wanted, no_lines, of_page, of_seat, owners_told, PageSize, Plain, Pool, private_bytes, Program, range_with_len, Reach, Registers, Seating, sitter, unowned, write_count}
use Rattle.std.specs.Option.{option_map_or}
use Rattle.lines.specs.FlatStore.{FlatStore}
use Rattle.lines.specs.declared.line_geometry.PageSize.TheVariants.{Two}
use Rattle.seats.specs.declared.seat.Seat.{Seat}
use Rattle.activations.specs.declared.live.Live.{Live}

-- the programs that may begin, the lines that a record may have, the next number, who sits where and holds what, what runs in
-- each seat, and the storage that all share
pub record Activity : Type 0 where
  pub programs : List Program
  pub most_lines : ℕ
  pub next : ℕ
  pub seating : Seating
  pub live : List Live
  pub reach : Reach

-- no program, and the program with a place
abbrev pub no_program : Program
no_program =
    record { image = []; entry = 0; windows = replicate 15 None; image_fits = lit≤ tt; entry_fits = lit< tt; entry_is_even = refl }

abbrev pub program_at : List Program → ℕ → Program
program_at programs place = slice_index_or programs place no_program

-- what runs where a program has just begun at an address, with four values in registers 2 to 5
abbrev pub first_live : (entry : ℕ) → (args : List ℕ) → Registers → Live
first_live entry args registers = record { cpu = record { regs = first_registers args; cs = clear; iar = entry; printed = 0 }; registers = registers; out = [] }

-- what runs where nothing runs yet, over pages of a size
abbrev pub nothing_over : PageSize → Live
nothing_over size =
    record { cpu = record { regs = replicate 16 0; cs = clear; iar = 0; printed = 0 }; registers = record { page = size; list = replicate 16 None }; out = [] }

-- what runs where no seat is, and what runs in a seat
abbrev pub nothing_runs : Live
nothing_runs = nothing_over Two

abbrev pub live_in : Activity → ℕ → Live
live_in a seat = slice_index_or a.live seat nothing_runs

-- the entry of one who sits
abbrev pub entry_for : List Program → Seat → Active
entry_for programs who =
    record {
      number = who.number;
      runs = record { program = program_at programs who.program; args = who.args };
      rows = who.rows;
      waiting = is_some who.waits;
    }

-- the entry of who sits in a seat, and its program
abbrev pub entry_in : Activity → ℕ → Active
entry_in a seat = entry_for a.programs (sitter a.seating seat)

abbrev pub program_in : Activity → ℕ → Program
program_in a seat = (entry_in a seat).runs.program

-- the entries of the taken seats, in the order in which they began
abbrev pub entries : Activity → List Active
entries a = map (entry_in a) a.seating.taken

-- the number of who has an identifier: 0 is nobody's
abbrev pub number_under : Activity → ℕ → ℕ
number_under a zero = 0
number_under a (suc seat) = (sitter a.seating seat).number

-- an authority over lines of a page from 0 to 15, over these as flat lines
abbrev pub flat_authority : (page : ℕ) → Grant → Grant
flat_authority page authority = record authority { lines = flat_lines page authority.lines }

-- what the entry of a page grants, in flat lines, under the identifier that owns it
abbrev pub authority_at : List Authority → (page : ℕ) → Grant
authority_at owned page = flat_authority page (grant_of (slice_index_or owned page unowned))

-- the authority of each page, under the identifiers of seats, and under the numbers of those who sit there
abbrev pub authority_under : List Authority → List Grant
authority_under owned = map (authority_at owned) (range_with_len 0 (length owned))

abbrev pub authority_told : Activity → List Grant
authority_told a = owners_told (number_under a) (authority_under a.reach.entries)

-- the committed store
abbrev pub store_over : Activity → (committed : List ℕ) → FlatStore
store_over a committed = record { directory = a.reach.directory; bytes = committed }

-- the desk over committed bytes, with the commits so far
abbrev pub desk_over : Activity → (committed : List ℕ) → (order : List (ℕ × ℕ)) → Desk
desk_over a committed order =
    record {
      frames = a.reach.pool.frames;
      most_active = 16;
      most_lines = a.most_lines;
      committed = store_over a committed;
      order = order;
      active = entries a;
      authority = authority_told a;
      resident = a.reach.pool.resident;
      next = a.next;
      closed = false;
    }

-- what is held, page by page, as flat lines
abbrev pub lines_held : List (List ℕ × List ℕ) → Lines
lines_held pages =
    record {
      reads = flat_map (λ page. flat_lines page (of_page pages page).0) (range_with_len 0 (length pages));
      writes = flat_map (λ page. flat_lines page (of_page pages page).1) (range_with_len 0 (length pages));
    }

-- what is held in a seat
abbrev pub locks_in : Activity → ℕ → Lines
locks_in a seat = lines_held (of_seat a.seating.holding seat)

-- how many lines are held in a seat to write
abbrev pub held_to_write : Activity → ℕ → ℕ
held_to_write a seat = write_count (of_seat a.seating.holding seat)

-- the lines of the store that an access in a seat touches
abbrev pub lines_accessed : Activity → (seat : ℕ) → Access → Lines
lines_accessed a seat access = lines_of_access (program_in a seat) a.reach.directory access

-- what one waits for, and what is waited for in a seat
abbrev pub request_for : Seat → Lines
request_for who = option_map_or (λ request. lines_wanted request.wants.items) who.waits no_lines

abbrev pub request_in : Activity → ℕ → Lines
request_in a seat = request_for (sitter a.seating seat)

-- the plain state in a seat, but for the bytes of the store
abbrev pub state_for : Pool → (seat : ℕ) → Live → Plain
state_for pool seat live =
    record {
      regs = live.cpu.regs;
      cs = live.cpu.cs;
      iar = live.cpu.iar;
      private = private_bytes pool seat;
      store = [];
      out = live.out;
    }

abbrev pub state_in : Activity → ℕ → Plain
state_in a seat = state_for a.reach.pool seat (live_in a seat)

-- the bytes of the store as all see them together, over committed ones
abbrev pub shown : Activity → (committed : List ℕ) → List ℕ
shown a committed = bytes_over a.reach.directory a.reach.pool committed
