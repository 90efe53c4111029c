-- What a begin makes of those that run.
use Rattle.std.specs.Prelude.{[], ◌≡◌, ℕ, ◌+◌, List, Option, Some, None, length, slice_set}
use Rattle.activations.specs.Below.{absent_segment, seat_begun, begun_told, byte_count, Desk, Fine, Header, Layout, made, most_lines, newcomer, next_seat, nobody_sits, opened, page_count, private_segment, Program, registers_of_program, seated, step}
use Rattle.desk.specs.declared.answers.Begun.{Begun}
use Rattle.desk.specs.declared.answers.Begun.TheVariants.{Started, Busy, NoSegment}
use Rattle.desk.specs.declared.event.Event.TheVariants.{Begin}
use Rattle.activations.specs.declared.live.Live.{Live}
use Rattle.activations.specs.Activity.{Activity, first_live, program_at, desk_over}
use Rattle.activations.specs.Follows.{KeepsDesk, OverDesk}

-- nobody runs yet, over a store with this directory and so many frames for its pages
abbrev pub idle : List Program → (most_lines frames : ℕ) → Layout → List Live → Activity
idle programs most_lines frames directory live =
    record { programs = programs; most_lines = most_lines; next = 1; seating = nobody_sits (page_count directory); live = live; reach = made directory frames }

-- it is this desk, to which nothing has been committed yet, and follows it
pub record Begins (a : Activity) (desk : Desk) (committed : List ℕ) : Type 0 where
  pub is_desk : desk_over a committed [] ≡ desk
  pub follows : KeepsDesk a committed

-- nobody runs yet over the store of a header, and over whatever is committed it is a desk that was just opened
pub record HasNobody (a : Activity) (programs : List Program) (header : Header) (frames : ℕ) : Type 0 where
  pub idle : a ≡ idle programs (most_lines header) frames header.directory a.live
  pub first : (committed : List ℕ) → length committed ≡ byte_count header.directory
      → Begins a (opened frames 16 (most_lines header) (record { directory = header.directory; bytes = committed })) committed

-- the next number is given, and all else stays
abbrev pub number_given : Activity → Activity
number_given a = record a { next = a.next + 1 }

-- what runs in a seat where a program has just begun with four values
abbrev pub started : Activity → (program : ℕ) → (args : List ℕ) → (seat : ℕ) → Live
started a program args seat =
    first_live (program_at a.programs program).entry args (registers_of_program (program_at a.programs program) a.reach.directory (private_segment seat))

-- a program has begun in a seat, with the next number
abbrev pub begun_in : Activity → (program : ℕ) → (args : List ℕ) → (seat : ℕ) → Activity
begun_in a program args seat =
    record a {
      next = a.next + 1;
      seating = seated a.seating seat (newcomer a.next program args);
      live = slice_set a.live seat (started a program args seat);
      reach = seat_begun a.reach seat (program_at a.programs program).image;
    }

-- what a begin comes to, and what is left: it is busy where no seat is free, else the first segment of its windows that is
-- absent refuses it, else the program has begun in the next seat
abbrev pub begins_by : (free absent : Option ℕ) → Activity → (program : ℕ) → (args : List ℕ) → Begun × Activity
begins_by None absent a program args = (Busy a.next, number_given a)
begins_by (Some seat) (Some segment) a program args = (NoSegment a.next segment, number_given a)
begins_by (Some seat) None a program args = (Started a.next, begun_in a program args seat)

abbrev pub begin_answer : Activity → (program : ℕ) → (args : List ℕ) → Begun × Activity
begin_answer a program args = begins_by (next_seat a.seating) (absent_segment a.reach.directory (program_at a.programs program).windows) a program args

-- a begin with this answer is the desk's, and what is left follows the desk after it
pub record IsBegin (old new : Activity) (program : ℕ) (args : List ℕ) (answer : Begun) (committed : List ℕ) : Type 0 where
  pub is_step : (order : List (ℕ × ℕ)) → step old.programs (Begin program args) Fine (desk_over old committed order) ≡ record { desk = desk_over new committed order; happening = begun_told program answer }
  pub follows : KeepsDesk new committed

-- a begin came to this answer, left this, and is the desk's
pub record BeginsSo (a : Activity) (program : ℕ) (args : List ℕ) (told : Begun) (now : Activity) : Type 0 where
  pub answer : told ≡ (begin_answer a program args).0
  pub left : now ≡ (begin_answer a program args).1
  pub is_begin : OverDesk a (IsBegin a now program args told)
