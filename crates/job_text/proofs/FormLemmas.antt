-- What is read as a job has the form of one, and a text that has the form of a job is read as it.
use Rattle.job_text.proofs.Common.{◌≡◌, inl, inr, ℕ, ◌+◌, ◌≤◌, nat_lt, if◌then◌else◌, Bool, true, false, List, [], ◌∷◌, ◌++◌, length, map, codes, Option, Some, None, Result, Ok, Err, refl, sym, ap, ◌∙◌, subst, arith, append_assoc, append-nil, length-append, bytes_eq, nat_tests, bytes_eq-Decides, Event, Turn, Checkpoint, Crash, Token, Word, Number, Statement, place_among, is_label, line_meaning, at_line, text_lines, statements_from, tokens, Parts, linked, Stage, Frames, Programs, Source, Schedule, Ended, Content, job_of, last_part, read_from, then_read, Reading, nothing_read, frames_line, programs_line, is_end, is_part, program_ends, source_goes_on, source_line, sources_of, with_event, values_of, begin_of, turn_line, drain_line, single_line, schedule_line, ended_line, by_tokens, line_read, IsBlank, AreBlank, IsOnly, HasSources, IsFramesLine, HasPrograms, IsLimit, IsEventLine, HasEvents, IsJobText, cond_both, le-leb, lt-ltb, false_from_ne_true, then_statements, tokens_read, HaveNoMark, IsProgram}
use Rattle.job_text.proofs.DrainLemmas.{length-rounds_of}
use Rattle.job_text.proofs.GrammarLemmas.{read_line}

-- what a reading says
abbrev content_read : Reading → Content
content_read reading = record { frames = reading.frames; names = reading.names; programs = reading.programs; events = reading.events }

-- lines behind the schedule
record TailLeft (so_far : Content) (lines : List (List ℕ)) (content : Content) : Type 0 where
  same : content ≡ so_far
  tail : List (List ℕ)
  all : lines ≡ tail ++ [] ∷ []
  blanks : AreBlank tail

-- lines from a place in the schedule on
record EventsLeft (so_far : Content) (begins : ℕ) (lines : List (List ℕ)) (content : Content) : Type 0 where
  more : List Event
  few : length (so_far.events ++ more) ≤ 10000
  event_lines : List (List ℕ)
  end_line : List ℕ
  rest : List (List ℕ)
  all : lines ≡ event_lines ++ end_line ∷ rest
  has : HasEvents so_far.names begins event_lines more
  ends : IsOnly (codes "end") end_line
  left : TailLeft (record so_far { events = so_far.events ++ more }) rest content

-- lines from a place between programs on
record ProgramsLeft (so_far : Content) (begins number : ℕ) (lines : List (List ℕ)) (content : Content) : Type 0 where
  names : List (List ℕ)
  programs : List Parts
  few : length (so_far.names ++ names) ≤ 64
  program_lines : List (List ℕ)
  schedule_line : List ℕ
  rest : List (List ℕ)
  all : lines ≡ program_lines ++ schedule_line ∷ rest
  has : HasPrograms so_far.names number names programs program_lines
  schedule : IsOnly (codes "schedule") schedule_line
  left : EventsLeft (record so_far { names = so_far.names ++ names; programs = so_far.programs ++ programs }) begins rest content

-- lines from a place in a source on
record SourceLeft (sources : List (List Statement)) (statements : List Statement) (so_far : Content) (begins number : ℕ) (lines : List (List ℕ)) (content : Content) : Type 0 where
  source : List (List ℕ)
  last : List ℕ
  rest : List (List ℕ)
  all : lines ≡ source ++ last ∷ rest
  more : List Statement
  others : List (List Statement)
  parted : HasSources number source (more ∷ others)
  few : length sources + 1 + length others ≤ 16
  parts : Parts
  makes : linked (sources ++ (statements ++ more) ∷ others) ≡ Ok parts
  ends : IsOnly (codes "end") last
  left : ProgramsLeft (record so_far { programs = so_far.programs ++ parts ∷ [] }) begins (number + length source + 1) rest content

-- lines from a place before the frames on
record FramesLeft (so_far : Content) (begins number : ℕ) (lines : List (List ℕ)) (content : Content) : Type 0 where
  blank : List (List ℕ)
  frames_line : List ℕ
  rest : List (List ℕ)
  frames : ℕ
  all : lines ≡ blank ++ frames_line ∷ rest
  blanks : AreBlank blank
  is : IsFramesLine frames frames_line
  left : ProgramsLeft (record so_far { frames = frames }) begins (number + length blank + 1) rest content

-- what is left of a content after a reading
abbrev Left : Stage → Reading → ℕ → List (List ℕ) → Content → Type 0
Left Frames reading number lines content = FramesLeft (content_read reading) reading.begins number lines content
Left Programs reading number lines content = ProgramsLeft (content_read reading) reading.begins number lines content
Left Source reading number lines content = SourceLeft reading.sources reading.statements (content_read reading) reading.begins number lines content
Left Schedule reading number lines content = EventsLeft (content_read reading) reading.begins lines content
Left Ended reading number lines content = TailLeft (content_read reading) lines content

-- no more programs, events and sources than may be
abbrev IsFew : Reading → Type 0
IsFew reading = (length reading.names ≤ 64) × (length reading.events ≤ 10000) × (length reading.sources ≤ 15)

-- what is left behind a line is what is left from it on
abbrev Back : {E : Type 0} → Stage → Reading → ℕ → List ℕ → List (List ℕ) → Content → Result Reading E → Type 0
Back stage reading number line lines content (Ok new) = (IsFew new → Left new.stage new (number + 1) lines content) → Left stage reading number (line ∷ lines) content
Back stage reading number line lines content (Err fault) = Unit {0}

same_word : (word wanted : List ℕ) → bytes_eq word wanted ≡ true → word ≡ wanted
same_word word wanted is = (bytes_eq-Decides word wanted).0 is

-- `end` alone
pub end_is : (found : Result (List Token) ℕ) → is_end found ≡ true → found ≡ Ok (Word (codes "end") ∷ [])
end_is (Ok (Word word ∷ [])) is = ap (λ these. Ok (Word these ∷ [])) (same_word word (codes "end") is)
end_is _ is = absurd (cc is)

-- `.part` alone
pub part_is : (found : Result (List Token) ℕ) → is_part found ≡ true → found ≡ Ok (Word (codes ".part") ∷ [])
part_is (Ok (Word word ∷ [])) is = ap (λ these. Ok (Word these ∷ [])) (same_word word (codes ".part") is)
part_is _ is = absurd (cc is)

-- behind the schedule
module _ (number : ℕ) (line : List ℕ) (lines : List (List ℕ)) (content : Content) where
  tail_step : (reading : Reading) (found : List Token) → reading.stage ≡ Ended → IsFew reading → tokens line ≡ Ok found → Back Ended reading number line lines content (ended_line reading found)
  tail_step reading [] at few is =
      λ left.
      let behind : TailLeft (content_read reading) lines content = subst (λ (stage : Stage). Left stage reading (number + 1) lines content) at (left few) in
      record { same = behind.same; tail = line ∷ behind.tail; all = ap (λ these. line ∷ these) behind.all; blanks = (is, behind.blanks) }
  tail_step reading _ at few is = tt

-- in the schedule
module _ (number : ℕ) (line : List ℕ) (lines : List (List ℕ)) (content : Content) (reading : Reading) (found : List Token) (at : reading.stage ≡ Schedule) (small : IsFew reading) (is : tokens line ≡ Ok found) where
  abbrev with_events : ℕ → List Event → Reading
  with_events begins here = record reading { begins = begins; events = reading.events ++ here }

  -- the events of this line, and those behind it
  events_more : (begins : ℕ) (here : List Event) → length (reading.events ++ here) ≤ 10000 → IsEventLine reading.names reading.begins begins found here
      → (IsFew (with_events begins here) → Left reading.stage (with_events begins here) (number + 1) lines content) → EventsLeft (content_read reading) reading.begins (line ∷ lines) content
  events_more begins here room means left =
      let behind : EventsLeft (content_read (with_events begins here)) begins lines content = subst (λ (stage : Stage). Left stage (with_events begins here) (number + 1) lines content) at (left (small.0, room, small.2)) in
      record {
        more = here ++ behind.more;
        few = rw append_assoc at behind.few;
        event_lines = line ∷ behind.event_lines;
        end_line = behind.end_line;
        rest = behind.rest;
        all = ap (λ these. line ∷ these) behind.all;
        has = (found, here, behind.more, begins, is, refl, means, behind.has);
        ends = behind.ends;
        left = rw append_assoc at behind.left;
      }

  abbrev BackHere : Result Reading ℕ → Type 0
  BackHere read = Back Schedule reading number line lines content read

  below_room : nat_lt (length reading.events) 10000 ≡ true → (event : Event) → length (reading.events ++ event ∷ []) ≤ 10000
  below_room room event = let under : length reading.events + 1 ≤ 10000 = grind (arith, nat_tests, room) in omega (arith, under, length-append reading.events (event ∷ []))

  event_step : (begins : ℕ) (event : Event) → IsEventLine reading.names reading.begins begins found (event ∷ []) → BackHere (with_event (record reading { begins = begins }) event)
  event_step begins event means = cond_both (nat_lt (length reading.events) 10000) _ _ BackHere (λ room. events_more begins (event ∷ []) (below_room room event) means) (λ _. tt)

  turn_step : (activation limit : ℕ) → found ≡ Word (codes "turn") ∷ Number activation ∷ Number limit ∷ [] → BackHere (turn_line reading activation limit)
  turn_step activation limit says =
      let one = λ (known : (1 ≤ activation) × (activation ≤ reading.begins)) (small : IsLimit limit). event_step reading.begins (Turn activation limit) (inr (inr (inl (record { activation = activation; limit = limit; says = says; known = known; small = small; gives = refl })), refl)) in
      grind (arith, nat_tests, one)

  drain_step : (rounds limit : ℕ) → found ≡ Word (codes "drain") ∷ Number rounds ∷ Number limit ∷ [] → BackHere (drain_line reading rounds limit)
  drain_step rounds limit says = grind (arith, nat_tests, events_more, length-append, length-rounds_of, says)

  ends_here : found ≡ Word (codes "end") ∷ [] → (IsFew (record reading { stage = Ended }) → TailLeft (content_read reading) lines content) → EventsLeft (content_read reading) reading.begins (line ∷ lines) content
  ends_here says left = record {
    more = [];
    few = rw append-nil small.1;
    event_lines = [];
    end_line = line;
    rest = lines;
    all = refl;
    has = refl;
    ends = is ∙ ap Ok says;
    left = rw append-nil (left small);
  }

  single_step : (word : List ℕ) → found ≡ Word word ∷ [] → BackHere (single_line reading word)
  single_step word says =
      let saving = λ (this : found ≡ Word (codes "checkpoint") ∷ []).
      event_step reading.begins Checkpoint (inr (inr (inr (inr (inl (this, refl)))), refl)) in
      let stopping = λ (this : found ≡ Word (codes "crash") ∷ []).
      event_step reading.begins Crash (inr (inr (inr (inr (inr (this, refl)))), refl)) in
      grind (arith, nat_tests, same_word word (codes "end"), same_word word (codes "checkpoint"), same_word word (codes "crash"), ends_here, saving, stopping, says)

  blank_step : found ≡ [] → BackHere (Ok reading)
  blank_step says left =
      events_more reading.begins [] (subst (λ (events : List Event). length events ≤ 10000) (sym (append-nil reading.events)) small.1) (inr (inl (says, refl), refl))
      (subst (λ (events : List Event). IsFew (record reading { events = events }) → Left reading.stage (record reading { events = events }) (number + 1) lines content) (sym (append-nil reading.events)) left)

  begin_step : (name values : List ℕ) → found ≡ Word (codes "begin") ∷ Word name ∷ map Number values → is_label name ≡ true → length values ≤ 4 → (place : Option ℕ) → place_among reading.names name ≡ place → BackHere (begin_of reading values place)
  begin_step name values says label few place given = grind (arith, nat_tests, event_step, says)

  found_step : (these : List Token) → found ≡ these → BackHere (schedule_line reading these)
  found_step [] says = blank_step says
  found_step (Word word ∷ []) says = single_step word says
  found_step (Word word ∷ Number first ∷ Number second ∷ []) says =
      cond_both (bytes_eq word (codes "turn")) _ _ BackHere
      (λ turn. turn_step first second (says ∙ ap (λ w. Word w ∷ Number first ∷ Number second ∷ []) (same_word word (codes "turn") turn)))
      (λ _. cond_both (bytes_eq word (codes "drain")) _ _ BackHere
      (λ drain. drain_step first second (says ∙ ap (λ w. Word w ∷ Number first ∷ Number second ∷ []) (same_word word (codes "drain") drain)))
      (λ _. tt))
  found_step (Word word ∷ Word name ∷ values) says =
      grind (arith, nat_tests, same_word word (codes "begin"), begin_step, says)
  found_step _ says = tt

-- in a source
module _ (number : ℕ) (line : List ℕ) (lines : List (List ℕ)) (content : Content) (reading : Reading) (at : reading.stage ≡ Source) (small : IsFew reading) where
  abbrev BackSource : Result Reading (ℕ × ℕ) → Type 0
  BackSource read = Back Source reading number line lines content read

  -- a line that gives these statements, before those of the others
  has_line : (here : List Statement) → (IsOnly (codes "end") line → ⊥) → (IsOnly (codes ".part") line → ⊥)
      → ((others : List (List ℕ)) (more : List Statement) → statements_from (number + 1) others ≡ Ok more → statements_from number (line ∷ others) ≡ Ok (here ++ more))
      → (source : List (List ℕ)) (more : List Statement) (others : List (List Statement)) → HasSources (number + 1) source (more ∷ others) → HasSources number (line ∷ source) ((here ++ more) ∷ others)
  has_line here no_end no_part gives source more [] has = (((no_end, no_part), has.0), gives source more has.1)
  has_line here no_end no_part gives source more (next ∷ others) has = grind (arith, line ∷ has.0, has.1, has.2, has.3, has.4, gives has.0 more has.5, has.6, has.7)

  source_more : (here : List Statement) → (IsOnly (codes "end") line → ⊥) → (IsOnly (codes ".part") line → ⊥)
      → ((others : List (List ℕ)) (more : List Statement) → statements_from (number + 1) others ≡ Ok more → statements_from number (line ∷ others) ≡ Ok (here ++ more))
      → SourceLeft reading.sources (reading.statements ++ here) (content_read reading) reading.begins (number + 1) lines content → SourceLeft reading.sources reading.statements (content_read reading) reading.begins number (line ∷ lines) content
  source_more here no_end no_part gives behind = record {
    source = line ∷ behind.source;
    last = behind.last;
    rest = behind.rest;
    all = ap (λ these. line ∷ these) behind.all;
    more = here ++ behind.more;
    others = behind.others;
    parted = has_line here no_end no_part gives behind.source behind.more behind.others behind.parted;
    few = behind.few;
    parts = behind.parts;
    makes = rw append_assoc at behind.makes;
    ends = behind.ends;
    left = subst (λ n. ProgramsLeft (record (content_read reading) { programs = reading.programs ++ behind.parts ∷ [] }) reading.begins n behind.rest content) (omega arith) behind.left;
  }

  source_goes : is_end (tokens line) ≡ false → is_part (tokens line) ≡ false → (meaning : Result (Option Statement) ℕ) → line_meaning number line ≡ meaning → BackSource (source_goes_on reading (at_line number meaning))
  unfolding statements_from
  source_goes no_end no_part (Ok (Some statement)) is =
      λ left.
      source_more (statement ∷ []) (λ only. cc (no_end, ap is_end only)) (λ only. cc (no_part, ap is_part only)) (λ others more parsed. rw (is, parsed) refl)
      (subst (λ (stage : Stage). Left stage (record reading { statements = reading.statements ++ statement ∷ [] }) (number + 1) lines content) at (left small))
  source_goes no_end no_part (Ok None) is =
      λ left.
      source_more [] (λ only. cc (no_end, ap is_end only)) (λ only. cc (no_part, ap is_part only)) (λ others more parsed. rw (is, parsed) refl)
      (subst (λ (statements : List Statement). SourceLeft reading.sources statements (content_read reading) reading.begins (number + 1) lines content) (sym (append-nil reading.statements))
      (subst (λ (stage : Stage). Left stage reading (number + 1) lines content) at (left small)))
  source_goes no_end no_part (Err kind) is = tt

  -- a line that ends a source
  source_parts : is_part (tokens line) ≡ true → (few : Bool) → nat_lt (length reading.sources) 15 ≡ few
      → BackSource (at_line number (if few then Ok (record reading { sources = sources_of reading; statements = [] }) else Err 11))
  unfolding statements_from
  source_parts part false few = tt
  source_parts part true few =
      λ left.
      let under : length reading.sources + 1 ≤ 15 = grind (arith, nat_tests, few) in
      let behind : SourceLeft (sources_of reading) [] (content_read reading) reading.begins (number + 1) lines content =
      subst (λ (stage : Stage). Left stage (record reading { sources = sources_of reading; statements = [] }) (number + 1) lines content) at (left (small.0, small.1, omega (arith, under, length-append reading.sources (reading.statements ∷ [])))) in
      record {
        source = line ∷ behind.source;
        last = behind.last;
        rest = behind.rest;
        all = ap (λ these. line ∷ these) behind.all;
        more = [];
        others = behind.more ∷ behind.others;
        parted = ([], line, behind.source, refl, tt, refl, part_is (tokens line) part, subst (λ n. HasSources n behind.source (behind.more ∷ behind.others)) (omega arith) behind.parted);
        few = omega (arith, behind.few, length-append reading.sources (reading.statements ∷ []));
        parts = behind.parts;
        makes = subst (λ (sources : List (List Statement)). linked sources ≡ Ok behind.parts) (append_assoc reading.sources (reading.statements ∷ []) (behind.more ∷ behind.others) ∙ ap (λ these. reading.sources ++ these ∷ behind.more ∷ behind.others) (sym (append-nil reading.statements))) behind.makes;
        ends = behind.ends;
        left = subst (λ n. ProgramsLeft (record (content_read reading) { programs = reading.programs ++ behind.parts ∷ [] }) reading.begins n behind.rest content) (omega arith) behind.left;
      }

  source_done : is_end (tokens line) ≡ true → (made : Result Parts (ℕ × ℕ)) → linked (sources_of reading) ≡ made → BackSource (program_ends reading made)
  unfolding statements_from
  source_done end (Ok parts) is =
      λ left.
      record {
        source = [];
        last = line;
        rest = lines;
        all = refl;
        more = [];
        others = [];
        parted = (tt, refl);
        few = omega (arith, small.2);
        parts = parts;
        makes = ap (λ these. linked (reading.sources ++ these ∷ [])) (append-nil reading.statements) ∙ is;
        ends = end_is (tokens line) end;
        left = subst (λ n. ProgramsLeft (record (content_read reading) { programs = reading.programs ++ parts ∷ [] }) reading.begins n lines content) (omega arith) (left (small.0, small.1, omega arith));
      }
  source_done end (Err fault) is = tt

  source_step : BackSource (source_line reading number line)
  source_step = grind (arith, source_done, source_parts, source_goes)

-- a blank line before programs
has_blank : (others : List (List ℕ)) (number : ℕ) (line : List ℕ) (lines : List (List ℕ)) (names : List (List ℕ)) (programs : List Parts) → IsBlank line → HasPrograms others (number + 1) names programs lines → HasPrograms others number names programs (line ∷ lines)
has_blank others number line lines [] [] blank has = (blank, has)
has_blank others number line lines (name ∷ names) (parts ∷ programs) blank has =
    let is = has.3 in (
      line ∷ has.0,
      has.1,
      ap (λ these. line ∷ these) has.2,
      record {
        blank = line ∷ is.blank;
        head = is.head;
        source = is.source;
        last = is.last;
        all = ap (λ these. line ∷ these) is.all;
        blanks = (blank, is.blanks);
        says = is.says;
        label = is.label;
        sources = is.sources;
        parted = subst (λ n. HasSources n is.source is.sources) (omega arith) is.parted;
        few_sources = is.few_sources;
        makes = is.makes;
        ends = is.ends;
      },
      has.4,
      subst (λ n. HasPrograms (others ++ name ∷ []) n names programs has.1) (omega arith) has.5,
    )
has_blank others number line lines _ _ blank has = has

-- between programs
module _ (number : ℕ) (line : List ℕ) (lines : List (List ℕ)) (content : Content) (reading : Reading) (found : List Token) (at : reading.stage ≡ Programs) (small : IsFew reading) (is : tokens line ≡ Ok found) where
  abbrev BackPrograms : Result Reading ℕ → Type 0
  BackPrograms read = Back Programs reading number line lines content read

  programs_blank : found ≡ [] → BackPrograms (Ok reading)
  programs_blank says left =
      let behind : ProgramsLeft (content_read reading) reading.begins (number + 1) lines content = subst (λ (stage : Stage). Left stage reading (number + 1) lines content) at (left small) in
      record {
        names = behind.names;
        programs = behind.programs;
        few = behind.few;
        program_lines = line ∷ behind.program_lines;
        schedule_line = behind.schedule_line;
        rest = behind.rest;
        all = ap (λ these. line ∷ these) behind.all;
        has = has_blank reading.names number line behind.program_lines behind.names behind.programs (is ∙ ap Ok says) behind.has;
        schedule = behind.schedule;
        left = behind.left;
      }

  schedule_begins : found ≡ Word (codes "schedule") ∷ [] → BackPrograms (Ok (record reading { stage = Schedule }))
  schedule_begins says left = record {
    names = [];
    programs = [];
    few = rw append-nil small.0;
    program_lines = [];
    schedule_line = line;
    rest = lines;
    all = refl;
    has = tt;
    schedule = is ∙ ap Ok says;
    left = rw (append-nil, append-nil) (left small);
  }

  abbrev named : List ℕ → Reading
  named name = record reading { stage = Source; names = reading.names ++ name ∷ []; sources = []; statements = [] }

  program_begun : (name : List ℕ) → found ≡ Word (codes "program") ∷ Word name ∷ [] → is_label name ≡ true → place_among reading.names name ≡ None → SourceLeft [] [] (content_read (named name)) reading.begins (number + 1) lines content → ProgramsLeft (content_read reading) reading.begins number (line ∷ lines) content
  program_begun name says label apart behind =
      let more = behind.left in
      let first = line ∷ behind.source ++ behind.last ∷ [] in
      let end = more.schedule_line ∷ more.rest in
      record {
        names = name ∷ more.names;
        programs = behind.parts ∷ more.programs;
        few = rw append_assoc at more.few;
        program_lines = first ++ more.program_lines;
        schedule_line = more.schedule_line;
        rest = more.rest;
        all = ap (λ these. line ∷ these) (behind.all ∙ ap (λ these. behind.source ++ behind.last ∷ these) more.all ∙ sym (append_assoc behind.source (behind.last ∷ []) (more.program_lines ++ end)))
            ∙ sym (append_assoc first more.program_lines end);
        has = (
          first,
          more.program_lines,
          refl,
          record {
            blank = [];
            head = line;
            source = behind.source;
            last = behind.last;
            all = refl;
            blanks = tt;
            says = is ∙ ap Ok says;
            label = label;
            sources = behind.more ∷ behind.others;
            parted = subst (λ n. HasSources n behind.source (behind.more ∷ behind.others)) (omega arith) behind.parted;
            few_sources = omega (arith, behind.few);
            makes = behind.makes;
            ends = behind.ends;
          },
          apart,
          subst (λ n. HasPrograms (reading.names ++ name ∷ []) n more.names more.programs more.program_lines) (omega (arith, length-append behind.source (behind.last ∷ []))) more.has,
        );
        schedule = more.schedule;
        left = rw (append_assoc, append_assoc) at more.left;
      }

  programs_step : (these : List Token) → found ≡ these → BackPrograms (programs_line reading these)
  programs_step [] says = programs_blank says
  programs_step (Word word ∷ []) says =
      grind (arith, nat_tests, same_word word (codes "schedule"), schedule_begins, says)
  programs_step (Word word ∷ Word name ∷ []) says =
      grind (arith, nat_tests, same_word word (codes "program"), program_begun, length-append, says)
  programs_step _ says = tt

-- before the frames
module _ (number : ℕ) (line : List ℕ) (lines : List (List ℕ)) (content : Content) (reading : Reading) (found : List Token) (at : reading.stage ≡ Frames) (small : IsFew reading) (is : tokens line ≡ Ok found) where
  abbrev BackFrames : Result Reading ℕ → Type 0
  BackFrames read = Back Frames reading number line lines content read

  frames_blank : found ≡ [] → BackFrames (Ok reading)
  frames_blank says left =
      let behind : FramesLeft (content_read reading) reading.begins (number + 1) lines content = subst (λ (stage : Stage). Left stage reading (number + 1) lines content) at (left small) in
      record {
        blank = line ∷ behind.blank;
        frames_line = behind.frames_line;
        rest = behind.rest;
        frames = behind.frames;
        all = ap (λ these. line ∷ these) behind.all;
        blanks = (is ∙ ap Ok says, behind.blanks);
        is = behind.is;
        left = subst (λ n. ProgramsLeft (record (content_read reading) { frames = behind.frames }) reading.begins n behind.rest content) (omega arith) behind.left;
      }

  frames_step : (these : List Token) → found ≡ these → BackFrames (frames_line reading these)
  frames_step [] says = frames_blank says
  frames_step (Word word ∷ Number count ∷ []) says =
      let these = λ (same : bytes_eq word (codes "frames") ≡ true). is ∙ ap Ok (says ∙ ap (λ (w : List ℕ). Word w ∷ Number count ∷ []) (same_word word (codes "frames") same)) in
      let on : (n : ℕ) → n ≡ number + 0 + 1 → ProgramsLeft (record (content_read reading) { frames = count }) reading.begins n lines content → bytes_eq word (codes "frames") ≡ true → (2 ≤ count) × (count ≤ 1024) → FramesLeft (content_read reading) reading.begins number (line ∷ lines) content =
      λ n at left same range. record { blank = []; frames_line = line; rest = lines; frames = count; all = refl; blanks = tt; is = record { says = these same; range = range }; left = subst (λ n. ProgramsLeft (record (content_read reading) { frames = count }) reading.begins n lines content) at left } in
      grind (arith, nat_tests, small, on (number + 1))
  frames_step _ says = tt

-- at the end of a text
last_step : (stage : Stage) (reading : Reading) (number : ℕ) (last : List ℕ) (content : Content) → reading.stage ≡ stage → last_part reading number last ≡ Ok content → Left stage reading number (last ∷ []) content
last_step stage reading number last content at is = grind (arith, nat_tests)

-- one line more
module _ (number : ℕ) (line : List ℕ) (lines : List (List ℕ)) (content : Content) where
  by_found : (stage : Stage) (reading : Reading) (meaning : List Token → Result Reading ℕ) (found : Result (List Token) ℕ) → ((those : List Token) → found ≡ Ok those → Back stage reading number line lines content (meaning those)) → Back stage reading number line lines content (at_line number (by_tokens meaning found))
  by_found stage reading meaning case_4 back = grind (arith, nat_tests)

  line_step : (stage : Stage) (reading : Reading) → reading.stage ≡ stage → IsFew reading → Back stage reading number line lines content (line_read stage reading number line)
  line_step Frames reading at small = by_found Frames reading (frames_line reading) (tokens line) (λ those is. frames_step number line lines content reading those at small is those refl)
  line_step Programs reading at small = by_found Programs reading (programs_line reading) (tokens line) (λ those is. programs_step number line lines content reading those at small is those refl)
  line_step Source reading at small = source_step number line lines content reading at small
  line_step Schedule reading at small = by_found Schedule reading (schedule_line reading) (tokens line) (λ those is. found_step number line lines content reading those at small is those refl)
  line_step Ended reading at small = by_found Ended reading (ended_line reading) (tokens line) (λ those is. tail_step number line lines content reading those at small is)

lines_left : (reading : Reading) (number : ℕ) (lines : List (List ℕ)) (content : Content) → IsFew reading → read_from reading number lines ≡ Ok content → Left reading.stage reading number lines content
unfolding read_from
lines_left reading number [] content small is = absurd (cc is)
lines_left reading number (last ∷ []) content small is = last_step reading.stage reading number last content refl is
lines_left reading number (line ∷ next ∷ lines) content small is =
    on (line_read reading.stage reading number line) (line_step number line (next ∷ lines) content reading.stage reading refl small) is
    (λ more small_more is_more. lines_left more (number + 1) (next ∷ lines) content small_more is_more)
  where
    on : (read : Result Reading (ℕ × ℕ)) → Back reading.stage reading number line (next ∷ lines) content read → then_read (λ more. read_from more (number + 1) (next ∷ lines)) read ≡ Ok content
        → ((more : Reading) → IsFew more → read_from more (number + 1) (next ∷ lines) ≡ Ok content → Left more.stage more (number + 1) (next ∷ lines) content) → Left reading.stage reading number (line ∷ next ∷ lines) content
    on (Ok more) back is others = back (λ small. others more small is)
    on (Err fault) back is others = absurd (cc is)

-- a job has the form of one
pub has_form : (text : List ℕ) (content : Content) → job_of text ≡ Ok content → IsJobText text content
has_form text content is =
    let frames = lines_left nothing_read 1 (text_lines text) content (omega arith, omega arith, omega arith) is in
    let programs = frames.left in
    let events = programs.left in
    let tail = events.left in
    subst (IsJobText text) (sym tail.same)
    (record {
      blank = frames.blank;
      frames_line = frames.frames_line;
      program_lines = programs.program_lines;
      schedule_line = programs.schedule_line;
      event_lines = events.event_lines;
      end_line = events.end_line;
      tail = tail.tail;
      all = frames.all
          ∙ ap (λ these. frames.blank ++ frames.frames_line ∷ these)
          (programs.all ∙ ap (λ these. programs.program_lines ++ programs.schedule_line ∷ these) (events.all ∙ ap (λ these. events.event_lines ++ events.end_line ∷ these) tail.all));
      blanks = frames.blanks;
      frames = frames.is;
      programs = subst (λ n. HasPrograms [] n programs.names programs.programs programs.program_lines) (omega arith) programs.has;
      few_programs = programs.few;
      schedule = programs.schedule;
      events = events.has;
      few_events = events.few;
      ends = events.ends;
      tail_blanks = tail.blanks;
    })

-- some lines
abbrev pub AreSome : List (List ℕ) → Type 0
AreSome lines = (next : List ℕ) × (more : List (List ℕ)) × (lines ≡ next ∷ more)

pub some_behind : (front lines : List (List ℕ)) → AreSome lines → AreSome (front ++ lines)
some_behind [] lines some = some
some_behind (line ∷ front) lines some = (line, front ++ lines, refl)

-- a line, and lines behind it
pub read_some : (reading : Reading) (number : ℕ) (line : List ℕ) (lines : List (List ℕ)) → AreSome lines → read_from reading number (line ∷ lines) ≡ then_read (λ more. read_from more (number + 1) lines) (line_read reading.stage reading number line)
read_some reading number line lines some = read_line reading number line some.0 some.1 lines some.2

reads_line : (reading new : Reading) (number : ℕ) (line : List ℕ) (lines : List (List ℕ)) → AreSome lines → line_read reading.stage reading number line ≡ Ok new → read_from reading number (line ∷ lines) ≡ read_from new (number + 1) lines
reads_line reading new number line lines some is = read_some reading number line lines some ∙ ap (then_read (λ more. read_from more (number + 1) lines)) is

-- no source line is due
abbrev IsByTokens : Stage → Type 0
IsByTokens Source = ⊥
IsByTokens _ = Unit {0}

-- a line of these tokens
says_read : (stage : Stage) (reading new : Reading) (number : ℕ) (line : List ℕ) (found : List Token) → IsByTokens stage → tokens line ≡ Ok found → tokens_read stage reading found ≡ Ok new → line_read stage reading number line ≡ Ok new
says_read stage reading new number line found by is read = grind (arith, read)

reads_tokens : (reading new : Reading) (number : ℕ) (line : List ℕ) (lines : List (List ℕ)) (found : List Token) → AreSome lines → IsByTokens reading.stage → tokens line ≡ Ok found → tokens_read reading.stage reading found ≡ Ok new → read_from reading number (line ∷ lines) ≡ read_from new (number + 1) lines
reads_tokens reading new number line lines found some by is read = reads_line reading new number line lines some (says_read reading.stage reading new number line found by is read)

blank_read : (stage : Stage) (reading : Reading) → IsByTokens stage → tokens_read stage reading [] ≡ Ok reading
blank_read stage reading by = grind arith

-- blank lines
reads_blank : (reading : Reading) (number : ℕ) (blank lines : List (List ℕ)) → AreBlank blank → AreSome lines → IsByTokens reading.stage → read_from reading number (blank ++ lines) ≡ read_from reading (number + length blank) lines
reads_blank reading number [] lines are some by = ap (λ n. read_from reading n lines) (omega arith)
reads_blank reading number (line ∷ blank) lines are some by =
    reads_tokens reading reading number line (blank ++ lines) [] (some_behind blank lines some) by are.0 (blank_read reading.stage reading by)
    ∙ reads_blank reading (number + 1) blank lines are.1 some by
    ∙ ap (λ n. read_from reading n lines) (omega arith)

-- a reading in each stage
abbrev at_programs : ℕ → List (List ℕ) → List Parts → Reading
at_programs frames names programs = record { stage = Programs; frames = frames; names = names; programs = programs; sources = []; statements = []; events = []; begins = 0 }

abbrev at_source : ℕ → List (List ℕ) → List Parts → List (List Statement) → List Statement → Reading
at_source frames names programs sources statements = record { stage = Source; frames = frames; names = names; programs = programs; sources = sources; statements = statements; events = []; begins = 0 }

abbrev at_schedule : Stage → ℕ → List (List ℕ) → List Parts → ℕ → List Event → Reading
at_schedule stage frames names programs begins events = record { stage = stage; frames = frames; names = names; programs = programs; sources = []; statements = []; events = events; begins = begins }

-- the frames
frames_read : (frames : ℕ) → (2 ≤ frames) × (frames ≤ 1024) → frames_line nothing_read (Word (codes "frames") ∷ Number frames ∷ []) ≡ Ok (at_programs frames [] [])
frames_read frames range = rw (le-leb 2 frames range.0, le-leb frames 1024 range.1) refl

-- the schedule
module _ (frames : ℕ) (names : List (List ℕ)) (programs : List Parts) where
  abbrev so_far : ℕ → List Event → Reading
  so_far begins events = at_schedule Schedule frames names programs begins events

  -- the tokens of a line are read as these events
  abbrev Reads : ℕ → List Event → List Token → ℕ → List Event → Type 0
  Reads begins events found after here = schedule_line (so_far begins events) found ≡ Ok (so_far after (events ++ here))

  values_back : (values : List ℕ) → length values ≤ 4 → values_of (map Number values) ≡ Some values
  values_back (a ∷ b ∷ c ∷ d ∷ e ∷ values) few = absurd (omega (arith, few))
  values_back _ few = refl

  line_events_read : (begins after : ℕ) (events : List Event) (found : List Token) (here : List Event) → IsEventLine names begins after found here → length events + length here ≤ 10000 → Reads begins events found after here
  line_events_read begins after events found here is room =
      grind (arith, nat_tests, values_back, lt-ltb, append-nil, length-rounds_of)

  reads_events : (number begins : ℕ) (events : List Event) (event_lines lines : List (List ℕ)) (more : List Event) → HasEvents names begins event_lines more → length events + length more ≤ 10000 → AreSome lines
      → (last : ℕ) × (after : ℕ) × (read_from (so_far begins events) number (event_lines ++ lines) ≡ read_from (so_far after (events ++ more)) last lines)
  reads_events number begins events [] lines more has room some = (number, begins, ap (λ all. read_from (so_far begins all) number lines) (sym (append-nil events) ∙ ap (λ these. events ++ these) (sym has)))
  reads_events number begins events (line ∷ event_lines) lines more has room some =
      let long : length more ≡ length has.1 + length has.2 = ap length has.5 ∙ length-append has.1 has.2 in
      let others = reads_events (number + 1) has.3 (events ++ has.1) event_lines lines has.2 has.7 (omega (arith, room, long, length-append events has.1)) some in
      let first = reads_tokens (so_far begins events) (so_far has.3 (events ++ has.1)) number line (event_lines ++ lines) has.0 (some_behind event_lines lines some) tt has.4 (line_events_read begins has.3 events has.0 has.1 has.6 (omega (arith, room, long))) in
      (others.0, others.1, cc (first, others.2, append_assoc events has.1 has.2, has.5))

-- a source
module _ (frames : ℕ) (names : List (List ℕ)) (programs : List Parts) (sources : List (List Statement)) where
  abbrev in_source : List Statement → Reading
  in_source statements = at_source frames names programs sources statements

  -- what a source line and those behind it give, if they give statements
  record Gives (number : ℕ) (line : List ℕ) (source : List (List ℕ)) (statements more : List Statement) : Type 0 where
    here : List Statement
    others : List Statement
    goes : source_goes_on (in_source statements) (at_line number (line_meaning number line)) ≡ Ok (in_source (statements ++ here))
    parsed : statements_from (number + 1) source ≡ Ok others
    all : more ≡ here ++ others

  gives_line : (number : ℕ) (line : List ℕ) (source : List (List ℕ)) (statements more : List Statement) (meaning : Result (Option Statement) ℕ) (others : Result (List Statement) (ℕ × ℕ)) → line_meaning number line ≡ meaning → statements_from (number + 1) source ≡ others → then_statements number meaning others ≡ Ok more → Gives number line source statements more
  gives_line number line source statements more (Ok (Some statement)) (Ok rest) is parsed gives = record {
    here = statement ∷ [];
    others = rest;
    goes = rw is refl;
    parsed = parsed;
    all = cc gives;
  }
  gives_line number line source statements more (Ok None) others is parsed gives = record {
    here = [];
    others = more;
    goes = rw is (ap (λ these. Ok (in_source these)) (sym (append-nil statements)));
    parsed = parsed ∙ gives;
    all = refl;
  }
  gives_line number line source statements more (Ok (Some statement)) (Err fault) is parsed gives = absurd (cc gives)
  gives_line number line source statements more (Err kind) others is parsed gives = absurd (cc gives)

  not_end : (line : List ℕ) → (IsOnly (codes "end") line → ⊥) → is_end (tokens line) ≡ false
  not_end line other = false_from_ne_true (is_end (tokens line)) (λ end. other (end_is (tokens line) end))

  not_part : (line : List ℕ) → (IsOnly (codes ".part") line → ⊥) → is_part (tokens line) ≡ false
  not_part line other = false_from_ne_true (is_part (tokens line)) (λ part. other (part_is (tokens line) part))

  reads_source : (number : ℕ) (source lines : List (List ℕ)) (statements more : List Statement) → HaveNoMark source → statements_from number source ≡ Ok more → AreSome lines → read_from (in_source statements) number (source ++ lines) ≡ read_from (in_source (statements ++ more)) (number + length source) lines
  unfolding statements_from
  reads_source number [] lines statements more are parsed some =
      let none : [] ≡ more = cc parsed in
      ap (λ these. read_from (in_source these) number lines) (sym (append-nil statements) ∙ ap (λ these. statements ++ these) none) ∙ ap (λ n. read_from (in_source (statements ++ more)) n lines) (omega arith)
  reads_source number (line ∷ source) lines statements more are parsed some =
      let gives = gives_line number line source statements more (line_meaning number line) (statements_from (number + 1) source) refl refl parsed in
      reads_line (in_source statements) (in_source (statements ++ gives.here)) number line (source ++ lines) (some_behind source lines some) (rw (not_end line are.0.0, not_part line are.0.1) gives.goes)
      ∙ reads_source (number + 1) source lines (statements ++ gives.here) gives.others are.1 gives.parsed some
      ∙ ap (λ these. read_from (in_source these) (number + 1 + length source) lines) (append_assoc statements gives.here gives.others ∙ ap (λ these. statements ++ these) (sym gives.all))
      ∙ ap (λ n. read_from (in_source (statements ++ more)) n lines) (omega arith)

-- several sources
module _ (frames : ℕ) (names : List (List ℕ)) (programs : List Parts) where
  -- what is read at the end of source lines: the sources that have ended, and the one at hand
  record Parted (number : ℕ) (source lines : List (List ℕ)) (sources : List (List Statement)) (statements more : List Statement) (others : List (List Statement)) : Type 0 where
    closed : List (List Statement)
    current : List Statement
    all : closed ++ current ∷ [] ≡ sources ++ (statements ++ more) ∷ others
    read : read_from (at_source frames names programs sources statements) number (source ++ lines) ≡ read_from (at_source frames names programs closed current) (number + length source) lines

  mark_read : (number : ℕ) (sources : List (List Statement)) (statements : List Statement) (mark : List ℕ) → IsOnly (codes ".part") mark → length sources + 2 ≤ 16
      → line_read Source (at_source frames names programs sources statements) number mark ≡ Ok (at_source frames names programs (sources ++ statements ∷ []) [])
  mark_read number sources statements mark only few = rw (only, lt-ltb (length sources) 15 (omega (arith, few))) refl

  reads_sources : (number : ℕ) (source lines : List (List ℕ)) (sources : List (List Statement)) (statements more : List Statement) (others : List (List Statement)) → HasSources number source (more ∷ others) → length sources + 1 + length others ≤ 16 → AreSome lines
      → Parted number source lines sources statements more others
  reads_sources number source lines sources statements more [] has few some = record {
    closed = sources;
    current = statements ++ more;
    all = refl;
    read = reads_source frames names programs sources number source lines statements more has.0 has.1 some;
  }
  reads_sources number source lines sources statements more (next ∷ others) has few some =
      let behind = reads_sources (number + length has.0 + 1) has.2 lines (sources ++ (statements ++ more) ∷ []) [] next others has.7 (omega (arith, few, length-append sources ((statements ++ more) ∷ []))) some in
      record {
        closed = behind.closed;
        current = behind.current;
        all = behind.all ∙ append_assoc sources ((statements ++ more) ∷ []) (next ∷ others);
        read = ap (λ these. read_from (at_source frames names programs sources statements) number these) (ap (λ these. these ++ lines) has.3 ∙ append_assoc has.0 (has.1 ∷ has.2) lines)
            ∙ reads_source frames names programs sources number has.0 (has.1 ∷ (has.2 ++ lines)) statements more has.4 has.5 (has.1, has.2 ++ lines, refl)
            ∙ reads_line (at_source frames names programs sources (statements ++ more)) (at_source frames names programs (sources ++ (statements ++ more) ∷ []) []) (number + length has.0) has.1 (has.2 ++ lines) (some_behind has.2 lines some)
            (mark_read (number + length has.0) sources (statements ++ more) has.1 has.6 (omega (arith, few)))
            ∙ behind.read
            ∙ ap (λ n. read_from (at_source frames names programs behind.closed behind.current) n lines) (omega (arith, ap length has.3, length-append has.0 (has.1 ∷ has.2)));
      }

  parted_read : (number : ℕ) (source lines : List (List ℕ)) (sources : List (List Statement)) → HasSources number source sources → length sources ≤ 16 → AreSome lines
      → (closed : List (List Statement)) × (current : List Statement) × (closed ++ current ∷ [] ≡ sources) × (read_from (at_source frames names programs [] []) number (source ++ lines) ≡ read_from (at_source frames names programs closed current) (number + length source) lines)
  parted_read number source lines [] has few some = absurd has
  parted_read number source lines (more ∷ others) has few some =
      let parted = reads_sources number source lines [] [] more others has (omega (arith, few)) some in
      (parted.closed, parted.current, parted.all, parted.read)

-- programs
module _ (frames : ℕ) where
  -- the first line of a program
  head_read : (before : List (List ℕ)) (done : List Parts) (name : List ℕ) → is_label name ≡ true → place_among before name ≡ None → length before + 1 ≤ 64
      → programs_line (at_programs frames before done) (Word (codes "program") ∷ Word name ∷ []) ≡ Ok (at_source frames (before ++ name ∷ []) done [] [])
  head_read before done name label apart few = rw (label, apart, lt-ltb (length before) 64 (omega (arith, few))) refl

  -- its `end`
  end_read : (number : ℕ) (names : List (List ℕ)) (done : List Parts) (sources : List (List Statement)) (statements : List Statement) (parts : Parts) (last : List ℕ) → linked (sources ++ statements ∷ []) ≡ Ok parts → IsOnly (codes "end") last → source_line (at_source frames names done sources statements) number last ≡ Ok (at_programs frames names (done ++ parts ∷ []))
  end_read number names done sources statements parts last makes ends = rw (ends, makes) refl

  reads_program : (number : ℕ) (before : List (List ℕ)) (done : List Parts) (name : List ℕ) (parts : Parts) (first lines : List (List ℕ)) → IsProgram number name parts first → place_among before name ≡ None → length before + 1 ≤ 64 → AreSome lines
      → read_from (at_programs frames before done) number (first ++ lines) ≡ read_from (at_programs frames (before ++ name ∷ []) (done ++ parts ∷ [])) (number + length first) lines
  reads_program number before done name parts first lines is apart few some =
      let names = before ++ name ∷ [] in
      let behind = is.last ∷ lines in
      let read = parted_read frames names done (number + length is.blank + 1) is.source behind is.sources is.parted is.few_sources (is.last, lines, refl) in
      let makes : linked (read.0 ++ read.1 ∷ []) ≡ Ok parts = ap linked read.2 ∙ is.makes in
      cc (split, reads_blank (at_programs frames before done) number is.blank (is.head ∷ (is.source ++ behind)) is.blanks (is.head, is.source ++ behind, refl) tt, reads_tokens (at_programs frames before done) (at_source frames names done [] []) (number + length is.blank) is.head (is.source ++ behind) (Word (codes "program") ∷ Word name ∷ []) (some_behind is.source behind (is.last, lines, refl)) tt is.says (head_read before done name is.label apart few), read.3, reads_line (at_source frames names done read.0 read.1) (at_programs frames names (done ++ parts ∷ [])) (number + length is.blank + 1 + length is.source) is.last lines some (end_read (number + length is.blank + 1 + length is.source) names done read.0 read.1 parts is.last makes is.ends), long)
    where
      split : first ++ lines ≡ is.blank ++ (is.head ∷ (is.source ++ (is.last ∷ lines)))
      split = ap (λ these. these ++ lines) is.all ∙ append_assoc is.blank (is.head ∷ is.source ++ (is.last ∷ [])) lines ∙ ap (λ these. is.blank ++ (is.head ∷ these)) (append_assoc is.source (is.last ∷ []) lines)

      long : number + length is.blank + 1 + length is.source + 1 ≡ number + length first
      long = omega (arith, ap length is.all, length-append is.blank (is.head ∷ is.source ++ (is.last ∷ [])), length-append is.source (is.last ∷ []))

  reads_programs : (number : ℕ) (before : List (List ℕ)) (done : List Parts) (names : List (List ℕ)) (programs : List Parts) (program_lines lines : List (List ℕ)) → HasPrograms before number names programs program_lines → length before + length names ≤ 64 → AreSome lines
      → (last : ℕ) × (read_from (at_programs frames before done) number (program_lines ++ lines) ≡ read_from (at_programs frames (before ++ names) (done ++ programs)) last lines)
  reads_programs number before done [] [] program_lines lines has few some = (
    number + length program_lines,
    reads_blank (at_programs frames before done) number program_lines lines has some tt
        ∙ ap (λ names. read_from (at_programs frames names done) (number + length program_lines) lines) (sym (append-nil before))
        ∙ ap (λ programs. read_from (at_programs frames (before ++ []) programs) (number + length program_lines) lines) (sym (append-nil done)),
  )
  reads_programs number before done (name ∷ names) (parts ∷ programs) program_lines lines has few some = grind (arith, nat_tests, reads_programs (number + length has.0) (before ++ name ∷ []) (done ++ parts ∷ []) names programs has.1 lines, length-append, append_assoc, reads_program, some_behind)
  reads_programs number before done _ _ program_lines lines has few some = absurd has

-- at the end of a text
ends_read : (number : ℕ) (frames : ℕ) (names : List (List ℕ)) (programs : List Parts) (begins : ℕ) (events : List Event) → read_from (at_schedule Ended frames names programs begins events) number ([] ∷ []) ≡ Ok (record { frames = frames; names = names; programs = programs; events = events })
unfolding read_from
ends_read number frames names programs begins events = refl

-- a text that has the form of a job is read as it
pub form_read : (text : List ℕ) (content : Content) → IsJobText text content → job_of text ≡ Ok content
form_read text content form =
    let c = content in
    let behind_end = form.tail ++ ([] ∷ []) in
    let behind_schedule = form.event_lines ++ (form.end_line ∷ behind_end) in
    let behind_frames = form.program_lines ++ (form.schedule_line ∷ behind_schedule) in
    let some_end : AreSome behind_end = some_behind form.tail ([] ∷ []) ([], [], refl) in
    let some_schedule : AreSome behind_schedule = some_behind form.event_lines (form.end_line ∷ behind_end) (form.end_line, behind_end, refl) in
    let some_frames : AreSome behind_frames = some_behind form.program_lines (form.schedule_line ∷ behind_schedule) (form.schedule_line, behind_schedule, refl) in
    let programs = reads_programs c.frames (length form.blank + 2) [] [] c.names c.programs form.program_lines (form.schedule_line ∷ behind_schedule) form.programs (omega (arith, form.few_programs)) (form.schedule_line, behind_schedule, refl) in
    let events = reads_events c.frames c.names c.programs (programs.0 + 1) 0 [] form.event_lines (form.end_line ∷ behind_end) c.events form.events (omega (arith, form.few_events)) (form.end_line, behind_end, refl) in
    ap (read_from nothing_read 1) form.all
    ∙ reads_blank nothing_read 1 form.blank (form.frames_line ∷ behind_frames) form.blanks (form.frames_line, behind_frames, refl) tt
    ∙ reads_tokens nothing_read (at_programs c.frames [] []) (1 + length form.blank) form.frames_line behind_frames (Word (codes "frames") ∷ Number c.frames ∷ []) some_frames tt form.frames.says (frames_read c.frames form.frames.range)
    ∙ ap (λ n. read_from (at_programs c.frames [] []) n behind_frames) (omega arith)
    ∙ programs.1
    ∙ reads_tokens (at_programs c.frames c.names c.programs) (at_schedule Schedule c.frames c.names c.programs 0 []) programs.0 form.schedule_line behind_schedule (Word (codes "schedule") ∷ []) some_schedule tt form.schedule refl
    ∙ events.2
    ∙ reads_tokens (at_schedule Schedule c.frames c.names c.programs events.1 c.events) (at_schedule Ended c.frames c.names c.programs events.1 c.events) events.0 form.end_line behind_end (Word (codes "end") ∷ []) some_end tt form.ends refl
    ∙ reads_blank (at_schedule Ended c.frames c.names c.programs events.1 c.events) (events.0 + 1) form.tail ([] ∷ []) form.tail_blanks ([], [], refl) tt
    ∙ ends_read (events.0 + 1 + length form.tail) c.frames c.names c.programs events.1 c.events
