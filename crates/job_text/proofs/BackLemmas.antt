-- The names and events of a job that some text has: it can be run, and is the job of what is written of it.
use Rattle.job_text.proofs.Common.{◌≡◌, ℕ, suc, ◌+◌, ◌<◌, ◌^◌, map, List, [], ◌∷◌, ◌++◌, length, Ok, Result, sym, ◌∙◌, subst, arith, All, AllByRecursion, zip, length-map, recursion_from_All, ArrayVec, Parts, parts_of, IsByte, Job, JobFault, HasPrograms, IsJobText, content_of, job_of, IsJobAnswer, IsEventAmong, IsReady, AreBytes, job_written, nat_tests, true, codes, list_all, All-from_recursion, Word, is_label, continues_word, found_tokens, IsWord, IsName, bytes_eq, All-append, All-cons, All-nil, position-Some, Event, Begin, Turn, Token, IsBeginLine, IsNoBegin, IsEventLine, HasEvents, rounds_of, turns_to, four_of}
use Rattle.std.specs.Prelude.{IfOk}
use Rattle.flat_machine.specs.declared.machine.Program.{Program}
use Rattle.job_text.proofs.FormLemmas.{has_form, form_read}
use Rattle.job_text.proofs.WrittenFormLemmas.{written_short, AllSound, written_form}
use Rattle.std.proofs.Common.{ℕ, zero, suc, ◌+◌, ◌≤◌, List, [], ◌∷◌, length, All, sym, subst}

-- a word that doesn't begin with `.`
name_of : (word : List ℕ) → IsWord word → is_label word ≡ true → IsName word
name_of word is label = grind arith

names_are : (others : List (List ℕ)) (number : ℕ) (names : List (ArrayVec ℕ)) (programs : List Parts) (lines : List (List ℕ))
    → HasPrograms others number (map (λ (name : ArrayVec ℕ). name.items) names) programs lines → AllByRecursion (λ (name : ArrayVec ℕ). IsName name.items) names
names_are others number [] programs lines has = tt
names_are others number (name ∷ names) [] lines has = absurd has
names_are others number (name ∷ names) (parts ∷ programs) lines has =
    let is_word = (found_tokens has.3.head (Word (codes "program") ∷ Word name.items ∷ []) has.3.says).1.0 in
    (name_of name.items is_word has.3.label, names_are (others ++ name.items ∷ []) (number + length has.0) names programs has.1 has.5)

-- the names of a job are names
pub job_names : (names : List (ArrayVec ℕ)) (number : ℕ) (programs : List Parts) (lines : List (List ℕ)) → HasPrograms [] number (map (λ (name : ArrayVec ℕ). name.items) names) programs lines → All (λ (name : ArrayVec ℕ). IsName name.items) names
job_names names number programs lines has = All-from_recursion _ names (names_are [] number names programs lines has)

later_no_feeds : (bytes : List ℕ) → list_all continues_word bytes ≡ true → AllByRecursion (λ byte. byte ≡ 10 → ⊥) bytes
later_no_feeds [] pass = tt
later_no_feeds (byte ∷ bytes) pass = grind (arith, nat_tests, later_no_feeds bytes)

-- no byte of a name is a line feed
pub name_no_feed : (name : List ℕ) → IsName name → All (λ byte. byte ≡ 10 → ⊥) name
name_no_feed [] is = absurd is
name_no_feed (byte ∷ bytes) is =
    All-from_recursion (λ byte. byte ≡ 10 → ⊥) (byte ∷ bytes) (grind (arith, nat_tests, later_no_feeds bytes))

-- Events that can be run.

one_event : (programs : ℕ) (event : Event) → IsEventAmong programs event → All (IsEventAmong programs) (event ∷ [])
one_event programs event is = All-cons (IsEventAmong programs) event [] is (All-nil (IsEventAmong programs))

turns_among : (programs limit n : ℕ) → limit ≤ 1000000 → All (IsEventAmong programs) (turns_to limit n)
unfolding turns_to
turns_among programs limit zero small = All-nil (IsEventAmong programs)
turns_among programs limit (suc n) small = All-append (IsEventAmong programs) (turns_to limit n) (Turn (n + 1) limit ∷ []) (turns_among programs limit n small) (one_event programs (Turn (n + 1) limit) small)

-- the turns of a drain
rounds_among : (programs limit last n : ℕ) → limit ≤ 1000000 → All (IsEventAmong programs) (rounds_of limit last n)
unfolding rounds_of
rounds_among programs limit last zero small = All-nil (IsEventAmong programs)
rounds_among programs limit last (suc n) small = All-append (IsEventAmong programs) (rounds_of limit last n) (turns_to limit last) (rounds_among programs limit last n small) (turns_among programs limit last small)

-- the events of a schedule's lines
module _ (names : List (List ℕ)) where
  abbrev AreAmong : List Event → Type 0
  AreAmong events = All (IsEventAmong (length names)) events

  begin_among : (found : List Token) (here : List Event) → IsBeginLine names found here → AreAmong here
  begin_among found here is = grind (arith, is.gives, one_event (length names) (Begin is.program (four_of is.values)) (position-Some (λ name. bytes_eq name is.name) names is.program [] is.known).0)

  other_among : (begins : ℕ) (found : List Token) (here : List Event) → IsNoBegin begins found here → AreAmong here
  other_among begins found here is = grind (arith, one_event (length names), rounds_among (length names), All-nil)

  line_among : (begins after : ℕ) (found : List Token) (here : List Event) → IsEventLine names begins after found here → AreAmong here
  line_among begins after found here is = grind (arith, begin_among found here, other_among begins found here)

  pub events_among : (begins : ℕ) (lines : List (List ℕ)) (events : List Event) → HasEvents names begins lines events → AreAmong events
  events_among begins [] events has = subst AreAmong (sym has) (All-nil (IsEventAmong (length names)))
  events_among begins (line ∷ lines) events has = grind (arith, has.5, All-append (IsEventAmong (length names)) has.1 has.2 (line_among begins has.3 has.0 has.1 has.6) (events_among has.3 lines has.2 has.7))

-- each program has a name
as_many : (others : List (List ℕ)) (number : ℕ) (names : List (List ℕ)) (programs : List Parts) (lines : List (List ℕ)) → HasPrograms others number names programs lines → length names ≡ length programs
as_many others number [] [] lines has = omega arith
as_many others number (name ∷ names) (parts ∷ programs) lines has = omega (arith, as_many (others ++ name ∷ []) (number + length has.0) names programs has.1 has.5)
as_many others number _ _ lines has = absurd has

bytes_are : (bytes : List ℕ) → AreBytes bytes → AllByRecursion IsByte bytes
bytes_are [] each = tt
bytes_are (byte ∷ bytes) each = (each 0 (omega arith), bytes_are bytes (λ k inside. each (suc k) (omega arith)))

-- programs of bytes are sound
all_sound : (names : List (List ℕ)) (programs : List Program) → length names ≡ length (map parts_of programs) → AllByRecursion (λ (program : List ℕ × Parts). AreBytes program.1.image) (zip names (map parts_of programs)) → AllSound (map parts_of programs)
all_sound [] [] long are = tt
all_sound (name ∷ names) (program ∷ programs) long are = grind (arith, nat_tests, all_sound names programs, bytes_are)
all_sound _ _ long are = absurd (omega arith)

-- the programs of a job that some text has are sound
job_sound : (text : List ℕ) (job : Job) → All (λ (program : List ℕ × Parts). AreBytes program.1.image) (zip (content_of job).names (content_of job).programs) → IsJobText text (content_of job) → AllSound (content_of job).programs
job_sound text job are form = grind (arith, nat_tests, all_sound, as_many, recursion_from_All)

-- what a job of some text is written as is short
pub short_back : (text : List ℕ) (job : Job) → All (λ (program : List ℕ × Parts). AreBytes program.1.image) (zip (content_of job).names (content_of job).programs) → job_of text ≡ Ok (content_of job) → length (job_written (content_of job)) < 2 ^ 23
short_back text job are is =
    let form = has_form text (content_of job) is in
    written_short text (content_of job) form (job_sound text job are form)

-- the job of some text is the job of what is written of it
pub read_back : (text : List ℕ) (job : Job) → All (λ (program : List ℕ × Parts). AreBytes program.1.image) (zip (content_of job).names (content_of job).programs) → job_of text ≡ Ok (content_of job) → job_of (job_written (content_of job)) ≡ Ok (content_of job)
read_back text job are is =
    let content = content_of job in
    let form = has_form text content is in
    form_read (job_written content) content (written_form text content form (job_sound text job are form))

-- the job of a text can be run
job_ready : (text : List ℕ) (job : Job) → job_of text ≡ Ok (content_of job) → IsReady job
job_ready text job is =
    let content = content_of job in
    let form = has_form text content is in
    let names : length content.names ≡ length job.names.items = length-map job.names.items (λ (name : ArrayVec ℕ). name.items) in
    let programs : length content.programs ≡ length job.programs.items = length-map job.programs.items parts_of in
    let many = as_many [] (length form.blank + 2) content.names content.programs form.program_lines form.programs in
    record {
      frames = form.frames.range;
      named = sym names ∙ many ∙ programs;
      names = job_names job.names.items (length form.blank + 2) content.programs form.program_lines form.programs;
      events = subst (λ (n : ℕ). All (IsEventAmong n) job.events.items) (many ∙ programs) (events_among content.names 0 form.event_lines content.events form.events);
      few = form.few_events;
    }

pub answer_ready : (text : List ℕ) (result : Result Job JobFault) → IsJobAnswer result (job_of text) → IfOk result IsReady
answer_ready text case_2 answer = grind (arith, nat_tests, job_ready)
