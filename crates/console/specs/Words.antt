-- The words of the command line.
use Rattle.std.specs.Prelude.{◌≡◌, ◌≢◌, ◌⊎◌, ℕ, ◌-◌, ◌/◌, ◌%◌, ◌^◌, ◌<◌, ◌≤◌, ◌==◌, nat_le, if◌then◌else◌, Bool, true, false, List, [], ◌∷◌, map, length, take, slice_index, codes, Option, Some, None, option_map, String, string_bytes, MatchOption, ◌+◌, All, ◌++◌}
use Rattle.std.specs.Str.Parse.{IsNumeral, digits_value}
use Rattle.console.specs.Below.{AreFlags, Global, HasRanges, AreSegmentsLegal, IsInRange}
use Rattle.asm_parse.specs.Number.{radix_number}
use Rattle.lines.specs.declared.line_geometry.PageSize.{PageSize}
use Rattle.lines.specs.declared.line_geometry.PageSize.TheVariants.{Two, Four}
use Rattle.console.specs.declared.command_words.Command.{Command}
use Rattle.console.specs.declared.command_words.Command.TheVariants as command
use Rattle.store_calls.specs.declared.show.Range.{Range}
use Rattle.store_format.specs.Header.{Header}
use Rattle.lines.specs.Directory.{Layout}
use Rattle.arrayvec.specs.ArrayVec.{ArrayVec}

-- the word that makes a store, by the size of its pages
abbrev pub new_word : PageSize → List ℕ
new_word Two = codes "new"
new_word Four = codes "new2"

-- the word of a command
abbrev pub word_of : Command → List ℕ
word_of command.Try = codes "try"
word_of command.Run = codes "run"
word_of command.List = codes "list"
word_of command.Drill = codes "drill"
word_of (command.Show range) = codes "show"
word_of (command.New header) = new_word header.directory.page
word_of (command.Renew bank) = codes "renew"
word_of (command.Ship from) = codes "ship"
word_of command.Follow = codes "follow"
word_of (command.Big transfers) = codes "big"
word_of command.Audit = codes "audit"
word_of (command.Trace activation) = codes "trace"

-- the number of a word: one to ten decimal digits, which write at most 4,294,967,295
abbrev pub argument_number : List ℕ → Option ℕ
argument_number word = if nat_le (length word) 10 then radix_number 10 word else None

-- The word is this long number: one to twenty decimal digits, which write at most 18,446,744,073,709,551,615.
pub record IsLong (word : List ℕ) (number : ℕ) : Type 0 where
  pub few : length word ≤ 20
  pub digits : IsNumeral 10 word
  pub value : digits_value 10 word ≡ number
  pub fits : number < 2 ^ 64

-- whether the last byte of a word is the letter `f`
abbrev pub ends_marked : List ℕ → Bool
ends_marked word = slice_index word (length word - 1) == 102

-- the number that a word says, and whether the mark `f` stands behind its digits
abbrev pub marked_of : List ℕ → Option (ℕ × Bool)
marked_of word =
    if ends_marked word then option_map (λ number. (number, true)) (argument_number (take (length word - 1) word))
    else option_map (λ number. (number, false)) (argument_number word)

-- these words are these numbers, each with its mark or without
abbrev pub AreNumbers : List (List ℕ) → List (ℕ × Bool) → Type 0
AreNumbers words numbers = map marked_of words ≡ map (λ number. Some number) numbers

-- numbers without a mark
abbrev pub plain : List ℕ → List (ℕ × Bool)
plain numbers = map (λ number. (number, false)) numbers

-- the numbers of segments: the identifier of each, and its pages, which are marked where the segment is fine: the lowest flag is the first's
abbrev pub spread : List (ℕ × ℕ) → ℕ → List (ℕ × Bool)
spread [] fine = []
spread (segment ∷ rest) fine = (segment.0, false) ∷ (segment.1, fine % 2 == 1) ∷ spread rest (fine / 2)

-- the numbers of a command: a range's segment, first offset and number of bytes, or a bank's bytes, and the segments of a new store
abbrev pub numbers_of : Command → List (ℕ × Bool)
numbers_of (command.Show range) = plain (range.segment ∷ range.from ∷ range.count ∷ [])
numbers_of (command.New header) = (header.bank_bytes, false) ∷ spread header.directory.segments header.directory.fine
numbers_of (command.Renew bank) = plain (bank ∷ [])
numbers_of _ = []

-- they are within their bounds: at most 65,536 bytes are shown, a new store has a header, in which only pages of 4,096 bytes are fine, a renewed one has a bank of a header, and a load has 1 to 512 transfers
abbrev pub AreBounded : Command → Type 0
AreBounded (command.Show range) = range.count ≤ 65536
AreBounded (command.New header) = HasRanges header × AreSegmentsLegal header.directory.segments × AreFlags header.directory.page header.directory.segments header.directory.fine
AreBounded (command.Renew bank) = (4096 ≤ bank) × (bank ≤ 131072)
AreBounded (command.Big transfers) = (1 ≤ transfers) × (transfers ≤ 512)
AreBounded _ = Unit {0}

-- a command whose word stands alone
abbrev pub StandsAlone : Command → Type 0
StandsAlone command.Try = Unit {0}
StandsAlone command.List = Unit {0}
StandsAlone command.Drill = Unit {0}
StandsAlone command.Audit = Unit {0}
StandsAlone _ = ⊥

-- a command whose word stands with a number
abbrev pub IsNumbered : Command → Type 0
IsNumbered (command.Big transfers) = Unit {0}
IsNumbered (command.Trace activation) = Unit {0}
IsNumbered _ = ⊥

-- that number: the transfers of a load, or the activation whose trace is asked for
abbrev pub number_said : Command → ℕ
number_said (command.Big transfers) = transfers
number_said (command.Trace activation) = activation
number_said _ = 0

-- a command that names a store
abbrev pub IsOnStore : Command → Type 0
IsOnStore command.Run = Unit {0}
IsOnStore (command.Show range) = Unit {0}
IsOnStore (command.New header) = Unit {0}
IsOnStore (command.Renew bank) = Unit {0}
IsOnStore command.Follow = Unit {0}
IsOnStore _ = ⊥

-- the words are a command's word, a store, which is any word that isn't empty, and the command's numbers
pub record NamesStore (form : Command) (words : List (List ℕ)) : Type 0 where
  pub store : List ℕ
  pub some : store ≢ []
  pub numbers : List (List ℕ)
  pub are : words ≡ word_of form ∷ store ∷ numbers
  pub say : AreNumbers numbers (numbers_of form)

-- the words are a command's word and its number
pub record SaysNumber (form : Command) (words : List (List ℕ)) : Type 0 where
  pub number : List ℕ
  pub are : words ≡ word_of form ∷ number ∷ []
  pub say : argument_number number ≡ Some (number_said form)

-- The words are that of shipping, a store, which is any word that isn't empty, and a long number.
pub record ShipsFrom (from : ℕ) (words : List (List ℕ)) : Type 0 where
  pub store : List ℕ
  pub some : store ≢ []
  pub number : List ℕ
  pub are : words ≡ word_of (command.Ship from) ∷ store ∷ number ∷ []
  pub say : IsLong number from

-- the words say a command: its word alone, with a number, or with a store and its numbers
abbrev pub Says : Command → List (List ℕ) → Type 0
Says command.Try words = words ≡ word_of command.Try ∷ []
Says command.List words = words ≡ word_of command.List ∷ []
Says command.Drill words = words ≡ word_of command.Drill ∷ []
Says command.Audit words = words ≡ word_of command.Audit ∷ []
Says (command.Big transfers) words = SaysNumber (command.Big transfers) words
Says (command.Trace activation) words = SaysNumber (command.Trace activation) words
Says (command.Ship from) words = ShipsFrom from words
Says form words = NamesStore form words

-- the words are a command
pub record IsForm (form : Command) (words : List (String Global)) : Type 0 where
  pub says : Says form (map string_bytes words)
  pub within : AreBounded form

-- the words are no command
abbrev pub IsNoForm : List (String Global) → Type 0
IsNoForm words = (form : Command) → ¬ (IsForm form words)

-- the words ask for a job to be run: `try`, or `run` with a store
abbrev pub RunsJob : List (String Global) → Type 0
RunsJob words = IsForm command.Try words ⊎ IsForm command.Run words

-- and for one to be read: those, `list` or `drill`
abbrev pub ReadsJob : List (String Global) → Type 0
ReadsJob words = RunsJob words ⊎ IsForm command.List words ⊎ IsForm command.Drill words

-- the words ask for a session: those that run a job, or a load
abbrev pub OpensSession : List (String Global) → Type 0
OpensSession words = RunsJob words ⊎ ((transfers : ℕ) × IsForm (command.Big transfers) words)

-- the words ask for a bundle to be read: `audit`, or `trace` with an activation
abbrev pub ReadsBundle : List (String Global) → Type 0
ReadsBundle words = IsForm command.Audit words ⊎ ((activation : ℕ) × IsForm (command.Trace activation) words)

-- the words ask for a store to be read from the source: `renew` with a bank
abbrev pub ReadsStore : List (String Global) → Type 0
ReadsStore words = (bank : ℕ) × IsForm (command.Renew bank) words

-- the words ask for a ship text to be read: `follow`
abbrev pub ReadsText : List (String Global) → Type 0
ReadsText words = IsForm command.Follow words

-- one that has this, and none only where nothing has it
abbrev pub FindsOne : {A : Type 0} → (A → Type 0) → Option A → Type 0
FindsOne has found = MatchOption found ((one : _) → ¬ (has one)) has

-- the words are a command with a number
abbrev pub IsNumberedForm : List (String Global) → Command → Type 0
IsNumberedForm words form = IsNumbered form × IsForm form words

-- a word and a number are a command within its bounds
abbrev pub IsCommandWith : (word number : List ℕ) → Command → Type 0
IsCommandWith word number form = IsNumbered form × (word ≡ word_of form) × (argument_number number ≡ Some (number_said form)) × AreBounded form

-- one word alone is a command
abbrev pub IsCommandAlone : (word : List ℕ) → Command → Type 0
IsCommandAlone word form = StandsAlone form × (word ≡ word_of form)

-- a word with a store and these numbers is a command within its bounds
abbrev pub IsCommandOn : (word : List ℕ) → (numbers : List (ℕ × Bool)) → Command → Type 0
IsCommandOn word numbers form = IsOnStore form × (word ≡ word_of form) × (numbers ≡ numbers_of form) × AreBounded form

-- these numbers are a range that may be shown
abbrev pub IsRangeOf : (numbers : List (ℕ × Bool)) → Range → Type 0
IsRangeOf numbers range = (numbers ≡ plain (range.segment ∷ range.from ∷ range.count ∷ [])) × (range.count ≤ 65536)

-- these numbers are the bytes of a bank of a header
abbrev pub IsBankSize : (numbers : List (ℕ × Bool)) → (bank : ℕ) → Type 0
IsBankSize numbers bank = (numbers ≡ plain (bank ∷ [])) × (4096 ≤ bank) × (bank ≤ 131072)

-- these numbers are a header with pages of this size
abbrev pub IsHeaderOf : PageSize → (numbers : List (ℕ × Bool)) → Header → Type 0
IsHeaderOf page numbers header =
    (header.directory.page ≡ page) × (numbers ≡ numbers_of (command.New header)) × AreBounded (command.New header)

-- these numbers are the segments of a directory with pages of this size
abbrev pub IsDirectoryOf : PageSize → (numbers : List (ℕ × Bool)) → Layout → Type 0
IsDirectoryOf page numbers directory =
    (directory.page ≡ page) × (numbers ≡ spread directory.segments directory.fine) × AreSegmentsLegal directory.segments
    × AreFlags page directory.segments directory.fine

-- segments were added that these numbers are, with their flags; none where numbers are no segments, or there is no room
abbrev pub AddsSegments : (numbers : List (ℕ × Bool)) → (old new : List (ℕ × ℕ)) → Option ℕ → Type 0
AddsSegments numbers old new found =
    MatchOption found
    ((more : List (ℕ × ℕ)) (fine : ℕ) → numbers ≡ spread more fine → length old + length more ≤ 15 → ¬ (All IsInRange more))
    (λ fine. (more : List (ℕ × ℕ)) × (numbers ≡ spread more fine) × (new ≡ old ++ more) × (fine < 2 ^ length more))

-- an identifier and pages as they are kept; none where they are in no range
abbrev pub IsSegmentOf : (identifier pages : ℕ) → Option (ℕ × ℕ) → Type 0
IsSegmentOf identifier pages found =
    MatchOption found (¬ (IsInRange (identifier, pages))) (λ segment. (segment.0 ≡ identifier) × (segment.1 ≡ pages))

-- the numbers that words are; none where they are none, or more than a form has
abbrev pub AreNumbersOf : List (String Global) → Option (ArrayVec (ℕ × Bool)) → Type 0
AreNumbersOf words found =
    MatchOption found
    ((numbers : List (ℕ × Bool)) → length numbers ≤ 31 → ¬ (AreNumbers (map string_bytes words) numbers))
    (λ numbers. AreNumbers (map string_bytes words) numbers.items)
