-- What a text can only be, if it is that of a line.
use Rattle.std.specs.Prelude.{◌≡◌, ℕ, ◌<◌, ◌^◌, List, [], ◌∷◌, map, decimal}
use Rattle.desk.specs.ReportLines as report
use Rattle.desk.specs.ReportLines.{printed}
use Rattle.report_text.specs.ReadLines.{LineHasWidths, MayBePut}
use Rattle.report_text.specs.Words.{AreWordsOf, bytes_printed, first_word, numbers_in, words_behind}

-- a text without its line feed is that of a line
abbrev pub IsUnendedText : List ℕ → report.ReportLine → Type 0
IsUnendedText text line = AreWordsOf text (first_word line ∷ words_behind line)

-- these are the lists of each line that a text without its line feed is
abbrev pub AreListsOf : (text numbers bytes : List ℕ) → Type 0
AreListsOf text numbers bytes =
    (line : report.ReportLine) → MayBePut line → IsUnendedText text line → (numbers ≡ numbers_in line) × (bytes ≡ bytes_printed line)

-- these are the numbers listed in each line of a first word and the words behind it
abbrev pub AreListedNumbers : (kind rest numbers : List ℕ) → Type 0
AreListedNumbers kind rest numbers =
    (line : report.ReportLine) → MayBePut line → kind ≡ first_word line → AreWordsOf rest (words_behind line) → numbers ≡ numbers_in line

-- these are the bytes printed in each line of a first word and the words behind it
abbrev pub ArePrintedBytes : (kind rest bytes : List ℕ) → Type 0
ArePrintedBytes kind rest bytes =
    (line : report.ReportLine) → MayBePut line → kind ≡ first_word line → AreWordsOf rest (words_behind line) → bytes ≡ bytes_printed line

-- this is each line with these lists that a text without its line feed is
abbrev pub IsGuess : (text numbers bytes : List ℕ) → report.ReportLine → Type 0
IsGuess text numbers bytes told =
    (line : report.ReportLine) → MayBePut line → IsUnendedText text line → numbers ≡ numbers_in line → bytes ≡ bytes_printed line → told ≡ line

-- this is each line with these lists of a first word and the words behind it
abbrev pub IsGuessOf : (kind rest numbers bytes : List ℕ) → report.ReportLine → Type 0
IsGuessOf kind rest numbers bytes told =
    (line : report.ReportLine) → MayBePut line → kind ≡ first_word line → AreWordsOf rest (words_behind line) → numbers ≡ numbers_in line
    → bytes ≡ bytes_printed line → told ≡ line

-- a line is the other, where the words behind the first word are the other's
abbrev pub IsIfParts : (rest : List ℕ) → (told line : report.ReportLine) → Type 0
IsIfParts rest told line = LineHasWidths line → AreWordsOf rest (words_behind line) → told ≡ line

-- these are the activation and the name of each line of just these words behind the first
abbrev pub AreNamedParts : (rest : List ℕ) → (activation : ℕ) → (name : List ℕ) → Type 0
AreNamedParts rest activation name =
    (a : ℕ) (word : List ℕ) → a < 2 ^ 32 → AreWordsOf rest (decimal a ∷ word ∷ []) → (activation ≡ a) × (name ≡ word)

-- these are the numbers of each commit line of these words behind the first, and the word of its bytes
abbrev pub AreCommitParts : (rest : List ℕ) → (activation number steps : ℕ) → (word : List ℕ) → Type 0
AreCommitParts rest activation number steps word =
    (a n s : ℕ) (out : List ℕ) → a < 2 ^ 32 → n < 2 ^ 64 → s < 2 ^ 64 → AreWordsOf rest (words_behind (report.Commit a n s out))
    → (activation ≡ a) × (number ≡ n) × (steps ≡ s) × (word ≡ printed out)

-- these are the activation of each line of a wait of these words behind the first, and the text of its holders
abbrev pub AreWaitParts : (rest : List ℕ) → (activation : ℕ) → (text : List ℕ) → Type 0
AreWaitParts rest activation text =
    (a : ℕ) (holders : List ℕ) → a < 2 ^ 32 → AreWordsOf rest (words_behind (report.Wait a holders))
    → (activation ≡ a) × AreWordsOf text (map decimal holders)
