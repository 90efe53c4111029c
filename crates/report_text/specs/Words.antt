-- A line as its words.
use Rattle.std.specs.Prelude.{◌≡◌, ℕ, ◌<◌, ◌^◌, ◌==◌, nat_lt, Bool, true, List, [], ◌∷◌, map, codes, decimal, All}
use Rattle.std.specs.List.{AllByRecursion, join_with_byte, list_all}
use Rattle.byteorder.specs.Endian.{big_bytes}
use Rattle.hex.specs.Hex.{encode_lower}
use Rattle.desk.specs.ReportLines.{ReportLine, Open, Begin, Busy, NoSegment, Idle, Turn, Cycle, Victim, Commit, Check, Wait, Journal, Disk, Doubt, Closed, Stored, Lost, Left, End, printed}

-- a space
abbrev pub is_space : ℕ → Bool
is_space byte = byte == 32

-- a line feed
abbrev pub is_line_feed : ℕ → Bool
is_line_feed byte = byte == 10

-- the bytes of a word all come behind the space
abbrev pub IsOneWord : List ℕ → Type 0
IsOneWord word = list_all (nat_lt 32) word ≡ true

-- a text is these words, with a space between two
abbrev pub AreWordsOf : List ℕ → List (List ℕ) → Type 0
AreWordsOf text words = text ≡ join_with_byte 32 words

-- where a text is a word and others behind it, these are that word and the text of the others
abbrev pub IsSplit : (text first rest : List ℕ) → Type 0
IsSplit text first rest =
    (word : List ℕ) (words : List (List ℕ)) → IsOneWord word → AreWordsOf text (word ∷ words) → (first ≡ word) × AreWordsOf rest words

-- where a text is a word and others behind it, this is the text of the others
abbrev pub IsTextBehind : (text rest : List ℕ) → Type 0
IsTextBehind text rest = (word : List ℕ) (words : List (List ℕ)) → IsOneWord word → AreWordsOf text (word ∷ words) → AreWordsOf rest words

-- where a text is a number of so many bits and words behind it, these are that number and the text of the words
abbrev pub IsFirstNumber : (bits : ℕ) → (text : List ℕ) → (number : ℕ) → (rest : List ℕ) → Type 0
IsFirstNumber bits text number rest =
    (n : ℕ) (words : List (List ℕ)) → n < 2 ^ bits → AreWordsOf text (decimal n ∷ words) → (number ≡ n) × AreWordsOf rest words

-- where a text is numbers of 32 bits, these are they
abbrev pub AreSmallNumbers : (text numbers : List ℕ) → Type 0
AreSmallNumbers text numbers = (ns : List ℕ) → AllByRecursion (λ n. n < 2 ^ 32) ns → AreWordsOf text (map decimal ns) → numbers ≡ ns

-- where a word is printed bytes, these are they
abbrev pub ArePrinted : (word bytes : List ℕ) → Type 0
ArePrinted word bytes = (out : List ℕ) → All (λ byte. byte < 256) out → word ≡ printed out → bytes ≡ out

-- the word that a line begins with
abbrev pub first_word : ReportLine → List ℕ
first_word (Open number) = codes "open"
first_word (Begin activation name) = codes "begin"
first_word (Busy activation name) = codes "busy"
first_word (NoSegment activation name segment) = codes "nosegment"
first_word (Idle activation) = codes "idle"
first_word (Turn activation ran pages locks) = codes "turn"
first_word (Cycle members) = codes "cycle"
first_word (Victim activation) = codes "victim"
first_word (Commit activation number steps out) = codes "commit"
first_word (Check activation code address) = codes "check"
first_word (Wait activation holders) = codes "wait"
first_word (Journal activation lines limit) = codes "journal"
first_word (Disk activation) = codes "disk"
first_word (Doubt activation number) = codes "doubt"
first_word Closed = codes "closed"
first_word (Stored number) = codes "stored"
first_word (Lost activation) = codes "lost"
first_word (Left activation) = codes "left"
first_word (End number) = codes "end"

-- the words behind it
abbrev pub words_behind : ReportLine → List (List ℕ)
words_behind (Open number) = decimal number ∷ []
words_behind (Begin activation name) = decimal activation ∷ name ∷ []
words_behind (Busy activation name) = decimal activation ∷ name ∷ []
words_behind (NoSegment activation name segment) = decimal activation ∷ name ∷ decimal segment ∷ []
words_behind (Idle activation) = decimal activation ∷ []
words_behind (Turn activation ran pages locks) =
    decimal activation ∷ codes "ran" ∷ decimal ran ∷ codes "page" ∷ decimal pages ∷ codes "lock" ∷ decimal locks ∷ []
words_behind (Cycle members) = map decimal members
words_behind (Victim activation) = decimal activation ∷ []
words_behind (Commit activation number steps out) =
    decimal activation ∷ codes "number" ∷ decimal number ∷ codes "steps" ∷ decimal steps ∷ codes "out" ∷ printed out ∷ []
words_behind (Check activation code address) =
    decimal activation ∷ codes "code" ∷ decimal code ∷ codes "at" ∷ encode_lower (big_bytes 4 address) ∷ []
words_behind (Wait activation holders) = decimal activation ∷ codes "for" ∷ map decimal holders
words_behind (Journal activation lines limit) =
    decimal activation ∷ codes "lines" ∷ decimal lines ∷ codes "limit" ∷ decimal limit ∷ []
words_behind (Disk activation) = decimal activation ∷ []
words_behind (Doubt activation number) = decimal activation ∷ codes "number" ∷ decimal number ∷ []
words_behind Closed = []
words_behind (Stored number) = decimal number ∷ []
words_behind (Lost activation) = decimal activation ∷ []
words_behind (Left activation) = decimal activation ∷ []
words_behind (End number) = decimal number ∷ []

-- the list of numbers that a line has: the members of a cycle, or the holders of a wait
abbrev pub numbers_in : ReportLine → List ℕ
numbers_in (Cycle members) = members
numbers_in (Wait activation holders) = holders
numbers_in _ = []

-- the bytes that a line tells were printed
abbrev pub bytes_printed : ReportLine → List ℕ
bytes_printed (Commit activation number steps out) = out
bytes_printed _ = []
