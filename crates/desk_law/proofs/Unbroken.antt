-- Bytes without a line feed, and the lines of a report.
use Rattle.desk_law.proofs.Common.{◌==◌, ◌||◌, slice_index, decimal, list_any, join_with_byte, ReportLine, line_text, printed, IsUnbroken, nat_tests, ◌≡◌, ℕ, zero, suc, ◌/◌, ◌%◌, Bool, false, List, [], ◌∷◌, ◌++◌, map, refl, codes, arith}
use Rattle.std.specs.Fmt.{digits, digits_onto, digit_glyph}
use Rattle.byteorder.specs.Endian.{big_bytes}
use Rattle.hex.specs.Hex.{encode_with, encode_lower}
use Rattle.desk.specs.ReportLines as line

or_parts : (a b : Bool) → a || b ≡ false → (a ≡ false) × (b ≡ false)
or_parts a b h1 = grind (arith, nat_tests)

pub unbroken_first : (x : ℕ) (xs : List ℕ) → IsUnbroken (x ∷ xs) → (x == 10) ≡ false
unbroken_first x xs is = (or_parts (x == 10) (list_any (λ byte. byte == 10) xs) is).0

pub unbroken_rest : (x : ℕ) (xs : List ℕ) → IsUnbroken (x ∷ xs) → IsUnbroken xs
unbroken_rest x xs is = (or_parts (x == 10) (list_any (λ byte. byte == 10) xs) is).1

pub unbroken_more : (x : ℕ) (xs : List ℕ) → (x == 10) ≡ false → IsUnbroken xs → IsUnbroken (x ∷ xs)
unbroken_more x xs one two = grind (arith, nat_tests)

pub unbroken_on : (xs ys : List ℕ) → IsUnbroken xs → IsUnbroken ys → IsUnbroken (xs ++ ys)
unbroken_on [] ys one two = two
unbroken_on (x ∷ xs) ys one two = unbroken_more x (xs ++ ys) (unbroken_first x xs one) (unbroken_on xs ys (unbroken_rest x xs one) two)

digits_onto-unbroken : (k n : ℕ) (acc : List ℕ) → IsUnbroken acc → IsUnbroken (digits_onto k 10 false n acc)
digits_onto-unbroken zero n acc is = is
digits_onto-unbroken (suc k) n acc is =
    grind (arith, nat_tests, unbroken_more, digits_onto-unbroken k (n / 10) (digit_glyph false (n % 10) ∷ acc))

pub decimal-unbroken : (n : ℕ) → IsUnbroken (decimal n)
unfolding digits
decimal-unbroken n = digits_onto-unbroken 64 n [] refl

index-unbroken : (xs : List ℕ) (k : ℕ) → IsUnbroken xs → (slice_index xs k == 10) ≡ false
index-unbroken [] k is = refl
index-unbroken (x ∷ xs) zero is = unbroken_first x xs is
index-unbroken (x ∷ xs) (suc k) is = index-unbroken xs k (unbroken_rest x xs is)

hex-unbroken : (table bytes : List ℕ) → IsUnbroken table → IsUnbroken (encode_with table bytes)
unfolding encode_with
hex-unbroken table [] is = refl
hex-unbroken table (byte ∷ bytes) is = grind (arith, nat_tests, hex-unbroken table bytes is, unbroken_more, index-unbroken)

printed-unbroken : (bytes : List ℕ) → IsUnbroken (printed bytes)
printed-unbroken bytes = grind (arith, nat_tests, hex-unbroken)

-- words without line feeds
abbrev pub AreUnbroken : List (List ℕ) → Type 0
AreUnbroken [] = Unit {0}
AreUnbroken (word ∷ words) = IsUnbroken word × AreUnbroken words

joined-unbroken : (words : List (List ℕ)) → AreUnbroken words → IsUnbroken (join_with_byte 32 words)
joined-unbroken [] are = refl
joined-unbroken (word ∷ []) are = are.0
joined-unbroken (word ∷ next ∷ words) are =
    unbroken_on word (32 ∷ join_with_byte 32 (next ∷ words)) are.0 (unbroken_more 32 (join_with_byte 32 (next ∷ words)) refl (joined-unbroken (next ∷ words) are.1))

decimals-unbroken : (numbers : List ℕ) → AreUnbroken (map decimal numbers)
decimals-unbroken [] = tt
decimals-unbroken (number ∷ numbers) = (decimal-unbroken number, decimals-unbroken numbers)

-- the words of a line
abbrev pub words_of : ReportLine → List (List ℕ)
words_of (line.Open number) = codes "open" ∷ decimal number ∷ []
words_of (line.Begin activation name) = codes "begin" ∷ decimal activation ∷ name ∷ []
words_of (line.Busy activation name) = codes "busy" ∷ decimal activation ∷ name ∷ []
words_of (line.NoSegment activation name segment) = codes "nosegment" ∷ decimal activation ∷ name ∷ decimal segment ∷ []
words_of (line.Idle activation) = codes "idle" ∷ decimal activation ∷ []
words_of (line.Turn activation ran pages locks) =
    codes "turn" ∷ decimal activation ∷ codes "ran" ∷ decimal ran ∷ codes "page" ∷ decimal pages ∷ codes "lock" ∷ decimal locks ∷ []
words_of (line.Cycle members) = codes "cycle" ∷ map decimal members
words_of (line.Victim activation) = codes "victim" ∷ decimal activation ∷ []
words_of (line.Commit activation number steps out) =
    codes "commit" ∷ decimal activation ∷ codes "number" ∷ decimal number ∷ codes "steps" ∷ decimal steps ∷ codes "out" ∷ printed out ∷ []
words_of (line.Check activation code address) =
    codes "check" ∷ decimal activation ∷ codes "code" ∷ decimal code ∷ codes "at" ∷ encode_lower (big_bytes 4 address) ∷ []
words_of (line.Wait activation holders) = codes "wait" ∷ decimal activation ∷ codes "for" ∷ map decimal holders
words_of (line.Journal activation lines limit) =
    codes "journal" ∷ decimal activation ∷ codes "lines" ∷ decimal lines ∷ codes "limit" ∷ decimal limit ∷ []
words_of (line.Disk activation) = codes "disk" ∷ decimal activation ∷ []
words_of (line.Doubt activation number) = codes "doubt" ∷ decimal activation ∷ codes "number" ∷ decimal number ∷ []
words_of line.Closed = codes "closed" ∷ []
words_of (line.Stored number) = codes "stored" ∷ decimal number ∷ []
words_of (line.Lost activation) = codes "lost" ∷ decimal activation ∷ []
words_of (line.Left activation) = codes "left" ∷ decimal activation ∷ []
words_of (line.End number) = codes "end" ∷ decimal number ∷ []

-- the bytes of a line without its line feed
abbrev pub body_of : ReportLine → List ℕ
body_of line = join_with_byte 32 (words_of line)

pub text_is : (one : ReportLine) → line_text one ≡ body_of one ++ 10 ∷ []
text_is one = grind (arith, nat_tests)

-- a line whose name, if it has one, has no line feed
abbrev pub IsPlain : ReportLine → Type 0
IsPlain (line.Begin activation name) = IsUnbroken name
IsPlain (line.Busy activation name) = IsUnbroken name
IsPlain (line.NoSegment activation name segment) = IsUnbroken name
IsPlain _ = Unit {0}

words-unbroken : (one : ReportLine) → IsPlain one → AreUnbroken (words_of one)
words-unbroken one is = grind (arith, nat_tests, decimals-unbroken, decimal-unbroken, printed-unbroken, hex-unbroken)

pub body-unbroken : (one : ReportLine) → IsPlain one → IsUnbroken (body_of one)
body-unbroken one is = joined-unbroken (words_of one) (words-unbroken one is)
