-- The bytes of a line are its words, and its only line feed is its last byte.
use Rattle.report_text.proofs.Common.{◌≡◌, ◌≢◌, ℕ, ◌+◌, ◌-◌, ◌/◌, ◌%◌, ◌^◌, ◌<◌, ◌≤◌, ◌==◌, nat_lt, not, Bool, true, false, List, [], ◌∷◌, ◌++◌, length, map, take, decimal, position, get_or, Some, None, refl, sym, ◌∙◌, ap, append_assoc, append-nil, length-append, arith, AllByRecursion, flat_map, list_all, join_with_byte, prefix_len, lt-ltb, nat_tests, take_at, All-get_or, recursion_from_All, each_also, run_length, big_bytes, ReportLine, Open, Begin, Busy, NoSegment, Idle, Turn, Cycle, Victim, Commit, Check, Wait, Journal, Disk, Doubt, Closed, Stored, Lost, Left, End, printed, line_text, MayBePut, IsOneWord, is_line_feed, first_word, words_behind, encode_lower, lower_digits}
use Rattle.hex.specs.Hex.{encode_with}
use Rattle.std.proofs.lemmas.List.Concat.{flat_map-append}
use Rattle.std.proofs.lemmas.List.Folds.{list_all-append}
use Rattle.std.proofs.lemmas.List.Sums.{AllPass-from_list_all}
use Rattle.report_text.proofs.PartLemmas.{name_word, number_word}

-- the bytes of a line are its words with a space between each two, and a line feed
pub line_words : (line : ReportLine) → line_text line ≡ join_with_byte 32 (first_word line ∷ words_behind line) ++ 10 ∷ []
line_words (Open number) = refl
line_words _ = refl

hex_digit : (k : ℕ) → k < 16 → nat_lt 32 (get_or lower_digits k 0) ≡ true
hex_digit k small =
    All-get_or (λ byte. nat_lt 32 byte ≡ true) lower_digits k 0 small (AllPass-from_list_all (nat_lt 32) lower_digits refl)

hex_word : (bytes : List ℕ) → AllByRecursion (λ byte. byte < 256) bytes → IsOneWord (encode_lower bytes)
unfolding encode_with
hex_word [] all = refl
hex_word (byte ∷ bytes) all =
    rw (hex_digit (byte / 16) (omega (arith, all.0)), hex_digit (byte % 16) (omega arith)) (hex_word bytes all.1)

printed_word : (bytes : List ℕ) → AllByRecursion (λ byte. byte < 256) bytes → IsOneWord (printed bytes)
printed_word [] all = refl
printed_word (byte ∷ bytes) all = hex_word (byte ∷ bytes) all

small_words : (ns : List ℕ) → AllByRecursion (λ n. n < 2 ^ 32) ns → AllByRecursion IsOneWord (map decimal ns)
small_words [] all = tt
small_words (n ∷ ns) all = (number_word n (omega (arith, all.0)), small_words ns all.1)

small_word : (n : ℕ) → n < 2 ^ 32 → IsOneWord (decimal n)
small_word n small = number_word n (omega arith)

-- the parts of a line are words
parts_words : (line : ReportLine) → MayBePut line → AllByRecursion IsOneWord (words_behind line)
parts_words (Open number) is = (number_word number is.0, tt)
parts_words (Begin activation name) is = (small_word activation is.0, (name_word name is.1, tt))
parts_words (Busy activation name) is = (small_word activation is.0, (name_word name is.1, tt))
parts_words (NoSegment activation name segment) is = (small_word activation is.0.0, (name_word name is.1, (small_word segment is.0.1, tt)))
parts_words (Idle activation) is = (small_word activation is.0, tt)
parts_words (Turn activation ran pages locks) is =
    (small_word activation is.0.0, (refl, (small_word ran is.0.1, (refl, (small_word pages is.0.2, (refl, (small_word locks is.0.3, tt)))))))
parts_words (Cycle members) is = small_words members (recursion_from_All (λ member. member < 2 ^ 32) members is.0)
parts_words (Victim activation) is = (small_word activation is.0, tt)
parts_words (Commit activation number steps out) is = (
  small_word activation is.0.0,
  (
    refl,
    (
      number_word number is.0.1,
      (
        refl,
        (
          number_word steps is.0.2,
          (refl, (printed_word out (recursion_from_All (λ byte. byte < 256) out is.0.3), tt)),
        ),
      ),
    ),
  ),
)
parts_words (Check activation code address) is = (
  small_word activation is.0.0,
  (
    refl,
    (
      small_word code is.0.1,
      (refl, (hex_word (big_bytes 4 address) (omega arith, (omega arith, (omega arith, (omega arith, tt)))), tt)),
    ),
  ),
)
parts_words (Wait activation holders) is =
    (small_word activation is.0.0, (refl, small_words holders (recursion_from_All (λ holder. holder < 2 ^ 32) holders is.0.1)))
parts_words (Journal activation lines limit) is =
    (small_word activation is.0.0, (refl, (small_word lines is.0.1, (refl, (small_word limit is.0.2, tt)))))
parts_words (Disk activation) is = (small_word activation is.0, tt)
parts_words (Doubt activation number) is = (small_word activation is.0.0, (refl, (number_word number is.0.1, tt)))
parts_words Closed is = tt
parts_words (Stored number) is = (number_word number is.0, tt)
parts_words (Lost activation) is = (small_word activation is.0, tt)
parts_words (Left activation) is = (small_word activation is.0, tt)
parts_words (End number) is = (number_word number is.0, tt)

kind_word : (line : ReportLine) → IsOneWord (first_word line)
kind_word (Open number) = refl
kind_word _ = refl

no_feed_in : (byte : ℕ) → nat_lt 32 byte ≡ true → not (byte == 10) ≡ true
no_feed_in byte inside = grind (arith, nat_tests)

no_feed : (words : List (List ℕ)) → AllByRecursion IsOneWord words → list_all (λ byte. not (byte == 10)) (join_with_byte 32 words) ≡ true
no_feed [] are = refl
no_feed (word ∷ []) are = each_also (nat_lt 32) (λ byte. not (byte == 10)) word no_feed_in are.0
no_feed (word ∷ next ∷ words) are =
    rw (
      list_all-append (λ byte. not (byte == 10)) word (32 ∷ join_with_byte 32 (next ∷ words)),
      each_also (nat_lt 32) (λ byte. not (byte == 10)) word no_feed_in are.0,
    ) (no_feed (next ∷ words) are.1)

-- the bytes of a line without its line feed
abbrev pub inner : ReportLine → List ℕ
inner line = join_with_byte 32 (first_word line ∷ words_behind line)

-- the first line feed of a text that begins with words and a line feed stands behind the words
pub feed_of_words : (words : List (List ℕ)) (behind : List ℕ) → AllByRecursion IsOneWord words
    → position is_line_feed ((join_with_byte 32 words ++ 10 ∷ []) ++ behind) ≡ Some (length (join_with_byte 32 words))
feed_of_words words behind are =
    let all = join_with_byte 32 words in
    let here : (all ++ 10 ∷ []) ++ behind ≡ all ++ 10 ∷ behind = append_assoc all (10 ∷ []) behind in
    let place : prefix_len (λ byte. not (byte == 10)) (all ++ 10 ∷ behind) ≡ length all =
    run_length (λ byte. not (byte == 10)) all (10 ∷ behind) (no_feed words are) refl in
    rw (here, place, lt-ltb (length all) (length (all ++ 10 ∷ behind)) (simp length-append (omega arith))) refl

-- the first line feed of a text that begins with a line ends the line
pub feed_of : (line : ReportLine) (behind : List ℕ) → MayBePut line → position is_line_feed (line_text line ++ behind) ≡ Some (length (inner line))
feed_of line behind is =
    rw (line_words line) (feed_of_words (first_word line ∷ words_behind line) behind (kind_word line, parts_words line is))

-- a line without its last byte
pub without_feed : (line : ReportLine) (text : List ℕ) → text ≡ line_text line → take (length text - 1) text ≡ inner line
without_feed line text is =
    rw (is, line_words line) (take_at (inner line) (10 ∷ []) _ (simp length-append (omega arith)))

-- what the first line of a text is, is what stands up to its first line feed
pub up_to_feed : (line : ReportLine) (behind text : List ℕ) (at : ℕ) → MayBePut line → position is_line_feed text ≡ Some at → text ≡ line_text line ++ behind
    → take (at + 1) text ≡ line_text line
up_to_feed line behind text at is place text_is =
    let here : at ≡ length (inner line) = cc (feed_of line behind is, ap (λ t. position is_line_feed t) text_is, place) in
    rw (text_is, here) (take_at (line_text line) behind (length (inner line) + 1) (rw (line_words line) (simp length-append (omega arith))))

-- a text without a line feed begins with no line
pub no_line : (line : ReportLine) (behind text : List ℕ) → MayBePut line → position is_line_feed text ≡ None → text ≢ line_text line ++ behind
no_line line behind text is place text_is = absurd (cc (feed_of line behind is, ap (λ t. position is_line_feed t) text_is, place))

-- a test isn't both
pub not_both : (test : Bool) → test ≡ false → test ≡ true → ⊥
not_both test fails passes = cc

-- a line has a byte
pub some_bytes : (line : ReportLine) → 0 < length (line_text line)
some_bytes line = rw (line_words line) (simp length-append (omega arith))

-- one line more
pub bytes_more : (text left rest : List ℕ) (lines : List ReportLine) (line : ReportLine)
    → text ≡ flat_map line_text lines ++ left → left ≡ line_text line ++ rest → text ≡ flat_map line_text (lines ++ line ∷ []) ++ rest
bytes_more text left rest lines line before is =
    rw (flat_map-append line_text lines (line ∷ []), append-nil (line_text line))
    (before ∙ rw is (sym (append_assoc (flat_map line_text lines) (line_text line) rest)))

-- fewer bytes are left
pub fewer : (text left rest : List ℕ) (line : ReportLine) (number : ℕ) → left ≡ line_text line ++ rest → number + length left ≤ length text + 1
    → number + 1 + length rest ≤ length text + 1
fewer text left rest line number is few =
    let some = some_bytes line in
    let long = ap length is ∙ length-append (line_text line) rest in
    omega arith
