-- Runs of bytes that pass a test, and the tokens of a line, as they are found one after the other.
use Rattle.asm_parse.proofs.Common.{◌≡◌, ℕ, zero, suc, ◌+◌, ◌≤◌, ◌≢◌, true, false, List, [], ◌∷◌, ◌++◌, length, take, drop, Option, Result, Ok, Err, refl, sym, ap, ◌∙◌, arith, append_assoc, append-nil, length-append, add-one, is_ascii_alphanumeric, is_ascii_digit, prefix_len, IsAscii, nat_tests, literal_number, Token, Begin, begin_at, begins_word, token_before, continues_word, is_blank, more_of, number_begins, then_tokens, tokens_past, word_begins, Bool, list_all, take_while, kept_tokens, take_all, take_at, ◌<◌}
use Rattle.std.proofs.lemmas.Str.Ascii.{IsAscii-nil, IsAscii-cons}
use Rattle.std.proofs.lemmas.List.Sums.{take_while-cons}

-- a list doesn't go on with a byte that passes
abbrev pub Stops : (ℕ → Bool) → List ℕ → Type 0
Stops test [] = Unit {0}
Stops test (byte ∷ bytes) = test byte ≡ false

-- a run of bytes that pass is as long as it is
pub run_length : (test : ℕ → Bool) (run tail : List ℕ) → list_all test run ≡ true → Stops test tail → prefix_len test (run ++ tail) ≡ length run
run_length test [] [] pass stops = refl
run_length test [] (byte ∷ tail) pass stops = rw stops refl
run_length test (byte ∷ run) tail pass stops = grind (arith, nat_tests, run_length test run tail)

-- what is taken while a test passes passes it
pub taken_pass : (test : ℕ → Bool) (bytes : List ℕ) → list_all test (take_while test bytes) ≡ true
taken_pass test [] = refl
taken_pass test (byte ∷ bytes) = rw (take_while-cons test byte bytes) (grind (arith, taken_pass test bytes))

-- bytes that pass one test pass another that is weaker
pub each_also : (test other : ℕ → Bool) (bytes : List ℕ) → ((byte : ℕ) → test byte ≡ true → other byte ≡ true) → list_all test bytes ≡ true → list_all other bytes ≡ true
each_also test other [] weaker pass = refl
each_also test other (byte ∷ bytes) weaker pass = grind (arith, weaker byte, each_also test other bytes weaker)

-- tokens behind those that were found, of which the first 64 are kept
abbrev pub behind : List Token → Result (List Token) ℕ → Result (List Token) ℕ
behind found (Ok tokens) = Ok (take 64 (found ++ tokens))
behind found (Err kind) = Err kind

pub behind_none : (others : Result (List Token) ℕ) → behind [] others ≡ kept_tokens others
behind_none others = grind (arith, nat_tests)

-- a token that isn't kept changes nothing
pub behind_full : (found : List Token) (token : Token) (others : Result (List Token) ℕ) → length found ≡ 64 → behind found others ≡ behind found (token_before token others)
behind_full found token (Err kind) full = refl
behind_full found token (Ok tokens) full = ap Ok (take_at found tokens 64 full ∙ sym (take_at found (token ∷ tokens) 64 full))

-- what was found is kept
pub found_kept : (found : List Token) → length found ≤ 64 → take 64 (found ++ []) ≡ found
found_kept found few = ap (take 64) (append-nil found) ∙ take_all 64 found few

behind_one : (found : List Token) (token : Token) (others : Result (List Token) ℕ) → behind (found ++ token ∷ []) others ≡ behind found (token_before token others)
behind_one found token others = grind (arith, nat_tests, append_assoc)

-- a token is kept
pub pushed : (found new : List Token) (token : Token) (others whole : Result (List Token) ℕ) → new ≡ found ++ token ∷ [] → behind found (token_before token others) ≡ whole → behind new others ≡ whole
pushed found new token others whole is so_far = rw is (behind_one found token others ∙ so_far)

pub pushed_few : (found new : List Token) (token : Token) → length found < 64 → new ≡ found ++ token ∷ [] → length new ≤ 64
pushed_few found new token few is = omega (arith, few, ap length is, length-append found (token ∷ []))

-- what is passed over is left out
pub passed : (bytes : List ℕ) (n : ℕ) → tokens_past bytes n ≡ tokens_past (drop n bytes) 0
unfolding tokens_past
passed bytes zero = refl
passed [] (suc n) = refl
passed (byte ∷ rest) (suc n) = passed rest n

-- the tokens from a byte on are what begins there and the tokens behind it
pub from_byte : (byte : ℕ) (rest : List ℕ) → tokens_past (byte ∷ rest) 0 ≡ then_tokens (begin_at byte rest) (tokens_past (drop (more_of (begin_at byte rest)) rest) 0)
unfolding tokens_past
from_byte byte rest = ap (then_tokens (begin_at byte rest)) (passed rest (more_of (begin_at byte rest)))

pub from_none : tokens_past [] 0 ≡ Ok []
unfolding tokens_past
from_none = refl

-- what was found and the tokens from a byte on, by what begins there
pub step : (found : List Token) (left rest : List ℕ) (first : ℕ) (begin : Begin) (whole : Result (List Token) ℕ) → left ≡ first ∷ rest → begin ≡ begin_at first rest → behind found (tokens_past left 0) ≡ whole → behind found (then_tokens begin (tokens_past (drop (more_of begin) rest) 0)) ≡ whole
step found left rest first begin whole split is so_far = rw (is, ← from_byte first rest, ← split) so_far

tail_ascii : (rest : List ℕ) → IsAscii (take (prefix_len continues_word rest) rest)
tail_ascii [] = IsAscii-nil
tail_ascii (byte ∷ rest) =
    let same : 1 + prefix_len continues_word rest ≡ suc (prefix_len continues_word rest) = omega arith in
    let others = tail_ascii rest in
    grind (arith, nat_tests, same, others, IsAscii-nil, IsAscii-cons byte (take (prefix_len continues_word rest) rest))

-- the first byte and those behind it
pub front : (left rest : List ℕ) (first more : ℕ) → left ≡ first ∷ rest → take (more + 1) left ≡ first ∷ take more rest
front left rest first more split = rw (split, add-one) refl

-- a word is of bytes below 128
pub word_ascii : (left rest : List ℕ) (first more : ℕ) → left ≡ first ∷ rest → begins_word first ≡ true → more ≡ prefix_len continues_word rest → IsAscii (take (more + 1) left)
word_ascii left rest first more split begin_at is = grind (arith, nat_tests, front, IsAscii-cons, tail_ascii)

-- how far what begins reaches
pub word_inside : (more n : ℕ) (bytes : List ℕ) → more ≤ n → more_of (word_begins more bytes) ≤ n
word_inside more n bytes h = grind arith

pub number_inside : (more n : ℕ) (o : Option ℕ) → more ≤ n → more_of (number_begins more o) ≤ n
number_inside more n o h = grind (arith, nat_tests)

-- what begins where a word does, and where a number does
pub begins_with_word : (left rest : List ℕ) (first more : ℕ) (begin : Begin) → left ≡ first ∷ rest → false ≡ is_blank first → first ≢ 59 → true ≡ begins_word first → more ≡ prefix_len continues_word rest → begin ≡ word_begins more (take (more + 1) left) → begin ≡ begin_at first rest
begins_with_word left rest first more begin split blank comment word is made =
    let text = front left rest first more split in
    grind (arith, nat_tests, blank, comment, word, is, made, text)

pub begins_with_digit : (left rest : List ℕ) (first more : ℕ) (begin : Begin) → left ≡ first ∷ rest → false ≡ is_blank first → first ≢ 59 → false ≡ begins_word first → true ≡ is_ascii_digit first → more ≡ prefix_len is_ascii_alphanumeric rest → begin ≡ number_begins more (literal_number (take (more + 1) left)) → begin ≡ begin_at first rest
begins_with_digit left rest first more begin split blank comment word digit is made =
    let text = front left rest first more split in
    grind (arith, nat_tests, blank, comment, word, digit, is, made, text)

-- what was found is all that is kept where no byte is left
pub behind_all : (found : List Token) (left : List ℕ) (whole : Result (List Token) ℕ) → length found ≤ 64 → length left ≡ 0 → behind found (tokens_past left 0) ≡ whole → whole ≡ Ok found
behind_all found [] whole few none so_far = sym so_far ∙ ap (behind found) from_none ∙ ap Ok (found_kept found few)
behind_all found (byte ∷ left) whole few none so_far = absurd (omega arith)
