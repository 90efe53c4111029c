-- The words of a command line.
use Rattle.console.proofs.Common.{FindsOne, IsCommandAlone, IsCommandOn, IsNumberedForm, Global, ParsesUnsigned, IsNumeral, digits_value, without_leading_plus, nat_tests, take_all, length-map, map-append, pow_pos, PageSize, Two, Four, AreFlags, Header, Command, AreNumbers, AreBounded, IsForm, IsLong, IsNoForm, IsOnStore, NamesStore, SaysNumber, ends_marked, marked_of, new_word, argument_number, number_said, numbers_of, plain, spread, word_of, ◌≡◌, ◌≢◌, ℕ, zero, suc, ◌+◌, ◌-◌, ◌*◌, ◌/◌, ◌%◌, ◌^◌, ◌<◌, ◌≤◌, Bool, true, false, List, [], ◌∷◌, length, get_or, map, take, take-suc, drop, refl, sym, ◌∙◌, ap, subst, arith, Option, Some, None, Result, Ok, Err, MatchResult, MatchOption, String, string_bytes, slice_index, ◌==◌, ◌++◌, option_map, codes, OnOk, is_err}
use Rattle.std.specs.Result.{OkIff}
use Rattle.std.proofs.lemmas.Bool.{le-leb}
use Rattle.asm_parse.specs.Number.{radix_number}
use Rattle.asm_parse.proofs.NumberLemmas.{as_number}
use Rattle.console.specs.declared.command_words.Command.TheVariants as command

-- a word of at most ten bytes
short : (word : List ℕ) → length word ≤ 10 → argument_number word ≡ radix_number 10 word
short word few = rw (le-leb (length word) 10 few) refl

same_none : (one two : ℕ) → one ≢ two → (one == two) ≡ false
same_none one two other = grind (arith, nat_tests)

-- what `parse` answers for a word without a sign
pub parsed : {E : Type 0} (word : List ℕ) (result : Result ℕ E) → 0 < length word → length word ≤ 10 → slice_index word 0 ≢ 43 → ParsesUnsigned 32 10 word result
    → MatchResult result (λ number. Some number ≡ argument_number word) (λ fault. None ≡ argument_number word)
parsed {E} word result some few plain gives =
    let whole : without_leading_plus word ≡ word = rw (same_none (slice_index word 0) 43 plain) refl in
    answered result (subst (λ (digits : List ℕ). OkIff result (IsNumeral 10 digits × (digits_value 10 digits < 2 ^ 32)) (digits_value 10 digits)) whole gives)
  where
    answered : (result : Result ℕ E) → OkIff result (IsNumeral 10 word × (digits_value 10 word < 2 ^ 32)) (digits_value 10 word) → MatchResult result (λ number. Some number ≡ argument_number word) (λ fault. None ≡ argument_number word)
    answered (Ok number) is = as_number 10 word (Some number) some ((is.0.0.1, is.0.1), is.1) ∙ sym (short word few)
    answered (Err fault) is = as_number 10 word None some (λ told. is ((some, told.0), told.1)) ∙ sym (short word few)

pub without_mark : (word : List ℕ) → ((front : List ℕ) → word ≢ front ++ 102 ∷ []) → marked_of word ≡ option_map (λ number. (number, false)) (argument_number word)
without_mark word other = by_end (ends_marked word) refl
  where
    ended : (word : List ℕ) → ends_marked word ≡ true → word ≡ take (length word - 1) word ++ 102 ∷ []
    ended [] ends = cc
    ended (byte ∷ word) ends =
        let last : slice_index (byte ∷ word) (length word) ≡ 102 = grind (arith, nat_tests, ends) in
        let same : length word ≡ length (byte ∷ word) - 1 = omega arith in
        sym (take_all (suc (length word)) (byte ∷ word) (omega arith)) ∙ take-suc (byte ∷ word) (length word) 0 (omega arith) ∙ ap (λ (n : ℕ). take (length word) (byte ∷ word) ++ n ∷ []) last
        ∙ ap (λ (n : ℕ). take n (byte ∷ word) ++ 102 ∷ []) same

    by_end : (ends : Bool) → ends_marked word ≡ ends → marked_of word ≡ option_map (λ number. (number, false)) (argument_number word)
    by_end true is = absurd (other (take (length word - 1) word) (ended word is))
    by_end false is = rw is refl

-- a word that is no number
pub no_number : (words : List (String Global)) (i : ℕ) (word : String Global) → i < length words → word ≡ get_or words i word → None ≡ marked_of (string_bytes word)
    → (numbers : List (ℕ × Bool)) → AreNumbers (map string_bytes words) numbers → ⊥
no_number [] i word here is none numbers are = omega arith
no_number (first ∷ words) zero word here is none [] are = cc
no_number (first ∷ words) zero word here is none (number ∷ numbers) are = cc
no_number (first ∷ words) (suc i) word here is none [] are = cc
no_number (first ∷ words) (suc i) word here is none (number ∷ numbers) are = no_number words i word (omega arith) is none numbers (cc)

-- words are one list of numbers
same_numbers : (one two : List (ℕ × Bool)) → map (λ number. Some number) one ≡ map (λ number. Some number) two → one ≡ two
same_numbers [] [] same = refl
same_numbers (first ∷ one) (second ∷ two) same = let head : first ≡ second = cc in let tail = same_numbers one two (cc) in cc
same_numbers _ _ same = cc

pub one_list : (words : List (List ℕ)) (one two : List (ℕ × Bool)) → AreNumbers words one → AreNumbers words two → one ≡ two
one_list words one two first second = same_numbers one two (sym first ∙ second)

-- flags are the lowest and the others
same_flags : (fine other : ℕ) → fine / 2 ≡ other / 2 → (fine % 2 == 1) ≡ (other % 2 == 1) → fine ≡ other
same_flags fine other halves lowest = grind (arith, nat_tests)

half_below : (fine count : ℕ) → fine < 2 ^ suc count → fine / 2 < 2 ^ count
half_below fine count less = omega (arith, less)

-- one word more
pub numbers_more : (words : List (String Global)) (i : ℕ) (word : String Global) (items : List (ℕ × Bool)) (number : ℕ × Bool) → i < length words → word ≡ get_or words i word → AreNumbers (map string_bytes (take i words)) items
    → marked_of (string_bytes word) ≡ Some number → AreNumbers (map string_bytes (take (i + 1) words)) (items ++ number ∷ [])
numbers_more words i word items number below is are said =
    let next : i + 1 ≡ suc i = omega arith in
    let front = take i words in
    ap (λ (n : ℕ). map marked_of (map string_bytes (take n words))) next
    ∙ ap (λ (those : List (String Global)). map marked_of (map string_bytes those)) (take-suc words i word below)
    ∙ ap (λ (last : String Global). map marked_of (map string_bytes (front ++ last ∷ []))) (sym is)
    ∙ ap (map marked_of) (map-append string_bytes front (word ∷ []))
    ∙ map-append marked_of (map string_bytes front) (string_bytes word ∷ [])
    ∙ ap (λ (those : List (Option (ℕ × Bool))). those ++ marked_of (string_bytes word) ∷ []) are
    ∙ ap (λ (last : Option (ℕ × Bool)). map (λ (number : ℕ × Bool). Some number) items ++ last ∷ []) said
    ∙ sym (map-append (λ (number : ℕ × Bool). Some number) items (number ∷ []))

-- as many numbers as words
pub as_many : (words : List (List ℕ)) (numbers : List (ℕ × Bool)) → AreNumbers words numbers → length words ≡ length numbers
as_many words numbers are = sym (length-map words marked_of) ∙ ap length are ∙ length-map numbers (λ (number : ℕ × Bool). Some number)

-- numbers are those of one list of segments with one list of flags
pub one_spread : (one two : List (ℕ × ℕ)) (fine other : ℕ) → fine < 2 ^ length one → other < 2 ^ length two → spread one fine ≡ spread two other → (one ≡ two) × (fine ≡ other)
one_spread [] [] fine other few less same = (refl, omega (arith, few, less))
one_spread (first ∷ one) (second ∷ two) fine other few less same =
    let behind : spread one (fine / 2) ≡ spread two (other / 2) = ap (drop 2) same in
    let tail = one_spread one two (fine / 2) (other / 2) (half_below fine (length one) few) (half_below other (length two) less) behind in
    let identifier : first.0 ≡ second.0 = ap (λ (those : List (ℕ × Bool)). (get_or those 0 (0, false)).0) same in
    let pages : first.1 ≡ second.1 = ap (λ (those : List (ℕ × Bool)). (get_or those 1 (0, false)).0) same in
    let low : (fine % 2 == 1) ≡ (other % 2 == 1) = ap (λ (those : List (ℕ × Bool)). (get_or those 1 (0, false)).1) same in
    ((λ i. (identifier i, pages i) ∷ tail.0 i), same_flags fine other tail.1 low)
one_spread _ _ fine other few less same = cc

pub length-spread : (segments : List (ℕ × ℕ)) (fine : ℕ) → length (spread segments fine) ≡ 2 * length segments
length-spread [] fine = refl
length-spread (segment ∷ segments) fine = let rest = length-spread segments (fine / 2) in omega (arith, rest)

-- what follows the first two
behind_two : {A : Type 0} (first second : A) (rest : List A) → take (length (first ∷ second ∷ rest) - 2) (drop 2 (first ∷ second ∷ rest)) ≡ rest
behind_two first second rest = take_all (length (first ∷ second ∷ rest) - 2) rest (omega arith)

-- numbers of segments begin with those of one
pub behind_first : (numbers : List (ℕ × Bool)) (segment : ℕ × ℕ) (more : List (ℕ × ℕ)) (fine : ℕ) → numbers ≡ spread (segment ∷ more) fine → take (length numbers - 2) (drop 2 numbers) ≡ spread more (fine / 2)
behind_first numbers segment more fine is = rw is (behind_two (segment.0, false) (segment.1, fine % 2 == 1) (spread more (fine / 2)))

-- one word alone
pub alone : (words : List (String Global)) (word : String Global) (bytes : List ℕ) (result : Option Command) → 1 ≤ length words → length words < 2 → word ≡ get_or words 0 word → bytes ≡ string_bytes word
    → FindsOne (IsCommandAlone bytes) result
    → MatchOption result (IsNoForm words) (λ command. IsForm command words)
alone (first ∷ []) word bytes None some one is same given = no
  where
    no : (form : Command) → IsForm form (first ∷ []) → ⊥
    no command.Try form = let says = form.says in given command.Try (tt, cc)
    no command.List form = let says = form.says in given command.List (tt, cc)
    no command.Drill form = let says = form.says in given command.Drill (tt, cc)
    no command.Audit form = let says = form.says in given command.Audit (tt, cc)
    no _ form = let are = form.says.are in cc
alone (first ∷ []) word bytes (Some command.Try) some one is same given = let said = given.1 in record { says = cc; within = tt }
alone (first ∷ []) word bytes (Some command.List) some one is same given = let said = given.1 in record { says = cc; within = tt }
alone (first ∷ []) word bytes (Some command.Drill) some one is same given = let said = given.1 in record { says = cc; within = tt }
alone (first ∷ []) word bytes (Some command.Audit) some one is same given = let said = given.1 in record { says = cc; within = tt }
alone (first ∷ []) word bytes (Some _) some one is same given = absurd given.0
alone _ word bytes result some one is same given = absurd (omega arith)

-- what follows where an answer is no error
pub went : {T E P : Type 0} (result : Result T E) → is_err result ≡ false → OnOk result P → P
went (Ok value) is given = given
went (Err fault) is given = cc

-- a word that isn't empty
pub not_empty : (bytes : List ℕ) (empty : Bool) → empty ≡ (length bytes == 0) → empty ≡ false → bytes ≢ []
not_empty [] empty is not none = cc
not_empty (byte ∷ bytes) empty is not none = cc

-- a word, a store and numbers
pub with_store : (words : List (String Global)) (word store : String Global) (bytes : List ℕ) (numbers : List (ℕ × Bool)) (result : Option Command) → 2 ≤ length words
    → word ≡ get_or words 0 word → store ≡ get_or words 1 store → bytes ≡ string_bytes word → string_bytes store ≢ []
    → AreNumbers (map string_bytes (take (length words - 2) (drop 2 words))) numbers
    → ((form : Command) → IsNumberedForm words form → ⊥) → ((from : ℕ) → IsForm (command.Ship from) words → ⊥)
    → FindsOne (IsCommandOn bytes numbers) result
    → MatchOption result (IsNoForm words) (λ command. IsForm command words)
with_store (first ∷ second ∷ rest) word store bytes numbers result two is there same some are no_number_said no_ship given = answered result given
  where
    these : AreNumbers (map string_bytes rest) numbers
    these = subst (λ (behind : List (String Global)). AreNumbers (map string_bytes behind) numbers) (behind_two first second rest) are

    named : (form : Command) → bytes ≡ word_of form → numbers ≡ numbers_of form → NamesStore form (map string_bytes (first ∷ second ∷ rest))
    named form said said_numbers = record {
      store = string_bytes store;
      some = some;
      numbers = map string_bytes rest;
      are = cc;
      say = subst (λ (those : List (ℕ × Bool)). AreNumbers (map string_bytes rest) those) said_numbers these;
    }

    unnamed : (form : Command) → ((form : Command) → IsCommandOn bytes numbers form → ⊥) → IsOnStore form → AreBounded form → NamesStore form (map string_bytes (first ∷ second ∷ rest)) → ⊥
    unnamed form none apart within names =
        let behind : names.numbers ≡ map string_bytes rest = let said = names.are in cc in
        let said : bytes ≡ word_of form = let said = names.are in cc in
        none form (apart, said, one_list (map string_bytes rest) numbers (numbers_of form) these (subst (λ (those : List (List ℕ)). AreNumbers those (numbers_of form)) behind names.say), within)

    no : ((form : Command) → IsCommandOn bytes numbers form → ⊥) → (form : Command) → IsForm form (first ∷ second ∷ rest) → ⊥
    no none command.Try form = let says = form.says in cc
    no none command.List form = let says = form.says in cc
    no none command.Drill form = let says = form.says in cc
    no none command.Audit form = let says = form.says in cc
    no none (command.Ship from) form = no_ship from form
    no none (command.Big transfers) form = no_number_said (command.Big transfers) (tt, form)
    no none (command.Trace activation) form = no_number_said (command.Trace activation) (tt, form)
    no none form is = unnamed form none tt is.within is.says

    answered : (result : Option Command) → FindsOne (IsCommandOn bytes numbers) result → MatchOption result (IsNoForm (first ∷ second ∷ rest)) (λ command. IsForm command (first ∷ second ∷ rest))
    answered None given = no given
    answered (Some command.Run) given = record { says = named command.Run given.1 given.2; within = given.3 }
    answered (Some (command.Show range)) given = record { says = named (command.Show range) given.1 given.2; within = given.3 }
    answered (Some (command.New header)) given = record { says = named (command.New header) given.1 given.2; within = given.3 }
    answered (Some (command.Renew bank)) given = record { says = named (command.Renew bank) given.1 given.2; within = given.3 }
    answered (Some command.Follow) given = record { says = named command.Follow given.1 given.2; within = given.3 }
    answered (Some _) given = absurd given.0
with_store _ word store bytes numbers result two is there same some are no_number_said no_ship given = absurd (omega arith)

-- behind a store there are words that aren't numbers, or too many
pub without_numbers : (words : List (String Global)) → 2 ≤ length words → ((numbers : List (ℕ × Bool)) → length numbers ≤ 31 → AreNumbers (map string_bytes (take (length words - 2) (drop 2 words))) numbers → ⊥) → ((form : Command) → IsNumberedForm words form → ⊥) → ((from : ℕ) → IsForm (command.Ship from) words → ⊥) → IsNoForm words
without_numbers (first ∷ second ∷ rest) two none no_number_said no_ship form is = no form is
  where
    unnamed : (form : Command) → length (numbers_of form) ≤ 31 → NamesStore form (map string_bytes (first ∷ second ∷ rest)) → ⊥
    unnamed form few names =
        let behind : names.numbers ≡ map string_bytes (take (length (first ∷ second ∷ rest) - 2) (drop 2 (first ∷ second ∷ rest))) = let said = names.are in let same = behind_two first second rest in cc in
        none (numbers_of form) few (subst (λ (those : List (List ℕ)). AreNumbers those (numbers_of form)) behind names.say)

    no : (form : Command) → IsForm form (first ∷ second ∷ rest) → ⊥
    no command.Try form = let says = form.says in cc
    no command.List form = let says = form.says in cc
    no command.Drill form = let says = form.says in cc
    no command.Audit form = let says = form.says in cc
    no (command.Ship from) form = no_ship from form
    no (command.New header) form = unnamed (command.New header) (let few = form.within.1.few in omega (arith, few, length-spread header.directory.segments header.directory.fine)) form.says
    no (command.Big transfers) form = no_number_said (command.Big transfers) (tt, form)
    no (command.Trace activation) form = no_number_said (command.Trace activation) (tt, form)
    no form is = unnamed form (omega arith) is.says
without_numbers _ two none no_number_said no_ship form is = omega arith

-- words that name a store have one list of numbers
pub same_words : (one two : Command) (words : List (List ℕ)) → NamesStore one words → NamesStore two words → numbers_of one ≡ numbers_of two
same_words one two words first second =
    let behind : second.numbers ≡ first.numbers = let here = first.are in let there = second.are in cc in
    one_list first.numbers (numbers_of one) (numbers_of two) first.say (subst (λ (those : List (List ℕ)). AreNumbers those (numbers_of two)) behind second.say)

-- words with a number have one
pub same_number : (one two : Command) (words : List (List ℕ)) → SaysNumber one words → SaysNumber two words → number_said one ≡ number_said two
same_number one two words first second =
    let here = first.are in let there = second.are in
    let same : first.number ≡ second.number = cc in
    same_some (number_said one) (number_said two) (sym first.say ∙ ap argument_number same ∙ second.say)
  where
    same_some : (one two : ℕ) → Some one ≡ Some two → one ≡ two
    same_some one two is = cc

-- a word, a store and a long number
pub with_long : (words : List (String Global)) (word store number : String Global) (result : Option ℕ) → length words ≡ 3 → word ≡ get_or words 0 word → store ≡ get_or words 1 store → number ≡ get_or words 2 number
    → string_bytes word ≡ codes "ship" → string_bytes store ≢ []
    → MatchOption result ((n : ℕ) → IsLong (string_bytes number) n → ⊥) (λ n. IsLong (string_bytes number) n)
    → MatchOption result ((from : ℕ) → IsForm (command.Ship from) words → ⊥) (λ from. IsForm (command.Ship from) words)
with_long (first ∷ second ∷ third ∷ []) word store number None three is there last said some given = λ from form.
    let are = form.says.are in
    let same : form.says.number ≡ string_bytes number = cc in
    given from (subst (λ (digits : List ℕ). IsLong digits from) same form.says.say)
with_long (first ∷ second ∷ third ∷ []) word store number (Some from) three is there last said some given = record {
  says = record { store = string_bytes store; some = some; number = string_bytes number; are = cc; say = given };
  within = tt;
}
with_long _ word store number result three is there last said some given = absurd (omega (arith, three))

-- and one number from which records are shipped
pub one_from : (words : List (String Global)) (one two : ℕ) → IsForm (command.Ship one) words → IsForm (command.Ship two) words → one ≡ two
one_from words one two first second =
    let here = first.says.are in let there = second.says.are in
    let same : first.says.number ≡ second.says.number = cc in
    sym first.says.say.value ∙ ap (digits_value 10) same ∙ second.says.say.value

-- what `parse` answers for a long word without a sign
pub parsed_long : {E : Type 0} (word : List ℕ) (result : Result ℕ E) → length word ≤ 20 → slice_index word 0 ≢ 43 → ParsesUnsigned 64 10 word result
    → MatchResult result (λ number. IsLong word number) (λ fault. (number : ℕ) → IsLong word number → ⊥)
parsed_long {E} word result few plain gives =
    let whole : without_leading_plus word ≡ word = rw (same_none (slice_index word 0) 43 plain) refl in
    answered result (subst (λ (digits : List ℕ). OkIff result (IsNumeral 10 digits × (digits_value 10 digits < 2 ^ 64)) (digits_value 10 digits)) whole gives)
  where
    answered : (result : Result ℕ E) → OkIff result (IsNumeral 10 word × (digits_value 10 word < 2 ^ 64)) (digits_value 10 word) → MatchResult result (λ number. IsLong word number) (λ fault. (number : ℕ) → IsLong word number → ⊥)
    answered (Ok number) is = record { few = few; digits = is.0.0; value = sym is.1; fits = subst (λ (n : ℕ). n < 2 ^ 64) (sym is.1) is.0.1 }
    answered (Err fault) is = λ number long. is (long.digits, subst (λ (n : ℕ). n < 2 ^ 64) (sym long.value) long.fits)

-- a word that makes a store is of one size of pages
one_page : (one two : PageSize) → new_word one ≡ new_word two → one ≡ two
one_page Two Two same = refl
one_page Four Four same = refl
one_page _ _ same = absurd (cc)

pub flags_few : (page : PageSize) (segments : List (ℕ × ℕ)) (fine : ℕ) → AreFlags page segments fine → fine < 2 ^ length segments
flags_few Two segments fine flags = omega (arith, flags, pow_pos (length segments))
flags_few Four segments fine flags = flags

-- and one header
pub one_header : (words : List (String Global)) (one two : Header) → IsForm (command.New one) words → IsForm (command.New two) words → one ≡ two
one_header words one two first second =
    let same : (one.bank_bytes, false) ∷ spread one.directory.segments one.directory.fine ≡ (two.bank_bytes, false) ∷ spread two.directory.segments two.directory.fine =
    same_words (command.New one) (command.New two) (map string_bytes words) first.says second.says in
    let bank : one.bank_bytes ≡ two.bank_bytes = ap (λ (those : List (ℕ × Bool)). (get_or those 0 (0, false)).0) same in
    let spreads = one_spread one.directory.segments two.directory.segments one.directory.fine two.directory.fine
    (flags_few one.directory.page one.directory.segments one.directory.fine first.within.2) (flags_few two.directory.page two.directory.segments two.directory.fine second.within.2) (ap (drop 1) same) in
    let said : new_word one.directory.page ≡ new_word two.directory.page = let here = first.says.are in let there = second.says.are in cc in
    let page = one_page one.directory.page two.directory.page said in
    λ i. record { directory = record { page = page i; segments = spreads.0 i; fine = spreads.1 i }; bank_bytes = bank i }
