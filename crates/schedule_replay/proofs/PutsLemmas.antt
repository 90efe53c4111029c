-- Puts of lines, one after another.
use Rattle.schedule_replay.proofs.Common.{◌≡◌, ℕ, ◌+◌, ◌<◌, List, [], ◌∷◌, ◌++◌, length, map, get_or, take, drop, min, refl, sym, ◌∙◌, ap, subst, append_assoc, append-nil, length-append, arith, rules, IsSome, Option, Result, Ok, Err, IsErr, unwrap_or, map-append, take_more, take-append-drop, take_min, take-append-le, flat_map-append, flat_map, Failed, Ghosts, Prints, AreTold, Elapses, ShowsPrefix, OnlyPuts, FewerLater, prints_on, prints_stop, prints_same, prints_well, only_on, leaves_on, told_is, Cycle, ReportLine, line_text, cycle_lines, Puts, PutsTimes, shown_on, BeginsWith, nat_tests, result_and}
use Rattle.std.proofs.Math.Seq.{take-append-add}

-- a put that went well
abbrev pub done : Result ℕ Failed
done = Ok 0

-- the bytes of lines
abbrev pub text_of : List ReportLine → List ℕ
text_of lines = flat_map line_text lines

-- a crash leaves the bytes printed
abbrev pub PrintedNow : {W : Type 0} → Ghosts W → Type 0
PrintedNow {W} G = (w : W) (image seen : List ℕ) → G.left_since w (G.moment w) image seen → AreTold (G.printed w) seen

cut_more : (count : ℕ) (one two : List ℕ) → take (min count (length one)) (one ++ two) ≡ take count one
cut_more count one two = take-append-le (min count (length one)) one two (omega arith) ∙ take_min count one

-- what is printed after lines were put
pub shown_after : (old new : Option (List ℕ)) (bytes : List ℕ) {T : Type 0} (value : T) → IsSome old → Prints old new bytes (Ok value) → (IsSome new) × (unwrap_or new [] ≡ unwrap_or old [] ++ bytes)
shown_after old new bytes value told prints = grind arith

module _ {W : Type 0} (G : Ghosts W) where
  -- the same lines
  pub puts_same : {T : Type 0} (old new : W) (first second : List ReportLine) (result : Result T Failed) → first ≡ second → Puts G first old new result → Puts G second old new result
  puts_same old new first second result same puts = subst (λ (lines : List ReportLine). Puts G lines old new result) same puts

  -- puts that failed, of lines and more
  pub puts_stop : {T U : Type 0} (old new : W) (first second : List ReportLine) (result : Result T Failed) (later : Result U Failed) → IsErr result → IsErr later → Puts G first old new result → Puts G (first ++ second) old new later
  puts_stop old new first second (Ok value) later one two puts = absurd (search (rules, one))
  puts_stop old new first second (Err why) (Ok value) one two puts = absurd (search (rules, two))
  puts_stop {T} {U} old new first second (Err why) (Err failed) one two puts = record {
    only = grind (arith, puts.only);
    printed = prints_same {T = U} (G.printed old) (G.printed new) (text_of first ++ text_of second) (text_of (first ++ second)) (Err failed) (sym (flat_map-append line_text first second))
        (prints_stop (G.printed old) (G.printed new) (text_of first) (text_of second) (Err why) (Err failed) one two puts.printed);
    times = tt;
    images = puts.images;
    crash = λ told image seen left.
        let from = puts.crash told image seen left in
        (from.0, (min from.1.0 (length (text_of first)), from.1.1 ∙ ap (λ (bytes : List ℕ). shown_on G old ++ bytes) (sym (cut_more from.1.0 (text_of first) (text_of second)) ∙ ap (λ (bytes : List ℕ). take (min from.1.0 (length (text_of first))) bytes) (sym (flat_map-append line_text first second)))));
  }

  pub puts_broken : {T U : Type 0} (old new : W) (lines : List ReportLine) (result : Result T Failed) (later : Result U Failed) → IsErr result → IsErr later → Puts G lines old new result → Puts G lines old new later
  puts_broken old new lines result later one two puts = puts_same old new (lines ++ []) lines later (append-nil lines) (puts_stop old new lines [] result later one two puts)

  -- another value
  pub puts_well : {T U : Type 0} (old new : W) (lines : List ReportLine) (first : T) (second : U) → Puts G lines old new (Ok first) → Puts G lines old new (Ok second)
  puts_well old new lines first second puts = grind (arith, nat_tests, prints_well)

  -- lines were put, and then a value is told where that went well
  pub puts_and : {T U : Type 0} (old new : W) (lines : List ReportLine) (put : Result T Failed) (value : U) → Puts G lines old new put → Puts G lines old new (result_and put (Ok value))
  puts_and old new lines (Ok first) value puts = puts_well old new lines first value puts
  puts_and {T} {U} old new lines (Err why) value puts = puts_broken {T = T} {U = U} old new lines (Err why) (Err why) refl refl puts

  -- the puts of lines, and then of lines
  pub times_on : {T U : Type 0} (old mid new : W) (first second : List ReportLine) (value : T) (result : Result U Failed) → Prints (G.printed old) (G.printed mid) (text_of first) (Ok value) → PutsTimes {T = T} G (length first) old mid (Ok value) → PutsTimes G (length second) mid new result → PutsTimes G (length (first ++ second)) old new result
  times_on old mid new first second value result prints one two = grind (arith, nat_tests, shown_after, length-append)

  -- no time goes by
  pub no_time : (w : W) → Elapses G.moment G.left_since w w
  no_time w = grind (arith, nat_tests)

  pub printed_none : {T : Type 0} (told : Option (List ℕ)) (value : T) → Prints told told [] (Ok value)
  printed_none told value = grind (arith, append-nil)

  module _ (printed_now : PrintedNow G) where
    -- nothing is put
    pub puts_none : {T : Type 0} (w : W) (value : T) → Puts G [] w w (Ok value)
    puts_none w value = grind (arith, nat_tests, no_time, printed_none, told_is, append-nil)

    -- one line
    pub puts_one : {T : Type 0} (line : ReportLine) (old new : W) (result : Result T Failed) → OnlyPuts G old new result → Prints (G.printed old) (G.printed new) (line_text line) result → PutsTimes G 1 old new result → ShowsPrefix (line_text line) G.moment G.left_since old new → Puts G (line ∷ []) old new result
    puts_one line old new result only printed times shows = grind (arith, nat_tests, prints_same, append-nil, told_is, take)

    module _ (fewer_later : FewerLater G) where
      -- lines, and then lines
      pub puts_on : {T U : Type 0} (old mid new : W) (first second : List ReportLine) (value : T) (result : Result U Failed) → Puts G first old mid (Ok value) → Puts G second mid new result → Puts G (first ++ second) old new result
      puts_on old mid new first second value result one two =
          let whole : text_of (first ++ second) ≡ text_of first ++ text_of second = flat_map-append line_text first second in
          record {
            only = only_on G fewer_later old mid new value result one.only two.only;
            printed = prints_same (G.printed old) (G.printed new) (text_of first ++ text_of second) (text_of (first ++ second)) result (sym whole)
                (prints_on (G.printed old) (G.printed mid) (G.printed new) (text_of first) (text_of second) value result one.printed two.printed);
            times = times_on old mid new first second value result one.printed one.times two.times;
            images = λ image seen left. grind (arith, one.images image, two.images image seen, two.only.time.nothing_else (G.moment old) image seen one.only.time.later left, fewer_later mid (G.moment old) (G.moment mid) image);
            crash = λ told.
                let after = shown_after (G.printed old) (G.printed mid) (text_of first) value told one.printed in
                leaves_on G fewer_later old mid new one.only.time two.only.time
                (λ (image seen : List ℕ). G.left_since old (G.moment old) image (shown_on G old) × ((count : ℕ) × (seen ≡ shown_on G old ++ take count (text_of (first ++ second)))))
                (λ image seen left.
                let from = one.crash told image seen left in
                (from.0, (min from.1.0 (length (text_of first)), from.1.1 ∙ ap (λ (bytes : List ℕ). shown_on G old ++ bytes) (sym (cut_more from.1.0 (text_of first) (text_of second)) ∙ ap (λ (bytes : List ℕ). take (min from.1.0 (length (text_of first))) bytes) (sym whole)))))
                (λ image seen left.
                let from = two.crash after.0 image seen left in
                let start = one.crash told image (shown_on G mid) (fewer_later mid (G.moment old) (G.moment mid) image (shown_on G mid) one.only.time.later from.0) in (
                  start.0,
                  (
                    length (text_of first) + from.1.0,
                    cc (from.1.1, after.1, append_assoc (shown_on G old) (text_of first) (take from.1.0 (text_of second)), take-append-add (text_of first) (text_of second) from.1.0, whole),
                  ),
                ));
          }

      -- what is put for a list, one element after another
      module _ {X : Type 0} (F : List X → List ReportLine) (split : (xs ys : List X) → F (xs ++ ys) ≡ F xs ++ F ys) (xs : List X) (i : ℕ) (x : X) (lt : i < length xs) where
        pub puts_more : {T U : Type 0} (old mid new : W) (first : T) (result : Result U Failed) → Puts G (F (take i xs)) old mid (Ok first) → Puts G (F (get_or xs i x ∷ [])) mid new result → Puts G (F (take (i + 1) xs)) old new result
        puts_more old mid new first result one two =
            puts_same old new (F (take i xs) ++ F (get_or xs i x ∷ [])) (F (take (i + 1) xs)) result (sym (ap F (take_more xs i x lt) ∙ split (take i xs) (get_or xs i x ∷ [])))
            (puts_on old mid new (F (take i xs)) (F (get_or xs i x ∷ [])) first result one two)

        pub puts_no_more : {T U V : Type 0} (old mid new : W) (first : T) (result : Result U Failed) (later : Result V Failed) → IsErr result → IsErr later → Puts G (F (take i xs)) old mid (Ok first) → Puts G (F (get_or xs i x ∷ [])) mid new result → Puts G (F xs) old new later
        puts_no_more old mid new first result later is so one two =
            puts_same old new (F (take (i + 1) xs) ++ F (drop (i + 1) xs)) (F xs) later (sym (split (take (i + 1) xs) (drop (i + 1) xs)) ∙ ap F (take-append-drop (i + 1) xs))
            (puts_stop old new (F (take (i + 1) xs)) (F (drop (i + 1) xs)) result later is so (puts_more old mid new first result one two))

-- the lines of cycles
abbrev pub cycles_of : List Cycle → List ReportLine
cycles_of cycles = flat_map cycle_lines (map (λ each. each.members.items) cycles)

pub cycles_split : (xs ys : List Cycle) → cycles_of (xs ++ ys) ≡ cycles_of xs ++ cycles_of ys
cycles_split xs ys = grind (arith, nat_tests, map-append, flat_map-append)

-- bytes that were put begin with none
pub begins_none : {T : Type 0} (old new : Option (List ℕ)) (bytes : List ℕ) (result : Result T Failed) → Prints old new bytes result → BeginsWith old new []
begins_none old new bytes result prints = grind (arith, nat_tests)

-- nothing was put
pub begins_same : (old new : Option (List ℕ)) → new ≡ old → BeginsWith old new []
begins_same old new same = grind (arith, append-nil)

-- they still begin so with more behind them
pub begins_on : (old mid new : Option (List ℕ)) (bytes : List ℕ) → BeginsWith old mid bytes → BeginsWith mid new [] → BeginsWith old new bytes
begins_on old mid new bytes one two = grind (arith, nat_tests, append_assoc)

-- bytes in front of those that begin so
pub begins_behind : {T : Type 0} (old mid new : Option (List ℕ)) (first second : List ℕ) (value : T) → Prints old mid first (Ok value) → BeginsWith mid new second → BeginsWith old new (first ++ second)
begins_behind old mid new first second value one two = grind (arith, nat_tests, append_assoc)
