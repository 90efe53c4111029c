-- Puts, one after another.
use Rattle.listing.proofs.Common.{◌≡◌, ⊎_elim, ℕ, ◌+◌, ◌<◌, List, [], ◌++◌, length, take, drop, get_or, sym, ◌∙◌, ap, subst, rules, arith, Option, None, Some, IsSome, Result, Ok, Err, IsErr, take_more, take-append-drop, flat_map_more, flat_map, PrintsBytes, PutsTimes}
use Rattle.std.proofs.lemmas.Grind.{flat_map-append}
use Rattle.outside.specs.declared.failed.Failed.{Failed}
use Rattle.outside.specs.declared.world.Outside.{Ghosts}
use Rattle.outside.specs.Bytes.{Prints}
use Rattle.outside.specs.Runs.{FewerLater}
use Rattle.outside.proofs.Prints.{prints_on, prints_stop, only_on}

-- puts that went well
abbrev pub done : Result (Unit {0}) Failed
done = Ok tt

-- printed bytes that were told are told after a put that went well
told_by : {T : Type 0} (before after : Option (List ℕ)) (bytes : List ℕ) (value : T) → Prints before after bytes (Ok value) → IsSome before → IsSome after
told_by None after bytes value is some = absurd (search (rules, some))
told_by (Some old) after bytes value is some = rw is (search rules)

module _ {W : Type 0} (G : Ghosts W) where
  -- so many puts, and then so many
  pub times_on : {T U : Type 0} (old mid new : W) (first second : ℕ) (bytes : List ℕ) (value : T) (result : Result U Failed) → PrintsBytes G bytes old mid (Ok value) → PutsTimes G first old mid (Ok value) → PutsTimes G second mid new result → PutsTimes G (first + second) old new result
  times_on old mid new first second bytes value (Ok other) puts one two =
      λ some. omega (arith, one some, two (told_by (G.printed old) (G.printed mid) bytes value puts.printed some))
  times_on old mid new first second bytes value (Err failed) puts one two = tt

  -- the same bytes
  pub puts_same : {T : Type 0} (old new : W) (first second : List ℕ) (result : Result T Failed) → first ≡ second → PrintsBytes G first old new result → PrintsBytes G second old new result
  puts_same old new first second result same puts = subst (λ (bytes : List ℕ). PrintsBytes G bytes old new result) same puts

  -- puts that failed, of bytes and more
  pub puts_stop : {T U : Type 0} (old new : W) (first second : List ℕ) (result : Result T Failed) (later : Result U Failed) → IsErr result → IsErr later → PrintsBytes G first old new result → PrintsBytes G (first ++ second) old new later
  puts_stop old new first second (Ok value) later one two puts = absurd (search (rules, one))
  puts_stop old new first second (Err why) (Ok value) one two puts = absurd (search (rules, two))
  puts_stop {T} {U} old new first second (Err why) (Err failed) one two puts = record {
    printed = prints_stop (G.printed old) (G.printed new) first second (Err why) (Err failed) one two puts.printed;
    only = record {
      held = puts.only.held;
      writes = puts.only.writes;
      deeds = puts.only.deeds;
      honest = puts.only.honest;
      time = puts.only.time;
      cause = record { later = puts.only.cause.later; failed = puts.only.cause.failed; done = tt };
      calls = puts.only.calls;
      disk = puts.only.disk;
    };
    images = puts.images;
  }

  module _ (fewer_later : FewerLater G) where
    -- puts, and then puts
    pub puts_on : {T U : Type 0} (old mid new : W) (first second : List ℕ) (value : T) (result : Result U Failed) → PrintsBytes G first old mid (Ok value) → PrintsBytes G second mid new result → PrintsBytes G (first ++ second) old new result
    puts_on old mid new first second value result one two = record {
      printed = prints_on (G.printed old) (G.printed mid) (G.printed new) first second value result one.printed two.printed;
      only = only_on G fewer_later old mid new value result one.only two.only;
      images = λ image seen left.
          ⊎_elim (one.images image seen)
          (λ since.
          let from = two.images image seen since in
          one.images image from.0 (fewer_later mid (G.moment old) (G.moment mid) image from.0 one.only.time.later from.1))
          (two.only.time.nothing_else (G.moment old) image seen one.only.time.later left);
    }

    -- what is put for a list, one element after another
    module _ {X : Type 0} (text : X → List ℕ) (xs : List X) (i : ℕ) (x : X) (line : List ℕ) (lt : i < length xs) (is : line ≡ text (get_or xs i x)) (old mid new : W) where
      pub puts_more : {T U : Type 0} (first : T) (result : Result U Failed) → PrintsBytes G (flat_map text (take i xs)) old mid (Ok first) → PrintsBytes G line mid new result → PrintsBytes G (flat_map text (take (i + 1) xs)) old new result
      puts_more first result one two =
          puts_same old new (flat_map text (take i xs) ++ line) (flat_map text (take (i + 1) xs)) result
          (ap (λ (last : List ℕ). flat_map text (take i xs) ++ last) is ∙ flat_map_more text [] (take i xs) (get_or xs i x) ∙ ap (flat_map text) (sym (take_more xs i x lt)))
          (puts_on old mid new (flat_map text (take i xs)) line first result one two)

      pub puts_no_more : {T U V : Type 0} (first : T) (result : Result U Failed) (later : Result V Failed) → IsErr result → IsErr later → PrintsBytes G (flat_map text (take i xs)) old mid (Ok first) → PrintsBytes G line mid new result → PrintsBytes G (flat_map text xs) old new later
      puts_no_more first result later failed so one two =
          puts_same old new (flat_map text (take (i + 1) xs) ++ flat_map text (drop (i + 1) xs)) (flat_map text xs) later
          (sym (flat_map-append text (take (i + 1) xs) (drop (i + 1) xs)) ∙ ap (flat_map text) (take-append-drop (i + 1) xs))
          (puts_stop old new (flat_map text (take (i + 1) xs)) (flat_map text (drop (i + 1) xs)) result later failed so (puts_more first result one two))
