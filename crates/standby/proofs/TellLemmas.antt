-- The lines that tell of records, and records that are kept and told, one after another.
use Rattle.standby.proofs.Common.{nat_tests, ◌≡◌, inl, inr, ℕ, zero, suc, ◌+◌, ◌-◌, ◌<◌, ◌≤◌, List, [], ◌∷◌, ◌++◌, length, take, get_or, min, Bool, nat_le, refl, if◌then◌else◌, sym, ◌∙◌, ap, arith, append_assoc, append-nil, length-append, IfSome_then, take_more, take-append-le, take_min, fold-append, FlatStore, Stands, stands, Prints, kept_text, followed_text, StandWhole, IsAtNumber, well, SeesPart, ship_laid, laid_by, IsLeftBetween, over, ShipLine, next, later, closing_line, kept_line, codes, decimal, Option, IfSome, take_all, take-append-add, take-append_seam, ⊎_elim, subst, Result, Ok, Err, OnErr, Failed, Ghosts, FewerLater, Leaves, held_of, told_is, prints_none, prints_on, prints_same, prints_stop, leaves_on, StoreView, TracksStore, BreaksAt, EndsWith, FollowStopped, Follows, FollowKeeps, SoFar, broken, PutsAtOnce, Steps, followed_of, put_result, Followed, Done, DiskFault, PutFault, Elapses, FoundOf, Header, ShipContent}
use Rattle.outside.proofs.Runs.{not_after}
use Rattle.outside.specs.Moments.{IsNotAfter}
use Rattle.standby.proofs.Common.{Deed, RecordAsks, RecordsAsked, Since}
use Rattle.standby.proofs.PutLemmas.{goes_none, on_printed, PrintedNow, image_is, sure_puts, told_on}

-- a line has bytes
line_some : (number : ℕ) → 0 < length (kept_line number)
line_some number = omega (arith, length-append (codes "kept ") (decimal number ++ codes "\n"))

-- more lines are longer
kept_longer : (number i more : ℕ) → length (kept_text number i) + more ≤ length (kept_text number (i + more))
kept_longer number i zero = grind arith
kept_longer number i (suc more) =
    let same : suc (i + more) ≡ i + suc more = omega arith in
    grind (arith, same, kept_longer number i more, length-append (kept_text number (i + more)) (kept_line (later number (suc (i + more)))), line_some (later number (suc (i + more))))

kept_grows : (number i j : ℕ) → i ≤ j → length (kept_text number i) + (j - i) ≤ length (kept_text number j)
kept_grows number i j le = grind (arith, kept_longer number i (j - i))

-- so the lines that stand whole are those whose text ends within the bytes
stand_some : (number i all count : ℕ) → length (kept_text number i) ≤ count → count < length (kept_text number (suc i)) → StandWhole number all count i
stand_some number i all count many few k le = grind (arith, kept_grows number k i, kept_grows number (suc i) k)

stand_all : (number all count : ℕ) → length (kept_text number all) ≤ count → StandWhole number all count all
stand_all number all count many k le = grind (arith, kept_grows number k all)

-- the lines of the first records are in front of all that is told
pub kept_front : (number i more : ℕ) → (rest : List ℕ) × (kept_text number (i + more) ≡ kept_text number i ++ rest)
kept_front number i zero = let same : i + 0 ≡ i = omega arith in ([], cc (same, append-nil (kept_text number i)))
kept_front number i (suc more) =
    let same : i + suc more ≡ suc (i + more) = omega arith in
    let before = kept_front number i more in let line = kept_line (later number (suc (i + more))) in
    (before.0 ++ line, ap (kept_text number) same ∙ ap (λ (these : List ℕ). these ++ line) before.1 ∙ append_assoc (kept_text number i) before.0 line)

pub told_front : (number i all : ℕ) → i ≤ all → (rest : List ℕ) × (followed_text number all ≡ kept_text number i ++ rest)
told_front number i all le =
    let front = kept_front number i (all - i) in
    (front.0 ++ closing_line (later number all), grind (arith, front.1, append_assoc (kept_text number i) front.0 (closing_line (later number all))))

-- a first part of all, up to the lines of the first records
pub told_whole : (number i all : ℕ) → i ≤ all → take (length (kept_text number i)) (followed_text number all) ≡ kept_text number i
told_whole number i all le = let front = told_front number i all le in cc (front.1, take-append_seam (kept_text number i) front.0)

cut_more : (count : ℕ) (one two : List ℕ) → take (min count (length one)) (one ++ two) ≡ take count one
cut_more count one two = take-append-le (min count (length one)) one two (omega arith) ∙ take_min count one

-- and into the line of the next
pub told_into : (number i all count : ℕ) → i < all → take (length (kept_text number i) + min count (length (kept_line (later number (suc i))))) (followed_text number all) ≡ kept_text number i ++ take count (kept_line (later number (suc i)))
told_into number i all count lt =
    let line = kept_line (later number (suc i)) in let front = told_front number (suc i) all (omega (arith, lt)) in
    cc (front.1, append_assoc (kept_text number i) line front.0, take-append-add (kept_text number i) (line ++ front.0) (min count (length line)), cut_more count line front.0)

-- and of the next one the line stands whole where all its bytes are there
stand_into : (number i all count : ℕ) (b : Bool) → nat_le (length (kept_line (later number (suc i)))) count ≡ b
    → StandWhole number all (length (kept_text number i) + min count (length (kept_line (later number (suc i))))) (if b then suc i else i)
stand_into number i all count b is k le = grind (arith, nat_tests, b, length-append (kept_text number i) (kept_line (later number (suc i))), kept_grows number k i, kept_grows number (suc i) k, kept_grows number k (suc i), kept_grows number (suc (suc i)) k)

-- one number more
pub later_more : (number i : ℕ) → next (later number i) ≡ later number (i + 1)
later_more number i = omega arith

-- one record more
laid_more : (bytes : ℕ) (store : FlatStore) (records : List (List ShipLine)) (i : ℕ) → i < length records → over bytes (laid_by bytes store (take i records)) (get_or records i []) ≡ laid_by bytes store (take (i + 1) records)
laid_more bytes store records i lt = cc (fold-append (ship_laid bytes) store.bytes (take i records) (get_or records i [] ∷ []), take_more records i [] lt)

pub stood_more : (bytes number : ℕ) (store : FlatStore) (records : List (List ShipLine)) (i : ℕ) (image : List ℕ) → i < length records
    → stands image ≡ Stands (next (later number i)) (over bytes (laid_by bytes store (take i records)) (get_or records i [])) → stands image ≡ Stands (later number (i + 1)) (laid_by bytes store (take (i + 1) records))
stood_more bytes number store records i image lt more = cc (later_more number i, laid_more bytes store records i lt)

module _ (bytes number : ℕ) (store : FlatStore) (records : List (List ShipLine)) (printed : Option (List ℕ)) where
  -- what stands after so many records, with their lines
  pub at_some : (i : ℕ) (image seen : List ℕ) → i ≤ length records → stands image ≡ Stands (later number i) (laid_by bytes store (take i records)) → IfSome printed (λ shown. seen ≡ shown ++ kept_text number i) → IsAtNumber bytes number store records printed image seen
  at_some i image seen le stood is = record {
    j = i;
    few = le;
    stood = stood;
    told = IfSome_then printed is (λ shown same. record {
      count = length (kept_text number i);
      seen_is = same ∙ ap (λ (these : List ℕ). shown ++ these) (sym (told_whole number i (length records) le));
      whole = i;
      stand = stand_some number i (length records) (length (kept_text number i)) (omega arith) (omega (arith, kept_grows number i (suc i)));
      no_more = omega arith;
      no_fewer = omega arith;
    });
  }

  -- what a crash leaves in the next
  pub at_step : (i : ℕ) (mid : Option (List ℕ)) (image seen : List ℕ) → i < length records → Prints printed mid (kept_text number i) well → IsLeftBetween bytes (later number i) (laid_by bytes store (take i records)) (get_or records i []) mid image seen
      → IsAtNumber bytes number store records printed image seen
  at_step i mid image seen lt prints (inl was) =
      at_some i image seen (omega (arith, lt)) was.0 (on_printed printed mid (kept_text number i) tt (λ (shown : List ℕ). seen ≡ shown) prints was.1)
  at_step i mid image seen lt prints (inr more) =
      let number_is : next (later number i) ≡ later number (suc i) = omega arith in
      let line = kept_line (later number (suc i)) in
      let part = on_printed printed mid (kept_text number i) tt (λ (shown : List ℕ). (count : ℕ) × (seen ≡ shown ++ take count (kept_line (next (later number i))))) prints more.1 in
      record {
        j = i + 1;
        few = omega (arith, lt);
        stood = stood_more bytes number store records i image lt more.0;
        told = IfSome_then printed part (λ shown sees. record {
          count = length (kept_text number i) + min sees.0 (length line);
          seen_is =
              sees.1
              ∙ append_assoc shown (kept_text number i) (take sees.0 (kept_line (next (later number i))))
              ∙ ap (λ (n : ℕ). shown ++ (kept_text number i ++ take sees.0 (kept_line n))) number_is
              ∙ ap (λ (these : List ℕ). shown ++ these) (sym (told_into number i (length records) sees.0 lt));
          whole = if nat_le (length line) sees.0 then suc i else i;
          stand = stand_into number i (length records) sees.0 (nat_le (length line) sees.0) refl;
          no_more = grind arith;
          no_fewer = grind arith;
        });
      }

  -- what it leaves in the last line
  pub at_end : (mid : Option (List ℕ)) (image seen : List ℕ) → stands image ≡ Stands (later number (length records)) (laid_by bytes store records) → Prints printed mid (kept_text number (length records)) well
      → SeesPart mid (closing_line (later number (length records))) seen → IsAtNumber bytes number store records printed image seen
  at_end mid image seen stood prints sees =
      let all = length records in
      record {
        j = all;
        few = omega arith;
        stood = stood ∙ ap (λ (these : List (List ShipLine)). Stands (later number all) (laid_by bytes store these)) (sym (take_all all records (omega arith)));
        told = IfSome_then printed (on_printed printed mid (kept_text number all) tt (λ (shown : List ℕ). (count : ℕ) × (seen ≡ shown ++ take count (closing_line (later number all)))) prints sees) (λ shown part. record {
          count = length (kept_text number all) + part.0;
          seen_is =
              part.1
              ∙ append_assoc shown (kept_text number all) (take part.0 (closing_line (later number all)))
              ∙ ap (λ (these : List ℕ). shown ++ these) (sym (take-append-add (kept_text number all) (closing_line (later number all)) part.0));
          whole = all;
          stand = stand_all number all (length (kept_text number all) + part.0) (omega arith);
          no_more = omega arith;
          no_fewer = omega arith;
        });
      }

module _ {W : Type 0} (G : Ghosts W) (fewer_later : FewerLater G) (printed_now : PrintedNow G) (bytes number : ℕ) (store : FlatStore) (records : List (List ShipLine)) where
  -- the records that were asked stay so where nothing was asked behind them
  asked_later : (count : ℕ) (before mid after : W) → RecordsAsked G count before mid → G.deeds after ≡ G.deeds mid → G.held after ≡ G.held mid → IsNotAfter (G.moment mid) (G.moment after) → RecordsAsked G count before after
  asked_later zero before mid after (same_deeds, same_held, later) deeds held last = (deeds ∙ same_deeds, held ∙ same_held, not_after (G.moment before) (G.moment mid) (G.moment after) later last)
  asked_later (suc count) before mid after (between, asked, next, since) deeds held last =
      (between, asked, not_after (G.moment between) (G.moment mid) (G.moment after) next last, subst (λ (those : Option (List Deed)). Since (G.deeds between) those (RecordAsks (held_of G between))) (sym deeds) since)

  -- none yet
  pub so_far_none : (durable : StoreView) (now : W) → later number 0 ≡ number → TracksStore G durable now → stands (held_of G now) ≡ Stands number store → SoFar G bytes number store records 0 durable now now
  so_far_none durable now number_is tracks stood =
      let here : stands (held_of G now) ≡ Stands (later number 0) (laid_by bytes store (take 0 records)) = stood ∙ ap (λ (n : ℕ). Stands n store) (sym number_is) in
      record {
        crash = λ image seen left.
            let is : image ≡ held_of G now = told_is (G.held now) image tracks.sure.told (tracks.sure.durable image seen left) in
            at_some bytes number store records (G.printed now) 0 image seen (omega arith) (ap stands is ∙ here) (IfSome_then (G.printed now) (printed_now now image seen left) (λ shown same. same ∙ sym (append-nil shown)));
        tracks = tracks;
        stood = here;
        printed = prints_none (G.printed now) tt;
        times = λ some. omega arith;
        deeds = (refl, refl, (goes_none G now).time.later);
      }

  module _ (i : ℕ) (lt : i < length records) (old_store : StoreView) (before mid : W) (time : Elapses G.moment G.left_since before mid) (so_far : SoFar G bytes number store records i old_store before mid)
      (durable : StoreView) (after : W) (on : Elapses G.moment G.left_since mid after) where
    -- a crash in the next
    crash_on : (result : Result (Unit {0}) Followed) → Steps G bytes (later number i) (laid_by bytes store (take i records)) (get_or records i []) durable mid after result → Leaves G (IsAtNumber bytes number store records (G.printed before)) before after
    crash_on result steps =
        leaves_on G fewer_later before mid after time on (IsAtNumber bytes number store records (G.printed before)) so_far.crash
        (λ image seen left. at_step bytes number store records (G.printed before) i (G.printed mid) image seen lt so_far.printed (steps.crash image seen left))

    number_on : next (later number i) ≡ later number (suc i)
    number_on = omega arith

    -- it is kept and told
    pub so_far_more : Steps G bytes (later number i) (laid_by bytes store (take i records)) (get_or records i []) durable mid after (Ok tt) → SoFar G bytes number store records (i + 1) durable before after
    so_far_more steps =
        let printed = prints_on (G.printed before) (G.printed mid) (G.printed after) (kept_text number i) (kept_line (next (later number i))) tt well so_far.printed steps.ends.2 in
        let text : kept_text number i ++ kept_line (next (later number i)) ≡ kept_text number (i + 1) = ap (λ (n : ℕ). kept_text number i ++ kept_line n) number_on ∙ ap (kept_text number) (let one_on : suc i ≡ i + 1 = omega arith in one_on) in
        let asked : RecordsAsked G (i + 1) before after = subst (λ (n : ℕ). RecordsAsked G n before after) (let one_on : suc i ≡ i + 1 = omega arith in one_on) (mid, so_far.deeds, on.later, steps.deeds) in
        grind (arith, asked, crash_on (Ok tt) steps, steps.ends, stood_more bytes number store records i (held_of G after) lt steps.ends.1, printed, text, so_far.times, told_on (G.printed before) (G.printed mid) (kept_text number i) so_far.printed)

    -- it isn't
    pub so_far_stopped : (why : Followed) → Steps G bytes (later number i) (laid_by bytes store (take i records)) (get_or records i []) durable mid after (Err why) → FollowKeeps G bytes number store records durable before after why
    so_far_stopped DiskFault steps = record {
      crash = crash_on (Err DiskFault) steps;
      ends = (
        record {
          count = i;
          printed = subst (λ (those : Option (List ℕ)). Prints (G.printed before) those (kept_text number i) well) (sym steps.ends) so_far.printed;
          left = λ image seen left. ⊎_elim (λ was. (i, omega arith, omega arith, was.0)) (λ more. (i + 1, omega arith, omega arith, stood_more bytes number store records i image lt more.0)) (steps.crash image seen (fewer_later after (G.moment mid) (G.moment after) image seen on.later left));
        },
        lt,
        (mid, so_far.deeds, on.later, steps.deeds),
      );
    }
    so_far_stopped PutFault steps = record {
      crash = crash_on (Err PutFault) steps;
      ends =
          let breaks : BreaksAt G bytes number store records durable after = record { count = i + 1; few = omega (arith, lt); tracks = steps.ends.0; stood = stood_more bytes number store records i (held_of G after) lt steps.ends.1 } in
          let far : suc i + (length records - suc i) ≡ length records = omega (arith, lt) in
          let front = kept_front number (suc i) (length records - suc i) in
          let line = kept_line (later number (suc i)) in
          let whole : (kept_text number i ++ line) ++ front.0 ≡ kept_text number (length records) = sym front.1 ∙ ap (kept_text number) far in
          let part = subst (λ (n : ℕ). Prints (G.printed mid) (G.printed after) (kept_line n) broken) number_on steps.ends.2 in (
            breaks,
            prints_same (G.printed before) (G.printed after) ((kept_text number i ++ line) ++ front.0) (kept_text number (length records)) broken whole
                (prints_stop (G.printed before) (G.printed after) (kept_text number i ++ line) front.0 broken broken refl refl
                (prints_on (G.printed before) (G.printed mid) (G.printed after) (kept_text number i) line tt broken so_far.printed part)),
            subst (λ (n : ℕ). RecordsAsked G n before after) (let one_on : suc i ≡ i + 1 = omega arith in one_on) (mid, so_far.deeds, on.later, steps.deeds),
          );
    }
    so_far_stopped _ steps = absurd steps.ends

  -- all are
  pub so_far_all : (count : ℕ) (durable : StoreView) (before now : W) → count ≡ length records → SoFar G bytes number store records count durable before now → FollowKeeps G bytes number store records durable before now Done
  so_far_all count durable before now all so_far = record {
    crash = so_far.crash;
    ends = grind (arith, so_far.tracks, so_far.stood, take_all count records (omega (arith, all)), prints_same (G.printed before) (G.printed now) (kept_text number count) (kept_text number (length records)) well (ap (kept_text number) all) so_far.printed, so_far.times, subst (λ (n : ℕ). RecordsAsked G n before now) all so_far.deeds);
  }

  -- and the last line is put behind them
  module _ (durable : StoreView) (before mid after : W) (time : Elapses G.moment G.left_since before mid) (keeps : FollowKeeps G bytes number store records durable before mid Done) where
    abbrev last : List ℕ
    last = closing_line (later number (length records))

    end_asked : {T : Type 0} (how : Result T Failed) → PutsAtOnce G last mid after how → RecordsAsked G (length records) before after
    end_asked how puts = asked_later (length records) before mid after keeps.ends.3 puts.only.deeds puts.only.held puts.only.time.later

    end_crash : {T : Type 0} (how : Result T Failed) → PutsAtOnce G last mid after how → Leaves G (IsAtNumber bytes number store records (G.printed before)) before after
    end_crash how puts =
        leaves_on G fewer_later before mid after time puts.only.time (IsAtNumber bytes number store records (G.printed before)) keeps.crash
        (λ image seen left.
        let from = image_is G printed_now last mid after how puts keeps.ends.0.tracks.sure image seen left in
        at_end bytes number store records (G.printed before) (G.printed mid) image seen (ap stands from.0 ∙ keeps.ends.0.stood) keeps.ends.1 from.1)

    pub ended : (line : List ℕ) (result : Result (Unit {0}) Followed) → line ≡ last → OnErr result (result ≡ Err PutFault) → PutsAtOnce G line mid after (put_result result) → Follows G bytes number store records durable before after (followed_of result)
    ended line (Ok done) is only puts =
        let put = subst (λ (these : List ℕ). PutsAtOnce {T = Unit {0}} G these mid after well) is puts in
        let sure = sure_puts G printed_now fewer_later last mid after well put keeps.ends.0.tracks.sure in
        let printed = prints_on (G.printed before) (G.printed mid) (G.printed after) (kept_text number (length records)) last tt well keeps.ends.1 put.printed in
        let told = told_on (G.printed before) (G.printed mid) (kept_text number (length records)) keeps.ends.1 in
        grind (arith, end_crash well put, sure, keeps.ends.0.tracks.shows, keeps.ends.0.stood, printed, keeps.ends.2, put.once, told, end_asked well put)
    ended line (Err why) is only puts =
        let put = subst (λ (these : List ℕ). PutsAtOnce {T = Unit {0}} G these mid after broken) is puts in
        let sure = sure_puts G printed_now fewer_later last mid after broken put keeps.ends.0.tracks.sure in
        let printed = prints_on (G.printed before) (G.printed mid) (G.printed after) (kept_text number (length records)) last tt broken keeps.ends.1 put.printed in
        let is : why ≡ PutFault = cc (only) in
        let breaks : BreaksAt G bytes number store records durable after = record {
          count = length records;
          few = omega arith;
          tracks = grind (arith, nat_tests, sure, keeps.ends.0.tracks.shows);
          stood = grind (arith, sure, keeps.ends.0.stood, take_all (length records) records (omega arith));
        } in
        subst (λ (how : Followed). Follows G bytes number store records durable before after how) (sym is) (record { crash = end_crash broken put; ends = (breaks, printed, end_asked broken put) })

  -- what stopped in a record stops there
  pub stopped_early : (durable : StoreView) (before after : W) (why : Followed) → (why ≡ Done → ⊥) → FollowKeeps G bytes number store records durable before after why → Follows G bytes number store records durable before after why
  stopped_early durable before after Done differs keeps = absurd (differs refl)
  stopped_early durable before after PutFault differs keeps = record {
    crash = keeps.crash;
    ends = (keeps.ends.0, prints_stop (G.printed before) (G.printed after) (kept_text number (length records)) (closing_line (later number (length records))) broken broken refl refl keeps.ends.1, keeps.ends.2);
  }
  stopped_early durable before after _ differs keeps = record { crash = keeps.crash; ends = keeps.ends }

-- a fault isn't the end
pub not_done : (why : Followed) → FollowStopped why → why ≡ Done → ⊥
not_done why stopped is = grind (arith, nat_tests)

-- a fault comes of a text that fits
pub found_stopped : (header : Header) (content : ShipContent) (from : ℕ) (why : Followed)
    → FollowStopped why → FoundOf header content from Done → FoundOf header content from why
found_stopped header content from why stopped fits = grind (arith, nat_tests)

-- nothing is called
pub follows_none : {W : Type 0} (G : Ghosts W) (fewer_later : FewerLater G) (printed_now : PrintedNow G) (bytes number : ℕ) (store : FlatStore) (records : List (List ShipLine)) (durable : StoreView) (now : W) (how : Followed)
    → later number 0 ≡ number → TracksStore G durable now → stands (held_of G now) ≡ Stands number store → EndsWith G bytes number store records (followed_text number (length records)) (length records + 1) durable now now how → Follows G bytes number store records durable now now how
follows_none G fewer_later printed_now bytes number store records durable now how number_is tracks stood ends =
    record { crash = (so_far_none G fewer_later printed_now bytes number store records durable now number_is tracks stood).crash; ends = ends }
