-- Pages of a touch that come in from the store on the disk, one after the other, or that break off.
use Rattle.activations.proofs.Common.{IsSeen, asks_none, length-replicate, replicate, ◌⊎◌, inr, inl, not-true, or_parts, arith, ap, sym, ◌∙◌, subst, ltb-false, PageSize, Layout, byte_count, page_count, page_bytes, byte_count-lines, brought, has, has_left, overlaid, Ghosts, OnlyAsks, FewerLater, held_of, Standing, Stands, NotAStore, Damaged, stands, StoreView, Pool, private_frames, line_place, reach_of, IsClean, private_bytes, PoolFits, PoolKeeps, frame_filled, page_bytes_in, frame-high, laid-bytes, room-stays, emptied-stays, IsStoreOf, IsIn, IsPoolMoved, ◌≡◌, refl, ℕ, ◌+◌, ◌-◌, ◌*◌, ◌<◌, ◌≤◌, ◌==◌, ◌++◌, not, nat_lt, if◌then◌else◌, Bool, true, false, List, [], ◌∷◌, length, take, drop, fold, remove, position, unwrap_or, slice_index, Option, Some, None, option_to_list, Result, Ok, Err, OnOk, OnErr, take-append-le, take-take, length-append, length-take, Brought, frame_at, marks_at, with_bytes, pool_emptied, line_laid, line_kept, has-remove_other, turned, KeepsPool, IsErrAnd, eq-eqb, ne_eqb, has_right, DiskWord, Fine, ReadFailed, Fetching, Fetched, Broken, can't_be_read, fetches, Activity, IsUnread, IsBrokenOff, TouchedLines, Want, pages_wanted, wants_of, nat_tests, Fetches, HasFetched}
use Rattle.std.proofs.lemmas.List.Quantifiers.{position-Some}
use Rattle.store_format.proofs.Fronts.{shorter_front, later_front}
use Rattle.store_format.proofs.Stores.{stands_is}
use Rattle.store.proofs.Newest.{store_agrees}
use Rattle.store.specs.Shows.{Shows}
use Rattle.store.proofs.ShowLemmas.{sure_on, shown_store}
use Rattle.frame_pool.proofs.SoundLemmas.{not-all-stay}
use Rattle.storage_unit.specs.declared.unit.Unit.{Unit}
use Rattle.storage_unit.specs.Incoming.{IsFilled, IsAllKept, HasGoneOut}
use Rattle.storage_unit.proofs.BringKeeps.{bring-keeps, page_in-long}
use Rattle.storage_unit.proofs.FailedBringKeeps.{failed-bring-keeps}
use Rattle.store.specs.Shows as restart
use Rattle.activations.proofs.PoolLemmas.{private-all, brought-one, brought-first, brought-second}

-- a store stays open, with the same bytes, while the disk is only asked
pub store-on : {W : Type 0} (G : Ghosts W) (fewer_later : FewerLater G) (store : StoreView) (old new : W) (committed : List ℕ) → OnlyAsks G old new
    → IsStoreOf G store old committed → IsStoreOf G store new committed
store-on G fewer_later store old new committed asks is = record {
  tracks = record {
    sure = sure_on G fewer_later old new is.tracks.sure asks;
    shows = subst (λ (those : Option (List ℕ)). Shows (unwrap_or those []) store) (sym asks.held) is.tracks.shows;
  };
  number = is.number;
  stood = ap (λ (those : Option (List ℕ)). stands (unwrap_or those [])) asks.held ∙ is.stood;
}

-- the bytes of what stands
abbrev bytes_in : Standing → List ℕ
bytes_in (Stands number store) = store.bytes
bytes_in (NotAStore offset) = []
bytes_in (Damaged offset) = []

-- what is committed in an open store is as long as its directory says
pub committed-long : {W : Type 0} (G : Ghosts W) (store : StoreView) (outside : W) (committed : List ℕ) → IsStoreOf G store outside committed
    → length committed ≡ byte_count store.header.directory
committed-long G store outside committed is =
    let stored = shown_store (held_of G outside) store is.tracks.shows in
    let agree = store_agrees (held_of G outside) store.header store.bank.which store.bank.base store.bank.gate is.tracks.shows.read.records stored in
    ap (λ (standing : Standing). length (bytes_in standing))
    (sym is.stood ∙ stands_is (held_of G outside) store.header store.bank.which store.bank.base store.bank.gate is.tracks.shows.read.records stored)
    ∙ agree.long ∙ sym (byte_count-lines store.header.directory)

-- a page that is read is that part of what is committed
pub page-read : (standing : Standing) (number : ℕ) (directory : Layout) (committed : List ℕ) (page : ℕ) → standing ≡ Stands number (record { directory = directory; bytes = committed })
    → restart.page_in standing page ≡ page_bytes_in directory committed page
page-read standing number directory committed page stood =
    let rest : page_bytes directory.page ≡ page * page_bytes directory.page + page_bytes directory.page - page * page_bytes directory.page = omega arith in
    ap (λ (s : Standing). restart.page_in s page) stood
    ∙ ap (λ (n : ℕ). take n (drop (page * page_bytes directory.page) committed)) rest

-- bytes in front of a part that is written over stay
front-over : (xs : List ℕ) (at : ℕ) (part : List ℕ) (low : ℕ) → low ≤ at → low ≤ length xs → (take low (overlaid xs at part) ≡ take low xs) × (low ≤ length (overlaid xs at part))
front-over xs at part low before inside =
    let long : low ≤ length (take at xs) = omega (arith, length-take at xs, inside, before) in (
      take-append-le low (take at xs ++ part) (drop (at + length part) xs) (omega (arith, long, length-append (take at xs) part))
          ∙ take-append-le low (take at xs) part long ∙ take-take low at xs before,
      omega (arith, long, length-append (take at xs) part, length-append (take at xs ++ part) (drop (at + length part) xs)),
    )

-- kept lines that are laid over a frame leave the bytes in front of it
front-laid : (page frame low : ℕ) (lines : List ℕ) (pool : Pool) → low ≤ frame * page_bytes pool.page → low ≤ length pool.bytes
    → take low (fold (line_laid page frame) pool lines).bytes ≡ take low pool.bytes
front-laid page frame low [] pool before inside = refl
front-laid page frame low (line ∷ lines) pool before inside =
    let one = front-over pool.bytes (line_place pool.page frame line) (line_kept pool page line) low (omega (arith, before)) inside in
    front-laid page frame low lines (line_laid page frame pool line) before one.1 ∙ one.0

-- The pool once a page came into a frame that was filled with these bytes, and its kept lines lie over them.
module _ (directory : Layout) (old new : Pool) (page : ℕ) (keep : Option ℕ) (frame : ℕ) (bytes : List ℕ)
    (fits : PoolFits directory old) (also : PoolFits directory new) (came : Brought old new page keep frame) where
  abbrev read : Pool
  read = with_bytes new (frame * page_bytes new.page) bytes

  -- the first bytes are private
  all-private : 262144 ≤ length new.bytes
  all-private = private-all new.page new.frames (length new.bytes) also.seen.bytes

  behind : (other : ℕ) → private_frames new.page ≤ other → 262144 ≤ other * page_bytes new.page
  behind other above = frame-high new.page other above

  front-read : (take 262144 read.bytes ≡ take 262144 new.bytes) × (262144 ≤ length read.bytes)
  front-read = front-over new.bytes (frame * page_bytes new.page) bytes 262144 (behind frame (subst (λ (s : PageSize). private_frames s ≤ frame) (fits.size ∙ sym also.size) came.above)) all-private

  front-filled : take 262144 (frame_filled new page frame bytes).bytes ≡ take 262144 read.bytes
  front-filled =
      let laid = λ (other : ℕ) (is : frame_at new page ≡ Some other). front-laid page other 262144 (marks_at new page) read (behind other (also.seen.above page other (also.seen.there page other is))) front-read.1 in
      grind (arith, laid)

  pub moved-filled : IsPoolMoved old (frame_filled new page frame bytes)
  moved-filled =
      let stays = (room-stays old keep fits.seen).1 in let is = laid-bytes read page in record {
        marked = ap (λ (pool : Pool). pool.marked) is ∙ ap (λ (pool : Pool). pool.marked) came.rest ∙ stays.marked;
        private = λ seat few.
            let count : ℕ = seat * 16384 + 16384 - seat * 16384 in
            later_front (seat * 16384) count (frame_filled new page frame bytes).bytes old.bytes
            (shorter_front (seat * 16384 + count) 262144 (frame_filled new page frame bytes).bytes old.bytes
            (front-filled ∙ front-read.0 ∙ ap (λ (pool : Pool). take 262144 pool.bytes) came.rest ∙ ap (λ (these : List ℕ). take 262144 these) stays.bytes) (omega (arith, few)));
        size = ap (λ (pool : Pool). pool.page) is ∙ ap (λ (pool : Pool). pool.page) came.rest ∙ stays.page;
        frames = ap (λ (pool : Pool). pool.frames) is ∙ ap (λ (pool : Pool). pool.frames) came.rest ∙ stays.frames;
      }

-- pages that all go out
pub moved-emptied : (old pool : Pool) → IsPoolMoved old pool → IsPoolMoved old (pool_emptied pool)
moved-emptied old pool moved =
    let stays = emptied-stays pool in record {
      marked = stays.marked ∙ moved.marked;
      private = λ seat few. ap (λ (bytes : List ℕ). private_bytes (record pool { bytes = bytes }) seat) stays.bytes ∙ moved.private seat few;
      size = stays.page ∙ moved.size;
      frames = stays.frames ∙ moved.frames;
    }

-- pages that move twice
pub moved-then : (old mid new : Pool) → IsPoolMoved old mid → IsPoolMoved mid new → IsPoolMoved old new
moved-then old mid new first second = record {
  marked = second.marked ∙ first.marked;
  private = λ seat few. second.private seat few ∙ first.private seat few;
  size = second.size ∙ first.size;
  frames = second.frames ∙ first.frames;
}

-- a page that is to stay, stays: of at least two frames another can be had
pub keeps-other : (pool : Pool) (other page : ℕ) → IsSeen pool → has pool.resident other ≡ true → has (brought pool.frames (other ∷ []) pool.resident page) other ≡ true
keeps-other pool other page seen inside = by_room (nat_lt (length pool.resident) pool.frames) refl
  where
    by_room : (room : Bool) → nat_lt (length pool.resident) pool.frames ≡ room
        → has ((if room then pool.resident else remove pool.resident (unwrap_or (position (λ x. not (has (other ∷ []) x)) pool.resident) 0)) ++ page ∷ []) other ≡ true
    by_room true e = has_left pool.resident (page ∷ []) other inside
    by_room false e = by_place (position (λ x. not (has (other ∷ []) x)) pool.resident) refl
      where
        by_place : (place : Option ℕ) → position (λ x. not (has (other ∷ []) x)) pool.resident ≡ place → has (remove pool.resident (unwrap_or place 0) ++ page ∷ []) other ≡ true
        by_place None is = absurd (not-all-stay (Some other) pool.resident seen.apart (omega (arith, ltb-false (length pool.resident) pool.frames e, seen.some)) is)
        by_place (Some at) is = has_left (remove pool.resident at) (page ∷ []) other
            (has-remove_other pool.resident at other (apart (slice_index pool.resident at) (position-Some (λ x. not (has (other ∷ []) x)) pool.resident at 0 is).1) ∙ inside)
          where
            apart : (x : ℕ) → not (has (other ∷ []) x) ≡ true → (x == other) ≡ false
            apart x is = turned other x (or_parts (other == x) false (not-true _ is)).0

-- a page that wasn't resident has come in and is counted
pub came-in : (unit now : Unit) (page : ℕ) (keep : Option ℕ) (counted : ℕ) → has unit.pool.resident page ≡ false
    → now.pool.resident ≡ brought unit.pool.frames (option_to_list keep) unit.pool.resident page → IsIn unit.pool now.pool page keep counted (counted + 1)
came-in unit now page keep counted absent came =
    let pool = unit.pool in record {
      resident = came ∙ sym (ap (λ (there : Bool). if there then pool.resident else brought pool.frames (option_to_list keep) pool.resident page) absent);
      counted = sym (ap (λ (there : Bool). if there then counted else counted + 1) absent);
      stays = λ other is inside.
          ap (λ (these : List ℕ). has these other) came
          ∙ ap (λ (kept : Option ℕ). has (brought pool.frames (option_to_list kept) pool.resident page) other) is
          ∙ keeps-other pool other page unit.fits.seen inside;
    }

pub on-ok : {T E : Type 0} (P Q : Type 0) (result : Result T E) → OnOk result P → (P → Q) → OnOk result Q
on-ok P Q (Ok value) is leads = leads is
on-ok P Q (Err fault) is leads = is

-- what follows either way
pub either-way : {T E : Type 0} (P Q R : Type 0) (result : Result T E) → OnOk result P → OnErr result Q → (P → R) → (Q → R) → R
either-way P Q R (Ok value) is not leads others = leads is
either-way P Q R (Err fault) is not leads others = others not

-- A unit into which a page comes.
module _ (unit : Unit) (page : ℕ) (keep : Option ℕ) where
  fits_first : PoolFits unit.directory (reach_of unit).pool
  fits_first = unit.fits

  filled-moved : (bytes : List ℕ) (new : Pool) → IsFilled (reach_of unit) page keep bytes new → IsPoolMoved (reach_of unit).pool new
  filled-moved bytes new filling = subst (IsPoolMoved (reach_of unit).pool) (sym filling.is) (moved-filled unit.directory (reach_of unit).pool filling.room page keep filling.frame bytes fits_first filling.fits filling.came)

  -- it came in so: these bytes were read, or nothing was asked and each of its lines is kept
  module _ {W : Type 0} (G : Ghosts W) (store : StoreView) (old after : W) (new : Pool) where
    abbrev Came : Type 0
    Came =
        ((bytes : List ℕ)
        × (OnlyAsks G old after × (G.disk_faults after ≡ G.disk_faults old) × (restart.IsShown G store old → bytes ≡ restart.page_in (stands (held_of G old)) page))
        × IsFilled (reach_of unit) page keep bytes new)
        ⊎ ((after ≡ old) × IsAllKept (reach_of unit) page keep new)

    pub came-asked : Came → OnlyAsks G old after × (G.disk_faults after ≡ G.disk_faults old)
    came-asked (inl (_, asked, _)) = (asked.0, asked.1)
    came-asked (inr (same, kept)) = (subst (OnlyAsks G old) (sym same) (asks_none G old), ap G.disk_faults same)

    came-filled : Came → (bytes : List ℕ) × IsFilled (reach_of unit) page keep bytes new
    came-filled (inl (bytes, _, filling)) = (bytes, filling)
    came-filled (inr (same, kept)) =
        let size : ℕ = page_bytes unit.directory.page in (replicate size 0, kept.any (replicate size 0) (length-replicate size 0))

    pub came-moved : Came → IsPoolMoved (reach_of unit).pool new
    came-moved came = let (bytes, filling) = came-filled came in filled-moved bytes new filling

    pub came-resident : Came → new.resident ≡ brought (reach_of unit).pool.frames (option_to_list keep) (reach_of unit).pool.resident page
    came-resident came = (came-filled came).1.resident

    pub came-keeps : store.header.directory ≡ unit.directory → page < page_count unit.directory → has unit.pool.resident page ≡ false → Came
        → KeepsPool G store old unit.directory (reach_of unit).pool new
    came-keeps same below absent came committed is clean = by_way came
      where
        long : length committed ≡ byte_count unit.directory
        long = committed-long G store old committed is ∙ ap byte_count same

        filled-keeps : (bytes : List ℕ) → bytes ≡ page_bytes_in unit.directory committed page → IsFilled (reach_of unit) page keep bytes new → PoolKeeps unit.directory (reach_of unit).pool new committed
        filled-keeps bytes was filling =
            subst (λ (pool : Pool). PoolKeeps unit.directory (reach_of unit).pool pool committed)
            (sym (filling.is ∙ ap (frame_filled filling.room page filling.frame) was))
            (bring-keeps unit.directory (reach_of unit).pool filling.room committed page keep filling.frame fits_first filling.fits long clean below absent filling.came)

        by_way : Came → PoolKeeps unit.directory (reach_of unit).pool new committed
        by_way (inl (bytes, asked, filling)) = filled-keeps bytes
            (asked.2 (record { told = is.tracks.sure.told; shows = is.tracks.shows }) ∙ page-read (stands (held_of G old)) is.number store.header.directory committed page is.stood ∙ ap (λ (d : Layout). page_bytes_in d committed page) same)
            filling
        by_way (inr (unasked, kept)) = filled-keeps (page_bytes_in unit.directory committed page) refl (kept.any (page_bytes_in unit.directory committed page) (page_in-long unit.directory committed page long below))

  -- it couldn't be read, and all pages went out
  module _ (new : Pool) (gone : HasGoneOut (reach_of unit) page keep new) where
    pub out-moved : IsPoolMoved (reach_of unit).pool new
    out-moved = subst (IsPoolMoved (reach_of unit).pool) (sym gone.out) (moved-emptied (reach_of unit).pool gone.between (filled-moved gone.bytes gone.between gone.was))

    pub out-keeps : page < page_count unit.directory → has unit.pool.resident page ≡ false → (committed : List ℕ) → IsClean unit.directory (reach_of unit).pool committed
        → PoolKeeps unit.directory (reach_of unit).pool new committed
    out-keeps below absent committed clean =
        subst (λ (pool : Pool). PoolKeeps unit.directory (reach_of unit).pool pool committed)
        (sym (gone.out ∙ ap pool_emptied gone.was.is))
        (failed-bring-keeps unit.directory (reach_of unit).pool gone.was.room committed gone.bytes page keep gone.was.frame fits_first gone.was.fits clean below absent gone.was.came gone.was.long)

-- what a page of several comes to, by whether it is resident and can be read
abbrev fetched_by : (there fails : Bool) → DiskWord → (frames : ℕ) → (kept pages resident : List ℕ) → (page counted : ℕ) → Fetching
fetched_by there fails word frames kept pages resident page counted =
    if there
    then fetches word frames kept pages resident counted
    else if fails
    then Broken (counted + 1)
    else fetches word frames kept pages (brought frames kept resident page) (counted + 1)

-- A page came in: the others are fetched from there on.
module _ (old new : Pool) (page : ℕ) (keep : Option ℕ) (before after : ℕ) (came : IsIn old new page keep before after) where
  -- it is there then
  in-there : has new.resident page ≡ true
  in-there = let is = came.resident in grind (arith, nat_tests, is, has_right)

  one-there : (other : ℕ) → has (page ∷ []) other ≡ true → has new.resident other ≡ true
  one-there other inside = grind (arith, nat_tests, in-there)

  in-later : before ≤ after
  in-later = let is = came.counted in grind (arith, is)

  in-fetched : (word : DiskWord) (kept pages : List ℕ) → (has old.resident page ≡ false → brought old.frames (option_to_list keep) old.resident page ≡ brought old.frames kept old.resident page)
      → (has old.resident page ≡ false → can't_be_read word (before + 1) ≡ false)
      → fetches word old.frames kept (page ∷ pages) old.resident before ≡ fetches word old.frames kept pages new.resident after
  in-fetched word kept pages same reads = let is = came.resident in let counted = came.counted in grind (arith, is, counted, same, reads)

-- A page couldn't be read.
unread-broken : (old new : Pool) (page before after : ℕ) (kept pages : List ℕ) → IsUnread old new page before after
    → fetches (ReadFailed after) old.frames kept (page ∷ pages) old.resident before ≡ Broken after
unread-broken old new page before after kept pages unread =
    ap (λ (there : Bool). fetched_by there (can't_be_read (ReadFailed after) (before + 1)) (ReadFailed after) old.frames kept pages old.resident page before) unread.absent
    ∙ ap (λ (fails : Bool). fetched_by false fails (ReadFailed after) old.frames kept pages old.resident page before) (eq-eqb after (before + 1) unread.counted)
    ∙ ap Broken (sym unread.counted)

-- Two pages, of which each stays while the other comes in.
module _ (old mid : Pool) (first second before between : ℕ) (came : IsIn old mid first (Some second) before between) (frames : mid.frames ≡ old.frames) where
  two-in : (new : Pool) (after : ℕ) → IsIn mid new second (Some first) between after
      → fetches Fine old.frames (first ∷ second ∷ []) (first ∷ second ∷ []) old.resident before ≡ Fetched new.resident after
  two-in new after later =
      in-fetched old mid first (Some second) before between came Fine (first ∷ second ∷ []) (second ∷ []) (brought-first old.frames first second old.resident) (λ out. refl)
      ∙ ap (λ (n : ℕ). fetches Fine n (first ∷ second ∷ []) (second ∷ []) mid.resident between) (sym frames)
      ∙ in-fetched mid new second (Some first) between after later Fine (first ∷ second ∷ []) [] (brought-second mid.frames second first mid.resident) (λ out. refl)

  two-unread : (new : Pool) (after : ℕ) → IsUnread mid new second between after
      → fetches (ReadFailed after) old.frames (first ∷ second ∷ []) (first ∷ second ∷ []) old.resident before ≡ Broken after
  two-unread new after unread =
      in-fetched old mid first (Some second) before between came (ReadFailed after) (first ∷ second ∷ []) (second ∷ []) (brought-first old.frames first second old.resident)
      (λ out. ne_eqb after (before + 1) (λ same. absurd (omega (arith, same, unread.counted, ap (λ (there : Bool). if there then before else before + 1) out, came.counted))))
      ∙ ap (λ (n : ℕ). fetches (ReadFailed after) n (first ∷ second ∷ []) (second ∷ []) mid.resident between) (sym frames)
      ∙ unread-broken mid new second between after (first ∷ second ∷ []) [] unread

  -- both are resident then
  both-there : (new : Pool) (after : ℕ) → IsIn mid new second (Some first) between after
      → (page : ℕ) → has (first ∷ second ∷ []) page ≡ true → has new.resident page ≡ true
  both-there new after later page inside =
      let stays = later.stays first refl (in-there old mid first (Some second) before between came) in let rest = one-there mid new second (Some first) between after later page in
      grind (arith, nat_tests, inside, stays, rest)

-- Over what runs, whose frames came to another pool, pages came in, or broke off.
module _ {W : Type 0} (G : Ghosts W) (store : StoreView) (outside : W) (a : Activity) (pages : List ℕ) (before after : ℕ) (new : Pool) (moved : IsPoolMoved a.reach.pool new)
    (keeps : KeepsPool G store outside a.reach.directory a.reach.pool new) where
  is-fetched : ((page : ℕ) → has pages page ≡ true → has new.resident page ≡ true)
      → fetches Fine a.reach.pool.frames pages pages a.reach.pool.resident before ≡ Fetched new.resident after → HasFetched G store outside a pages before new after
  is-fetched there fetched = record { moved = moved; resident = there; fetched = λ committed order is clean. record { moved = moved; keeps = keeps committed is clean; fetched = fetched } }

  is-broken : new.resident ≡ [] → before < after → fetches (ReadFailed after) a.reach.pool.frames pages pages a.reach.pool.resident before ≡ Broken after
      → (committed : List ℕ) (order : List (ℕ × ℕ)) → IsStoreOf G store outside committed → IsClean a.reach.directory a.reach.pool committed → IsBrokenOff a committed order pages before new after
  is-broken none counted broken committed order is clean = record { moved = moved; keeps = keeps committed is clean; none = none; counted = counted; broken = broken }

-- no page
pub none-fetched : {W : Type 0} (G : Ghosts W) (store : StoreView) (outside : W) (a : Activity) (touch : TouchedLines) (before : ℕ) → touch ≡ TouchedLines.Nothing
    → HasFetched G store outside a (pages_wanted (wants_of touch)) before a.reach.pool before
none-fetched G store outside a touch before is =
    subst (λ (t : TouchedLines). HasFetched G store outside a (pages_wanted (wants_of t)) before a.reach.pool before) (sym is)
    (is-fetched G store outside a [] before before a.reach.pool (record { marked = refl; private = λ seat few. refl; size = refl; frames = refl }) (λ committed is clean. record { same = refl; clean = clean })
    (λ page inside. absurd (cc (inside))) refl)

-- pages of two steps keep what all see
pub keeps-both : {W : Type 0} (G : Ghosts W) (fewer_later : FewerLater G) (store : StoreView) (outside between : W) (directory : Layout) (old mid new : Pool) → OnlyAsks G outside between
    → KeepsPool G store outside directory old mid → KeepsPool G store between directory mid new → KeepsPool G store outside directory old new
keeps-both G fewer_later store outside between directory old mid new asks first second committed is clean =
    let one = first committed is clean in
    let two = second committed (store-on G fewer_later store outside between committed asks is) one.clean in
    record { same = two.same ∙ one.same; clean = two.clean }

pub fetch-fails : {T E W : Type 0} (result : Result T E) (failed : E) → IsErrAnd result (λ told. told ≡ failed) → (G : Ghosts W) (store : StoreView) (outside : W) (a : Activity) (pages : List ℕ) (before : ℕ) (new : Pool) (after : ℕ)
    → Fetches {T = T} (Err failed) G store outside a pages before new after → Fetches result G store outside a pages before new after
fetch-fails (Ok it) failed told G store outside a pages before new after off = absurd told
fetch-fails (Err is) failed told G store outside a pages before new after off = off

pub if-err : {T E : Type 0} (P Q : Type 0) (result : Result T E) → OnErr result P → (P → Q) → OnErr result Q
if-err P Q (Ok value) is leads = is
if-err P Q (Err fault) is leads = leads is

-- A touch of one page.
one-comes : {T E W : Type 0} (G : Ghosts W) (store : StoreView) (outside : W) (a : Activity) (new : Pool) (page before after : ℕ) → IsPoolMoved a.reach.pool new → KeepsPool G store outside a.reach.directory a.reach.pool new
    → (result : Result T E) → OnOk result (IsIn a.reach.pool new page None before after) → OnErr result (IsUnread a.reach.pool new page before after) → Fetches result G store outside a (page ∷ []) before new after
one-comes G store outside a new page before after moved keeps (Ok it) came not =
    is-fetched G store outside a (page ∷ []) before after new moved keeps (one-there a.reach.pool new page None before after came)
    (in-fetched a.reach.pool new page None before after came Fine (page ∷ []) [] (brought-one a.reach.pool.frames page a.reach.pool.resident) (λ out. refl))
one-comes G store outside a new page before after moved keeps (Err failed) came not =
    is-broken G store outside a (page ∷ []) before after new moved keeps not.none (omega (arith, not.counted)) (unread-broken a.reach.pool new page before after (page ∷ []) [] not)

pub one-fetches : {T E W : Type 0} (G : Ghosts W) (store : StoreView) (outside : W) (a : Activity) (new : Pool) (touch : TouchedLines) (only : Want) → touch ≡ TouchedLines.One only → (before after : ℕ)
    → IsPoolMoved a.reach.pool new → KeepsPool G store outside a.reach.directory a.reach.pool new → (result : Result T E) → OnOk result (IsIn a.reach.pool new only.page None before after)
    → OnErr result (IsUnread a.reach.pool new only.page before after) → Fetches result G store outside a (pages_wanted (wants_of touch)) before new after
one-fetches G store outside a new touch only is before after moved keeps result came not =
    subst (λ (t : TouchedLines). Fetches result G store outside a (pages_wanted (wants_of t)) before new after) (sym is) (one-comes G store outside a new only.page before after moved keeps result came not)

-- And of two, the first of which came to a pool.
module _ {W : Type 0} (G : Ghosts W) (store : StoreView) (outside : W) (a : Activity) (mid : Pool) (touch : TouchedLines) (first second : Want) (is : touch ≡ TouchedLines.Two first second) (before between : ℕ)
    (moved : IsPoolMoved a.reach.pool mid) (keeps : KeepsPool G store outside a.reach.directory a.reach.pool mid) where
  pub first-broken : IsUnread a.reach.pool mid first.page before between
      → (committed : List ℕ) (order : List (ℕ × ℕ)) → IsStoreOf G store outside committed → IsClean a.reach.directory a.reach.pool committed → IsBrokenOff a committed order (pages_wanted (wants_of touch)) before mid between
  first-broken unread committed order is_store clean =
      subst (λ (t : TouchedLines). IsBrokenOff a committed order (pages_wanted (wants_of t)) before mid between) (sym is)
      (is-broken G store outside a (first.page ∷ second.page ∷ []) before between mid moved keeps unread.none (omega (arith, unread.counted))
      (unread-broken a.reach.pool mid first.page before between (first.page ∷ second.page ∷ []) (second.page ∷ []) unread) committed order is_store clean)

  -- then the second
  module _ (fewer_later : FewerLater G) (later : W) (asks : OnlyAsks G outside later) (came : IsIn a.reach.pool mid first.page (Some second.page) before between) (directory : Layout) (same : directory ≡ a.reach.directory)
      (new : Pool) (after : ℕ) (also : IsPoolMoved mid new) (still : KeepsPool G store later directory mid new) where
    both-keep : KeepsPool G store outside a.reach.directory a.reach.pool new
    both-keep = keeps-both G fewer_later store outside later a.reach.directory a.reach.pool mid new asks keeps (subst (λ (d : Layout). KeepsPool G store later d mid new) same still)

    two-come : {T E : Type 0} (result : Result T E) → OnOk result (IsIn mid new second.page (Some first.page) between after) → OnErr result (IsUnread mid new second.page between after)
        → Fetches result G store outside a (first.page ∷ second.page ∷ []) before new after
    two-come (Ok it) came_then not =
        is-fetched G store outside a (first.page ∷ second.page ∷ []) before after new (moved-then a.reach.pool mid new moved also) both-keep
        (both-there a.reach.pool mid first.page second.page before between came moved.frames new after came_then) (two-in a.reach.pool mid first.page second.page before between came moved.frames new after came_then)
    two-come (Err failed) came_then not =
        is-broken G store outside a (first.page ∷ second.page ∷ []) before after new (moved-then a.reach.pool mid new moved also) both-keep not.none
        (omega (arith, in-later a.reach.pool mid first.page (Some second.page) before between came, not.counted)) (two-unread a.reach.pool mid first.page second.page before between came moved.frames new after not)

    pub two-fetch : {T E : Type 0} (result : Result T E) → OnOk result (IsIn mid new second.page (Some first.page) between after) → OnErr result (IsUnread mid new second.page between after)
        → Fetches result G store outside a (pages_wanted (wants_of touch)) before new after
    two-fetch result came_then not = subst (λ (t : TouchedLines). Fetches result G store outside a (pages_wanted (wants_of t)) before new after) (sym is) (two-come result came_then not)
