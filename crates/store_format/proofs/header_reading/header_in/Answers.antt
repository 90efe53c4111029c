use Rattle.store_format.proofs.Lemmas.{◌≡◌, ℕ, ◌+◌, ◌*◌, ◌<◌, ◌∷◌, [], ◌++◌, List, length, take, ◌∙◌, sym, ap, arith, subst, set, refl, min, IfOk, Ok, take_more_set, length-set, AreSegmentsLegal, AreFlags, Layout, PageSize, number_at, segments_at, segments_of, page_size_of, segments_at-more, IsSound, sound_header}
use Rattle.lines.specs.declared.line_geometry.DirectoryFault.{DirectoryFault}
use Rattle.store_format.proofs.header_reading.header_in.Goals as goal
use Rattle.store_format.proofs.header_reading.header_in.Goals.{After-half_at-count, After-with_fine, After-bank_bytes_in}

sound : (c : goal.After-half_at-count) → IsSound c.args.head.now
sound c = sound_header c.args.head.now c.requires.0 c.requires.1

pub loop-i-init : goal.loop-i-init
loop-i-init c = record { few = omega (arith, c.half_at-count.ensures, (sound c).few); read = refl; room = refl }

pub loop-i-preserved : goal.loop-i-preserved
loop-i-preserved c =
    let head = c.args.head.now in
    let i = c.loop-i.i in
    let listed = c.loop-i.segments in
    let place : 16 + 4 * c.from.result ≡ 16 + 4 * i = omega (arith, c.from.ensures) in
    let within : i < length listed = omega (arith, c.loop-i.invariant.few, c.loop-i.invariant.room, c.loop-i-test.true) in
    record {
      few = c.loop-i.invariant.few;
      read =
          ap (λ (n : ℕ). take (i + 1) (set listed n c.segment_at.result)) c.from-in-loop-i.ensures
          ∙ take_more_set listed i c.segment_at.result within
          ∙ ap (λ (these : List (ℕ × ℕ)). these ++ c.segment_at.result ∷ []) c.loop-i.invariant.read
          ∙ ap (λ (p : ℕ × ℕ). segments_at head 16 i ++ p ∷ []) (c.segment_at.ensures ∙ ap (λ (n : ℕ). (number_at head n 2, number_at head (n + 2) 2)) place)
          ∙ sym (segments_at-more head 16 i);
      room = length-set listed c.from-in-loop-i.result c.segment_at.result ∙ c.loop-i.invariant.room;
    }

-- the segments that were read
listed : (c : goal.After-with_fine) → take c.from-2.result c.loop-i.segments ≡ segments_of c.args.head.now
listed c =
    let is = sound_header c.args.head.now c.requires.0 c.requires.1 in
    let count : c.from-2.result ≡ c.loop-i.i = omega (arith, c.from-2.ensures, c.loop-i-test.false, c.loop-i.auto.i-end) in
    let all : c.loop-i.i ≡ min (number_at c.args.head.now 10 2) 15 = omega (arith, c.half_at-count.ensures, is.few, c.loop-i-test.false, c.loop-i.auto.i-end) in
    ap (λ (n : ℕ). take n c.loop-i.segments) count ∙ c.loop-i.invariant.read ∙ ap (segments_at c.args.head.now 16) all

-- the page size and the flags that were read
sized : (c : goal.After-with_fine) → c.page_of-page.result ≡ page_size_of (number_at c.args.head.now 8 2)
sized c = c.page_of-page.ensures ∙ ap page_size_of c.half_at.ensures

flagged : (c : goal.After-with_fine) → AreFlags c.page_of-page.result (take c.from-2.result c.loop-i.segments) c.half_at-2.result
flagged c =
    let head = c.args.head.now in
    let is = sound_header head c.requires.0 c.requires.1 in
    subst (λ (page : PageSize). AreFlags page (take c.from-2.result c.loop-i.segments) c.half_at-2.result) (sym (sized c))
    (subst (λ (these : List (ℕ × ℕ)). AreFlags (page_size_of (number_at head 8 2)) these c.half_at-2.result) (sym (listed c))
    (subst (λ (fine : ℕ). AreFlags (page_size_of (number_at head 8 2)) (segments_of head) fine) (sym c.half_at-2.ensures) is.flags))

pub unwrap-directory-requires : goal.unwrap-directory-requires
unwrap-directory-requires c =
    let at = (goal.at.unwrap-directory-requires c).After-with_fine in
    c.with_fine.ensures.legal.1
    (subst (λ (these : List (ℕ × ℕ)). AreSegmentsLegal these) (sym (listed at)) (sound_header c.args.head.now c.requires.0 c.requires.1).legal, flagged at)

-- the directory that was made
made : (c : goal.After-bank_bytes_in) → c.unwrap-directory.result ≡ record { page = page_size_of (number_at c.args.head.now 8 2); segments = segments_of c.args.head.now; fine = number_at c.args.head.now 76 2 }
made c =
    let head = c.args.head.now in
    let is : IfOk {E = DirectoryFault} (Ok c.unwrap-directory.result) (λ directory. directory ≡ record { page = c.page_of-page.result; segments = take c.from-2.result c.loop-i.segments; fine = c.half_at-2.result }) =
    rw c.unwrap-directory.ensures at c.with_fine.ensures.value in
    let at = (goal.at.new-requires c).After-with_fine in
    cc (is, sized at, listed at, c.half_at-2.ensures)

pub new-requires : goal.new-requires
new-requires c =
    let sound = sound_header c.args.head.now c.requires.0 c.requires.1 in
    record { least_bank = omega (arith, c.bank_bytes_in.ensures, sound.least_bank); most_bank = omega (arith, c.bank_bytes_in.ensures, sound.most_bank) }

pub returns : goal.returns
returns c =
    let head = c.args.head.now in
    sym (c.new.ensures.value
    ∙ ap (λ (directory : Layout). record { directory = directory; bank_bytes = c.bank_bytes_in.result }) (made (goal.at.returns c).After-bank_bytes_in)
    ∙ ap (λ (n : ℕ). record { directory = record { page = page_size_of (number_at head 8 2); segments = segments_of head; fine = number_at head 76 2 }; bank_bytes = n }) c.bank_bytes_in.ensures)
