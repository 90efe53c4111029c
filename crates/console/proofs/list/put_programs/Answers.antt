use Rattle.console.proofs.Common.{◌≡◌, ℕ, ◌+◌, ◌<◌, ◌≤◌, List, [], length, map, take, get_or, rules, arith, sym, ap, subst, ◌∙◌, flat_map, zip, sum, sum_by, take_all, get_or-map, length-map, Program, listing_of, lines_in, PrintsBytes, PutsTimes, done, puts_more, puts_no_more, times_on, content_of}
use Rattle.std.proofs.lemmas.List.Sums.{sum_by_more, sum-map}
use Rattle.std.proofs.lemmas.Simd.{map-map}
use Rattle.std.proofs.lemmas.Slice.Zip.{get_or-zip, length-zip}
use Rattle.arrayvec.specs.ArrayVec.{ArrayVec}
use Rattle.romp_asm.specs.Layout.{Parts, parts_of}
use Rattle.console.specs.Listed.{lines_listed}
use Rattle.console.proofs.list.put_programs.Goals as goal

abbrev listing_named : List ℕ × Parts → List ℕ
listing_named named = listing_of named.0 named.1.image named.1.entry named.1.windows

abbrev named_in : List (ArrayVec ℕ) → List Program → List (List ℕ × Parts)
named_in names programs = zip (map (λ name. name.items) names) (map parts_of programs)

-- the listing that is put is the one that is due
same_listing : (names : List (ArrayVec ℕ)) (programs items : List Program) (i : ℕ) (bytes : List ℕ) (name : ArrayVec ℕ) (program : Program) → i < length names → i < length programs → bytes ≡ name.items → name ≡ get_or names i name → items ≡ programs → program ≡ get_or items i program
    → listing_of bytes program.image program.entry program.windows ≡ listing_named (get_or (named_in names programs) i ([], parts_of program))
same_listing names programs items i bytes name program named within is_bytes is_name is_items is_program =
    let first : get_or (map (λ (one : ArrayVec ℕ). one.items) names) i [] ≡ bytes = get_or-map (λ (one : ArrayVec ℕ). one.items) names i name [] named ∙ ap (λ (one : ArrayVec ℕ). one.items) (sym is_name) ∙ sym is_bytes in
    let second : get_or (map parts_of programs) i (parts_of program) ≡ parts_of program = get_or-map parts_of programs i program (parts_of program) within ∙ ap parts_of (ap (λ (these : List Program). get_or these i program) (sym is_items) ∙ sym is_program) in
    let zipped = get_or-zip (map (λ (one : ArrayVec ℕ). one.items) names) (map parts_of programs) i ([], parts_of program) (omega (arith, length-map names (λ (one : ArrayVec ℕ). one.items), named)) (omega (arith, length-map programs parts_of, within)) in
    sym (ap listing_named (zipped ∙ ap (λ (one : List ℕ). (one, get_or (map parts_of programs) i (parts_of program))) first ∙ ap (λ (two : Parts). (bytes, two)) second))

-- as many listings as programs
count : (names : List (ArrayVec ℕ)) (programs : List Program) → length names ≡ length programs → length (named_in names programs) ≡ length programs
count names programs same =
    omega (arith, same, length-zip (map (λ (one : ArrayVec ℕ). one.items) names) (map parts_of programs), length-map names (λ (one : ArrayVec ℕ). one.items), length-map programs parts_of)

pub returns-in_err-put_program-clause-puts : goal.returns-in_err-put_program-clause-puts
returns-in_err-put_program-clause-puts g c =
    let names = c.args.job.now.names.items in let programs = c.args.job.now.programs.items in
    let within : c.loop-index.index < length programs = omega (arith, c.loop-index-test.true, ap (λ (these : List Program). length these) c.deref-program-items.ensures.value) in
    puts_no_more g.W.Outside g.met.W.Outside.fewer_later listing_named (named_in names programs) c.loop-index.index ([], parts_of c.program-item.result) _
    (omega (arith, within, count names programs c.requires))
    (same_listing names programs c.deref-program-items.result.now c.loop-index.index c.as_slice.result.now c.index.result.now c.program-item.result (omega (arith, within, c.requires)) within c.as_slice.ensures.value c.index.ensures c.deref-program-items.ensures.value c.program-item.is)
    c.args.outside.now c.loop-index.outside c.put_program.new.outside tt c.put_program.result c.from_residual.result (search rules) c.from_residual.ensures.0 c.loop-index.invariant.puts c.put_program.ensures.puts

-- the lines of listings by their programs' parts
parts-listed : (programs : List Program) → sum_by (λ (parts : Parts). lines_in parts.image parts.windows) (map parts_of programs) ≡ sum_by (λ (program : Program). lines_in program.image program.windows) programs
parts-listed programs =
    let by_parts : Parts → ℕ = λ parts. lines_in parts.image parts.windows in
    sym (sum-map by_parts (map parts_of programs)) ∙ ap sum (map-map by_parts parts_of programs) ∙ sum-map (λ (program : Program). by_parts (parts_of program)) programs

-- the lines of a program's listing
abbrev lines_of : Program → ℕ
lines_of program = lines_in program.image program.windows

pub loop-index-init : goal.loop-index-init
loop-index-init g c = record { puts = search rules; times = λ told. omega arith }

pub loop-index-preserved : goal.loop-index-preserved
loop-index-preserved g c =
    let names = c.args.job.now.names.items in let programs = c.args.job.now.programs.items in
    let within : c.loop-index.index < length programs = omega (arith, c.loop-index-test.true, ap (λ (these : List Program). length these) c.deref-program-items.ensures.value) in
    let this : get_or programs c.loop-index.index c.program-item.result ≡ c.program-item.result = ap (λ (these : List Program). get_or these c.loop-index.index c.program-item.result) (sym c.deref-program-items.ensures.value) ∙ sym c.program-item.is in
    let more : sum_by lines_of (take c.loop-index.index programs) + lines_of c.program-item.result ≡ sum_by lines_of (take (c.loop-index.index + 1) programs) =
    ap (λ (program : Program). sum_by lines_of (take c.loop-index.index programs) + lines_of program) (sym this) ∙ sym (sum_by_more lines_of programs c.loop-index.index c.program-item.result within) in
    record {
      times = subst (λ (n : ℕ). PutsTimes g.W.Outside n c.args.outside.now c.put_program.new.outside done) more
          (times_on g.W.Outside c.args.outside.now c.loop-index.outside c.put_program.new.outside (sum_by lines_of (take c.loop-index.index programs)) (lines_of c.program-item.result) _ tt done c.loop-index.invariant.puts c.loop-index.invariant.times c.in_ok-put_program.ensures.times);
      puts = puts_more g.W.Outside g.met.W.Outside.fewer_later listing_named (named_in names programs) c.loop-index.index ([], parts_of c.program-item.result) _
          (omega (arith, within, count names programs c.requires))
          (same_listing names programs c.deref-program-items.result.now c.loop-index.index c.as_slice.result.now c.index.result.now c.program-item.result (omega (arith, within, c.requires)) within c.as_slice.ensures.value c.index.ensures c.deref-program-items.ensures.value c.program-item.is)
          c.args.outside.now c.loop-index.outside c.put_program.new.outside tt done c.loop-index.invariant.puts c.in_ok-put_program.ensures.puts;
    }

pub returns-clause-puts : goal.returns-clause-puts
returns-clause-puts g c =
    let names = c.args.job.now.names.items in let programs = c.args.job.now.programs.items in
    let all : length (named_in names programs) ≤ c.loop-index.index = omega (arith, count names programs c.requires, c.loop-index-test.false, ap (λ (these : List Program). length these) c.deref-program-items.ensures.value) in
    subst (λ (these : List (List ℕ × Parts)). PrintsBytes g.W.Outside (flat_map listing_named these) c.args.outside.now c.loop-index.outside done)
    (take_all c.loop-index.index (named_in names programs) all)
    c.loop-index.invariant.puts

pub returns-clause-times : goal.returns-clause-times
returns-clause-times g c =
    let programs = c.args.job.now.programs.items in
    let all : length programs ≤ c.loop-index.index = omega (arith, c.loop-index-test.false, ap (λ (these : List Program). length these) c.deref-program-items.ensures.value) in
    let listed : sum_by lines_of (take c.loop-index.index programs) ≡ lines_listed (content_of c.args.job.now) = ap (sum_by lines_of) (take_all c.loop-index.index programs all) ∙ sym (parts-listed programs) in
    subst (λ (n : ℕ). PutsTimes g.W.Outside n c.args.outside.now c.loop-index.outside done) listed c.loop-index.invariant.times
