use Rattle.store.proofs.Lemmas.{◌≡◌, length, drop, ◌∙◌, ap, arith, length-take-le, length-drop, told_some, bytes_at, held_of, read_is, spliced, on_ok_weaker}
use Rattle.store.proofs.newest_lines.read_line.Goals as goal

pub returns-clause-read : goal.returns-clause-read
returns-clause-read g c =
    let place = c.args.place in
    let held = held_of g.W.Outside c.args.outside.now in
    let piece = length c.split_at_mut-line.result.0.now in
    on_ok_weaker c.read_at.result (λ read told.
    let count : piece ≡ c.args.count = c.split_at_mut-line.ensures.front_len in
    let line : c.read_at.new.into ≡ bytes_at held place piece =
    read_is (g.W.Outside.held c.args.outside.now) c.read_at.new.into place piece told read in
    spliced c.args.count c.args.page.now c.split_at_mut-rest.result.0.now c.split_at_mut-rest.result.1.now
    c.read_at.new.into c.split_at_mut-line.result.1.now (bytes_at held place c.args.count) c.args.at
    c.split_at_mut-rest.ensures.front c.split_at_mut-rest.ensures.back c.split_at_mut-line.ensures.back
    (line ∙ ap (bytes_at held place) count)
    (length-take-le c.args.count (drop place held)
    (omega (arith, length-drop place held, c.requires.room held (told_some (g.W.Outside.held c.args.outside.now) told)))))
    c.read_at.ensures.read
