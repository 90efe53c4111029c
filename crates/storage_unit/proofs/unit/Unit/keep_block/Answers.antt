use Rattle.storage_unit.proofs.Lemmas.{◌+◌, ◌*◌, ◌/◌, ◌∙◌, ap, arith, page_bytes, Virtual, opened-with, open-moved, open-low}
use Rattle.page_table.specs.KnownLines.{known, with_known_line}
use Rattle.storage_unit.proofs.unit.Unit.keep_block.Goals as goal

pub is_written-write-requires-clause-lies : goal.is_written-write-requires-clause-lies
is_written-write-requires-clause-lies c =
    open-moved c.args.self.now c.args.wants.now c.args.first c.args.frame c.requires.open c.from.result (omega (arith, c.from.ensures, c.requires.past))

pub overflow_add-at : goal.overflow_add-at
overflow_add-at c = omega (arith, (open-low c.args.self.now c.args.wants.now c.args.first c.args.frame c.requires.open).1, c.from.ensures, c.requires.past)

pub overflow_add-wants : goal.overflow_add-wants
overflow_add-wants c = omega (arith, (open-low c.args.self.now c.args.wants.now c.args.first c.args.frame c.requires.open).0, c.from-2.ensures, c.requires.past)

pub invariant_of-self-clause-opened : goal.invariant_of-self-clause-opened
invariant_of-self-clause-opened c =
    let at : Virtual = record c.args.first { byte = c.args.first.byte + c.from.result } in
    let write = c.is_written-write.result in
    let spot = c.spot_of.result in
    opened-with c.args.self.now c.args.wants.now c.args.first c.args.frame c.args.past at spot c.requires.past c.requires.open (ap (λ n. (let v : Virtual = record c.args.first { byte = c.args.first.byte + n } in v)) c.from.ensures)
    (c.spot_of.ensures ∙ ap (λ size. c.args.frame * page_bytes size + at.byte / 128 * 128) c.page.ensures) write c.is_written-write.ensures.store c.is_written-write.ensures.marked c.keep.new.self
    (λ store block. c.keep.ensures store block ∙ ap (λ n. with_known_line ((c.args.wants.now.address + n) / 128) spot write store block (known c.args.self.now.lines store block)) c.from-2.ensures)
