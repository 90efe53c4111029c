use Rattle.storage_unit.proofs.Lemmas.{true, length, sym, ◌∙◌, ap, answer_in, bytes_from, Reach, byte_place, byte_at, is_in_frame, refuses_byte, reach_of, arith, common_steps, begins, shows, others-stay, answers-stay, unit-sound}
use Rattle.storage_unit.proofs.storage.UnitStorage.store.Goals as goal

pub put-requires : goal.put-requires
put-requires c =
    let b = begins (reach_of c.args.self.now) (unit-sound c.args.self.now) c.args.address (length c.args.from.now) true c.in-Ok.first c.requires (sym c.locate.ensures ∙ c.in-Ok.is) in
    record { some = grind (arith, common_steps); lies = b.lies; there = b.there }

pub returns-in-Ok-clause-shows : goal.returns-in-Ok-clause-shows
returns-in-Ok-clause-shows c =
    let unit = c.args.self.now in
    let b = begins (reach_of unit) (unit-sound unit) c.args.address (length c.args.from.now) true c.in-Ok.first c.requires (sym c.locate.ensures ∙ c.in-Ok.is) in
    ap (λ (s : Reach). bytes_from (byte_at s) c.args.address (length c.args.from.now)) c.put.ensures
    ∙ shows (reach_of unit) (unit-sound unit) c.args.address c.args.from.now c.in-Ok.first b.under b.there

pub returns-in-Ok-clause-others : goal.returns-in-Ok-clause-others
returns-in-Ok-clause-others c = λ other outside.
    let unit = c.args.self.now in
    let b = begins (reach_of unit) (unit-sound unit) c.args.address (length c.args.from.now) true c.in-Ok.first c.requires (sym c.locate.ensures ∙ c.in-Ok.is) in
    ap (λ (s : Reach). byte_at s other) c.put.ensures
    ∙ others-stay (reach_of unit) (unit-sound unit) c.args.address c.args.from.now c.in-Ok.first b.under b.there other outside

pub returns-in-Ok-clause-answers : goal.returns-in-Ok-clause-answers
returns-in-Ok-clause-answers c = λ access.
    let unit = c.args.self.now in
    ap (λ (s : Reach). answer_in (λ (r : Reach). r.registers) is_in_frame refuses_byte s access) c.put.ensures
    ∙ answers-stay (reach_of unit) (byte_place unit.directory c.in-Ok.first) c.args.from.now access

pub returns-then-is_empty-clause-shows : goal.returns-then-is_empty-clause-shows
returns-then-is_empty-clause-shows c = grind (arith, common_steps)
