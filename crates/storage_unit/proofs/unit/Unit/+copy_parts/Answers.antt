use Rattle.storage_unit.proofs.Lemmas.{◌≡◌, ℕ, ◌+◌, ◌≤◌, List, ◌++◌, length, sym, ◌∙◌, ap, subst, arith, Virtual, bytes_on, Reach, byte_place, Lies, AreThere, bytes_shown, reach_of, common_steps, lies-on, there-on, place-on, shown-split}
use Rattle.storage_unit.proofs.unit.Unit.+copy_parts.Goals as goal

behind : (state : Reach) (first next : Virtual) (rest m n : ℕ) → next ≡ bytes_on state.directory.page first rest → rest + m ≤ n → Lies state first n → AreThere state first n → Lies state next m × AreThere state next m
behind state first next rest m n is less lies there =
    subst (λ (v : Virtual). Lies state v m × AreThere state v m) (sym is) (lies-on state first rest m n less lies, there-on state first rest m n less there)

joined : (state : Reach) (first next : Virtual) (rest m n : ℕ) (front back : List ℕ) → next ≡ bytes_on state.directory.page first rest → rest + m ≡ n
    → front ≡ bytes_shown state (byte_place state.directory first) rest → back ≡ bytes_shown state (byte_place state.directory next) m
    → front ++ back ≡ bytes_shown state (byte_place state.directory first) n
joined state first next rest m n front back is sum one two =
    cc (place-on state.directory first rest, shown-split state (byte_place state.directory first) rest m)

pub copy_parts-requires : goal.copy_parts-requires
copy_parts-requires t c =
    let split = c.split_at_mut-front.ensures in
    let n = length c.args.into.now in
    let m = length c.split_at_mut-front.result.1.now in
    let rest = c.from-rest.result in
    let both = behind (reach_of c.args.self.now) c.args.first c.past.result rest m n c.past.ensures
    (omega (arith, split.front_len, split.back_len, c.if-into-rest.false)) c.requires.lies c.requires.there in
    (omega (arith, split.back_len, c.decreases, c.if-into-rest.false, c.from-rest.ensures, c.rest.ensures, c.requires.lies.within), record { some = omega (arith, split.back_len, c.if-into-rest.false); lies = both.0; there = both.1 })

pub returns-else-into-rest : goal.returns-else-into-rest
returns-else-into-rest t c =
    let split = c.split_at_mut-front.ensures in
    let state = reach_of c.args.self.now in
    let rest = c.from-rest.result in
    joined state c.args.first c.past.result rest (length c.split_at_mut-front.result.1.now) (length c.args.into.now)
    c.copy_part-else-into-rest.new.into c.copy_parts.new.into c.past.ensures (omega (arith, split.back_len, c.if-into-rest.false))
    (c.copy_part-else-into-rest.ensures ∙ ap (bytes_shown state (byte_place state.directory c.args.first)) split.front_len) c.copy_parts.ensures

pub copy_part-requires-else-into-rest-clause-can : goal.copy_part-requires-else-into-rest-clause-can
copy_part-requires-else-into-rest-clause-can t c = record { some = grind (arith, common_steps); lies = grind (arith, common_steps); there = grind (arith, common_steps) }
