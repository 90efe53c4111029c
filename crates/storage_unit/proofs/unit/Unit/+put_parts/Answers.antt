use Rattle.storage_unit.proofs.Lemmas.{◌≡◌, ℕ, ◌+◌, ◌-◌, ◌<◌, ◌≤◌, List, ◌++◌, length, take, drop, sym, ◌∙◌, ap, subst, arith, take_all, length-take, length-drop, length-append, take-append-drop, Virtual, bytes_on, Located, Reach, byte_place, put_at, IsReachSound, Lies, AreThere, reach_of, common_steps, lies-on, there-on, place-on, private-room, lies-after, there-after, directory-after, put-then, unit-sound}
use Rattle.storage_unit.proofs.unit.Unit.+put_parts.Goals as goal

behind : (state now : Reach) (first next : Virtual) (place : Located) (part : List ℕ) (rest m n : ℕ) → now ≡ put_at state place part → next ≡ bytes_on state.directory.page first rest → rest + m ≤ n
    → Lies state first n → AreThere state first n → Lies now next m × AreThere now next m
behind state now first next place part rest m n after is less lies there =
    subst (λ (s : Reach). Lies s next m × AreThere s next m) (sym after)
    (subst (λ (v : Virtual). Lies (put_at state place part) v m × AreThere (put_at state place part) v m) (sym is)
    (lies-after state place part (bytes_on state.directory.page first rest) m (lies-on state first rest m n less lies), there-after state place part (bytes_on state.directory.page first rest) m (there-on state first rest m n less there)))

-- what is left after the first page
left : (from : List ℕ) (rest : ℕ) → rest ≤ length from → take (length from - rest) (drop rest from) ≡ drop rest from
left from rest less = take_all (length from - rest) (drop rest from) (simp length-drop (omega arith))

joined : (state middle now : Reach) (sound : IsReachSound state) (first next : Virtual) (rest : ℕ) (from part other : List ℕ) → 0 < length part → 0 < length other → part ++ other ≡ from → length part ≡ rest
    → Lies state first (length from) → next ≡ bytes_on state.directory.page first rest
    → middle ≡ put_at state (byte_place state.directory first) part → now ≡ put_at middle (byte_place middle.directory next) other → now ≡ put_at state (byte_place state.directory first) from
joined state middle now sound first next rest from part other some more whole long lies is one two =
    cc (
      directory-after state (byte_place state.directory first) part,
      place-on state.directory first rest,
      put-then state sound (byte_place state.directory first) part other some more (λ a private. let (room, all) = private-room state sound first (length from) a lies private in omega (arith, room, all, ap length whole, length-append part other)),
    )

pub put_parts-requires : goal.put_parts-requires
put_parts-requires t c =
    let state = reach_of c.args.self.now in
    let from = c.args.from.now in
    let n = length from in
    let rest = c.from-rest.result in
    let long : length (take (n - rest) (drop rest from)) ≡ n - rest = ap length (left from rest (omega (arith, c.if-from-rest.false))) ∙ length-drop rest from in
    let both = behind state (reach_of c.put_part-else-from-rest.new.self) c.args.first c.past-next.result (byte_place state.directory c.args.first) _ rest (length (take (n - rest) (drop rest from))) n
    c.put_part-else-from-rest.ensures c.past-next.ensures (omega (arith, long, c.if-from-rest.false)) c.requires.lies c.requires.there in
    (omega (arith, long, c.decreases, c.if-from-rest.false, c.from-rest.ensures, c.rest.ensures, c.requires.lies.within), record { some = omega (arith, long, c.if-from-rest.false); lies = both.0; there = both.1 })

pub returns-else-from-rest : goal.returns-else-from-rest
returns-else-from-rest t c =
    let unit = c.args.self.now in
    let from = c.args.from.now in
    let n = length from in
    let rest = c.from-rest.result in
    let some : 0 < rest = omega (arith, c.from-rest.ensures, c.rest.ensures, c.requires.lies.within) in
    let less : rest < n = omega (arith, c.if-from-rest.false) in
    joined (reach_of unit) (reach_of c.put_part-else-from-rest.new.self) (reach_of c.put_parts.new.self) (unit-sound unit) c.args.first c.past-next.result rest from (take rest from) (drop rest from)
    (simp length-take (omega (arith, some, less))) (simp length-drop (omega (arith, less))) (take-append-drop rest from) (simp length-take (omega (arith, less)))
    c.requires.lies c.past-next.ensures c.put_part-else-from-rest.ensures
    (c.put_parts.ensures ∙ ap (put_at (reach_of c.put_part-else-from-rest.new.self) (byte_place c.put_part-else-from-rest.new.self.directory c.past-next.result)) (left from rest (omega (arith, less))))

pub put_part-requires-else-from-rest-clause-can : goal.put_part-requires-else-from-rest-clause-can
put_part-requires-else-from-rest-clause-can t c = record { some = grind (arith, common_steps); lies = grind (arith, common_steps); there = grind (arith, common_steps) }
