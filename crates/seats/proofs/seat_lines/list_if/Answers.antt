use Rattle.seats.proofs.Lemmas.{if◌then◌else◌, Result, Ok, Err, is_ok, IsOk, insert, Ascend, ◌≡◌, ◌<◌, ◌≤◌, ℕ, List, length, sym, ap, subst, arith, get_or, common_steps, ascend-insert, insert-moves}
use Rattle.seats.proofs.seat_lines.list_if.Goals as goal

at_ok : {T E : Type 0} (result : Result T E) (list inserted left : List ℕ) → IsOk result → list ≡ (if is_ok result then inserted else left) → list ≡ inserted
at_ok (Ok x) list inserted left ok is = is
at_ok (Err fault) list inserted left ok is = cc

-- there was room for the page
listed : (c : goal.After-insert-room) → c.insert-room.new.self.items ≡ insert c.args.list.now.items c.place_of-at.result c.args.page
listed c = at_ok c.insert-room.result _ _ _ (c.insert-room.ensures.succeeds (c.requires.room c.if-is_first.true)) c.insert-room.ensures.items

pub returns-then-is_first-clause-listed : goal.returns-then-is_first-clause-listed
returns-then-is_first-clause-listed c = grind (arith, common_steps, listed, insert-moves)

pub returns-then-is_first-clause-ascending : goal.returns-then-is_first-clause-ascending
returns-then-is_first-clause-ascending c =
    let same : c.deref.result.now ≡ c.args.list.now.items = c.deref.ensures.value in
    subst Ascend (sym (listed c))
    (ascend-insert c.args.list.now.items c.place_of-at.result c.args.page (omega (arith, c.place_of-at.ensures.within, ap (λ (list : List ℕ). length list) same)) c.requires.ascending (c.requires.absent c.if-is_first.true)
    (subst (λ (list : List ℕ). (k d : ℕ) → k < c.place_of-at.result → get_or list k d < c.args.page) same c.place_of-at.ensures.before)
    (subst (λ (list : List ℕ). (k d : ℕ) → c.place_of-at.result ≤ k → k < length list → c.args.page ≤ get_or list k d) same c.place_of-at.ensures.behind))
