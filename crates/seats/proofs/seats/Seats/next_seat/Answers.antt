use Rattle.seats.proofs.Common.{range_with_len, has, next_seat, ◌≡◌, ◌+◌, ◌-◌, ◌<◌, ◌≤◌, ℕ, suc, not, cond, Bool, true, false, find, List, Some, None, arith, ap, sym, ◌∙◌, refl}
use Rattle.seats.proofs.seats.Seats.next_seat.Goals as goal

-- the lowest of the seats from one on that passes
rest : (p : ℕ → Bool) (n : ℕ) → n < 16 → find p (range_with_len n (16 - n)) ≡ cond (p n) (Some n) (find p (range_with_len (n + 1) (16 - (n + 1))))
rest p n below = ap (λ (left : ℕ). find p (range_with_len n left)) (let more : 16 - n ≡ suc (16 - (n + 1)) = omega (arith, below) in more)

past : (p : ℕ → Bool) (n : ℕ) → 16 ≤ n → find p (range_with_len n (16 - n)) ≡ None
past p n above = ap (λ (left : ℕ). find p (range_with_len n left)) (let none : 16 - n ≡ 0 = omega (arith, above) in none)

pub loop-seat-init : goal.loop-seat-init
unfolding next_seat
loop-seat-init c = refl

pub loop-seat-preserved : goal.loop-seat-preserved
loop-seat-preserved c =
    let p : ℕ → Bool = λ seat. not (has c.args.self.now.taken seat) in
    let there : has c.args.self.now.taken c.loop-seat.seat-counter ≡ true =
    (λ i. has (sym c.self.view_is i).taken c.loop-seat.seat-counter) ∙ ap (λ (seats : List ℕ). has seats c.loop-seat.seat-counter) (sym c.deref.ensures.0) ∙ sym c.contains.ensures.value ∙ c.if-not-contains.false in
    c.loop-seat.invariant ∙ rest p c.loop-seat.seat-counter c.loop-seat-test.true
    ∙ ap (λ (free : Bool). cond (not free) (Some c.loop-seat.seat-counter) (find p (range_with_len (c.loop-seat.seat-counter + 1) (16 - (c.loop-seat.seat-counter + 1))))) there

pub returns-then-not-contains : goal.returns-then-not-contains
returns-then-not-contains c =
    let p : ℕ → Bool = λ seat. not (has c.args.self.now.taken seat) in
    let free : has c.args.self.now.taken c.loop-seat.seat-counter ≡ false =
    (λ i. has (sym c.self.view_is i).taken c.loop-seat.seat-counter) ∙ ap (λ (seats : List ℕ). has seats c.loop-seat.seat-counter) (sym c.deref.ensures.0) ∙ sym c.contains.ensures.value ∙ c.if-not-contains.true in
    sym (c.loop-seat.invariant ∙ rest p c.loop-seat.seat-counter c.loop-seat-test.true
    ∙ ap (λ (free : Bool). cond (not free) (Some c.loop-seat.seat-counter) (find p (range_with_len (c.loop-seat.seat-counter + 1) (16 - (c.loop-seat.seat-counter + 1))))) free)

pub returns : goal.returns
returns c = sym (c.loop-seat.invariant ∙ past (λ seat. not (has c.args.self.now.taken seat)) c.loop-seat.seat-counter c.loop-seat-test.false)
