-- What holds of activations whose fields are in hand.
use Rattle.activations.proofs.Common.{activity_of, Inside, ◌≡◌, ℕ, ◌<◌, true, ap, sym, ◌∙◌, subst, slice_index_or, has, reach_of, Reach, Activity, live_in, IsSeatSelected, IsActivitySound, RunsAt, with_live, Live, taken-below, Seating, went_on, counted, arith, get_or_read, nothing_runs, ◌+◌, selected_in}
use Rattle.activations.proofs.ExecuteLemmas.{runs-at, in-place}

-- a seat is taken there too
pub taken-of : (fields : Inside) {now : Activity} → activity_of fields ≡ now → (seat : ℕ) → has now.seating.taken seat ≡ true → has fields.seats.taken seat ≡ true
taken-of fields is seat taken = ap (λ (a : Activity). has a.seating.taken seat) is ∙ taken

pub below-of : (fields : Inside) {now : Activity} → activity_of fields ≡ now → IsActivitySound (activity_of fields) → (seat : ℕ) → has now.seating.taken seat ≡ true → seat < 16
below-of fields is sound seat taken = taken-below fields.seats sound.seating seat (taken-of fields is seat taken)

-- what stands among the fields is what runs in the seat
pub lives-of : (fields : Inside) {now : Activity} → activity_of fields ≡ now → IsActivitySound (activity_of fields) → (seat : ℕ) → seat < 16 → (live : Live) (at : ℕ) → at ≡ seat → live ≡ slice_index_or fields.live.items at live → live ≡ live_in now seat
lives-of fields is sound seat below live at here stands =
    get_or_read fields.live.items at live (omega (arith, below, here, sound.live)) stands nothing_runs ∙ ap (λ (n : ℕ). slice_index_or fields.live.items n nothing_runs) here ∙ ap (λ (a : Activity). live_in a seat) is

pub runs-of : (fields : Inside) {now : Activity} → activity_of fields ≡ now → IsActivitySound (activity_of fields) → (seat : ℕ) → has now.seating.taken seat ≡ true → IsSeatSelected now seat → (live : Live) (at : ℕ) → at ≡ seat
    → live ≡ slice_index_or fields.live.items at live → RunsAt now seat (reach_of fields.unit) live
runs-of fields is sound seat taken selected live at here stands =
    subst (λ (a : Activity). RunsAt a seat (reach_of fields.unit) live) is
    (runs-at (activity_of fields) seat at live sound (taken-of fields is seat taken) (subst (λ (a : Activity). IsSeatSelected a seat) (sym is) selected) here stands)

-- and what is written there
pub placed-of : (fields : Inside) {now : Activity} → activity_of fields ≡ now → (seat at : ℕ) (live : Live) (reach : Reach) → at ≡ seat → with_live now seat live reach ≡ with_live (activity_of fields) at live reach
placed-of fields is seat at live reach here = ap (λ (a : Activity). with_live a seat live reach) (sym is) ∙ in-place (activity_of fields) seat at live reach here

-- rows are counted
pub counted-of : (fields : Inside) {now : Activity} → activity_of fields ≡ now → (seat rows : ℕ) (seating : Seating) → seating ≡ went_on fields.seats seat rows → record (activity_of fields) { seating = seating } ≡ counted now seat rows
counted-of fields is seat rows seating counts = (λ i. record (activity_of fields) { seating = counts i }) ∙ ap (λ (a : Activity). counted a seat rows) is

-- a seat is selected
pub selected-of : (fields : Inside) {now : Activity} → activity_of fields ≡ now → (seat : ℕ) (live : Live) (new : Reach) → live ≡ live_in now seat → new ≡ record (reach_of fields.unit) { registers = live.registers; runner = seat + 1 }
    → record (activity_of fields) { reach = new } ≡ selected_in now seat
selected-of fields is seat live new runs comes =
    ap (λ (r : Reach). record (activity_of fields) { reach = r }) comes ∙ (λ i. record (is i) { reach = record (is i).reach { registers = (runs i).registers; runner = seat + 1 } })
