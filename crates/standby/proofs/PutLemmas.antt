-- One line that is put, and calls and puts, one after another.
use Rattle.standby.proofs.Common.{◌≡◌, ⊎_elim, ℕ, List, [], ◌++◌, take, sym, ◌∙◌, ap, subst, arith, IsSome, Option, IfSome, Result, Ok, Err, IfSome_then, Failed, Ghosts, Prints, AreTold, IsSure, CallsDisk, FewerLater, Leaves, held_of, prints_none, prints_on, told_is, PutsAtOnce, ShipPrintsBy, SeesPart, Shipped, broken, feeds, put_result, well, nat_tests, OnlyGoesOn}
use Rattle.standby.proofs.PartLemmas.{feeds_append}
use Rattle.store.specs.Held.{IsMoreBy, OnlyWrites}

-- a crash leaves the bytes printed
abbrev pub PrintedNow : {W : Type 0} → Ghosts W → Type 0
PrintedNow {W} G = (w : W) (image seen : List ℕ) → G.left_since w (G.moment w) image seen → AreTold (G.printed w) seen

-- what is so of the bytes printed after a put, where they are told, is so of those before with what was put
pub on_printed : (old new : Option (List ℕ)) (bytes : List ℕ) {T : Type 0} (value : T) (P : List ℕ → Type 0) → Prints old new bytes (Ok value) → IfSome new P → IfSome old (λ shown. P (shown ++ bytes))
on_printed old new bytes value P prints has = grind (arith, nat_tests)

-- bytes printed that are told still are then
pub told_on : (old new : Option (List ℕ)) (bytes : List ℕ) → Prints old new bytes well → IsSome old → IsSome new
told_on old new bytes prints told = grind arith

module _ {W : Type 0} (G : Ghosts W) (printed_now : PrintedNow G) where
  -- what a call of the disk leaves printed
  pub quiet_is : (before between : W) → CallsDisk G before between → Leaves G (λ image seen. AreTold (G.printed before) seen) before between
  quiet_is before between calls image seen left = ⊎_elim (λ was. printed_now before image seen was) (λ is. is) (calls.quiet.crash image seen left)

  -- a crash in a put leaves the bytes that were sure
  pub image_is : {T : Type 0} (bytes : List ℕ) (before after : W) (result : Result T Failed) → PutsAtOnce G bytes before after result → IsSure G before
      → Leaves G (λ image seen. (image ≡ held_of G before) × SeesPart (G.printed before) bytes seen) before after
  image_is bytes before after result puts sure image seen left =
      let from = puts.crash image seen left in (
        told_is (G.held before) image sure.told (sure.durable image from.0 from.1),
        IfSome_then (G.printed before) (printed_now before image from.0 from.1) (λ shown is. (from.2.0, from.2.1 ∙ ap (λ (these : List ℕ). these ++ take from.2.0 bytes) is)),
      )

  module _ (fewer_later : FewerLater G) where
    -- bytes that were sure are, after a put
    pub sure_puts : {T : Type 0} (bytes : List ℕ) (before after : W) (result : Result T Failed) → PutsAtOnce G bytes before after result → IsSure G before → IsSure G after × (held_of G after ≡ held_of G before)
    sure_puts bytes before after result puts sure = grind (arith, nat_tests)

module _ {W : Type 0} (G : Ghosts W) where
  -- calls of the disk put nothing
  pub quiet_by : (old new : W) → CallsDisk G old new → ShipPrintsBy {T = Unit {0}} G [] old new (Ok tt)
  quiet_by old new calls = (subst (λ (these : Option (List ℕ)). Prints (G.printed old) these [] well) (sym calls.quiet.same) (prints_none (G.printed old) tt), λ told. omega (arith, calls.puts))

  -- one line is put
  pub by_put : (line : List ℕ) (old new : W) (result : Result (Unit {0}) Shipped) → feeds line ≡ 1 → PutsAtOnce G line old new (put_result result) → ShipPrintsBy G line old new result
  by_put line old new result one puts = grind (arith, nat_tests)

  -- bytes, and then more
  pub prints_by : (old mid new : W) (first second : List ℕ) (result : Result (Unit {0}) Shipped) → ShipPrintsBy {T = Unit {0}} G first old mid (Ok tt) → ShipPrintsBy G second mid new result → ShipPrintsBy G (first ++ second) old new result
  prints_by old mid new first second (Ok done) one two = (prints_on (G.printed old) (G.printed mid) (G.printed new) first second tt well one.0 two.0, λ told. omega (arith, one.1 told, two.1 (told_on (G.printed old) (G.printed mid) first one.0 told), feeds_append first second))
  prints_by old mid new first second (Err why) one two = prints_on (G.printed old) (G.printed mid) (G.printed new) first second tt broken one.0 two

more_same : (first second : Option ℕ) → second ≡ first → IsMoreBy 0 first second
more_same first second same before is = (before, same ∙ is, omega arith)

module _ {W : Type 0} (G : Ghosts W) where
  pub goes_none : (now : W) → OnlyGoesOn G now now
  goes_none now = grind (arith, nat_tests, more_same)

  pub goes_writes : (old new : W) → OnlyWrites G old new → OnlyGoesOn G old new
  goes_writes old new only = grind (arith, nat_tests)

  pub goes_puts : {T : Type 0} (bytes : List ℕ) (old new : W) (result : Result T Failed) → PutsAtOnce G bytes old new result → OnlyGoesOn G old new
  goes_puts bytes old new result puts = grind (arith, nat_tests, more_same)

  pub goes_on : (fewer_later : FewerLater G) (old mid new : W) → OnlyGoesOn G old mid → OnlyGoesOn G mid new → OnlyGoesOn G old new
  goes_on fewer_later old mid new first second = grind (arith, nat_tests)
