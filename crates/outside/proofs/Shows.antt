-- Calls that ask the disk, and puts, one after another.
use Rattle.outside.proofs.Lemmas.{◌≡◌, ⊎_elim, ℕ, List, [], sym, ◌∙◌, ap, subst, arith, Option, IsSome, Result, unwrap_or, Failed, Ghosts, Prints, AsksAndPuts, FewerLater, OnlyAsks, OnlyPuts, held_of, nat_tests, Deed, AsksSo, AsksAndPutsSo, elapses-trans}

-- a put leaves printed bytes told
still_told : {T : Type 0} (old new : Option (List ℕ)) (bytes : List ℕ) (result : Result T Failed) → Prints old new bytes result → IsSome old → IsSome new
still_told old new bytes result prints told = grind (arith, nat_tests)

module _ {W : Type 0} (G : Ghosts W) where
  pub shows_none : (now : W) → AsksAndPuts G now now
  shows_none now = grind (arith, nat_tests)

  pub shows_asks : {D : (before after : Option (List Deed)) → Type 0} (old new : W) → AsksSo G D old new → AsksAndPutsSo G D old new
  shows_asks old new asks = grind (arith, nat_tests)

  pub shows_puts : {T : Type 0} (bytes : List ℕ) (old new : W) (result : Result T Failed) → OnlyPuts G old new result → Prints (G.printed old) (G.printed new) bytes result
      → ((image seen : List ℕ) → G.left_since new (G.moment old) image seen → (start : List ℕ) × G.left_since old (G.moment old) image start) → AsksAndPuts G old new
  shows_puts bytes old new result only printed images = grind (arith, nat_tests, still_told)

  pub shows_on : {D : (before after : Option (List Deed)) → Type 0} (fewer_later : FewerLater G) (old mid new : W) → AsksAndPutsSo G D old mid → AsksAndPuts G mid new → AsksAndPutsSo G D old new
  shows_on {D} fewer_later old mid new first second = record {
    held = second.held ∙ first.held;
    writes = second.writes ∙ first.writes;
    deeds = subst (λ (these : Option (List Deed)). D (G.deeds old) these) (sym second.deeds) first.deeds;
    honest = second.honest ∙ first.honest;
    time = elapses-trans G fewer_later old mid new first.time second.time;
    disk = omega (arith, first.disk, second.disk);
    put = omega (arith, first.put, second.put);
    told = λ told. second.told (first.told told);
    images = λ told image seen left.
        ⊎_elim (first.images told image seen)
        (λ since.
        let from = second.images (subst (λ (these : Option (List ℕ)). IsSome these) (sym first.held) told) image seen since in
        first.images told image from.0 (fewer_later mid (G.moment old) (G.moment mid) image from.0 first.time.later from.1))
        (second.time.nothing_else (G.moment old) image seen first.time.later left);
  }

  pub held_same : {D : (before after : Option (List Deed)) → Type 0} (old new : W) → AsksAndPutsSo G D old new → held_of G new ≡ held_of G old
  held_same old new shows = ap (λ (these : Option (List ℕ)). unwrap_or these []) shows.held
