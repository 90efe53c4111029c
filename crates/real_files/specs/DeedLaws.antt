-- What holds of the crash images that a list of deeds tells.
use Rattle.std.proofs.Common.{◌≡◌, inl, ℕ, ◌+◌, ◌≤◌, List, [], ◌∷◌, ◌++◌, length, refl, sym, ◌∙◌, subst, arith, length-append}
use Rattle.std.specs.Prelude.{Some}
use Rattle.std.proofs.lemmas.List.{take_all, take-append-le}
use Rattle.real_files.specs.Deeds.{Deed, Wrote, Tore, Synced, Unsynced, file_by, file_images_by, file_after, file_images_after, file_images_at}

-- a crash may leave the bytes held, after a deed and after all
pub file_left_by : (deed : Deed) (held : List ℕ) (images : List ℕ → Type 0) → images held → file_images_by deed held images (file_by deed held)
file_left_by (Wrote at bytes) held images now = inl refl
file_left_by (Tore at bytes) held images now = inl refl
file_left_by Synced held images now = refl
file_left_by Unsynced held images now = now

pub file_left_after : (deeds : List Deed) (held : List ℕ) (images : List ℕ → Type 0) → images held → file_images_after held images deeds (file_after held deeds)
file_left_after [] held images now = now
file_left_after (deed ∷ deeds) held images now = file_left_after deeds (file_by deed held) (file_images_by deed held images) (file_left_by deed held images now)

pub file_left_now : (first : List ℕ) (deeds : List Deed) → file_images_at first deeds (length deeds) (file_after first deeds)
file_left_now first deeds =
    subst (λ (these : List Deed). file_images_after first (λ image. image ≡ first) these (file_after first deeds)) (sym (take_all (length deeds) deeds (omega arith))) (file_left_after deeds first (λ image. image ≡ first) refl)

-- what is held is left
pub file_is_left : (first held : List ℕ) (deeds : List Deed) (image : List ℕ) → held ≡ file_after first deeds → Some held ≡ Some image → file_images_at first deeds (length deeds) image
file_is_left first held deeds image replayed is =
    let same : held ≡ image = cc in
    subst (λ (these : List ℕ). file_images_at first deeds (length deeds) these) (sym replayed ∙ same) (file_left_now first deeds)

-- one deed more
pub file_after-append : (deeds : List Deed) (deed : Deed) (held : List ℕ) → file_after held (deeds ++ deed ∷ []) ≡ file_by deed (file_after held deeds)
file_after-append [] deed held = refl
file_after-append (first ∷ deeds) deed held = file_after-append deeds deed (file_by first held)

pub file_images_after-append : (deeds : List Deed) (deed : Deed) (held : List ℕ) (images : List ℕ → Type 0) (image : List ℕ) → file_images_after held images (deeds ++ deed ∷ []) image → file_images_by deed (file_after held deeds) (file_images_after held images deeds) image
file_images_after-append [] deed held images image left = left
file_images_after-append (first ∷ deeds) deed held images image left = file_images_after-append deeds deed (file_by first held) (file_images_by first held images) image left

module _ (first : List ℕ) (deeds : List Deed) (deed : Deed) where
  -- past moments stay
  pub past : (t : ℕ) (image : List ℕ) → t ≤ length deeds → file_images_at first (deeds ++ deed ∷ []) t image → file_images_at first deeds t image
  past t image before left = subst (λ (these : List Deed). file_images_after first (λ image. image ≡ first) these image) (take-append-le t deeds (deed ∷ []) before) left

  pub stays : (t : ℕ) (image : List ℕ) → t ≤ length deeds → file_images_at first deeds t image → file_images_at first (deeds ++ deed ∷ []) t image
  stays t image before left = subst (λ (these : List Deed). file_images_after first (λ image. image ≡ first) these image) (sym (take-append-le t deeds (deed ∷ []) before)) left

  -- the new moment has what the deed makes of the images before it
  pub newest : (image : List ℕ) → file_images_at first (deeds ++ deed ∷ []) (length deeds + 1) image → file_images_by deed (file_after first deeds) (file_images_at first deeds (length deeds)) image
  newest image left =
      let all = take_all (length deeds + 1) (deeds ++ deed ∷ []) (omega (arith, length-append deeds (deed ∷ []))) in
      let here = subst (λ (these : List Deed). file_images_after first (λ image. image ≡ first) these image) all left in
      let step = file_images_after-append deeds deed first (λ image. image ≡ first) image here in
      subst (λ (these : List Deed). file_images_by deed (file_after first deeds) (file_images_after first (λ image. image ≡ first) these) image) (sym (take_all (length deeds) deeds (omega arith))) step

-- of a file that isn't there no bytes are left
pub absent_left : (image : List ℕ) → Some [] ≡ Some image → file_images_at [] [] 0 image
absent_left image is =
    let same : [] ≡ image = cc in
    subst (λ (these : List ℕ). file_images_at [] [] 0 these) same (file_left_now [] [])
