-- Plans of deeds that are carried out one after another.
use Rattle.outside.proofs.Common.{◌≡◌, inl, inr, List, [], ◌∷◌, ◌++◌, refl, sym, ◌∙◌, ap, subst, append_assoc, append-nil, ⊎_elim, Option, None, Some, Result, Ok, Err, IsErr, Deed, broken, EndsBroken, IsCut, Did, Since, DidSome, Carries}

ends_more : (front rest more done : List Deed) → EndsBroken front rest done → EndsBroken front (rest ++ more) done
ends_more front [] [] done is = is
ends_more front [] (deed ∷ more) done is = inl is
ends_more front (deed ∷ rest) more done is = is

-- a first part of a plan is one of a longer plan
pub cut_more : (plan more done : List Deed) → IsCut plan done → IsCut (plan ++ more) done
cut_more plan more done is = record {
  front = is.front;
  rest = is.rest ++ more;
  plan_is = ap (λ (these : List Deed). these ++ more) is.plan_is ∙ append_assoc is.front is.rest more;
  ends = ends_more is.front is.rest more done is.ends;
}

ends_behind : (before front rest done : List Deed) → EndsBroken front rest done → EndsBroken (before ++ front) rest (before ++ done)
ends_behind before front [] done is = ap (λ (these : List Deed). before ++ these) is
ends_behind before front (deed ∷ rest) done is =
    ⊎_elim (λ all. inl (ap (λ (these : List Deed). before ++ these) all))
    (λ part. inr (ap (λ (these : List Deed). before ++ these) part ∙ sym (append_assoc before front (broken deed ∷ []))))
    is

-- and so it is behind a plan that was done
pub cut_behind : (plan rest done : List Deed) → IsCut rest done → IsCut (plan ++ rest) (plan ++ done)
cut_behind plan rest done is = record {
  front = plan ++ is.front;
  rest = is.rest;
  plan_is = ap (λ (these : List Deed). plan ++ these) is.plan_is ∙ sym (append_assoc plan is.front is.rest);
  ends = ends_behind plan is.front is.rest done is.ends;
}

nothing_yet : (plan : List Deed) → EndsBroken [] plan []
nothing_yet [] = refl
nothing_yet (deed ∷ plan) = inl refl

-- nothing was asked, and everything
pub cut_first : (plan : List Deed) → IsCut plan []
cut_first plan = record { front = []; rest = plan; plan_is = refl; ends = nothing_yet plan }

pub cut_all : (plan : List Deed) → IsCut plan plan
cut_all plan = record { front = plan; rest = []; plan_is = sym (append-nil plan); ends = refl }

-- nothing was asked, of a plan of nothing and of any other
pub did_none : (old new : Option (List Deed)) → new ≡ old → Did old new []
did_none None new same = same
did_none (Some before) new same = same ∙ ap Some (sym (append-nil before))

pub since_none : (P : List Deed → Type 0) (old new : Option (List Deed)) → new ≡ old → P [] → Since old new P
since_none P None new same here = same
since_none P (Some before) new same here = ([], same ∙ ap Some (sym (append-nil before)), here)

pub some_none : (old new : Option (List Deed)) (plan : List Deed) → new ≡ old → DidSome old new plan
some_none old new plan same = since_none (IsCut plan) old new same (cut_first plan)

-- a plan that was done, as what was done since
pub did_since : (P : List Deed → Type 0) (old new : Option (List Deed)) (plan : List Deed) → Did old new plan → P plan → Since old new P
did_since P None new plan did here = did
did_since P (Some before) new plan did here = (plan, did, here)

pub some_all : (old new : Option (List Deed)) (plan : List Deed) → Did old new plan → DidSome old new plan
some_all old new plan did = did_since (IsCut plan) old new plan did (cut_all plan)

-- what was done since, said in another way
pub since_as : (P Q : List Deed → Type 0) (old new : Option (List Deed)) → Since old new P → ((done : List Deed) → P done → Q done) → Since old new Q
since_as P Q None new is step = is
since_as P Q (Some before) new is step = (is.0, is.1, step is.0 is.2)

-- what was done behind a plan that was done
pub since_on : (P Q : List Deed → Type 0) (old mid new : Option (List Deed)) (plan : List Deed) → Did old mid plan → Since mid new P → ((done : List Deed) → P done → Q (plan ++ done)) → Since old new Q
since_on P Q None mid new plan first second step = subst (λ (those : Option (List Deed)). Since those new P) first second
since_on P Q (Some before) mid new plan first second step =
    let after : Since (Some (before ++ plan)) new P = subst (λ (those : Option (List Deed)). Since those new P) first second in
    (plan ++ after.0, after.1 ∙ ap Some (append_assoc before plan after.0), step after.0 after.2)

pub did_on : (old mid new : Option (List Deed)) (plan more : List Deed) → Did old mid plan → Did mid new more → Did old new (plan ++ more)
did_on None mid new plan more first second = subst (λ (those : Option (List Deed)). Did those new more) first second
did_on (Some before) mid new plan more first second =
    let after : Did (Some (before ++ plan)) new more = subst (λ (those : Option (List Deed)). Did those new more) first second in
    after ∙ ap Some (append_assoc before plan more)

pub some_on : (old mid new : Option (List Deed)) (plan more : List Deed) → Did old mid plan → DidSome mid new more → DidSome old new (plan ++ more)
some_on old mid new plan more first second = since_on (IsCut more) (IsCut (plan ++ more)) old mid new plan first second (cut_behind plan more)

-- a plan that was cut short cuts a longer one short
pub some_more : (old new : Option (List Deed)) (plan more : List Deed) → DidSome old new plan → DidSome old new (plan ++ more)
some_more old new plan more is = since_as (IsCut plan) (IsCut (plan ++ more)) old new is (cut_more plan more)

-- a plan that was done, however the call that asked it ended behind it; one that was cut short; and either as a first part
pub carries_all : {T E : Type 0} (old new : Option (List Deed)) (plan : List Deed) (result : Result T E) → Did old new plan → Carries old new plan result
carries_all old new plan (Ok x) did = did
carries_all old new plan (Err e) did = some_all old new plan did

pub carries_err : {T E : Type 0} (old new : Option (List Deed)) (plan : List Deed) (result : Result T E) → IsErr result → DidSome old new plan → Carries old new plan result
carries_err old new plan (Ok x) fails some = let never : ⊥ = cc in absurd never
carries_err old new plan (Err e) fails some = some

pub carries_some : {T E : Type 0} (old new : Option (List Deed)) (plan : List Deed) (result : Result T E) → Carries old new plan result → DidSome old new plan
carries_some old new plan (Ok x) carries = some_all old new plan carries
carries_some old new plan (Err e) carries = carries

-- a plan behind one that was done
pub carries_on : {T E : Type 0} (old mid new : Option (List Deed)) (plan more : List Deed) (result : Result T E) → Did old mid plan → Carries mid new more result → Carries old new (plan ++ more) result
carries_on old mid new plan more (Ok x) first second = did_on old mid new plan more first second
carries_on old mid new plan more (Err e) first second = some_on old mid new plan more first second
