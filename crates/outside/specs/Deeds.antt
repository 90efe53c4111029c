-- What is asked of a disk that may change it, and whether a plan of such calls was carried out.
use Rattle.std.specs.Prelude.{◌≡◌, ◌⊎◌, ℕ, List, [], ◌∷◌, ◌++◌, Option, None, Some, Result, Ok, Err}

pub data Deed : Type 0 where
  -- these bytes were written at the offset
  Wrote : (at : ℕ) (bytes : List ℕ) → Deed
  -- a write of these bytes at the offset failed
  Tore : (at : ℕ) (bytes : List ℕ) → Deed
  -- a sync succeeded
  Synced : Deed
  -- a sync failed
  Unsynced : Deed

-- the same call, failed
abbrev pub broken : Deed → Deed
broken (Wrote at bytes) = Tore at bytes
broken (Tore at bytes) = Tore at bytes
broken Synced = Unsynced
broken Unsynced = Unsynced

-- the first of these, in order, failed, or wasn't asked
abbrev pub EndsBroken : (front rest done : List Deed) → Type 0
EndsBroken front [] done = done ≡ front
EndsBroken front (deed ∷ rest) done = (done ≡ front) ⊎ (done ≡ front ++ broken deed ∷ [])

-- A first part of a plan was done, and of the next call that it failed, or that it wasn't asked.
pub record IsCut (plan done : List Deed) : Type 0 where
  pub front : List Deed
  pub rest : List Deed
  pub plan_is : plan ≡ front ++ rest
  pub ends : EndsBroken front rest done

-- where the deeds are told, a whole plan was done behind those of before
abbrev pub Did : (before after : Option (List Deed)) (plan : List Deed) → Type 0
Did None after plan = after ≡ None
Did (Some before) after plan = after ≡ Some (before ++ plan)

-- where the deeds are told, those behind the ones of before are so
abbrev pub Since : (before after : Option (List Deed)) → (List Deed → Type 0) → Type 0
Since None after P = after ≡ None
Since (Some before) after P = (done : List Deed) × (after ≡ Some (before ++ done)) × P done

-- a first part of the plan, and nothing but the call that failed behind it
abbrev pub DidSome : (before after : Option (List Deed)) (plan : List Deed) → Type 0
DidSome before after plan = Since before after (IsCut plan)

-- the whole plan where it went well, and else a first part of it
abbrev pub Carries : {T E : Type 0} → (before after : Option (List Deed)) (plan : List Deed) → Result T E → Type 0
Carries before after plan (Ok done) = Did before after plan
Carries before after plan (Err failed) = DidSome before after plan

-- no deed
abbrev pub Stays : (before after : Option (List Deed)) → Type 0
Stays before after = after ≡ before

-- one sync, which went as the answer says
abbrev pub SyncsBy : {T E : Type 0} → Result T E → (before after : Option (List Deed)) → Type 0
SyncsBy result before after = Carries before after (Synced ∷ []) result

-- one sync, which went well
abbrev pub SyncedOnce : (before after : Option (List Deed)) → Type 0
SyncedOnce before after = Did before after (Synced ∷ [])

-- at most one sync, and nothing else
abbrev pub SyncsOnce : (before after : Option (List Deed)) → Type 0
SyncsOnce before after = DidSome before after (Synced ∷ [])
