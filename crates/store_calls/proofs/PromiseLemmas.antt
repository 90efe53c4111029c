-- A bundle that has what a call needs.
use Rattle.store_calls.proofs.Common.{◌≡◌, ◌⊎◌, ℕ, List, inl, inr, subst, Option, IsFirstBadLine, IsBundle, Bundle, IsFaultAt, IsStanding, IsWholeBundle, Status, read_whole, AuditedBy, CanAudit, IsOfAudit, HasBundle, IsBadClosing, IsNoJob, IsWrongPart, bundle_part, CanTrace, IsOfTrace, TracedBy, Ghosts, Result, IsErr, IsErrAnd, MatchResult, arith, nat_tests}
use Rattle.serial_audit.proofs.OneLemmas.{has_one_splitting}
use Rattle.serial_audit.specs.declared.answer.TraceFault.TheVariants as fault
use Rattle.call_status.specs.declared.status.Status.TheVariants as status

-- a status that is handed on
pub handed_on : {T : Type 0} (Good : T → Type 0) (Bad : Status → Type 0) (result : Result T Status) (status : Status) → IsErr result × IsErrAnd result (λ other. other ≡ status) → Bad status → MatchResult result Good Bad
handed_on Good Bad result status is bad = grind (arith, nat_tests)

-- bytes that stand have no fault
stands_well : (bytes : List ℕ) (offset : ℕ) → IsStanding bytes → IsFaultAt bytes offset → ⊥
stands_well bytes offset stood fault = grind (arith, nat_tests)

module _ (left left_now : Option (List ℕ)) (has : HasBundle left) where
  -- what was read is the bundle
  is_text : (text : List ℕ) → IsWholeBundle left left_now text → text ≡ has.text
  is_text text whole = read_whole left left_now has.text text has.has_text whole.all whole.none

  is_bundle : (other : Bundle) → IsBundle has.text other → other ≡ has.bundle
  is_bundle other parts = has_one_splitting.one has.text other has.bundle parts has.parts

  -- none of its parts is wrong
  no_wrong : (part at : ℕ) → IsWrongPart has.text part at → ⊥
  no_wrong part at (inl (front, wrong)) = has_one_splitting.whole has.text has.bundle part has.parts wrong
  no_wrong part at (inr (inl (second, bad))) =
      has.report at (subst (λ (bundle : Bundle). IsFirstBadLine (bundle_part has.text bundle.report) at) (is_bundle bad.bundle bad.parts) bad.bad)
  no_wrong part at (inr (inr (third, bad))) =
      stands_well (bundle_part has.text has.bundle.opening) at has.opening (subst (λ (bundle : Bundle). IsFaultAt (bundle_part has.text bundle.opening) at) (is_bundle bad.bundle bad.parts) bad.fault)

  some_job : (line kind : ℕ) → IsNoJob has.text line kind → ⊥
  some_job line kind none = grind (arith, nat_tests, has.job, is_bundle none.bundle none.parts, none.fault)

module _ {W : Type 0} (G : Ghosts W) (left left_now : Option (List ℕ)) (before after : W) (text : List ℕ) (whole : IsWholeBundle left left_now text) where
  -- an audit of it ends well where no put fails
  pub audit_ends : (can : CanAudit left) (now : Status) → AuditedBy G text before after now → IsOfAudit now → (now ≡ status.PutFault → ⊥) → (now ≡ status.Done) ⊎ (now ≡ status.NoMemory)
  audit_ends can now did of put = by now (subst (λ (those : List ℕ). AuditedBy G those before after now) (is_text left left_now can.has text whole) did) of put
    where
      no_closing : (at : ℕ) → IsBadClosing can.has.text at → ⊥
      no_closing at bad =
          stands_well (bundle_part can.has.text can.has.bundle.closing) at can.closing
          (subst (λ (bundle : Bundle). IsFaultAt (bundle_part can.has.text bundle.closing) at) (is_bundle left left_now can.has bad.bundle bad.opened.parts) bad.fault)

      by : (now : Status) → AuditedBy G can.has.text before after now → IsOfAudit now → (now ≡ status.PutFault → ⊥) → (now ≡ status.Done) ⊎ (now ≡ status.NoMemory)
      by (status.Bundle part at) (inl wrong, same) of put = absurd (no_wrong left left_now can.has part at wrong)
      by (status.Bundle part at) (inr (last, bad), same) of put = absurd (no_closing at bad)
      by (status.Job line kind) (none, same) of put = absurd (some_job left left_now can.has line kind none)
      by _ did of put = grind (arith, nat_tests)

  -- and so does a trace
  pub trace_ends : (activation : ℕ) (can : CanTrace activation left) (now : Status) → TracedBy G text activation before after now → IsOfTrace now → (now ≡ status.PutFault → ⊥) → (now ≡ status.Done) ⊎ (now ≡ status.NoMemory)
  trace_ends activation can now did of put = by now (subst (λ (those : List ℕ). TracedBy G those activation before after now) (is_text left left_now can.has text whole) did) of put
    where
      by : (now : Status) → TracedBy G can.has.text activation before after now → IsOfTrace now → (now ≡ status.PutFault → ⊥) → (now ≡ status.Done) ⊎ (now ≡ status.NoMemory)
      by (status.Bundle part at) (wrong, same) of put = absurd (no_wrong left left_now can.has part at wrong)
      by (status.Job line kind) (none, same) of put = absurd (some_job left left_now can.has line kind none)
      by status.NoCommit (found, same) of put = absurd (let is = can.traced fault.NoCommit found in cc)
      by (status.NotSerial place) (found, same) of put = absurd (let is = can.traced (fault.NotSerial place) found in cc)
      by _ did of put = grind (arith, nat_tests)
