-- What an audit did: the commits of a bundle's report were run again, and one line tells whether they leave what it says.
use Rattle.std.specs.Prelude.{◌≡◌, ◌≢◌, ℕ, ◌⊎◌, List, [], ◌++◌, codes, decimal, length, Option}
use Rattle.store_calls.specs.Below.{Bundle, Called, CommitLine, DoneIfCalm, Ghosts, Given, IsOfLines, IsStanding, IsVerdict, Job, KeptStore, put_of, PrintsBytes, PutsTimes, report_told, RoomReads, Status}
use Rattle.serial_audit.specs.declared.auditing.Verdict.{Verdict}
use Rattle.serial_audit.specs.declared.auditing.Verdict.TheVariants.{NotSerial, Serial}
use Rattle.call_status.specs.declared.status.Status.TheVariants as status
use Rattle.outside.specs.declared.source.Source as source
use Rattle.store_calls.specs.Bundled.{HasBundle, IsBadClosing, IsNoJob, AreBundleParts, IsWrongPart, WithBundle, bundle_part, StandsForKept}

-- the line of a verdict on so many commits
abbrev pub verdict_line : (commits : ℕ) → Verdict → List ℕ
verdict_line commits Serial = codes "audit yes commits " ++ decimal commits ++ codes "\n"
verdict_line commits (NotSerial place) = codes "audit no " ++ decimal place ++ codes "\n"

-- the parts of a bundle were checked: this is the verdict on its report, which has so many commit lines
pub record IsChecked (bytes : List ℕ) (commits : ℕ) (verdict : Verdict) : Type 0 where
  pub bundle : Bundle
  pub job : Job
  pub report : List CommitLine
  pub opening : KeptStore
  pub closing : KeptStore
  pub opened : AreBundleParts bytes bundle job report opening
  pub closing_is : StandsForKept (bundle_part bytes bundle.closing) closing
  pub counted : commits ≡ length (report_told report)
  pub told : IsVerdict job opening closing (report_told report) verdict

-- why a bundle isn't checked, by the status
abbrev pub IsUnchecked : List ℕ → Status → Type 0
IsUnchecked bytes (status.Bundle part at) = IsWrongPart bytes part at ⊎ ((part ≡ 4) × IsBadClosing bytes at)
IsUnchecked bytes (status.Job line kind) = IsNoJob bytes line kind
IsUnchecked bytes status.NoMemory = Unit {0}
IsUnchecked bytes _ = ⊥

-- a bundle was checked, and the line of its verdict was put by one put, or a prefix of it
pub record TellsVerdict {W : Type 0} (G : Ghosts W) (bytes : List ℕ) (before after : W) (status : Status) : Type 0 where
  pub commits : ℕ
  pub verdict : Verdict
  pub checked : IsChecked bytes commits verdict
  pub puts : PrintsBytes G (verdict_line commits verdict) before after (put_of status)
  pub times : PutsTimes G 1 before after (put_of status)

-- what was done with the text of a bundle, by the status: the verdict was told or a put failed, or nothing outside was called
abbrev pub AuditedBy : {W : Type 0} → Ghosts W → List ℕ → W → W → Status → Type 0
AuditedBy G bytes before after status.Done = TellsVerdict G bytes before after status.Done
AuditedBy G bytes before after status.PutFault = TellsVerdict G bytes before after status.PutFault
AuditedBy G bytes before after other = IsUnchecked bytes other × (after ≡ before)

-- what an audit did; it has no order, and the source's count of faults rises with SourceFault alone
pub record Audited {W : Type 0} (G : Ghosts W) (given : Given) (call : Called W) : Type 0 where
  pub no_order : call.order ≡ []
  pub calm : call.status ≢ Status.SourceFault → given.faults_now ≡ given.faults
  pub by_status : WithBundle given (call.after ≡ call.before) (λ text. AuditedBy G text call.before call.after call.status) call.status

-- The source has what an audit needs: a bundle, whose closing store stands too.
pub record CanAudit (left : Option (List ℕ)) : Type 0 where
  pub has : HasBundle left
  pub closing : IsStanding (bundle_part has.text has.bundle.closing)

-- a status of an audit
abbrev pub IsOfAudit : Status → Type 0
IsOfAudit (status.Bundle part at) = Unit {0}
IsOfAudit other = IsOfLines other

-- what an audit of a source's bundle did, and that it ends well where it can
pub record AuditsFrom {S W : Type 0} (F : source.Ghosts S) (G : Ghosts W) (old new : S) (before after : W) (status : Status) : Type 0 where
  pub ends : RoomReads F G (Audited G) IsOfAudit old new before after status
  pub complete : CanAudit (F.left old) → DoneIfCalm F G old new before after status
