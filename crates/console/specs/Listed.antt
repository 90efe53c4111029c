-- What a listing of a job's programs did.
use Rattle.std.specs.Prelude.{◌≡◌, ℕ, List, [], Ok}
use Rattle.std.specs.List.{flat_map, zip, sum_by}
use Rattle.console.specs.Below.{Called, Ghosts, Given, given, IsOfLines, job_of, PrintsBytes, PutsTimes, ReadsBy, RoomReads, Status}
use Rattle.listing.specs.Listing.{listing_of, lines_in}
use Rattle.job_text.specs.Grammar.{Content}
use Rattle.call_status.specs.declared.status.Status.TheVariants as status
use Rattle.call_status.specs.Printed.{put_of}
use Rattle.call_status.specs.SourceText.{IsWholeText}
use Rattle.outside.specs.declared.source.Source as source

-- the listings of a job's programs, each with its name, in the job's order
abbrev pub listings_of : Content → List ℕ
listings_of content = flat_map (λ named. listing_of named.0 named.1.image named.1.entry named.1.windows) (zip content.names content.programs)

-- how many lines these are
abbrev pub lines_listed : Content → ℕ
lines_listed content = sum_by (λ parts. lines_in parts.image parts.windows) content.programs

-- the text was had whole and means a job; the listings of its programs are put, each line by one put, and the disk is left alone
pub record ListsJob {W : Type 0} (G : Ghosts W) (given : Given) (call : Called W) : Type 0 where
  pub text : List ℕ
  pub whole : IsWholeText given.left given.left_now text
  pub content : Content
  pub means : job_of text ≡ Ok content
  pub puts : PrintsBytes G (listings_of content) call.before call.after (put_of call.status)
  pub times : PutsTimes G (lines_listed content) call.before call.after (put_of call.status)

-- what a listing did, by its status: the programs are listed or a put failed, or nothing outside was called; other statuses don't come
abbrev pub ListedBy : {W : Type 0} → Ghosts W → Given → Called W → Status → Type 0
ListedBy G given call status.Done = ListsJob G given call
ListedBy G given call status.PutFault = ListsJob G given call
ListedBy G given call (status.Job line kind) = call.after ≡ call.before
ListedBy G given call status.SourceFault = call.after ≡ call.before
ListedBy G given call status.TooBig = call.after ≡ call.before
ListedBy G given call status.NoMemory = call.after ≡ call.before
ListedBy G given call _ = ⊥

-- what a listing did; it has no order
pub record Listed {W : Type 0} (G : Ghosts W) (given : Given) (call : Called W) : Type 0 where
  pub no_order : call.order ≡ []
  pub by_status : ListedBy G given call call.status

-- what a listing of a source's job did, and what its text tells of the status
pub record ListsFrom {S W : Type 0} (F : source.Ghosts S) (G : Ghosts W) (old new : S) (before after : W) (status : Status) : Type 0 where
  pub read : ReadsBy (given F old new) status
  pub ends : RoomReads F G (Listed G) IsOfLines old new before after status
