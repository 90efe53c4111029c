-- An instruction whose registers and status are done is finished as its plan says.
use Rattle.romp_cpu.proofs.Common.{◌≡◌, refl, ℕ, List, Option, ap, sym, ◌∙◌, Act, Cs, Plan, Cpu, Seen, plan, planned, tried, StaysIfPending, Pending, IsReadyAt, done, Ready}

-- one that wants something finds the processor as it was
pub whole : (old : Cpu) (regs : List ℕ) (cs : Cs) → (regs ≡ old.regs) × (cs ≡ old.cs) → record old { regs = regs; cs = cs } ≡ old
whole old regs cs stays = ap (λ (regs : List ℕ). record old { regs = regs; cs = cs }) stays.0 ∙ ap (λ (cs : Cs). record old { cs = cs }) stays.1

from_old :
    {S : Type 0} (seen : Seen S) (old : Cpu) (regs : List ℕ) (cs : Cs) (pending : Pending) → StaysIfPending pending old.regs regs old.cs cs
    → tried seen (record old { regs = regs; cs = cs }) (planned regs cs pending) ≡ tried seen old (planned regs cs pending)
from_old seen old regs cs (Pending.Does Act.Nothing next link) stays = refl
from_old seen old regs cs pending stays = ap (λ (cpu : Cpu). tried seen cpu (planned regs cs pending)) (whole old regs cs stays)

pub finished :
    {S : Type 0} (seen : Seen S) (old : Cpu) (regs : List ℕ) (cs : Cs) (pending : Pending) (plan : Plan)
    → plan ≡ planned regs cs pending → StaysIfPending pending old.regs regs old.cs cs
    → tried seen (record old { regs = regs; cs = cs }) (planned regs cs pending) ≡ tried seen old plan
finished seen old regs cs pending plan value stays = from_old seen old regs cs pending stays ∙ ap (tried seen old) (sym value)

-- what a row made ready comes to is the plan
pub plan_of_ready :
    (row : Ready) (halfword_at : ℕ → Option ℕ) (regs : List ℕ) (cs : Cs) (iar : ℕ)
    → IsReadyAt row halfword_at iar → plan halfword_at regs cs iar ≡ done row regs cs iar
plan_of_ready row halfword_at regs cs iar ready = ready.of_row halfword_at regs cs ready.at_first ready.at_second
