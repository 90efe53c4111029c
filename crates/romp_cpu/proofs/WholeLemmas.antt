-- A store has as many bytes as its access.
use Rattle.romp_cpu.proofs.Common.{nat_tests, length-take, length-drop, Act, Cs, planned, IsSoundPending, stored_bytes, StoresAll, ◌≡◌, ℕ, List, length, arith, Pending}
use Rattle.flat_machine.specs.Access.{FitsFrom}
use Rattle.flat_machine.proofs.Steps.{length-words}

pub stored_bytes-long : (registers : List ℕ) (bytes from : ℕ) → length registers ≡ 16 → FitsFrom bytes from → length (stored_bytes registers bytes from) ≡ bytes
stored_bytes-long registers bytes from sixteen fits = grind (arith, nat_tests, length-drop, length-words, length-take)

pub pending-stores : (pending : Pending) (registers : List ℕ) (status : Cs) → length registers ≡ 16 → IsSoundPending pending → StoresAll (planned registers status pending)
pending-stores (Pending.Fails code) registers status sixteen sound = tt
pending-stores (Pending.Does Act.Nothing next link) registers status sixteen sound = tt
pending-stores (Pending.Does (Act.Load address bytes to sign) next link) registers status sixteen sound = tt
pending-stores (Pending.Does (Act.Store address bytes from) next link) registers status sixteen sound = (sound.0.some, stored_bytes-long registers bytes from sixteen sound.0)
pending-stores (Pending.Does (Act.Print byte) next link) registers status sixteen sound = tt
pending-stores (Pending.Does Act.Commit next link) registers status sixteen sound = tt
pending-stores (Pending.Does (Act.Check code) next link) registers status sixteen sound = tt
