-- Pages that all go out leave the bytes as they were.
use Rattle.storage_unit.proofs.Common.{EmptyKeeps, nat_tests, arith}
use Rattle.storage_unit.proofs.ByteLemmas.{same-bytes}
use Rattle.storage_unit.proofs.LeaveLemmas.{emptied-over, emptied-clean, clean-shows}

pub empty-keeps : EmptyKeeps
empty-keeps = grind (arith, nat_tests, same-bytes, clean-shows, emptied-over, emptied-clean)
