-- A commit of marked lines isn't seen.
use Rattle.storage_unit.proofs.Common.{CommitIsUnseen, nat_tests, arith}
use Rattle.storage_unit.proofs.ByteLemmas.{same-bytes}

pub commit-is-unseen : CommitIsUnseen
commit-is-unseen = grind (arith, nat_tests, same-bytes)
