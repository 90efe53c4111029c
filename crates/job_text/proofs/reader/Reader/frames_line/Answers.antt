use Rattle.job_text.proofs.Common.{arith}
use Rattle.job_text.proofs.reader.Reader.frames_line.Goals as goal

pub returns-else-count-gt1024-clause-read : goal.returns-else-count-gt1024-clause-read
returns-else-count-gt1024-clause-read c = grind arith

pub returns-then-count-lt2-clause-read : goal.returns-then-count-lt2-clause-read
returns-then-count-lt2-clause-read c = grind arith

pub returns-in_default-2-clause-read : goal.returns-in_default-2-clause-read
returns-in_default-2-clause-read c = grind arith
