use Rattle.job_text.proofs.Lemmas.{◌+◌, arith, ap, length, sum_by, Reading, read_from, text_lines, reading_of, last_left, line_faulty, line_more, answer_ready}
use Rattle.job_text.proofs.job_reading.read_job.Goals as goal

pub loop-line-init : goal.loop-line-init
loop-line-init c = record {
  so_far = ap (λ reading. read_from reading 1 (text_lines c.args.text.now)) c.new-reader.ensures;
  number = omega arith;
  few = omega (arith, ap (λ (reading : Reading). sum_by (λ source. length source) reading.sources + length reading.statements) c.new-reader.ensures);
}

pub loop-line-preserved : goal.loop-line-preserved
loop-line-preserved c = record {
  so_far = line_more (reading_of c.loop-line.reader) (reading_of c.line.new.self) c.loop-line.number c.loop-line.left.now c.in-Some.line.now c.in-Some.behind.now c.args.text.now c.in-Some.ensures.0 c.in-Ok.ensures.read c.loop-line.invariant.so_far;
  number = omega (arith, c.in-Some.ensures.1);
  few = omega (arith, c.in-Some.ensures.1, c.line.ensures.few);
}

pub returns-in-Err-clause-answer : goal.returns-in-Err-clause-answer
returns-in-Err-clause-answer c =
    line_faulty (reading_of c.loop-line.reader) c.loop-line.number c.loop-line.left.now c.in-Some.line.now c.in-Some.behind.now c.args.text.now c.in-Err.fault c.in-Some.ensures.0 c.in-Err.ensures.read c.loop-line.invariant.so_far

pub returns-clause-answer : goal.returns-clause-answer
returns-clause-answer c = grind (arith, last_left (reading_of c.loop-line.reader) c.loop-line.number c.loop-line.left.now c.args.text.now c.in_default.ensures c.loop-line.invariant.so_far, c.finish.ensures)

pub returns-clause-ready : goal.returns-clause-ready
returns-clause-ready c =
    answer_ready c.args.text.now c.finish.result
    (rw (last_left (reading_of c.loop-line.reader) c.loop-line.number c.loop-line.left.now c.args.text.now c.in_default.ensures c.loop-line.invariant.so_far) at c.finish.ensures)
