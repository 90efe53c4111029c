use Rattle.romp_asm.proofs.Lemmas.{append-nil, arith, err_from_is_err_and, stated, source_fault, source_laid, source_more}
use Rattle.romp_asm.proofs.layout.add_source.Goals as goal

pub loop-index-init : goal.loop-index-init
loop-index-init c all before rest named are to = rw append-nil to

pub loop-index-preserved : goal.loop-index-preserved
loop-index-preserved c all before rest named are to =
    source_more c.args.scope.now c.args.statements.now all before rest named are c.loop-index.index (stated c.at.result) (omega arith) c.at.ensures c.loop-index.output (c.loop-index.invariant all before rest named are to) c.add.new.output c.in_ok-add.ensures

pub returns-in_err-add : goal.returns-in_err-add
returns-in_err-add c all before rest named are to =
    let told = err_from_is_err_and c.from_residual.result c.from_residual.ensures.1 in
    rw (told.1, told.2) (source_fault c.args.scope.now c.args.statements.now all before rest named are c.loop-index.index (stated c.at.result) (omega arith) c.at.ensures c.loop-index.output (c.loop-index.invariant all before rest named are to) c.in_err-add.field-0.0 c.in_err-add.ensures)

pub returns : goal.returns
returns c all before rest named are to = source_laid c.args.scope.now c.args.statements.now all before rest named are c.loop-index.index c.loop-index.output (omega arith) (c.loop-index.invariant all before rest named are to)
