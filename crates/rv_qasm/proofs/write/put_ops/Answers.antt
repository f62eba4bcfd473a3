use Rattle.std.proofs.Common.{◌≤◌, length, arith, ap}
use Rattle.std.specs.List.{flat_map}
use Rattle.std.proofs.lemmas.List.{take_all}
use Rattle.std.proofs.lemmas.Option.{slice_get-get_or}
use Rattle.rv_io.proofs.Adding.{adds_as}
use Rattle.rv_io.proofs.Pieces.{adds_more}
use Rattle.rv_qasm.specs.Text.{statement}
use Rattle.rv_qasm.proofs.write.put_ops.Goals as goal

pub loop-op-preserved : goal.loop-op-preserved
loop-op-preserved g c =
    let ops = c.args.ops.now in
    let i = c.loop-op.op-index in
    adds_more statement ops i _ (slice_get-get_or ops i _ c.loop-op-test.true) c.loop-op.invariant c.put_statement.ensures

pub returns : goal.returns
returns g c =
    let ops = c.args.ops.now in
    let all : length ops ≤ c.loop-op.op-index = omega (arith, c.loop-op-test.false) in
    adds_as (ap (flat_map statement) (take_all c.loop-op.op-index ops all)) c.loop-op.invariant
