use Rattle.std.proofs.Common.{◌<◌, Bool, List, length, set, ap, arith}
use Rattle.rv_gate.specs.Circuit.{Cascade}
use Rattle.rv_gate.specs.declared.circuit.Mark.{Mark}
use Rattle.rv_gate.proofs.Setting.{IsSetting-more}
use Rattle.rv_perm.proofs.circuit.mark_lines.Goals as goal

-- a circuit with other marks
abbrev marked : List Mark → List Bool → Cascade → Cascade
marked constants garbage v = record v { constants = constants; garbage = garbage }

pub loop-line-preserved : goal.loop-line-preserved
loop-line-preserved c =
    let kept = c.loop-line.invariant in
    let constant_in : c.loop-line.line < length c.args.spec.now.constants = omega (arith, c.recall_invariant.ensures.constants) in
    let garbage_in : c.loop-line.line < length c.args.spec.now.garbage = omega (arith, c.recall_invariant.ensures.garbage) in
    rw (c.set_garbage.ensures, c.set_constant.ensures)
    (record {
      names = kept.names;
      rest = ap (marked (set c.loop-line.circuit.constants c.loop-line.line c.constant.result) (set c.loop-line.circuit.garbage c.loop-line.line c.garbage.result)) kept.rest;
      constants = IsSetting-more c.args.spec.now.constants c.loop-line.circuit.constants c.loop-line.line c.constant.result kept.constants constant_in c.constant.ensures;
      garbage = IsSetting-more c.args.spec.now.garbage c.loop-line.circuit.garbage c.loop-line.line c.garbage.result kept.garbage garbage_in c.garbage.ensures;
    })
