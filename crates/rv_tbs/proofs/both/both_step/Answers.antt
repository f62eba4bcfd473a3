use Rattle.rv_tbs.specs.Synthesis.{is_inward}
use Rattle.rv_tbs.proofs.inside.BothSides.{step_in, step_out}
use Rattle.rv_tbs.proofs.both.both_step.Goals as goal

pub returns-then-is_inward-clause-found : goal.returns-then-is_inward-clause-found
returns-then-is_inward-clause-found c =
    step_in is_inward c.args.table.now.lines c.args.k c.args.table.now.images _ c.args.ins.now.items _ c.args.outs.now.items c.is_inward.result
    c.is_inward.ensures c.if-is_inward.true c.in_ok-inward_step.ensures.images c.in_ok-inward_step.ensures.gates

pub returns-clause-found : goal.returns-clause-found
returns-clause-found c =
    step_out is_inward c.args.table.now.lines c.args.k c.args.table.now.images _ c.args.ins.now.items c.args.outs.now.items _ c.is_inward.result
    c.is_inward.ensures c.if-is_inward.false c.in_ok-outward_step.ensures.images c.in_ok-outward_step.ensures.gates
