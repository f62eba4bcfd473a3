use Rattle.std.proofs.Common.{arith}
use Rattle.std.proofs.lemmas.Grind.{common_steps}
use Rattle.rv_gate.specs.Word.{has}
use Rattle.rv_gate.proofs.Ranges.{filter-suc}
use Rattle.rv_route.proofs.places.members_of.Goals as goal

pub loop-line-preserved : goal.loop-line-preserved
loop-line-preserved c =
    let next = filter-suc (has c.args.set) c.loop-line.line in
    record { so_far = grind (arith, common_steps, next, c.has.ensures); few = grind (arith, common_steps) }
