use Rattle.std.proofs.Common.{arith}
use Rattle.rv_cube.proofs.inside.Entries.{term_more}
use Rattle.rv_cube.proofs.first.term_cubes.Goals as goal

pub loop-term-preserved : goal.loop-term-preserved
loop-term-preserved c =
    term_more c.args.pla.now.terms c.loop-term.term c.ones.result c.loop-term.cubes.items c.push.new.self.items (omega arith)
    c.in_ok-push.ensures.items c.loop-term.invariant c.ones.ensures.value
