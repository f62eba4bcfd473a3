use Rattle.std.proofs.Common.{◌∙◌, ◌^◌}
use Rattle.rv_net.specs.declared.op.Op.TheVariants.{X, Sdg}
use Rattle.rv_check.proofs.inside.Composed.{y_of_three}
use Rattle.rv_check.proofs.inside.Steps.{moved_small_all}
use Rattle.rv_check.proofs.dense.flip_and_turn.Goals as goal

pub turn_line-requires-2-clause-small : goal.turn_line-requires-2-clause-small
turn_line-requires-2-clause-small c =
    moved_small_all c.args.lines (2 ^ 61) (X c.args.line) c.turn_line.new.values c.flip_line.new.values (c.turn_line.auto.values ∙ c.requires.len) c.flip_line.ensures
    (moved_small_all c.args.lines (2 ^ 61) (Sdg c.args.line) c.args.values.now c.turn_line.new.values c.requires.len c.turn_line.ensures c.requires.small)

pub returns : goal.returns
returns c = λ f is. c.turn_line-2.ensures _ (c.flip_line.ensures _ (c.turn_line.ensures f is)) ∙ y_of_three c.args.lines c.args.line f c.requires.line
