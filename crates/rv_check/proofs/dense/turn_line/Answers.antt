use Rattle.rv_check.proofs.inside.Usual.{line_turned}
use Rattle.rv_check.proofs.dense.turn_line.Goals as goal

pub returns : goal.returns
returns c = λ f is.
    line_turned c.args.lines c.args.line c.args.power c.place_bit.result f c.turn.new.values c.requires.line c.place_bit.ensures (c.turn.ensures c.args.lines f is)
