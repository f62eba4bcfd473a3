use Rattle.std.proofs.Common.{◌-◌, arith}
use Rattle.rv_check.proofs.inside.Usual.{shifted}
use Rattle.rv_check.proofs.dense.place_bit.Goals as goal

pub returns : goal.returns
returns c = shifted (c.args.lines - 1 - c.args.line) c.args.lines (omega (arith, c.requires.line)) c.requires.few_lines
