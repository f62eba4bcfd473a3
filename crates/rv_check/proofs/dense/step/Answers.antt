use Rattle.std.proofs.Common.{◌^◌, arith}
use Rattle.rv_check.proofs.inside.Steps.{moved_small_all, wider}
use Rattle.rv_check.proofs.inside.Wholes.{shows_moved}
use Rattle.rv_check.proofs.dense.step.Goals as goal

pub go-requires : goal.go-requires
go-requires c = record {
  few_lines = c.requires.few_lines;
  fits = c.requires.fits;
  other = c.in_default.not-H;
  len = c.requires.len;
  small = wider c.args.scale.now.bits 61 c.args.values.now (omega (arith, c.requires.bits)) c.requires.small;
}

pub returns-in_default : goal.returns-in_default
returns-in_default c = record {
  small = moved_small_all c.args.lines (2 ^ c.args.scale.now.bits) c.args.op c.args.values.now c.go.new.values c.requires.len c.go.ensures c.requires.small;
  bits = omega (arith, c.requires.bits);
  exponent = omega arith;
  done = λ k on s. shows_moved c.args.op c.args.lines c.args.values.now c.go.new.values c.args.scale.now.exponent k c.in_default.not-H c.requires.fits on c.go.ensures s;
}
