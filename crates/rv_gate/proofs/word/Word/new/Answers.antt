use Rattle.rv_gate.specs.inside.laws.WordLaws.{word_with-mirrored}
use Rattle.rv_gate.proofs.word.Word.new.Goals as goal

pub returns : goal.returns
returns c = (
  c.is_within.ensures.0 c.if-not-is_within.false,
  word_with-mirrored c.args.len c.mirrored.result c.args.number c.mirrored.ensures.bits,
)
