use Rattle.rv_gate.proofs.NameLemmas.{length-numbered}
use Rattle.rv_picture.proofs.lines.network_lines.Goals as goal

pub new-requires : goal.new-requires
new-requires c = rw (c.in_ok-names.ensures, length-numbered 113 c.args.lines) c.requires.some
