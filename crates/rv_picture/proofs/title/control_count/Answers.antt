use Rattle.std.proofs.Common.{sym, subst}
use Rattle.rv_gate.specs.Gate.{Within}
use Rattle.rv_real.proofs.ControlWalk.{controls_ones}
use Rattle.rv_picture.specs.Titles.{written_names}
use Rattle.rv_picture.proofs.TitleTexts.{written_count}
use Rattle.rv_picture.proofs.title.control_count.Goals as goal

pub returns-clause-count : goal.returns-clause-count
returns-clause-count c = λ want.
    sym (controls_ones (written_names c.args.names.now) c.args.care want (subst (Within c.args.care) (sym (written_count c.args.names.now)) c.requires))
