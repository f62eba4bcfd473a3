use Rattle.std.proofs.Common.{sym}
use Rattle.rv_io.proofs.Adding.{adds_as, adds_then}
use Rattle.rv_cmd.proofs.Laws.Compare.{differs-some}
use Rattle.rv_cmd.proofs.commands.compare.put_differs.Goals as goal

pub returns : goal.returns
returns g c = adds_as (sym (differs-some c.args.inputs c.args.word c.if-inputs-eq0.false)) (adds_then c.put-2.ensures c.put_bits.ensures)
