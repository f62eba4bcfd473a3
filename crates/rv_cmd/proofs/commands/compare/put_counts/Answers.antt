use Rattle.std.proofs.Common.{ℕ, ◌∙◌, ap}
use Rattle.rv_io.proofs.Adding.{adds_then, adds_as}
use Rattle.rv_cmd.specs.Commands.Compare.{counts_said}
use Rattle.rv_cmd.proofs.commands.compare.put_counts.Goals as goal

pub returns : goal.returns
returns g c =
    adds_as (ap (λ (n : ℕ). counts_said c.args.what.now n c.from-2.result) c.from.ensures ∙ ap (counts_said c.args.what.now c.args.first) c.from-2.ensures)
    (adds_then c.put.ensures (adds_then c.put_number.ensures (adds_then c.put-2.ensures c.put_number-2.ensures)))
