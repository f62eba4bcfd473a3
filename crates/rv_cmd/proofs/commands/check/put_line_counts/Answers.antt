use Rattle.std.proofs.Common.{ℕ, ◌∙◌, ap}
use Rattle.rv_io.proofs.Adding.{adds_then, adds_as}
use Rattle.rv_cmd.specs.Commands.Check.{lines_said}
use Rattle.rv_cmd.proofs.commands.check.put_line_counts.Goals as goal

pub returns : goal.returns
returns g c =
    adds_as (ap (λ (n : ℕ). lines_said n c.from-2.result) c.from.ensures ∙ ap (lines_said c.args.circuit_lines) c.from-2.ensures)
    (adds_then c.put.ensures (adds_then c.put_number.ensures (adds_then c.put-2.ensures c.put_number-2.ensures)))
