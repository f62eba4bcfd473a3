use Rattle.std.proofs.Common.{ap, ℕ, List, ◌∷◌, []}
use Rattle.rv_text.specs.Spelled.{spelled}
use Rattle.rv_real.specs.Text.{size_lines, variables_line}
use Rattle.rv_io.proofs.Adding.{adds_then, adds_as}
use Rattle.rv_marks.proofs.inside.Row.{both_rows}
use Rattle.rv_real.proofs.Headers.{header-spelled}
use Rattle.rv_real.proofs.write.put_header.Goals as goal

pub returns : goal.returns
returns g c =
    adds_as (header-spelled c.args.circuit.now)
    (adds_then (adds_as (ap (λ (lines : ℕ). spelled (size_lines lines)) c.line_count.ensures.value) c.put_size.ensures) (adds_then (adds_as (ap (λ (names : List (List ℕ)). spelled (variables_line names ∷ [])) c.names.ensures) c.put_variables.ensures) (adds_then c.put_labels.ensures (adds_then (adds_as (both_rows c.constant_row.ensures c.garbage_row.ensures) c.put_marks.ensures) c.put.ensures))))
