use Rattle.std.proofs.Common.{◌≡◌, ◌≤◌, ℕ, Bool, true, false, List, length, ap, ◌∙◌, arith}
use Rattle.std.specs.List.{flat_map}
use Rattle.std.proofs.lemmas.List.{take_all}
use Rattle.rv_gate.specs.Circuit.{Cascade, IsCascade}
use Rattle.rv_io.proofs.Adding.{adds_as}
use Rattle.rv_real.specs.Text.{label_word}
use Rattle.rv_real.specs.inside.LabelRows.{labels_of}
use Rattle.rv_io.proofs.Pieces.{adds_more}
use Rattle.rv_text.proofs.Pieces.{spaced, more_words-map}
use Rattle.rv_real.proofs.write.put_label_row.Goals as goal

pub loop-line-preserved : goal.loop-line-preserved
loop-line-preserved g c =
    adds_more (λ label. spaced (label_word label)) (labels_of c.args.circuit.now c.args.ends) c.loop-line.line c.label_at.result.now c.label_at.ensures
    c.loop-line.invariant c.put_next_label.ensures

-- a label for each line
counted : (c : Cascade) (ends : Bool) → IsCascade c → length (labels_of c ends) ≡ length c.names
counted c true is = is.output_labels.count
counted c false is = is.input_labels.count

pub returns : goal.returns
returns g c =
    let labels = labels_of c.args.circuit.now c.args.ends in
    let count = counted c.args.circuit.now c.args.ends c.line_count-line-end.ensures.valid in
    let all : length labels ≤ c.loop-line.line = omega arith in
    adds_as (ap (flat_map (λ (label : List ℕ). spaced (label_word label))) (take_all c.loop-line.line labels all) ∙ more_words-map label_word labels)
    c.loop-line.invariant
