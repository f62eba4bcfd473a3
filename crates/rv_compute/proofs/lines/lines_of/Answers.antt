use Rattle.std.proofs.Common.{◌≡◌, ◌+◌, length, false, replicate, ◌∙◌, ap, arith}
use Rattle.rv_gate.specs.Circuit.{Cascade}
use Rattle.rv_gate.specs.declared.circuit.Mark.TheVariants.{Input}
use Rattle.rv_compute.proofs.Marks.{length-line_names}
use Rattle.rv_compute.proofs.lines.lines_of.Goals as goal

pub new-requires : goal.new-requires
new-requires c =
    omega (arith, ap length c.in_ok-names.ensures, length-line_names c.args.inputs c.args.outputs c.args.work)

pub hold_zeros-requires-clause-lines : goal.hold_zeros-requires-clause-lines
hold_zeros-requires-clause-lines c =
    omega (
      arith,
      ap (λ (t : Cascade). length t.names) c.in_ok-circuit.ensures,
      ap length c.in_ok-names.ensures,
      length-line_names c.args.inputs c.args.outputs c.args.work,
    )

pub hold_zeros-requires-clause-fresh : goal.hold_zeros-requires-clause-fresh
hold_zeros-requires-clause-fresh c =
    let n : length c.in_ok-names.names ≡ c.args.inputs + (c.args.outputs + c.args.work) =
    omega (arith, ap length c.in_ok-names.ensures, length-line_names c.args.inputs c.args.outputs c.args.work) in
    ap (λ (t : Cascade). t.constants) c.in_ok-circuit.ensures ∙ ap (λ k. replicate k Input) n

pub drop_last-requires-clause-lines : goal.drop_last-requires-clause-lines
drop_last-requires-clause-lines c =
    omega (
      arith,
      ap (λ (t : Cascade). length t.names) c.hold_zeros.ensures,
      ap (λ (t : Cascade). length t.names) c.in_ok-circuit.ensures,
      ap length c.in_ok-names.ensures,
      length-line_names c.args.inputs c.args.outputs c.args.work,
    )

pub drop_last-requires-clause-fresh : goal.drop_last-requires-clause-fresh
drop_last-requires-clause-fresh c =
    let n : length c.in_ok-names.names ≡ c.args.inputs + c.args.outputs + c.args.work =
    omega (arith, ap length c.in_ok-names.ensures, length-line_names c.args.inputs c.args.outputs c.args.work) in
    ap (λ (t : Cascade). t.garbage) c.hold_zeros.ensures ∙ ap (λ (t : Cascade). t.garbage) c.in_ok-circuit.ensures
    ∙ ap (λ k. replicate k false) n

pub drop_inputs-requires-clause-lines : goal.drop_inputs-requires-clause-lines
drop_inputs-requires-clause-lines c =
    omega (
      arith,
      ap (λ (t : Cascade). length t.names) c.drop_last.ensures,
      ap (λ (t : Cascade). length t.names) c.hold_zeros.ensures,
      ap (λ (t : Cascade). length t.names) c.in_ok-circuit.ensures,
      ap length c.in_ok-names.ensures,
      length-line_names c.args.inputs c.args.outputs c.args.work,
    )
