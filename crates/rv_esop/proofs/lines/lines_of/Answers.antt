use Rattle.std.proofs.Common.{◌≡◌, ◌+◌, length, false, replicate, ◌∙◌, ap, arith, length-append}
use Rattle.rv_gate.specs.Circuit.{Cascade}
use Rattle.rv_gate.specs.Names.{numbered}
use Rattle.rv_gate.specs.declared.circuit.Mark.TheVariants.{Input}
use Rattle.rv_gate.proofs.NameLemmas.{length-numbered}
use Rattle.rv_esop.proofs.lines.lines_of.Goals as goal

pub new-requires : goal.new-requires
new-requires c =
    omega (
      arith,
      ap length c.in_ok-names.ensures,
      length-append (numbered 120 c.args.inputs) (numbered 121 c.args.outputs),
      length-numbered 120 c.args.inputs,
      length-numbered 121 c.args.outputs,
    )

pub hold_zeros-requires-clause-lines : goal.hold_zeros-requires-clause-lines
hold_zeros-requires-clause-lines c =
    omega (
      arith,
      ap (λ (t : Cascade). length t.names) c.in_ok-circuit.ensures,
      ap length c.in_ok-names.ensures,
      length-append (numbered 120 c.args.inputs) (numbered 121 c.args.outputs),
      length-numbered 120 c.args.inputs,
      length-numbered 121 c.args.outputs,
    )

pub hold_zeros-requires-clause-fresh : goal.hold_zeros-requires-clause-fresh
hold_zeros-requires-clause-fresh c =
    let n : length c.in_ok-names.names ≡ c.args.inputs + c.args.outputs =
    omega (
      arith,
      ap length c.in_ok-names.ensures,
      length-append (numbered 120 c.args.inputs) (numbered 121 c.args.outputs),
      length-numbered 120 c.args.inputs,
      length-numbered 121 c.args.outputs,
    ) in
    ap (λ (t : Cascade). t.constants) c.in_ok-circuit.ensures ∙ ap (λ k. replicate k Input) n

pub drop_inputs-requires-clause-lines : goal.drop_inputs-requires-clause-lines
drop_inputs-requires-clause-lines c =
    omega (
      arith,
      ap (λ (t : Cascade). length t.names) c.hold_zeros.ensures,
      ap (λ (t : Cascade). length t.names) c.in_ok-circuit.ensures,
      ap length c.in_ok-names.ensures,
      length-append (numbered 120 c.args.inputs) (numbered 121 c.args.outputs),
      length-numbered 120 c.args.inputs,
      length-numbered 121 c.args.outputs,
    )

pub drop_inputs-requires-clause-fresh : goal.drop_inputs-requires-clause-fresh
drop_inputs-requires-clause-fresh c =
    let n : length c.in_ok-names.names ≡ c.args.inputs + c.args.outputs =
    omega (
      arith,
      ap length c.in_ok-names.ensures,
      length-append (numbered 120 c.args.inputs) (numbered 121 c.args.outputs),
      length-numbered 120 c.args.inputs,
      length-numbered 121 c.args.outputs,
    ) in
    ap (λ (t : Cascade). t.garbage) c.hold_zeros.ensures ∙ ap (λ (t : Cascade). t.garbage) c.in_ok-circuit.ensures
    ∙ ap (λ k. replicate k false) n
