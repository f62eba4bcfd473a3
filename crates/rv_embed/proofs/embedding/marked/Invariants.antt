use Rattle.std.proofs.Common.{◌≡◌, ◌-◌, true, false}
use Rattle.rv_gate.specs.declared.circuit.Mark.TheVariants.{Input, Zero}
use Rattle.rv_embed.proofs.TableLemmas.{in_turn}
use Rattle.rv_embed.proofs.embedding.marked.Given as goal

abbrev pub invariant-loop-line : goal.invariant-loop-line
invariant-loop-line l = record {
  table : l.spec.table ≡ l.initial.spec.table;
  constants : l.spec.constants ≡ in_turn l.inputs (l.line - l.inputs) (l.lines - l.line) Input Zero Input;
  garbage : l.spec.garbage ≡ l.initial.spec.garbage;
}

abbrev pub invariant-loop-line-2 : goal.invariant-loop-line-2
invariant-loop-line-2 l = record {
  table : l.spec.table ≡ l.initial.spec.table;
  constants : l.spec.constants ≡ l.initial.spec.constants;
  garbage : l.spec.garbage ≡ in_turn l.outs (l.line - l.outs) (l.lines - l.line) false true false;
}
