use Rattle.std.proofs.Common.{◌≡◌, ◌≤◌, length}
use Rattle.rv_templ.specs.inside.Library.{templates_in}
use Rattle.rv_templ.specs.Choices.{at_most}
use Rattle.rv_templ.proofs.search.search.Given as goal

abbrev pub invariant-loop-count : goal.invariant-loop-count
invariant-loop-count l = record {
  rest : at_most l.gates (templates_in l.templates) l.count ≡ at_most l.gates (templates_in l.templates) (length l.gates);
  within : l.count ≤ length l.gates;
}

abbrev pub decreases-loop-count : goal.decreases-loop-count
decreases-loop-count l = l.count
