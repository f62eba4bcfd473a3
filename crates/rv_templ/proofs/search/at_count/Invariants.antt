use Rattle.std.proofs.Common.{◌≡◌, ◌-◌, length}
use Rattle.rv_templ.specs.inside.Library.{templates_in}
use Rattle.rv_gate.specs.FirstAnswer.{first}
use Rattle.rv_templ.specs.Choices.{at_template}
use Rattle.rv_templ.proofs.search.at_count.Given as goal

abbrev pub invariant-loop-t : goal.invariant-loop-t
invariant-loop-t l =
    first (at_template l.window (templates_in l.templates)) l.t (length (templates_in l.templates) - l.t)
    ≡ first (at_template l.window (templates_in l.templates)) 0 (length (templates_in l.templates))
