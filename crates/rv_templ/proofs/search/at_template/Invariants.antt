use Rattle.std.proofs.Common.{◌≡◌, ◌-◌, length}
use Rattle.rv_templ.specs.inside.Library.{templates_in}
use Rattle.rv_gate.specs.FirstAnswer.{first}
use Rattle.rv_templ.specs.Choices.{at_turn, at_template}
use Rattle.rv_templ.proofs.search.at_template.Given as goal

abbrev pub invariant-loop-r : goal.invariant-loop-r
invariant-loop-r l =
    first (at_turn l.window l.template l.t) l.r (length l.template - l.r) ≡ at_template l.window (templates_in l.templates) l.t
