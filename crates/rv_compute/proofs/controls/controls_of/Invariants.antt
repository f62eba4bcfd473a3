use Rattle.rv_compute.proofs.inside.Asking.{HaveAsked}
use Rattle.rv_compute.proofs.controls.controls_of.Given as goal

abbrev pub invariant-loop-i : goal.invariant-loop-i
invariant-loop-i l = HaveAsked l.lines l.places l.product l.i l.care l.want
