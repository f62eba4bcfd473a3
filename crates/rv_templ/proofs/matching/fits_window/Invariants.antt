use Rattle.std.proofs.Common.{◌≡◌, true}
use Rattle.rv_templ.specs.Gates.{gate_in}
use Rattle.rv_gate.specs.Gate.{all_below}
use Rattle.rv_templ.specs.Images.{turned, image_of, same_gate}
use Rattle.rv_templ.proofs.matching.fits_window.Given as goal

abbrev pub invariant-loop-j : goal.invariant-loop-j
invariant-loop-j l = all_below (λ j. same_gate (gate_in l.window j) (image_of l.to l.care l.want (gate_in (turned l.r l.template) j))) l.j ≡ true
