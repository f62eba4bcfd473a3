use Rattle.std.proofs.Common.{◌≤◌, length, ap, ◌∙◌, arith}
use Rattle.rv_pla.specs.declared.cube.Cube.{Cube}
use Rattle.rv_cube.specs.Distance.{differing}
use Rattle.rv_cube.specs.Reduction.{at}
use Rattle.rv_cube.proofs.inside.PartnerSearches.{searched_end}
use Rattle.rv_cube.proofs.exorlink.first_exorlink_in.Goals as goal

pub returns : goal.returns
returns c =
    let s = c.args.slots.now in
    let near = c.two_apart.new.found.items in
    let done : length c.two_apart.new.found.items ≤ c.loop-i.i = omega arith in
    searched_end s.inputs s.cubes c.args.a near c.loop-i.i c.loop-i.end c.loop-i.found c.loop-i.invariant done
    (λ b p q f e. c.in_ok-two_apart.ensures.lists b p q f (ap (λ (x : Cube). differing s.inputs x (at s.cubes b)) c.cube-cube.ensures.value ∙ e))
