use Rattle.std.proofs.Common.{arith}
use Rattle.rv_route.proofs.inside.Routes.{is_home}
use Rattle.rv_route.proofs.places.home.Goals as goal

pub returns : goal.returns
returns c = is_home 64 c.loop-line.places c.loop-line.invariant.len (λ k lt. c.loop-line.invariant.so_far k (omega arith))
