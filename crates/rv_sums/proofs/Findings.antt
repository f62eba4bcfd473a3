-- What is undecided is found, and what is found is right.
use Rattle.std.proofs.Common.{refl}
use Rattle.std.specs.Prelude.{Bool, List, [], Result, Ok, Err, IfOk}
use Rattle.rv_gate.specs.Circuit.{Cascade}
use Rattle.rv_gate.specs.Gate.{run}
use Rattle.rv_gate.specs.declared.circuit.Mark.{Mark}
use Rattle.rv_net.specs.Denotes.{Denotes}
use Rattle.rv_net.specs.Op.{Network}
use Rattle.rv_sums.specs.Finding.{DenotesFrom, HasConstants, IsRight, IsRightFrom, IsUndecided}
use Rattle.rv_sums.specs.declared.finding.Finding.{Finding}
use Rattle.rv_sums.specs.declared.finding.Finding.TheVariants.{Same, Differs, Terms, Steps, Paths}
use Rattle.rv_sums.specs.inside.State.{IsFound}

pub undecided_found : (marks : List Mark) (c : Cascade) (net : Network) (f : Finding) → IsUndecided f → IsFound marks c net f
undecided_found marks c net Same h = absurd h
undecided_found marks c net (Differs number) h = absurd h
undecided_found marks c net Terms h = tt
undecided_found marks c net Steps h = tt
undecided_found marks c net (Paths left) h = tt

pub undecided_result : {E : Type 0} → (marks : List Mark) (c : Cascade) (net : Network) (r : Result Finding E) → IfOk r IsUndecided
    → IfOk r (IsFound marks c net)
undecided_result marks c net (Ok f) h = undecided_found marks c net f h
undecided_result marks c net (Err e) h = tt

-- without marks every word begins so
all_denote : (c : Cascade) (net : Network) → DenotesFrom [] net.lines net.ops (run c.gates) → Denotes net.lines net.ops (run c.gates)
unfolding Denotes
all_denote c net is x y lx ly = is x y lx ly (λ line. refl)

pub found_right : (c : Cascade) (net : Network) (f : Finding) → IsFound [] c net f → IsRight c net f
found_right c net Same h = all_denote c net h
found_right c net (Differs number) h = (h.0, h.2)
found_right c net Terms h = tt
found_right c net Steps h = tt
found_right c net (Paths left) h = tt

pub found_from : (c : Cascade) (net : Network) (f : Finding) → IsFound c.constants c net f → IsRightFrom c net f
found_from c net Same h = h
found_from c net (Differs number) h = h
found_from c net Terms h = tt
found_from c net Steps h = tt
found_from c net (Paths left) h = tt

-- of fewer words
pub weaker_denotes : (marks held : List Mark) (c : Cascade) (net : Network) → ((word : List Bool) → HasConstants marks word → HasConstants held word)
    → DenotesFrom held net.lines net.ops (run c.gates) → DenotesFrom marks net.lines net.ops (run c.gates)
weaker_denotes marks held c net weaker is x y lx ly m = is x y lx ly (weaker x m)

pub all_from : (marks : List Mark) (c : Cascade) (net : Network) → DenotesFrom [] net.lines net.ops (run c.gates)
    → DenotesFrom marks net.lines net.ops (run c.gates)
all_from marks c net is = weaker_denotes marks [] c net (λ word h line. refl) is
