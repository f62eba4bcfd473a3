use Rattle.std.proofs.Common.{◌≡◌, ◌≤◌, ◌*◌}
use Rattle.rv_templ.specs.inside.Sums.{sum_below}
use Rattle.rv_templ.specs.Images.{turned, others}
use Rattle.rv_templ.proofs.inside.Incidences.{size_at}
use Rattle.rv_templ.proofs.matching.other_sum.Given as goal

abbrev pub invariant-loop-j : goal.invariant-loop-j
invariant-loop-j l = record {
  value : l.sum ≡ sum_below (size_at (others l.count (turned l.r l.template) l.to l.care l.want)) l.j;
  small : l.sum ≤ 64 * l.j;
}
