use Rattle.std.proofs.Common.{◌-◌, ◌≤◌, min}
use Rattle.rv_templ.specs.inside.Linking.{IsCursor}
use Rattle.rv_templ.proofs.along.back.Given as goal

abbrev pub invariant-loop-at : goal.invariant-loop-at
invariant-loop-at l = record {
  most : l.at ≤ l.fn.cursor.place;
  least : min l.fn.cursor.place l.place ≤ l.at;
  cursor : IsCursor l.linked.nodes l.at l.before;
}

abbrev pub decreases-loop-at : goal.decreases-loop-at
decreases-loop-at l = l.at - l.place
