use Rattle.std.proofs.Common.{◌≡◌, [], take, fold}
use Rattle.rv_check.specs.inside.Kept.{spread}
use Rattle.rv_check.specs.inside.Placed.{ArePlaced}
use Rattle.rv_check.proofs.mixing.mix.Given as goal

abbrev pub invariant-loop-member : goal.invariant-loop-member
invariant-loop-member l = record {
  items : l.next.items ≡ fold (spread l.line) [] (take l.member-index l.members);
  placed : ArePlaced l.places l.next.items;
}
