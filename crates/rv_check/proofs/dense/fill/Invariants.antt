use Rattle.std.proofs.Common.{◌≡◌, ◌^◌, All, length, take}
use Rattle.rv_check.specs.inside.Small.{AreSmall}
use Rattle.rv_check.proofs.inside.Collected.{Taken}
use Rattle.rv_check.specs.inside.Stands.{Apart}
use Rattle.rv_check.proofs.dense.fill.Given as goal

abbrev pub invariant-loop-member : goal.invariant-loop-member
invariant-loop-member l = record {
  len : length l.values ≡ 2 ^ l.lines;
  small : All (AreSmall (2 ^ 55)) l.values;
  taken : Apart l.members → Taken l.lines l.values (take l.member-index l.members);
}
