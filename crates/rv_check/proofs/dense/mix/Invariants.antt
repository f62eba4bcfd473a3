use Rattle.std.proofs.Common.{◌≡◌, ◌-◌, ◌^◌, length}
use Rattle.rv_check.proofs.inside.Masks.{Covers}
use Rattle.rv_check.proofs.inside.Pairs.{Mixing}
use Rattle.rv_check.proofs.dense.mix.Given as goal

abbrev pub decreases-loop-place : goal.decreases-loop-place
decreases-loop-place l = length l.values - l.place

abbrev pub invariant-loop-place : goal.invariant-loop-place
invariant-loop-place l = record {
  here : Covers l.bit l.place;
  len : length l.values ≡ 2 ^ l.lines;
  mixing : Mixing l.lines l.line l.initial.values l.values l.place;
}
