use Rattle.std.proofs.Common.{◌≡◌, ◌-◌, ◌^◌, ◌≤◌, Bool, List, length, All}
use Rattle.rv_check.specs.inside.Dense.{NoneLargeIn, ShowsOverAt}
use Rattle.rv_check.specs.inside.Small.{AreSmall}
use Rattle.rv_check.proofs.dense.follow_on.Given as goal

abbrev pub decreases-loop-place : goal.decreases-loop-place
decreases-loop-place l = length l.ops - l.place

abbrev pub invariant-loop-place : goal.invariant-loop-place
invariant-loop-place l = record {
  from : l.start ≤ l.place;
  within : l.place ≤ length l.ops;
  len : length l.values ≡ 2 ^ l.lines;
  small : All (AreSmall (2 ^ l.scale.bits)) l.values;
  bits : l.scale.bits ≤ 61;
  exponent : l.scale.exponent ≤ l.place;
  shown :
      (x : List Bool) → length x ≡ l.lines → ShowsOverAt l.ops x l.start l.initial.values l.initial.scale.exponent
      → ShowsOverAt l.ops x l.place l.values l.scale.exponent × NoneLargeIn l.ops x l.start l.place;
}
