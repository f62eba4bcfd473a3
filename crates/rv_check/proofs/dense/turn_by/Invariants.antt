use Rattle.std.proofs.Common.{◌-◌, length}
use Rattle.rv_net.specs.Cyclotomic.{times_w_power}
use Rattle.rv_check.proofs.inside.Masks.{Masked}
use Rattle.rv_check.proofs.dense.turn_by.Given as goal

abbrev pub decreases-loop-place : goal.decreases-loop-place
decreases-loop-place l = length l.values - l.place

abbrev pub invariant-loop-place : goal.invariant-loop-place
invariant-loop-place l = Masked l.mask (times_w_power l.power) l.initial.values l.values l.place
