use Rattle.std.proofs.Common.{◌≡◌, ℕ, Bool, List, take}
use Rattle.rv_paths.specs.inside.Parity.{picked, value_from}
use Rattle.rv_paths.proofs.terms.weighty.Given as goal

abbrev pub invariant-loop-place : goal.invariant-loop-place
invariant-loop-place l = (from : ℕ) (v : List Bool) → value_from from (picked l.terms l.list.items) v ≡ value_from from (take l.place l.terms) v
