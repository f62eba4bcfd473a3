use Rattle.std.proofs.Common.{◌≡◌, ◌≤◌, Bool, List, length, take}
use Rattle.rv_sums.specs.inside.State.{Holds, word_at}
use Rattle.rv_sums.proofs.same.are_told.Given as goal

abbrev pub invariant-loop-line : goal.invariant-loop-line
invariant-loop-line l =
    (x v : List Bool) → length l.sums ≤ length x → Holds l.facts x → word_at (take l.line l.sums) x v ≡ take l.line x
