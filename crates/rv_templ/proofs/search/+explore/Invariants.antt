use Rattle.std.proofs.Common.{◌≡◌, ◌-◌, ◌+◌, ◌++◌, ◌∷◌, [], take}
use Rattle.rv_gate.specs.declared.word.TheConstants.{MOST_LINES}
use Rattle.rv_gate.specs.FirstAnswer.{first}
use Rattle.rv_templ.specs.Folds.{least}
use Rattle.rv_templ.specs.Images.{allowed, turned}
use Rattle.rv_templ.proofs.search.+explore.Given as goal

abbrev pub decreases-explore : goal.decreases-explore
decreases-explore l = 6 - l.depth

abbrev pub invariant-loop-v : goal.invariant-loop-v
invariant-loop-v l =
    first (λ v. least (allowed l.window (turned l.r l.template)) (6 - (l.depth + 1)) (take l.depth l.to ++ (v ∷ []))) l.v (MOST_LINES - l.v)
    ≡ least (allowed l.window (turned l.r l.template)) (6 - l.depth) (take l.depth l.to)
