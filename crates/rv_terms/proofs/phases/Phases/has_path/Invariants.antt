use Rattle.std.proofs.Common.{◌≡◌, Bool, List, take, set}
use Rattle.rv_terms.specs.Phases.{total, total_kept}
use Rattle.rv_terms.proofs.phases.Phases.has_path.Given as goal

abbrev pub invariant-loop-term : goal.invariant-loop-term
invariant-loop-term l =
    (x v : List Bool) (bit : Bool)
    → total (take l.term-index l.term-items) x (set v l.path bit) ≡ total (take l.term-index l.term-items) x v

abbrev pub invariant-loop-kept : goal.invariant-loop-kept
invariant-loop-kept l =
    (x v : List Bool) (bit : Bool)
    → total_kept (take l.kept-index l.kept-items) x (set v l.path bit) ≡ total_kept (take l.kept-index l.kept-items) x v
