use Rattle.std.proofs.Common.{◌≡◌, map, get_or}
use Rattle.std.specs.List.{range_with_len}
use Rattle.rv_dbs.specs.Walk.{left, right}
use Rattle.rv_dbs.specs.Singles.{turned}
use Rattle.rv_dbs.proofs.singles.images_between.Given as goal

abbrev pub invariant-loop-x : goal.invariant-loop-x
invariant-loop-x l =
    l.images.items
    ≡ map (λ x. turned l.k (right l.perm.lines l.k l.perm.images) (get_or l.perm.images (turned l.k (left l.perm.lines l.k l.perm.images) x) 0)) (range_with_len 0 l.x)
