use Rattle.std.proofs.Common.{ℕ, List, subst, sym, arith, refl}
use Rattle.std.proofs.lemmas.List.{take_all}
use Rattle.rv_route.specs.Moves.{swapped}
use Rattle.rv_route.specs.inside.Standing.{Stands, AreMoves, swaps_by}
use Rattle.rv_route.proofs.inside.Moving.{Stands-first, Stands-next, place_of}
use Rattle.rv_route.proofs.gathering.follow.Goals as goal

pub loop-a-init : goal.loop-a-init
loop-a-init c = λ row s. Stands-first _ row _ refl s

pub shift-requires : goal.shift-requires
shift-requires c = λ line lt. (let place = place_of _ _ line (c.loop-a.invariant c.requires.table.0 c.requires.table.1) lt in let few = c.requires.few in let same = c.loop-a.auto.places in omega arith)

pub loop-a-preserved : goal.loop-a-preserved
loop-a-preserved c =
    let P : ℕ → Type 0 = λ n. AreMoves n c.args.moves.now in
    let within = subst P (sym c.loop-a.auto.places) c.requires.within in
    λ row s. Stands-next c.args.moves.now c.loop-a.a-index (record { from = 0; to = 0 }) row _ _ c.loop-a-test.true within c.shift.auto.places c.shift.ensures (c.loop-a.invariant row s)

pub returns : goal.returns
returns c = λ row s.
    (let P : List _ → Type 0 = λ l. Stands (swapped (swaps_by l) row) c.loop-a.places in
    subst P (take_all c.loop-a.a-index c.args.moves.now c.loop-a-test.false) (c.loop-a.invariant row s))
