use Rattle.std.proofs.Common.{◌≡◌, ◌-◌, ℕ, List, get_or, ap, sym, subst, ◌∙◌, arith}
use Rattle.std.specs.Prelude.{All}
use Rattle.std.proofs.lemmas.List.Elements.{All-get_or}
use Rattle.rv_pla.specs.Cube.{Dash, symbol}
use Rattle.rv_pla.specs.declared.cube.Cube.{Cube}
use Rattle.rv_cube.specs.Dashes.{IsDashed}
use Rattle.rv_cube.specs.Esop.{Esop, IsTerm}
use Rattle.rv_cube.specs.ReedMuller.{reed_muller}
use Rattle.rv_cube.specs.Reduction.{no_cube, reduced}
use Rattle.rv_dbs.proofs.inside.Free.{reed_muller_dashed}
use Rattle.rv_dbs.proofs.Loops.{term_gate}
use Rattle.rv_dbs.proofs.flips.push_flips.Goals as goal

abbrev esop : ℕ → List Cube → Esop
esop n cubes = record { inputs = n; outputs = 1; cubes = cubes }

pub flip_of-requires : goal.flip_of-requires
flip_of-requires c =
    let n : ℕ = c.args.lines in
    let k : ℕ = c.args.k in
    let cubes : List Cube = c.cubes-cube-items.result.now in
    let old : c.in_ok-list.list ≡ esop c.args.lines (reed_muller c.args.lines c.args.values.now) = c.in_ok-list.ensures.list in
    let new : c.reduce.new.self ≡ esop c.args.lines (reduced c.args.lines (reed_muller c.args.lines c.args.values.now)) =
    c.in_ok-reduce.ensures.ok ∙ ap (λ (t : Esop). let r : Esop = record t { cubes = reduced t.inputs t.cubes } in r) old in
    let D : Esop → Type 0 = λ t. IsDashed (c.args.lines - 1 - c.args.k) t.cubes in
    let T : Esop → Type 0 = λ t. All (IsTerm t.inputs t.outputs) t.cubes in
    let L : List Cube → Type 0 = IsDashed (c.args.lines - 1 - c.args.k) in
    let M : List Cube → Type 0 = All (IsTerm c.args.lines 1) in
    let items : c.cubes-cube-items.result.now ≡ reduced c.args.lines (reed_muller c.args.lines c.args.values.now) = c.cubes-cube-items.ensures.value ∙ ap (λ (t : Esop). t.cubes) new in
    let dashed : L c.reduce.new.self.cubes =
    c.in_ok-reduce.ensures.dashes (c.args.lines - 1 - c.args.k)
    (subst D (sym old) (reed_muller_dashed c.args.lines c.args.k c.args.values.now c.requires.line c.requires.full c.requires.free)) in
    let terms : M (reduced c.args.lines (reed_muller c.args.lines c.args.values.now)) = subst T new c.cubes-cube-items.ensures.valid in
    let few = c.requires.few in
    term_gate c.args.lines c.args.k (get_or c.cubes-cube-items.result.now c.loop-cube.cube-index no_cube) (omega arith) c.requires.line
    (All-get_or (IsTerm c.args.lines 1) c.cubes-cube-items.result.now c.loop-cube.cube-index no_cube c.loop-cube-test.true (subst M (sym items) terms))
    (All-get_or (λ x. symbol x (c.args.lines - 1 - c.args.k) ≡ Dash) c.cubes-cube-items.result.now c.loop-cube.cube-index no_cube c.loop-cube-test.true (subst L (sym c.cubes-cube-items.ensures.value) dashed))
