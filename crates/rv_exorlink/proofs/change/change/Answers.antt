use Rattle.std.proofs.Common.{◌<◌, ℕ, length, subst}
use Rattle.std.proofs.lemmas.Result.{on_ok_weaker}
use Rattle.rv_pla.specs.Cube.{IsCube}
use Rattle.rv_pla.specs.declared.cube.Cube.{Cube}
use Rattle.rv_exorlink.specs.Sums.{IsSum}
use Rattle.rv_exorlink.proofs.Steps.{changed, read_same}
use Rattle.rv_exorlink.proofs.change.change.Goals as goal

pub returns : goal.returns
returns c =
    let n = c.args.inputs in
    let old = c.args.cubes.now.items in
    let i = c.args.slot in
    let within : i < length old = c.requires.within in
    let x = c.swap_remove-cube.result in
    let gone = c.difference-gone.result in
    let sum = c.in-Some.sum in
    let one = read_same old i x c.index.result.now within c.swap_remove-cube.ensures.value c.index.ensures in
    let two = read_same old i x c.index-2.result.now within c.swap_remove-cube.ensures.value c.index-2.ensures in
    let P : Cube → Type 0 = λ z. IsSum n z gone sum in
    let Q : Cube → Type 0 = λ z. (outputs : ℕ) → IsCube n outputs z → IsCube n outputs gone in
    on_ok_weaker c.add.result
    (changed n c.args.free.now old i x gone sum c.swap_remove-cube.new.self.items c.add.new.cubes.items
    (record { within = within; read = c.swap_remove-cube.ensures.value; is = c.swap_remove-cube.ensures.items })
    (subst Q one c.difference-gone.ensures) (subst P two c.in-Some.ensures) (c.has.ensures c.if-not-has.false))
    c.add.ensures
