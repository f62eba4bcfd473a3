use Rattle.std.proofs.Common.{◌≡◌, ℕ, List, length, ap, subst, ◌∙◌, arith}
use Rattle.std.proofs.lemmas.List.{length-map}
use Rattle.rv_exorlink.specs.Lists.{IsSameBut}
use Rattle.rv_exorlink.proofs.Steps.{few_for}
use Rattle.rv_esop.specs.inside.Basis.{linked_cube}
use Rattle.rv_esop.proofs.inside.Added.{turned_list}
use Rattle.rv_esop.proofs.basis.turned.Goals as goal

pub returns : goal.returns
returns c =
    let cubes = c.args.cubes.now in
    let mid = c.in_ok-all.all.items in
    let new = c.shorten-2.new.cubes.items in
    let len : length mid ≡ length cubes =
    ap length c.in_ok-all.ensures ∙ length-map cubes (linked_cube c.args.from c.args.to) in
    let few = c.requires.few in
    let P : List ℕ → Type 0 = λ l. IsSameBut c.args.inputs l mid new in
    turned_list c.args.inputs c.args.outputs c.args.from c.args.to cubes mid new c.requires.to c.requires.apart
    c.in_ok-all.ensures
    (subst P c.none.ensures c.in_ok-shorten.ensures.same)
    (few_for c.args.goal (length mid) (length new) (omega arith) c.in_ok-shorten.ensures.better.few) c.requires.valid
