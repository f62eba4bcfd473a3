use Rattle.std.proofs.Common.{rules, ◌≡◌, ◌<◌, ℕ, [], ◌∷◌, length, get_or, ap, sym, subst, refl, ◌∙◌}
use Rattle.std.specs.Prelude.{Option, Some, None}
use Rattle.rv_blif.specs.declared.product.Product.{Product}
use Rattle.rv_compute.specs.inside.Held.{held_at, IsChange}
use Rattle.rv_compute.proofs.inside.Standing.{change_copy, finish, by_default, is_none}
use Rattle.rv_compute.proofs.step.copy.Goals as goal

pub returns : goal.returns
returns c =
    let logic = c.args.logic.now in
    let held = c.args.work.now.held.items in
    let all : Product = record { care = 1; want = 1 } in
    let there : c.args.line < length held = search rules in
    let empty : held_at held c.args.line ≡ None =
    sym (c.index.ensures ∙ ap (λ i. get_or held i c.index.result.now) c.from-2.ensures
    ∙ by_default held c.args.line c.index.result.now None there)
    ∙ is_none c.index.result.now (sym c.is_some.ensures ∙ c.if-is_some.false) in
    let P : Option ℕ → Type 0 =
    λ h. IsChange logic (c.args.signal ∷ []) (all ∷ []) h (Some c.args.signal) in
    finish logic c.args.extra held c.args.work.now.gates.items c.args.line (all ∷ []) (c.args.signal ∷ [])
    (Some c.args.signal) c.put_operands.result c.put_operands.new.work.held.items
    c.put_operands.new.work.gates.items c.requires.stands there
    (subst P (sym empty) (change_copy logic c.args.signal all refl refl)) c.put_operands.ensures
