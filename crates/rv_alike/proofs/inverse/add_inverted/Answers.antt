use Rattle.std.proofs.Common.{◌≡◌, ℕ, suc, ◌+◌, ◌-◌, ◌<◌, ◌++◌, ◌∷◌, [], List, drop, length, sym, ap, ap₂, ◌∙◌, arith}
use Rattle.std.proofs.lemmas.List.{append_assoc, append-nil, drop_all}
use Rattle.rv_net.specs.declared.op.Op.{Op}
use Rattle.rv_alike.specs.inside.Inverted.{inverted}
use Rattle.rv_alike.proofs.Inverting.{inverted-next, inverted-none}
use Rattle.rv_alike.proofs.inverse.add_inverted.Goals as goal

pub loop-done-init : goal.loop-done-init
loop-done-init c =
    let others : List Op = c.args.others.now in
    sym (ap (λ l. c.args.ops.now.items ++ inverted l) (drop_all (length others - 0) others (omega arith))
    ∙ ap (λ l. c.args.ops.now.items ++ l) inverted-none ∙ append-nil c.args.ops.now.items)

pub loop-done-preserved : goal.loop-done-preserved
loop-done-preserved c =
    let others : List Op = c.args.others.now in
    let done : ℕ = c.loop-done.done in
    let within : done < length others = omega (arith, c.loop-done-test.true) in
    c.in_ok-push.ensures.items
    ∙ ap₂ (λ l o. l ++ o ∷ []) c.loop-done.invariant c.inverse.ensures
    ∙ append_assoc c.args.ops.now.items (inverted (drop (length others - done) others)) _
    ∙ ap (λ l. c.args.ops.now.items ++ l) (inverted-next others done _ within)
    ∙ ap (λ k. c.args.ops.now.items ++ inverted (drop (length others - k) others)) (let e : suc done ≡ done + 1 = omega arith in e)

pub returns : goal.returns
returns c =
    let others : List Op = c.args.others.now in
    c.loop-done.invariant
    ∙ ap (λ k. c.args.ops.now.items ++ inverted (drop k others)) (let e : length others - c.loop-done.done ≡ 0 = omega (arith, c.loop-done-test.false) in e)
