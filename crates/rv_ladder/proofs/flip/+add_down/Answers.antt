use Rattle.std.proofs.Common.{◌≡◌, ◌-◌, ◌++◌, suc, length, reverse, ap, arith, sym, refl, ◌∙◌}
use Rattle.std.proofs.lemmas.Bool.{eqb-true, eqb-false}
use Rattle.rv_mct.specs.inside.LadderLines.{no_control}
use Rattle.rv_ladder.proofs.Steps.{down_last, down_none, then}
use Rattle.rv_ladder.proofs.flip.+add_down.Goals as goal

pub returns-then-is_empty : goal.returns-then-is_empty
returns-then-is_empty t c =
    c.in_ok-add_first.ensures
    ∙ ap (λ l. c.args.ops.now.items ++ l) (down_none c.args.a c.args.b c.args.more.now (reverse c.args.helpers.now) c.args.t (eqb-true _ _ (sym c.is_empty.ensures ∙ c.if-is_empty.true)))

pub returns : goal.returns
returns t c =
    let ne = eqb-false _ _ (sym c.is_empty.ensures ∙ c.if-is_empty.false) in
    let k = length c.args.more.now - 1 in
    let em : suc k ≡ length c.args.more.now = omega arith in
    let eh : suc k ≡ length c.args.helpers.now = omega (arith, c.requires.enough) in
    then _ _ _ _ _ _ c.in_ok-open_rung.ensures
    (then _ _ _ _ _ _ c.in_ok-add_down.ensures c.in_ok-close_rung.ensures refl)
    (down_last c.args.a c.args.b c.args.more.now c.args.helpers.now c.args.t k no_control em eh)
