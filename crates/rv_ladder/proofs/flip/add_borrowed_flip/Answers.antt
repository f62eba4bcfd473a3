use Rattle.std.proofs.Common.{◌≡◌, ◌-◌, ◌++◌, suc, length, reverse, ap, arith, sym, ◌∙◌}
use Rattle.std.proofs.lemmas.Bool.{eqb-true, eqb-false}
use Rattle.rv_mct.specs.inside.LadderLines.{no_control}
use Rattle.rv_ladder.proofs.Steps.{five, flip_last, flip_none}
use Rattle.rv_ladder.proofs.flip.add_borrowed_flip.Goals as goal

pub returns-then-is_empty : goal.returns-then-is_empty
returns-then-is_empty c =
    c.in_ok-add_toffoli.ensures
    ∙ ap (λ l. c.args.ops.now.items ++ l) (flip_none c.args.a c.args.b c.args.more.now (reverse c.args.helpers.now) c.args.t (eqb-true _ _ (sym c.is_empty.ensures ∙ c.if-is_empty.true)))

pub returns : goal.returns
returns c =
    let ne = eqb-false _ _ (sym c.is_empty.ensures ∙ c.if-is_empty.false) in
    let k = length c.args.more.now - 1 in
    let em : suc k ≡ length c.args.more.now = omega arith in
    let eh : suc k ≡ length c.args.helpers.now = omega (arith, c.requires.enough) in
    five c.args.ops.now.items c.open_quarter.new.ops.items c.add_down.new.ops.items c.add_quarter_back.new.ops.items c.add_down-2.new.ops.items c.push.new.self.items _ _ _ _ _ _
    c.in_ok-open_quarter.ensures c.in_ok-add_down.ensures c.in_ok-add_quarter_back.ensures c.in_ok-add_down-2.ensures c.in_ok-push.ensures.items
    (flip_last c.args.a c.args.b c.args.more.now c.args.helpers.now c.args.t k no_control em eh)
