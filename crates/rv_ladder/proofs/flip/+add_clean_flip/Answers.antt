use Rattle.std.proofs.Common.{◌≤◌, ◌++◌, length, ap, arith, sym, refl, ◌∙◌}
use Rattle.std.proofs.lemmas.Bool.{eqb-true, eqb-false}
use Rattle.rv_mct.specs.inside.LadderLines.{no_control}
use Rattle.rv_ladder.proofs.Steps.{clean_none, clean_part, then}
use Rattle.rv_ladder.proofs.flip.+add_clean_flip.Goals as goal

pub returns-then-is_empty : goal.returns-then-is_empty
returns-then-is_empty t c =
    c.in_ok-add_toffoli.ensures
    ∙ ap (λ l. c.args.ops.now.items ++ l) (clean_none c.args.a c.args.b c.args.more.now c.args.helper c.args.t (eqb-true _ _ (sym c.is_empty.ensures ∙ c.if-is_empty.true)))

pub returns : goal.returns
returns t c =
    let ne = eqb-false _ _ (sym c.is_empty.ensures ∙ c.if-is_empty.false) in
    let some : 1 ≤ length c.args.more.now = omega arith in
    then c.args.ops.now.items c.add_first.new.ops.items c.add_first-2.new.ops.items _ _ _ c.in_ok-add_first.ensures
    (then c.add_first.new.ops.items c.add_clean_flip.new.ops.items c.add_first-2.new.ops.items _ _ _ c.in_ok-add_clean_flip.ensures c.in_ok-add_first-2.ensures refl)
    (clean_part c.args.a c.args.b c.args.more.now c.args.helper c.args.t no_control some)
