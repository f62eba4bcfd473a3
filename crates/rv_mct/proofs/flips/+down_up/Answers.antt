use Rattle.std.proofs.Common.{[], ◌∷◌, length, reverse, arith, ◌∙◌}
use Rattle.std.proofs.lemmas.List.{length-reverse}
use Rattle.rv_mct.specs.Blocks.{both, positive}
use Rattle.rv_mct.proofs.inside.Gates.{fits_both}
use Rattle.rv_mct.proofs.inside.Steps.{grown_as, grown_lines, grown_thrice, down_none, down_rung, down_rungs, rung_few}
use Rattle.rv_mct.proofs.flips.+down_up.Goals as goal

pub returns-in_default : goal.returns-in_default
returns-in_default t c =
    grown_as c.args.circuit.now c.push_both.new.circuit (both c.args.a c.args.b c.args.target ∷ []) _ c.in_ok-push_both.ensures
    (down_none c.args.a c.args.b (reverse c.args.more.now) (reverse c.args.helpers.now) c.args.target (length-reverse c.args.more.now ∙ c.in_default.ensures.cases))

pub both-outer-requires : goal.both-outer-requires
both-outer-requires t c =
    let i = c.in-Some in
    let j = c.in-Some-split_last in
    let step = down_rung _ c.args.a c.args.b i.c.now c.args.more.now i.rest.now j.helper.now c.args.helpers.now j.free.now c.args.target i.ensures.cases.0 j.ensures.cases.0 c.requires.divided in
    rw c.positive.ensures (rung_few (length c.args.circuit.now.names) i.c.now (positive j.helper.now) c.args.target c.requires.few step.0)

pub push-requires : goal.push-requires
push-requires t c =
    let i = c.in-Some in
    let j = c.in-Some-split_last in
    let step = down_rung _ c.args.a c.args.b i.c.now c.args.more.now i.rest.now j.helper.now c.args.helpers.now j.free.now c.args.target i.ensures.cases.0 j.ensures.cases.0 c.requires.divided in
    rw (c.both-outer.ensures, c.positive.ensures) (fits_both _ i.c.now (positive j.helper.now) c.args.target step.0)

pub down_up-requires : goal.down_up-requires
down_up-requires t c =
    let i = c.in-Some in
    let j = c.in-Some-split_last in
    let step = down_rung _ c.args.a c.args.b i.c.now c.args.more.now i.rest.now j.helper.now c.args.helpers.now j.free.now c.args.target i.ensures.cases.0 j.ensures.cases.0 c.requires.divided in
    let l = grown_lines c.args.circuit.now c.push.new.circuit _ c.in_ok-push.ensures in
    (omega (arith, c.decreases, i.ensures.cases.1), (omega (arith, c.requires.few), (omega (arith, c.requires.enough, i.ensures.cases.1, j.ensures.cases.1), rw l step.1)))

pub push-requires-2 : goal.push-requires-2
push-requires-2 t c =
    let i = c.in-Some in
    let j = c.in-Some-split_last in
    let step = down_rung _ c.args.a c.args.b i.c.now c.args.more.now i.rest.now j.helper.now c.args.helpers.now j.free.now c.args.target i.ensures.cases.0 j.ensures.cases.0 c.requires.divided in
    let before = grown_lines c.args.circuit.now c.push.new.circuit _ c.in_ok-push.ensures in
    let after = grown_lines c.push.new.circuit c.down_up.new.circuit _ c.in_ok-down_up.ensures in
    rw (c.both-outer.ensures, c.positive.ensures, after, before) (fits_both _ i.c.now (positive j.helper.now) c.args.target step.0)

pub returns : goal.returns
returns t c =
    let i = c.in-Some in
    let j = c.in-Some-split_last in
    grown_thrice c.args.circuit.now c.push.new.circuit c.down_up.new.circuit c.push-2.new.circuit _ _ _ _
    (rw c.both-outer.ensures at c.in_ok-push.ensures) c.in_ok-down_up.ensures (rw c.both-outer.ensures at c.in_ok-push-2.ensures)
    (down_rungs c.args.a c.args.b i.c.now c.positive.result c.args.more.now i.rest.now j.helper.now c.args.helpers.now j.free.now c.args.target c.positive.ensures i.ensures.cases.0 j.ensures.cases.0)
