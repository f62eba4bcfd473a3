use Rattle.std.proofs.Common.{[], ◌∷◌, arith}
use Rattle.rv_mct.specs.Blocks.{both}
use Rattle.rv_mct.proofs.inside.Gates.{fits_both}
use Rattle.rv_mct.proofs.inside.Steps.{grown_as, grown_lines, grown_thrice, ladder_none, ladder_rung, ladder_rungs}
use Rattle.rv_mct.proofs.flips.+ladder.Goals as goal

pub returns-in_default : goal.returns-in_default
returns-in_default t c =
    grown_as c.args.circuit.now c.push_both.new.circuit (both c.args.a c.args.b c.args.target ∷ []) _ c.in_ok-push_both.ensures
    (ladder_none c.args.a c.args.b c.args.more.now _ c.args.target c.in_default.ensures.cases)

pub push-requires : goal.push-requires
push-requires t c =
    let i = c.in-Some in
    let step = ladder_rung _ c.args.a c.args.b i.c.now c.args.more.now i.rest.now c.args.helper c.args.target i.ensures.cases.0 c.requires.divided in
    rw c.both-first.ensures (fits_both _ c.args.a c.args.b c.args.helper step.0)

pub ladder-requires : goal.ladder-requires
ladder-requires t c =
    let i = c.in-Some in
    let step = ladder_rung _ c.args.a c.args.b i.c.now c.args.more.now i.rest.now c.args.helper c.args.target i.ensures.cases.0 c.requires.divided in
    let l = grown_lines c.args.circuit.now c.push.new.circuit _ c.in_ok-push.ensures in
    (omega (arith, c.decreases, i.ensures.cases.1), (omega (arith, c.requires.few), (omega (arith, c.requires.room, i.ensures.cases.1), rw (l, c.positive.ensures) step.1)))

pub push-requires-2 : goal.push-requires-2
push-requires-2 t c =
    let i = c.in-Some in
    let step = ladder_rung _ c.args.a c.args.b i.c.now c.args.more.now i.rest.now c.args.helper c.args.target i.ensures.cases.0 c.requires.divided in
    let l = grown_lines c.args.circuit.now c.push.new.circuit _ c.in_ok-push.ensures in
    let k = grown_lines c.push.new.circuit c.ladder.new.circuit _ c.in_ok-ladder.ensures in
    rw (c.both-first.ensures, k, l) (fits_both _ c.args.a c.args.b c.args.helper step.0)

pub returns : goal.returns
returns t c =
    let i = c.in-Some in
    grown_thrice c.args.circuit.now c.push.new.circuit c.ladder.new.circuit c.push-2.new.circuit (both c.args.a c.args.b c.args.helper ∷ []) _ (both c.args.a c.args.b c.args.helper ∷ []) _
    (rw c.both-first.ensures at c.in_ok-push.ensures) c.in_ok-ladder.ensures (rw c.both-first.ensures at c.in_ok-push-2.ensures)
    (ladder_rungs c.args.a c.args.b i.c.now c.positive.result c.args.more.now i.rest.now c.args.helper c.args.target c.positive.ensures i.ensures.cases.0)
