use Rattle.std.proofs.Common.{reverse, ◌∙◌}
use Rattle.std.proofs.lemmas.List.{length-reverse}
use Rattle.rv_mct.proofs.inside.Steps.{grown_as, grown_lines, grown_twice, down_rung, twice_rungs, twice_none}
use Rattle.rv_mct.proofs.flips.down_up_twice.Goals as goal

pub returns-in_default : goal.returns-in_default
returns-in_default c =
    grown_as c.args.circuit.now c.down_up.new.circuit _ _ c.in_ok-down_up.ensures
    (twice_none c.args.a c.args.b (reverse c.args.more.now) (reverse c.args.helpers.now) c.args.target (length-reverse c.args.more.now ∙ c.in_default.ensures.cases))

pub down_up-requires-2-clause-divided : goal.down_up-requires-2-clause-divided
down_up-requires-2-clause-divided c =
    let i = c.in-Some in
    let j = c.in-Some-split_last in
    rw (grown_lines c.args.circuit.now c.down_up.new.circuit _ c.in_ok-down_up.ensures)
    (down_rung _ c.args.a c.args.b i.field-0-0.now c.args.more.now i.rest.now j.helper.now c.args.helpers.now j.others.now c.args.target i.ensures.cases.0 j.ensures.cases.0 c.requires.divided).1

pub returns : goal.returns
returns c =
    let i = c.in-Some in
    let j = c.in-Some-split_last in
    grown_twice c.args.circuit.now c.down_up.new.circuit c.down_up-2.new.circuit _ _ _ c.in_ok-down_up.ensures c.in_ok-down_up-2.ensures
    (twice_rungs c.args.a c.args.b i.field-0-0.now c.args.more.now i.rest.now j.helper.now c.args.helpers.now j.others.now c.args.target i.ensures.cases.0 j.ensures.cases.0)
