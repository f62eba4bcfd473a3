use Rattle.std.proofs.Common.{sym, ◌∙◌, arith}
use Rattle.rv_templ.specs.Images.{turned}
use Rattle.rv_templ.proofs.LoopSteps.{gate_read}
use Rattle.rv_templ.proofs.WindowLaws.{turned_template, length-turned}
use Rattle.rv_templ.proofs.inside.PruningLaws.{drop_alike}
use Rattle.rv_templ.proofs.inside.VariedLines.{drop_varied, more_ones}
use Rattle.rv_templ.proofs.search.may_match.Goals as goal

pub returns-then-not-fits : goal.returns-then-not-fits
returns-then-not-fits c off to =
    drop_alike c.args.window.now (turned c.args.r c.args.template.now) to c.loop-j.j c.index-window-j.result c.index-window-0.result c.turned_gate-gate.result c.turned_gate-own.result
    (turned_template c.args.r c.args.template.now c.requires.template) c.requires.some (let a = c.requires.room in omega (arith, length-turned c.args.r c.args.template.now)) c.loop-j-test.true
    (gate_read c.args.window.now c.loop-j.j c.index-window-j.result c.loop-j-test.true c.index-window-j.is)
    (gate_read c.args.window.now 0 c.index-window-0.result c.requires.some c.index-window-0.is)
    c.turned_gate-gate.ensures c.turned_gate-own.ensures (sym c.alike-fits.ensures ∙ c.if-not-fits.true)

pub returns : goal.returns
returns c off to =
    let len = length-turned c.args.r c.args.template.now in
    drop_varied c.args.window.now (turned c.args.r c.args.template.now) to (turned_template c.args.r c.args.template.now c.requires.template) c.requires.some
    (let a = c.requires.room in omega (arith, len))
    (more_ones c.args.vary c.varied_turned.result _ _ c.requires.vary c.varied_turned.ensures off)
