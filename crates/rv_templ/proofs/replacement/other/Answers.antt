use Rattle.std.proofs.Common.{◌-◌, length, sym, ◌∙◌, arith, subst}
use Rattle.rv_gate.specs.Gate.{IsGate}
use Rattle.rv_templ.proofs.inside.TestSteps.{turned_target}
use Rattle.rv_templ.proofs.inside.ReplacementLemmas.{care_step, want_step, built, other_gate}
use Rattle.rv_templ.proofs.replacement.other.Goals as goal

pub bounds-to-target_of : goal.bounds-to-target_of
bounds-to-target_of c =
    let x = turned_target c.args.r (length c.args.template.now - 1 - c.args.i) c.args.template.now c.turned_gate-gate.result c.requires.window.template (let a = c.requires.place in omega arith) c.turned_gate-gate.ensures in
    omega (arith, x, c.target_of.ensures.value)

pub flip-requires : goal.flip-requires
flip-requires c =
    let some = c.requires.window.some in
    let care = care_step c.args.window.now c.args.template.now c.args.r c.args.to c.span-own.result c.renamed-taken.result c.controls.result c.difference-care.result c.index-window-0.result some
    c.span-own.ensures c.renamed-taken.ensures c.index-window-0.is c.controls.ensures c.difference-care.ensures in
    let want = want_step c.args.window.now c.args.template.now c.args.r c.args.to c.span-own.result c.renamed-taken.result c.wanted.result c.difference-want.result c.index-window-0-2.result some
    c.span-own.ensures c.renamed-taken.ensures c.index-window-0-2.is c.wanted.ensures c.difference-want.ensures in
    let b = built c.args.window.now c.args.template.now c.args.r c.args.i c.args.to c.difference-care.result c.difference-want.result c.renamed.result c.controls-2.result c.renamed-2.result c.wanted-2.result c.target_of.result
    c.turned_gate-gate.result c.requires.window.room c.requires.place care want c.turned_gate-gate.ensures c.controls-2.ensures c.renamed.ensures c.wanted-2.ensures c.renamed-2.ensures c.target_of.ensures.value in
    subst IsGate (sym b) (other_gate c.args.window.now c.args.template.now c.args.r c.args.i c.args.to c.requires.window c.requires.place)

pub returns : goal.returns
returns c =
    let some = c.requires.window.some in
    let care = care_step c.args.window.now c.args.template.now c.args.r c.args.to c.span-own.result c.renamed-taken.result c.controls.result c.difference-care.result c.index-window-0.result some
    c.span-own.ensures c.renamed-taken.ensures c.index-window-0.is c.controls.ensures c.difference-care.ensures in
    let want = want_step c.args.window.now c.args.template.now c.args.r c.args.to c.span-own.result c.renamed-taken.result c.wanted.result c.difference-want.result c.index-window-0-2.result some
    c.span-own.ensures c.renamed-taken.ensures c.index-window-0-2.is c.wanted.ensures c.difference-want.ensures in
    let b = built c.args.window.now c.args.template.now c.args.r c.args.i c.args.to c.difference-care.result c.difference-want.result c.renamed.result c.controls-2.result c.renamed-2.result c.wanted-2.result c.target_of.result
    c.turned_gate-gate.result c.requires.window.room c.requires.place care want c.turned_gate-gate.ensures c.controls-2.ensures c.renamed.ensures c.wanted-2.ensures c.renamed-2.ensures c.target_of.ensures.value in
    c.flip.ensures ∙ b
