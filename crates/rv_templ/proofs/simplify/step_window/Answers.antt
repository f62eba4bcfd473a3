use Rattle.std.proofs.Common.{ℕ, ◌++◌, List, take, drop, ap, sym, ◌∙◌, arith, subst}
use Rattle.std.specs.Prelude.{Option, Some}
use Rattle.rv_gate.specs.declared.gate.Shape.{Shape}
use Rattle.rv_links.specs.Nodes.{Node, gates_in}
use Rattle.rv_templ.specs.Choices.{after}
use Rattle.rv_templ.specs.inside.Library.{templates_in}
use Rattle.rv_templ.specs.inside.Notes.{Noted, NoneNoted, IsKnown}
use Rattle.rv_templ.proofs.inside.NoteLaws.{fewer_noted, known_first}
use Rattle.rv_templ.proofs.inside.Stepping.{known_window}
use Rattle.rv_templ.proofs.inside.WindowSteps.{window_step_at}
use Rattle.rv_templ.proofs.simplify.step_window.Goals as goal

pub returns-clause-step : goal.returns-clause-step
returns-clause-step c =
    let spot = c.requires.spot in
    window_step_at (templates_in c.args.templates.now) (gates_in c.args.linked.now.nodes) c.args.spot.place c.args.spot.found spot.clean spot.within spot.exact
    ∙ ap (λ (l : List Shape). let o : Option (List Shape) = Some l in o)
    (sym (c.replace.ensures.gates ∙ ap (λ l. take c.args.spot.place (gates_in l) ++ after (drop c.args.spot.place (gates_in l)) (templates_in c.args.templates.now) c.args.spot.found) c.forget.ensures.nodes))

pub returns-clause-known : goal.returns-clause-known
returns-clause-known c =
    let library : List (List Shape) = templates_in c.args.templates.now in
    let nodes : List Node = c.args.linked.now.nodes in
    let new : List Node = c.replace.new.linked.nodes in
    let notes : List ℕ = c.forget.new.linked.notes in
    let place = c.args.spot.place in
    let found = c.args.spot.found in
    subst (λ (l : List ℕ). IsKnown library new l c.back-clean.result c.back-due.result c.args.far) (sym c.replace.ensures.notes)
    (known_window library nodes new notes place c.args.spot.node c.args.most c.args.far c.back-clean.result c.back-due.result found c.requires.short c.requires.spot (c.replace.ensures.front ∙ ap (take place) c.forget.ensures.nodes)
    (omega (arith, c.back-clean.ensures.place, c.saturating_sub.ensures, c.cursor_at-here.ensures.place)) c.back-clean.ensures.cursor
    (omega (arith, c.back-due.ensures.place, c.saturating_sub-2.ensures, c.cursor_at-here.ensures.place)) c.back-due.ensures.cursor
    (c.forget.ensures.before (known_first c.args.linked.now.notes c.back-due.result.place nodes c.requires.known)) c.forget.ensures.here
    (fewer_noted c.args.linked.now.notes notes nodes c.args.far c.forget.ensures.fewer c.requires.right)
    (subst (λ (l : List Node). NoneNoted notes (take found.count (drop place l)) → Noted notes (drop place l) c.args.far → Noted notes (drop place new) c.args.far) c.forget.ensures.nodes (c.replace.ensures.right c.args.far)))
