use Rattle.std.proofs.Common.{ℕ, ◌+◌, ◌-◌, min, List, ap, sym, ◌∙◌, arith, subst}
use Rattle.std.specs.Prelude.{Option, Some}
use Rattle.rv_gate.specs.declared.gate.Shape.{Shape}
use Rattle.rv_links.specs.Nodes.{gates_in}
use Rattle.rv_templ.specs.inside.Notes.{IsKnown}
use Rattle.rv_templ.proofs.inside.LinkedPairs.{coupled_gates, coupled_on}
use Rattle.rv_templ.proofs.inside.Stepping.{known_pair}
use Rattle.rv_templ.proofs.simplify.step_pair.Goals as goal

pub returns-clause-step : goal.returns-clause-step
returns-clause-step c =
    let made = coupled_on c.forget_pair-due.new.linked.nodes c.args.linked.now.nodes c.make_pair.new.linked.nodes c.args.pair.now.a c.args.pair.now.b c.forget_pair-due.ensures.nodes c.make_pair.ensures.nodes in
    let s = c.requires.spot in
    s.step ∙ ap (λ (l : List Shape). let o : Option (List Shape) = Some l in o) (sym (ap gates_in (made s.mate) ∙ coupled_gates c.args.linked.now.nodes c.args.pair.now.a c.args.pair.now.b s.mate))

pub returns-clause-known : goal.returns-clause-known
returns-clause-known c library short clean =
    let made = coupled_on c.forget_pair-due.new.linked.nodes c.args.linked.now.nodes c.make_pair.new.linked.nodes c.args.pair.now.a c.args.pair.now.b c.forget_pair-due.ensures.nodes c.make_pair.ensures.nodes in
    let s = c.requires.spot in
    subst (λ (notes : List ℕ). IsKnown library c.make_pair.new.linked.nodes notes c.still_clean-clean.result c.forget_pair-due.result c.args.far) (sym c.make_pair.ensures.notes)
    (known_pair library c.args.linked.now.nodes c.make_pair.new.linked.nodes c.forget_pair-due.new.linked.notes c.args.pair.now.place c.args.pair.now.a c.args.pair.now.b c.args.most c.args.far c.args.clean c.still_clean-clean.result c.forget_pair-due.result
    s short clean (made s.mate)
    (c.still_clean-clean.ensures.place ∙ ap (λ n. min c.args.clean.place (min n (n + 1 - c.args.most))) c.cursor_at-here.ensures.place) c.still_clean-clean.ensures.cursor
    (omega (arith, c.forget_pair-due.ensures.most, c.cursor_at-here.ensures.place)) c.forget_pair-due.ensures.cursor c.forget_pair-due.ensures.known (c.forget_pair-due.ensures.right s))
