use Rattle.std.proofs.Common.{ℕ, List, map, ◌++◌, ◌∷◌, [], ap, ◌∙◌, sym, refl}
use Rattle.rv_route.specs.Placement.{home}
use Rattle.rv_route.specs.Moves.{neighbours, swapped}
use Rattle.rv_route.specs.Routed.{routed_from}
use Rattle.rv_route.specs.inside.Standing.{swaps_by}
use Rattle.rv_route.proofs.inside.Steps.{Stands-home, homeward, routed_next, pushed_gates}
use Rattle.rv_route.proofs.routing.routed_gates.Goals as goal

pub loop-gate-init : goal.loop-gate-init
loop-gate-init c =
    let start = Stands-home c.args.lines 64 c.requires.few_lines in
    record {
      row = home c.args.lines;
      so_far = ap (λ l. l ++ routed_from (home c.args.lines) c.args.gates.now) c.in_ok-made.ensures.items;
      stands = rw (c.home-table.ensures, c.from.ensures) start.1;
      len = rw (c.home-table.ensures, c.from.ensures) start.0;
    }

pub gate_on-requires-clause-table : goal.gate_on-requires-clause-table
gate_on-requires-clause-table c = let i = c.loop-gate.invariant in (swapped (swaps_by c.gather-moves.result.items) i.row, c.gather-moves.ensures.stands i.row i.stands)

pub loop-gate-preserved : goal.loop-gate-preserved
loop-gate-preserved c =
    let i = c.loop-gate.invariant in
    let g = c.gather-moves.ensures in
    let row : List ℕ = swapped (swaps_by c.gather-moves.result.items) i.row in
    let next = routed_next _ _ _ _ row _ c.loop-gate-test.true c.gate-item.is (g.moves i.row i.stands) refl in
    let first = c.in_ok-push_moves.ensures ∙ ap (λ l. c.loop-gate.made.items ++ map neighbours (swaps_by l)) c.deref.ensures.0 in
    record {
      row = row;
      so_far = pushed_gates _ _ _ _ _ _ _ _ first (c.in_ok-push.ensures.items ∙ ap (λ h. c.push_moves.new.gates.items ++ h ∷ []) (c.gate_on.ensures row (g.stands i.row i.stands))) next i.so_far;
      stands = g.stands i.row i.stands;
      len = c.gather-moves.auto.places ∙ i.len;
    }

pub returns : goal.returns
returns c =
    let i = c.loop-gate.invariant in
    c.in_ok-push_moves-2.ensures ∙ ap (λ l. c.loop-gate.made.items ++ map neighbours (swaps_by l)) c.deref-2.ensures.0
    ∙ ap (λ l. c.loop-gate.made.items ++ l) (sym (homeward i.row c.loop-gate.places _ c.args.gates.now c.loop-gate.gate-index i.stands c.loop-gate-test.false (c.go_home-moves.ensures.moves i.row i.stands)))
    ∙ i.so_far
