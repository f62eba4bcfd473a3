use Rattle.std.proofs.Common.{ℕ, ◌+◌, ◌*◌, ◌^◌, ◌<◌, ◌≤◌, List, length, drop, ap, ◌∙◌, arith, refl}
use Rattle.std.proofs.lemmas.List.{length-map}
use Rattle.rv_route.specs.Placement.{home, gate_on}
use Rattle.rv_route.specs.Moves.{neighbours, swapped}
use Rattle.rv_route.specs.Routed.{routed_from}
use Rattle.rv_route.specs.inside.Standing.{swaps_by}
use Rattle.rv_route.proofs.inside.Steps.{Stands-home, homeward, routed_next, length_routed}
use Rattle.rv_route.proofs.routing.gate_count.Goals as goal

pub loop-gate-init : goal.loop-gate-init
loop-gate-init c =
    let start = Stands-home c.args.lines 64 c.requires.few_lines in
    record {
      row = home c.args.lines;
      so_far = omega arith;
      stands = rw (c.home-table.ensures, c.from.ensures) start.1;
      len = rw (c.home-table.ensures, c.from.ensures) start.0;
      few = omega arith;
    }

pub loop-gate-preserved : goal.loop-gate-preserved
loop-gate-preserved c =
    let i = c.loop-gate.invariant in
    let so_far = i.so_far in
    let few = i.few in
    let g = c.gather-moves.ensures in
    let row : List ℕ = swapped (swaps_by c.gather-moves.result.items) i.row in
    let next = routed_next _ _ _ _ row _ c.loop-gate-test.true c.gate-item.is (g.moves i.row i.stands) refl in
    let all = length_routed (swaps_by c.gather-moves.result.items) (gate_on row c.gate-item.result)
    (routed_from i.row (drop c.loop-gate.gate-index c.args.gates.now))
    (routed_from row (drop (c.loop-gate.gate-index + 1) c.args.gates.now)) next in
    let most = g.few_swaps in
    let count = c.swap_count.ensures.value ∙ ap (λ l. length (swaps_by l)) c.deref.ensures.0 in
    record { row = row; so_far = omega arith; stands = g.stands i.row i.stands; len = c.gather-moves.auto.places ∙ i.len; few = omega arith }

few_gates : (count k all more moves : ℕ) → count ≤ 2017 * k → k ≤ all → all ≤ 1048576 → more ≤ 64 * moves → moves ≤ 64 → count + more < 2 ^ 31
few_gates count k all more moves few le most h small = omega arith

pub overflow_add-result : goal.overflow_add-result
overflow_add-result c =
    let few = few_gates _ _ _ _ _ c.loop-gate.invariant.few c.loop-gate.auto.gate-index-end c.requires.few_gates c.swap_count-2.ensures.few c.deref-2.ensures.1 in
    omega arith

pub returns-clause-value : goal.returns-clause-value
returns-clause-value c =
    let i = c.loop-gate.invariant in
    let so_far = i.so_far in
    let swaps : List ℕ = swaps_by c.go_home-moves.result.items in
    let end = ap length (homeward i.row c.loop-gate.places swaps c.args.gates.now c.loop-gate.gate-index i.stands c.loop-gate-test.false (c.go_home-moves.ensures.moves i.row i.stands)) in
    let gates = length-map swaps neighbours in
    let count = c.swap_count-2.ensures.value ∙ ap (λ l. length (swaps_by l)) c.deref-2.ensures.0 in
    omega arith

pub returns-clause-few : goal.returns-clause-few
returns-clause-few c =
    few_gates _ _ _ _ _ c.loop-gate.invariant.few c.loop-gate.auto.gate-index-end c.requires.few_gates c.swap_count-2.ensures.few c.deref-2.ensures.1
