use Rattle.std.proofs.Common.{ap, length, ◌∙◌, ◌++◌, append_assoc}
use Rattle.rv_gate.proofs.inside.GateLemmas.{length-run}
use Rattle.rv_tbs.specs.Synthesis.{turning, set_flips, clear_flips}
use Rattle.rv_tbs.proofs.turn.turning_gates.Goals as goal

pub clear_lines-requires : goal.clear_lines-requires
clear_lines-requires c = ap length c.in_ok-middle.ensures.word ∙ length-run (set_flips c.args.goal c.args.word) c.args.word ∙ c.requires

pub returns : goal.returns
unfolding turning
returns c =
    let word = c.in_ok-middle.ensures.word in
    c.in_ok-clear_lines.ensures.gates ∙ ap (λ l. l ++ clear_flips c.args.goal c.in_ok-middle.middle) c.in_ok-middle.ensures.gates
    ∙ append_assoc c.args.gates.now.items (set_flips c.args.goal c.args.word) (clear_flips c.args.goal c.in_ok-middle.middle)
    ∙ ap (λ w. c.args.gates.now.items ++ (set_flips c.args.goal c.args.word ++ clear_flips c.args.goal w)) word
