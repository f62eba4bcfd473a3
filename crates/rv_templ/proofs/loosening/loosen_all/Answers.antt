use Rattle.std.proofs.Common.{◌<◌, length, ◌∙◌, inl, inr, arith}
use Rattle.std.proofs.lemmas.Bool.{or_left, or_right}
use Rattle.rv_gate.specs.Word.{has}
use Rattle.rv_gate.proofs.LineSets.{has-or}
use Rattle.rv_links.specs.Nodes.{node_gate, noted}
use Rattle.rv_templ.proofs.LinkedGates.{linked_gates}
use Rattle.rv_templ.proofs.inside.LookupLaws.{live_gate, loose_or}
use Rattle.rv_templ.proofs.loosening.loosen_all.Goals as goal

pub returns-clause-all : goal.returns-clause-all
returns-clause-all c t x on lt =
    let l = c.args.linked.now in
    let inv = c.loop-line.invariant in
    loose_or c.args.care c.args.want c.args.target (node_gate x l.nodes) (noted x c.loop-line.linked.notes) c.requires.gate
    (live_gate (length l.frame.names) l.nodes x c.recall_invariant.ensures.once (linked_gates l c.recall_invariant.ensures) on)
    (λ e. inv.itself t x on lt e)
    (λ k. inv.others t k.line (let b : k.line < 64 = k.below in omega arith)
    (has-or c.read_lines.result c.args.care k.line ∙ elim k.used [
      | inl own ↦ or_right (has c.read_lines.result k.line) (has c.args.care k.line) own
      | inr other ↦ or_left (has c.read_lines.result k.line) (has c.args.care k.line) (c.read_lines.ensures x k.line on other.0 other.1)
    ]) x on lt k.variant)
