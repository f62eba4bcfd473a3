use Rattle.std.proofs.Common.{ℕ, ◌<◌, length, refl, ap, sym, ◌∙◌, subst, inl, inr, arith}
use Rattle.std.proofs.lemmas.Bool.{cases_eq, or_left, or_right}
use Rattle.rv_gate.specs.Word.{has}
use Rattle.rv_gate.specs.declared.gate.Shape.TheVariants.{Flip}
use Rattle.rv_gate.proofs.LineSets.{has-or}
use Rattle.rv_links.specs.Nodes.{node_gate}
use Rattle.rv_templ.specs.inside.Lookups.{Variant}
use Rattle.rv_templ.proofs.LinkedGates.{linked_gates}
use Rattle.rv_templ.proofs.inside.LookupLaws.{live_gate, joining}
use Rattle.rv_templ.proofs.lookups.first_joined.Goals as goal

pub loop-line-preserved : goal.loop-line-preserved
loop-line-preserved c =
    let inv = c.loop-line.invariant in
    record {
      found = c.nearer_on-best.ensures.found inv.found;
      same = λ x on le e. c.nearer_on-best.ensures.best x (inv.same x on le e);
      others = λ line lt u x on le v.
          elim (cases_eq line c.loop-line.line) [
            | inl s ↦ c.nearer_on-best.ensures.this (ap (has _) (sym s) ∙ u) x on le (subst (λ (k : ℕ). Variant c.args.care c.args.want c.args.target k (node_gate x c.args.linked.now.nodes)) s v)
            | inr ne ↦ c.nearer_on-best.ensures.best x (inv.others line (omega (arith, lt, ne)) u x on le v)
          ];
    }

pub returns-clause-least : goal.returns-clause-least
returns-clause-least c x on le m j =
    let l = c.args.linked.now in
    let inv = c.loop-line.invariant in
    let valid = live_gate (length l.frame.names) l.nodes x c.recall_invariant.ensures.once (linked_gates l c.recall_invariant.ensures) on in
    elim (joining (Flip c.args.care c.args.want c.args.target) (node_gate x l.nodes) m refl c.requires valid j) [
      | inl e ↦ inv.same x on le e
      | inr k ↦
          inv.others k.line (let b : k.line < 64 = k.below in omega arith)
          (has-or c.read_lines.result c.args.care k.line ∙ elim k.used [
            | inl own ↦ or_right (has c.read_lines.result k.line) (has c.args.care k.line) own
            | inr other ↦ or_left (has c.read_lines.result k.line) (has c.args.care k.line) (c.read_lines.ensures x k.line on other.0 other.1)
          ]) x on le k.variant
    ]
