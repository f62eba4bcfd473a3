use Rattle.std.proofs.Common.{◌+◌, ℕ, drop, Some, cond, sym, ap, ◌∙◌}
use Rattle.rv_gate.specs.Word.{word_of}
use Rattle.rv_pla.specs.Pla.{first_line, Term}
use Rattle.rv_pla.specs.inside.Table.{off_or_on}
use Rattle.rv_pla.proofs.inside.Entries.{first_line-here, first_line-past}
use Rattle.rv_pla.proofs.pla.Pla.first_line.Goals as goal

pub returns-then-covers : goal.returns-then-covers
returns-then-covers c =
    let items = c.deref-term-items.result.now in
    let set = off_or_on c.args.off c.args.self.now.kind in
    let word = word_of c.args.self.now.inputs c.args.x in
    let i : ℕ = c.loop-term.term-index in
    let term : Term = c.term-item.result in
    let here = first_line-here set word c.args.output i items term term c.loop-term-test.true c.term-item.is in
    ap (λ (t : Term). Some t.line) c.term.view_is ∙ sym (sym c.loop-term.invariant ∙ here ∙ ap (λ b. cond b (Some term.line) (first_line set word c.args.output (drop (i + 1) items))) (sym c.covers.ensures ∙ c.if-covers.true))

pub loop-term-preserved : goal.loop-term-preserved
loop-term-preserved c =
    let items = c.deref-term-items.result.now in
    let set = off_or_on c.args.off c.args.self.now.kind in
    let word = word_of c.args.self.now.inputs c.args.x in
    let i : ℕ = c.loop-term.term-index in
    let term : Term = c.term-item.result in
    let here = first_line-here set word c.args.output i items term term c.loop-term-test.true c.term-item.is in
    sym (here ∙ ap (λ b. cond b (Some term.line) (first_line set word c.args.output (drop (i + 1) items))) (sym c.covers.ensures ∙ c.if-covers.false)) ∙ c.loop-term.invariant

pub returns : goal.returns
returns c =
    let items = c.deref-term-items.result.now in
    sym (sym c.loop-term.invariant ∙ first_line-past (off_or_on c.args.off c.args.self.now.kind) (word_of c.args.self.now.inputs c.args.x) c.args.output c.loop-term.term-index items c.loop-term-test.false)
