use Rattle.std.proofs.Common.{◌<◌, cond, ◌∙◌, ap, arith}
use Rattle.rv_gate.specs.Word.{word_with}
use Rattle.rv_gate.specs.Gate.{flip}
use Rattle.rv_gate.proofs.inside.WordLemmas.{length_seen, changed_if, word_with-changed, changed-lt}
use Rattle.rv_gate.proofs.word.Word.turned.Goals as goal

pub invariant_of-result : goal.invariant_of-result
invariant_of-result c =
    let n = c.self.inside.len in
    let s = c.self.inside.ones in
    let line : c.args.line < n = omega (arith, length_seen _ _ _ c.self.view_is) in
    (c.self.invariant.0, rw (changed_if c.args.on n s c.args.line c.from.result line c.self.invariant.0 c.from.ensures) (changed-lt c.args.on n s c.args.line line c.self.invariant.1))

pub returns : goal.returns
returns c =
    let n = c.self.inside.len in
    let s = c.self.inside.ones in
    let line : c.args.line < n = omega (arith, length_seen _ _ _ c.self.view_is) in
    ap (word_with n) (changed_if c.args.on n s c.args.line c.from.result line c.self.invariant.0 c.from.ensures)
    ∙ word_with-changed c.args.on n s c.args.line line
    ∙ ap (λ w. cond c.args.on (flip w c.args.line) w) c.self.view_is
