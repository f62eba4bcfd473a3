use Rattle.std.proofs.Common.{◌∙◌, ap, sym, arith}
use Rattle.rv_dbs.specs.Singles.{singles}
use Rattle.rv_realize.proofs.Embedded.{lines_told, realized_on, too_few}
use Rattle.rv_realize.proofs.first.by_embedding.Goals as goal

pub returns-then-lines-most-clause-too_many_lines : goal.returns-then-lines-most-clause-too_many_lines
returns-then-lines-most-clause-too_many_lines c n e =
    too_few c.args.pla.now c.args.spec.now c.args.most n (sym (ap lines_told e) ∙ c.lines-lines.ensures.value ∙ ap (λ p. p.lines) c.perm.ensures.value) c.requires.lines
    c.requires.embeddable c.requires.least (omega (arith, ap lines_told e, c.if-lines-most.true))

pub returns-clause-realized : goal.returns-clause-realized
returns-clause-realized c =
    let few = c.if-lines-most.false in
    let lines = c.lines-lines.ensures.value ∙ ap (λ p. p.lines) c.perm.ensures.value in
    realized_on c.args.pla.now c.args.spec.now c.args.most (singles c.args.spec.now.table.lines c.args.spec.now.table.images) c.in_ok-synth_single.field-0
    c.in_ok-synth_single.ensures.circuit c.requires.embeds c.in_ok-synth_single.ensures.computes (omega arith)
