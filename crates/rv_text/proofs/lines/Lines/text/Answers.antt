use Rattle.std.proofs.Common.{◌∙◌, ap}
use Rattle.rv_text.specs.Held.{Held}
use Rattle.rv_text.proofs.inside.Taking.{is_line}
use Rattle.rv_text.proofs.lines.Lines.text.Goals as goal

pub returns-clause-text : goal.returns-clause-text
returns-clause-text c = λ text more so_far.
    rw (c.as_slice.ensures.value ∙ ap (λ (h : Held). h.line) c.self.view_is) (is_line c.args.self.now text more so_far c.requires)
