use Rattle.std.proofs.Common.{◌≡◌, ℕ, ◌+◌, List, subst, sym, arith}
use Rattle.rv_forms.specs.declared.form.Form.{Form}
use Rattle.rv_joined.specs.inside.Brings.{AreStart, columns}
use Rattle.rv_joined.proofs.inside.Joins.{start_none, start_more}
use Rattle.rv_joined.proofs.certificate.start_held.Goals as goal

pub loop-line-init : goal.loop-line-init
loop-line-init c = start_none c.args.setup c.new-held.result.items c.new-held.ensures.items

pub loop-line-preserved : goal.loop-line-preserved
loop-line-preserved c =
    subst (λ (held : List Form). AreStart c.args.setup (c.loop-line.line + 1) held) (sym c.in_ok-push.ensures.items)
    (start_more c.args.setup c.loop-line.line c.loop-line.held.items c.in_ok-form.form c.loop-line.invariant
    c.in_ok-form.ensures)

pub returns : goal.returns
returns c =
    let same : c.loop-line.line ≡ columns c.args.setup = omega arith in
    subst (λ (count : ℕ). AreStart c.args.setup count c.loop-line.held.items) same c.loop-line.invariant
