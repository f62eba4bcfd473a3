use Rattle.std.proofs.Common.{sym, ◌∙◌, arith}
use Rattle.rv_exorlink.proofs.inside.Tables.{none_filled, one_filled}
use Rattle.rv_exorlink.proofs.table.put_value.Goals as goal

pub returns-then-outs-eq0 : goal.returns-then-outs-eq0
returns-then-outs-eq0 c =
    none_filled c.args.inputs c.args.prefix c.args.values.now c.args.cubes.now.items
    (sym c.requires.value ∙ c.if-outs-eq0.true)

pub returns : goal.returns
returns c =
    one_filled c.args.inputs c.args.prefix c.args.outs c.args.values.now c.args.cubes.now.items c.push.new.self.items
    c.requires.one c.requires.value
    (λ e. absurd (omega arith)) c.in_ok-push.ensures.items
