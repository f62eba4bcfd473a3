use Rattle.std.proofs.Common.{◌≡◌, ◌∙◌, ◌%◌, ap, arith}
use Rattle.rv_net.specs.Cyclotomic.{times_w_power, unity}
use Rattle.rv_check.proofs.inside.Powers.{same_power, unity_small}
use Rattle.rv_check.proofs.units.Unit.member.Goals as goal

pub turned-requires-clause-small : goal.turned-requires-clause-small
turned-requires-clause-small c = rw c.one.ensures unity_small

pub returns : goal.returns
returns c =
    let value : c.turned.result ≡ times_w_power c.args.self.power unity =
    c.turned.ensures ∙ ap (times_w_power (c.args.self.power % 8)) c.one.ensures ∙ same_power (c.args.self.power % 8) c.args.self.power unity (omega arith) in
    (λ i. record { word = c.args.self.word; value = value i })
