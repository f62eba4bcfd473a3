use Rattle.std.proofs.Common.{◌≡◌, ◌∙◌, sym, arith}
use Rattle.rv_check.proofs.inside.Members.{turned_still}
use Rattle.rv_check.proofs.member.turn.Goals as goal

pub returns-else-power-ne0 : goal.returns-else-power-ne0
returns-else-power-ne0 c =
    let none : c.phase_of-power.result ≡ 0 = omega (arith, c.if-power-ne0.false) in
    sym (turned_still c.args.op c.args.member.now (sym c.phase_of-power.ensures.value ∙ none))
