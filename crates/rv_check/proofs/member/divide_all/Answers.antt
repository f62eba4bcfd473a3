use Rattle.std.proofs.Common.{◌≡◌, ◌∙◌, set, sym, ap}
use Rattle.std.proofs.lemmas.List.Edits.{map_over_more}
use Rattle.rv_check.specs.inside.Kept.{divided}
use Rattle.rv_check.proofs.member.divide_all.Goals as goal

pub loop-member-preserved : goal.loop-member-preserved
loop-member-preserved c =
    let is : c.divided.result ≡ divided c.member-item.result = c.divided.ensures ∙ ap divided (sym c.member-item.is) in
    ap (set c.loop-member.members c.loop-member.member-index) is
    ∙ map_over_more divided c.args.members.now c.loop-member.members c.loop-member.member-index c.member-item.result c.loop-member-test.true c.loop-member.invariant c.member-item.is
