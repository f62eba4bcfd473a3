use Rattle.std.proofs.Common.{◌≡◌, ◌∙◌, set, sym, ap, rules}
use Rattle.std.proofs.lemmas.List.Edits.{map_over_more}
use Rattle.std.proofs.lemmas.List.Folds.{map_fixed}
use Rattle.rv_check.specs.inside.Kept.{turned}
use Rattle.rv_check.proofs.inside.Members.{turned_still}
use Rattle.rv_check.proofs.member.turn_all.Goals as goal

pub loop-member-preserved : goal.loop-member-preserved
loop-member-preserved c =
    let is : c.turn.new.member ≡ turned c.args.op c.member-item.result = c.turn.ensures ∙ ap (turned c.args.op) (sym c.member-item.is) in
    ap (set c.loop-member.members c.loop-member.member-index) is
    ∙ map_over_more (turned c.args.op) c.args.members.now c.loop-member.members c.loop-member.member-index c.member-item.result c.loop-member-test.true c.loop-member.invariant c.member-item.is

pub returns-else-brings_a_phase : goal.returns-else-brings_a_phase
returns-else-brings_a_phase c =
    sym (map_fixed (turned c.args.op) c.args.members.now (λ k d h. turned_still c.args.op _ (c.brings_a_phase.ensures (search rules) _)))
