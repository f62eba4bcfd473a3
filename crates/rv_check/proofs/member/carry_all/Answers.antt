use Rattle.std.proofs.Common.{◌≡◌, ◌∙◌, set, sym, ap, rules}
use Rattle.std.proofs.lemmas.List.Edits.{map_over_more}
use Rattle.std.proofs.lemmas.List.Folds.{map_fixed}
use Rattle.rv_check.specs.inside.Kept.{carried}
use Rattle.rv_check.proofs.inside.Members.{carried_still}
use Rattle.rv_check.proofs.member.carry_all.Goals as goal

pub loop-member-preserved : goal.loop-member-preserved
loop-member-preserved c =
    let is : c.carry.new.member ≡ carried c.args.op c.member-item.result = c.carry.ensures ∙ ap (carried c.args.op) (sym c.member-item.is) in
    ap (set c.loop-member.members c.loop-member.member-index) is
    ∙ map_over_more (carried c.args.op) c.args.members.now c.loop-member.members c.loop-member.member-index c.member-item.result c.loop-member-test.true c.loop-member.invariant c.member-item.is

pub returns-else-moves_words : goal.returns-else-moves_words
returns-else-moves_words c =
    sym (map_fixed (carried c.args.op) c.args.members.now (λ k d h. carried_still c.args.op _ (c.moves_words.ensures (search rules) _)))
