use Rattle.std.proofs.Common.{◌∙◌, ◌++◌, [], ◌∷◌, filter, ap, sym, rules, append-nil}
use Rattle.std.proofs.lemmas.List.{drop_all}
use Rattle.std.proofs.lemmas.List.Elements.{filter_from_retain}
use Rattle.rv_check.specs.inside.Dense.{members_from}
use Rattle.rv_check.specs.inside.Kept.{is_present}
use Rattle.rv_check.proofs.inside.Filling.{collected_more}
use Rattle.rv_check.proofs.dense.collect.Goals as goal

pub loop-number-preserved : goal.loop-number-preserved
loop-number-preserved c =
    let l = c.loop-number in
    collected_more c.args.lines l.number c.args.values.now l.members.items c.push.new.self.items c.index-values-number.result c.loop-number-test.true
    (c.in_ok-push.ensures.items ∙ (λ j. l.members.items ++ record { word = c.in-Some.ensures.1 j; value = (c.widened.ensures ∙ c.index-values-number.is) j } ∷ []))
    l.invariant

pub returns : goal.returns
unfolding members_from
returns c =
    let l = c.loop-number in
    let kept = filter_from_retain _ is_present (λ p x b q k. search rules) _ _ _ c.retain.ensures.filtered in
    let all = drop_all l.number c.args.values.now c.loop-number-test.false in
    kept ∙ ap (filter is_present) (sym (append-nil l.members.items) ∙ ap (λ vs. l.members.items ++ members_from c.args.lines l.number vs) (sym all) ∙ l.invariant)
