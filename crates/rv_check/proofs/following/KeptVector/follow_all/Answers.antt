use Rattle.std.proofs.Common.{◌≡◌, ◌∙◌, length, map, ap, sym, subst, rules, vec_len}
use Rattle.std.proofs.lemmas.List.{with_items_is}
use Rattle.std.specs.Vec.{with_items}
use Rattle.rv_check.specs.Reduced.{words}
use Rattle.rv_check.specs.inside.Dense.{ShowsAt}
use Rattle.rv_check.specs.inside.Stands.{Apart, value_at}
use Rattle.rv_check.specs.inside.View.{kept_of}
use Rattle.rv_check.proofs.inside.Filling.{followed_all}
use Rattle.rv_check.proofs.following.KeptVector.follow_all.Goals as goal

pub returns-clause-stands : goal.returns-clause-stands
returns-clause-stands c = λ x len s.
    let old = c.args.self.now.values in
    let len-old : vec_len old ≡ length old.items = search rules in
    let filled = c.fill.auto.values ∙ ap length c.deref_mut.ensures.value ∙ sym len-old in
    let before = c.deref_mut-2.ensures.value ∙ with_items_is old c.fill.new.values filled in
    let after = c.deref-2.ensures.value ∙ with_items_is (with_items old c.fill.new.values) c.follow_values-place.new.values (c.follow_values-place.auto.values ∙ ap length before ∙ filled) in
    let members : c.deref.result.now ≡ c.args.self.now.members.items = c.deref.ensures.value in
    followed_all c.args.ops.now x c.args.lines c.args.start c.follow_values-place.result c.deref_mut-2.result.now c.deref-2.result.now (kept_of c.args.self.now) _ len
    (λ apart. before ∙ c.fill.ensures.shown c.if-not-fill.false (subst Apart (sym members) apart) ∙ ap (λ ms. map (value_at ms) (words c.args.lines)) members)
    (λ shown.
    let r = c.follow_values-place.ensures.shown x len shown in
    (subst (λ vs. ShowsAt c.args.ops.now x c.follow_values-place.result vs c.follow_values-place.new.exponent) (sym after) r.0, r.1))
    c.in_ok-collect.ensures s
