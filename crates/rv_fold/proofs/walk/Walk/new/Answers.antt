use Rattle.std.proofs.Common.{◌∙◌, sym, subst}
use Rattle.rv_fold.specs.inside.Standing.{AreClasses}
use Rattle.rv_fold.proofs.inside.Steps.{parities_start, sums_start}
use Rattle.rv_fold.proofs.walk.Walk.new.Goals as goal

pub returns : goal.returns
returns c = record {
  parities = c.in_ok-new.ensures.each ∙ sym (parities_start _ _);
  count = c.in_ok-new.ensures.count ∙ c.lines-lines.ensures.value;
  classes = subst (λ n. AreClasses n c.args.net.now.ops 0 c.in_ok-new-2.field-0) c.lines-lines.ensures.value (c.in_ok-new-2.ensures c.args.net.now.ops);
  sums = sums_start _ _ _ c.new-3.ensures.items;
}
