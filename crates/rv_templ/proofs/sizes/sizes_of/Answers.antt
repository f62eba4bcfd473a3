use Rattle.std.proofs.Common.{length, ap, arith, below_more}
use Rattle.std.specs.Prelude.{count_ones}
use Rattle.rv_templ.specs.Images.{span}
use Rattle.rv_templ.proofs.sizes.sizes_of.Goals as goal

pub loop-t-preserved : goal.loop-t-preserved
loop-t-preserved c =
    let len = ap length c.template_of-template.ensures.value in
    let own = ap (λ g. count_ones (span g)) c.template_of-template.ensures.value in
    let few = (c.template_of-template.ensures.template c.requires).few in
    record {
      few = omega (arith, c.max-most.ensures, few, c.loop-t.invariant.few);
      short = below_more _ _ (λ k lt. let old = c.loop-t.invariant.short k lt in omega (arith, old, c.max-most.ensures)) (omega (arith, len, c.max-most.ensures));
      long = below_more _ _ (λ k lt. let old = c.loop-t.invariant.long k lt in omega (arith, old, c.min-least.ensures)) (omega (arith, len, c.min-least.ensures));
      narrow = below_more _ _ (λ k lt. let old = c.loop-t.invariant.narrow k lt in omega (arith, old, c.max-wide.ensures))
          (omega (arith, own, ap count_ones c.span.ensures, c.max-wide.ensures));
    }
