use Rattle.std.proofs.Common.{◌≡◌, ◌-◌, ◌^◌, ◌∙◌, suc, sym, ap, arith}
use Rattle.std.proofs.lemmas.List.Elements.{All-map, All-same, All-weaker}
use Rattle.rv_check.specs.Reduced.{quotient, reduced}
use Rattle.rv_check.specs.inside.Dense.{left}
use Rattle.rv_check.specs.inside.Small.{AreSmall}
use Rattle.rv_check.proofs.inside.Dividing.{left_end, left_more, left_stop, reduced_end, reduced_more, reduced_stop}
use Rattle.rv_check.proofs.inside.Reducing.{quotient_small}
use Rattle.rv_check.proofs.dense.reduce.Goals as goal

pub loop-exponent-preserved : goal.loop-exponent-preserved
loop-exponent-preserved c =
    let e = c.loop-exponent.exponent in
    let one : e ≡ suc (e - 1) = omega (arith, c.loop-exponent-test.true) in
    let all = sym c.are_multiples.ensures ∙ c.if-are_multiples.true in
    record {
      small =
          All-same (AreSmall (2 ^ 61)) _ _ c.divide_all.ensures
          (All-map (AreSmall (2 ^ 61)) quotient c.loop-exponent.values
          (All-weaker (AreSmall (2 ^ 61)) (λ u. AreSmall (2 ^ 61) (quotient u)) (λ u h. quotient_small (2 ^ 61) u h) c.loop-exponent.values c.loop-exponent.invariant.small));
      values = ap (reduced (e - 1)) c.divide_all.ensures ∙ sym (reduced_more e (e - 1) c.loop-exponent.values one all) ∙ c.loop-exponent.invariant.values;
      exponent = ap (left (e - 1)) c.divide_all.ensures ∙ sym (left_more e (e - 1) c.loop-exponent.values one all) ∙ c.loop-exponent.invariant.exponent;
    }

pub returns-after-loop-exponent-clause-values : goal.returns-after-loop-exponent-clause-values
returns-after-loop-exponent-clause-values c =
    sym (reduced_end c.loop-exponent.exponent c.loop-exponent.values (omega (arith, c.loop-exponent-test.false))) ∙ c.loop-exponent.invariant.values ∙ c.halve-exponent.ensures.values

pub returns-after-loop-exponent-clause-exponent : goal.returns-after-loop-exponent-clause-exponent
returns-after-loop-exponent-clause-exponent c =
    sym (left_end c.loop-exponent.exponent c.loop-exponent.values (omega (arith, c.loop-exponent-test.false))) ∙ c.loop-exponent.invariant.exponent ∙ c.halve-exponent.ensures.exponent

pub returns-else-are_multiples-clause-values : goal.returns-else-are_multiples-clause-values
returns-else-are_multiples-clause-values c =
    sym (reduced_stop c.loop-exponent.exponent c.loop-exponent.values (sym c.are_multiples.ensures ∙ c.if-are_multiples.false)) ∙ c.loop-exponent.invariant.values ∙ c.halve-exponent.ensures.values

pub returns-else-are_multiples-clause-exponent : goal.returns-else-are_multiples-clause-exponent
returns-else-are_multiples-clause-exponent c =
    sym (left_stop c.loop-exponent.exponent c.loop-exponent.values (sym c.are_multiples.ensures ∙ c.if-are_multiples.false)) ∙ c.loop-exponent.invariant.exponent ∙ c.halve-exponent.ensures.exponent
