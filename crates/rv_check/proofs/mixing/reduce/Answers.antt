use Rattle.std.proofs.Common.{◌≡◌, ◌-◌, ◌^◌, ◌∙◌, suc, sym, ap, arith}
use Rattle.std.proofs.lemmas.List.Elements.{All-map, All-same, All-weaker}
use Rattle.rv_check.specs.Reduced.{quotient}
use Rattle.rv_check.specs.inside.Kept.{divided, reduced_kept}
use Rattle.rv_check.specs.inside.Small.{AreSmall}
use Rattle.rv_check.proofs.inside.Reducing.{reduced_more, reduced_stop, reduced_end, quotient_small}
use Rattle.rv_check.proofs.mixing.reduce.Goals as goal

pub loop-exponent-preserved : goal.loop-exponent-preserved
loop-exponent-preserved c =
    let one : c.loop-exponent.exponent ≡ suc (c.loop-exponent.exponent - 1) = omega (arith, c.loop-exponent-test.true) in
    record {
      small =
          All-same (λ m. AreSmall (2 ^ 120) m.value) _ _ c.divide_all.ensures
          (All-map (λ m. AreSmall (2 ^ 120) m.value) divided c.loop-exponent.members
          (All-weaker (λ m. AreSmall (2 ^ 120) m.value) (λ m. AreSmall (2 ^ 120) (quotient m.value)) (λ m h. quotient_small (2 ^ 120) m.value h) c.loop-exponent.members c.loop-exponent.invariant.small));
      kept =
          ap (reduced_kept (c.loop-exponent.exponent - 1)) c.divide_all.ensures
          ∙ sym (reduced_more c.loop-exponent.exponent (c.loop-exponent.exponent - 1) c.loop-exponent.members one (sym c.are_multiples.ensures ∙ c.if-are_multiples.true))
          ∙ c.loop-exponent.invariant.kept;
    }

pub returns-after-loop-exponent-clause-members : goal.returns-after-loop-exponent-clause-members
returns-after-loop-exponent-clause-members c =
    ap (λ k. k.members) (sym (reduced_end c.loop-exponent.exponent c.loop-exponent.members (omega (arith, c.loop-exponent-test.false))) ∙ c.loop-exponent.invariant.kept)

pub returns-after-loop-exponent-clause-exponent : goal.returns-after-loop-exponent-clause-exponent
returns-after-loop-exponent-clause-exponent c =
    ap (λ k. k.exponent) (sym (reduced_end c.loop-exponent.exponent c.loop-exponent.members (omega (arith, c.loop-exponent-test.false))) ∙ c.loop-exponent.invariant.kept)

pub returns-else-are_multiples-clause-members : goal.returns-else-are_multiples-clause-members
returns-else-are_multiples-clause-members c =
    ap (λ k. k.members) (sym (reduced_stop c.loop-exponent.exponent c.loop-exponent.members (sym c.are_multiples.ensures ∙ c.if-are_multiples.false)) ∙ c.loop-exponent.invariant.kept)

pub returns-else-are_multiples-clause-exponent : goal.returns-else-are_multiples-clause-exponent
returns-else-are_multiples-clause-exponent c =
    ap (λ k. k.exponent) (sym (reduced_stop c.loop-exponent.exponent c.loop-exponent.members (sym c.are_multiples.ensures ∙ c.if-are_multiples.false)) ∙ c.loop-exponent.invariant.kept)
