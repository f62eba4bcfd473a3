use Rattle.std.proofs.Common.{refl, ℕ, List, Bool, not, ◌&&◌, eqb, sym, ◌∙◌, arith}
use Rattle.rv_gate.specs.Word.{has}
use Rattle.rv_gate.specs.Gate.{all_below}
use Rattle.rv_templ.specs.Images.{new_line, distinct}
use Rattle.rv_gate.proofs.AllBelow.{all_below-more}
use Rattle.rv_templ.proofs.inside.TestSteps.{each_hit, each_end}
use Rattle.rv_templ.proofs.matching.distinct.Goals as goal

abbrev test : ℕ → List ℕ → ℕ → Bool
test own to i = all_below (λ j. not (has own i && has own j && eqb (new_line to i) (new_line to j))) i

pub loop-i-init : goal.loop-i-init
loop-i-init c = refl

pub returns-then-not-apart : goal.returns-then-not-apart
unfolding distinct
returns-then-not-apart c =
    each_hit (test c.args.own c.args.to) 6 c.loop-i.i c.loop-i-test.true (sym c.apart_below-apart.ensures ∙ c.if-not-apart.true)

pub loop-i-preserved : goal.loop-i-preserved
loop-i-preserved c =
    all_below-more (test c.args.own c.args.to) c.loop-i.i c.loop-i.invariant (sym c.apart_below-apart.ensures ∙ c.if-not-apart.false)

pub returns : goal.returns
unfolding distinct
returns c = each_end (test c.args.own c.args.to) 6 c.loop-i.i (omega arith) (omega arith) c.loop-i.invariant
