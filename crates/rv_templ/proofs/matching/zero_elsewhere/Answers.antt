use Rattle.std.proofs.Common.{refl, ℕ, List, Bool, ◌||◌, eqb, sym, ◌∙◌, arith}
use Rattle.rv_gate.specs.Word.{has}
use Rattle.rv_templ.specs.Images.{new_line, zero_elsewhere}
use Rattle.rv_gate.proofs.AllBelow.{all_below-more}
use Rattle.rv_templ.proofs.inside.TestSteps.{each_hit, each_end}
use Rattle.rv_templ.proofs.matching.zero_elsewhere.Goals as goal

abbrev test : ℕ → List ℕ → ℕ → Bool
test own to i = has own i || eqb (new_line to i) 0

pub loop-i-init : goal.loop-i-init
loop-i-init c = refl

pub returns-then-not-fine : goal.returns-then-not-fine
unfolding zero_elsewhere
returns-then-not-fine c =
    each_hit (test c.args.own c.args.to) 6 c.loop-i.i c.loop-i-test.true (sym c.plain_at-fine.ensures ∙ c.if-not-fine.true)

pub loop-i-preserved : goal.loop-i-preserved
loop-i-preserved c =
    all_below-more (test c.args.own c.args.to) c.loop-i.i c.loop-i.invariant (sym c.plain_at-fine.ensures ∙ c.if-not-fine.false)

pub returns : goal.returns
unfolding zero_elsewhere
returns c = each_end (test c.args.own c.args.to) 6 c.loop-i.i (omega arith) (omega arith) c.loop-i.invariant
