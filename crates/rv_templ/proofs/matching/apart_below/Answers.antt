use Rattle.std.proofs.Common.{refl, ℕ, List, Bool, not, ◌&&◌, eqb, ap, sym, ◌∙◌}
use Rattle.rv_gate.specs.Word.{has}
use Rattle.rv_templ.specs.Images.{new_line}
use Rattle.rv_gate.proofs.AllBelow.{all_below-more}
use Rattle.rv_templ.proofs.inside.TestSteps.{each_hit}
use Rattle.rv_templ.proofs.matching.apart_below.Goals as goal

abbrev test : ℕ → List ℕ → ℕ → ℕ → Bool
test own to i j = not (has own i && has own j && eqb (new_line to i) (new_line to j))

pub loop-j-init : goal.loop-j-init
loop-j-init c = refl

pub returns-then-both : goal.returns-then-both
returns-then-both c =
    each_hit (test c.args.own c.args.to c.args.i) c.args.i c.loop-j.j c.loop-j-test.true (ap not (sym c.clash-both.ensures ∙ c.if-both.true))

pub loop-j-preserved : goal.loop-j-preserved
loop-j-preserved c =
    all_below-more (test c.args.own c.args.to c.args.i) c.loop-j.j c.loop-j.invariant (ap not (sym c.clash-both.ensures ∙ c.if-both.false))
