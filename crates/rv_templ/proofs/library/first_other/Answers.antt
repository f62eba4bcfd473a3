use Rattle.std.proofs.Common.{length, sym, ◌∙◌, arith}
use Rattle.rv_templ.specs.Templates.{other_at}
use Rattle.rv_gate.proofs.FirstAnswer.{first_start, first_hit, first_skip, first_end}
use Rattle.rv_templ.proofs.inside.TemplateLaws.{other_here, no_other}
use Rattle.rv_templ.proofs.library.first_other.Goals as goal

pub loop-place-init : goal.loop-place-init
loop-place-init c = first_start (other_at c.args.gates.now) (length c.args.gates.now)

pub returns-then-not-flip : goal.returns-then-not-flip
returns-then-not-flip c =
    first_hit (other_at c.args.gates.now) c.loop-place.place (length c.args.gates.now) _ _ c.loop-place-test.true
    (other_here c.args.gates.now c.loop-place.place _ _ c.loop-place-test.true c.index-gates-place.is (sym c.is_flip-flip.ensures ∙ c.if-not-flip.true) (omega arith)) c.loop-place.invariant

pub loop-place-preserved : goal.loop-place-preserved
loop-place-preserved c =
    first_skip (other_at c.args.gates.now) c.loop-place.place (length c.args.gates.now) _ c.loop-place-test.true
    (no_other c.args.gates.now c.loop-place.place _ c.loop-place-test.true c.index-gates-place.is (sym c.is_flip-flip.ensures ∙ c.if-not-flip.false)) c.loop-place.invariant

pub returns : goal.returns
returns c = sym (first_end (other_at c.args.gates.now) c.loop-place.place (length c.args.gates.now) (omega (arith, c.loop-place-test.false))) ∙ c.loop-place.invariant
