use Rattle.std.proofs.Common.{◌≡◌, ◌^◌, ◌<◌, ℕ, List, length, get_or, true, sym, ap, ◌∙◌, arith}
use Rattle.std.specs.Prelude.{bit_and, is_some}
use Rattle.std.proofs.lemmas.Grind.{get_or_default_zero}
use Rattle.rv_pla.specs.Pla.{TwoLevel, conflict_at}
use Rattle.rv_reader.specs.FirstFault.{first_below}
use Rattle.rv_pla.specs.inside.Table.{has_off_set}
use Rattle.rv_pla.proofs.inside.Entries.{is_some-none, no_conflict_here}
use Rattle.rv_reader.proofs.FirstBelow.{first_below-found, first_below-more, first_below-zero}
use Rattle.rv_pla.proofs.pla.Pla.conflict_at.Goals as goal

-- two entries without a common output
read : (ones others : List ℕ) (x a b : ℕ) → x < length ones → x < length others → a ≡ get_or ones x a → b ≡ get_or others x b → bit_and a b ≡ 0 → bit_and (get_or ones x 0) (get_or others x 0) ≡ 0
read ones others x a b within within_others is is_other apart =
    ap (λ s. bit_and s (get_or others x 0)) (sym (is ∙ get_or_default_zero ones x a within))
    ∙ ap (bit_and a) (sym (is_other ∙ get_or_default_zero others x b within_others))
    ∙ apart

pub returns-then-index-eq0 : goal.returns-then-index-eq0
returns-then-index-eq0 c =
    let p = c.self.inside in
    let x : ℕ = c.args.x in
    let tabled = c.self.invariant.1 in
    let lt : x < 2 ^ p.inputs = rw (← c.self.view_is) at c.requires.x_in in
    let off : has_off_set p.kind ≡ true = rw (← c.self.view_is) at c.requires.off in
    let apart = read p.ones.items p.others.items x c.index.result.now c.index-2.result.now (omega (arith, tabled.first.size)) (omega (arith, tabled.second.size)) c.index.ensures c.index-2.ensures c.if-index-eq0.true in
    rw (← c.self.view_is) (sym (no_conflict_here (record { inputs = p.inputs; outputs = p.outputs; kind = p.kind; terms = p.terms.items }) p.ones.items p.others.items x off tabled lt apart))

pub loop-output-init : goal.loop-output-init
loop-output-init c = first_below-zero (conflict_at c.args.self.now c.args.x)

pub returns-then-is_some : goal.returns-then-is_some
returns-then-is_some c =
    let f = conflict_at c.args.self.now c.args.x in
    let same = ap (λ (p : TwoLevel). p.outputs) c.self.view_is in
    c.conflict_on-fault.ensures
    ∙ sym (first_below-found f c.args.self.now.outputs c.loop-output.output (omega arith) c.loop-output.invariant (ap is_some (sym c.conflict_on-fault.ensures) ∙ sym c.is_some.ensures ∙ c.if-is_some.true))

pub loop-output-preserved : goal.loop-output-preserved
loop-output-preserved c =
    let f = conflict_at c.args.self.now c.args.x in
    first_below-more f c.loop-output.output c.loop-output.invariant ∙ sym c.conflict_on-fault.ensures ∙ is_some-none _ (sym c.is_some.ensures ∙ c.if-is_some.false)

pub returns : goal.returns
returns c =
    let same = ap (λ (p : TwoLevel). p.outputs) c.self.view_is in
    let all : c.loop-output.output ≡ c.args.self.now.outputs = omega arith in
    sym (ap (first_below (conflict_at c.args.self.now c.args.x)) (sym all) ∙ c.loop-output.invariant)
