use Rattle.std.proofs.Common.{◌≡◌, ◌^◌, ℕ, sym, ap, ◌∙◌, arith}
use Rattle.std.specs.Prelude.{is_some}
use Rattle.std.proofs.lemmas.Nat.{one_shl}
use Rattle.rv_pla.specs.Pla.{TwoLevel, conflict_at, conflict_of}
use Rattle.rv_reader.specs.FirstFault.{first_below}
use Rattle.rv_pla.specs.inside.Table.{has_off_set}
use Rattle.rv_pla.proofs.inside.Entries.{is_some-none, no_conflict}
use Rattle.rv_reader.proofs.FirstBelow.{first_below-found, first_below-more, first_below-zero}
use Rattle.rv_pla.proofs.pla.Pla.conflict.Goals as goal

pub returns-then-not-has_off_set : goal.returns-then-not-has_off_set
returns-then-not-has_off_set c =
    sym (no_conflict c.args.self.now (ap (λ (p : TwoLevel). has_off_set p.kind) (sym c.self.view_is) ∙ sym c.has_off_set.ensures ∙ c.if-not-has_off_set.true))

pub loop-x-init : goal.loop-x-init
loop-x-init c = first_below-zero (λ (x : ℕ). first_below (conflict_at c.args.self.now x) c.args.self.now.outputs)

pub returns-then-is_some : goal.returns-then-is_some
unfolding conflict_of
returns-then-is_some c =
    let f = λ (x : ℕ). first_below (conflict_at c.args.self.now x) c.args.self.now.outputs in
    let same = ap (λ (p : TwoLevel). 2 ^ p.inputs) c.self.view_is in
    let end = one_shl c.self.inside.inputs 32 (omega (arith, c.self.invariant.0.few_inputs)) in
    c.conflict_at-fault.ensures
    ∙ sym (first_below-found f (2 ^ c.args.self.now.inputs) c.loop-x.x (omega arith) c.loop-x.invariant (ap is_some (sym c.conflict_at-fault.ensures) ∙ sym c.is_some.ensures ∙ c.if-is_some.true))

pub loop-x-preserved : goal.loop-x-preserved
loop-x-preserved c =
    let f = λ (x : ℕ). first_below (conflict_at c.args.self.now x) c.args.self.now.outputs in
    first_below-more f c.loop-x.x c.loop-x.invariant ∙ sym c.conflict_at-fault.ensures ∙ is_some-none _ (sym c.is_some.ensures ∙ c.if-is_some.false)

pub returns : goal.returns
unfolding conflict_of
returns c =
    let f = λ (x : ℕ). first_below (conflict_at c.args.self.now x) c.args.self.now.outputs in
    let same = ap (λ (p : TwoLevel). 2 ^ p.inputs) c.self.view_is in
    let end = one_shl c.self.inside.inputs 32 (omega (arith, c.self.invariant.0.few_inputs)) in
    let all : c.loop-x.x ≡ 2 ^ c.args.self.now.inputs = omega arith in
    sym (ap (first_below f) (sym all) ∙ c.loop-x.invariant)
