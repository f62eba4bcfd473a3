use Rattle.std.proofs.Common.{◌≡◌, ◌<◌, ℕ, length, sym, ◌∙◌, ap, subst}
use Rattle.rv_cube.specs.Esop.{terms_of}
use Rattle.rv_cube.specs.Reduction.{at, reduced}
use Rattle.rv_cube.specs.inside.Slotted.{Slotted}
use Rattle.rv_cube.specs.inside.Idle.{HasNoIdle, IsFirstIdle}
use Rattle.rv_cube.proofs.inside.IdleSlots.{turn, begun, all_done, none_idle}
use Rattle.rv_cube.proofs.inside.Meaning.{are_reduced_for}
use Rattle.rv_cube.proofs.reduce_for.reduce_for.Goals as goal

pub drops-init : goal.drops-init
drops-init c =
    let n : ℕ = c.inputs.result in
    let ins : c.in_ok-reduction.reduction.inputs ≡ n = c.in_ok-reduction.ensures.inputs ∙ ap (λ (v : Slotted). v.inputs) c.in_ok-new.ensures ∙ c.in_ok-slots.ensures.inputs in
    let list : terms_of c.in_ok-reduction.reduction.cubes ≡ reduced n c.args.cubes.now =
    c.in_ok-reduction.ensures.list
    ∙ ap (λ (v : Slotted). reduced v.inputs (terms_of v.cubes)) c.in_ok-new.ensures
    ∙ ap (λ k. reduced k (terms_of c.in_ok-slots.slots.cubes)) c.in_ok-slots.ensures.inputs
    ∙ c.in_ok-slots.ensures.kept in
    let b = begun c.args.pla.now c.args.cubes.now (terms_of c.in_ok-reduction.reduction.cubes) n c.inputs.ensures.value list in
    record {
      inputs = ins ∙ c.inputs.ensures.value;
      settled = b.settled;
      same = b.same;
      vain = rw (c.in_ok-vain.ensures.items_if_clones_equal (λ y e. e)) (none_idle c.args.pla.now c.len.result);
    }

pub drops-smaller : goal.drops-smaller
drops-smaller c =
    let P : Slotted → Type 0 = λ v. IsFirstIdle c.args.pla.now v.cubes c.in-Some.slot c.in-Some.output in
    (turn c.args.pla.now c.drops.reduction.cubes c.in_ok-drop_output-in-Some.field-0.cubes (terms_of c.in_ok-reduction-in-Some.reduction.cubes) c.in-Some.slot c.in-Some.output c.in_ok-drop_output-in-Some.field-0.inputs
    (subst P c.slots-in-drops.ensures c.in-Some.ensures.found) c.drops.invariant.settled (c.in_ok-drop_output-in-Some.ensures.inputs ∙ c.drops.invariant.inputs)
    c.in_ok-drop_output-in-Some.ensures.dropped c.in_ok-reduction-in-Some.ensures.list).smaller

pub drops-preserved : goal.drops-preserved
drops-preserved c =
    let P : Slotted → Type 0 = λ v. IsFirstIdle c.args.pla.now v.cubes c.in-Some.slot c.in-Some.output in
    let ins = c.in_ok-drop_output-in-Some.ensures.inputs ∙ c.drops.invariant.inputs in
    let t = turn c.args.pla.now c.drops.reduction.cubes c.in_ok-drop_output-in-Some.field-0.cubes (terms_of c.in_ok-reduction-in-Some.reduction.cubes) c.in-Some.slot c.in-Some.output c.in_ok-drop_output-in-Some.field-0.inputs
    (subst P c.slots-in-drops.ensures c.in-Some.ensures.found) c.drops.invariant.settled ins c.in_ok-drop_output-in-Some.ensures.dropped c.in_ok-reduction-in-Some.ensures.list in
    record {
      inputs = c.in_ok-reduction-in-Some.ensures.inputs ∙ ins;
      settled = t.settled;
      same = t.same ∙ c.drops.invariant.same;
      vain = c.in-Some.ensures.vain;
    }

pub returns-in-None-clause-means : goal.returns-in-None-clause-means
returns-in-None-clause-means c =
    let P : Slotted → Type 0 = λ v. (a : ℕ) → a < length v.cubes → HasNoIdle c.args.pla.now (at v.cubes a) in
    are_reduced_for c.args.pla.now c.args.cubes.now c.into_cubes.result.items
    (c.into_cubes.ensures
    ∙ sym (all_done c.args.pla.now c.drops.reduction.cubes c.drops.invariant.settled (subst P c.slots-in-drops.ensures c.in-None.ensures.found))
    ∙ c.drops.invariant.same)
