use Rattle.std.proofs.Common.{◌≡◌, ℕ, Bool, List, refl, subst, arith}
use Rattle.rv_forms.specs.Forms.{form_value}
use Rattle.rv_forms.specs.declared.form.Form.{Form}
use Rattle.rv_forms.specs.inside.Held.{Tells}
use Rattle.rv_joined.specs.Blocks.{phase_bit, weight}
use Rattle.rv_joined.specs.inside.Slots.{AreMore}
use Rattle.rv_joined.proofs.inside.Joins.{got, grows_phase}
use Rattle.rv_joined.proofs.follow.follow_phase.Goals as goal

pub returns : goal.returns
returns c on =
    let old = c.args.state.now in
    let form = c.in-Some.form in
    let phase = c.args.phase in
    let Is : List Form → Form → Type 0 =
    λ h f. (bits x : List Bool) → Tells bits h x → form_value bits f ≡ phase_bit phase x in
    grows_phase c.args.setup c.args.terms.now old
    (record { ops = c.add_phase.new.ops; held = old.held; slots = c.add.new.slots }) phase form
    (omega (arith, c.if-phase-lines.false)) (omega (arith, c.if-phase-lines-2.false))
    (subst (λ (h : List Form). Is h form) c.deref.ensures.value
    (got (Is c.deref.result.now) c.in_ok-form.field-0 form c.in-Some.is c.in_ok-form.ensures))
    (subst (λ (p : ℕ). AreMore old.slots.list.items (λ bits. weight p (form_value bits form)) c.add.new.slots.list.items)
    c.power_of.ensures.value c.in_ok-add.ensures)
    refl c.in_ok-add_phase.ensures
