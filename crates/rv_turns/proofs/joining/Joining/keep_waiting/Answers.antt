use Rattle.std.proofs.Common.{◌≡◌, ◌∙◌, ◌<◌, ◌⊎◌, ℕ, true, inl, inr, arith, sym, ap, subst, length, get_or, get_or-set_same, get_or-set_other}
use Rattle.std.specs.Prelude.{slice_index}
use Rattle.std.proofs.lemmas.Bool.{cases_eq}
use Rattle.rv_gate.specs.Word.{has}
use Rattle.rv_turns.specs.inside.Pauli.{sign_on}
use Rattle.rv_turns.specs.inside.Slots.{Slots, passed_slots, pauli_at, slots_of}
use Rattle.rv_turns.specs.inside.Standing.{Follows, Opened}
use Rattle.rv_turns.proofs.inside.Follow.{follows, lines_stay}
use Rattle.rv_turns.proofs.joining.Joining.keep_waiting.Goals as goal

module _ (c : goal.After-open) where
  live : ℕ
  live = (passed_slots c.args.op (slots_of c.args.self.now.waiting)).live

  followed : (i : ℕ) → has c.pass.new.self.live i ≡ true → Follows c.args.op c.args.self.now.waiting c.pass.new.self i
  followed i h =
      follows c.args.op c.args.self.now.waiting c.pass.new.self (passed_slots c.args.op (slots_of c.args.self.now.waiting)).live c.requires.fits c.pass.ensures.slots (λ k. ap (λ v. slice_index v.items k) c.pass.ensures.places) i
      (ap (λ (s : Slots). has s.live i) (sym c.pass.ensures.slots) ∙ h)

  each : (i : ℕ) → has c.open.new.self.live i ≡ true → Follows c.args.op c.args.self.now.waiting c.open.new.self i ⊎ Opened c.args.op (length c.args.self.now.made.items) c.open.new.self i
  each i h = elim (cases_eq i c.open.result) [
    | inl same ↦ inr (record {
      back = c.args.later.back;
      line = c.args.later.line;
      is = c.requires.is;
      pauli = ap (pauli_at (slots_of c.open.new.self)) same ∙ c.open.ensures.opened ∙ ap (λ n. sign_on n c.args.later.line) (sym c.open.ensures.count);
      place = ap (slice_index c.open.new.self.places.items) same ∙ ap (λ l. get_or l c.open.result 0) c.open.ensures.places ∙ get_or-set_same c.pass.new.self.places.items c.open.result c.len-place.result 0 (subst (λ n. c.open.result < n) (sym c.pass.new.self.slots) c.open.ensures.within) ∙ (let e : c.len-place.result ≡ length c.args.self.now.made.items = omega arith in e);
    })
    | inr other ↦
        (let f = followed i (sym (c.open.ensures.live i other) ∙ h) in
        inl (record {
          was = f.was;
          free = f.free;
          pauli = c.open.ensures.others i other ∙ f.pauli;
          place = ap (λ l. get_or l i 0) c.open.ensures.places ∙ get_or-set_other c.pass.new.self.places.items c.open.result i c.len-place.result 0 other ∙ f.place;
        }))
  ]

pub returns : goal.returns
returns c = record {
  lines = c.open.ensures.count ∙ lines_stay c.args.op c.args.self.now.waiting c.pass.new.self (passed_slots c.args.op (slots_of c.args.self.now.waiting)).live c.requires.fits c.pass.ensures.slots;
  made = c.in_ok-push.ensures.items;
  slots = each c;
}
