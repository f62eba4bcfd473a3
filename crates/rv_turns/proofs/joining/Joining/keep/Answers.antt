use Rattle.std.proofs.Common.{◌∙◌, inl, sym, ap}
use Rattle.rv_gate.specs.Word.{has}
use Rattle.std.specs.Prelude.{slice_index}
use Rattle.rv_turns.specs.inside.Slots.{Slots, passed_slots, slots_of}
use Rattle.rv_turns.proofs.inside.Follow.{follows, lines_stay}
use Rattle.rv_turns.proofs.joining.Joining.keep.Goals as goal

pub returns : goal.returns
returns c =
    let old = c.args.self.now.waiting in
    let new = c.pass.new.self in
    let live = (passed_slots c.args.op (slots_of old)).live in
    record {
      lines = lines_stay c.args.op old new live c.requires c.pass.ensures.slots;
      made = c.in_ok-push.ensures.items;
      slots = λ i h.
          inl (follows c.args.op old new live c.requires c.pass.ensures.slots (λ k. ap (λ v. slice_index v.items k) c.pass.ensures.places) i
          (ap (λ (s : Slots). has s.live i) (sym c.pass.ensures.slots) ∙ h));
    }
