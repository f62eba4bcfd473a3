use Rattle.std.proofs.Common.{◌≡◌, ◌∙◌, ◌++◌, ◌∷◌, [], None, not, ◌^◌, sym, ap, set}
use Rattle.std.specs.Prelude.{slice_index}
use Rattle.std.proofs.lemmas.Bool.{and_parts}
use Rattle.std.proofs.lemmas.List.{set-append_left}
use Rattle.rv_gate.specs.Word.{has}
use Rattle.rv_turns.specs.inside.Slots.{Slots, passed_slots, slots_of}
use Rattle.rv_turns.specs.inside.Without.{without}
use Rattle.rv_turns.proofs.inside.Follow.{follows, lines_stay}
use Rattle.rv_turns.proofs.inside.SlotLaws.{has-without}
use Rattle.rv_turns.proofs.joining.Joining.join.Goals as goal

pub returns : goal.returns
returns c =
    let old = c.args.self.now.waiting in
    let new = c.close.new.self in
    let live = without c.pass.new.self.live (2 ^ c.args.partner.slot) in
    let is : slots_of new ≡ record (passed_slots c.args.op (slots_of old)) { live = live } = c.close.ensures.slots ∙ ap (λ (s : Slots). record s { live = live }) c.pass.ensures.slots in
    record {
      lines = lines_stay c.args.op old new live c.requires.fits is;
      line = c.args.later.line;
      back = c.args.later.back;
      is = c.requires.is;
      partner = c.args.partner;
      joins = c.requires.partner;
      made =
          ap (λ l. set l c.args.partner.place None) c.in_ok-push.ensures.items
          ∙ set-append_left c.args.self.now.made.items (c.sum.result ∷ []) c.args.partner.place None c.requires.partner.early
          ∙ ap (λ m. set c.args.self.now.made.items c.args.partner.place None ++ m ∷ []) c.sum.ensures;
      slots = λ i h.
          follows c.args.op old new live c.requires.fits is (λ k. ap (λ v. slice_index v.items k) (c.close.ensures.places ∙ c.pass.ensures.places)) i
          (ap (λ (s : Slots). has s.live i) (sym c.pass.ensures.slots)
          ∙ (and_parts (has c.pass.new.self.live i) (not (has (2 ^ c.args.partner.slot) i)) (sym (has-without c.pass.new.self.live (2 ^ c.args.partner.slot) i) ∙ ap (λ (s : Slots). has s.live i) (sym c.close.ensures.slots) ∙ h)).0);
    }
