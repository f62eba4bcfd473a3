use Rattle.std.proofs.Common.{◌∙◌, ℕ, Option, Some, None, cond, get_or, sym, ap, inl, inr}
use Rattle.std.specs.BTreeMap.{get}
use Rattle.std.proofs.lemmas.Bool.{false≢true}
use Rattle.std.proofs.lemmas.List.{get_or_default}
use Rattle.rv_fold.specs.Parities.{Parity}
use Rattle.rv_fold.specs.inside.Slots.{key_cmp}
use Rattle.rv_fold.proofs.inside.Slots.{noted_at_slot, noted_in_map, same_keys}
use Rattle.rv_fold.proofs.firsts.Firsts.note.Goals as goal
use Rattle.rv_fold.proofs.firsts.Firsts.note.Goals.{in-Some, in-None}

pub returns-then-is_free : goal.returns-then-is_free
returns-then-is_free c =
    let slots = c.args.self.now.slots.items in
    let slot = c.slot_of-slot.result in
    let within = c.slot_of-slot.ensures.within in
    let read = c.index.ensures ∙ get_or_default slots slot _ None within in
    noted_at_slot slots (λ (key : Parity). get key_cmp c.args.self.now.others (key.lines, key.flipped))
    (record { parity = c.args.parity; place = c.args.place }) slot c.slot_of-slot.ensures.value within
    (elim c.match-index.branch [
      | in-Some w ↦ inr (w.in-Some.begun, sym read ∙ w.in-Some.is, sym w.is_same-is_free.ensures ∙ sym w.is_free-is ∙ c.if-is_free.true)
      | in-None w ↦ inl (sym read ∙ w.in-None.is)
    ])

pub returns-in-Ok : goal.returns-in-Ok
returns-in-Ok c =
    let slots = c.args.self.now.slots.items in
    let slot = c.slot_of-slot.result in
    let read = c.index.ensures ∙ get_or_default slots slot _ None c.slot_of-slot.ensures.within in
    let p : Parity = c.args.parity in
    let others : Parity → Option ℕ = λ key. get key_cmp c.args.self.now.others (key.lines, key.flipped) in
    elim c.match-index.branch [
      | in-Some w ↦
          noted_in_map slots others p c.args.place w.in-Some.begun (λ (key : Parity). get key_cmp c.insert.new.self (key.lines, key.flipped))
          (ap (λ k. get_or slots k None) (sym c.slot_of-slot.ensures.value) ∙ sym read ∙ w.in-Some.is)
          (sym w.is_same-is_free.ensures ∙ sym w.is_free-is ∙ c.if-is_free.false)
          (λ key. c.in-Ok.ensures.updates.0 (key.lines, key.flipped) ∙ ap (λ b. cond b (Some c.args.place) (others key)) (same_keys p key))
      | in-None w ↦ absurd (false≢true (sym c.if-is_free.false ∙ w.is_free-is))
    ]
