use Rattle.std.proofs.Common.{◌≡◌, ◌∙◌, ◌<◌, sym, refl, ap, ap₂, subst, get_or, set}
use Rattle.std.specs.Prelude.{bit_or}
use Rattle.std.proofs.lemmas.Grind.{get_or_default_zero}
use Rattle.rv_gate.specs.Word.{has}
use Rattle.rv_turns.specs.inside.Slots.{Slots, pauli_at, slots_of}
use Rattle.rv_turns.specs.inside.Without.{without}
use Rattle.rv_turns.proofs.inside.Slots.{IsClear, opened_here, opened_other, same_slots, with_slot}
use Rattle.rv_turns.proofs.waiting.Waiting.open.Goals as goal
use Rattle.rv_gate.proofs.LineSets.{with_other}

module _ (c : goal.After-self-3-1) where
  is_flips : IsClear c.args.self.now.flips.items c.clear.new.words.items c.next_slot-slot.result
  is_flips = record {
    count = c.clear.ensures.count;
    each = λ k h. c.clear.ensures.each k h ∙ ap (without (get_or c.args.self.now.flips.items k 0)) c.only-bit.ensures;
  }

  is_signs : IsClear c.args.self.now.signs.items c.clear-2.new.words.items c.next_slot-slot.result
  is_signs = record {
    count = c.clear-2.ensures.count;
    each = λ k h. c.clear-2.ensures.each k h ∙ ap (without (get_or c.args.self.now.signs.items k 0)) c.only-bit.ensures;
  }

  read : c.index-signs.result.now ≡ get_or c.clear-2.new.words.items c.args.line 0
  read =
      c.index-signs.ensures
      ∙ ap (λ l. get_or c.clear-2.new.words.items l c.index-signs.result.now) c.from.ensures
      ∙ get_or_default_zero c.clear-2.new.words.items c.args.line c.index-signs.result.now (subst (λ n. c.args.line < n) (sym (c.clear-2.ensures.count ∙ c.args.self.now.lines)) c.requires)

  abbrev now : Slots
  now = record {
    flips = c.clear.new.words.items;
    signs = set c.clear-2.new.words.items c.from-2.result (bit_or c.index-signs.result.now c.only-bit.result);
    quarters = c.without-self.result;
    halves = c.without-self-2.result;
    live = bit_or c.args.self.now.live c.only-bit.result;
  }

  abbrev then : Slots
  then = with_slot (slots_of c.args.self.now) c.clear.new.words.items c.clear-2.new.words.items c.next_slot-slot.result c.args.line c.index-signs.result.now is_flips is_signs c.args.self.now.lines c.requires read

  same : now ≡ then
  same =
      same_slots now then
      refl
      (ap₂ (λ l b. set c.clear-2.new.words.items l (bit_or c.index-signs.result.now b)) c.from-2.ensures c.only-bit.ensures)
      (c.without-self.ensures ∙ ap (without c.args.self.now.quarters) c.only-bit.ensures)
      (c.without-self-2.ensures ∙ ap (without c.args.self.now.halves) c.only-bit.ensures)
      (ap (bit_or c.args.self.now.live) c.only-bit.ensures)

pub returns-clause-opened : goal.returns-clause-opened
returns-clause-opened c =
    ap (λ s. pauli_at s c.next_slot-slot.result) (same c)
    ∙ opened_here (slots_of c.args.self.now) c.clear.new.words.items c.clear-2.new.words.items c.next_slot-slot.result c.args.line c.index-signs.result.now (is_flips c) (is_signs c) c.args.self.now.lines c.requires (read c)

pub returns-clause-others : goal.returns-clause-others
returns-clause-others c slot ne =
    ap (λ s. pauli_at s slot) (same c)
    ∙ opened_other (slots_of c.args.self.now) c.clear.new.words.items c.clear-2.new.words.items c.next_slot-slot.result c.args.line c.index-signs.result.now (is_flips c) (is_signs c) c.args.self.now.lines c.requires (read c) slot ne

pub returns-clause-live : goal.returns-clause-live
returns-clause-live c slot ne =
    ap (λ b. has (bit_or c.args.self.now.live b) slot) c.only-bit.ensures ∙ with_other c.args.self.now.live c.next_slot-slot.result slot ne
