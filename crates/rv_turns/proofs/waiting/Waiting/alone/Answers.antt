use Rattle.std.proofs.Common.{◌≡◌, ◌∙◌, ◌+◌, ◌<◌, arith, sym, ap, subst, get_or, length}
use Rattle.std.proofs.lemmas.Grind.{get_or_default_zero}
use Rattle.rv_turns.specs.inside.Slots.{slots_of}
use Rattle.rv_turns.specs.inside.Without.{without}
use Rattle.rv_turns.proofs.inside.Loops.{AreAlone}
use Rattle.rv_turns.proofs.inside.Slots.{alone_first, alone_flips, alone_both}
use Rattle.rv_turns.proofs.waiting.Waiting.alone.Goals.{then-other-from, else-other-from}
use Rattle.rv_turns.proofs.waiting.Waiting.alone.Goals as goal

pub loop-other-init : goal.loop-other-init
loop-other-init c =
    subst (AreAlone (slots_of c.args.self.now) c.args.line 0 c.args.slots) (sym c.without-left.ensures)
    (alone_first (slots_of c.args.self.now) c.args.line c.args.slots)

inside : (c : goal.Joined-other-from) → c.loop-other.other < length c.args.self.now.flips.items
inside c = omega arith

flips_at : (c : goal.Joined-other-from) → c.index.result.now ≡ get_or c.args.self.now.flips.items c.loop-other.other 0
flips_at c = c.index.ensures ∙ get_or_default_zero c.args.self.now.flips.items c.loop-other.other c.index.result.now (inside c)

pub loop-other-preserved : goal.loop-other-preserved
loop-other-preserved c =
    elim c.if-other-from.branch [
      | then-other-from w ↦
          subst (AreAlone (slots_of c.args.self.now) c.args.line (c.loop-other.other + 1) c.args.slots)
          (sym (w.left-is ∙ w.without-left-then-other-from.ensures ∙ ap (λ l. without l w.index-then-other-from.result.now) c.without-left-in-loop-other.ensures))
          (alone_both (slots_of c.args.self.now) c.args.line c.loop-other.other c.args.slots c.loop-other.left c.index.result.now w.index-then-other-from.result.now c.loop-other.invariant (flips_at c)
          (w.index-then-other-from.ensures ∙ get_or_default_zero c.args.self.now.signs.items c.loop-other.other w.index-then-other-from.result.now (subst (λ n. c.loop-other.other < n) (sym c.args.self.now.lines) (inside c))))
      | else-other-from w ↦
          subst (AreAlone (slots_of c.args.self.now) c.args.line (c.loop-other.other + 1) c.args.slots)
          (sym (w.left-is ∙ c.without-left-in-loop-other.ensures))
          (alone_flips (slots_of c.args.self.now) c.args.line c.loop-other.other c.args.slots c.loop-other.left c.index.result.now c.loop-other.invariant (flips_at c)
          (w.if-other-from.false ∙ c.from.ensures))
    ]
