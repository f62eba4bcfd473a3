use Rattle.std.proofs.Common.{◌≡◌, ◌∙◌, ◌<◌, refl, arith, sym, ap, subst, get_or, length, w64}
use Rattle.std.specs.Int.{trailing_zeros}
use Rattle.std.proofs.lemmas.Bool.{and_parts}
use Rattle.std.proofs.lemmas.Grind.{get_or_default_zero}
use Rattle.rv_gate.specs.Word.{has}
use Rattle.rv_gate.proofs.LineSets.{has-and, lowest}
use Rattle.rv_turns.specs.inside.Slots.{slots_of}
use Rattle.rv_turns.proofs.inside.Slots.{alone_is_sign}
use Rattle.rv_turns.proofs.waiting.Waiting.partner.Goals as goal

pub returns-else-alone-eq0 : goal.returns-else-alone-eq0
returns-else-alone-eq0 c =
    let t = trailing_zeros w64 c.alone-alone.result in
    let live = c.args.self.now.live in
    let low = lowest c.alone-alone.result (omega arith) c.alone-alone.type_inv in
    let both = c.alone-alone.ensures t low.1 in
    let one = and_parts (has live t) (has c.index.result.now t) (sym (has-and live c.index.result.now t) ∙ both.0) in
    let inside : c.args.line < length c.args.self.now.signs.items = subst (λ n. c.args.line < n) (sym c.args.self.now.lines) c.requires in
    let read : c.index.result.now ≡ get_or c.args.self.now.signs.items c.args.line 0 =
    c.index.ensures ∙ ap (λ l. get_or c.args.self.now.signs.items l c.index.result.now) c.from.ensures ∙ get_or_default_zero c.args.self.now.signs.items c.args.line c.index.result.now inside in (
      low.0,
      one.0,
      alone_is_sign (slots_of c.args.self.now) (length c.args.self.now.flips.items) c.args.line t both.1 (ap (λ n. has n t) (sym read) ∙ one.1) refl c.args.self.now.lines c.requires,
    )
