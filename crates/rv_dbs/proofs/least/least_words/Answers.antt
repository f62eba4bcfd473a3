use Rattle.std.proofs.Common.{◌<◌, ℕ, List, length, ap, sym, subst, ◌∙◌}
use Rattle.std.specs.Prelude.{All}
use Rattle.rv_dbs.specs.Walk.{next}
use Rattle.rv_dbs.specs.inside.Jumps.{lesser, twice}
use Rattle.rv_dbs.proofs.inside.Jumps.{next_turn, jumps_within, next_stays}
use Rattle.rv_dbs.proofs.least.least_words.Goals as goal

pub lesser-requires-clause-within : goal.lesser-requires-clause-within
lesser-requires-clause-within c =
    let P : List ℕ → Type 0 = λ l. All (λ y. y < length l) l in
    let w = jumps_within c.args.perm.now.lines (next c.args.k c.args.perm.now.images) c.loop-turn.turn _ _
    (next_stays _ c.args.k _ c.lines-lines.ensures.valid c.requires) c.loop-turn.invariant in
    subst P (sym c.deref-in-loop-turn.ensures.value) w.1

pub twice-requires : goal.twice-requires
twice-requires c =
    let P : List ℕ → Type 0 = λ l. All (λ y. y < length l) l in
    let w = jumps_within c.args.perm.now.lines (next c.args.k c.args.perm.now.images) c.loop-turn.turn _ _
    (next_stays _ c.args.k _ c.lines-lines.ensures.valid c.requires) c.loop-turn.invariant in
    record { within = subst P (sym c.deref-in-loop-turn-2.ensures.value) w.1 }

pub loop-turn-preserved : goal.loop-turn-preserved
loop-turn-preserved c =
    next_turn c.args.perm.now.lines (next c.args.k c.args.perm.now.images) c.loop-turn.turn c.loop-turn.least.items c.loop-turn.jumps.items _ _
    (next_stays _ c.args.k _ c.lines-lines.ensures.valid c.requires) c.loop-turn.invariant
    (c.in_ok-least-2.ensures ∙ ap (λ l. lesser l c.deref-in-loop-turn.result.now) c.deref.ensures.value ∙ ap (lesser c.loop-turn.least.items) c.deref-in-loop-turn.ensures.value)
    (c.in_ok-jumps-2.ensures ∙ ap twice c.deref-in-loop-turn-2.ensures.value)
