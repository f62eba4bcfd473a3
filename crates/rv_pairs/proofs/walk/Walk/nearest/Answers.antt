use Rattle.std.proofs.Common.{ℕ, ◌-◌, ◌∙◌, ap, arith, subst}
use Rattle.std.proofs.lemmas.Bool.{MatchBool-at_true, MatchBool-at_false}
use Rattle.rv_pairs.specs.Cancelled.{inverse}
use Rattle.rv_pairs.specs.Commuting.{reads, writes}
use Rattle.rv_pairs.specs.inside.Cells.{Cells}
use Rattle.rv_pairs.specs.inside.Chained.{IsFree, IsLatest}
use Rattle.rv_pairs.specs.inside.Codes.{code}
use Rattle.rv_pairs.specs.inside.Standing.{has_code, reads_line, writes_line}
use Rattle.rv_pairs.proofs.inside.Meeting.{blocked_read, blocked_write, free_of, free_partner, latest_of, no_number, place_within}
use Rattle.rv_pairs.proofs.inside.Numbers.{code_fits}
use Rattle.rv_pairs.proofs.Undoing.{inverse_fits}
use Rattle.rv_pairs.proofs.walk.Walk.nearest.Goals as goal
use Rattle.rv_pairs.proofs.walk.Walk.nearest.Goals.{else-is_free-via-then-is_free+else-is_free-2, else-is_free-via-else-is_free}

pub latest-latest-requires-clause-slot : goal.latest-latest-requires-clause-slot
latest-latest-requires-clause-slot c =
    let lines = c.args.lines in
    omega (arith, c.code.ensures, ap code c.inverse.ensures, c.requires.stands.alike_count, code_fits (inverse c.args.op) lines c.requires.stands.few (inverse_fits c.args.op lines c.requires.fits))

pub returns-then-latest-eq0-clause-partner : goal.returns-then-latest-eq0-clause-partner
returns-then-latest-eq0-clause-partner c =
    let walk = c.args.self.now in
    let cells : Cells = walk.cells.items in
    let op = c.args.op in
    let stands = c.requires.stands in
    let latest : IsLatest cells (has_code (code (inverse op))) c.latest-latest.result =
    latest_of cells c.deref.result.now (code (inverse op)) c.code.result c.latest-latest.result walk.alike c.deref.ensures.value (c.code.ensures ∙ ap code c.inverse.ensures) c.latest-latest.ensures.latest stands.alike in
    no_number cells op c.args.lines stands.few c.requires.fits stands.fitting (subst (IsLatest cells (has_code (code (inverse op)))) c.if-latest-eq0.true latest)

pub is_free-requires-clause-place : goal.is_free-requires-clause-place
is_free-requires-clause-place c =
    let walk = c.args.self.now in
    let cells : Cells = walk.cells.items in
    let op = c.args.op in
    let latest : IsLatest cells (has_code (code (inverse op))) c.latest-latest.result =
    latest_of cells c.deref.result.now (code (inverse op)) c.code.result c.latest-latest.result walk.alike c.deref.ensures.value (c.code.ensures ∙ ap code c.inverse.ensures) c.latest-latest.ensures.latest c.requires.stands.alike in
    place_within cells (has_code (code (inverse op))) c.latest-latest.result c.deref-2.result.now latest c.if-latest-eq0.false c.deref-2.ensures.value

pub is_free-requires-then-is_free-clause-place : goal.is_free-requires-then-is_free-clause-place
is_free-requires-then-is_free-clause-place c =
    let walk = c.args.self.now in
    let cells : Cells = walk.cells.items in
    let op = c.args.op in
    let latest : IsLatest cells (has_code (code (inverse op))) c.latest-latest.result =
    latest_of cells c.deref.result.now (code (inverse op)) c.code.result c.latest-latest.result walk.alike c.deref.ensures.value (c.code.ensures ∙ ap code c.inverse.ensures) c.latest-latest.ensures.latest c.requires.stands.alike in
    place_within cells (has_code (code (inverse op))) c.latest-latest.result c.deref-then-is_free.result.now latest c.if-latest-eq0.false c.deref-then-is_free.ensures.value

pub returns-then-is_free-2-clause-partner : goal.returns-then-is_free-2-clause-partner
returns-then-is_free-2-clause-partner c =
    let walk = c.args.self.now in
    let cells : Cells = walk.cells.items in
    let op = c.args.op in
    let stands = c.requires.stands in
    let latest : IsLatest cells (has_code (code (inverse op))) c.latest-latest.result =
    latest_of cells c.deref.result.now (code (inverse op)) c.code.result c.latest-latest.result walk.alike c.deref.ensures.value (c.code.ensures ∙ ap code c.inverse.ensures) c.latest-latest.ensures.latest stands.alike in
    let place : ℕ = c.latest-latest.result - 1 in
    let unwritten : IsFree writes_line cells (reads op) place =
    MatchBool-at_true _ _ c.if-is_free.true (free_of writes_line cells c.deref-2.result.now (reads op) c.reads.result place c.is_free.result walk.writes c.deref-2.ensures.value c.reads.ensures c.is_free.ensures.free stands.written) in
    let unread : IsFree reads_line cells (writes op) place =
    MatchBool-at_true _ _ c.if-is_free-2.true (free_of reads_line cells c.deref-then-is_free.result.now (writes op) c.writes.result place c.is_free-then-is_free.result walk.reads c.deref-then-is_free.ensures.value c.writes.ensures c.is_free-then-is_free.ensures.free stands.read) in
    free_partner cells op c.args.lines stands.few c.requires.fits stands.fitting c.latest-latest.result place latest (omega arith) unwritten unread

pub returns-else-is_free-clause-partner : goal.returns-else-is_free-clause-partner
returns-else-is_free-clause-partner c =
    let walk = c.args.self.now in
    let cells : Cells = walk.cells.items in
    let op = c.args.op in
    let stands = c.requires.stands in
    let latest : IsLatest cells (has_code (code (inverse op))) c.latest-latest.result =
    latest_of cells c.deref.result.now (code (inverse op)) c.code.result c.latest-latest.result walk.alike c.deref.ensures.value (c.code.ensures ∙ ap code c.inverse.ensures) c.latest-latest.ensures.latest stands.alike in
    let place : ℕ = c.latest-latest.result - 1 in
    elim c.else-is_free.branch [
      | else-is_free-via-then-is_free+else-is_free-2 w ↦
          blocked_read cells op c.args.lines stands.few c.requires.fits stands.fitting c.latest-latest.result place latest (omega arith)
          (MatchBool-at_false _ _ w.if-is_free-2.false (free_of reads_line cells w.deref-then-is_free.result.now (writes op) w.writes.result place w.is_free-then-is_free.result walk.reads w.deref-then-is_free.ensures.value w.writes.ensures w.is_free-then-is_free.ensures.free stands.read))
      | else-is_free-via-else-is_free w ↦
          blocked_write cells op c.args.lines stands.few c.requires.fits stands.fitting c.latest-latest.result place latest (omega arith)
          (MatchBool-at_false _ _ w.if-is_free.false (free_of writes_line cells c.deref-2.result.now (reads op) c.reads.result place c.is_free.result walk.writes c.deref-2.ensures.value c.reads.ensures c.is_free.ensures.free stands.written))
    ]
