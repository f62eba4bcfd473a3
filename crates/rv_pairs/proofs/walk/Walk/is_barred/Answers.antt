use Rattle.std.proofs.Common.{ℕ, suc, ◌∙◌, ap, arith, subst, length}
use Rattle.std.proofs.lemmas.Bool.{MatchBool-at_false, not-true}
use Rattle.rv_pairs.specs.Cancelled.{inverse}
use Rattle.rv_pairs.specs.Commuting.{reads}
use Rattle.rv_pairs.specs.inside.Cells.{Cells}
use Rattle.rv_pairs.specs.inside.Chained.{NoneFrom}
use Rattle.rv_pairs.specs.inside.Codes.{code}
use Rattle.rv_pairs.specs.inside.Standing.{has_code, writes_line}
use Rattle.rv_pairs.proofs.inside.Meeting.{barred, free_of, unnumbered}
use Rattle.rv_pairs.proofs.inside.Numbers.{code_fits}
use Rattle.rv_pairs.proofs.Undoing.{inverse_fits}
use Rattle.rv_pairs.proofs.walk.Walk.is_barred.Goals as goal

pub bound-requires : goal.bound-requires
bound-requires c =
    let lines = c.args.lines in
    omega (arith, c.code.ensures, ap code c.inverse.ensures, c.requires.stands.alike_count, code_fits (inverse c.args.op) lines c.requires.stands.few (inverse_fits c.args.op lines c.requires.fits))

pub returns-in-Some-clause-barred : goal.returns-in-Some-clause-barred
returns-in-Some-clause-barred c = λ blocked.
    let walk = c.args.self.now in
    let cells : Cells = walk.cells.items in
    let op = c.args.op in
    let stands = c.requires.stands in
    let place : ℕ = c.in-Some.place in
    let none : NoneFrom cells (has_code (code (inverse op))) (suc place) (length cells) =
    subst (λ n. NoneFrom cells (has_code n) (suc place) (length cells)) (c.code.ensures ∙ ap code c.inverse.ensures) (c.in-Some.ensures has_code cells (length cells) stands.alike).1 in
    barred cells op c.args.lines stands.few c.requires.fits stands.fitting place none
    (MatchBool-at_false _ _ (not-true _ blocked) (free_of writes_line cells c.deref.result.now (reads op) c.reads.result place c.is_free.result walk.writes c.deref.ensures.value c.reads.ensures c.is_free.ensures.free stands.written))

pub returns-in-None-clause-barred : goal.returns-in-None-clause-barred
returns-in-None-clause-barred c = λ is.
    let walk = c.args.self.now in
    let cells : Cells = walk.cells.items in
    let op = c.args.op in
    let stands = c.requires.stands in
    let none : NoneFrom cells (has_code (code (inverse op))) 0 (length cells) =
    subst (λ n. NoneFrom cells (has_code n) 0 (length cells)) (c.code.ensures ∙ ap code c.inverse.ensures) (c.in-None.ensures has_code cells (length cells) stands.alike) in
    unnumbered cells op c.args.lines stands.few c.requires.fits stands.fitting none
