use Rattle.std.proofs.Common.{◌≡◌, ◌++◌, ◌∷◌, [], length, sym, ap, arith, subst, Some}
use Rattle.std.specs.Prelude.{slice_get}
use Rattle.rv_gate.specs.Word.{has}
use Rattle.rv_pairs.specs.inside.Standing.{reads_line, writes_line}
use Rattle.rv_pairs.proofs.inside.Linked.{slice_get-last}
use Rattle.rv_pairs.proofs.inside.Numbers.{code_fits}
use Rattle.rv_pairs.proofs.inside.Walking.{stands_more}
use Rattle.rv_pairs.proofs.walk.Walk.push.Goals as goal

pub push-requires-2 : goal.push-requires-2
push-requires-2 c = omega (arith, c.code.ensures, c.requires.stands.alike_count, code_fits c.args.op c.args.lines c.requires.stands.few c.requires.fits)

pub returns-clause-stands : goal.returns-clause-stands
returns-clause-stands c =
    let walk = c.args.self.now in
    let op = c.args.op in
    let place : c.len-place.result ≡ length walk.cells.items = omega (arith, c.len-place.ensures, walk.cells.ok.0) in
    let there : slice_get (walk.cells.items ++ Some op ∷ []) c.len-place.result ≡ Some (Some op) =
    subst (λ n. slice_get (walk.cells.items ++ Some op ∷ []) n ≡ Some (Some op)) (sym place) (slice_get-last walk.cells.items (Some op)) in
    stands_more c.args.lines walk _ op c.code.result c.len-place.result c.requires.stands c.requires.fits place c.in_ok-push.ensures.items c.code.ensures
    (omega (arith, c.requires.stands.alike_count, code_fits op c.args.lines c.requires.stands.few c.requires.fits)) c.in_ok-push-2.ensures
    (λ are. c.in_ok-add.ensures.chains reads_line _ op there (λ slot. ap (λ n. has n slot) (sym c.reads.ensures)) are)
    (λ are. c.in_ok-add-2.ensures.chains writes_line _ op there (λ slot. ap (λ n. has n slot) (sym c.writes.ensures)) are)
    c.in_ok-add.ensures.count c.in_ok-add-2.ensures.count
