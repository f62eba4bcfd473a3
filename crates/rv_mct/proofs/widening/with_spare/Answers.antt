use Rattle.std.proofs.Common.{◌≡◌, ◌∙◌, ◌&&◌, ◌∷◌, [], refl, List, ℕ, not, nat_lt, length, ◌+◌, ◌++◌, ap, arith, sym, subst}
use Rattle.std.specs.List.{Contains}
use Rattle.std.proofs.lemmas.Bool.{and_parts}
use Rattle.rv_gate.specs.Names.{numbered_name}
use Rattle.rv_mct.specs.Widened.{is_taken}
use Rattle.rv_mct.proofs.Names.{found-free, found-stays, found-step, found-whole, spare-IsName, spare_is, taken_not}
use Rattle.rv_mct.proofs.widening.with_spare.Goals as goal
use Rattle.rv_mct.proofs.widening.with_spare.Goals.{then-is_wanted+in_ok-add_name, else-is_wanted}

pub add_name-requires-clause-name : goal.add_name-requires-clause-name
add_name-requires-clause-name c =
    let is = spare_is c.args.spare.now c.loop-line.line c.name-name.result.now c.requires.spare (omega (arith, c.loop-line-test.true, c.len-line-end.ensures.len)) c.name-name.ensures in
    spare-IsName c.loop-line.line c.name-name.result.now is.0 is.1

pub add_name-requires-clause-free : goal.add_name-requires-clause-free
add_name-requires-clause-free c =
    let is = spare_is c.args.spare.now c.loop-line.line c.name-name.result.now c.requires.spare (omega (arith, c.loop-line-test.true, c.len-line-end.ensures.len)) c.name-name.ensures in
    let wanted = and_parts _ _ (sym c.is_wanted.ensures ∙ c.if-is_wanted.true) in
    λ there. found-free c.args.names.now c.args.extra c.loop-line.line c.name-name.result.now is.0 (taken_not _ wanted.1) is.1
    (subst (λ (names : List (List ℕ)). Contains names c.name-name.result.now) c.loop-line.invariant there)

pub loop-line-preserved : goal.loop-line-preserved
loop-line-preserved c =
    let is = spare_is c.args.spare.now c.loop-line.line c.name-name.result.now c.requires.spare (omega (arith, c.loop-line-test.true, c.len-line-end.ensures.len)) c.name-name.ensures in
    let lines : c.len.result ≡ length c.args.names.now = c.len.ensures.len in
    let same : (nat_lt (length c.loop-line.wide) (c.len.result + c.args.extra) && not (is_taken c.args.names.now c.name-name.result.now))
    ≡ (nat_lt (length c.loop-line.wide) (length c.args.names.now + c.args.extra) && not (is_taken c.args.names.now (numbered_name 122 c.loop-line.line))) = rw (lines, is.1) refl in
    elim c.if-is_wanted.branch [
      | then-is_wanted+in_ok-add_name w ↦
          w.wide-is ∙ w.in_ok-add_name.ensures ∙ ap (λ name. c.loop-line.wide ++ name ∷ []) is.1
          ∙ found-step c.args.names.now c.args.extra c.loop-line.line c.loop-line.wide c.loop-line.invariant (sym same ∙ sym c.is_wanted.ensures ∙ w.if-is_wanted.true)
      | else-is_wanted w ↦
          w.wide-is ∙ found-stays c.args.names.now c.args.extra c.loop-line.line c.loop-line.wide c.loop-line.invariant (sym same ∙ sym c.is_wanted.ensures ∙ w.if-is_wanted.false)
    ]

pub returns : goal.returns
returns c = found-whole c.args.names.now c.args.extra c.loop-line.line c.loop-line.wide c.loop-line.invariant (omega (arith, c.loop-line.auto.line-end, c.loop-line-test.false, c.len-line-end.ensures.len, ap length c.requires.spare))
