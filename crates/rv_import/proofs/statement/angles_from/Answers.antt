use Rattle.std.proofs.Common.{◌+◌, ◌∙◌, ap, ap₂, arith, bytes_eq, drop, sym, ℕ}
use Rattle.std.proofs.lemmas.List.{drop_all, length-map}
use Rattle.std.specs.Global.{Vec}
use Rattle.rv_import.specs.Angles.{angles_step}
use Rattle.rv_import.specs.Statement.{angles_from, bytes_of}
use Rattle.rv_import.proofs.Tokens.{angles-closed, angles-none, angles-on}
use Rattle.rv_import.proofs.statement.angles_from.Goals as goal

pub returns-then-eq-clause-exact : goal.returns-then-eq-clause-exact
returns-then-eq-clause-exact c =
    let xs = bytes_of c.args.tokens.now in
    let e = ap₂ bytes_eq (sym c.token_at-token.ensures) (sym c.as_slice.ensures) ∙ sym c.eq.ensures ∙ c.if-eq.true in
    c.read_to.ensures.exact xs
    ∙ sym (c.loop-index.invariant ∙ angles-closed c.loop-index.angles xs c.loop-index.index (omega (arith, c.loop-index-test.true, length-map c.args.tokens.now (λ (token : Vec ℕ). token.items))) e)

pub loop-index-preserved : goal.loop-index-preserved
loop-index-preserved c =
    let xs = bytes_of c.args.tokens.now in
    let e = ap₂ bytes_eq (sym c.token_at-token.ensures) (sym c.as_slice.ensures) ∙ sym c.eq.ensures ∙ c.if-eq.false in
    c.loop-index.invariant
    ∙ angles-on c.loop-index.angles xs c.loop-index.index (omega (arith, c.loop-index-test.true, length-map c.args.tokens.now (λ (token : Vec ℕ). token.items))) e
    ∙ ap (λ a. angles_from a (drop (c.loop-index.index + 1) xs)) (ap (angles_step c.loop-index.angles) (sym c.token_at-token.ensures) ∙ sym c.step.ensures)

pub returns-clause-exact : goal.returns-clause-exact
returns-clause-exact c =
    let xs = bytes_of c.args.tokens.now in
    sym (c.loop-index.invariant
    ∙ ap (angles_from c.loop-index.angles) (drop_all c.loop-index.index xs (omega (arith, c.loop-index-test.false, length-map c.args.tokens.now (λ (token : Vec ℕ). token.items))))
    ∙ angles-none c.loop-index.angles)
