use Rattle.std.proofs.Common.{◌≡◌, arith, ap, refl, [], ◌∷◌, ◌++◌, nat_lt, length}
use Rattle.rv_text.specs.Found.{lexeme_at}
use Rattle.rv_real.specs.Body.{with_operand}
use Rattle.rv_real.specs.inside.Operands.{operand_in}
use Rattle.rv_real.proofs.InOrder.{token_ok, token_fails}
use Rattle.rv_real.proofs.inside.OperandLemmas.{Gathers-push, operand_ok, operand_fails}
use Rattle.rv_real.proofs.operands.read_operands.Goals as goal

pub loop-found-init : goal.loop-found-init
loop-found-init c = record { within = c.requires.from; count = omega (arith, (c.none-kept.ensures 0 0).count); so_far = []; gathers = c.none-kept.ensures _ _; rest = refl }

pub returns-in-Err : goal.returns-in-Err
returns-in-Err c =
    let so_far = c.loop-found.invariant.so_far in
    let control : nat_lt c.loop-found.kept.count c.args.controls ≡ nat_lt (length so_far) c.args.controls = ap (λ n. nat_lt n c.args.controls) c.loop-found.invariant.gathers.count in
    token_fails (with_operand c.args.names.now c.args.controls) so_far c.args.line.now c.loop-found.at c.in-Some.found _ c.in-Err.stop c.in-Some.ensures.exact
    (operand_fails c.args.names.now c.args.controls so_far (lexeme_at c.args.line.now c.in-Some.found) c.in-Err.stop _ control (c.in-Err.ensures.gives c.in-Some.found.closed)) c.loop-found.invariant.rest

pub loop-found-preserved : goal.loop-found-preserved
loop-found-preserved c =
    let so_far = c.loop-found.invariant.so_far in
    let control : nat_lt c.loop-found.kept.count c.args.controls ≡ nat_lt (length so_far) c.args.controls = ap (λ n. nat_lt n c.args.controls) c.loop-found.invariant.gathers.count in
    rw (c.after-at.ensures, c.pushed-kept.ensures) (record {
      within = omega (arith, c.in-Some.ensures.within);
      count = omega (arith, c.in-Some.ensures.within, c.loop-found.invariant.count);
      so_far = so_far ++ operand_in c.in-Ok.operand ∷ [];
      gathers = Gathers-push _ _ so_far c.loop-found.kept (operand_in c.in-Ok.operand) _ c.loop-found.invariant.gathers c.in-Ok.ensures.below refl;
      rest = token_ok (with_operand c.args.names.now c.args.controls) so_far (so_far ++ operand_in c.in-Ok.operand ∷ []) c.args.line.now c.loop-found.at c.in-Some.found _ c.in-Some.ensures.exact
          (operand_ok c.args.names.now c.args.controls so_far (lexeme_at c.args.line.now c.in-Some.found) (operand_in c.in-Ok.operand) _ control (c.in-Ok.ensures.gives c.in-Some.found.closed)) c.loop-found.invariant.rest;
    })
