use Rattle.std.proofs.Common.{◌≡◌, refl}
use Rattle.rv_ladder.specs.declared.mapping.RelativeFault.TheVariants.{TooManyLines, TooManyOps}
use Rattle.rv_ladder.proofs.mapping.relative.Goals as goal

-- the fault is the same, in another type of result
pub returns-in-Err-clause-too_many_lines : goal.returns-in-Err-clause-too_many_lines
returns-in-Err-clause-too_many_lines c n =
    let i = c.in-Err.ensures.too_many_lines n in
    (λ h. i.0 (let e : c.in-Err.fault ≡ TooManyLines n = cc h in rw e refl), λ h. (let g = i.1 h in let e : c.in-Err.fault ≡ TooManyLines n = cc g in rw e refl))

pub returns-in-Err-clause-too_many_ops : goal.returns-in-Err-clause-too_many_ops
returns-in-Err-clause-too_many_ops c n =
    let i = c.in-Err.ensures.too_many_ops n in
    (λ h. i.0 (let e : c.in-Err.fault ≡ TooManyOps n = cc h in rw e refl), λ h. (let g = i.1 h in let e : c.in-Err.fault ≡ TooManyOps n = cc g in rw e refl))
