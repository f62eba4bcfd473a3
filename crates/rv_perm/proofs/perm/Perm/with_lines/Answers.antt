use Rattle.std.proofs.Common.{ℕ, Result, Ok, List, sym, ◌∙◌, ap, inl, inr}
use Rattle.std.proofs.lemmas.Result.{err_from_is_err_and}
use Rattle.rv_perm.specs.declared.fault.PermFault.{PermFault}
use Rattle.rv_perm.specs.Perm.{Table}
use Rattle.rv_perm.proofs.inside.Tables.{checked_ok, checked_err}
use Rattle.rv_perm.proofs.perm.Perm.with_lines.Goals as goal

pub returns-in_err-preimages-clause-fault : goal.returns-in_err-preimages-clause-fault
returns-in_err-preimages-clause-fault c =
    let p = err_from_is_err_and c.from_residual.result c.from_residual.ensures.1 in
    rw (p.1, p.2)
    (elim c.in_err-preimages.ensures.fault [
      | inl mem ↦ inl mem
      | inr fault ↦ inr (checked_err c.args.lines c.args.numbers.now _ fault)
    ])

abbrev tabled : ℕ → List ℕ → Table
tabled n xs = record { lines = n; images = xs }

abbrev answered : ℕ → List ℕ → Result Table PermFault
answered n xs = Ok (tabled n xs)

pub returns-clause-table : goal.returns-clause-table
returns-clause-table c = checked_ok c.args.lines c.args.numbers.now c.in_ok-preimages.ensures.none ∙ ap (λ (xs : List ℕ). answered c.args.lines xs) (sym c.in-Ok.ensures.items)
