use Rattle.std.proofs.Common.{◌++◌, List, ℕ, ap, codes}
use Rattle.rv_io.proofs.Adding.{adds_then, adds_as}
use Rattle.rv_faults.proofs.message.put_reason.Goals as goal

pub returns-in-CannotRead : goal.returns-in-CannotRead
returns-in-CannotRead g c =
    rw c.in-CannotRead.is
    (adds_as (ap (λ (name : List ℕ). codes "cannot read " ++ name) c.as_bytes.ensures.value) (adds_then c.put.ensures c.put-in-CannotRead.ensures))
