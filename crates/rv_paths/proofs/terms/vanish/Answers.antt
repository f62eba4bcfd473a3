use Rattle.std.proofs.Common.{◌≡◌, ◌+◌, ◌%◌, ◌≤◌, Bool, List, ℕ, ap, sym, ◌∙◌, length}
use Rattle.std.specs.Prelude.{IsTrue}
use Rattle.rv_paths.specs.declared.terms.Term.{Term}
use Rattle.rv_paths.specs.inside.Parity.{Eights, picked, value_from}
use Rattle.rv_paths.proofs.inside.Turning.{if_ok}
use Rattle.rv_paths.proofs.inside.Vanishing.{eights}
use Rattle.rv_paths.proofs.terms.vanish.Goals as goal

pub returns : goal.returns
returns c =
    let terms : List Term = c.args.terms.now in
    let some : List ℕ = c.in_ok-some.some.items in
    let P : Bool → Type 0 = λ found. IsTrue found → Eights c.args.from c.args.to (picked terms c.deref.result.now) in
    let Q : Bool → Type 0 =
    λ found. IsTrue found → (v : List Bool) → c.args.from + length v ≤ c.args.to → value_from c.args.from terms v % 8 ≡ 0 in
    if_ok c.are_eights.result P Q
    (λ found h holds v few.
    ap (λ (n : ℕ). n % 8) (sym (c.in_ok-some.ensures c.args.from v))
    ∙ ap (λ (l : List ℕ). value_from c.args.from (picked terms l) v % 8) (sym c.deref.ensures.value)
    ∙ eights c.args.from c.args.to (picked terms c.deref.result.now) (h holds) v few)
    c.are_eights.ensures
