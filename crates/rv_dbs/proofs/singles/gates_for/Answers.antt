use Rattle.std.proofs.Common.{◌≡◌, ◌-◌, ◌++◌, ℕ, List, [], ap, sym, ◌∙◌, subst}
use Rattle.rv_gate.specs.declared.gate.Shape.{Shape}
use Rattle.rv_dbs.specs.Singles.{singles, singles_from}
use Rattle.rv_dbs.specs.Meaning.{IsSingles}
use Rattle.rv_dbs.proofs.Stepped.{all_singles}
use Rattle.rv_dbs.proofs.singles.gates_for.Goals as goal

from_none : (n m : ℕ) (images : List ℕ) (none gates : List Shape) → m ≡ n → none ≡ [] → gates ≡ none ++ singles_from n (m - 1) images → gates ≡ singles n images
from_none n m images none gates e z is = is ∙ ap (λ g. g ++ singles_from n (m - 1) images) z ∙ ap (λ j. singles_from n (j - 1) images) e

pub returns-clause-means : goal.returns-clause-means
returns-clause-means c =
    let P : List Shape → Type 0 = IsSingles c.args.perm.now.lines c.args.perm.now.images in
    subst P (sym (from_none _ _ _ _ _ c.lines-lines.ensures.value c.new-gates.ensures.items c.in_ok-push_singles.ensures))
    (all_singles c.args.perm.now.lines c.args.perm.now.images c.lines-lines.ensures.valid)
