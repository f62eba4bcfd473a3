use Rattle.std.proofs.Common.{◌≡◌, ◌<◌, ◌≤◌, ℕ, List, sym, ◌∙◌, ap, arith}
use Rattle.rv_pla.specs.Pla.{TwoLevel}
use Rattle.rv_embed.specs.Classes.{largest_class}
use Rattle.rv_embed.specs.inside.Ranks.{ranks_of}
use Rattle.rv_embed.specs.Filled.{greedy, filled}
use Rattle.rv_pla.specs.Zeros.{zeros}
use Rattle.rv_embed.proofs.inside.Fillings.{zeros_fill, greedy_fills, filled_is_greedy, filled_is_zeros, few_words}
use Rattle.rv_embed.proofs.filled.filled.Goals as goal

-- the size that was counted
size_of : (xs items ys : List ℕ) (m : ℕ) → m ≡ largest_class xs → xs ≡ items → items ≡ ys → m ≡ largest_class ys
size_of xs items ys m e shown is = e ∙ ap largest_class (shown ∙ is)

is_greedy : (pla : TwoLevel) (m n : ℕ) → m ≡ largest_class (greedy pla) → n ≡ largest_class (zeros pla) → m < n → filled pla ≡ greedy pla
is_greedy pla m n a b h = filled_is_greedy pla (omega arith)

is_zeros : (pla : TwoLevel) (m n : ℕ) → m ≡ largest_class (greedy pla) → n ≡ largest_class (zeros pla) → n ≤ m → filled pla ≡ zeros pla
is_zeros pla m n a b h = filled_is_zeros pla (omega arith)

pub classes_of-requires-clause-few : goal.classes_of-requires-clause-few
classes_of-requires-clause-few c = rw (c.deref-2.ensures.value, c.in_ok-outputs.ensures.table) (few_words c.args.pla.now _ c.outputs.ensures.valid (zeros_fill c.args.pla.now))

pub classes_of-requires-2-clause-few : goal.classes_of-requires-2-clause-few
classes_of-requires-2-clause-few c = rw (c.deref-4.ensures.value, c.in_ok-others.ensures.table) (few_words c.args.pla.now _ c.outputs.ensures.valid (greedy_fills c.args.pla.now))

pub returns-then-other_classes-classes-clause-table : goal.returns-then-other_classes-classes-clause-table
returns-then-other_classes-classes-clause-table c =
    let m = size_of _ _ _ _ c.in_ok-other_classes.ensures.largest c.deref-4.ensures.value c.in_ok-others.ensures.table in
    let n = size_of _ _ _ _ c.in_ok-classes.ensures.largest c.deref-2.ensures.value c.in_ok-outputs.ensures.table in
    c.in_ok-others.ensures.table ∙ sym (is_greedy c.args.pla.now _ _ m n c.if-other_classes-classes.true)

pub returns-then-other_classes-classes-clause-ranks : goal.returns-then-other_classes-classes-clause-ranks
returns-then-other_classes-classes-clause-ranks c =
    let m = size_of _ _ _ _ c.in_ok-other_classes.ensures.largest c.deref-4.ensures.value c.in_ok-others.ensures.table in
    let n = size_of _ _ _ _ c.in_ok-classes.ensures.largest c.deref-2.ensures.value c.in_ok-outputs.ensures.table in
    c.in_ok-other_classes.ensures.ranks ∙ ap ranks_of (c.deref-4.ensures.value ∙ c.in_ok-others.ensures.table ∙ sym (is_greedy c.args.pla.now _ _ m n c.if-other_classes-classes.true))

pub returns-then-other_classes-classes-clause-largest : goal.returns-then-other_classes-classes-clause-largest
returns-then-other_classes-classes-clause-largest c =
    let m = size_of _ _ _ _ c.in_ok-other_classes.ensures.largest c.deref-4.ensures.value c.in_ok-others.ensures.table in
    let n = size_of _ _ _ _ c.in_ok-classes.ensures.largest c.deref-2.ensures.value c.in_ok-outputs.ensures.table in
    m ∙ ap largest_class (sym (is_greedy c.args.pla.now _ _ m n c.if-other_classes-classes.true))

pub returns-clause-table : goal.returns-clause-table
returns-clause-table c =
    let m = size_of _ _ _ _ c.in_ok-other_classes.ensures.largest c.deref-4.ensures.value c.in_ok-others.ensures.table in
    let n = size_of _ _ _ _ c.in_ok-classes.ensures.largest c.deref-2.ensures.value c.in_ok-outputs.ensures.table in
    c.in_ok-outputs.ensures.table ∙ sym (is_zeros c.args.pla.now _ _ m n c.if-other_classes-classes.false)

pub returns-clause-ranks : goal.returns-clause-ranks
returns-clause-ranks c =
    let m = size_of _ _ _ _ c.in_ok-other_classes.ensures.largest c.deref-4.ensures.value c.in_ok-others.ensures.table in
    let n = size_of _ _ _ _ c.in_ok-classes.ensures.largest c.deref-2.ensures.value c.in_ok-outputs.ensures.table in
    c.in_ok-classes.ensures.ranks ∙ ap ranks_of (c.deref-2.ensures.value ∙ c.in_ok-outputs.ensures.table ∙ sym (is_zeros c.args.pla.now _ _ m n c.if-other_classes-classes.false))

pub returns-clause-largest : goal.returns-clause-largest
returns-clause-largest c =
    let m = size_of _ _ _ _ c.in_ok-other_classes.ensures.largest c.deref-4.ensures.value c.in_ok-others.ensures.table in
    let n = size_of _ _ _ _ c.in_ok-classes.ensures.largest c.deref-2.ensures.value c.in_ok-outputs.ensures.table in
    n ∙ ap largest_class (sym (is_zeros c.args.pla.now _ _ m n c.if-other_classes-classes.false))
