use Rattle.std.proofs.Common.{◌≡◌, ◌+◌, ◌++◌, ◌∷◌, [], List, ap, sym, subst, ◌∙◌}
use Rattle.rv_gate.specs.declared.gate.Shape.{Shape}
use Rattle.rv_gate.specs.declared.gate.Shape.TheVariants.{Flip}
use Rattle.rv_compute.specs.declared.controls.Controls.{Controls}
use Rattle.rv_compute.specs.declared.controls.Controls.TheVariants.{Held}
use Rattle.rv_compute.specs.inside.Blocks.{AreControls, AddsMore, AreFew}
use Rattle.rv_compute.proofs.inside.Adding.{adds_never, adds_flip, few_flip}
use Rattle.rv_compute.proofs.inside.Asking.{told_serve}
use Rattle.rv_compute.proofs.block.push_product.Goals as goal

pub returns-in-Never-clause-adds : goal.returns-in-Never-clause-adds
returns-in-Never-clause-adds c on =
    let P : Controls → Type 0 = λ t. AreControls c.args.lines c.args.places.now c.args.product t in
    adds_never c.args.lines c.args.places.now c.args.target c.args.product c.args.gates.now.items
    (subst P c.in-Never.is c.controls_of.ensures.asks)

pub returns-in_ok-push-in-Some-clause-adds : goal.returns-in_ok-push-in-Some-clause-adds
returns-in_ok-push-in-Some-clause-adds c on =
    let P : Controls → Type 0 = λ t. AreControls c.args.lines c.args.places.now c.args.product t in
    let old = c.args.gates.now.items in
    let Q : List Shape → Type 0 =
    λ new. AddsMore c.args.lines c.args.places.now c.args.target c.args.product old new in
    let is : old ++ Flip c.in-Held.care c.in-Held.want c.args.target ∷ [] ≡ c.push.new.self.items =
    ap (λ (g : Shape). old ++ g ∷ []) (sym c.in-Some.ensures.1) ∙ sym c.in_ok-push-in-Some.ensures.items in
    subst Q is
    (adds_flip c.args.lines c.args.places.now c.args.target c.args.product c.in-Held.care c.in-Held.want old
    c.requires.target c.requires.beside (subst P c.in-Held.is c.controls_of.ensures.asks))

pub returns-in_ok-push-in-Some-clause-few : goal.returns-in_ok-push-in-Some-clause-few
returns-in_ok-push-in-Some-clause-few c there count few =
    let lines = c.args.lines in
    let old = c.args.gates.now.items in
    let care = c.in-Held.care in
    let want = c.in-Held.want in
    let target = c.args.target in
    let is : old ++ Flip care want target ∷ [] ≡ c.push.new.self.items =
    ap (λ (g : Shape). old ++ g ∷ []) (sym c.in-Some.ensures.1) ∙ sym c.in_ok-push-in-Some.ensures.items in
    subst (λ (new : List Shape). AreFew lines (count + 1) new) is
    (few_flip lines care want target count old c.in-Some.ensures.0 c.requires.target
    (told_serve lines target c.controls_of.result (Held care want) c.in-Held.is
    (c.controls_of.ensures.serves target c.requires.beside there)) few)
