use Rattle.std.proofs.Common.{◌≡◌, ◌+◌, ◌^◌, ◌≤◌, ℕ, List, max, length, sym, ◌∙◌, ap, subst, arith, rules}
use Rattle.rv_pla.specs.Pla.{TwoLevel, IsTwoLevel}
use Rattle.rv_perm.specs.Perm.{IsPerm}
use Rattle.rv_embed.specs.Filled.{filled}
use Rattle.rv_embed.specs.Classes.{largest_class}
use Rattle.rv_embed.specs.Least.{NoCircuitHasFewer}
use Rattle.rv_embed.specs.Embedding.{least_power, least_lines, embedded_images, embedding_of}
use Rattle.rv_embed.proofs.inside.ClassLemmas.{largest_class-le}
use Rattle.rv_embed.proofs.Circuits.{no-circuit}
use Rattle.rv_embed.proofs.inside.Fewest.{none_has_fewer}
use Rattle.rv_embed.proofs.inside.Fillings.{few_words, filled_fills, filled_classes}
use Rattle.rv_embed.proofs.ImageLemmas.{embedded_images-permute}
use Rattle.rv_embed.proofs.inside.Realizing.{embeds}
use Rattle.rv_embed.proofs.embedding.embed.Goals as goal

-- the number of lines that is computed
lines_of : (pla : TwoLevel) (lines i o bits largest : ℕ) → lines ≡ max i (o + bits) → i ≡ pla.inputs → o ≡ pla.outputs → bits ≡ least_power largest → largest ≡ largest_class (filled pla)
    → lines ≡ least_lines pla
lines_of pla lines i o bits largest l ei eo b c =
    let same : bits ≡ least_power (largest_class (filled pla)) = b ∙ ap least_power c in
    omega arith

-- images of the same numbers
embedded_at : (images outputs others : List ℕ) (lines inputs outs i o : ℕ) → images ≡ embedded_images lines inputs outs outputs → inputs ≡ i → outs ≡ o → outputs ≡ others
    → images ≡ embedded_images lines i o others
embedded_at images outputs others lines inputs outs i o e ei eo t = e ∙ ap (λ k. embedded_images lines k outs outputs) ei ∙ ap (λ k. embedded_images lines i k outputs) eo ∙ ap (embedded_images lines i o) t

-- the images on the least number of lines
images_permute : (pla : TwoLevel) (images : List ℕ) (n : ℕ) → IsTwoLevel pla → n ≡ least_lines pla → n ≤ 16 → images ≡ embedded_images n pla.inputs pla.outputs (filled pla) → IsPerm n images
images_permute pla images n t e most is =
    let p = embedded_images-permute n pla.inputs pla.outputs (filled pla) (omega arith) (omega arith) (filled_fills pla).below in
    rw is (omega (arith, t.some_inputs), most, p.len, p.once)

pub least_power-requires : goal.least_power-requires
least_power-requires c =
    let few = few_words c.args.pla.now (filled c.args.pla.now) c.outputs.ensures.valid (filled_fills c.args.pla.now) in
    let le = largest_class-le (filled c.args.pla.now) in
    omega (arith, c.in_ok-outputs.ensures.largest)

pub returns-then-lines-gt-MOST_PERM_LINES-clause-needed : goal.returns-then-lines-gt-MOST_PERM_LINES-clause-needed
returns-then-lines-gt-MOST_PERM_LINES-clause-needed c unfree n e m h =
    let told : c.max-lines.result ≡ n = cc in
    let least = lines_of c.args.pla.now c.max-lines.result c.inputs.result c.outputs.result c.least_power.result _ c.max-lines.ensures c.inputs.ensures.value c.outputs.ensures.value c.least_power.ensures.value c.in_ok-outputs.ensures.largest in
    let fewest = none_has_fewer c.args.pla.now unfree m h in
    omega arith

pub returns-then-lines-gt-MOST_PERM_LINES-clause-no_circuit_needs : goal.returns-then-lines-gt-MOST_PERM_LINES-clause-no_circuit_needs
returns-then-lines-gt-MOST_PERM_LINES-clause-no_circuit_needs c unfree n e =
    let told : c.max-lines.result ≡ n = cc in
    let least = lines_of c.args.pla.now c.max-lines.result c.inputs.result c.outputs.result c.least_power.result _ c.max-lines.ensures c.inputs.ensures.value c.outputs.ensures.value c.least_power.ensures.value c.in_ok-outputs.ensures.largest in
    subst (NoCircuitHasFewer c.args.pla.now) (sym least ∙ told) (no-circuit c.args.pla.now (least_lines c.args.pla.now) (none_has_fewer c.args.pla.now unfree))

pub embedded_images-requires-clause-count : goal.embedded_images-requires-clause-count
embedded_images-requires-clause-count c =
    ap length (c.deref.ensures.value ∙ c.in_ok-outputs.ensures.table) ∙ (filled_fills c.args.pla.now).size ∙ ap (λ k. 2 ^ k) (sym c.inputs-2.ensures.value)

pub from_images-requires : goal.from_images-requires
from_images-requires c =
    let least = lines_of c.args.pla.now c.max-lines.result c.inputs.result c.outputs.result c.least_power.result _ c.max-lines.ensures c.inputs.ensures.value c.outputs.ensures.value c.least_power.ensures.value c.in_ok-outputs.ensures.largest in
    images_permute c.args.pla.now c.deref-3.result.now c.max-lines.result c.outputs.ensures.valid least (omega arith)
    (c.deref-3.ensures.value ∙ embedded_at _ _ _ _ _ _ _ _ c.in_ok-images.ensures c.inputs-2.ensures.value c.outputs-2.ensures.value (c.deref.ensures.value ∙ c.in_ok-outputs.ensures.table))

pub returns-clause-embeds : goal.returns-clause-embeds
returns-clause-embeds c =
    let e : c.marked.result ≡ embedding_of c.args.pla.now = search rules in
    rw e (embeds c.args.pla.now)

pub returns-clause-least : goal.returns-clause-least
returns-clause-least c unfree m h =
    let e : c.marked.result ≡ embedding_of c.args.pla.now = search rules in
    let fewest = none_has_fewer c.args.pla.now unfree m h in
    rw e fewest

pub returns-clause-no_circuit : goal.returns-clause-no_circuit
returns-clause-no_circuit c unfree =
    let e : c.marked.result ≡ embedding_of c.args.pla.now = search rules in
    rw e (no-circuit c.args.pla.now (least_lines c.args.pla.now) (none_has_fewer c.args.pla.now unfree))

pub returns-clause-classes : goal.returns-clause-classes
returns-clause-classes c = filled_classes c.args.pla.now
