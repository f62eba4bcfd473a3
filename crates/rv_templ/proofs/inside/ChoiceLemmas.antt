-- The steps of the search over templates, turns and counts.
use Rattle.std.proofs.Common.{◌≡◌, ℕ, zero, suc, ◌-◌, ◌*◌, ◌<◌, ◌≤◌, List, [], ◌∷◌, length, take, get_or, refl, sym, ap, arith}
use Rattle.std.specs.Option.{option_or}
use Rattle.std.specs.Prelude.{Option, None, option_map}
use Rattle.std.specs.Global.{Vec}
use Rattle.std.proofs.lemmas.List.{length-map}
use Rattle.rv_gate.specs.declared.gate.Shape.{Shape}
use Rattle.rv_gate.specs.FirstAnswer.{first}
use Rattle.rv_templ.specs.Images.{turned}
use Rattle.rv_templ.specs.Choices.{renaming, template_in, at_turn, at_template, at_count, at_most, Found}
use Rattle.rv_templ.specs.Templates.{IsTemplate, AreTemplates}
use Rattle.rv_templ.specs.inside.Library.{templates_in}

pub template_at : (templates : List (Vec Shape)) (t : ℕ) (v : Vec Shape) → t < length templates → v ≡ get_or templates t v → template_in (templates_in templates) t ≡ v.items
template_at [] t v h e = absurd (omega arith)
template_at (x ∷ xs) zero v h e = ap (λ (y : Vec Shape). y.items) (sym e)
template_at (x ∷ xs) (suc t) v h e = template_at xs t v (omega arith) e

pub are_at : (library : List (List Shape)) (t : ℕ) → AreTemplates library → t < length library → IsTemplate (template_in library t)
are_at [] t a h = absurd (omega arith)
are_at (x ∷ xs) zero a h = a.0
are_at (x ∷ xs) (suc t) a h = are_at xs t a.1 (omega arith)

pub length-templates : (templates : List (Vec Shape)) → length (templates_in templates) ≡ length templates
length-templates templates = length-map templates (λ template. template.items)

pub turns_of : (window : List Shape) (library : List (List Shape)) (t : ℕ) → length window ≤ length (template_in library t) → length (template_in library t) < 2 * length window
    → at_template window library t ≡ first (at_turn window (template_in library t) t) 0 (length (template_in library t))
unfolding at_template
turns_of window library t a b = grind arith

pub too_short : (window : List Shape) (library : List (List Shape)) (t : ℕ) → length (template_in library t) < length window → at_template window library t ≡ None
unfolding at_template
too_short window library t a = grind arith

pub too_long : (window : List Shape) (library : List (List Shape)) (t : ℕ) → 2 * length window ≤ length (template_in library t) → at_template window library t ≡ None
unfolding at_template
too_long window library t b = grind arith

-- what the search for a renaming found is the answer at a turn
pub turn_found : (window template : List Shape) (t r : ℕ) (o : Option (List ℕ)) → o ≡ renaming window (turned r template)
    → at_turn window template t r ≡ option_map (λ to. record { count = length window; template = t; turn = r; lines = to }) o
turn_found window template t r o e = ap (option_map (λ to. record { count = length window; template = t; turn = r; lines = to })) (sym e)

pub most_found : (gates : List Shape) (library : List (List Shape)) (k : ℕ) (o : Option Found) → 0 < k → o ≡ first (at_template (take k gates) library) 0 (length library)
    → at_most gates library k ≡ option_or o (at_most gates library (k - 1))
unfolding at_most at_count
most_found gates library k o h h1 = grind arith

pub most_none : (gates : List Shape) (library : List (List Shape)) → at_most gates library 0 ≡ None
unfolding at_most
most_none gates library = refl
