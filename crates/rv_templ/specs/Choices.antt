-- Which window is taken at a place.
use Rattle.std.specs.Prelude.{ℕ, zero, suc, ◌*◌, ◌&&◌, if◌then◌else◌, nat_le, nat_lt, List, [], ◌++◌, length, take, drop, slice_index_or, Option, None, option_map}
use Rattle.std.specs.Option.{option_or}
use Rattle.rv_templ.specs.declared.image.TheConstants.{TEMPLATE_LINES}
use Rattle.rv_gate.specs.declared.gate.Shape.{Shape}
use Rattle.rv_gate.specs.FirstAnswer.{first}
use Rattle.rv_templ.specs.Folds.{least}
use Rattle.rv_templ.specs.Images.{allowed, turned, replacement}

-- A window: its number of gates, the place of a template in the library, the gate with which the template begins, and
-- the lines that its lines become.
pub record Found : Type 0 where
  pub count : ℕ
  pub template : ℕ
  pub turn : ℕ
  pub lines : List ℕ

-- the least renaming by which the window is one of the template as it was turned
abbrev pub renaming : List Shape → List Shape → Option (List ℕ)
renaming window template = least (allowed window template) TEMPLATE_LINES []

-- the template at a place of the library
abbrev pub template_in : List (List Shape) → ℕ → List Shape
template_in library t = slice_index_or library t []

-- a window of a template that begins with its gate r
abbrev pub at_turn : List Shape → List Shape → ℕ → ℕ → Option Found
at_turn window template t r =
    option_map (λ to. record {
      count =
          length window;
      template = t;
      turn = r;
      lines = to;
    }) (renaming window (turned r template))

-- the least r; a window has more than half of the template's gates
unfoldable pub at_template : List Shape → List (List Shape) → ℕ → Option Found
at_template window library t =
    let m = length (template_in library t) in
    if nat_le (length window) m && nat_lt m (2 * length window)
    then first (at_turn window (template_in library t) t) 0 m else None

-- the least template
unfoldable pub at_count : List Shape → List (List Shape) → ℕ → Option Found
at_count gates library k = first (at_template (take k gates) library) 0 (length library)

-- the greatest number of gates, at most k
unfoldable pub at_most : List Shape → List (List Shape) → ℕ → Option Found
at_most gates library zero = None
at_most gates library (suc k) = option_or (at_count gates library (suc k)) (at_most gates library k)

-- the window that is taken at the first place of a list
abbrev pub window_at : List Shape → List (List Shape) → Option Found
window_at gates library = at_most gates library (length gates)

-- the list after its first gates were replaced
abbrev pub after : List Shape → List (List Shape) → Found → List Shape
after gates library found =
    replacement (take found.count gates) (turned found.turn (template_in library found.template)) found.lines
    ++ drop found.count gates
