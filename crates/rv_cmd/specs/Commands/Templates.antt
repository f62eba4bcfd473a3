-- `templates`: a circuit simplified by pairs and templates.
use Rattle.std.specs.Prelude.{◌≡◌, ℕ, ◌≤◌, false, List, [], ◌∷◌, ◌++◌, length, Option, Some, None, option_and_then, Ok}
use Rattle.rv_gate.specs.Circuit.{Cascade}
use Rattle.rv_gate.specs.declared.gate.Shape.{Shape}
use Rattle.rv_links.specs.Nodes.{incidences}
use Rattle.rv_real.specs.Reading.{real_of}
use Rattle.rv_real.specs.Text.{text_of}
use Rattle.rv_templ.specs.BuiltIn.{built_in}
use Rattle.rv_templ.specs.Gates.{Flips, Identity, Same}
use Rattle.rv_templ.specs.Simplified.{IsSimplifiedBy, NoStepLeft, simplified}
use Rattle.rv_templ.specs.Templates.{template_fault}
use Rattle.rv_templ.specs.declared.fault.LibFault.{LibFault}
use Rattle.rv_templ.specs.declared.fault.LibFault.TheVariants as template
use Rattle.rv_templ.specs.declared.image.TheConstants.{TEMPLATE_GATES, TEMPLATE_LINES}
use Rattle.rv_faults.specs.declared.fault.InputFault.TheVariants.{LongTemplate, NotIdentity, NotToffoli, WideTemplate}
use Rattle.rv_faults.specs.declared.fault.InputFault.{InputFault}
use Rattle.rv_inputs.specs.Formats.{circuit}
use Rattle.rv_cmd.specs.Limits.{Limit, LimitedText, no_fault, unlimited}
use Rattle.rv_cmd.specs.Row.{ReadsFirst, always_told, one, two}

-- ---- a template

-- why a circuit of so many lines is no template, by its fault
abbrev pub no_template : ℕ → LibFault → Option InputFault
no_template lines (template.TooWide count) = Some (WideTemplate count TEMPLATE_LINES)
no_template lines (template.TooLong count) = Some (LongTemplate count TEMPLATE_GATES)
no_template lines (template.NotToffoli place) = Some (NotToffoli place)
no_template lines (template.NotIdentity word image) = Some (NotIdentity lines word image)
no_template lines template.Mem = None

-- the second input has no fault as a template (`template_fault` is never want of memory)
abbrev pub template_limits : Cascade → List Limit
template_limits given = no_fault 1 (option_and_then (no_template (length given.names)) (template_fault given)) ∷ []

-- By `LimitsInTerms` this limit is kept exactly if it is a few flips on a few lines that change no word:
pub record CanBeTemplate (given : Cascade) : Type 0 where
  pub lines : length given.names ≤ TEMPLATE_LINES
  pub gates : length given.gates ≤ TEMPLATE_GATES
  pub flips : Flips given.gates
  pub identity : Identity (length given.names) given.gates

-- the built-in templates, and the gates of a circuit after them
abbrev pub library_with : Cascade → List (List Shape)
library_with given = built_in ++ given.gates ∷ []

-- ---- the report

abbrev pub simplified_by : List (List Shape) → Cascade → Cascade
simplified_by library c = record c { gates = simplified library c.gates }

abbrev pub simplified_report : Cascade → LimitedText
simplified_report c = unlimited (text_of (simplified_by built_in c))

abbrev pub templates_report : Cascade → Cascade → LimitedText
templates_report c given =
    record { limits = template_limits given; text = text_of (simplified_by (library_with given) c) }

-- Read back, the text is the simplified circuit: it does the same on every word, with no more gates, which touch no
-- more lines in sum, and neither a pair nor a window is left. Each step on the way made the first pair, or replaced the
-- first window where there was no pair.
pub record IsSimplified (library : List (List Shape)) (c : Cascade) (text : List ℕ) : Type 0 where
  pub read_back : real_of text ≡ Ok (simplified_by library c)
  pub same : Same (length c.names) c.gates (simplified library c.gates)
  pub fewer : length (simplified library c.gates) ≤ length c.gates
  pub no_more : incidences (simplified library c.gates) ≤ incidences c.gates
  pub settled : NoStepLeft library (simplified library c.gates)
  pub steps : IsSimplifiedBy library c.gates (simplified library c.gates)

-- by the built-in templates, or by a given one too
abbrev pub templates_row : Option (List ℕ) → ReadsFirst
templates_row None = one circuit simplified_report (IsSimplified built_in)
templates_row (Some name) =
    two circuit circuit templates_report (λ c given. false) always_told (λ c given. IsSimplified (library_with given) c)
