-- A window that may be replaced.
use Rattle.std.specs.Prelude.{◌≡◌, ℕ, ◌<◌, ◌≤◌, true, List, length, take}
use Rattle.rv_gate.specs.declared.gate.Shape.{Shape}
use Rattle.rv_gate.specs.declared.word.TheConstants.{MOST_LINES}
use Rattle.rv_templ.specs.declared.image.TheConstants.{TEMPLATE_GATES, TEMPLATE_LINES}
use Rattle.rv_templ.specs.Images.{span, turned, new_line, fresh_care, fresh_want, allowed, replacement}
use Rattle.rv_templ.specs.Gates.{AreGates, Same}
use Rattle.rv_templ.specs.Templates.{IsTemplate}
use Rattle.rv_templ.specs.Choices.{Found, template_in}
use Rattle.rv_links.specs.Nodes.{incidences}

-- a window that may be replaced, with what is known of its gates
pub record Replaced (window t : List Shape) (r : ℕ) (to : List ℕ) : Type 0 where
  pub template : IsTemplate t
  pub turn : r < length t
  pub some : 0 < length window
  pub room : length window ≤ length t
  pub passes : allowed window (turned r t) to ≡ true
  pub lines : ℕ
  pub most : lines ≤ MOST_LINES
  pub good : AreGates lines window

-- the controls of the window's first gate on lines that are none of the renamed ones
abbrev pub care_found : List Shape → List (List Shape) → Found → ℕ
care_found gates library found =
    fresh_care (take found.count gates) (span (template_in library found.template)) found.lines

abbrev pub want_found : List Shape → List (List Shape) → Found → ℕ
want_found gates library found =
    fresh_want (take found.count gates) (span (template_in library found.template)) found.lines

-- the gates that come in the place of the window that was found
abbrev pub gates_for : List Shape → List (List Shape) → Found → List Shape
gates_for gates library found =
    replacement (take found.count gates) (turned found.turn (template_in library found.template)) found.lines

-- what is known of the window that was found, and of the gates that come in its place
pub record Here (n : ℕ) (library : List (List Shape)) (gates : List Shape) (found : Found) : Type 0 where
  pub count : found.count ≤ TEMPLATE_GATES
  pub here : found.count ≤ length gates
  pub template : found.template < length library
  pub lines : (i : ℕ) → i < TEMPLATE_LINES → new_line found.lines i < MOST_LINES
  pub replaced : Replaced (take found.count gates) (template_in library found.template) found.turn found.lines
  pub same : Same n (take found.count gates) (gates_for gates library found)
  pub good : AreGates n (gates_for gates library found)
  pub fewer : length (gates_for gates library found) < found.count
  pub no_more : incidences (gates_for gates library found) ≤ incidences (take found.count gates)

-- what a replacement keeps
pub record Improves (n : ℕ) (gates new : List Shape) : Type 0 where
  pub same : Same n gates new
  pub good : AreGates n new
  pub fewer : length new < length gates
  pub no_more : incidences new ≤ incidences gates
