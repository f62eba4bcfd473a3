-- The rewriting, step by step.
use Rattle.std.proofs.Common.{◌≡◌, ℕ, ◌+◌, ◌-◌, ◌<◌, ◌≤◌, min, List, [], length, take, drop, refl, sym, ◌∙◌, ap, arith, subst}
use Rattle.std.specs.List.{take-map}
use Rattle.std.specs.Prelude.{Option, Some, None, IfSome, IfNone}
use Rattle.std.proofs.lemmas.List.{length-map, append-nil, take-take}
use Rattle.rv_gate.specs.declared.word.TheConstants.{MOST_LINES}
use Rattle.rv_gate.specs.declared.gate.Shape.{Shape}
use Rattle.rv_links.specs.Nodes.{Node, gates_in, incidences}
use Rattle.rv_templ.specs.Gates.{AreGates, Same}
use Rattle.rv_templ.specs.Templates.{AreTemplates}
use Rattle.rv_templ.specs.Choices.{Found}
use Rattle.rv_templ.specs.Simplified.{step, simplified}
use Rattle.rv_templ.specs.inside.Clean.{Short, Clean, IsSpot}
use Rattle.rv_templ.specs.inside.Linking.{IsCursor}
use Rattle.rv_templ.specs.inside.Mates.{IsPairSpot}
use Rattle.rv_templ.specs.inside.Notes.{Noted, AllNoted, NoneNoted, IsKnown, coupled}
use Rattle.rv_templ.specs.declared.along.Cursor.{Cursor}
use Rattle.rv_templ.specs.declared.simplify.Known.{Known}
use Rattle.rv_templ.proofs.inside.CursorLaws.{cursor_kept}
use Rattle.rv_templ.proofs.inside.KeepingLaws.{chosen}
use Rattle.rv_templ.proofs.inside.LinkedPairs.{coupled_front}
use Rattle.rv_templ.proofs.inside.NoteLaws.{unknown_noted}
use Rattle.rv_templ.proofs.inside.NotesAfter.{window_right}
use Rattle.rv_templ.proofs.StepLaws.{change_better, simplified_on}
use Rattle.rv_templ.proofs.inside.WindowSteps.{still_clean}

-- ---- what a step leaves

gates_front : (nodes new : List Node) (place : ℕ) → take place new ≡ take place nodes → take place (gates_in nodes) ≡ take place (gates_in new)
gates_front nodes new place e = take-map (λ (n : Node). n.gate) place nodes ∙ ap gates_in (sym e) ∙ sym (take-map (λ (n : Node). n.gate) place new)

less_front : (nodes new : List Node) (place k : ℕ) → k ≤ place → take place new ≡ take place nodes → take k new ≡ take k nodes
less_front nodes new place k le e = sym (take-take k place new le) ∙ ap (take k) e ∙ take-take k place nodes le

pub known_pair : (library : List (List Shape)) (nodes new : List Node) (notes : List ℕ) (place a b most far : ℕ) (clean next due : Cursor) (s : IsPairSpot nodes place a b) → Short most library → Clean library (gates_in nodes) clean.place
    → new ≡ coupled nodes a b s.mate → next.place ≡ min clean.place (min place (place + 1 - most)) → IsCursor nodes next.place next.before → due.place ≤ place → IsCursor nodes due.place due.before
    → AllNoted notes (take due.place nodes) → Noted notes (coupled nodes a b s.mate) far → IsKnown library new notes next due far
known_pair library nodes new notes place a b most far clean next due s short none e ec c el l known right =
    let same : take place new ≡ take place nodes = ap (take place) e ∙ coupled_front nodes place a b s in
    record {
      windows = λ i lt. still_clean library (gates_in nodes) (gates_in new) clean.place place most short none (gates_front nodes new place same) i (omega (arith, lt, ec));
      clean_at = cursor_kept nodes new place next.place next.before same (omega (arith, ec)) c;
      right = subst (λ (l : List Node). Noted notes l far) (sym e) right;
      known = subst (λ (l : List Node). AllNoted notes l) (sym (less_front nodes new place due.place el same)) known;
      due_at = cursor_kept nodes new place due.place due.before same el l;
    }

pub known_window : (library : List (List Shape)) (nodes new : List Node) (notes : List ℕ) (place a most far : ℕ) (clean due : Cursor) (found : Found) → Short most library → IsSpot library nodes place a found → take place new ≡ take place nodes
    → clean.place ≡ min place (place + 1 - most) → IsCursor nodes clean.place clean.before → due.place ≡ min place (place - far) → IsCursor nodes due.place due.before
    → AllNoted notes (take due.place nodes) → NoneNoted notes (take (place - due.place + most) (drop due.place nodes)) → Noted notes nodes far
    → (NoneNoted notes (take found.count (drop place nodes)) → Noted notes (drop place nodes) far → Noted notes (drop place new) far) → IsKnown library new notes clean due far
known_window library nodes new notes place a most far clean due found short s same ec c el l known none right made =
    let gates : List Shape = gates_in nodes in
    let within = s.within in
    let w = chosen (drop place gates) library found s.exact in
    let few = short found.template w.template in
    let le : due.place ≤ place = omega (arith, el) in
    record {
      windows = λ i lt. still_clean library gates (gates_in new) place place most short s.clean (gates_front nodes new place same) i (omega (arith, lt, ec));
      clean_at = cursor_kept nodes new place clean.place clean.before same (omega (arith, ec)) c;
      right = window_right nodes new notes place a due.place found.count most far s.first (omega (arith, within, length-map nodes (λ (n : Node). n.gate))) (omega (arith, el)) le (let h = w.most in omega (arith, few, h)) none right same made;
      known = subst (λ (l : List Node). AllNoted notes l) (sym (less_front nodes new place due.place le same)) known;
      due_at = cursor_kept nodes new place due.place due.before same le l;
    }

-- ---- what holds between two steps

pub record Stepping (library : List (List Shape)) (n : ℕ) (gates list : List Shape) (known : Option Known) : Type 0 where
  pub value : simplified library gates ≡ simplified library list
  pub good : AreGates n list
  pub same : Same n gates list
  pub fewer : length list ≤ length gates
  pub no_more : incidences list ≤ incidences gates
  pub settled : IfNone known (step library list ≡ None)

-- one more where there may be a step
abbrev pub left : Option Known → ℕ
left None = 0
left (Some known) = 1

-- nothing is known
pub known_start : (library : List (List Shape)) (nodes : List Node) (notes : List ℕ) (clean due : Cursor) → clean.place ≡ 0 → clean.before ≡ None → due.place ≡ 0 → due.before ≡ None → NoneNoted notes nodes → IsKnown library nodes notes clean due 0
known_start library nodes notes clean due ec bc ed bd none = record {
  windows = λ i lt. absurd (omega (arith, lt, ec));
  clean_at = at_front clean ec bc;
  right = subst (λ (l : List Node). Noted notes l 0) (append-nil nodes) (unknown_noted notes nodes [] 0 none tt);
  known = subst (λ (k : ℕ). AllNoted notes (take k nodes)) (sym ed) tt;
  due_at = at_front due ed bd;
}
  where
    at_front : (c : Cursor) → c.place ≡ 0 → c.before ≡ None → IsCursor nodes c.place c.before
    at_front c e b = subst (λ (k : ℕ). IsCursor nodes k c.before) (sym e) (record { within = omega arith; node = b })

pub stepping_start : (library : List (List Shape)) (n : ℕ) (gates : List Shape) (known : Known) → AreGates n gates → Stepping library n gates gates (Some known)
stepping_start library n gates known g = record { value = refl; good = g; same = λ word len. refl; fewer = omega arith; no_more = omega arith; settled = tt }

pub stepping_more : (library : List (List Shape)) (n : ℕ) (gates list next : List Shape) (before after : Option Known) → AreTemplates library → n ≤ MOST_LINES → Stepping library n gates list before
    → IfSome after (λ k. step library list ≡ Some next) → IfNone after (step library list ≡ None) → IfNone after (next ≡ list) → Stepping library n gates next after
stepping_more library n gates list next before (Some k2) are few s made none kept =
    let better = change_better n library list next are few s.good made in
    record {
      value = s.value ∙ simplified_on n library list next are few s.good made;
      good = better.good;
      same = λ word len. s.same word len ∙ better.words word len;
      fewer = let l = better.fewer in let k = s.fewer in omega arith;
      no_more = let l = better.no_more in let k = s.no_more in omega arith;
      settled = tt;
    }
stepping_more library n gates list next before None are few s made none kept =
    subst (λ (x : List Shape). Stepping library n gates x None) (sym kept)
    (record { value = s.value; good = s.good; same = s.same; fewer = s.fewer; no_more = s.no_more; settled = none })

pub stepping_less : (library : List (List Shape)) (n : ℕ) (gates list next : List Shape) (before after : Option Known) → AreTemplates library → n ≤ MOST_LINES → Stepping library n gates list before
    → IfSome after (λ k. step library list ≡ Some next) → IfNone after (next ≡ list) → length next + left after < length list + 1
stepping_less library n gates list next before (Some k2) are few s made kept =
    let better = change_better n library list next are few s.good made in
    let k = better.fewer in
    omega arith
stepping_less library n gates list next before None are few s made kept = let l = ap length kept in omega arith

pub kept_gates : (now was : List Node) (o : Option Known) → IfNone o (now ≡ was) → IfNone o (gates_in now ≡ gates_in was)
kept_gates now was o h = grind arith
