-- What the chosen window is, and what its replacement keeps.
use Rattle.std.proofs.Common.{◌≡◌, ℕ, zero, suc, ◌*◌, ◌<◌, ◌≤◌, true, List, [], ◌++◌, length, take, drop, sym, ◌∙◌, ap, arith, subst, take-append-drop, length-append}
use Rattle.std.specs.Prelude.{Some}
use Rattle.std.proofs.lemmas.Bool.{and_parts, leb-true, ltb-true}
use Rattle.std.proofs.lemmas.Option.{none-some}
use Rattle.std.proofs.lemmas.List.{length-take-le, take-map}
use Rattle.rv_gate.specs.declared.word.TheConstants.{MOST_LINES}
use Rattle.rv_links.specs.Nodes.{incidences}
use Rattle.rv_templ.specs.Gates.{AreGates, Same}
use Rattle.rv_gate.specs.Word.{has}
use Rattle.rv_gate.specs.declared.gate.Shape.{Shape}
use Rattle.rv_templ.specs.Images.{span, turned, image_of, image, fresh_care, fresh_want, others, allowed}
use Rattle.rv_templ.specs.Templates.{AreTemplates}
use Rattle.rv_templ.specs.Choices.{renaming, template_in, at_turn, at_template, at_count, at_most, window_at, after, Found}
use Rattle.rv_templ.specs.Windows.{IsWindow}
use Rattle.rv_templ.specs.inside.Replaced.{Here, Improves, gates_for, want_found, care_found}
use Rattle.rv_templ.proofs.inside.FoldLemmas.{first_some}
use Rattle.rv_templ.proofs.WindowLaws.{plain_at, allowed_parts, apart_from, window_is, turned_template, length-turned, span_turned, stands, replaces, shorter, replaced_same, within_at, span_from}
use Rattle.rv_templ.proofs.GateLists.{AreGates-first, AreGates-last, AreGates-append}
use Rattle.rv_templ.proofs.inside.Incidences.{incidences-append, incidences-reverse}
use Rattle.rv_templ.proofs.inside.ChoiceLemmas.{are_at}
use Rattle.rv_templ.proofs.MeaningLaws.{Small, small_at, least_some, drop-image}
use Rattle.rv_templ.proofs.Options.{or_some, map_some}

-- ---- what was chosen

pub record Chosen (gates : List Shape) (library : List (List Shape)) (found : Found) : Type 0 where
  pub some : 0 < found.count
  pub here : found.count ≤ length gates
  pub template : found.template < length library
  pub turn : found.turn < length (template_in library found.template)
  pub most : found.count ≤ length (template_in library found.template)
  pub half : length (template_in library found.template) < 2 * found.count
  pub six : length found.lines ≡ 6
  pub small : Small found.lines
  pub allowed : allowed (take found.count gates) (turned found.turn (template_in library found.template)) found.lines ≡ true

most_some : (gates : List Shape) (library : List (List Shape)) (k : ℕ) (found : Found) → at_most gates library k ≡ Some found
    → (j : ℕ) × (0 < j) × (j ≤ k) × (at_count gates library j ≡ Some found)
unfolding at_most
most_some gates library zero found e = absurd (none-some found e)
most_some gates library (suc k) found e = let i0 = most_some gates library k found in grind (arith, i0, or_some)

count_some : (gates : List Shape) (library : List (List Shape)) (k : ℕ) (found : Found) → at_count gates library k ≡ Some found
    → (t : ℕ) × (t < length library) × (at_template (take k gates) library t ≡ Some found)
unfolding at_count
count_some gates library k found e = grind (arith, first_some, at_template)

template_some : (window : List Shape) (library : List (List Shape)) (t : ℕ) (found : Found) → at_template window library t ≡ Some found
    → (length window ≤ length (template_in library t)) × (length (template_in library t) < 2 * length window)
    × (r : ℕ) × (r < length (template_in library t)) × (at_turn window (template_in library t) t r ≡ Some found)
unfolding at_template
template_some window library t found e =
    grind (arith, template_in, at_turn, and_parts, first_some, leb-true, ltb-true, none-some)

pub chosen : (gates : List Shape) (library : List (List Shape)) (found : Found) → window_at gates library ≡ Some found → Chosen gates library found
chosen gates library found e =
    let m = most_some gates library (length gates) found e in
    let k : ℕ = m.0 in
    let c = count_some gates library m.0 found m.3 in
    let t = template_some (take m.0 gates) library c.0 found c.2 in
    let o = map_some (λ to. record { count = length (take m.0 gates); template = c.0; turn = t.2; lines = to }) (renaming (take m.0 gates) (turned t.2 (template_in library c.0))) found t.4 in
    let l = least_some (allowed (take m.0 gates) (turned t.2 (template_in library c.0))) 6 [] o.0 o.1 in
    let len : length (take m.0 gates) ≡ m.0 = length-take-le m.0 gates m.2 in
    let six : length o.0 ≡ 6 = ap length l.goes_on ∙ l.len in
    let a = t.0 in
    let b = t.1 in
    subst (λ (f : Found). Chosen gates library f) o.2
    (record {
      some = omega (arith, len, m.1);
      here = omega (arith, len, m.2);
      template = c.1;
      turn = t.3;
      most = t.0;
      half = t.1;
      six = six;
      small = subst (λ (x : List ℕ). Small x) (sym l.goes_on) l.small;
      allowed = ap (λ n. allowed (take n gates) (turned t.2 (template_in library c.0)) o.0) len ∙ l.passes;
    })

-- ---- what it keeps

pub here : (n : ℕ) (library : List (List Shape)) (gates : List Shape) (found : Found) → AreTemplates library → n ≤ MOST_LINES → AreGates n gates → window_at gates library ≡ Some found
    → Here n library gates found
here n library gates found are most good e =
    let c = chosen gates library found e in
    let t0 : List Shape = template_in library found.template in
    let t : List Shape = turned found.turn (template_in library found.template) in
    let window : List Shape = take found.count gates in
    let len : length (take found.count gates) ≡ found.count = length-take-le found.count gates c.here in
    let len_t : length t ≡ length t0 = length-turned found.turn t0 in
    let g : AreGates n window = AreGates-first n window (drop found.count gates) (subst (λ (l : List Shape). AreGates n l) (sym (take-append-drop found.count gates)) good) in
    let is = are_at library found.template are c.template in
    let some : 0 < length window = let a = c.some in omega (arith, len) in
    let room : length window ≤ length t0 = let a = c.most in omega (arith, len) in
    let half : length t < 2 * length window = let a = c.half in omega (arith, len, len_t) in
    let s = shorter window t found.lines half in
    let a = allowed_parts window t found.lines c.allowed in
    let r = replaces n window t found.lines g most (turned_template found.turn t0 is) some (omega (arith, room, len_t)) c.allowed in
    record {
      count = let few = is.few in omega (arith, room, len);
      here = c.here;
      template = c.template;
      lines = λ i h. small_at found.lines i c.small (omega (arith, h, c.six));
      replaced = record { template = is; turn = c.turn; some = some; room = room; passes = c.allowed; lines = n; most = most; good = g };
      same = r.same;
      good = r.good;
      fewer = omega (arith, s, len);
      no_more = let few = leb-true _ _ a.fewer in let i = incidences-reverse (others (length window) t found.lines (fresh_care window (span t) found.lines) (fresh_want window (span t) found.lines)) in omega (arith, few, i);
    }

pub kept : (n : ℕ) (gates : List Shape) (library : List (List Shape)) (found : Found) → AreGates n gates → Here n library gates found → Improves n gates (after gates library found)
kept n gates library found good h =
    let window : List Shape = take found.count gates in
    let rest : List Shape = drop found.count gates in
    let new : List Shape = gates_for gates library found in
    let whole : window ++ rest ≡ gates = take-append-drop found.count gates in
    let len = length-take-le found.count gates h.here in
    record {
      same = subst (λ (l : List Shape). Same n l (new ++ rest)) whole (replaced_same n window new rest h.same);
      good = AreGates-append n new rest h.good (AreGates-last n window rest (subst (λ (l : List Shape). AreGates n l) (sym whole) good));
      fewer = omega (arith, h.fewer, len, length-append new rest, length-append window rest, ap length whole);
      no_more = omega (arith, h.no_more, incidences-append new rest, incidences-append window rest, ap incidences whole);
    }

pub is_window : (n : ℕ) (gates : List Shape) (library : List (List Shape)) (found : Found) → Chosen gates library found → Here n library gates found
    → IsWindow gates library found (care_found gates library found) (want_found gates library found)
is_window n gates library found c h =
    let t0 : List Shape = template_in library found.template in
    let t : List Shape = turned found.turn (template_in library found.template) in
    let window : List Shape = take found.count gates in
    let w = h.replaced in
    let len : length (take found.count gates) ≡ found.count = length-take-le found.count gates c.here in
    let room : length window ≤ length t = let a = w.room in omega (arith, length-turned found.turn t0) in
    let own : span t ≡ span t0 = span_turned found.turn t0 in
    let st = stands w.lines window t found.lines w.good w.most (turned_template found.turn t0 w.template) w.some room c.allowed in
    let a = allowed_parts window t found.lines c.allowed in
    let care : ℕ = fresh_care window (span t) found.lines in
    let want : ℕ = fresh_want window (span t) found.lines in
    let other : others (length window) t found.lines care want ≡ drop found.count (image found.lines care want t) =
    ap (λ n. others n t found.lines care want) len ∙ sym (drop-image found.count found.lines care want t) in
    subst (λ (o : ℕ). IsWindow gates library found (fresh_care window o found.lines) (fresh_want window o found.lines)) own
    (record {
      some = c.some;
      here = c.here;
      template = c.template;
      turn = c.turn;
      most = c.most;
      half = c.half;
      renaming = record {
        six = c.six;
        lines = λ i h. small_at found.lines i c.small (omega (arith, h, c.six));
        zero_elsewhere = λ i h off. plain_at (span t) found.lines i a.zero_elsewhere h (ap (λ s. has s i) own ∙ off);
        apart = λ i j hi hj oi oj e. apart_from (span t) found.lines a.distinct i j hi hj (ap (λ s. has s i) own ∙ oi) (ap (λ s. has s j) own ∙ oj) e;
      };
      free = λ i h on. st.renames.free i h (ap (λ s. has s i) own ∙ on);
      wants = st.renames.wants;
      fits_window = window_is window t found.lines care want a.fits_window room ∙ ap (λ n. image found.lines care want (take n t)) len ∙ sym (take-map (image_of found.lines care want) found.count t);
      inside = λ line e.
          let p = span_from (others (length window) t found.lines care want) line (ap (λ l. has (span l) line) other ∙ e) in
          within_at (others (length window) t found.lines care want) (span window) p.0 line a.within p.1 p.2;
      no_more = let few = leb-true _ _ a.fewer in omega (arith, few, ap incidences other);
    })
