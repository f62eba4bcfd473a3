-- The chosen window is a window, and where none is chosen there is none.
use Rattle.std.proofs.Common.{◌≡◌, ℕ, zero, suc, ◌*◌, ◌<◌, ◌≤◌, Bool, true, false, not, ◌&&◌, ◌||◌, eqb, List, [], ◌∷◌, ◌++◌, length, take, drop, refl, sym, ◌∙◌, ap, inl, inr, arith, eq-eqb, append_assoc}
use Rattle.std.specs.Prelude.{leb, ltb, Some, None}
use Rattle.std.proofs.lemmas.Bool.{cases_Bool, false≢true, and_parts, and_from, or_right, or_cases, cond-true, le-leb, lt-ltb, eqb-true, not_from_false, false_from_ne_true}
use Rattle.std.proofs.lemmas.Option.{none-some, cond_some}
use Rattle.std.proofs.lemmas.List.{get_or-take, length-take-le, append-nil}
use Rattle.rv_gate.specs.declared.word.TheConstants.{MOST_LINES}
use Rattle.rv_gate.proofs.LineSets.{has-none, has-or, same_lines}
use Rattle.rv_links.specs.Nodes.{incidences}
use Rattle.rv_templ.specs.Gates.{gate_in}
use Rattle.rv_gate.specs.Gate.{controls, wanted, touched, all_below}
use Rattle.rv_gate.specs.Word.{has}
use Rattle.rv_gate.specs.declared.gate.Shape.{Shape}
use Rattle.rv_gate.specs.declared.gate.Shape.TheVariants.{Flip}
use Rattle.rv_templ.specs.Folds.{least}
use Rattle.rv_templ.specs.Images.{span, turned, new_line, renamed, difference, image_of, image, fresh_care, fresh_want, distinct, zero_elsewhere, same_gate, fits_window, others, within, allowed}
use Rattle.rv_templ.specs.Templates.{IsTemplate, AreTemplates}
use Rattle.rv_templ.specs.Choices.{renaming, template_in, at_turn, at_template, at_count, at_most, window_at, Found}
use Rattle.rv_templ.specs.Windows.{IsRenaming, IsWindow, NoWindow}
use Rattle.rv_gate.proofs.inside.GateLemmas.{has-touched}
use Rattle.rv_gate.proofs.FirstAnswer.{none_at, or_none}
use Rattle.rv_templ.proofs.inside.FoldLemmas.{first_some, least_end, least_step}
use Rattle.rv_gate.proofs.AllBelow.{all_below-from}
use Rattle.rv_templ.proofs.ImageLaws.{Part, renamed_has, renamed_from}
use Rattle.rv_templ.proofs.WindowLaws.{span_has, serve_at, turned_template, length-turned, span_turned, without_parts, without_from, image_at}
use Rattle.rv_templ.proofs.inside.ChoiceLemmas.{are_at}
use Rattle.rv_gate.proofs.Bits.{same_bool}
use Rattle.rv_gate.proofs.Options.{unmapped}

-- ---- the least list

abbrev pub Small : List ℕ → Type 0
Small [] = Unit {0}
Small (v ∷ rest) = (v < MOST_LINES) × Small rest

pub small_from : (to : List ℕ) → ((i : ℕ) → i < length to → new_line to i < MOST_LINES) → Small to
small_from [] h = tt
small_from (v ∷ rest) h = (h 0 (omega arith), small_from rest (λ i l. h (suc i) (omega arith)))

pub small_at : (to : List ℕ) (i : ℕ) → Small to → i < length to → new_line to i < MOST_LINES
small_at [] i s h = absurd (omega arith)
small_at (v ∷ rest) zero s h = s.0
small_at (v ∷ rest) (suc i) s h = small_at rest i s.1 (omega arith)

-- where there is no least list, none passes
pub least_none : (ok : List ℕ → Bool) (n : ℕ) (begun rest : List ℕ) → least ok n begun ≡ None → length rest ≡ n → Small rest → ok (begun ++ rest) ≡ false
least_none ok zero begun [] e len s =
    elim (cases_Bool (ok begun)) [
      | inl on ↦ absurd (none-some begun (sym (sym (least_end ok begun ∙ cond-true (ok begun) (Some begun) None on) ∙ e)))
      | inr off ↦ ap ok (append-nil begun) ∙ off
    ]
least_none ok zero begun (v ∷ rest) e len s = absurd (omega arith)
least_none ok (suc n) begun [] e len s = absurd (omega arith)
least_none ok (suc n) begun (v ∷ rest) e len s =
    let at = none_at (λ v. least ok n (begun ++ (v ∷ []))) 0 MOST_LINES v (sym (least_step ok n begun) ∙ e) (omega arith) (omega (arith, s.0)) in
    ap ok (sym (append_assoc begun (v ∷ []) rest)) ∙ least_none ok n (begun ++ (v ∷ [])) rest at (omega arith) s.1

pub record LeastIs (ok : List ℕ → Bool) (n : ℕ) (begun to : List ℕ) : Type 0 where
  pub passes : ok to ≡ true
  pub rest : List ℕ
  pub goes_on : to ≡ begun ++ rest
  pub len : length rest ≡ n
  pub small : Small rest

-- the least list is one that passes
pub least_some : (ok : List ℕ → Bool) (n : ℕ) (begun to : List ℕ) → least ok n begun ≡ Some to → LeastIs ok n begun to
least_some ok zero begun to e =
    let p = cond_some (ok begun) begun to (sym (least_end ok begun) ∙ e) in
    record { passes = ap ok (sym p.1) ∙ p.0; rest = []; goes_on = sym p.1 ∙ sym (append-nil begun); len = refl; small = tt }
least_some ok (suc n) begun to e =
    let p = first_some (λ v. least ok n (begun ++ (v ∷ []))) 0 MOST_LINES to (sym (least_step ok n begun) ∙ e) in
    let q = least_some ok n (begun ++ (p.0 ∷ [])) to p.3 in
    record { passes = q.passes; rest = p.0 ∷ q.rest; goes_on = q.goes_on ∙ append_assoc begun (p.0 ∷ []) q.rest; len = ap suc q.len; small = (omega (arith, p.2), q.small) }

-- ---- an allowed window, from its meaning

fresh_is : (window0 own care kept : ℕ) (to : List ℕ) → ((line : ℕ) → has window0 line ≡ (has (renamed to kept) line || has care line)) → Part kept own
    → ((i : ℕ) → i < 6 → has own i ≡ true → has care (new_line to i) ≡ false) → difference window0 (renamed to own) ≡ care
fresh_is window0 own care kept to at sub free =
    same_lines (difference window0 (renamed to own)) care (λ line.
    same_bool _ _
    (λ e.
    let p = without_parts window0 (renamed to own) line e in
    elim (or_cases (has (renamed to kept) line) (has care line) (sym (at line) ∙ p.0)) [
      | inl mine ↦ let q = renamed_from to kept line mine in absurd (false≢true (sym p.1 ∙ ap (has (renamed to own)) q.3 ∙ renamed_has to own q.0 q.1 (sub q.0 q.2)))
      | inr theirs ↦ theirs
    ])
    (λ e. without_from window0 (renamed to own) line (at line ∙ or_right (has (renamed to kept) line) (has care line) e)
    (false_from_ne_true _ (λ t. let q = renamed_from to own line t in false≢true (sym (free q.0 q.1 q.2) ∙ ap (has care) (sym q.3) ∙ e)))))

plain_from : (own : ℕ) (to : List ℕ) → IsRenaming own to → zero_elsewhere own to ≡ true
unfolding zero_elsewhere
plain_from own to r = grind arith

distinct_from : (own : ℕ) (to : List ℕ) → IsRenaming own to → distinct own to ≡ true
unfolding distinct
distinct_from own to r =
    all_below-from (λ i. all_below (λ j. not (has own i && has own j && eqb (new_line to i) (new_line to j))) i) 6 (λ i h.
    all_below-from (λ j. not (has own i && has own j && eqb (new_line to i) (new_line to j))) i (λ j l.
    not_from_false _ (false_from_ne_true (has own i && has own j && eqb (new_line to i) (new_line to j)) (λ e.
    let p = and_parts (has own i && has own j) (eqb (new_line to i) (new_line to j)) e in
    let q = and_parts (has own i) (has own j) p.0 in
    let s : i ≡ j = r.apart i j h (omega arith) q.0 q.1 (eqb-true _ _ p.1) in
    omega arith))))

same_gate_from : (g : Shape) (c w t : ℕ) → g ≡ Flip c w t → same_gate g (Flip c w t) ≡ true
same_gate_from g c w t e =
    ap (λ x. same_gate x (Flip c w t)) e ∙ and_from (eqb c c && eqb w w) (eqb t t) (and_from (eqb c c) (eqb w w) (eq-eqb c c refl) (eq-eqb w w refl)) (eq-eqb t t refl)

matches_from : (window template : List Shape) (to : List ℕ) (care want : ℕ) → ((j : ℕ) → j < length window → gate_in window j ≡ image_of to care want (gate_in template j))
    → fits_window window template to care want ≡ true
unfolding fits_window
matches_from window template to care want h =
    all_below-from (λ j. same_gate (gate_in window j) (image_of to care want (gate_in template j))) (length window) (λ j l. same_gate_from (gate_in window j) _ _ _ (h j l))

within_from : (gates : List Shape) (set : ℕ) → ((line : ℕ) → has (span gates) line ≡ true → has set line ≡ true) → within gates set ≡ true
unfolding within
within_from gates set h =
    all_below-from (λ j. eqb (difference (touched (gate_in gates j)) set) 0) (length gates) (λ j l.
    eq-eqb _ 0 (same_lines (difference (touched (gate_in gates j)) set) 0 (λ line.
    false_from_ne_true _ (λ e.
    let p = without_parts (touched (gate_in gates j)) set line e in
    false≢true (sym p.1 ∙ h line (span_has gates j line l (sym (has-touched (gate_in gates j) line) ∙ p.0))))
    ∙ sym (has-none line))))

pub drop-image : (k : ℕ) (to : List ℕ) (care want : ℕ) (gates : List Shape) → drop k (image to care want gates) ≡ others k gates to care want
drop-image zero to care want gates = refl
drop-image (suc k) to care want [] = refl
drop-image (suc k) to care want (g ∷ rest) = drop-image k to care want rest

pub record Means (window template : List Shape) (to : List ℕ) (care want : ℕ) : Type 0 where
  pub some : 0 < length window
  pub room : length window ≤ length template
  pub renaming : IsRenaming (span template) to
  pub free : (i : ℕ) → i < 6 → has (span template) i ≡ true → has care (new_line to i) ≡ false
  pub free_want : (i : ℕ) → i < 6 → has (span template) i ≡ true → has want (new_line to i) ≡ false
  pub each : (j : ℕ) → j < length window → gate_in window j ≡ image_of to care want (gate_in template j)
  pub inside : (line : ℕ) → has (span (others (length window) template to care want)) line ≡ true → has (span window) line ≡ true
  pub no_more : incidences (others (length window) template to care want) ≤ incidences window

pub allowed_from : (window template : List Shape) (to : List ℕ) (care want : ℕ) → IsTemplate template → Means window template to care want → allowed window template to ≡ true
allowed_from window template to care want is m =
    let own : ℕ = span template in
    let zero_in : 0 < length template = let a = m.some in let b = m.room in omega arith in
    let s = serve_at template 0 is zero_in in
    let first = m.each 0 m.some in
    let ec : fresh_care window own to ≡ care =
    fresh_is (controls (gate_in window 0)) own care (controls (gate_in template 0)) to
    (λ line. ap (λ g. has (controls g) line) first ∙ has-or (renamed to (controls (gate_in template 0))) care line) s.care m.free in
    let ew : fresh_want window own to ≡ want =
    fresh_is (wanted (gate_in window 0)) own want (wanted (gate_in template 0)) to
    (λ line. ap (λ g. has (wanted g) line) first ∙ has-or (renamed to (wanted (gate_in template 0))) want line) (λ line e. s.care line (s.want line e))
    m.free_want in
    let Test : ℕ → ℕ → Bool = λ care want.
    zero_elsewhere own to && distinct own to && fits_window window template to care want && within (others (length window) template to care want) (span window)
    && leb (incidences (others (length window) template to care want)) (incidences window) in
    ap (λ c. Test c (fresh_want window own to)) ec ∙ ap (Test care) ew
    ∙ and_from _ _
    (and_from _ _
    (and_from _ _ (and_from _ _ (plain_from own to m.renaming) (distinct_from own to m.renaming)) (matches_from window template to care want m.each))
    (within_from (others (length window) template to care want) (span window) m.inside))
    (le-leb (incidences (others (length window) template to care want)) (incidences window) m.no_more)

means_from : (gates : List Shape) (library : List (List Shape)) (found : Found) (care want : ℕ) → IsWindow gates library found care want
    → Means (take found.count gates) (turned found.turn (template_in library found.template)) found.lines care want
means_from gates library found care want w = grind (arith, length-take-le, drop-image, length-turned, span_turned, false_from_ne_true, get_or-take, image_at)

-- ---- none chosen, none there

most_none_at : (gates : List Shape) (library : List (List Shape)) (k j : ℕ) → at_most gates library k ≡ None → 0 < j → j ≤ k → at_count gates library j ≡ None
unfolding at_most
most_none_at gates library zero j e a b = absurd (omega arith)
most_none_at gates library (suc k) j e a b = let i0 = most_none_at gates library k j in grind (arith, i0, or_none)

count_none_at : (gates : List Shape) (library : List (List Shape)) (k t : ℕ) → at_count gates library k ≡ None → t < length library → at_template (take k gates) library t ≡ None
unfolding at_count
count_none_at gates library k t e h = none_at (at_template (take k gates) library) 0 (length library) t e (omega arith) (omega arith)

template_none_at : (window : List Shape) (library : List (List Shape)) (t r : ℕ) → at_template window library t ≡ None → length window ≤ length (template_in library t)
    → length (template_in library t) < 2 * length window → r < length (template_in library t) → renaming window (turned r (template_in library t)) ≡ None
unfolding at_template
template_none_at window library t r e a b h =
    let go = sym (cond-true (leb (length window) (length (template_in library t)) && ltb (length (template_in library t)) (2 * length window)) _ None
    (and_from _ _ (le-leb (length window) (length (template_in library t)) a) (lt-ltb (length (template_in library t)) (2 * length window) b))) ∙ e in
    unmapped _ (renaming window (turned r (template_in library t)))
    (none_at (at_turn window (template_in library t) t) 0 (length (template_in library t)) r go (omega arith) (omega arith))

pub no_window : (gates : List Shape) (library : List (List Shape)) → AreTemplates library → window_at gates library ≡ None → NoWindow gates library
no_window gates library are e found care want w =
    let t : List Shape = template_in library found.template in
    let k : ℕ = found.count in
    let len : length (take k gates) ≡ k = length-take-le k gates w.here in
    let none = template_none_at (take k gates) library found.template found.turn
    (count_none_at gates library k found.template (most_none_at gates library (length gates) k e w.some w.here) w.template)
    (let a = w.most in omega (arith, len)) (let a = w.half in omega (arith, len)) w.turn in
    let m = means_from gates library found care want w in
    let is = turned_template found.turn t (are_at library found.template are w.template) in
    let six = m.renaming.six in
    let small = small_from found.lines (λ i h. m.renaming.lines i (omega (arith, six, h))) in
    false≢true (sym (least_none (allowed (take k gates) (turned found.turn t)) 6 [] found.lines none six small)
    ∙ allowed_from (take k gates) (turned found.turn t) found.lines care want is m)
