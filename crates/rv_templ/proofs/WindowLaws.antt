-- Windows of images: replacing one keeps what a list does.
use Rattle.std.proofs.Common.{◌≡◌, ℕ, zero, suc, ◌+◌, ◌-◌, ◌*◌, ◌<◌, ◌≤◌, Bool, true, false, not, ◌&&◌, ◌||◌, eqb, List, [], ◌∷◌, ◌++◌, length, take, drop, reverse, refl, sym, ◌∙◌, ap, inl, inr, arith, subst, take-append-drop, eq-eqb, length-append, length-drop, ext_get_or}
use Rattle.std.specs.Prelude.{◌⊎◌, bit_or, leb}
use Rattle.std.proofs.lemmas.List.{get_or_append_left, get_or-append-add, get_or-append_right, reverse-append, get_or-map, get_or-take, length-map, length-take-le, length-reverse, get_or-drop}
use Rattle.std.proofs.lemmas.Bool.{cases_lt, cases_eq, false≢true, and_parts, and_from, or_cases, or_left, or_right, eqb-true, not-true, not_from_true, false_from_ne_true}
use Rattle.rv_gate.specs.declared.word.TheConstants.{MOST_LINES}
use Rattle.rv_gate.proofs.LineSets.{has-or, same_lines}
use Rattle.rv_links.specs.Nodes.{incidences}
use Rattle.rv_templ.specs.Gates.{gate_in, AreGates, Flips, Identity, Same}
use Rattle.rv_gate.specs.Word.{has}
use Rattle.rv_gate.specs.Gate.{act, run, touches, FitsIn, IsGate, IsFlip, controls, wanted, touched, all_below}
use Rattle.rv_gate.specs.declared.gate.Shape.{Shape}
use Rattle.rv_gate.specs.declared.gate.Shape.TheVariants.{Flip, Swap, Peres}
use Rattle.rv_gate.proofs.inside.GateLemmas.{has-touched, length-act, length-run, run-append, act_twice}
use Rattle.rv_templ.specs.Images.{target_of, span, turned, new_line, renamed, difference, image_of, image, fresh_care, fresh_want, distinct, zero_elsewhere, same_gate, fits_window, others, within, allowed, replacement}
use Rattle.rv_templ.specs.Templates.{IsTemplate}
use Rattle.rv_gate.proofs.Acting.{touches-control}
use Rattle.rv_templ.proofs.LineLemmas.{has_without, part_of}
use Rattle.rv_templ.proofs.inside.FoldLemmas.{union_part, part_of_union}
use Rattle.rv_gate.proofs.AllBelow.{all_below-at}
use Rattle.rv_templ.proofs.ImageLaws.{Apart, Part, Renames, Serves, Serve, InRange, renamed_has, renamed_from, renamed_at, image_identity}
use Rattle.rv_templ.proofs.GateLists.{AreGates-first, AreGates-last, AreGates-append, AreGates-reverse}
use Rattle.rv_gate.proofs.Bits.{same_bool}
use Rattle.rv_gate.proofs.Every.{every_first, every_last, every_append}

-- the last gate of a reversed list
run_back : (xs : List Shape) (x : Shape) (word : List Bool) → run (reverse (x ∷ xs)) word ≡ act x (run (reverse xs) word)
run_back xs x word = ap (λ l. run l word) (reverse-append (x ∷ []) xs) ∙ run-append (reverse xs) (x ∷ []) word

-- flips undo themselves backwards
pub undone : (n : ℕ) (gates : List Shape) (word : List Bool) → Flips gates → AreGates n gates → length word ≡ n → run (reverse gates) (run gates word) ≡ word
undone n [] word f g len = refl
undone n (x ∷ xs) word f g len = let i0 = undone n xs in grind (arith, i0, run_back, length-act, act_twice)

pub undone_back : (n : ℕ) (gates : List Shape) (word : List Bool) → Flips gates → AreGates n gates → length word ≡ n → run gates (run (reverse gates) word) ≡ word
undone_back n [] word f g len = refl
undone_back n (x ∷ xs) word f g len = let i0 = undone_back n xs word f.1 g.2 len in grind (arith, i0, reverse, length-run, run_back, act_twice)

-- an identity turned is an identity
turned_identity : (n : ℕ) (xs ys : List Shape) → Flips xs → AreGates n xs → Identity n (xs ++ ys) → Identity n (ys ++ xs)
turned_identity n xs ys f g i word len =
    let v : List Bool = run (reverse xs) word in
    let lv : length v ≡ n = length-run (reverse xs) word ∙ len in
    let back : run xs v ≡ word = undone_back n xs word f g len in
    run-append ys xs word
    ∙ ap (λ w. run xs (run ys w)) (sym back)
    ∙ ap (run xs) (sym (run-append xs ys v) ∙ i v lv)
    ∙ back

-- the first part of an identity does what the other part does backwards
pub window_same : (n : ℕ) (first rest : List Shape) → Flips rest → AreGates n rest → Identity n (first ++ rest) → Same n first (reverse rest)
window_same n first rest f g i word len = grind (arith, length-run, run-append, undone, reverse)

-- a template turned is a template
pub turned_template : (r : ℕ) (t : List Shape) → IsTemplate t → IsTemplate (turned r t)
turned_template r t is =
    let whole : take r t ++ drop r t ≡ t = take-append-drop r t in
    let f : Flips (take r t ++ drop r t) = subst (λ (l : List Shape). Flips l) (sym whole) is.flips in
    let g : AreGates 6 (take r t ++ drop r t) = subst (λ (l : List Shape). AreGates 6 l) (sym whole) is.good in
    let i : Identity 6 (take r t ++ drop r t) = subst (λ (l : List Shape). Identity 6 l) (sym whole) is.identity in
    record {
      few = let few = is.few in let e = ap length whole in omega (arith, e, length-append (take r t) (drop r t), length-append (drop r t) (take r t));
      flips = every_append IsFlip (drop r t) (take r t) (every_last IsFlip (take r t) (drop r t) f) (every_first IsFlip (take r t) (drop r t) f);
      good = AreGates-append 6 (drop r t) (take r t) (AreGates-last 6 (take r t) (drop r t) g) (AreGates-first 6 (take r t) (drop r t) g);
      identity = turned_identity 6 (take r t) (drop r t) (every_first IsFlip (take r t) (drop r t) f) (AreGates-first 6 (take r t) (drop r t) g) i;
    }

pub length-turned : (r : ℕ) (t : List Shape) → length (turned r t) ≡ length t
length-turned r t = let e = ap length (take-append-drop r t) in omega (arith, e, length-append (take r t) (drop r t), length-append (drop r t) (take r t))

-- ---- the gates of a list

pub gates_at : (n : ℕ) (gates : List Shape) (j : ℕ) → AreGates n gates → j < length gates → IsGate (gate_in gates j) × FitsIn (gate_in gates j) n
gates_at n [] j g h = absurd (omega arith)
gates_at n (x ∷ xs) zero g h = (g.0, g.1)
gates_at n (x ∷ xs) (suc j) g h = gates_at n xs j g.2 (omega arith)

pub flip_at : (gates : List Shape) (j : ℕ) → Flips gates → j < length gates → IsFlip (gate_in gates j)
flip_at [] j f h = absurd (omega arith)
flip_at (x ∷ xs) zero f h = f.0
flip_at (x ∷ xs) (suc j) f h = flip_at xs j f.1 (omega arith)

pub target_touched : (g : Shape) → IsFlip g → touches g (target_of g) ≡ true
target_touched g h = grind arith

pub care_touched : (g : Shape) (line : ℕ) → IsFlip g → has (controls g) line ≡ true → touches g line ≡ true
care_touched g line h h1 = grind arith

want_cared : (g : Shape) → IsFlip g → IsGate g → Part (wanted g) (controls g)
want_cared (Flip c w t) f v = v.2
want_cared (Swap c w a b) f v = absurd (false≢true f)
want_cared (Peres a b d) f v = absurd (false≢true f)

-- the gates of a window may be of any kind
want_cared_any : (g : Shape) → IsGate g → Part (wanted g) (controls g)
want_cared_any (Flip c w t) v = v.2
want_cared_any (Swap c w a b) v = v.5
want_cared_any (Peres a b d) v = λ line h. h

pub template_target : (t : List Shape) (j : ℕ) → IsTemplate t → j < length t → target_of (gate_in t j) < 6
template_target t j is h =
    let g : Shape = gate_in t j in
    (gates_at 6 t j is.good h).1 (target_of (gate_in t j)) (target_touched (gate_in t j) (flip_at t j is.flips h))

pub span_has : (gates : List Shape) (j line : ℕ) → j < length gates → touches (gate_in gates j) line ≡ true → has (span gates) line ≡ true
span_has gates j line h e = union_part (λ k. touched (gate_in gates k)) (length gates) j line h (has-touched (gate_in gates j) line ∙ e)

pub span_from : (gates : List Shape) (line : ℕ) → has (span gates) line ≡ true → (j : ℕ) × (j < length gates) × (touches (gate_in gates j) line ≡ true)
span_from gates line e = grind (arith, part_of_union, gate_in, has-touched)

serves_one : (own : ℕ) (g : Shape) → IsFlip g → IsGate g → FitsIn g 6 → ((line : ℕ) → touches g line ≡ true → has own line ≡ true) → Serves own g
serves_one own g f v fits inside = record {
  flips = f;
  gate = v;
  care = λ line h. inside line (care_touched g line f h);
  want = want_cared g f v;
  target = fits (target_of g) (target_touched g f);
  owned = inside (target_of g) (target_touched g f);
  fits = λ line h. fits line (care_touched g line f h);
}

pub serve : (own : ℕ) (gates : List Shape) → Flips gates → AreGates 6 gates → ((j : ℕ) → j < length gates → (line : ℕ) → touches (gate_in gates j) line ≡ true → has own line ≡ true) → Serve own gates
serve own [] f g inside = tt
serve own (x ∷ xs) f g inside =
    (serves_one own x f.0 g.0 g.1 (inside 0 (omega arith)), serve own xs f.1 g.2 (λ j h. inside (suc j) (omega arith)))

pub serve_at : (t : List Shape) (j : ℕ) → IsTemplate t → j < length t → Serves (span t) (gate_in t j)
serve_at t j is h =
    let g = gates_at 6 t j is.good h in
    serves_one (span t) (gate_in t j) (flip_at t j is.flips h) g.0 g.1 (λ line e. span_has t j line h e)

pub serve_template : (t : List Shape) → IsTemplate t → Serve (span t) t
serve_template t is = serve (span t) t is.flips is.good (λ j h line e. span_has t j line h e)

-- ---- the gates of an image

pub record Stands (own : ℕ) (to : List ℕ) (care want n : ℕ) : Type 0 where
  pub renames : Renames own to care want
  pub range : InRange own to n
  pub most : n ≤ MOST_LINES
  pub fresh : (line : ℕ) → has care line ≡ true → line < n

has_all : (a b line : ℕ) → has (bit_or a b) line ≡ true → (has a line ≡ true) ⊎ (has b line ≡ true)
has_all a b line e = or_cases (has a line) (has b line) (sym (has-or a b line) ∙ e)

good_one : (own : ℕ) (to : List ℕ) (care want n : ℕ) (g : Shape) → Stands own to care want n → Serves own g
    → (IsGate (image_of to care want g)) × (FitsIn (image_of to care want g) n)
good_one own to care want n (Flip c w t) st s =
    let below : new_line to t < n = st.range t s.target s.owned in
    let free : has (bit_or (renamed to c) care) (new_line to t) ≡ false =
    false_from_ne_true _ (λ e.
    elim (has_all (renamed to c) care (new_line to t) e) [
      | inl mine ↦ false≢true (sym s.gate.1 ∙ sym (renamed_at own to c t st.renames.apart s.care s.target s.owned) ∙ mine)
      | inr theirs ↦ false≢true (sym (st.renames.free t s.target s.owned) ∙ theirs)
    ]) in
    let cared : (line : ℕ) → has (bit_or (renamed to c) care) line ≡ true → line < n = λ line e.
    elim (has_all (renamed to c) care line e) [
      | inl mine ↦ let p = renamed_from to c line mine in let lt = st.range p.0 p.1 (s.care p.0 p.2) in omega (arith, p.3, lt)
      | inr theirs ↦ st.fresh line theirs
    ] in (
      (
        omega (arith, below, st.most),
        free,
        λ line e.
            elim (has_all (renamed to w) want line e) [
              | inl mine ↦
                  let p = renamed_from to w line mine in
                  has-or (renamed to c) care line
                  ∙ or_left (has (renamed to c) line) (has care line) (ap (has (renamed to c)) p.3 ∙ renamed_has to c p.0 p.1 (s.want p.0 p.2))
              | inr theirs ↦ has-or (renamed to c) care line ∙ or_right (has (renamed to c) line) (has care line) (st.renames.wants line theirs)
            ],
      ),
      λ line e.
          elim (or_cases (has (bit_or (renamed to c) care) line) (eqb line (new_line to t)) e) [
            | inl on ↦ cared line on
            | inr at ↦ let s2 = eqb-true line (new_line to t) at in omega (arith, s2, below)
          ],
    )
good_one own to care want n (Swap c w a b) st s = absurd (false≢true s.flips)
good_one own to care want n (Peres a b d) st s = absurd (false≢true s.flips)

pub good_image : (own : ℕ) (to : List ℕ) (care want n : ℕ) (gates : List Shape) → Stands own to care want n → Serve own gates → AreGates n (image to care want gates)
good_image own to care want n [] st s = tt
good_image own to care want n (g ∷ rest) st s =
    let one = good_one own to care want n g st s.0 in
    (one.0, one.1, good_image own to care want n rest st s.1)

pub flips_image : (to : List ℕ) (care want : ℕ) (gates : List Shape) → Flips (image to care want gates)
flips_image to care want [] = tt
flips_image to care want (g ∷ rest) = (refl, flips_image to care want rest)

-- ---- what an allowed window is

pub record Allowed (window template : List Shape) (to : List ℕ) (care want : ℕ) : Type 0 where
  pub zero_elsewhere : zero_elsewhere (span template) to ≡ true
  pub distinct : distinct (span template) to ≡ true
  pub fits_window : fits_window window template to care want ≡ true
  pub within : within (others (length window) template to care want) (span window) ≡ true
  pub fewer : leb (incidences (others (length window) template to care want)) (incidences window) ≡ true

pub allowed_parts : (window template : List Shape) (to : List ℕ) → allowed window template to ≡ true
    → Allowed window template to (fresh_care window (span template) to) (fresh_want window (span template) to)
allowed_parts window template to e = grind (arith)

pub plain_at : (own : ℕ) (to : List ℕ) (i : ℕ) → zero_elsewhere own to ≡ true → i < 6 → has own i ≡ false → new_line to i ≡ 0
unfolding zero_elsewhere
plain_at own to i e h off =
    elim (or_cases (has own i) (eqb (new_line to i) 0) (all_below-at (λ k. has own k || eqb (new_line to k) 0) 6 i e h)) [
      | inl on ↦ absurd (false≢true (sym off ∙ on))
      | inr z ↦ eqb-true _ 0 z
    ]

clash_off : (x y : Bool) (a b : ℕ) → x ≡ true → y ≡ true → a ≡ b → not (x && y && eqb a b) ≡ true → ⊥
clash_off x y a b hx hy e n = false≢true (sym (not_from_true (x && y && eqb a b) (and_from (x && y) (eqb a b) (and_from x y hx hy) (eq-eqb a b e))) ∙ n)

pub apart_from : (own : ℕ) (to : List ℕ) → distinct own to ≡ true → Apart own to
unfolding distinct
apart_from own to d i j hi hj oi oj e =
    let at : (i j : ℕ) → i < 6 → j < i → not (has own i && has own j && eqb (new_line to i) (new_line to j)) ≡ true =
    λ i j h l. all_below-at (λ j. not (has own i && has own j && eqb (new_line to i) (new_line to j))) i j
    (all_below-at (λ i. all_below (λ j. not (has own i && has own j && eqb (new_line to i) (new_line to j))) i) 6 i d h) l in
    elim (cases_lt i j) [
      | inl lt ↦ absurd (clash_off (has own j) (has own i) (new_line to j) (new_line to i) oj oi (sym e) (at j i hj lt))
      | inr ge ↦ (elim (cases_eq i j) [
        | inl s ↦ s
        | inr ne ↦ absurd (clash_off (has own i) (has own j) (new_line to i) (new_line to j) oi oj e (at i j hi (omega arith)))
      ])
    ]

pub same_gate_is : (g : Shape) (c w t : ℕ) → same_gate g (Flip c w t) ≡ true → g ≡ Flip c w t
same_gate_is g c w t h = grind arith

pub match_at : (window template : List Shape) (to : List ℕ) (care want j : ℕ) → fits_window window template to care want ≡ true → j < length window
    → gate_in window j ≡ image_of to care want (gate_in template j)
unfolding fits_window
match_at window template to care want j m h =
    same_gate_is (gate_in window j) _ _ _ (all_below-at (λ j. same_gate (gate_in window j) (image_of to care want (gate_in template j))) (length window) j m h)

pub image_at : (to : List ℕ) (care want : ℕ) (gates : List Shape) (j : ℕ) → j < length gates → gate_in (image to care want gates) j ≡ image_of to care want (gate_in gates j)
image_at to care want gates j h = get_or-map (image_of to care want) gates j (Peres 0 0 0) (Peres 0 0 0) h

pub window_is : (window template : List Shape) (to : List ℕ) (care want : ℕ) → fits_window window template to care want ≡ true → length window ≤ length template
    → window ≡ image to care want (take (length window) template)
window_is window template to care want m room =
    let len : length (take (length window) template) ≡ length window = length-take-le (length window) template room in
    ext_get_or (Peres 0 0 0) window (image to care want (take (length window) template)) (sym len ∙ sym (length-map (take (length window) template) (image_of to care want)))
    (λ j h.
    match_at window template to care want j m h
    ∙ ap (image_of to care want) (sym (get_or-take (length window) template j (Peres 0 0 0) h))
    ∙ sym (image_at to care want (take (length window) template) j (omega (arith, len, h))))

-- the new line of a line that a gate touches is touched by the gate's image
pub touched_image : (to : List ℕ) (care want : ℕ) (g : Shape) (i : ℕ) → IsFlip g → i < 6 → touches g i ≡ true → touches (image_of to care want g) (new_line to i) ≡ true
touched_image to care want g i h h1 h2 =
    grind (arith, or_cases, or_left, bit_or, new_line, has-or, renamed_has, or_right, eq-eqb, eqb-true)

pub within_at : (gates : List Shape) (set j line : ℕ) → within gates set ≡ true → j < length gates → touches (gate_in gates j) line ≡ true → has set line ≡ true
unfolding within
within_at gates set j line w h e =
    let t = all_below-at (λ j. eqb (difference (touched (gate_in gates j)) set) 0) (length gates) j w h in
    part_of (touched (gate_in gates j)) set (eqb-true _ 0 t) line (has-touched (gate_in gates j) line ∙ e)

-- every renamed line is one that the window touches
pub in_span : (window template : List Shape) (to : List ℕ) (care want i : ℕ) → IsTemplate template → length window ≤ length template → Allowed window template to care want
    → i < 6 → has (span template) i ≡ true → has (span window) (new_line to i) ≡ true
in_span window template to care want i is room a h on =
    let p = span_from template i on in
    let f = flip_at template p.0 is.flips p.1 in
    let t = touched_image to care want (gate_in template p.0) i f h p.2 in
    elim (cases_lt p.0 (length window)) [
      | inl lt ↦ span_has window p.0 (new_line to i) lt (ap (λ g. touches g (new_line to i)) (match_at window template to care want p.0 a.fits_window lt) ∙ t)
      | inr ge ↦
          let k : ℕ = length window in
          let j : ℕ = p.0 - length window in
          let back : length window + j ≡ p.0 = omega arith in
          let len = length-drop (length window) template in
          let lt : j < length (drop (length window) template) = omega (arith, p.1, len) in
          let lt2 : j < length (others (length window) template to care want) = omega (arith, lt, length-map (drop (length window) template) (image_of to care want)) in
          let at : gate_in (others (length window) template to care want) j ≡ image_of to care want (gate_in template p.0) =
          image_at to care want (drop (length window) template) j lt ∙ ap (image_of to care want) (get_or-drop (length window) template j (Peres 0 0 0) ∙ ap (gate_in template) back) in
          within_at (others (length window) template to care want) (span window) j (new_line to i) a.within lt2 (ap (λ g. touches g (new_line to i)) at ∙ t)
    ]

pub span_fits : (n : ℕ) (gates : List Shape) (line : ℕ) → AreGates n gates → has (span gates) line ≡ true → line < n
span_fits n gates line g e = let p = span_from gates line e in (gates_at n gates p.0 g p.1).1 line p.2

pub without_parts : (a b line : ℕ) → has (difference a b) line ≡ true → (has a line ≡ true) × (has b line ≡ false)
without_parts a b line e = grind (arith, and_parts, has_without, not-true)

pub without_from : (a b line : ℕ) → has a line ≡ true → has b line ≡ false → has (difference a b) line ≡ true
without_from a b line x y = has_without a b line ∙ and_from (has a line) (not (has b line)) x (ap not y)

pub stands : (n : ℕ) (window template : List Shape) (to : List ℕ) → AreGates n window → n ≤ MOST_LINES → IsTemplate template → 0 < length window → length window ≤ length template
    → allowed window template to ≡ true → Stands (span template) to (fresh_care window (span template) to) (fresh_want window (span template) to) n
stands n window template to g most is some room e =
    let own : ℕ = span template in
    let a = allowed_parts window template to e in
    let first = gates_at n window 0 g some in
    record {
      renames = record {
        apart = apart_from own to a.distinct;
        free = λ i h on. false_from_ne_true _ (λ t. false≢true (sym (without_parts (controls (gate_in window 0)) (renamed to own) (new_line to i) t).1 ∙ renamed_has to own i h on));
        wants = λ line t.
            let p = without_parts (wanted (gate_in window 0)) (renamed to own) line t in
            without_from (controls (gate_in window 0)) (renamed to own) line (want_cared_any (gate_in window 0) first.0 line p.0) p.1;
      };
      range = λ i h on. span_fits n window (new_line to i) g (in_span window template to _ _ i is room a h on);
      most = most;
      fresh = λ line t. first.1 line (touches-control (gate_in window 0) line (without_parts (controls (gate_in window 0)) (renamed to own) line t).0);
    }

pub Serve-last : (own : ℕ) (xs ys : List Shape) → Serve own (xs ++ ys) → Serve own ys
Serve-last own [] ys s = s
Serve-last own (x ∷ xs) ys s = Serve-last own xs ys s.1

image-append : (to : List ℕ) (care want : ℕ) (xs ys : List Shape) → image to care want (xs ++ ys) ≡ image to care want xs ++ image to care want ys
image-append to care want [] ys = refl
image-append to care want (x ∷ xs) ys = ap (λ l. image_of to care want x ∷ l) (image-append to care want xs ys)

pub record Replaces (n : ℕ) (window new : List Shape) : Type 0 where
  pub same : Same n window new
  pub good : AreGates n new

-- an allowed window does what stands in its place
pub replaces : (n : ℕ) (window template : List Shape) (to : List ℕ) → AreGates n window → n ≤ MOST_LINES → IsTemplate template → 0 < length window → length window ≤ length template
    → allowed window template to ≡ true → Replaces n window (replacement window template to)
replaces n window template to g most is some room e =
    let own : ℕ = span template in
    let care : ℕ = fresh_care window own to in
    let want : ℕ = fresh_want window own to in
    let k : ℕ = length window in
    let st = stands n window template to g most is some room e in
    let a = allowed_parts window template to e in
    let s = serve_template template is in
    let whole : take (length window) template ++ drop (length window) template ≡ template = take-append-drop (length window) template in
    let s2 : Serve own (drop (length window) template) = Serve-last own (take (length window) template) (drop (length window) template) (subst (λ (l : List Shape). Serve own l) (sym whole) s) in
    let good : AreGates n (image to care want (drop (length window) template)) = good_image own to care want n (drop (length window) template) st s2 in
    let i : Identity n (image to care want template) = image_identity own to care want template n st.renames s st.range is.identity in
    let cut : image to care want template ≡ window ++ image to care want (drop (length window) template) =
    ap (image to care want) (sym whole) ∙ image-append to care want (take (length window) template) (drop (length window) template)
    ∙ ap (λ l. l ++ image to care want (drop (length window) template)) (sym (window_is window template to care want a.fits_window room)) in
    record {
      same = window_same n window (image to care want (drop (length window) template)) (flips_image to care want (drop (length window) template)) good
          (subst (λ (l : List Shape). Identity n l) cut i);
      good = AreGates-reverse n (image to care want (drop (length window) template)) good;
    }

-- and there are fewer gates
pub shorter : (window template : List Shape) (to : List ℕ) → length template < 2 * length window → length (replacement window template to) < length window
shorter window template to h = grind (arith, fresh_care, fresh_want, length-reverse, length-map, image_of, length-drop)

-- a list whose first gates are replaced
pub replaced_same : (n : ℕ) (window new rest : List Shape) → Same n window new → Same n (window ++ rest) (new ++ rest)
replaced_same n window new rest s word len = run-append window rest word ∙ ap (run rest) (s word len) ∙ sym (run-append new rest word)

-- ---- a turned list touches the same lines

span_left : (xs ys : List Shape) (line : ℕ) → has (span xs) line ≡ true → has (span (xs ++ ys)) line ≡ true
span_left xs ys line e = grind (arith, span_from, span_has, length-append, get_or_append_left)

span_right : (xs ys : List Shape) (line : ℕ) → has (span ys) line ≡ true → has (span (xs ++ ys)) line ≡ true
span_right xs ys line e = grind (arith, span_from, span_has, length-append, get_or-append-add)

span_either : (xs ys : List Shape) (line : ℕ) → has (span (xs ++ ys)) line ≡ true → (has (span xs) line ≡ true) ⊎ (has (span ys) line ≡ true)
span_either xs ys line e =
    grind (arith, span_from, cases_lt, span_has, get_or_append_left, length-append, get_or-append_right)

span_exchanged : (xs ys : List Shape) (line : ℕ) → has (span (xs ++ ys)) line ≡ true → has (span (ys ++ xs)) line ≡ true
span_exchanged xs ys line e = grind (arith, span_either, span_right, span_left)

pub span_turned : (r : ℕ) (t : List Shape) → span (turned r t) ≡ span t
span_turned r t =
    same_lines (span (turned r t)) (span t) (λ line.
    same_bool _ _
    (λ e. ap (λ l. has (span l) line) (sym (take-append-drop r t)) ∙ span_exchanged (drop r t) (take r t) line e)
    (λ e. span_exchanged (take r t) (drop r t) line (ap (λ l. has (span l) line) (take-append-drop r t) ∙ e)))
