-- Renamings that were begun, and can't come to an allowed window.
use Rattle.std.proofs.Common.{◌≡◌, ◌≢◌, ℕ, suc, ◌+◌, ◌-◌, ◌<◌, ◌≤◌, Bool, true, false, eqb, List, [], ◌∷◌, ◌++◌, length, take, set, sym, ◌∙◌, ap, arith, append_assoc}
use Rattle.std.specs.Prelude.{Option, Some, None}
use Rattle.std.proofs.lemmas.List.{get_or-take, get_or_append_left, get_or_at, length-take-le, take_all, take_more_set}
use Rattle.std.proofs.lemmas.Bool.{false≢true, and_from, cond-true, cond-false, false_from_ne_true}
use Rattle.rv_gate.specs.declared.word.TheConstants.{MOST_LINES}
use Rattle.rv_gate.proofs.LineSets.{has-or}
use Rattle.rv_templ.specs.Gates.{gate_in}
use Rattle.rv_gate.specs.Word.{has}
use Rattle.rv_gate.specs.Gate.{same, controls, wanted}
use Rattle.rv_gate.specs.declared.gate.Shape.{Shape}
use Rattle.rv_gate.specs.FirstAnswer.{first}
use Rattle.rv_templ.specs.Folds.{least}
use Rattle.rv_templ.specs.Images.{target_of, span, new_line, renamed, difference, image_of, fresh_care, fresh_want, zero_elsewhere, allowed}
use Rattle.rv_templ.specs.inside.Pruning.{Dropped, same_role, alike}
use Rattle.rv_templ.specs.Templates.{IsTemplate}
use Rattle.rv_templ.proofs.inside.FoldLemmas.{least_dead, least_step, least_end}
use Rattle.rv_templ.proofs.ImageLaws.{Apart, Serves, renamed_has, renamed_at}
use Rattle.rv_templ.proofs.WindowLaws.{plain_at, allowed_parts, apart_from, in_span, match_at, serve_at, without_parts}
use Rattle.rv_gate.proofs.Bits.{same_from, or_off}

-- the list that a renaming begun by i lines goes on to
abbrev pub gone_on : List ℕ → ℕ → ℕ → List ℕ → List ℕ
gone_on to i v rest = (take i to ++ (v ∷ [])) ++ rest

pub next_line : (to : List ℕ) (i v : ℕ) (rest : List ℕ) → length to ≡ 6 → i < 6 → new_line (gone_on to i v rest) i ≡ v
next_line to i v rest len h =
    ap (λ l. new_line l i) (append_assoc (take i to) (v ∷ []) rest) ∙ get_or_at (take i to) v rest 0 i (length-take-le i to (omega arith))

pub line_before : (to : List ℕ) (i v j : ℕ) (rest : List ℕ) → length to ≡ 6 → i < 6 → j < i → new_line (gone_on to i v rest) j ≡ new_line to j
line_before to i v j rest len h lt =
    grind (arith, new_line, append_assoc, get_or_append_left, length-take-le, get_or-take)

pub drop_plain : (window template : List Shape) (to : List ℕ) (i v : ℕ) → length to ≡ 6 → i < 6 → has (span template) i ≡ false → v ≢ 0 → Dropped window template (take i to ++ (v ∷ []))
unfolding zero_elsewhere
drop_plain window template to i v len h off ne rest =
    false_from_ne_true _ (λ e.
    let a = allowed_parts window template (gone_on to i v rest) e in
    ne (sym (next_line to i v rest len h) ∙ plain_at (span template) (gone_on to i v rest) i a.zero_elsewhere h off))

pub drop_span : (window template : List Shape) (to : List ℕ) (i v : ℕ) → IsTemplate template → length window ≤ length template → length to ≡ 6 → i < 6 → has (span template) i ≡ true
    → has (span window) v ≡ false → Dropped window template (take i to ++ (v ∷ []))
drop_span window template to i v is room len h on off rest =
    false_from_ne_true _ (λ e.
    let a = allowed_parts window template (gone_on to i v rest) e in
    false≢true (sym off ∙ ap (has (span window)) (sym (next_line to i v rest len h)) ∙ in_span window template (gone_on to i v rest) _ _ i is room a h on))

pub drop_used : (window template : List Shape) (to : List ℕ) (i v j : ℕ) → length to ≡ 6 → i < 6 → has (span template) i ≡ true → j < i → has (span template) j ≡ true → new_line to j ≡ v
    → Dropped window template (take i to ++ (v ∷ []))
drop_used window template to i v j len h on lt on_j same rest = grind (arith, false_from_ne_true, allowed_parts, apart_from, next_line, line_before)

pub eqb_same : (a b d e : ℕ) → (a ≡ b → d ≡ e) → (d ≡ e → a ≡ b) → eqb a b ≡ eqb d e
eqb_same a b d e f g = grind arith

-- a renamed line is to the image what the line is to the gate
role_kept : (own : ℕ) (to : List ℕ) (care want i : ℕ) (g : Shape) → Apart own to → has care (new_line to i) ≡ false → has want (new_line to i) ≡ false → Serves own g → i < 6 → has own i ≡ true
    → same_role (image_of to care want g) (new_line to i) g i ≡ true
role_kept own to care want i g apart free_care free_want s h on =
    and_from _ _
    (and_from _ _
    (same_from _ _ (has-or (renamed to (controls g)) care (new_line to i) ∙ or_off _ _ free_care ∙ renamed_at own to (controls g) i apart s.care h on))
    (same_from _ _ (has-or (renamed to (wanted g)) want (new_line to i) ∙ or_off _ _ free_want ∙ renamed_at own to (wanted g) i apart (λ line e. s.care line (s.want line e)) h on)))
    (same_from _ _ (eqb_same (new_line to i) (new_line to (target_of g)) i (target_of g) (λ e. apart i (target_of g) h s.target on s.owned e) (λ e. ap (new_line to) e)))

-- a line of an allowed window is to each gate what the template's line is to the template's
pub role_in : (window template : List Shape) (to : List ℕ) (i j : ℕ) → IsTemplate template → length window ≤ length template → allowed window template to ≡ true → i < 6 → has (span template) i ≡ true
    → j < length window → same_role (gate_in window j) (new_line to i) (gate_in template j) i ≡ true
role_in window template to i j is room e h on lt =
    let own : ℕ = span template in
    let a = allowed_parts window template to e in
    let free : (s : ℕ) → has (difference s (renamed to own)) (new_line to i) ≡ false = λ s.
    false_from_ne_true _ (λ t. false≢true (sym (without_parts s (renamed to own) (new_line to i) t).1 ∙ renamed_has to own i h on)) in
    ap (λ g. same_role g (new_line to i) (gate_in template j) i) (match_at window template to _ _ j a.fits_window lt)
    ∙ role_kept own to (fresh_care window own to) (fresh_want window own to) i (gate_in template j) (apart_from own to a.distinct)
    (free (controls (gate_in window 0))) (free (wanted (gate_in window 0))) (serve_at template j is (omega (arith, lt, room))) h on

pub drop_role : (window template : List Shape) (to : List ℕ) (i v j : ℕ) → IsTemplate template → length window ≤ length template → length to ≡ 6 → i < 6 → has (span template) i ≡ true
    → j < length window → same_role (gate_in window j) v (gate_in template j) i ≡ false → Dropped window template (take i to ++ (v ∷ []))
drop_role window template to i v j is room len h on lt off rest =
    false_from_ne_true _ (λ e.
    false≢true (sym off
    ∙ ap (λ x. same_role (gate_in window j) x (gate_in template j) i) (sym (next_line to i v rest len h))
    ∙ role_in window template (gone_on to i v rest) i j is room e h on lt))

-- ---- the steps of the search

pub none_dead : (window template : List Shape) (n : ℕ) (begun : List ℕ) → Dropped window template begun → least (allowed window template) n begun ≡ None
none_dead window template n begun d = least_dead (allowed window template) n begun (λ rest len. d rest)

-- all six lines stand
pub whole_on : (ok : List ℕ → Bool) (to : List ℕ) (depth : ℕ) → length to ≡ 6 → depth ≡ 6 → ok to ≡ true → Some to ≡ least ok (6 - depth) (take depth to)
whole_on ok to depth len d on = grind (arith, take_all, least_end, cond-true)

pub whole_off : (ok : List ℕ → Bool) (to : List ℕ) (depth : ℕ) → length to ≡ 6 → depth ≡ 6 → ok to ≡ false → None ≡ least ok (6 - depth) (take depth to)
whole_off ok to depth len d off = grind (arith, take_all, least_end, cond-false)

-- the lists that go on by v
abbrev pub on_with : (List ℕ → Bool) → List ℕ → ℕ → ℕ → Option (List ℕ)
on_with ok to depth v = least ok (6 - (depth + 1)) (take depth to ++ (v ∷ []))

pub level_start : (ok : List ℕ → Bool) (to : List ℕ) (depth : ℕ) → depth < 6 → first (on_with ok to depth) 0 (MOST_LINES - 0) ≡ least ok (6 - depth) (take depth to)
level_start ok to depth h =
    let s : suc (6 - (depth + 1)) ≡ 6 - depth = omega arith in
    sym (least_step ok (6 - (depth + 1)) (take depth to)) ∙ ap (λ n. least ok n (take depth to)) s

-- the call one level down
pub level_down : (ok : List ℕ → Bool) (to next : List ℕ) (depth v : ℕ) → length to ≡ 6 → depth < 6 → next ≡ set to depth v
    → least ok (6 - (depth + 1)) (take (depth + 1) next) ≡ on_with ok to depth v
level_down ok to next depth v len h e =
    ap (least ok (6 - (depth + 1))) (ap (take (depth + 1)) e ∙ take_more_set to depth v (omega arith))

-- ---- targets

pub drop_alike : (window template : List Shape) (to : List ℕ) (j : ℕ) (g first h own : Shape) → IsTemplate template → 0 < length window → length window ≤ length template → j < length window
    → g ≡ gate_in window j → first ≡ gate_in window 0 → h ≡ gate_in template j → own ≡ gate_in template 0 → alike g first h own ≡ false → allowed window template to ≡ false
drop_alike window template to j g first h own is some room lt eg ef eh eo off =
    false_from_ne_true _ (λ e.
    let a = allowed_parts window template to e in
    let sj = serve_at template j is (omega (arith, lt, room)) in
    let s0 = serve_at template 0 is (omega (arith, some, room)) in
    let mj : target_of (gate_in window j) ≡ new_line to (target_of (gate_in template j)) = ap target_of (match_at window template to _ _ j a.fits_window lt) in
    let m0 : target_of (gate_in window 0) ≡ new_line to (target_of (gate_in template 0)) = ap target_of (match_at window template to _ _ 0 a.fits_window some) in
    let k : eqb (target_of (gate_in window j)) (target_of (gate_in window 0)) ≡ eqb (target_of (gate_in template j)) (target_of (gate_in template 0)) =
    eqb_same (target_of (gate_in window j)) (target_of (gate_in window 0)) (target_of (gate_in template j)) (target_of (gate_in template 0))
    (λ q. apart_from (span template) to a.distinct (target_of (gate_in template j)) (target_of (gate_in template 0)) sj.target s0.target sj.owned s0.owned (sym mj ∙ q ∙ m0))
    (λ q. mj ∙ ap (new_line to) q ∙ sym m0) in
    let at : alike g first h own ≡ same (eqb (target_of (gate_in window j)) (target_of (gate_in window 0))) (eqb (target_of (gate_in template j)) (target_of (gate_in template 0))) =
    ap (λ x. alike x first h own) eg ∙ ap (λ x. alike (gate_in window j) x h own) ef ∙ ap (λ x. alike (gate_in window j) (gate_in window 0) x own) eh ∙ ap (alike (gate_in window j) (gate_in window 0) (gate_in template j)) eo in
    false≢true (sym off ∙ at ∙ same_from _ _ k))

pub none_at_all : (window template : List Shape) → ((to : List ℕ) → allowed window template to ≡ false) → least (allowed window template) 6 [] ≡ None
none_at_all window template h = least_dead (allowed window template) 6 [] (λ rest len. h rest)
