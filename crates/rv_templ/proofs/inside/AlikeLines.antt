-- Lines that are the same to each gate of a window: where a renaming that goes on with one of them comes to nothing,
-- so does one that goes on with another.
use Rattle.std.proofs.Common.{◌≡◌, ◌≢◌, ℕ, zero, suc, ◌+◌, ◌-◌, ◌<◌, ◌≤◌, Bool, true, false, cond, eqb, List, [], ◌∷◌, ◌++◌, length, take, drop, refl, sym, ◌∙◌, ap, inl, inr, arith, subst, take-append-drop, length-append, append_assoc, leb-true}
use Rattle.std.specs.Prelude.{bit_or, Option, Some, None}
use Rattle.std.proofs.lemmas.Bool.{cases_eq, cases_Bool, false≢true, cond-true, cond-false, false_from_ne_true}
use Rattle.std.proofs.lemmas.List.{get_or-append-add, length-take-le, length-map, append-nil}
use Rattle.rv_gate.specs.declared.word.TheConstants.{MOST_LINES}
use Rattle.rv_gate.proofs.LineSets.{same_lines}
use Rattle.rv_gate.specs.Word.{has}
use Rattle.rv_gate.specs.Gate.{touches, controls, wanted, IsFlip}
use Rattle.rv_gate.specs.declared.gate.Shape.{Shape}
use Rattle.rv_gate.specs.declared.gate.Shape.TheVariants.{Flip}
use Rattle.rv_gate.specs.FirstAnswer.{first}
use Rattle.rv_templ.specs.Folds.{least}
use Rattle.rv_templ.specs.Gates.{gate_in}
use Rattle.rv_templ.specs.Images.{target_of, span, new_line, renamed, image_of, fresh_care, fresh_want, others, allowed}
use Rattle.rv_templ.specs.Templates.{IsTemplate}
use Rattle.rv_templ.specs.Windows.{IsRenaming}
use Rattle.rv_templ.specs.inside.Pruning.{same_role, Suits}
use Rattle.rv_gate.proofs.FirstAnswer.{first_hit, none_first}
use Rattle.rv_templ.proofs.inside.FoldLemmas.{least_end, least_step}
use Rattle.rv_templ.proofs.ImageLaws.{Part, Serves, Serve, renamed_has}
use Rattle.rv_templ.proofs.MeaningLaws.{Small, small_at, small_from, least_none, allowed_from}
use Rattle.rv_templ.proofs.inside.PruningLaws.{gone_on, next_line, line_before, drop_plain, none_dead, on_with, role_in}
use Rattle.rv_templ.proofs.TradedLines.{traded, traded_right, traded_other, traded_twice, traded_same, traded_below, traded_set, has-traded, both_traded, touched_traded, size_traded}
use Rattle.rv_templ.proofs.WindowLaws.{plain_at, allowed_parts, apart_from, match_at, image_at, serve_at, serve_template, Serve-last, span_from, span_has, within_at, without_parts}
use Rattle.rv_gate.proofs.Bits.{same_true, same_bool}

-- ---- a line is the same to a gate as another

pub record Even (g : Shape) (v u : ℕ) : Type 0 where
  pub control : has (controls g) v ≡ has (controls g) u
  pub value : has (wanted g) v ≡ has (wanted g) u
  pub target : eqb v (target_of g) ≡ eqb u (target_of g)

role_parts : (g h : Shape) (v i : ℕ) → same_role g v h i ≡ true → (has (controls g) v ≡ has (controls h) i) × (has (wanted g) v ≡ has (wanted h) i) × (eqb v (target_of g) ≡ eqb i (target_of h))
role_parts g h v i e = grind (arith, same_true)

even_roles : (g h : Shape) (v u i : ℕ) → same_role g v h i ≡ true → same_role g u h i ≡ true → Even g v u
even_roles g h v u i a b = grind (arith, role_parts)

even_touches : (g : Shape) (v u : ℕ) → IsFlip g → Even g v u → touches g v ≡ touches g u
even_touches g v u h h1 = grind arith

-- the target is neither of them
target_stays : (g : Shape) (v u : ℕ) → u ≢ v → Even g v u → traded v u (target_of g) ≡ target_of g
target_stays g v u ne e = grind arith

-- ---- the two lines traded in a renaming

pub record Trade (own : ℕ) (to to2 : List ℕ) (v u : ℕ) : Type 0 where
  pub six : length to2 ≡ 6
  pub lines : (j : ℕ) → j < 6 → new_line to2 j < MOST_LINES
  pub off : (j : ℕ) → j < 6 → has own j ≡ false → new_line to2 j ≡ 0
  pub each : (j : ℕ) → j < 6 → has own j ≡ true → new_line to2 j ≡ traded v u (new_line to j)

image_stays : (own : ℕ) (to to2 : List ℕ) (care want v u : ℕ) (g h : Shape) → u ≢ v → Trade own to to2 v u → Serves own h → g ≡ image_of to care want h → Even g v u
    → g ≡ image_of to2 (traded_set v u care) (traded_set v u want) h
image_stays own to to2 care want v u g h ne trade s is even =
    let c : ℕ = bit_or (renamed to (controls h)) care in
    let w : ℕ = bit_or (renamed to (wanted h)) want in
    let t : ℕ = new_line to (target_of h) in
    let e : Even (Flip c w t) v u = subst (λ (x : Shape). Even x v u) is even in
    let wanted_own : Part (wanted h) own = λ line l. s.care line (s.want line l) in
    let ec : bit_or (renamed to2 (controls h)) (traded_set v u care) ≡ c =
    same_lines _ _ (λ x. both_traded own to to2 v u (controls h) care x s.care trade.each ∙ traded_same (has c) v u x e.control) in
    let ew : bit_or (renamed to2 (wanted h)) (traded_set v u want) ≡ w =
    same_lines _ _ (λ x. both_traded own to to2 v u (wanted h) want x wanted_own trade.each ∙ traded_same (has w) v u x e.value) in
    let et : new_line to2 (target_of h) ≡ t = trade.each (target_of h) s.target s.owned ∙ target_stays (Flip c w t) v u ne e in
    is
    ∙ ap (λ x. Flip x w t) (sym ec)
    ∙ ap (λ x. Flip (bit_or (renamed to2 (controls h)) (traded_set v u care)) x t) (sym ew)
    ∙ ap (λ x. Flip (bit_or (renamed to2 (controls h)) (traded_set v u care)) (bit_or (renamed to2 (wanted h)) (traded_set v u want)) x) (sym et)

renaming_stays : (own : ℕ) (to to2 : List ℕ) (v u : ℕ) → ((i j : ℕ) → i < 6 → j < 6 → has own i ≡ true → has own j ≡ true → new_line to i ≡ new_line to j → i ≡ j) → Trade own to to2 v u → IsRenaming own to2
renaming_stays own to to2 v u apart trade = record {
  six = trade.six;
  lines = trade.lines;
  zero_elsewhere = trade.off;
  apart = λ i j hi hj oi oj e.
      apart i j hi hj oi oj
      (sym (traded_twice v u (new_line to i)) ∙ ap (traded v u) (sym (trade.each i hi oi) ∙ e ∙ trade.each j hj oj) ∙ traded_twice v u (new_line to j));
}

-- the window of a renaming is that of the renaming in which the two lines were traded
pub allowed_stays : (window template : List Shape) (to to2 : List ℕ) (v u : ℕ) → IsTemplate template → 0 < length window → length window ≤ length template → u ≢ v → Trade (span template) to to2 v u
    → ((j : ℕ) → j < length window → Even (gate_in window j) v u) → allowed window template to ≡ true → allowed window template to2 ≡ true
allowed_stays window template to to2 v u is some room ne trade even e =
    let own : ℕ = span template in
    let k : ℕ = length window in
    let care : ℕ = fresh_care window own to in
    let want : ℕ = fresh_want window own to in
    let care2 : ℕ = traded_set v u care in
    let want2 : ℕ = traded_set v u want in
    let a = allowed_parts window template to e in
    let gates : List Shape = drop (length window) template in
    let whole : take (length window) template ++ drop (length window) template ≡ template = take-append-drop (length window) template in
    let served : Serve own gates = Serve-last own (take (length window) template) gates (subst (λ (l : List Shape). Serve own l) (sym whole) (serve_template template is)) in
    let in_flip : (j : ℕ) → j < length window → IsFlip (gate_in window j) = λ j lt. subst (λ (g : Shape). IsFlip g) (sym (match_at window template to care want j a.fits_window lt)) refl in
    let spans : has (span window) v ≡ has (span window) u = same_bool _ _
    (λ t. let p = span_from window v t in span_has window p.0 u p.1 (sym (even_touches (gate_in window p.0) v u (in_flip p.0 p.1) (even p.0 p.1)) ∙ p.2))
    (λ t. let p = span_from window u t in span_has window p.0 v p.1 (even_touches (gate_in window p.0) v u (in_flip p.0 p.1) (even p.0 p.1) ∙ p.2)) in
    allowed_from window template to2 care2 want2 is (record {
      some = some;
      room = room;
      renaming = renaming_stays own to to2 v u (apart_from own to a.distinct) trade;
      free = λ i h on.
          has-traded v u care (new_line to2 i)
          ∙ ap (λ x. has care (traded v u x)) (trade.each i h on)
          ∙ ap (has care) (traded_twice v u (new_line to i))
          ∙ false_from_ne_true _ (λ t. false≢true (sym (without_parts (controls (gate_in window 0)) (renamed to own) (new_line to i) t).1 ∙ renamed_has to own i h on));
      free_want = λ i h on.
          has-traded v u want (new_line to2 i)
          ∙ ap (λ x. has want (traded v u x)) (trade.each i h on)
          ∙ ap (has want) (traded_twice v u (new_line to i))
          ∙ false_from_ne_true _ (λ t. false≢true (sym (without_parts (wanted (gate_in window 0)) (renamed to own) (new_line to i) t).1 ∙ renamed_has to own i h on));
      each = λ j lt.
          image_stays own to to2 care want v u (gate_in window j) (gate_in template j) ne trade (serve_at template j is (omega (arith, lt, room)))
          (match_at window template to care want j a.fits_window lt) (even j lt);
      inside = λ line t.
          let p = span_from (others (length window) template to2 care2 want2) line t in
          let lt : p.0 < length gates = omega (arith, p.1, length-map gates (image_of to2 care2 want2)) in
          let new : gate_in (others (length window) template to2 care2 want2) p.0 ≡ image_of to2 care2 want2 (gate_in gates p.0) = image_at to2 care2 want2 gates p.0 lt in
          let old : gate_in (others (length window) template to care want) p.0 ≡ image_of to care want (gate_in gates p.0) = image_at to care want gates p.0 lt in
          let on : touches (gate_in (others (length window) template to care want) p.0) (traded v u line) ≡ true =
          ap (λ g. touches g (traded v u line)) old
          ∙ sym (touched_traded own to to2 care want v u line (gate_in gates p.0) (served_at own gates p.0 served lt) trade.each)
          ∙ ap (λ g. touches g line) (sym new) ∙ p.2 in
          sym (traded_same (has (span window)) v u line spans)
          ∙ within_at (others (length window) template to care want) (span window) p.0 (traded v u line) a.within (omega (arith, lt, length-map gates (image_of to care want))) on;
      no_more = let le = size_traded own to to2 care want v u gates served trade.each in let f = leb-true _ _ a.fewer in omega (arith, le, f);
    })
  where
    served_at : (own : ℕ) (gates : List Shape) (j : ℕ) → Serve own gates → j < length gates → Serves own (gate_in gates j)
    served_at own [] j s h = absurd (omega arith)
    served_at own (x ∷ xs) zero s h = s.0
    served_at own (x ∷ xs) (suc j) s h = served_at own xs j s.1 (omega arith)

-- ---- the lists

-- the last lines of a renaming, from its line j on, after the trade
abbrev traded_rest : ℕ → ℕ → ℕ → ℕ → List ℕ → List ℕ
traded_rest own v u j [] = []
traded_rest own v u j (x ∷ rest) = cond (has own j) (traded v u x) x ∷ traded_rest own v u (suc j) rest

length-traded_rest : (own v u j : ℕ) (rest : List ℕ) → length (traded_rest own v u j rest) ≡ length rest
length-traded_rest own v u j [] = refl
length-traded_rest own v u j (x ∷ rest) = ap suc (length-traded_rest own v u (suc j) rest)

rest_at : (own v u j d : ℕ) (rest : List ℕ) → d < length rest → new_line (traded_rest own v u j rest) d ≡ cond (has own (j + d)) (traded v u (new_line rest d)) (new_line rest d)
rest_at own v u j d [] h = absurd (omega arith)
rest_at own v u j zero (x ∷ rest) h = let e : j ≡ j + 0 = omega arith in ap (λ n. cond (has own n) (traded v u x) x) e
rest_at own v u j (suc d) (x ∷ rest) h = let i0 = rest_at own v u (suc j) d rest in grind (arith, i0, traded)

-- a line after the one that a renaming goes on with
line_after : (to : List ℕ) (i v d : ℕ) (rest : List ℕ) → length to ≡ 6 → i < 6 → new_line (gone_on to i v rest) (suc (i + d)) ≡ new_line rest d
line_after to i v d rest len h = grind (arith, length-append, length-take-le, new_line, gone_on, get_or-append-add)

length-gone_on : (to : List ℕ) (i v : ℕ) (rest : List ℕ) → length to ≡ 6 → i < 6 → length rest ≡ 6 - (i + 1) → length (gone_on to i v rest) ≡ 6
length-gone_on to i v rest len h r =
    omega (arith, length-append (take i to ++ (v ∷ [])) rest, length-append (take i to) (v ∷ []), length-take-le i to (omega arith), r)

-- what holds of each line of two renamings that go on from one with a line each
both_lines : (P : ℕ → ℕ → ℕ → Type 0) (to : List ℕ) (i u v : ℕ) (rest rest2 : List ℕ) → length to ≡ 6 → i < 6 → length rest ≡ 6 - (i + 1) → ((j : ℕ) → j < i → P j (new_line to j) (new_line to j)) → P i u v
    → ((d : ℕ) → d < length rest → P (suc i + d) (new_line rest d) (new_line rest2 d)) → (j : ℕ) → j < 6 → P j (new_line (gone_on to i u rest) j) (new_line (gone_on to i v rest2) j)
both_lines P to i u v rest rest2 len h lr before here after j hj = grind (arith, line_before, next_line, gone_on, line_after)

-- one line of two renamings, before and after the trade
record Trades (own v u j x y : ℕ) : Type 0 where
  low : x < MOST_LINES
  on : has own j ≡ true → y ≡ traded v u x
  off : has own j ≡ false → y ≡ x

trade_from : (window template : List Shape) (to : List ℕ) (i v u : ℕ) (rest : List ℕ) → length to ≡ 6 → i < 6 → ((j : ℕ) → j < 6 → new_line to j < MOST_LINES) → v < MOST_LINES → u < MOST_LINES → length rest ≡ 6 - (i + 1)
    → Small rest → has (span template) i ≡ true → ((j : ℕ) → j < i → has (span template) j ≡ true → new_line to j ≢ v) → allowed window template (gone_on to i u rest) ≡ true
    → Trade (span template) (gone_on to i u rest) (gone_on to i v (traded_rest (span template) v u (suc i) rest)) v u
trade_from window template to i v u rest len h lines hv hu lr small on unused e =
    let own : ℕ = span template in
    let old : List ℕ = gone_on to i u rest in
    let rest2 : List ℕ = traded_rest own v u (suc i) rest in
    let a = allowed_parts window template old e in
    let not_u : (j : ℕ) → j < i → has own j ≡ true → new_line to j ≢ u = λ j lt oj s.
    let same = apart_from own old a.distinct j i (omega arith) h oj on (line_before to i u j rest len h lt ∙ s ∙ sym (next_line to i u rest len h)) in
    omega (arith, same) in
    let each : (j : ℕ) → j < 6 → Trades own v u j (new_line old j) (new_line (gone_on to i v rest2) j) =
    both_lines (Trades own v u) to i u v rest rest2 len h lr
    (λ j lt. record { low = lines j (omega arith); on = λ oj. sym (traded_other v u (new_line to j) (unused j lt oj) (not_u j lt oj)); off = λ _. refl })
    (record { low = hu; on = λ _. sym (traded_right v u); off = λ none. absurd (false≢true (sym none ∙ on)) })
    (λ d lt.
    let at = rest_at own v u (suc i) d rest lt in
    record {
      low = small_at rest d small lt;
      on = λ oj. at ∙ cond-true (has own (suc i + d)) (traded v u (new_line rest d)) (new_line rest d) oj;
      off = λ none. at ∙ cond-false (has own (suc i + d)) (traded v u (new_line rest d)) (new_line rest d) none;
    }) in
    let off : (j : ℕ) → j < 6 → has own j ≡ false → new_line (gone_on to i v rest2) j ≡ 0 = λ j hj none. (each j hj).off none ∙ plain_at own old j a.zero_elsewhere hj none in
    record {
      six = length-gone_on to i v rest2 len h (length-traded_rest own v u (suc i) rest ∙ lr);
      lines = λ j hj.
          elim (cases_Bool (has own j)) [
            | inl oj ↦ let t = (each j hj).on oj in let l = traded_below MOST_LINES v u (new_line old j) hv hu (each j hj).low in omega (arith, t, l)
            | inr none ↦ let t = off j hj none in omega (arith, t)
          ];
      off = off;
      each = λ j hj. (each j hj).on;
    }

-- ---- the search

-- no list of small lines that goes on so passes
least_dead_small : (ok : List ℕ → Bool) (n : ℕ) (begun : List ℕ) → ((rest : List ℕ) → length rest ≡ n → Small rest → ok (begun ++ rest) ≡ false) → least ok n begun ≡ None
least_dead_small ok zero begun h = least_end ok begun ∙ cond-false (ok begun) (Some begun) None (sym (ap ok (append-nil begun)) ∙ h [] refl tt)
least_dead_small ok (suc n) begun h = let i0 = least_dead_small ok n in grind (arith, i0, least_step, none_first, append_assoc)

-- where going on with a line that may be taken comes to nothing, so does going on with another
pub alike_none : (window template : List Shape) (to : List ℕ) (i v u : ℕ) → IsTemplate template → 0 < length window → length window ≤ length template → length to ≡ 6 → i < 6
    → ((j : ℕ) → j < 6 → new_line to j < MOST_LINES) → v < MOST_LINES → u < MOST_LINES → Suits window template to i v
    → on_with (allowed window template) to i v ≡ None → on_with (allowed window template) to i u ≡ None
alike_none window template to i v u is some room len h lines hv hu suits none =
    let ok : List ℕ → Bool = allowed window template in
    let own : ℕ = span template in
    elim (cases_eq u v) [
      | inl s ↦ ap (on_with (allowed window template) to i) s ∙ none
      | inr ne ↦ (elim (cases_Bool (has (span template) i)) [
        | inr off ↦ none_dead window template (6 - (i + 1)) (take i to ++ (u ∷ [])) (drop_plain window template to i u len h off (λ z. ne (z ∙ sym (suits.zero_elsewhere off))))
        | inl on ↦
            least_dead_small (allowed window template) (6 - (i + 1)) (take i to ++ (u ∷ [])) (λ rest lr small.
            false_from_ne_true _ (λ e.
            let trade = trade_from window template to i v u rest len h lines hv hu lr small on (suits.unused on) e in
            let rest2 : List ℕ = traded_rest (span template) v u (suc i) rest in
            let lr2 : length rest2 ≡ 6 - (i + 1) = length-traded_rest (span template) v u (suc i) rest ∙ lr in
            let small2 : Small rest2 = small_from rest2 (λ d hd.
            let at = line_after to i v d rest2 len h in
            let l = trade.lines (suc (i + d)) (omega arith) in
            omega (arith, at, l)) in
            let even : (j : ℕ) → j < length window → Even (gate_in window j) v u = λ j lt.
            even_roles (gate_in window j) (gate_in template j) v u i (suits.roles on j lt)
            (subst (λ (x : ℕ). same_role (gate_in window j) x (gate_in template j) i ≡ true) (next_line to i u rest len h) (role_in window template (gone_on to i u rest) i j is room e h on lt)) in
            let stays = allowed_stays window template (gone_on to i u rest) (gone_on to i v rest2) v u is some room ne trade even e in
            false≢true (sym (least_none (allowed window template) (6 - (i + 1)) (take i to ++ (v ∷ [])) rest2 none lr2 small2) ∙ stays)))
      ])
    ]

-- the answer of the first line that may be taken is that of all lines from it on
pub first_only : (ok : List ℕ → Bool) (to : List ℕ) (i v : ℕ) (o : Option (List ℕ)) → v < MOST_LINES → o ≡ on_with ok to i v
    → ((u : ℕ) → u < MOST_LINES → on_with ok to i v ≡ None → on_with ok to i u ≡ None) → o ≡ first (on_with ok to i) v (MOST_LINES - v)
first_only ok to i v o h h1 h2 = grind (arith, first_hit, on_with, MOST_LINES, none_first)
