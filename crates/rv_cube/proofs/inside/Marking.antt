-- A filter, after one key more leads to a slot, or one less.
use Rattle.std.proofs.Common.{◌≡◌, ℕ, ◌<◌, Bool, true, false, cond, List, length, set, refl, sym, ◌∙◌, arith, eqb, eq-eqb, ne_eqb, get_or-set_same, get_or-set_other}
use Rattle.std.specs.Prelude.{Option, None, Some}
use Rattle.std.proofs.lemmas.Bool.{cases_eq, false≢true, eqb-true}
use Rattle.std.proofs.lemmas.Option.{none-some}
use Rattle.rv_cube.specs.inside.Slots.{key_eq}
use Rattle.rv_cube.specs.inside.Filter.{filter_place, count_at, one_more, one_less, IsFiltered}
use Rattle.rv_cube.proofs.inside.Noting.{key_eq-true, key_eq-same}
use Rattle.std.proofs.lemmas.Grind.{common_steps}

-- ---- one count is changed

-- what is counted at each place after a change at one
pub changed_at : (counts : List ℕ) (own new : ℕ) (f : ℕ → ℕ) → own < length counts → new ≡ f (count_at counts own)
    → (place : ℕ) → count_at (set counts own new) place ≡ cond (eqb place own) (f (count_at counts place)) (count_at counts place)
changed_at counts own new f within is place = grind (arith, cases_eq, eq-eqb, get_or-set_same, ne_eqb, get_or-set_other)

-- ---- one key more

more_none_by : (t : Bool) → cond {A = ℕ} t 1 2 ≡ 0 → ⊥
more_none_by t h = grind arith

more_none : (n : ℕ) → one_more n ≡ 0 → ⊥
more_none n h = more_none_by (eqb n 0) h

none_before : (n : ℕ) (t : Bool) → cond t (one_more n) n ≡ 0 → n ≡ 0
none_before n true h = absurd (more_none n h)
none_before n false h = h

none_elsewhere : (n : ℕ) (t : Bool) → cond t (one_more n) n ≡ 0 → t ≡ false
none_elsewhere n true h = absurd (more_none n h)
none_elsewhere n false h = refl

-- the keys lead as before, but for one that leads to slot i
abbrev IsNoted : (ℕ × ℕ → Option ℕ) → (ℕ × ℕ → Option ℕ) → ℕ × ℕ → ℕ → Type 0
IsNoted find then own i = (key : ℕ × ℕ) → then key ≡ cond (key_eq own key) (Some i) (find key)

noted_none : (find : ℕ × ℕ → Option ℕ) (own key : ℕ × ℕ) (i n : ℕ) (t : Bool) → key_eq own key ≡ t
    → cond (eqb (filter_place key) (filter_place own)) (one_more n) n ≡ 0 → find key ≡ None → cond t (Some i) (find key) ≡ None
noted_none find own key i n t h h2 h3 = grind (arith, none_elsewhere, eq-eqb, key_eq-true)

noted_one : (counts : List ℕ) (find then : ℕ × ℕ → Option ℕ) (own key other : ℕ × ℕ) (i a b : ℕ) (t : Bool) → IsFiltered counts find → IsNoted find then own i
    → eqb (filter_place key) (filter_place own) ≡ t → filter_place key ≡ filter_place other
    → cond t (one_more (count_at counts (filter_place key))) (count_at counts (filter_place key)) ≡ 1 → then key ≡ Some a → then other ≡ Some b → key ≡ other
noted_one counts find then own key other i a b t h h1 h2 h3 h4 h5 h6 = grind arith

pub filtered_noted : (old new : List ℕ) (find then : ℕ × ℕ → Option ℕ) (own : ℕ × ℕ) (i : ℕ) → IsFiltered old find
    → ((place : ℕ) → count_at new place ≡ cond (eqb place (filter_place own)) (one_more (count_at old place)) (count_at old place))
    → ((key : ℕ × ℕ) → then key ≡ cond (key_eq own key) (Some i) (find key)) → IsFiltered new then
filtered_noted old new find then own i h c e = record {
  none = grind (arith, common_steps, noted_none, none_before);
  one = grind (arith, common_steps, noted_one);
}

-- ---- one key less

less_one_by : (n : ℕ) (t : Bool) → eqb n 1 ≡ t → cond t 0 n ≡ 1 → ⊥
less_one_by n true e h = absurd (omega arith)
less_one_by n false e h = false≢true (sym e ∙ eq-eqb n 1 h)

less_one : (n : ℕ) → one_less n ≡ 1 → ⊥
less_one n h = less_one_by n (eqb n 1) refl h

still_found : (j : ℕ) (o : Option ℕ) (t : Bool) → cond t None o ≡ Some j → o ≡ Some j
still_found j o true h = absurd (none-some j h)
still_found j o false h = h

-- of a place that one key led from, no other did
alone_here : (counts : List ℕ) (find : ℕ × ℕ → Option ℕ) (own key : ℕ × ℕ) (i : ℕ) (o : Option ℕ) → IsFiltered counts find → find own ≡ Some i
    → filter_place key ≡ filter_place own → count_at counts (filter_place key) ≡ 1 → find key ≡ o → (key ≡ own → ⊥) → o ≡ None
alone_here counts find own key i o h h2 h3 h4 h5 h6 = grind arith

less_none : (counts : List ℕ) (find : ℕ × ℕ → Option ℕ) (own key : ℕ × ℕ) (i n : ℕ) (t u : Bool) → IsFiltered counts find → find own ≡ Some i
    → eqb (filter_place key) (filter_place own) ≡ t → count_at counts (filter_place key) ≡ n → eqb n 1 ≡ u → cond t (cond u 0 n) n ≡ 0 → (key ≡ own → ⊥) → find key ≡ None
less_none counts find own key i n t u h h2 h3 h4 h5 h6 h7 = grind (arith, alone_here, eqb-true)

forgotten_none : (find : ℕ × ℕ → Option ℕ) (own key : ℕ × ℕ) (t : Bool) → key_eq own key ≡ t → (t ≡ false → find key ≡ None) → cond t None (find key) ≡ None
forgotten_none find own key t h h2 = grind arith

less_elsewhere : (n : ℕ) (t : Bool) → cond t (one_less n) n ≡ 1 → n ≡ 1
less_elsewhere n true h = absurd (less_one n h)
less_elsewhere n false h = h

pub filtered_forgotten : (old new : List ℕ) (find then : ℕ × ℕ → Option ℕ) (own : ℕ × ℕ) (i : ℕ) → IsFiltered old find → find own ≡ Some i
    → ((place : ℕ) → count_at new place ≡ cond (eqb place (filter_place own)) (one_less (count_at old place)) (count_at old place))
    → ((key : ℕ × ℕ) → then key ≡ cond (key_eq own key) None (find key)) → IsFiltered new then
filtered_forgotten old new find then own i h f c e = grind (arith, common_steps, forgotten_none, less_none, false≢true, key_eq-same, less_elsewhere, still_found)
