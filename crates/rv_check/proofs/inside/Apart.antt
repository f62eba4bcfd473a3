-- Members whose words differ: the value at a member's word is that member's value.
use Rattle.rv_gate.proofs.Words.{same_word-is, same_word-true, same_word-false}
use Rattle.std.proofs.Common.{arith, ◌≡◌, ◌≢◌, ℕ, Bool, true, false, cond, ◌&&◌, List, [], ◌∷◌, map, length, fold, filter, refl, sym, ap, ap₂, ◌∙◌}
use Rattle.std.proofs.lemmas.Bool.{false≢true, and_parts}
use Rattle.std.proofs.lemmas.List.Elements.{All-head, All-tail}
use Rattle.std.specs.List.{list_all}
use Rattle.rv_net.specs.Amplitude.{same_word}
use Rattle.rv_net.specs.Cyclotomic.{Cyclotomic, nought, plus}
use Rattle.rv_net.specs.Op.{OpFitsIn, goes_to}
use Rattle.rv_net.specs.declared.op.Op.{Op}
use Rattle.rv_net.proofs.Cyclotomic.{plus_nought, nought_plus}
use Rattle.rv_check.specs.declared.member.Member.{Member}
use Rattle.rv_check.specs.inside.Kept.{added, divided, is_present, moved, spread}
use Rattle.rv_check.specs.inside.Stands.{Apart, Fresh, On, value_at}
use Rattle.rv_check.proofs.inside.Adding.{more}
use Rattle.rv_check.proofs.Back.{goes_apart}
use Rattle.rv_check.proofs.inside.Sparse.{Word}
use Rattle.std.proofs.lemmas.Grind.{common_steps}

fresh-added : (u : Word) (ms : List Member) (w : Word) (v : Cyclotomic) → Fresh u ms → w ≢ u → Fresh u (added ms w v)
unfolding added
fresh-added u [] w v h ne = (ne, tt)
fresh-added u (m ∷ ms) w v h ne = let rest = fresh-added u ms w v h.1 ne in grind (arith, common_steps, rest, h.0, h.1, more)

pub apart-added : (ms : List Member) (w : Word) (v : Cyclotomic) → Apart ms → Apart (added ms w v)
unfolding added
apart-added [] w v h = (tt, tt)
apart-added (m ∷ ms) w v h = let rest = apart-added ms w v h.1 in grind (arith, common_steps, rest, h.0, h.1, more, fresh-added, same_word-true)

apart-spread : (line : ℕ) (ms : List Member) (m : Member) → Apart ms → Apart (spread line ms m)
unfolding spread
apart-spread line ms m h = grind (arith, apart-added)

apart-fold_spread : (line : ℕ) (acc ms : List Member) → Apart acc → Apart (fold (spread line) acc ms)
apart-fold_spread line acc [] h = h
apart-fold_spread line acc (m ∷ ms) h = apart-fold_spread line (spread line acc m) ms (apart-spread line acc m h)

fresh-filter : (p : Member → Bool) (u : Word) (ms : List Member) → Fresh u ms → Fresh u (filter p ms)
fresh-filter p u [] h = tt
fresh-filter p u (m ∷ ms) h = let rest = fresh-filter p u ms h.1 in grind (arith, common_steps, rest, h.0, h.1, filter)

pub apart-filter : (p : Member → Bool) (ms : List Member) → Apart ms → Apart (filter p ms)
apart-filter p [] h = tt
apart-filter p (m ∷ ms) h = let rest = apart-filter p ms h.1 in grind (arith, common_steps, rest, h.0, h.1, filter, fresh-filter)

pub apart-mixed : (line : ℕ) (ms : List Member) → Apart (filter is_present (fold (spread line) [] ms))
apart-mixed line ms = apart-filter is_present (fold (spread line) [] ms) (apart-fold_spread line [] ms tt)

fresh-divided : (u : Word) (ms : List Member) → Fresh u ms → Fresh u (map divided ms)
fresh-divided u [] h = tt
fresh-divided u (m ∷ ms) h = (h.0, fresh-divided u ms h.1)

pub apart-divided : (ms : List Member) → Apart ms → Apart (map divided ms)
apart-divided [] h = tt
apart-divided (m ∷ ms) h = (fresh-divided m.word ms h.0, apart-divided ms h.1)

fresh-moved : (op : Op) (n : ℕ) (u : Word) (ms : List Member) → OpFitsIn op n → length u ≡ n → On n ms → Fresh u ms → Fresh (goes_to op u) (map (moved op) ms)
fresh-moved op n u [] fits e on h = tt
fresh-moved op n u (m ∷ ms) fits e on h =
    let first : length m.word ≡ n = All-head (λ m. length m.word ≡ n) m ms on in (
      goes_apart op m.word u (rw first fits) (rw e fits) h.0,
      fresh-moved op n u ms fits e (All-tail (λ m. length m.word ≡ n) m ms on) h.1,
    )

pub apart-moved : (op : Op) (n : ℕ) (ms : List Member) → OpFitsIn op n → On n ms → Apart ms → Apart (map (moved op) ms)
apart-moved op n [] fits on h = tt
apart-moved op n (m ∷ ms) fits on h =
    let others = All-tail (λ m. length m.word ≡ n) m ms on in
    (fresh-moved op n m.word ms fits (All-head (λ m. length m.word ≡ n) m ms on) others h.0, apart-moved op n ms fits others h.1)

-- ---- values

pub fresh_value : (z : Word) (ms : List Member) → Fresh z ms → value_at ms z ≡ nought
unfolding value_at
fresh_value z [] h = refl
fresh_value z (m ∷ ms) h =
    ap₂ plus (ap (λ b. cond b m.value nought) (same_word-false m.word z h.0)) (fresh_value z ms h.1) ∙ plus_nought nought

pub head_value : (m : Member) (ms : List Member) (z : Word) → m.word ≡ z → Fresh m.word ms → value_at (m ∷ ms) z ≡ m.value
unfolding value_at
head_value m ms z e h =
    ap₂ plus (ap (λ b. cond b m.value nought) (same_word-true m.word z e)) (fresh_value z ms (rw (sym e) h)) ∙ plus_nought m.value

pub tail_value : (m : Member) (ms : List Member) (z : Word) → m.word ≢ z → value_at (m ∷ ms) z ≡ value_at ms z
unfolding value_at
tail_value m ms z ne = ap (λ b. plus (cond b m.value nought) (value_at ms z)) (same_word-false m.word z ne) ∙ nought_plus _

-- A test that 0 passes: each value passes where each member does, and only there. It may look at the word.
pub values_pass : (f : Word → Cyclotomic → Bool) → ((z : Word) → f z nought ≡ true) → (ms : List Member) → Apart ms → list_all (λ m. f m.word m.value) ms ≡ true → (z : Word) → f z (value_at ms z) ≡ true
unfolding value_at
values_pass f none [] h e z = none z
values_pass f none (m ∷ ms) h e z = let rest = values_pass f none ms h.1 in grind (arith, common_steps, rest, h.0, h.1, and_parts, same_word-is, head_value, tail_value, same_word-true)

pub members_pass : (f : Word → Cyclotomic → Bool) → ((z : Word) → f z nought ≡ true) → (n : ℕ) (ms : List Member) → Apart ms → On n ms
    → ((z : Word) → length z ≡ n → f z (value_at ms z) ≡ true) → list_all (λ m. f m.word m.value) ms ≡ true
members_pass f none n [] h on passes = refl
members_pass f none n (m ∷ ms) h on passes =
    let first : length m.word ≡ n = All-head (λ m. length m.word ≡ n) m ms on in
    let own : f m.word m.value ≡ true = ap (f m.word) (sym (head_value m ms m.word refl h.0)) ∙ passes m.word first in
    ap₂ (λ a b. a && b) own (members_pass f none n ms h.1 (All-tail (λ m. length m.word ≡ n) m ms on)
    (λ z e. go z (same_word m.word z) refl (passes z e))) where
      go : (z : Word) (b : Bool) → same_word m.word z ≡ b → f z (value_at (m ∷ ms) z) ≡ true → f z (value_at ms z) ≡ true
      go z true e p = ap (f z) (fresh_value z ms (rw (sym (same_word-is m.word z e)) h.0)) ∙ none z
      go z false e p = ap (f z) (sym (tail_value m ms z (λ same. false≢true (sym e ∙ same_word-true m.word z same)))) ∙ p
