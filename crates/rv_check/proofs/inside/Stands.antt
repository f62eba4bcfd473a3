-- What binds the kept vector and the whole one after each operation: the whole one is the kept one times the root of two,
-- so many times, and the kept one can't be divided further.
use Rattle.std.proofs.Common.{◌≡◌, ℕ, zero, suc, ◌+◌, Bool, true, false, cond, List, [], ◌∷◌, ◌++◌, map, length, fold, All, refl, sym, ap, ap₂, ◌∙◌, arith, inl, inr, ◌⊎◌, append_assoc, append-nil}
use Rattle.std.proofs.lemmas.Bool.{false≢true, false_from_ne_true}
use Rattle.std.proofs.lemmas.List.Elements.{All-head, All-tail, All-cons, All-nil, All-map, All-weaker, All-filter}
use Rattle.rv_net.specs.Amplitude.{amplitude, count_h, same_word}
use Rattle.rv_net.specs.Cyclotomic.{nought, unity, plus, times, times_w_power}
use Rattle.rv_net.specs.Op.{goes_to, phase_of, OpFitsIn}
use Rattle.rv_net.specs.declared.op.Op.{Op}
use Rattle.rv_net.specs.declared.op.Op.TheVariants.{H}
use Rattle.rv_net.proofs.Cyclotomic.{plus_nought, nought_plus}
use Rattle.rv_check.specs.declared.member.Member.{Member}
use Rattle.rv_check.specs.inside.Kept.{Kept, divided, is_present, kept_after, kept_more, kept_start, mixed, moved, reduced_kept, spread}
use Rattle.rv_check.specs.inside.Dense.{undivided_more}
use Rattle.rv_check.specs.inside.Stands.{Apart, On, Stands, StandsOver, multiples, scaled, value_at}
use Rattle.rv_check.proofs.inside.Apart.{apart-mixed, apart-divided, apart-moved}
use Rattle.rv_check.proofs.Back.{length-goes_to}
use Rattle.rv_check.proofs.inside.Growing.{on-fold_spread}
use Rattle.rv_check.proofs.inside.Multiples.{multiple_turned}
use Rattle.rv_check.proofs.inside.Scaled.{scaled-root2}
use Rattle.rv_check.proofs.inside.Sparse.{Word, worth, appended, turned_at, value_at-fold_spread, value_at-filter, value_at-divided}
use Rattle.rv_net.proofs.inside.Network.{count_h-append}

pub stands_start : (x : Word) → Stands [] x (kept_start x)
unfolding amplitude count_h scaled value_at
stands_start x = record {
  divisions = 0;
  total = omega arith;
  amplitudes = λ z. sym (plus_nought _);
  on = All-cons (λ m. length m.word ≡ length x) (record { word = x; value = unity }) [] refl (All-nil (λ m. length m.word ≡ length x));
  apart = (tt, tt);
  greatest = inl refl;
}

-- ---- an operation that is no H

worth_moved : (op : Op) → ((y z : Word) → amplitude (op ∷ []) y z ≡ times_w_power (phase_of op y) (cond (same_word (goes_to op y) z) unity nought))
    → (ms : List Member) (z : Word) → worth ms (λ y. amplitude (op ∷ []) y z) ≡ value_at (map (moved op) ms) z
unfolding worth value_at
worth_moved op is [] z = refl
worth_moved op is (m ∷ ms) z =
    ap₂ plus (ap (times m.value) (is m.word z) ∙ turned_at (phase_of op m.word) m.value (same_word (goes_to op m.word) z)) (worth_moved op is ms z)

multiples_moved : (op : Op) (ms : List Member) → multiples (map (moved op) ms) ≡ true → multiples ms ≡ true
multiples_moved op [] e = refl
multiples_moved op (m ∷ ms) e = let i0 = multiples_moved op ms in grind (arith, i0, ap₂, multiple_turned)

still_greatest : (op : Op) (k : Kept) → (k.exponent ≡ 0) ⊎ (multiples k.members ≡ false) → (k.exponent ≡ 0) ⊎ (multiples (map (moved op) k.members) ≡ false)
still_greatest op k (inl e) = inl e
still_greatest op k (inr e) = inr (false_from_ne_true _ (λ t. false≢true (sym e ∙ multiples_moved op k.members t)))

-- what holds of each kept vector, whether it may still be divided or not
pub over : (ops : List Op) (x : Word) (k : Kept) → Stands ops x k → StandsOver ops x k
over ops x k s = record { divisions = s.divisions; total = s.total; amplitudes = s.amplitudes; on = s.on; apart = s.apart }

over_moved : (op : Op) → ((y z : Word) → amplitude (op ∷ []) y z ≡ times_w_power (phase_of op y) (cond (same_word (goes_to op y) z) unity nought)) → count_h (op ∷ []) ≡ 0
    → (ops : List Op) (x : Word) (k : Kept) → OpFitsIn op (length x) → StandsOver ops x k → StandsOver (ops ++ op ∷ []) x (record k { members = map (moved op) k.members })
over_moved op is none ops x k fits s = record {
  divisions = s.divisions;
  total = omega (arith, s.total, count_h-append ops (op ∷ []), none);
  amplitudes = λ z. appended ops op x s.divisions k.members s.on s.amplitudes z ∙ ap (scaled s.divisions) (worth_moved op is k.members z);
  on = All-map (λ m. length m.word ≡ length x) (moved op) k.members
      (All-weaker (λ m. length m.word ≡ length x) (λ m. length (goes_to op m.word) ≡ length x) (λ m e. length-goes_to op m.word ∙ e) k.members s.on);
  apart = apart-moved op (length x) k.members fits s.on s.apart;
}

-- ---- H, and division

pub on_divided : (n : ℕ) (ms : List Member) → On n ms → On n (map divided ms)
on_divided n ms on = All-map (λ m. length m.word ≡ n) divided ms on

stands_reduced : (ops : List Op) (x : Word) (exponent t : ℕ) (ms : List Member) → t + exponent ≡ count_h ops → ((z : Word) → amplitude ops x z ≡ scaled t (value_at ms z))
    → On (length x) ms → Apart ms → Stands ops x (reduced_kept exponent ms)
unfolding reduced_kept
stands_reduced ops x zero t ms total same on apart = record { divisions = t; total = total; amplitudes = same; on = on; apart = apart; greatest = inl refl }
stands_reduced ops x (suc exponent) t ms total same on apart =
    go (multiples ms) refl
    (λ all. stands_reduced ops x exponent (suc t) (map divided ms) (omega (arith, total))
    (λ z. same z ∙ ap (scaled t) (value_at-divided ms z all) ∙ scaled-root2 t (value_at (map divided ms) z))
    (on_divided (length x) ms on) (apart-divided ms apart)) where
      go : (b : Bool) → multiples ms ≡ b → (multiples ms ≡ true → Stands ops x (reduced_kept exponent (map divided ms)))
          → Stands ops x (cond b (reduced_kept exponent (map divided ms)) (record { members = ms; exponent = suc exponent }))
      go true e more = more e
      go false e more = record { divisions = t; total = total; amplitudes = same; on = on; apart = apart; greatest = inr e }

pub over_reduced : (ops : List Op) (x : Word) (k : Kept) → StandsOver ops x k → Stands ops x (reduced_kept k.exponent k.members)
over_reduced ops x k s = stands_reduced ops x k.exponent s.divisions k.members s.total s.amplitudes s.on s.apart

over_mixed : (line : ℕ) (ops : List Op) (x : Word) (k : Kept) → StandsOver ops x k → StandsOver (ops ++ H line ∷ []) x (record { members = mixed line k.members; exponent = suc k.exponent })
unfolding mixed count_h value_at
over_mixed line ops x k s = record {
  divisions = s.divisions;
  total = omega (arith, s.total, count_h-append ops (H line ∷ []));
  amplitudes = λ z.
      appended ops (H line) x s.divisions k.members s.on s.amplitudes z
      ∙ ap (scaled s.divisions) (sym (value_at-filter (fold (spread line) [] k.members) z ∙ value_at-fold_spread line [] k.members z ∙ nought_plus (worth k.members (λ y. amplitude (H line ∷ []) y z))));
  on = All-filter is_present (λ m. length m.word ≡ length x) (fold (spread line) [] k.members)
      (on-fold_spread (length x) line [] k.members (All-nil (λ m. length m.word ≡ length x)) s.on);
  apart = apart-mixed line k.members;
}

-- ---- each operation

pub over_more : (op : Op) (ops : List Op) (x : Word) (k : Kept) → OpFitsIn op (length x) → StandsOver ops x k → StandsOver (ops ++ op ∷ []) x (undivided_more k op)
unfolding undivided_more amplitude count_h
over_more op ops x k h h2 = grind (arith, over_mixed, over_moved)

stands_moved : (op : Op) (ops : List Op) (x : Word) (k : Kept) → Stands ops x k → StandsOver (ops ++ op ∷ []) x (record k { members = map (moved op) k.members }) → Stands (ops ++ op ∷ []) x (record k { members = map (moved op) k.members })
stands_moved op ops x k s next = record { divisions = next.divisions; total = next.total; amplitudes = next.amplitudes; on = next.on; apart = next.apart; greatest = still_greatest op k s.greatest }

pub stands_more : (op : Op) (ops : List Op) (x : Word) (k : Kept) → OpFitsIn op (length x) → Stands ops x k → Stands (ops ++ op ∷ []) x (kept_more k op)
unfolding kept_more undivided_more
stands_more (H q) ops x k fits s = over_reduced (ops ++ H q ∷ []) x _ (over_mixed q ops x k (over ops x k s))
stands_more o ops x k fits s = stands_moved o ops x k s (over_more o ops x k fits (over ops x k s))

stands_all : (done ops : List Op) (x : Word) (k : Kept) → All (λ op. OpFitsIn op (length x)) ops → Stands done x k → Stands (done ++ ops) x (fold kept_more k ops)
stands_all done [] x k fits s = rw (append-nil done) s
stands_all done (op ∷ ops) x k fits s =
    rw (sym (append_assoc done (op ∷ []) ops))
    (stands_all (done ++ op ∷ []) ops x (kept_more k op) (All-tail (λ op. OpFitsIn op (length x)) op ops fits)
    (stands_more op done x k (All-head (λ op. OpFitsIn op (length x)) op ops fits) s))

pub stands_after : (ops : List Op) (x : Word) → All (λ op. OpFitsIn op (length x)) ops → Stands ops x (kept_after ops x)
unfolding kept_after
stands_after ops x fits = stands_all [] ops x (kept_start x) fits (stands_start x)
