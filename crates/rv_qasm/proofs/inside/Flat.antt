-- Lists of bytes that are kept one after another.
use Rattle.std.proofs.lemmas.Grind.{common_steps}
use Rattle.std.proofs.Common.{◌≡◌, ℕ, zero, suc, ◌+◌, ◌-◌, ◌≤◌, ◌<◌, Bool, false, nat_eq, List, [], ◌∷◌, ◌++◌, length, take, drop, get_or, slice_get, Some, refl, sym, ap, ◌∙◌, arith, add-one}
use Rattle.std.proofs.lemmas.Bool.{or_parts}
use Rattle.std.specs.List.{list_any}
use Rattle.std.proofs.lemmas.List.{length-drop, take_all, take-append-le, drop-append-le}
use Rattle.std.proofs.Math.Seq.{drop-append_seam}
use Rattle.rv_text.specs.Bytes.{quote}
use Rattle.rv_qasm.specs.Tokens.{is_string}
use Rattle.rv_qasm.specs.inside.Flat.{cut_at, Ascend, with_byte}

pub cut_at-none : (bytes : List ℕ) → cut_at [] bytes ≡ []
unfolding cut_at
cut_at-none bytes = refl

pub length-cut_at : (starts bytes : List ℕ) → length (cut_at starts bytes) ≡ length starts
unfolding cut_at
length-cut_at [] bytes = refl
length-cut_at (start ∷ []) bytes = refl
length-cut_at (start ∷ next ∷ starts) bytes = ap suc (length-cut_at (next ∷ starts) bytes)

pub Ascend-none : (limit : ℕ) → Ascend limit []
unfolding Ascend
Ascend-none limit = tt

pub Ascend-more : (limit more : ℕ) (starts : List ℕ) → limit ≤ more → Ascend limit starts → Ascend more starts
unfolding Ascend
Ascend-more limit more [] fit ascend = tt
Ascend-more limit more (start ∷ []) fit ascend = omega (arith, fit, ascend)
Ascend-more limit more (start ∷ next ∷ starts) fit ascend = (ascend.0, Ascend-more limit more (next ∷ starts) fit ascend.1)

pub Ascend-new : (limit : ℕ) (starts : List ℕ) → Ascend limit starts → Ascend limit (starts ++ limit ∷ [])
unfolding Ascend
Ascend-new limit [] ascend = omega arith
Ascend-new limit (start ∷ []) ascend = (ascend, omega arith)
Ascend-new limit (start ∷ next ∷ starts) ascend = (ascend.0, Ascend-new limit (next ∷ starts) ascend.1)

-- each place is within the limit
pub Ascend-head : (limit start : ℕ) (starts : List ℕ) → Ascend limit (start ∷ starts) → start ≤ limit
unfolding Ascend
Ascend-head limit start [] ascend = ascend
Ascend-head limit start (next ∷ starts) ascend = omega (arith, ascend.0, Ascend-head limit next starts ascend.1)

pub Ascend-get : (limit : ℕ) (starts : List ℕ) (i d : ℕ) → Ascend limit starts → i < length starts → get_or starts i d ≤ limit
unfolding Ascend
Ascend-get limit [] i d ascend within = absurd (omega (arith, within))
Ascend-get limit (start ∷ starts) zero d ascend within = Ascend-head limit start starts ascend
Ascend-get limit (start ∷ []) (suc i) d ascend within = absurd (omega (arith, within))
Ascend-get limit (start ∷ next ∷ starts) (suc i) d ascend within = Ascend-get limit (next ∷ starts) i d ascend.1 (omega (arith, within))

pub Ascend-next : (limit : ℕ) (starts : List ℕ) (i d e : ℕ) → Ascend limit starts → suc i < length starts → get_or starts i d ≤ get_or starts (suc i) e
unfolding Ascend
Ascend-next limit [] i d e ascend within = absurd (omega (arith, within))
Ascend-next limit (start ∷ []) i d e ascend within = absurd (omega (arith, within))
Ascend-next limit (start ∷ next ∷ starts) zero d e ascend within = ascend.0
Ascend-next limit (start ∷ next ∷ starts) (suc i) d e ascend within = Ascend-next limit (next ∷ starts) i d e ascend.1 (omega (arith, within))

-- a list by its place
pub cut_at-next : (starts bytes : List ℕ) (i d e : ℕ) → suc i < length starts
    → slice_get (cut_at starts bytes) i ≡ Some (take (get_or starts (suc i) e - get_or starts i d) (drop (get_or starts i d) bytes))
unfolding cut_at
cut_at-next [] bytes i d e within = absurd (omega (arith, within))
cut_at-next (start ∷ []) bytes i d e within = absurd (omega (arith, within))
cut_at-next (start ∷ next ∷ starts) bytes zero d e within = refl
cut_at-next (start ∷ next ∷ starts) bytes (suc i) d e within = cut_at-next (next ∷ starts) bytes i d e (omega (arith, within))

pub cut_at-last : (starts bytes : List ℕ) (i d : ℕ) → i < length starts → length starts ≤ suc i
    → slice_get (cut_at starts bytes) i ≡ Some (drop (get_or starts i d) bytes)
unfolding cut_at
cut_at-last [] bytes i d within last = absurd (omega (arith, within))
cut_at-last (start ∷ []) bytes zero d within last = refl
cut_at-last (start ∷ []) bytes (suc i) d within last = absurd (omega (arith, within))
cut_at-last (start ∷ next ∷ starts) bytes zero d within last = absurd (omega (arith, last))
cut_at-last (start ∷ next ∷ starts) bytes (suc i) d within last = cut_at-last (next ∷ starts) bytes i d (omega (arith, within)) (omega (arith, last))

pub got_order : (starts : List ℕ) (limit i first next : ℕ) → Ascend limit starts → i + 1 < length starts
    → first ≡ get_or starts i first → next ≡ get_or starts (i + 1) next → (first ≤ next) × (next ≤ limit)
got_order starts limit i first next ascend within f n = grind (arith, common_steps, add-one, Ascend-next, Ascend-get)

pub got_next : (starts bytes : List ℕ) (i first next : ℕ) → i + 1 < length starts
    → first ≡ get_or starts i first → next ≡ get_or starts (i + 1) next → slice_get (cut_at starts bytes) i ≡ Some (take (next - first) (drop first bytes))
got_next starts bytes i first next within f n =
    let same : next ≡ get_or starts (suc i) next = n ∙ ap (λ k. get_or starts k next) (add-one i) in
    rw (cut_at-next starts bytes i first next (omega (arith, within)), ← f, ← same) refl

pub got_last : (starts bytes : List ℕ) (i first : ℕ) → i < length starts → length starts ≤ i + 1
    → first ≡ get_or starts i first → slice_get (cut_at starts bytes) i ≡ Some (take (length bytes - first) (drop first bytes))
got_last starts bytes i first within last f =
    rw (cut_at-last starts bytes i first within (omega (arith, last)), ← f, take_all (length bytes - first) (drop first bytes) (omega (arith, length-drop first bytes))) refl

-- one byte more

with_byte-after : (bytes : List ℕ) (lists : List (List ℕ)) (c : ℕ) → 0 < length lists → with_byte (bytes ∷ lists) c ≡ bytes ∷ with_byte lists c
with_byte-after bytes [] c some = absurd (omega (arith, some))
with_byte-after bytes (next ∷ lists) c some = refl

before_last : (start next : ℕ) (bytes : List ℕ) (c : ℕ) → start ≤ next → next ≤ length bytes → take (next - start) (drop start (bytes ++ c ∷ [])) ≡ take (next - start) (drop start bytes)
before_last start next bytes c order fit = grind (arith, drop-append-le, take-append-le, length-drop)

pub cut_at-grown : (starts bytes : List ℕ) (c : ℕ) → Ascend (length bytes) starts → cut_at starts (bytes ++ c ∷ []) ≡ with_byte (cut_at starts bytes) c
unfolding cut_at Ascend
cut_at-grown [] bytes c ascend = refl
cut_at-grown (start ∷ []) bytes c ascend = ap (λ l. l ∷ []) (drop-append-le start bytes (c ∷ []) ascend)
cut_at-grown (start ∷ next ∷ starts) bytes c ascend =
    rw (before_last start next bytes c ascend.0 (Ascend-head (length bytes) next starts ascend.1), cut_at-grown (next ∷ starts) bytes c ascend.1)
    (sym (with_byte-after (take (next - start) (drop start bytes)) (cut_at (next ∷ starts) bytes) c (omega (arith, length-cut_at (next ∷ starts) bytes))))

pub cut_at-new : (starts bytes : List ℕ) (c : ℕ) → Ascend (length bytes) starts → cut_at (starts ++ length bytes ∷ []) (bytes ++ c ∷ []) ≡ cut_at starts bytes ++ (c ∷ []) ∷ []
unfolding cut_at Ascend
cut_at-new [] bytes c ascend = ap (λ l. l ∷ []) (drop-append_seam bytes (c ∷ []))
cut_at-new (start ∷ []) bytes c ascend =
    rw (before_last start (length bytes) bytes c ascend (omega arith), drop-append_seam bytes (c ∷ []))
    (ap (λ l. l ∷ (c ∷ []) ∷ []) (take_all (length bytes - start) (drop start bytes) (omega (arith, length-drop start bytes))))
cut_at-new (start ∷ next ∷ starts) bytes c ascend =
    rw (before_last start next bytes c ascend.0 (Ascend-head (length bytes) next starts ascend.1))
    (ap (λ l. take (next - start) (drop start bytes) ∷ l) (cut_at-new (next ∷ starts) bytes c ascend.1))

-- ---- bytes with no quote

abbrev is_quote : ℕ → Bool
is_quote c = nat_eq c quote

none_dropped : (n : ℕ) (bytes : List ℕ) → list_any is_quote bytes ≡ false → list_any is_quote (drop n bytes) ≡ false
none_dropped zero bytes none = none
none_dropped (suc n) [] none = refl
none_dropped (suc n) (c ∷ bytes) none = none_dropped n bytes (or_parts (is_quote c) (list_any is_quote bytes) none).1

none_taken : (n : ℕ) (bytes : List ℕ) → list_any is_quote bytes ≡ false → list_any is_quote (take n bytes) ≡ false
none_taken zero bytes none = refl
none_taken (suc n) [] none = refl
none_taken (suc n) (c ∷ bytes) none = let parts = or_parts (is_quote c) (list_any is_quote bytes) none in rw (parts.0) (none_taken n bytes parts.1)

none_first : (bytes : List ℕ) → list_any is_quote bytes ≡ false → is_string bytes ≡ false
none_first [] none = refl
none_first (c ∷ bytes) none = (or_parts (is_quote c) (list_any is_quote bytes) none).0

pub no_string : (starts bytes : List ℕ) → list_any is_quote bytes ≡ false → list_any is_string (cut_at starts bytes) ≡ false
unfolding cut_at
no_string [] bytes none = refl
no_string (start ∷ []) bytes none = rw (none_first (drop start bytes) (none_dropped start bytes none)) refl
no_string (start ∷ next ∷ starts) bytes none = let i0 = no_string (next ∷ starts) bytes none in grind (arith, i0, none_first, none_taken, none_dropped)
