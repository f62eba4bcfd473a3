-- Keys that are alike.
use Rattle.std.proofs.Common.{◌≡◌, ℕ, ◌^◌, ◌<◌, ◌≤◌, min, List, [], ◌∷◌, ◌++◌, Contains, refl, sym, ◌∙◌, ap, subst, inl, inr, arith}
use Rattle.std.specs.List.{range_with_len}
use Rattle.std.proofs.lemmas.Bool.{cases_lt}
use Rattle.std.proofs.Math.Nat.{min-eq_left, min-eq_right}
use Rattle.rv_optimal.specs.inside.Packed.{packed, composed}
use Rattle.rv_optimal.specs.inside.Alike.{swapped, walk, least_on, least, renamed, Suits}
use Rattle.rv_optimal.specs.inside.Levels.{IsWhole}
use Rattle.rv_optimal.specs.declared.alike.Alike.{Alike}
use Rattle.rv_optimal.specs.declared.alike.Alike.TheVariants.{Equal, Renamed}
use Rattle.rv_optimal.proofs.inside.Keys.{whole_any, whole_below}
use Rattle.rv_optimal.proofs.inside.Swapping.{least_swapped, swapped-composed, swapped-identity, swapped-small, swapped-twice}

-- ---- some exchanges

pub record IsExchanged (key new : ℕ) : Type 0 where
  pub lines : List ℕ
  pub is : new ≡ renamed lines key

renamed-append : (a b : List ℕ) (key : ℕ) → renamed (a ++ b) key ≡ renamed b (renamed a key)
unfolding renamed
renamed-append [] b key = refl
renamed-append (line ∷ a) b key = renamed-append a b (swapped line key)

renamed-composed : (lines : List ℕ) (step key : ℕ) → renamed lines (composed 16 step key) ≡ composed 16 (renamed lines step) (renamed lines key)
unfolding renamed
renamed-composed [] step key = refl
renamed-composed (line ∷ rest) step key =
    ap (renamed rest) (swapped-composed line step key) ∙ renamed-composed rest (swapped line step) (swapped line key)

renamed-small : (lines : List ℕ) (key : ℕ) → key < 2 ^ 64 → renamed lines key < 2 ^ 64
unfolding renamed
renamed-small [] key less = less
renamed-small (line ∷ rest) key less = renamed-small rest (swapped line key) (swapped-small line key)

renamed-least : (lines : List ℕ) (key : ℕ) → key < 2 ^ 64 → least_on walk (renamed lines key) (renamed lines key) ≡ least_on walk key key
unfolding renamed
renamed-least [] key less = refl
renamed-least (line ∷ rest) key less = renamed-least rest (swapped line key) (swapped-small line key) ∙ least_swapped line key less

renamed-closed : (lines moves : List ℕ) (step : ℕ) → ((line step : ℕ) → Contains moves step → Contains moves (swapped line step)) → Contains moves step → Contains moves (renamed lines step)
unfolding renamed
renamed-closed [] moves step closed there = there
renamed-closed (line ∷ rest) moves step closed there = renamed-closed rest moves (swapped line step) closed (closed line step there)

renamed-identity : (lines : List ℕ) → renamed lines (packed (range_with_len 0 16)) ≡ packed (range_with_len 0 16)
unfolding renamed
renamed-identity [] = refl
renamed-identity (line ∷ rest) = ap (renamed rest) (swapped-identity line) ∙ renamed-identity rest

renamed-back : (lines : List ℕ) (key : ℕ) → key < 2 ^ 64 → IsExchanged (renamed lines key) key
unfolding renamed
renamed-back [] key less = record { lines = []; is = refl }
renamed-back (line ∷ rest) key less =
    let back : IsExchanged (renamed rest (swapped line key)) (swapped line key) = renamed-back rest (swapped line key) (swapped-small line key) in
    record {
      lines = back.lines ++ line ∷ [];
      is = sym (renamed-append back.lines (line ∷ []) (renamed rest (swapped line key)) ∙ ap (swapped line) (sym back.is) ∙ swapped-twice line key less);
    }

one_more : (start key line : ℕ) → IsExchanged start key → IsExchanged start (swapped line key)
unfolding renamed
one_more start key line r = record {
  lines = r.lines ++ line ∷ [];
  is = sym (renamed-append r.lines (line ∷ []) start ∙ ap (swapped line) (sym r.is));
}

one_of_both : (start a b : ℕ) → IsExchanged start a → IsExchanged start b → IsExchanged start (min a b)
one_of_both start a b first second =
    elim (cases_lt a b) [
      | inl less ↦ (let le : a ≤ b = omega (arith, less) in subst (IsExchanged start) (sym (min-eq_left le)) first)
      | inr more ↦ subst (IsExchanged start) (sym (min-eq_right more)) second
    ]

least_exchanged : (lines : List ℕ) (start best key : ℕ) → IsExchanged start best → IsExchanged start key → IsExchanged start (least_on lines best key)
unfolding least_on
least_exchanged [] start best key first second = first
least_exchanged (line ∷ rest) start best key first second =
    let new : IsExchanged start (swapped line key) = one_more start key line second in
    least_exchanged rest start (min best (swapped line key)) (swapped line key) (one_of_both start best (swapped line key) first new) new

start_exchanged : (key : ℕ) → IsExchanged key key
unfolding renamed
start_exchanged key = record { lines = []; is = refl }

-- ---- keys that are alike

abbrev pub IsRenaming : Alike → ℕ → ℕ → Type 0
IsRenaming Equal key new = new ≡ key
IsRenaming Renamed key new = IsExchanged key new

pub like_least : (alike : Alike) (key : ℕ) → IsRenaming alike key (least alike key)
like_least Equal key = refl
like_least Renamed key = least_exchanged walk key key key (start_exchanged key) (start_exchanged key)

pub like_back : (alike : Alike) (n : ℕ) (moves : List ℕ) (key new : ℕ) → Suits alike n moves → IsWhole n key → IsRenaming alike key new → IsRenaming alike new key
like_back Equal n moves key new suits whole like = sym like
like_back Renamed n moves key new suits whole like =
    subst (λ k. IsExchanged k key) (sym like.is) (renamed-back like.lines key (whole_below n key suits.0 whole))

pub like_like : (alike : Alike) (a b c : ℕ) → IsRenaming alike a b → IsRenaming alike b c → IsRenaming alike a c
like_like Equal a b c first second = second ∙ first
like_like Renamed a b c first second = record {
  lines = first.lines ++ second.lines;
  is = second.is ∙ ap (renamed second.lines) first.is ∙ sym (renamed-append first.lines second.lines a);
}

pub same_least : (alike : Alike) (n : ℕ) (moves : List ℕ) (key new : ℕ) → Suits alike n moves → IsWhole n key → IsRenaming alike key new → least alike new ≡ least alike key
same_least Equal n moves key new suits whole like = like
same_least Renamed n moves key new suits whole like =
    ap (λ k. least_on walk k k) like.is ∙ renamed-least like.lines key (whole_below n key suits.0 whole)

pub like_whole : (alike : Alike) (n : ℕ) (moves : List ℕ) (key new : ℕ) → Suits alike n moves → IsWhole n key → IsRenaming alike key new → IsWhole n new
like_whole Equal n moves key new suits whole like = subst (IsWhole n) (sym like) whole
like_whole Renamed n moves key new suits whole like =
    subst (IsWhole n) (sym like.is) (whole_any n (renamed like.lines key) suits.0 (renamed-small like.lines key (whole_below n key suits.0 whole)))

pub least_whole : (alike : Alike) (n : ℕ) (moves : List ℕ) (key : ℕ) → Suits alike n moves → IsWhole n key → IsWhole n (least alike key)
least_whole alike n moves key suits whole = like_whole alike n moves key (least alike key) suits whole (like_least alike key)

pub least_least : (alike : Alike) (n : ℕ) (moves : List ℕ) (key : ℕ) → Suits alike n moves → IsWhole n key → least alike (least alike key) ≡ least alike key
least_least alike n moves key suits whole = same_least alike n moves key (least alike key) suits whole (like_least alike key)

sixteen : (n : ℕ) → n ≡ 4 → 2 ^ n ≡ 16
sixteen n four = ap (λ k. 2 ^ k) four

moved : (n : ℕ) (lines : List ℕ) (step key : ℕ) → n ≡ 4 → renamed lines (composed (2 ^ n) step key) ≡ composed (2 ^ n) (renamed lines step) (renamed lines key)
moved n lines step key four =
    ap (λ c. renamed lines (composed c step key)) (sixteen n four) ∙ renamed-composed lines step key
    ∙ sym (ap (λ c. composed c (renamed lines step) (renamed lines key)) (sixteen n four))

-- what is like a step from a key is a step from what is like the key
pub record IsCarried (alike : Alike) (n : ℕ) (moves : List ℕ) (key new : ℕ) : Type 0 where
  pub step : ℕ
  pub from : ℕ
  pub there : Contains moves step
  pub like : IsRenaming alike key from
  pub is : new ≡ composed (2 ^ n) step from

pub carried : (alike : Alike) (n : ℕ) (moves : List ℕ) (step key new : ℕ) → Suits alike n moves → Contains moves step → IsRenaming alike (composed (2 ^ n) step key) new
    → IsCarried alike n moves key new
carried Equal n moves step key new suits there like = record { step = step; from = key; there = there; like = refl; is = like }
carried Renamed n moves step key new suits there like = record {
  step = renamed like.lines step;
  from = renamed like.lines key;
  there = renamed-closed like.lines moves step suits.1 there;
  like = record { lines = like.lines; is = refl };
  is = like.is ∙ moved n like.lines step key suits.0;
}

-- a step from a key is like a step from what is like the key
pub record IsFollowed (alike : Alike) (n : ℕ) (moves : List ℕ) (old new : ℕ) : Type 0 where
  pub step : ℕ
  pub there : Contains moves step
  pub like : IsRenaming alike old (composed (2 ^ n) step new)

pub followed : (alike : Alike) (n : ℕ) (moves : List ℕ) (step key new : ℕ) → Suits alike n moves → Contains moves step → IsRenaming alike key new
    → IsFollowed alike n moves (composed (2 ^ n) step key) new
followed Equal n moves step key new suits there like = record { step = step; there = there; like = ap (composed (2 ^ n) step) like }
followed Renamed n moves step key new suits there like = record {
  step = renamed like.lines step;
  there = renamed-closed like.lines moves step suits.1 there;
  like = record {
    lines = like.lines;
    is = ap (composed (2 ^ n) (renamed like.lines step)) like.is ∙ sym (moved n like.lines step key suits.0);
  };
}

-- ---- the identity

identity_from : (n key new : ℕ) → n ≡ 4 → key ≡ packed (range_with_len 0 (2 ^ n)) → IsExchanged key new → new ≡ packed (range_with_len 0 (2 ^ n))
identity_from n key new four is like =
    let sixteen_of : packed (range_with_len 0 (2 ^ n)) ≡ packed (range_with_len 0 16) = ap (λ c. packed (range_with_len 0 c)) (sixteen n four) in
    like.is ∙ ap (renamed like.lines) (is ∙ sixteen_of) ∙ renamed-identity like.lines ∙ sym sixteen_of

pub least_identity : (alike : Alike) (n key : ℕ) (moves : List ℕ) → Suits alike n moves → key ≡ packed (range_with_len 0 (2 ^ n)) → least alike key ≡ key
least_identity Equal n key moves suits is = refl
least_identity Renamed n key moves suits is = identity_from n key _ suits.0 is (like_least Renamed key) ∙ sym is

-- the identity alone is like the identity
pub identity_alone : (alike : Alike) (n from : ℕ) (moves : List ℕ) → Suits alike n moves → IsWhole n from → least alike from ≡ packed (range_with_len 0 (2 ^ n))
    → from ≡ packed (range_with_len 0 (2 ^ n))
identity_alone Equal n from moves suits whole is = is
identity_alone Renamed n from moves suits whole is =
    identity_from n (least Renamed from) from suits.0 is (like_back Renamed n moves from (least Renamed from) suits whole (like_least Renamed from))
