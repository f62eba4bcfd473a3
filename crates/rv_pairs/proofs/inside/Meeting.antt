-- Two operations commute where no line that one reads is written by the other.
use Rattle.std.proofs.Common.{◌≡◌, ℕ, suc, ◌+◌, ◌-◌, ◌<◌, ◌≤◌, Bool, true, false, ◌&&◌, eqb, length, ◌⊎◌, refl, sym, ap, ◌∙◌, inl, inr, arith, eq-eqb, subst}
use Rattle.std.specs.Prelude.{bit_and, MatchBool}
use Rattle.std.proofs.lemmas.Bool.{and_from, cases_Bool, cases_lt, eqb-true, false≢true}
use Rattle.std.proofs.lemmas.Option.{slice_get_within}
use Rattle.rv_gate.specs.Word.{has}
use Rattle.rv_gate.proofs.LineSets.{has-and, has-none, same_lines}
use Rattle.rv_net.specs.declared.op.Op.{Op}
use Rattle.rv_net.specs.Op.{OpFitsIn}
use Rattle.rv_pairs.specs.Cancelled.{inverse}
use Rattle.rv_pairs.specs.Commuting.{commute, reads, writes}
use Rattle.rv_pairs.specs.inside.Cells.{Cells, HasNoPartner, IsPartner, StandsAt}
use Rattle.rv_pairs.specs.inside.Chained.{AreChains, IsBlocked, IsFree, IsLatest, NoneFrom}
use Rattle.rv_pairs.specs.declared.chains.Chains.{Chains}
use Rattle.rv_pairs.specs.inside.Codes.{code}
use Rattle.rv_pairs.specs.inside.Standing.{has_code, reads_line, writes_line}
use Rattle.rv_pairs.proofs.inside.Numbers.{same_code, undoes_code}
use Rattle.rv_pairs.proofs.Passing.{apart_from}

none_common : (a b : ℕ) → ((l : ℕ) → has b l ≡ true → has a l ≡ false) → eqb (bit_and a b) 0 ≡ true
none_common a b h = eq-eqb _ 0 (same_lines (bit_and a b) 0 (λ l. has-and a b l ∙ go l (cases_Bool (has b l)) ∙ sym (has-none l)))
  where
    right_false : (s : Bool) → (s && false) ≡ false
    right_false true = refl
    right_false false = refl

    go : (l : ℕ) → (has b l ≡ true) ⊎ (has b l ≡ false) → (has a l && has b l) ≡ false
    go l (inl on) = ap (λ s. s && has b l) (h l on)
    go l (inr off) = ap (λ s. has a l && s) off ∙ right_false (has a l)

pub commute_from : (p o : Op) → ((l : ℕ) → has (writes o) l ≡ true → has (reads p) l ≡ false) → ((l : ℕ) → has (reads o) l ≡ true → has (writes p) l ≡ false) → commute p o ≡ true
commute_from p o unread unwritten = and_from _ _ (none_common (reads p) (writes o) unread) (none_common (writes p) (reads o) unwritten)

-- what calls tell, in the words of the walk
pub latest_of : (cells shown : Cells) (n number latest : ℕ) (chains : Chains) → shown ≡ cells → number ≡ n
    → ((belongs : ℕ → Op → Bool) → AreChains belongs shown (length shown) chains → IsLatest shown (belongs number) latest) → AreChains has_code cells (length cells) chains → IsLatest cells (has_code n) latest
latest_of cells shown n number latest chains same is told are =
    subst (λ (l : Cells). IsLatest l (has_code n) latest) same
    (subst (λ m. IsLatest shown (has_code m) latest) is (told has_code (subst (λ (l : Cells). AreChains has_code l (length l) chains) (sym same) are)))

pub free_of : (belongs : ℕ → Op → Bool) (cells shown : Cells) (s set place : ℕ) (result : Bool) (chains : Chains) → shown ≡ cells → set ≡ s
    → ((b : ℕ → Op → Bool) → AreChains b shown (length shown) chains → MatchBool result (IsFree b shown set place) (IsBlocked b shown set place))
    → AreChains belongs cells (length cells) chains → MatchBool result (IsFree belongs cells s place) (IsBlocked belongs cells s place)
free_of belongs cells shown s set place result chains same is told are =
    subst (λ (l : Cells). MatchBool result (IsFree belongs l s place) (IsBlocked belongs l s place)) same
    (subst (λ m. MatchBool result (IsFree belongs shown m place) (IsBlocked belongs shown m place)) is (told belongs (subst (λ (l : Cells). AreChains belongs l (length l) chains) (sym same) are)))

pub place_within : (cells : Cells) (belongs : Op → Bool) (latest : ℕ) (shown : Cells) → IsLatest cells belongs latest → (latest ≡ 0 → ⊥) → shown ≡ cells → latest - 1 < length shown
place_within cells belongs latest shown is some same = grind (arith, slice_get_within)

module _ (cells : Cells) (o : Op) (n : ℕ) (few : n ≤ 64) (fits : OpFitsIn o n) (fitting : (place : ℕ) (p : Op) → StandsAt cells place p → OpFitsIn p n) where
  -- a partner stands before the latest operation of its number, or is it
  early : (latest : ℕ) → NoneFrom cells (has_code (code (inverse o))) latest (length cells) → (place : ℕ) → IsPartner cells o place → place < latest
  early latest none place partner =
      elim (cases_lt place latest) [
        | inl below ↦ below
        | inr above ↦
            absurd (false≢true (sym (none place partner.partner above (slice_get_within cells place _ partner.there) partner.there)
            ∙ eq-eqb _ _ (undoes_code partner.partner o partner.undoes)))
      ]

  pub unnumbered : NoneFrom cells (has_code (code (inverse o))) 0 (length cells) → HasNoPartner cells o
  unnumbered none place partner = absurd (let lt = early 0 none place partner in omega arith)

  pub no_number : IsLatest cells (has_code (code (inverse o))) 0 → HasNoPartner cells o
  no_number is = unnumbered is.none

  pub barred : (place : ℕ) → NoneFrom cells (has_code (code (inverse o))) (suc place) (length cells) → IsBlocked writes_line cells (reads o) place → HasNoPartner cells o
  barred place none blocked other partner =
      let lt = early (suc place) none other partner in
      let apart = apart_from blocked.op o (partner.passes blocked.later blocked.op (omega (arith, blocked.after)) blocked.there) in
      false≢true (sym (apart.kept blocked.slot blocked.on) ∙ blocked.belonging)

  pub blocked_write : (latest place : ℕ) → IsLatest cells (has_code (code (inverse o))) latest → latest ≡ place + 1 → IsBlocked writes_line cells (reads o) place → HasNoPartner cells o
  blocked_write latest place is here blocked =
      barred place (subst (λ k. NoneFrom cells (has_code (code (inverse o))) k (length cells)) (let e : latest ≡ suc place = omega arith in e) is.none) blocked

  pub blocked_read : (latest place : ℕ) → IsLatest cells (has_code (code (inverse o))) latest → latest ≡ place + 1 → IsBlocked reads_line cells (writes o) place → HasNoPartner cells o
  blocked_read latest place is here blocked other partner =
      let lt = early latest is.none other partner in
      let apart = apart_from blocked.op o (partner.passes blocked.later blocked.op (omega (arith, blocked.after)) blocked.there) in
      false≢true (sym (apart.unseen blocked.slot blocked.on) ∙ blocked.belonging)

  pub free_partner : (latest place : ℕ) → IsLatest cells (has_code (code (inverse o))) latest → latest ≡ place + 1 → IsFree writes_line cells (reads o) place → IsFree reads_line cells (writes o) place
      → IsPartner cells o place
  free_partner latest place is here unwritten unread =
      elim is.some [
        | inl none ↦ absurd (omega (arith, none))
        | inr some ↦
            (let same : some.0 ≡ place = omega (arith, some.1.1.0) in
            let there : StandsAt cells place some.1.0 = subst (λ k. StandsAt cells k some.1.0) same some.1.1.1 in
            record {
              partner = some.1.0;
              there = there;
              undoes = same_code some.1.0 o n few (fitting place some.1.0 there) fits (eqb-true _ _ some.1.1.2);
              passes = λ k p after at. commute_from p o (λ l on. unread l k p on after at) (λ l on. unwritten l k p on after at);
            })
      ]
