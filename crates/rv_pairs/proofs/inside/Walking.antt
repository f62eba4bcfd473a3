-- The chains of the walk, as an operation is put after the others or left out.
use Rattle.std.proofs.Common.{◌≡◌, ℕ, ◌+◌, ◌<◌, Bool, [], ◌∷◌, ◌++◌, length, get_or, set, refl, sym, ap, ◌∙◌, inl, inr, arith, subst, Some, None, ne_eqb, eq-eqb, length-set, get_or-set_same, get_or-set_other}
use Rattle.std.proofs.lemmas.Bool.{cases_eq, cases_lt}
use Rattle.std.proofs.lemmas.List.{length_push}
use Rattle.std.proofs.lemmas.Option.{same_Some, slice_get_within}
use Rattle.rv_net.specs.declared.op.Op.{Op}
use Rattle.rv_net.specs.Op.{OpFitsIn}
use Rattle.rv_pairs.specs.declared.chains.Chains.{Chains}
use Rattle.rv_pairs.specs.declared.chains.Node.{Node}
use Rattle.rv_pairs.specs.declared.walk.Walk.{Walk}
use Rattle.rv_pairs.specs.inside.Cells.{Cells, StandsAt}
use Rattle.rv_pairs.specs.inside.Chained.{AreChains, Chain, IsPushed}
use Rattle.rv_pairs.specs.inside.Codes.{code}
use Rattle.rv_pairs.specs.inside.Standing.{Stands, has_code, reads_line, writes_line}
use Rattle.rv_pairs.proofs.inside.Linked.{cell_less, cell_more, further, node_more, pushed_here, slice_get-last, slice_get-left, stood_before}

chains_less : (belongs : ℕ → Op → Bool) (cells : Cells) (j : ℕ) (chains : Chains) → AreChains belongs cells (length cells) chains → AreChains belongs (set cells j None) (length (set cells j None)) chains
chains_less belongs cells j chains are = record {
  each = λ slot lt.
      subst (λ m. Chain (set cells j None) chains.nodes.items (belongs slot) (get_or chains.heads.items slot 0) m) (sym (length-set cells j None))
      (cell_less cells j chains.nodes.items (belongs slot) (get_or chains.heads.items slot 0) (length cells) (are.each slot lt));
}

pub left_out : (lines : ℕ) (walk next : Walk) (place : ℕ) → Stands lines walk → next.cells.items ≡ set walk.cells.items place None → next.reads ≡ walk.reads → next.writes ≡ walk.writes
    → next.alike ≡ walk.alike → Stands lines next
left_out lines walk next place stands cells isreads iswrites isalike = record {
  few = stands.few;
  read = less reads_line walk.reads next.reads isreads stands.read;
  written = less writes_line walk.writes next.writes iswrites stands.written;
  alike = less has_code walk.alike next.alike isalike stands.alike;
  read_count = ap (λ (c : Chains). length c.heads.items) isreads ∙ stands.read_count;
  written_count = ap (λ (c : Chains). length c.heads.items) iswrites ∙ stands.written_count;
  alike_count = ap (λ (c : Chains). length c.heads.items) isalike ∙ stands.alike_count;
  fitting = λ k o at. stands.fitting k o (stood_before walk.cells.items place k o (subst (λ (l : Cells). StandsAt l k o) cells at)).0;
}
  where
    less : (belongs : ℕ → Op → Bool) (chains other : Chains) → other ≡ chains → AreChains belongs walk.cells.items (length walk.cells.items) chains
        → AreChains belongs next.cells.items (length next.cells.items) other
    less belongs chains other same are =
        subst (λ (l : Cells). AreChains belongs l (length l) other) (sym cells)
        (subst (λ (c : Chains). AreChains belongs (set walk.cells.items place None) (length (set walk.cells.items place None)) c) (sym same)
        (chains_less belongs walk.cells.items place chains are))

pub more_cells : (belongs : ℕ → Op → Bool) (cells : Cells) (o : Op) (chains : Chains) → AreChains belongs cells (length cells) chains → AreChains belongs (cells ++ Some o ∷ []) (length cells) chains
more_cells belongs cells o chains are = record {
  each = λ slot lt. cell_more cells (Some o) chains.nodes.items (belongs slot) (get_or chains.heads.items slot 0) (length cells) (omega arith) (are.each slot lt);
}

pub more_alike : (cells : Cells) (o : Op) (chains next : Chains) → AreChains has_code cells (length cells) chains → code o < length chains.heads.items → IsPushed chains (code o) (length cells) next
    → AreChains has_code (cells ++ Some o ∷ []) (length cells + 1) next
more_alike cells o chains next are within pushed =
    let heads = chains.heads.items in
    let nodes = chains.nodes.items in
    let node : Node = record { place = length cells; below = get_or heads (code o) 0 } in
    let all : Cells = cells ++ Some o ∷ [] in
    record {
      each = λ slot lt.
          let old : Chain all nodes (has_code slot) (get_or heads slot 0) (length cells) =
          (more_cells has_code cells o chains are).each slot (omega (arith, lt, ap length pushed.heads, length-set heads (code o) (length nodes + 1))) in
          subst (λ n. Chain all n (has_code slot) (get_or next.heads.items slot 0) (length cells + 1)) (sym pushed.nodes)
          (subst (λ h. Chain all (nodes ++ node ∷ []) (has_code slot) (get_or h slot 0) (length cells + 1)) (sym pushed.heads)
          (elim (cases_eq slot (code o)) [
            | inl here ↦
                (subst (λ k. Chain all (nodes ++ node ∷ []) (has_code k) (get_or (set heads (code o) (length nodes + 1)) k 0) (length cells + 1)) (sym here)
                (subst (λ n. Chain all (nodes ++ node ∷ []) (has_code (code o)) n (length cells + 1)) (sym (get_or-set_same heads (code o) (length nodes + 1) 0 within))
                (pushed_here all nodes (has_code (code o)) (length cells) (get_or heads (code o) 0) o (slice_get-last cells (Some o)) (eq-eqb (code o) (code o) refl)
                (subst (λ k. Chain all nodes (has_code k) (get_or heads k 0) (length cells)) here old))))
            | inr other ↦
                (subst (λ n. Chain all (nodes ++ node ∷ []) (has_code slot) n (length cells + 1)) (sym (get_or-set_other heads (code o) slot (length nodes + 1) 0 other))
                (further all (nodes ++ node ∷ []) (has_code slot) (get_or heads slot 0) (length cells) (length cells + 1) (omega arith)
                (λ k p le lt' at.
                let e : k ≡ length cells = omega arith in
                let same : p ≡ o = same_Some _ _ (same_Some _ _ (sym (subst (λ n. StandsAt all n p) e at) ∙ slice_get-last cells (Some o))) in
                ne_eqb (code p) slot (λ g. other (sym g ∙ ap code same)))
                (node_more all nodes node (has_code slot) (get_or heads slot 0) (length cells) old)))
          ]));
    }

pub fitting_more : (lines : ℕ) (cells : Cells) (o : Op) → ((place : ℕ) (p : Op) → StandsAt cells place p → OpFitsIn p lines) → OpFitsIn o lines
    → (place : ℕ) (p : Op) → StandsAt (cells ++ Some o ∷ []) place p → OpFitsIn p lines
fitting_more lines cells o fitting fits place p at =
    elim (cases_lt place (length cells)) [
      | inl below ↦ fitting place p (sym (slice_get-left cells (Some o ∷ []) place below) ∙ at)
      | inr above ↦
          (let lt = slice_get_within (cells ++ Some o ∷ []) place _ at in
          let e : place ≡ length cells = omega (arith, length_push cells (Some o)) in
          let same : p ≡ o = same_Some _ _ (same_Some _ _ (sym (subst (λ n. StandsAt (cells ++ Some o ∷ []) n p) e at) ∙ slice_get-last cells (Some o))) in
          subst (λ (q : Op). OpFitsIn q lines) (sym same) fits)
    ]

pub stands_more : (lines : ℕ) (walk next : Walk) (o : Op) (number place : ℕ) → Stands lines walk → OpFitsIn o lines → place ≡ length walk.cells.items → next.cells.items ≡ walk.cells.items ++ Some o ∷ []
    → number ≡ code o → code o < length walk.alike.heads.items → IsPushed walk.alike number place next.alike
    → (AreChains reads_line (walk.cells.items ++ Some o ∷ []) place walk.reads → AreChains reads_line (walk.cells.items ++ Some o ∷ []) (place + 1) next.reads)
    → (AreChains writes_line (walk.cells.items ++ Some o ∷ []) place walk.writes → AreChains writes_line (walk.cells.items ++ Some o ∷ []) (place + 1) next.writes)
    → length next.reads.heads.items ≡ length walk.reads.heads.items → length next.writes.heads.items ≡ length walk.writes.heads.items → Stands lines next
stands_more lines walk next o number place stands fits at cells isnumber within pushed read written rc wc = record {
  few = stands.few;
  read = shown reads_line next.reads (read (subst (λ m. AreChains reads_line (walk.cells.items ++ Some o ∷ []) m walk.reads) (sym at) (more_cells reads_line walk.cells.items o walk.reads stands.read)));
  written = shown writes_line next.writes (written (subst (λ m. AreChains writes_line (walk.cells.items ++ Some o ∷ []) m walk.writes) (sym at) (more_cells writes_line walk.cells.items o walk.writes stands.written)));
  alike =
      shown has_code next.alike
      (subst (λ m. AreChains has_code (walk.cells.items ++ Some o ∷ []) (m + 1) next.alike) (sym at)
      (more_alike walk.cells.items o walk.alike next.alike stands.alike within
      (subst (λ m. IsPushed walk.alike (code o) m next.alike) at (subst (λ m. IsPushed walk.alike m place next.alike) isnumber pushed))));
  read_count = rc ∙ stands.read_count;
  written_count = wc ∙ stands.written_count;
  alike_count = ap length (pushed.heads) ∙ length-set walk.alike.heads.items number (length walk.alike.nodes.items + 1) ∙ stands.alike_count;
  fitting = λ k p there. fitting_more lines walk.cells.items o stands.fitting fits k p (subst (λ (l : Cells). StandsAt l k p) cells there);
}
  where
    shown : (belongs : ℕ → Op → Bool) (chains : Chains) → AreChains belongs (walk.cells.items ++ Some o ∷ []) (place + 1) chains → AreChains belongs next.cells.items (length next.cells.items) chains
    shown belongs chains are =
        subst (λ (l : Cells). AreChains belongs l (length l) chains) (sym cells)
        (subst (λ m. AreChains belongs (walk.cells.items ++ Some o ∷ []) m chains) (let e : place + 1 ≡ length (walk.cells.items ++ Some o ∷ []) = omega (arith, at, length_push walk.cells.items (Some o)) in e) are)
