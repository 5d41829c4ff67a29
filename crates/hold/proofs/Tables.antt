-- The tables of a map, read back.
--     links-at         its links
--     spans-counted    the counts of its rows
--     spans-row        its rows
--     bare-spans       where every row is empty, the table of spans is all 0
--     tables-map       the map itself
use Rattle.std.proofs.Common.{◌≡◌, ℕ, zero, suc, ◌+◌, ◌*◌, ◌<◌, ◌≤◌, true, cond, leb, List, [], ◌∷◌, length, get_or, replicate, ℤ, pos, nat_abs, sym, refl, ap, ◌∙◌, zero-le, le_of_suc-le-suc, add-zero, arith, lit<, ext_get_or, le-leb, leb-true}
use lib.ListN.{length-replicate}
use Rattle.paper.specs.Width.{link_width, place_width, span_limit, per_span, span_width, dim_limit}
use Rattle.paper.specs.Below.{list_below}
use Rattle.paper.specs.Map.{Owned, Dart, Map, no_span, no_dart, count, dart, link, place, owned, row}
use Rattle.paper.specs.Span.{row_fits}
use Rattle.paper.specs.Valid.{Valid}
use Rattle.paper.specs.Table.{count_fits, numbers_of, link_at, place_at, span_at, links_table, places_table, spans_table, owned_at, map_of}
use Rattle.theory.proofs.Bool.{and_intro}
use Rattle.theory.proofs.Below.{list_length, list_at}
use Rattle.theory.proofs.Table.{spans-length}
use Rattle.kernel.specs.Link.{alpha}
use Rattle.hold.proofs.Rows.{replicate-at, table_at, table-whole}

-- the numbers of a row, by its spans
abbrev NumbersAt : List Owned → ℕ → Owned → Type 0
NumbersAt r q x =
    let l = numbers_of r in
    (get_or l (per_span * q) (pos 0) ≡ x.span.lo) × ((get_or l (suc (per_span * q)) (pos 0) ≡ x.span.hi) × (get_or l (suc (suc (per_span * q))) (pos 0) ≡ x.object))

numbers-at : (r : List Owned) (q : ℕ) (x : Owned) → q < length r → NumbersAt r q (get_or r q x)
unfolding numbers_of
numbers-at [] q x h = absurd (let z : ⊥ = omega arith in z)
numbers-at (y ∷ r) zero x h = (refl, (refl, refl))
numbers-at (y ∷ r) (suc q) x h =
    let e : per_span * suc q ≡ suc (suc (suc (per_span * q))) = omega arith in
    let s = numbers-at r q x (le_of_suc-le-suc h) in
    rw e s

module _ (M : Map) where
  -- ---- links
  pub links-at : (len i d : ℕ) → M.dim ≤ dim_limit → count M * link_width ≤ len → d < count M → i ≤ M.dim → alpha (links_table M len) i d ≡ link M i d
  unfolding link_at
  links-at len i d dim room h l = table_at 0 link_width (count M) (link_at M) len d i room h (omega arith) ∙ rw (le-leb i M.dim l) refl

  -- ---- spans
  module _ (len d : ℕ) (fits : row_fits (row M d) ≡ true) (h : d < count M) (room : count M * span_width ≤ len) where
    abbrev r : List Owned
    r = owned M d

    few : length r ≤ span_limit
    few = let e = spans-length r in let f = leb-true (length (row M d)) span_limit fits in omega arith

    spans-first : get_or (spans_table M len) (d * span_width) (pos 0) ≡ pos (length r)
    unfolding span_at
    spans-first =
        ap (λ (p : ℕ). get_or (spans_table M len) p (pos 0)) (sym (add-zero (d * span_width)))
        ∙ table_at (pos 0) span_width (count M) (span_at M) len d 0 room h (lit< tt)

    pub spans-counted : count_fits (get_or (spans_table M len) (d * span_width) (pos 0)) ≡ true
    spans-counted = ap count_fits spans-first ∙ and_intro (leb 0 (length r)) (leb (length r) span_limit) (le-leb 0 (length r) zero-le) (le-leb (length r) span_limit few)

    pub spans-row : owned_at (spans_table M len) d ≡ r
    unfolding owned_at span_at
    spans-row =
        (λ k. list_below (cond (spans-counted k) (nat_abs (get_or (spans_table M len) (d * span_width) (pos 0))) 0) read)
        ∙ (λ k. list_below (nat_abs (spans-first k)) read)
        ∙ ext_get_or no_span (list_below (length r) read) r (list_length (length r) read)
        (λ q l. let e = list_length (length r) read in let g : q < length r = omega arith in list_at (length r) read no_span q g ∙ each q g)
      where
        at : ℕ → ℤ
        at p = get_or (spans_table M len) (d * span_width + p) (pos 0)

        read : ℕ → Owned
        read q = record { span = record { lo = at (1 + per_span * q); hi = at (2 + per_span * q) }; object = at (3 + per_span * q) }

        number : (p : ℕ) → p < span_width → at p ≡ span_at M d p
        number p l = table_at (pos 0) span_width (count M) (span_at M) len d p room h l

        each : (q : ℕ) → q < length r → read q ≡ get_or r q no_span
        each q l =
            let f = few in
            let E = numbers-at r q no_span l in
            let a : 1 + per_span * q ≡ suc (per_span * q) = omega arith in
            let b : 2 + per_span * q ≡ suc (suc (per_span * q)) = omega arith in
            let c : 3 + per_span * q ≡ suc (suc (suc (per_span * q))) = omega arith in
            let lower = number (1 + per_span * q) (omega arith) ∙ ap (span_at M d) a ∙ E.0 in
            let upper = number (2 + per_span * q) (omega arith) ∙ ap (span_at M d) b ∙ E.1.0 in
            let object = number (3 + per_span * q) (omega arith) ∙ ap (span_at M d) c ∙ E.1.1 in
            λ k. record { span = record { lo = lower k; hi = upper k }; object = object k }

  pub bare-spans : (len : ℕ) → ((d : ℕ) → d < count M → owned M d ≡ []) → spans_table M len ≡ replicate len (pos 0)
  unfolding span_at numbers_of
  bare-spans len bare =
      let l = replicate len (pos 0) in
      sym (table-whole (pos 0) span_width (count M) (span_at M) l (lit< tt) (λ d q a _. replicate-at (pos 0) len (d * span_width + q) ∙ rw (bare d a) (none q)) (λ p _. replicate-at (pos 0) len p)
      ∙ ap (spans_table M) (length-replicate len (pos 0)))
    where
      none : (q : ℕ) → pos 0 ≡ get_or (pos 0 ∷ []) q (pos 0)
      none zero = refl
      none (suc q) = refl

  -- ---- the map
  pub tables-map : Valid M → M.dim ≤ dim_limit → (a b c : ℕ) → count M * link_width ≤ a → count M * place_width ≤ b → count M * span_width ≤ c
      → map_of (links_table M a) (places_table M b) (spans_table M c) M.dim (count M) ≡ M
  unfolding map_of place_at
  tables-map A dim a b c ha hb hc =
      λ k. record { dim = M.dim; darts = ext_get_or no_dart (list_below (count M) has) M.darts (list_length (count M) has) each k }
    where
      link_of : ℕ → ℕ → ℕ
      link_of d i = alpha (links_table M a) i d

      place_of : ℕ → ℕ → ℤ
      place_of d x = get_or (places_table M b) (d * place_width + x) (pos 0)

      has : ℕ → Dart
      has d = record { links = list_below (suc M.dim) (link_of d); place = list_below M.dim (place_of d); owned = owned_at (spans_table M c) d }

      links : (d : ℕ) → d < count M → (has d).links ≡ (dart M d).links
      links d h =
          let e = list_length (suc M.dim) (link_of d) in
          ext_get_or 0 (has d).links (dart M d).links (e ∙ sym (A.axes d h))
          (λ i l. let g : i < suc M.dim = omega arith in list_at (suc M.dim) (link_of d) 0 i g ∙ links-at a i d dim ha h (le_of_suc-le-suc g))

      places : (d : ℕ) → d < count M → (has d).place ≡ place M d
      places d h =
          let e = list_length M.dim (place_of d) in
          ext_get_or (pos 0) (has d).place (place M d) (e ∙ sym (A.coordinates d h))
          (λ x l. let g : x < M.dim = omega arith in
          list_at M.dim (place_of d) (pos 0) x g ∙ table_at (pos 0) place_width (count M) (place_at M) b d x hb h (omega arith))

      each : (d : ℕ) → d < length (list_below (count M) has) → get_or (list_below (count M) has) d no_dart ≡ dart M d
      each d l =
          let e = list_length (count M) has in
          let h : d < count M = omega arith in
          list_at (count M) has no_dart d h ∙ (λ k. record { links = links d h k; place = places d h k; owned = spans-row c d (A.short d h) h hc k })
