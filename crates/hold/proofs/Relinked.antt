-- The tables of a map whose links along one axis are replaced.
--     relinked-places, relinked-spans    the places and spans are those of the map
--     relinked-links       the links have the new ones in that axis's column
--     relinked-holds       so tables that hold the map, with those links, hold the new one
use Rattle.std.proofs.Common.{◌≡◌, ℕ, ◌<◌, ◌≤◌, true, false, cond, eqb, leb, List, ◌∷◌, length, get_or, ℤ, pos, sym, ap, ◌∙◌, ⊎_elim, arith, lit<, ne_eqb, leb-false, leb-true}
use Rattle.paper.specs.Width.{link_width, place_width, span_width}
use Rattle.paper.specs.Map.{Map, count, link, place, owned}
use Rattle.paper.specs.Edit.{relinked}
use Rattle.paper.specs.Table.{numbers_of, link_at, place_at, span_at, table_of, links_table, places_table, spans_table}
use Rattle.theory.specs.Local.{Local}
use Rattle.theory.specs.Told.{Told}
use Rattle.theory.proofs.Bool.{decided}
use Rattle.theory.proofs.Edit.{β, relinked-told}
use Rattle.hold.specs.Hold.{HoldsPlan}
use Rattle.hold.proofs.Rows.{table_same, table-own}

module _ (M : Map) (L : Local M) (i : ℕ) (φ : ℕ → ℕ) (il : i ≤ M.dim) where
  abbrev M' : Map
  M' = relinked M i φ

  told : Told M' M.dim (count M) (β M L i φ il) (place M) (owned M)
  told = relinked-told M L i φ il

  pub relinked-places : (len : ℕ) → places_table M' len ≡ places_table M len
  unfolding place_at
  relinked-places len =
      ap (λ (n : ℕ). table_of place_width n (place_at M') (pos 0) len) told.darts
      ∙ table_same (pos 0) place_width (count M) (place_at M') (place_at M) len (lit< tt) (λ d q h _. ap (λ p. get_or p q (pos 0)) (told.places d h))

  pub relinked-spans : (len : ℕ) → spans_table M' len ≡ spans_table M len
  unfolding span_at
  relinked-spans len =
      ap (λ (n : ℕ). table_of span_width n (span_at M') (pos 0) len) told.darts
      ∙ table_same (pos 0) span_width (count M) (span_at M') (span_at M) len (lit< tt) (λ d q h _. ap (λ r. get_or (pos (length r) ∷ numbers_of r) q (pos 0)) (told.rows d h))

  -- dart d's link along axis q
  abbrev pub relinked_at : ℕ → ℕ → ℕ
  relinked_at d q = cond (eqb q i) (φ d) (link_at M d q)

  pub relinked-links : (len : ℕ) → links_table M' len ≡ table_of link_width (count M) relinked_at 0 len
  unfolding link_at
  relinked-links len =
      ap (λ (n : ℕ). table_of link_width n (link_at M') 0 len) told.darts
      ∙ table_same 0 link_width (count M) (link_at M') relinked_at len (lit< tt) (λ d q h _. ⊎_elim (inside d q h) (outside d q) (decided (leb q M.dim)))
    where
      inside : (d q : ℕ) → d < count M → leb q M.dim ≡ true → link_at M' d q ≡ relinked_at d q
      inside d q h t =
          let l = leb-true q M.dim t in
          ap (λ (m : ℕ). cond (leb q m) (link M' q d) d) told.dims ∙ rw t (told.links q d h l)

      outside : (d q : ℕ) → leb q M.dim ≡ false → link_at M' d q ≡ relinked_at d q
      outside d q t =
          let l = leb-false q M.dim t in
          ap (λ (m : ℕ). cond (leb q m) (link M' q d) d) told.dims ∙ rw (t, ne_eqb q i (λ e. omega arith))

  pub relinked-holds : {m n : ℕ} {ls ls' : List ℕ} {ps ss : List ℤ} → HoldsPlan M m n ls ps ss → (len : ℕ)
      → ls' ≡ table_of link_width (count M) relinked_at 0 len → HoldsPlan M' m n ls' ps ss
  relinked-holds {ps = ps} {ss = ss} H len e = record {
    map = record {
      dims = told.dims ∙ H.map.dims;
      darts = told.darts ∙ H.map.darts;
      links = table-own 0 link_width (count M') (link_at M') len (e ∙ sym (relinked-links len));
      places = H.map.places ∙ sym (relinked-places (length ps));
    };
    spans = H.spans ∙ sym (relinked-spans (length ss));
  }
