-- The tables of a map that is told by functions.
--     told-links, told-places, told-spans     each table, number by number
--     held-told        a valid map that tables hold is told by its own links, places and rows
use Rattle.std.proofs.Common.{◌≡◌, ℕ, suc, ◌<◌, Bool, true, false, cond, leb, List, ◌∷◌, length, get_or, ℤ, pos, refl, ap, ◌∙◌, lit<, leb-true}
use Rattle.paper.specs.Width.{link_width, place_width, span_width}
use Rattle.paper.specs.Map.{Owned, Map, link, place, owned}
use Rattle.paper.specs.Table.{numbers_of, link_at, place_at, span_at, table_of, links_table, places_table, spans_table}
use Rattle.theory.specs.Local.{Local}
use Rattle.theory.specs.Told.{Told}
use Rattle.hold.specs.Hold.{HoldsMap}
use Rattle.hold.proofs.Rows.{table_same}

module _ {M : Map} {m n : ℕ} {α : ℕ → ℕ → ℕ} {p : ℕ → List ℤ} {r : ℕ → List Owned} (X : Told M m n α p r) (len : ℕ) where
  pub told-links : links_table M len ≡ table_of link_width n (λ d i. cond (leb i m) (α i d) d) 0 len
  unfolding link_at
  told-links =
      (λ k. table_of link_width (X.darts k) (λ d i. cond (leb i (X.dims k)) (link M i d) d) 0 len)
      ∙ table_same 0 link_width n (λ d i. cond (leb i m) (link M i d) d) (λ d i. cond (leb i m) (α i d) d) len (lit< tt) (λ d i h _. each d i h (leb i m) refl)
    where
      each : (d i : ℕ) → d < n → (b : Bool) → leb i m ≡ b → cond b (link M i d) d ≡ cond b (α i d) d
      each d i h true t = X.links i d h (leb-true i m t)
      each d i h false t = refl

  pub told-places : places_table M len ≡ table_of place_width n (λ d x. get_or (p d) x (pos 0)) (pos 0) len
  unfolding place_at
  told-places =
      (λ k. table_of place_width (X.darts k) (λ d x. get_or (place M d) x (pos 0)) (pos 0) len)
      ∙ table_same (pos 0) place_width n (λ d x. get_or (place M d) x (pos 0)) (λ d x. get_or (p d) x (pos 0)) len (lit< tt)
      (λ d x h _. ap (λ l. get_or l x (pos 0)) (X.places d h))

  pub told-spans : spans_table M len ≡ table_of span_width n (λ d q. get_or (pos (length (r d)) ∷ numbers_of (r d)) q (pos 0)) (pos 0) len
  unfolding span_at
  told-spans =
      (λ k. table_of span_width (X.darts k) (λ d q. get_or (pos (length (owned M d)) ∷ numbers_of (owned M d)) q (pos 0)) (pos 0) len)
      ∙ table_same (pos 0) span_width n (λ d q. get_or (pos (length (owned M d)) ∷ numbers_of (owned M d)) q (pos 0)) (λ d q. get_or (pos (length (r d)) ∷ numbers_of (r d)) q (pos 0)) len (lit< tt)
      (λ d q h _. ap (λ l. get_or (pos (length l) ∷ numbers_of l) q (pos 0)) (X.rows d h))

pub held-told : {M : Map} {m n : ℕ} {ls : List ℕ} {ps : List ℤ} → HoldsMap M m n ls ps → Local M → Told M m n (link M) (place M) (owned M)
held-told {M} H L = record {
  dims = H.dims;
  darts = H.darts;
  axes = λ d h. L.axes d (rw H.darts h) ∙ ap suc H.dims;
  links = λ i d h l. refl;
  places = λ d h. refl;
  rows = λ d h. refl;
}
