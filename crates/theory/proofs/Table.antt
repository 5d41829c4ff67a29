-- The map that tables hold, number by number.
--     held-count, held_link, held_place, held-owned, held-row     what map_of has at each dart
--     spans-length     a row has as many spans as entries
--     row-short        a row of a table has at most eight spans
use Rattle.std.proofs.Common.{◌≡◌, ℕ, suc, ◌+◌, ◌*◌, ◌<◌, ◌≤◌, Bool, true, false, cond, ◌&&◌, leb, List, [], ◌∷◌, length, get_or, ℤ, pos, negsuc, nat_abs, refl, ap, ◌∙◌, suc-le-suc, zero-le, le-leb, leb-true}
use Rattle.paper.specs.Width.{link_width, place_width, span_limit, span_width}
use Rattle.paper.specs.Below.{list_below}
use Rattle.paper.specs.Map.{Owned, Dart, Map, spans_of, made, owned_of, no_dart, count, dart, link, place, owned, row}
use Rattle.paper.specs.Span.{row_fits}
use Rattle.paper.specs.Table.{count_fits, owned_at, row_at, map_of}
use Rattle.theory.proofs.Below.{list_length, list_at}

module _ (links : List ℕ) (places spans : List ℤ) (m n : ℕ) where
  abbrev M : Map
  M = map_of links places spans m n

  abbrev has : ℕ → Dart
  has d = made (list_below (suc m) (λ i. get_or links (d * link_width + i) 0)) (list_below m (λ x. get_or places (d * place_width + x) (pos 0))) (owned_at spans d)

  pub held-dim : M.dim ≡ m
  unfolding map_of
  held-dim = refl

  pub held-count : count M ≡ n
  unfolding map_of
  held-count = list_length n has

  held-dart : (d : ℕ) → d < n → dart M d ≡ has d
  unfolding map_of
  held-dart d h = list_at n has no_dart d h

  pub held-axes : (d : ℕ) → d < n → length (dart M d).links ≡ suc m
  held-axes d h = ap (λ x. length x.links) (held-dart d h) ∙ list_length (suc m) (λ i. get_or links (d * link_width + i) 0)

  pub held_link : (i d : ℕ) → d < n → i ≤ m → link M i d ≡ get_or links (d * link_width + i) 0
  held_link i d h l = ap (λ x. get_or x.links i 0) (held-dart d h) ∙ list_at (suc m) (λ i. get_or links (d * link_width + i) 0) 0 i (suc-le-suc l)

  pub held_place : (d : ℕ) → d < n → place M d ≡ list_below m (λ x. get_or places (d * place_width + x) (pos 0))
  held_place d h = ap (λ x. x.place) (held-dart d h)

  pub held-owned : (d : ℕ) → d < n → owned M d ≡ owned_at spans d
  held-owned d h = ap owned_of (held-dart d h)

  pub held-row : (d : ℕ) → d < n → row M d ≡ row_at spans d
  held-row d h = ap spans_of (held-owned d h)

-- without their objects a row's spans are as many
pub spans-length : (r : List Owned) → length (spans_of r) ≡ length r
spans-length [] = refl
spans-length (x ∷ r) = ap suc (spans-length r)

pub row-short : (spans : List ℤ) (d : ℕ) → row_fits (row_at spans d) ≡ true
unfolding owned_at
row-short spans d =
    let z = get_or spans (d * span_width) (pos 0) in
    ap (λ (k : ℕ). leb k span_limit) (spans-length (owned_at spans d) ∙ list_length (cond (count_fits z) (nat_abs z) 0) _) ∙ le-leb (cond (count_fits z) (nat_abs z) 0) span_limit (within z)
  where
    within : (z : ℤ) → cond (count_fits z) (nat_abs z) 0 ≤ span_limit
    within (pos a) = go (leb 0 a) (leb a span_limit) refl
      where
        go : (x y : Bool) → leb a span_limit ≡ y → cond (x && y) a 0 ≤ span_limit
        go true true e = leb-true a span_limit e
        go true false e = zero-le
        go false y e = zero-le
    within (negsuc a) = zero-le
